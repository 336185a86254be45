use Rattle.std.proofs.Common.{◌∙◌, sym, subst, refl, arith}
use Rattle.trace_parts.specs.Part.{snapshot_of, ArePartsOf, LeadTo}
use Rattle.trace_parts.proofs.RingLaws.{empty_ring}
use Rattle.trace_parts.proofs.ring.Ring.new.Goals as goal

pub returns-clause-sound : goal.returns-clause-sound
returns-clause-sound c =
    empty_ring _ c.requires.words c.requires.parts (omega arith) c.in_ok-words.ensures.items (omega (arith, c.in_ok-words.ensures.capacity)) (subst (ArePartsOf c.args.part_words) (sym c.in_ok-older.ensures.items) tt) (subst (LeadTo (snapshot_of c.new.result)) (sym c.in_ok-older.ensures.items) tt) (omega (arith, c.in_ok-older.ensures.len)) (omega (arith, c.in_ok-older.ensures.capacity)) refl (c.new-3.ensures ∙ sym c.new.ensures)
    (record {
      frames = omega (arith, c.new-3.result.frames.ok.1);
      locks = omega (arith, c.new-3.result.locks.ok.1);
    })
