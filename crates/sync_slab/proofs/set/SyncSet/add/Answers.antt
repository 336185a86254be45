use Rattle.std.proofs.Common.{false, length, sym, ◌∙◌, ap, subst}
use Rattle.std.specs.Prelude.{Option, List, ℕ}
use Rattle.sync_slab.specs.Objects.{SyncObjects}
use Rattle.sync_slab.specs.Inside.{IsSound}
use Rattle.sync_slab.proofs.SetLemmas.{sound_objects, place_of-absent, added_puts, added_sound}
use Rattle.sync_slab.proofs.set.SyncSet.add.Goals as goal

pub add-requires-clause-absent : goal.add-requires-clause-absent
add-requires-clause-absent c =
    let s = c.self.inside in
    place_of-absent c.args.self.now s.slots s.objects s.index _ c.args.id c.self.view_is c.requires.absent

pub invariant_of-self : goal.invariant_of-self
invariant_of-self c =
    let s = c.self.inside in
    let long = ap (λ (clock : List ℕ). length clock) c.copy_from.ensures ∙ (c.requires.slots ∙ sym (ap (λ (v : SyncObjects). v.slots) c.self.view_is)) in
    subst (λ (kept : Option (List ℕ)). IsSound s.slots c.insert_reserved-at.new.self c.add.new.index kept false) (sym c.take.ensures.after)
    (added_sound s.slots s.objects c.insert_reserved-at.new.self s.index c.add.new.index s.kept_clock s.has_spare c.args.id c.insert_reserved-at.result (record { era = c.args.era; clock = c.copy_from.new.self }) c.self.invariant c.insert_reserved-at.ensures.was_vacant c.insert_reserved-at.ensures.updates c.add.ensures.there c.add.ensures.unique c.insert_reserved-at.ensures.len c.add.ensures.len long)

pub returns-clause-puts : goal.returns-clause-puts
returns-clause-puts c =
    let s = c.self.inside in
    added_puts s.slots s.objects c.insert_reserved-at.new.self s.index c.add.new.index s.kept_clock s.has_spare c.args.id c.insert_reserved-at.result (record { era = c.args.era; clock = c.copy_from.new.self }) c.self.invariant c.insert_reserved-at.ensures.was_vacant c.insert_reserved-at.ensures.updates c.add.ensures.there c.args.self.now _ _ _ c.self.view_is (ap (λ (clock : List ℕ). record { era = c.args.era; clock = clock }) c.copy_from.ensures)

pub returns-clause-objects : goal.returns-clause-objects
returns-clause-objects c =
    let s = c.self.inside in
    sound_objects s.slots c.insert_reserved-at.new.self c.add.new.index c.take.new.self false _ (invariant_of-self c)
