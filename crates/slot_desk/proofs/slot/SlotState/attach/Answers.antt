use Rattle.std.proofs.Common.{◌≡◌, ℕ, ◌==◌, false, length, ap, sym, subst, ◌∙◌, arith, ne_eqb}
use Rattle.std.proofs.Math.ListN.{length-replicate}
use Rattle.vector_clock.specs.Clocks.{joined}
use Rattle.slot_desk.specs.Desks.{SlotContents}
use Rattle.slot_desk.proofs.JournalLaws.{joined-nothing}
use Rattle.slot_desk.proofs.slot.SlotState.attach.Goals as goal
use Rattle.slot_desk.proofs.slot.SlotState.attach.Goals.{then-was_left, else-was_left}

pub returns-clause-clock : goal.returns-clause-clock
returns-clause-clock c =
    let left = ap (λ (s : SlotContents). s.left) c.self.view_is in
    elim c.if-was_left.branch [
      | then-was_left w ↦
          let some : (c.self.inside.last == 0) ≡ false = ne_eqb c.self.inside.last 0 (λ q. let l = w.if-was_left.true in omega arith) in
          let kept = rw some at left in
          w.clock-is ∙ (w.join.ensures.whole ∙ ap (joined c.args.clock.now) kept)
      | else-was_left w ↦
          let none : c.self.inside.last ≡ 0 = (let l = w.if-was_left.false in omega arith) in
          let kept = rw none at left in
          let long = c.requires.same_slots in
          let same = ap length kept in
          w.clock-is ∙ sym (subst (λ l. joined c.args.clock.now l ≡ c.args.clock.now) kept (joined-nothing c.args.clock.now (length c.self.inside.left) (omega (arith, length-replicate {A = ℕ} (length c.self.inside.left) 0))))
    ]
