use Rattle.std.proofs.Common.{◌∙◌, ap, sym, true, false}
use Rattle.bare_machine.proofs.StepLemmas.{living, step_asked, asked_found, undone, needs_asked}
use Rattle.bare_machine.proofs.machine.Machine.step.Goals.{else-not-has_slot-via-then-not-has_slot+else-not-has_begun, else-not-has_slot-via-else-not-has_slot, else-not-has_slot-2-via-then-not-has_slot-2+else-needs_slot, else-not-has_slot-2-via-else-not-has_slot-2}
use Rattle.bare_machine.proofs.machine.Machine.step.Goals as goal

pub returns-then-needs_slot-clause-ok : goal.returns-then-needs_slot-clause-ok
returns-then-needs_slot-clause-ok c =
    let l = living c.args.self.now c.args.tid c.requires.lives in
    let a = c.ask-request.ensures.asks l.thread l.is in
    elim c.else-not-has_slot.branch [
      | else-not-has_slot-via-then-not-has_slot+else-not-has_begun w ↦ record {
        stays = c.ask-request.ensures.kept (undone a.thread.regs c.ask-request.result (sym (c.needs_slot.ensures a.thread.regs) ∙ c.if-needs_slot.true));
        needy = needs_asked c.args.code.now c.args.self.now c.ask-request.new.self c.args.tid l.thread c.ask-request.result true l.is a (sym (w.has_begun.ensures l.thread l.is) ∙ w.if-not-has_begun.false) (sym c.if-needs_slot.true ∙ c.needs_slot.ensures a.thread.regs);
        slotless = c.if-not-has_slot-2.true;
      }
      | else-not-has_slot-via-else-not-has_slot w ↦ absurd (let z = sym c.if-not-has_slot-2.true ∙ w.if-not-has_slot.false in cc)
    ]

pub returns-clause-ok : goal.returns-clause-ok
returns-clause-ok c =
    let file = c.args.code.now in
    let l = living c.args.self.now c.args.tid c.requires.lives in
    let a = c.ask-request.ensures.asks l.thread l.is in
    let one = step_asked file c.args.self.now c.ask-request.new.self c.args.tid l.thread c.ask-request.result l.is a in
    let two = c.in_ok-serve.ensures.ok a.thread (asked_found file c.args.self.now c.ask-request.new.self c.args.tid l.thread c.ask-request.result l.is a) in
    record {
      step_is = one ∙ (two ∙ ap (λ o. record { world = c.serve.new.self; events = c.serve.new.events; object = o }) (sym (c.object.ensures a.thread.regs)));
      needless = λ slotless. elim c.else-not-has_slot.branch [
        | else-not-has_slot-via-then-not-has_slot+else-not-has_begun w ↦ elim c.else-not-has_slot-2.branch [
          | else-not-has_slot-2-via-then-not-has_slot-2+else-needs_slot v ↦ needs_asked file c.args.self.now c.ask-request.new.self c.args.tid l.thread c.ask-request.result false l.is a (sym (w.has_begun.ensures l.thread l.is) ∙ w.if-not-has_begun.false) (sym v.if-needs_slot.false ∙ v.needs_slot.ensures a.thread.regs)
          | else-not-has_slot-2-via-else-not-has_slot-2 v ↦ absurd (let z = sym slotless ∙ v.if-not-has_slot-2.false in cc)
        ]
        | else-not-has_slot-via-else-not-has_slot w ↦ absurd (let z = sym slotless ∙ w.if-not-has_slot.false in cc)
      ];
    }
