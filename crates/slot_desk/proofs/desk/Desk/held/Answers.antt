use Rattle.std.proofs.Common.{◌≡◌, Some, None, Option, ap, sym, ◌∙◌, refl, eq-eqb, ne_eqb}
use Rattle.slot_desk.specs.declared.slot.Attachment.{Attachment}
use Rattle.slot_desk.specs.Desks.{held_or}
use Rattle.slot_desk.proofs.KeptLaws.{held_hint, held_beyond, hint_within}
use Rattle.slot_desk.proofs.desk.Desk.held.Goals as goal

pub returns-in_default-clause-value : goal.returns-in_default-clause-value
returns-in_default-clause-value c =
    let d = c.self.inside in
    let beyond = rw c.deref.ensures.value at c.in_default.ensures.lookup.3 in
    rw (← c.self.view_is) (sym (held_beyond d.harts d.greatest d.made d.live d.era d.threads.items d.slots.items d.queue.items c.args.tid c.self.invariant.0 beyond))

pub returns-in_default-owner-clause-value : goal.returns-in_default-owner-clause-value
returns-in_default-owner-clause-value c =
    let d = c.self.inside in
    let within = rw c.deref.ensures.value at c.in-Some.ensures.lookup.3.0 in
    let read = rw c.deref.ensures.value at c.in-Some.ensures.lookup.1 in
    let held = held_hint d.harts d.greatest d.made d.live d.era d.threads.items d.slots.items d.queue.items c.args.tid c.in-Some.thread.now c.index.result.now c.self.invariant.0 within read c.index.ensures in
    let owner = sym c.owner.ensures ∙ c.in_default-owner.is in
    rw (← c.self.view_is) (sym (held ∙ ap (λ (o : Option Attachment). held_or c.in-Some.thread.now.slot c.args.tid o None) owner))

pub returns-then-owner-tid-clause-value : goal.returns-then-owner-tid-clause-value
returns-then-owner-tid-clause-value c =
    let d = c.self.inside in
    let within = rw c.deref.ensures.value at c.in-Some.ensures.lookup.3.0 in
    let read = rw c.deref.ensures.value at c.in-Some.ensures.lookup.1 in
    let held = held_hint d.harts d.greatest d.made d.live d.era d.threads.items d.slots.items d.queue.items c.args.tid c.in-Some.thread.now c.index.result.now c.self.invariant.0 within read c.index.ensures in
    let owner = sym c.owner.ensures ∙ c.in-Some-owner.is in
    let here : held_or c.in-Some.thread.now.slot c.args.tid (Some c.in-Some-owner.owner) None ≡ Some (c.in-Some.thread.now.slot, c.in-Some-owner.owner.epoch) = rw (eq-eqb c.in-Some-owner.owner.tid c.args.tid c.if-owner-tid.true) refl in
    rw (← c.self.view_is) (sym (held ∙ (ap (λ (o : Option Attachment). held_or c.in-Some.thread.now.slot c.args.tid o None) owner ∙ here)))

pub returns-else-owner-tid-clause-value : goal.returns-else-owner-tid-clause-value
returns-else-owner-tid-clause-value c =
    let d = c.self.inside in
    let within = rw c.deref.ensures.value at c.in-Some.ensures.lookup.3.0 in
    let read = rw c.deref.ensures.value at c.in-Some.ensures.lookup.1 in
    let held = held_hint d.harts d.greatest d.made d.live d.era d.threads.items d.slots.items d.queue.items c.args.tid c.in-Some.thread.now c.index.result.now c.self.invariant.0 within read c.index.ensures in
    let owner = sym c.owner.ensures ∙ c.in-Some-owner.is in
    let here : held_or c.in-Some.thread.now.slot c.args.tid (Some c.in-Some-owner.owner) None ≡ None = rw (ne_eqb c.in-Some-owner.owner.tid c.args.tid c.if-owner-tid.false) refl in
    rw (← c.self.view_is) (sym (held ∙ (ap (λ (o : Option Attachment). held_or c.in-Some.thread.now.slot c.args.tid o None) owner ∙ here)))

pub returns-then-owner-tid-clause-within : goal.returns-then-owner-tid-clause-within
returns-then-owner-tid-clause-within c =
    let d = c.self.inside in
    let within = rw c.deref.ensures.value at c.in-Some.ensures.lookup.3.0 in
    let read = rw c.deref.ensures.value at c.in-Some.ensures.lookup.1 in
    rw (← c.self.view_is) (hint_within d.harts d.greatest d.made d.live d.era d.threads.items d.slots.items d.queue.items c.args.tid c.in-Some.thread.now c.self.invariant.0 within read)
