use Rattle.std.proofs.Common.{◌<◌, length, Some, true, ap, ◌∙◌, refl, arith}
use Rattle.slot_desk.specs.declared.thread.ThreadState.{ThreadState}
use Rattle.slot_desk.specs.Threads.{shown, blank_thread}
use Rattle.slot_desk.proofs.DeskLists.{read_at}
use Rattle.slot_desk.proofs.InsideLaws.{shown_set}
use Rattle.slot_desk.proofs.KeptLaws.{kept_create, not_full, shown_told}
use Rattle.slot_desk.proofs.desk.Desk.create.Goals as goal

pub invariant_of-self : goal.invariant_of-self
invariant_of-self c =
    let d = c.self.inside in
    let few = c.self.invariant.0.few_made in
    let all = c.self.invariant.0.all_threads in
    let inside : d.made < length d.threads.items = omega arith in
    let old = read_at d.threads.items d.made c.index_mut-thread.result.now (blank_thread 0) inside c.index_mut-thread.ensures.value in
    let long = rw (← c.self.view_is) at c.requires.same_slots in (
      kept_create d.harts d.greatest d.made d.live d.era d.threads.items d.slots.items d.queue.items c.tell.new.self c.args.clock.now c.self.invariant.0 c.if-self.false c.if-self-eq-THREADS.false long
          (c.tell.ensures ∙ ap (λ (t : ThreadState). record t { lives = true; told = c.args.clock.now; told_in = d.era }) old),
      c.self.invariant.1,
    )

pub returns-clause-desk : goal.returns-clause-desk
returns-clause-desk c =
    let d = c.self.inside in
    let some = not_full d.harts d.greatest d.made d.live d.era d.threads.items d.slots.items d.queue.items c.self.invariant.0 c.if-self.false c.if-self-eq-THREADS.false in
    let seen = shown_set d.era d.threads.items d.made c.tell.new.self (record { lives = true; told = Some c.args.clock.now }) (ap (shown d.era) c.tell.ensures ∙ shown_told d.era true c.args.clock.now c.index_mut-thread.result.now) in
    rw (← c.self.view_is, some, seen) refl
