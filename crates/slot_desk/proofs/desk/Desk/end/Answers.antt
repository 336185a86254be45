use Rattle.std.proofs.Common.{◌≡◌, ◌==◌, ◌<◌, ◌≤◌, length, Some, true, false, ap, sym, subst, ◌∙◌, refl, arith, eq-eqb, ne_eqb}
use Rattle.std.proofs.Math.ListN.{length-set}
use Rattle.slot_desk.specs.declared.thread.ThreadState.{ThreadState}
use Rattle.slot_desk.specs.Desks.{SlotContents, DeskContents, no_slot}
use Rattle.slot_desk.specs.Steps.{ended_slot, after_end}
use Rattle.slot_desk.specs.Threads.{shown, blank_thread}
use Rattle.slot_desk.proofs.DeskLists.{read_at}
use Rattle.slot_desk.proofs.InsideLaws.{held_at, long_left, alive_at, shown_set}
use Rattle.slot_desk.proofs.KeptLaws.{IsGivenBack, kept_end, given_back_last, given_back_more, shown_told}
use Rattle.slot_desk.proofs.SeenLaws.{seen_end}
use Rattle.slot_desk.proofs.desk.Desk.end.Goals as goal
use Rattle.slot_desk.proofs.desk.Desk.end.Goals.{then-not-is_last, else-not-is_last}

pub get-epoch-requires : goal.get-epoch-requires
get-epoch-requires c =
    let holds = rw (← c.self.view_is) at (sym c.held.ensures.value ∙ c.in-Some.is) in
    let within = (held_at c.self.inside c.args.tid c.in-Some.sid c.in-Some.field-0-1 c.self.invariant holds).within in
    let long = rw (← c.self.view_is) at c.requires.same_slots in
    omega arith

pub index_mut-slot-requires : goal.index_mut-slot-requires
index_mut-slot-requires c =
    let holds = rw (← c.self.view_is) at (sym c.held.ensures.value ∙ c.in-Some.is) in
    let within = (held_at c.self.inside c.args.tid c.in-Some.sid c.in-Some.field-0-1 c.self.invariant holds).within in
    omega (arith, c.self.inside.slots.ok.0)

pub end-requires-clause-owned : goal.end-requires-clause-owned
end-requires-clause-owned c =
    let holds = rw (← c.self.view_is) at (sym c.held.ensures.value ∙ c.in-Some.is) in
    let held = held_at c.self.inside c.args.tid c.in-Some.sid c.in-Some.field-0-1 c.self.invariant holds in
    let here = read_at c.self.inside.slots.items c.in-Some.sid c.index_mut-slot.result.now no_slot held.within c.index_mut-slot.ensures.value in
    let owner = ap (λ (s : SlotContents). s.owner) here ∙ held.owned in
    let epochs = rw (sym c.held.ensures.value ∙ c.in-Some.is) at c.requires.epoch in
    let later = epochs.0 in
    let since = held.since_is in
    let epoch = c.get-epoch.ensures in
    rw owner (omega arith)

pub end-requires-clause-same_slots : goal.end-requires-clause-same_slots
end-requires-clause-same_slots c =
    let holds = rw (← c.self.view_is) at (sym c.held.ensures.value ∙ c.in-Some.is) in
    let held = held_at c.self.inside c.args.tid c.in-Some.sid c.in-Some.field-0-1 c.self.invariant holds in
    let here = read_at c.self.inside.slots.items c.in-Some.sid c.index_mut-slot.result.now no_slot held.within c.index_mut-slot.ensures.value in
    let long = rw (← c.self.view_is) at c.requires.same_slots in
    subst (λ (s : SlotContents). length c.args.clock.now ≡ length s.left) (sym here) (long ∙ sym (long_left c.self.inside c.in-Some.sid c.self.invariant held.within))

pub push_back_reserved-requires : goal.push_back_reserved-requires
push_back_reserved-requires c =
    let holds = rw (← c.self.view_is) at (sym c.held.ensures.value ∙ c.in-Some.is) in
    (held_at c.self.inside c.args.tid c.in-Some.sid c.in-Some.field-0-1 c.self.invariant holds).room

pub invariant_of-self : goal.invariant_of-self
invariant_of-self c =
    let d = c.self.inside in
    let holds = rw (← c.self.view_is) at (sym c.held.ensures.value ∙ c.in-Some.is) in
    let held = held_at d c.args.tid c.in-Some.sid c.in-Some.field-0-1 c.self.invariant holds in
    let here = read_at d.slots.items c.in-Some.sid c.index_mut-slot.result.now no_slot held.within c.index_mut-slot.ensures.value in
    let lives = rw (← c.self.view_is) at c.requires.live in
    let inside = (alive_at d c.args.tid c.self.invariant lives).1 in
    let long = rw (← c.self.view_is) at c.requires.same_slots in
    let epochs = rw (sym c.held.ensures.value ∙ c.in-Some.is) at c.requires.epoch in
    elim c.if-not-is_last.branch [
      | then-not-is_last w ↦
          rw w.self-inside-is
          (let value = rw w.self-inside-is at c.index_mut-thread.ensures.value in
          let told = rw w.self-inside-is at c.tell.ensures in
          let old = read_at d.threads.items c.args.tid c.index_mut-thread.result.now (blank_thread 0) inside value in
          let more = w.if-not-is_last.true in
          let most : c.get-epoch.result ≤ d.greatest = (let e = c.get-epoch.ensures in let l = (rw (← c.self.view_is) at epochs).1 in omega arith) in
          let below : c.get-epoch.result < d.greatest = omega arith in
          let last : (c.get-epoch.result == d.greatest) ≡ false = ne_eqb c.get-epoch.result d.greatest more in
          let new = rw last at c.end.ensures in
          let back = subst (λ q. IsGivenBack d.greatest c.get-epoch.result c.in-Some.sid false d.queue.items q) (sym w.push_back_reserved.ensures.items) (given_back_more d.greatest c.get-epoch.result c.in-Some.sid d.queue.items held.alone below) in (
            kept_end d.harts d.greatest d.made d.live d.era d.threads.items d.slots.items d.queue.items w.push_back_reserved.new.self.items c.args.tid c.tell.new.self c.in-Some.sid c.in-Some.field-0-1 c.get-epoch.result false c.args.clock.now c.end.new.self c.self.invariant.0 lives holds long back
                (told ∙ ap (λ (t : ThreadState). record t { lives = false; told = c.args.clock.now; told_in = d.era }) old) (new ∙ ap (ended_slot c.get-epoch.result false c.args.clock.now) here),
            (let wide = c.self.invariant.1 in let same = w.push_back_reserved.ensures.capacity in rw length-set (omega arith)),
          ))
      | else-not-is_last w ↦
          rw w.self-inside-is
          (let value = rw w.self-inside-is at c.index_mut-thread.ensures.value in
          let told = rw w.self-inside-is at c.tell.ensures in
          let old = read_at d.threads.items c.args.tid c.index_mut-thread.result.now (blank_thread 0) inside value in
          let last : (c.get-epoch.result == d.greatest) ≡ true = eq-eqb c.get-epoch.result d.greatest w.if-not-is_last.false in
          let new = rw last at c.end.ensures in (
            kept_end d.harts d.greatest d.made d.live d.era d.threads.items d.slots.items d.queue.items d.queue.items c.args.tid c.tell.new.self c.in-Some.sid c.in-Some.field-0-1 c.get-epoch.result true c.args.clock.now c.end.new.self c.self.invariant.0 lives holds long (given_back_last d.greatest c.get-epoch.result c.in-Some.sid d.queue.items held.alone)
                (told ∙ ap (λ (t : ThreadState). record t { lives = false; told = c.args.clock.now; told_in = d.era }) old) (new ∙ ap (ended_slot c.get-epoch.result true c.args.clock.now) here),
            rw length-set c.self.invariant.1,
          ))
    ]

pub returns : goal.returns
returns c =
    let d = c.self.inside in
    let holds = rw (← c.self.view_is) at (sym c.held.ensures.value ∙ c.in-Some.is) in
    let held = held_at d c.args.tid c.in-Some.sid c.in-Some.field-0-1 c.self.invariant holds in
    let here = read_at d.slots.items c.in-Some.sid c.index_mut-slot.result.now no_slot held.within c.index_mut-slot.ensures.value in
    elim c.if-not-is_last.branch [
      | then-not-is_last w ↦
          rw w.self-inside-is
          (let told = rw w.self-inside-is at c.tell.ensures in
          let seen = shown_set d.era d.threads.items c.args.tid c.tell.new.self (record { lives = false; told = Some c.args.clock.now }) (ap (shown d.era) told ∙ shown_told d.era false c.args.clock.now c.index_mut-thread.result.now) in
          let last : (c.get-epoch.result == d.greatest) ≡ false = ne_eqb c.get-epoch.result d.greatest w.if-not-is_last.true in
          let new = rw last at c.end.ensures in
          seen_end d.harts d.greatest d.made d.era d.threads.items c.tell.new.self d.slots.items d.queue.items w.push_back_reserved.new.self.items c.args.tid c.in-Some.sid c.in-Some.field-0-1 c.get-epoch.result false c.args.clock.now c.end.new.self holds (sym c.get-epoch.ensures) last w.push_back_reserved.ensures.items (new ∙ ap (ended_slot c.get-epoch.result false c.args.clock.now) here) seen
          ∙ ap (λ (x : DeskContents). after_end x c.args.tid c.args.clock.now) c.self.view_is)
      | else-not-is_last w ↦
          rw w.self-inside-is
          (let told = rw w.self-inside-is at c.tell.ensures in
          let seen = shown_set d.era d.threads.items c.args.tid c.tell.new.self (record { lives = false; told = Some c.args.clock.now }) (ap (shown d.era) told ∙ shown_told d.era false c.args.clock.now c.index_mut-thread.result.now) in
          let last : (c.get-epoch.result == d.greatest) ≡ true = eq-eqb c.get-epoch.result d.greatest w.if-not-is_last.false in
          let new = rw last at c.end.ensures in
          seen_end d.harts d.greatest d.made d.era d.threads.items c.tell.new.self d.slots.items d.queue.items d.queue.items c.args.tid c.in-Some.sid c.in-Some.field-0-1 c.get-epoch.result true c.args.clock.now c.end.new.self holds (sym c.get-epoch.ensures) last refl (new ∙ ap (ended_slot c.get-epoch.result true c.args.clock.now) here) seen
          ∙ ap (λ (x : DeskContents). after_end x c.args.tid c.args.clock.now) c.self.view_is)
    ]
