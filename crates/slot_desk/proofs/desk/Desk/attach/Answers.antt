use Rattle.std.proofs.Common.{◌≡◌, ◌<◌, length, set, ap, sym, subst, ◌∙◌, arith, true, max}
use Rattle.std.proofs.Math.ListN.{length-set}
use Rattle.std.proofs.Math.Seq.{map-set_same}
use Rattle.std.proofs.lemmas.Simd.{length-zip2}
use Rattle.slot_desk.specs.Desks.{SlotContents, DeskContents, is_free, no_slot}
use Rattle.slot_desk.specs.Steps.{attached_slot, after_attach}
use Rattle.slot_desk.specs.Threads.{shown, blank_thread}
use Rattle.slot_desk.proofs.DeskLists.{read_at}
use Rattle.slot_desk.proofs.InsideLaws.{front_of, long_left, alive_at}
use Rattle.slot_desk.proofs.KeptLaws.{kept_attach}
use Rattle.slot_desk.proofs.SeenLaws.{seen_attach}
use Rattle.slot_desk.proofs.desk.Desk.attach.Goals as goal

pub index_mut-slot-requires : goal.index_mut-slot-requires
index_mut-slot-requires c =
    let f = (front_of c.self.inside c.in-Some.sid c.pop_front.new.self.items c.self.invariant c.in-Some.ensures.items).within in
    omega (arith, c.self.inside.slots.ok.0)

pub attach-epoch-requires-clause-free : goal.attach-epoch-requires-clause-free
attach-epoch-requires-clause-free c =
    let f = front_of c.self.inside c.in-Some.sid c.pop_front.new.self.items c.self.invariant c.in-Some.ensures.items in
    let here = read_at c.self.inside.slots.items c.in-Some.sid c.index_mut-slot.result.now no_slot f.within c.index_mut-slot.ensures.value in
    subst (λ (s : SlotContents). is_free s ≡ true) (sym here) f.free

pub attach-epoch-requires-clause-below : goal.attach-epoch-requires-clause-below
attach-epoch-requires-clause-below c =
    let f = front_of c.self.inside c.in-Some.sid c.pop_front.new.self.items c.self.invariant c.in-Some.ensures.items in
    let here = read_at c.self.inside.slots.items c.in-Some.sid c.index_mut-slot.result.now no_slot f.within c.index_mut-slot.ensures.value in
    let below = f.below in
    let few = c.self.invariant.0.few_epochs in
    subst (λ (s : SlotContents). s.last < 65535) (sym here) (omega arith)

pub attach-epoch-requires-clause-room : goal.attach-epoch-requires-clause-room
attach-epoch-requires-clause-room c =
    let f = front_of c.self.inside c.in-Some.sid c.pop_front.new.self.items c.self.invariant c.in-Some.ensures.items in
    let here = read_at c.self.inside.slots.items c.in-Some.sid c.index_mut-slot.result.now no_slot f.within c.index_mut-slot.ensures.value in
    subst (λ (s : SlotContents). length s.journal < 1279) (sym here) f.journal

pub attach-epoch-requires-clause-same_slots : goal.attach-epoch-requires-clause-same_slots
attach-epoch-requires-clause-same_slots c =
    let f = front_of c.self.inside c.in-Some.sid c.pop_front.new.self.items c.self.invariant c.in-Some.ensures.items in
    let here = read_at c.self.inside.slots.items c.in-Some.sid c.index_mut-slot.result.now no_slot f.within c.index_mut-slot.ensures.value in
    let long = rw (← c.self.view_is) at c.requires.same_slots in
    subst (λ (s : SlotContents). length c.args.clock.now ≡ length s.left) (sym here) (long ∙ sym (long_left c.self.inside c.in-Some.sid c.self.invariant f.within))

pub set-requires : goal.set-requires
set-requires c =
    let f = front_of c.self.inside c.in-Some.sid c.pop_front.new.self.items c.self.invariant c.in-Some.ensures.items in
    let here = read_at c.self.inside.slots.items c.in-Some.sid c.index_mut-slot.result.now no_slot f.within c.index_mut-slot.ensures.value in
    let long = rw (← c.self.view_is) at c.requires.same_slots in
    let left = ap (λ (s : SlotContents). length s.left) here ∙ long_left c.self.inside c.in-Some.sid c.self.invariant f.within in
    let all = length-zip2 max c.args.clock.now c.index_mut-slot.result.now.left (long ∙ sym left) in
    let within = f.within in
    rw c.attach-epoch.ensures.clock (omega arith)

pub invariant_of-self-2 : goal.invariant_of-self-2
invariant_of-self-2 c =
    let d = c.self.inside in
    let f = front_of d c.in-Some.sid c.pop_front.new.self.items c.self.invariant c.in-Some.ensures.items in
    let here = read_at d.slots.items c.in-Some.sid c.index_mut-slot.result.now no_slot f.within c.index_mut-slot.ensures.value in
    let none = rw (← c.self.view_is) at c.requires.unheld in
    let lives = rw (← c.self.view_is) at c.requires.live in
    let old = read_at d.threads.items c.args.tid c.index_mut-thread.result.now (blank_thread 0) (alive_at d c.args.tid c.self.invariant lives).1 c.index_mut-thread.ensures.value in (
      kept_attach d.harts d.greatest d.made d.live d.era d.threads.items d.slots.items d.queue.items c.pop_front.new.self.items c.args.tid c.index_mut-thread.result.now c.in-Some.sid c.attach-epoch.new.self c.self.invariant.0 c.in-Some.ensures.items none lives old (c.attach-epoch.ensures.slot ∙ ap (attached_slot c.args.tid) here),
      (let wide = c.self.invariant.1 in let same = c.pop_front.ensures.capacity in rw length-set (omega arith)),
    )

pub returns-clause-none : goal.returns-clause-none
returns-clause-none c =
    let f = front_of c.self.inside c.in-Some.sid c.pop_front.new.self.items c.self.invariant c.in-Some.ensures.items in
    (λ e. absurd (cc), λ all. absurd (let z = (rw (← c.self.view_is) at all) c.in-Some.sid in let y = f.free in cc))

pub returns-clause-desk : goal.returns-clause-desk
returns-clause-desk c =
    let d = c.self.inside in
    let f = front_of d c.in-Some.sid c.pop_front.new.self.items c.self.invariant c.in-Some.ensures.items in
    let here = read_at d.slots.items c.in-Some.sid c.index_mut-slot.result.now no_slot f.within c.index_mut-slot.ensures.value in
    let same = map-set_same (shown d.era) d.threads.items c.args.tid (record c.index_mut-thread.result.now { slot = c.in-Some.sid }) c.index_mut-thread.result.now (ap (shown d.era) c.index_mut-thread.ensures.value) in
    seen_attach d.harts d.greatest d.made d.era d.threads.items (set d.threads.items c.args.tid (record c.index_mut-thread.result.now { slot = c.in-Some.sid })) d.slots.items d.queue.items c.pop_front.new.self.items c.args.tid c.in-Some.sid c.attach-epoch.new.self c.in-Some.ensures.items (c.attach-epoch.ensures.slot ∙ ap (attached_slot c.args.tid) here) same
    ∙ ap (λ (x : DeskContents). after_attach x c.args.tid) c.self.view_is
