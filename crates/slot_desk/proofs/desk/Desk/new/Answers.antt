use Rattle.std.proofs.Common.{◌∷◌, true, map, ap, ap₂, ◌∙◌, refl, arith}
use Rattle.std.proofs.Math.ListN.{length-replicate}
use Rattle.slot_desk.specs.declared.thread.ThreadState.{ThreadState}
use Rattle.slot_desk.specs.Desks.{ThreadContents}
use Rattle.slot_desk.specs.Threads.{shown, blank_thread}
use Rattle.slot_desk.proofs.KeptLaws.{kept_new, first_made, first_blank, shown_replicate}
use Rattle.slot_desk.proofs.desk.Desk.new.Goals as goal

pub invariant_of-result : goal.invariant_of-result
invariant_of-result c =
    let n = c.args.limits.now.slots in
    let blank = first_blank 1023 (blank_thread n) c.index_mut-main.result.now c.in_ok-threads.threads.items c.in_ok-threads.ensures in
    let old = c.index_mut-main.ensures.value ∙ blank in
    let threads = first_made 1023 (record c.index_mut-main.result.now { lives = true }) (blank_thread n) c.in_ok-threads.threads.items c.in_ok-threads.ensures in
    let slots = c.in_ok-slots.ensures in
    let queue = c.refill.ensures.items in
    let some_harts = c.requires.some_harts in
    let harts = c.requires.harts_have_slots in
    let epochs = c.requires.some_epochs in
    rw (threads, slots, queue) (
      kept_new n c.args.limits.now.harts c.args.limits.now.epochs 1023 (record c.index_mut-main.result.now { lives = true }) refl (omega arith) c.requires.few_slots c.requires.some_harts (omega arith) c.requires.few_epochs (ap (λ (t : ThreadState). record t { lives = true }) old),
      (let wide = c.in_ok-queue.ensures.capacity in let same = c.refill.ensures.capacity in rw length-replicate (omega arith)),
    )

pub returns : goal.returns
returns c =
    let n = c.args.limits.now.slots in
    let threads = first_made 1023 (record c.index_mut-main.result.now { lives = true }) (blank_thread n) c.in_ok-threads.threads.items c.in_ok-threads.ensures in
    let blank = first_blank 1023 (blank_thread n) c.index_mut-main.result.now c.in_ok-threads.threads.items c.in_ok-threads.ensures in
    let old = ap (λ (t : ThreadState). shown 1 (record t { lives = true })) (c.index_mut-main.ensures.value ∙ blank) in
    let seen = ap (map (shown 1)) threads ∙ ap₂ (λ (x : ThreadContents) xs. x ∷ xs) old (shown_replicate 1 1023 (blank_thread n)) in
    let slots = c.in_ok-slots.ensures in
    let queue = c.refill.ensures.items in
    rw (seen, slots, queue) refl
