use Rattle.std.proofs.Common.{◌≡◌, ℕ, List, true, false, Some, ap, sym, subst, ◌∙◌}
use Rattle.hart_steps.specs.Asked.{Asks}
use Rattle.part_workers.proofs.FirstTurn.{went_first}
use Rattle.part_workers.proofs.Sharing.{absent_of}
use Rattle.part_workers.proofs.first.make_first.Goals as goal

pub returns-clause-goes : goal.returns-clause-goes
returns-clause-goes g c =
    let has = let z = c.if-not-branch.false in c.in_ok-with_slot.ensures.has (cc) in
    let absent = absent_of c.args.state.now.hart (sym c.is_some.ensures ∙ c.if-is_some.false) in
    let lives : c.in-Some.hart.thread.lives ≡ true = let z = c.if-not-hart.false in cc in
    let began : c.in-Some.hart.thread.began ≡ false = let z = c.if-hart.false in cc in
    let asks = subst (λ (file : List ℕ). Asks file c.args.post.now.tid c.in-Some.hart c.ask-request.new.hart c.ask-request.result.0) c.requires.code
    c.ask-request.ensures.asks in
    λ e. went_first c.args.image.now c.args.limits.now c.args.post.now c.args.state.now c.with_slot.new.state c.ask-request.new.hart c.make.new.hart
    c.in-Some.hart c.make.new.watcher c.ask-request.result.0 c.args.part.now c.with_slot.new.part c.make.new.part c.args.seat.now.me.0.log
    c.with_slot.new.seat.me.0.log c.make.new.seat.me.0.log c.with_slot.new.given absent (c.in-Some.is ∙ ap Some c.in-Some.hart-is)
    (λ l q. c.label-label.ensures.label l (c.label-label.ensures.value ∙ q)) lives began asks c.in_ok-make.ensures.made has
