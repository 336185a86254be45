use Rattle.hart_turns.proofs.OneEvent.{heard_map}
use Rattle.hart_turns.proofs.AtStripes.{made_at_stripe}
use Rattle.hart_turns.proofs.make.make_at_stripe.Goals as goal

pub returns-clause-made : goal.returns-clause-made
returns-clause-made c =
    let served = let z = c.if-not-branch.false in c.in_ok-serve_at_place.ensures.served (cc) in
    heard_map _ _ c.hear_told.result
    (λ spent h. made_at_stripe c.args.image.now c.args.limits.now c.args.shared.now.layout c.args.number c.args.tid c.args.given.now c.args.base c.args.request.now
    c.args.hart.now c.serve_at_place.new.hart c.args.watcher.now c.hear_told.new.watcher c.serve_at_place.new.events c.args.findings.now.checks c.hear_told.new.findings.checks
    c.args.findings.now.waiting.items c.hear_told.new.findings.waiting.items
    c.args.seat.now.me c.hear_told.new.seat.me spent c.requires.uses c.requires.table.laid_out.same_limits c.args.place.now c.serve_at_place.new.place
    c.hear_told.new.place c.requires.place served c.hear_told.ensures.place h)
    c.hear_told.ensures.heard
