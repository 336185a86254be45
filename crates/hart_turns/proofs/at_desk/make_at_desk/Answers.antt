use Rattle.hart_turns.proofs.OneEvent.{heard_map}
use Rattle.hart_turns.proofs.DeskTurns.{whole_of, made_at_desk}
use Rattle.hart_turns.proofs.at_desk.make_at_desk.Goals as goal

pub returns-then-settle-clause-made : goal.returns-then-settle-clause-made
returns-then-settle-clause-made c =
    let kept = c.settle.ensures.same (let z = c.if-settle.true in cc) in
    let same = c.requires.table.laid_out.same_limits in
    heard_map _ _ c.serve_and_hear-heard.result
    (λ spent h. made_at_desk c.args.image.now c.args.limits.now c.args.shared.now.layout c.args.tid c.args.given.now c.args.base c.args.request.now c.args.hart.now
    c.serve_and_hear-heard.new.hart c.args.watcher.now c.serve_and_hear-heard.new.watcher c.serve_and_hear-heard.new.events c.args.findings.now.checks
    c.serve_and_hear-heard.new.findings.checks c.args.findings.now.waiting.items c.serve_and_hear-heard.new.findings.waiting.items c.args.seat.now.me c.serve_and_hear-heard.new.seat.me spent c.requires.uses same c.args.place.now
    c.serve_and_hear-heard.new.place c.settle.new.place kept
    (whole_of c.args.shared.now.layout c.args.limits.now c.args.place.now same c.requires.place) c.settle.ensures.whole h)
    c.serve_and_hear-heard.ensures.heard
