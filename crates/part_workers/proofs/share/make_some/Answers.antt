use Rattle.std.proofs.Common.{◌≡◌, true, Some, ap, ◌∙◌}
use Rattle.part_workers.proofs.AtDesk.{ok_map}
use Rattle.part_workers.proofs.Sharing.{goes_plain}
use Rattle.part_workers.proofs.share.make_some.Goals as goal

pub returns-else-not-hart-clause-goes : goal.returns-else-not-hart-clause-goes
returns-else-not-hart-clause-goes c =
    let lives : c.in-Some.hart.thread.lives ≡ true = let z = c.if-not-hart.false in cc in
    ok_map _ _ c.make_plain.result (λ n x. goes_plain c.args.code.now c.in-Some.hart c.make_plain.new.hart c.args.state.now c.args.part.now
    c.make_plain.new.part n (c.in-Some.is ∙ ap Some c.in-Some.hart-is) lives x.1) c.make_plain.ensures
