use Rattle.part_workers.proofs.AtDesk.{on_map}
use Rattle.part_workers.proofs.Resting.{a_rest}
use Rattle.part_workers.proofs.rest.tell_rest.Goals as goal

pub returns : goal.returns
returns c =
    on_map _ _ c.tell_gathered.result (λ told. a_rest c.args.post.now c.args.part.now c.tell_gathered.new.self c.in_ok-stamp.stamp c.if-part-eq0.false
    c.in_ok-stamp.ensures told) c.tell_gathered.ensures
