use Rattle.std.proofs.Common.{refl}
use Rattle.offline_audit.proofs.Entries.{greatest-steps}
use Rattle.offline_audit.proofs.heard.tell_all.Goals as goal

pub loop-other-init : goal.loop-other-init
loop-other-init c = λ u.
    let gives = c.into_iter-other-iterator.ensures.into_iter_gives in
    rw (gives.0, greatest-steps c.args.heard.now gives.6 u) refl
