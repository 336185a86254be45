use Rattle.offline_audit.specs.Chains.{position_of}
use Rattle.offline_audit.proofs.sweep.precedes.Goals as goal

pub returns : goal.returns
returns c = λ h entries order a b.
    c.tells.ensures h entries (position_of entries c.args.first) (position_of entries c.args.second) a.event b.event order a.at a.made b.at b.made
