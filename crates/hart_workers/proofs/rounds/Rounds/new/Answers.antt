use Rattle.std.proofs.Common.{refl}
use Rattle.made_rounds.specs.Made.{first_stand}
use Rattle.hart_workers.proofs.Idle.{idle_first}
use Rattle.hart_workers.proofs.Starting.{watcher_limits, starts, desk_first}
use Rattle.hart_workers.proofs.rounds.Rounds.new.Goals as goal

pub grow-requires : goal.grow-requires
grow-requires c = watcher_limits c.args.limits.now c.requires

pub returns : goal.returns
returns c meets file lay accepted laid =
    let limits = c.args.limits.now in
    starts meets file limits lay _ c.requires accepted laid
    (record { round = refl; era = refl; last_era = refl; base = refl; remaining = refl; entries = c.new.ensures })
    (λ first. c.in_ok-grow.ensures.idle (first_stand limits first) (rw c.new-crew.ensures (idle_first limits first)))
    (c.in_ok-reading.ensures (desk_first file limits) refl refl refl)
