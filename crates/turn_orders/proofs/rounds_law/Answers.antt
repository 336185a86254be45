use Rattle.turn_orders.proofs.Rounds.{follows, are_stamped, all_sorted}
use Rattle.turn_orders.proofs.rounds_law.Goals as goal

pub returns : goal.returns
returns g c turn between local_stamp value_stamp m rs w h =
    let f = follows turn between local_stamp value_stamp w 0 m rs h in
    (f.0, f.1, (all_sorted turn between local_stamp value_stamp w 0 m rs h).0, are_stamped turn between local_stamp value_stamp w 0 m rs h)
