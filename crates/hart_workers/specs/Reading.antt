-- What is read of the desk between two rounds.
use Rattle.std.specs.Prelude.{◌≡◌, ◌↔◌, ◌<◌, ℕ, length, None, Some}
use Rattle.run_record.specs.declared.finished.GuestEnd.{GuestEnd}
use Rattle.run_record.specs.declared.limits.Limits.{Limits}
use Rattle.slot_desk.specs.Desks.{live_of}
use Rattle.turn_orders.specs.Lists.{Each, In}
use Rattle.table_deeds.specs.Listing.{AreApart}
use Rattle.shared_table.specs.declared.object.DeskState.{DeskState}
use Rattle.whole_parts.specs.Dues.{LivesBy, IsEnd, share}
use Rattle.hart_workers.specs.declared.reading.Reading.{Reading}

-- A round is due with that desk, while that budget is left, and each thread's share is that.
pub record IsDue (limits : Limits) (remaining : ℕ) (d : DeskState) (share_is : ℕ) : Type 0 where
  pub goes_on : d.machine.ended ≡ None
  pub some_live : 0 < live_of d.desk
  pub share_of_each : share_is ≡ share limits remaining d
  pub some_given : 0 < share_is

-- Which threads live, how many were made, and whether the run goes on: with which share, or with which end and output.
pub record HasRead (limits : Limits) (remaining : ℕ) (d : DeskState) (r : Reading) : Type 0 where
  pub living : (t : ℕ) → In t r.live.items ↔ LivesBy d t
  pub apart : AreApart r.live.items
  pub born : Each (λ (t : ℕ). t < d.desk.made) r.live.items
  pub made : r.made ≡ length d.machine.made
  pub goes_on : r.end ≡ None → IsDue limits remaining d r.share
  pub ends : (end : GuestEnd) → r.end ≡ Some end → IsEnd limits remaining d end
  pub output : (end : GuestEnd) → r.end ≡ Some end → r.output ≡ d.machine.output
