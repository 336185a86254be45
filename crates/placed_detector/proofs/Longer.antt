-- What stood at a history's end stands there in a longer one.
use Rattle.std.proofs.Common.{◌≡◌, ◌≤◌, ℕ, List, ◌++◌, length, sym, subst, ◌∙◌, arith}
use Rattle.run_laws.specs.Moments.{Moment, items}
use Rattle.run_laws.proofs.PresentLaw.{labels_stay, clocks_stay, queue_stay, trace_stay, frames_stay, locks_stay}
use Rattle.bare_machine.specs.World.{World}
use Rattle.turn_orders.specs.Machine.{State}
use Rattle.place_clocks.specs.Holds.{Whole, HasClocks, whole_at}
use Rattle.joint_turns.specs.Joint.{Value, clocks_of}
use Rattle.watched_turns.specs.Turns.{Local, joint_of}
use Rattle.watched_turns.specs.Along.{IsWatched}

whole_stays : (g slots : ℕ) (h k : List Moment) → whole_at g slots (items (h ++ k)) (length h) ≡ whole_at g slots (items h) (length h)
whole_stays g slots h k =
    let le : length h ≤ length h = omega arith in
    λ i. record { labels = labels_stay g h k (length h) le i; clocks = clocks_stay g h k (length h) le i; queue = queue_stay g slots h k (length h) le i }

pub watched_stays : (file : List ℕ) (harts g slots : ℕ) (w : World) (h k : List Moment) (m : State Local Value) → IsWatched file harts g slots w h
    (length h) m → IsWatched file harts g slots w (h ++ k) (length h) m
watched_stays file harts g slots w h k m j =
    let le : length h ≤ length h = omega arith in
    record {
      joint = record {
        bare = j.joint.bare;
        clocks = subst (λ (x : Whole). HasClocks x (clocks_of (joint_of m)))
            (sym (whole_stays g slots h k)) j.joint.clocks;
      };
      watches = λ t. record {
        frames = (j.watches t).frames ∙ sym (frames_stay h k (length h) t le);
        locks = (j.watches t).locks ∙ sym (locks_stay h k (length h) t le);
        trace = (j.watches t).trace ∙ sym (trace_stay g h k (length h) t le);
      };
    }
