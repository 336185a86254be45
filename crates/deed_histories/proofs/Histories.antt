-- The entries of rounds of deeds from the first state on.
use Rattle.std.proofs.Common.{◌≡◌, ℕ, List, [], refl, sym}
use Rattle.std.specs.Prelude.{Ok}
use Rattle.run_record.specs.declared.limits.Limits.{Limits}
use Rattle.elf_image.specs.File.{image_of}
use Rattle.run_laws.specs.Labels.{labels}
use Rattle.bare_machine.specs.World.{start}
use Rattle.turn_orders.specs.Machine.{State}
use Rattle.turn_orders.specs.LineUp.{Stamped, plain}
use Rattle.turn_histories.specs.Rounds.{first_stamped}
use Rattle.placed_detector.specs.Standing.{Hand, Held}
use Rattle.race_core.specs.Watched.{AreWatcherLimits}
use Rattle.race_core.specs.History.{era_now}
use Rattle.placed_detector.proofs.First.{first_stands}
use Rattle.deed_histories.specs.Lines.{StandsStamped}
use Rattle.deed_histories.specs.Rounds.{HandRound, AreHandRounds, FollowsRounds, AreFirstStamped}
use Rattle.deed_histories.proofs.Rounds.{follows_rounds}

first_era : (g : ℕ) → era_now g [] ≡ 0
unfolding labels
first_era g = refl

module _ (file : List ℕ) (limits : Limits) (ranges : AreWatcherLimits limits) (c : State (Stamped Hand) (Stamped Held)) (are : AreFirstStamped file limits c) where
  first_stamped_stands : StandsStamped file limits c (first_stamped file limits.slots) (start file limits.harts) []
  first_stamped_stands = record {
    standing = first_stands file limits ranges (plain c) are.first;
    locals = λ t. sym (are.threads t);
    values = λ k. sym (are.places k);
  }

  pub from_first : (rs : List HandRound) → image_of file ≡ Ok file → AreHandRounds file limits 0 0 0 c rs →
      FollowsRounds file limits 0 0 0 c (first_stamped file limits.slots) rs
  from_first rs ok all =
      follows_rounds file limits ok rs c (first_stamped file limits.slots) (start file limits.harts) [] 0 0 0 first_stamped_stands
      (first_era limits.epochs) all
