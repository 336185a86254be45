-- What workers and places begin with stands before any history.
use Rattle.std.proofs.Common.{◌≡◌, ℕ, zero, suc, false, Option, Some, None, List, [], get_or, sym, ap, subst, ◌∙◌}
use Rattle.std.specs.Prelude.{replicate}
use Rattle.run_record.specs.declared.limits.Limits.{Limits}
use Rattle.run_laws.specs.Moments.{items}
use Rattle.run_laws.specs.Labels.{labels}
use Rattle.run_laws.specs.Clocks.{clocks}
use Rattle.bare_machine.specs.World.{start}
use Rattle.bare_machine.specs.Memory.{stripe}
use Rattle.slot_desk.specs.declared.slot.Attachment.{Attachment}
use Rattle.slot_desk.specs.Desks.{DeskContents, slot_of, no_slot, fresh_slot}
use Rattle.slot_desk.specs.History.{IsDeskAt}
use Rattle.slot_desk.proofs.HistoryLaw.{at_first}
use Rattle.sync_slab.proofs.ChannelLaws.{keeps-empty}
use Rattle.turn_orders.specs.Machine.{State}
use Rattle.race_core.specs.Watched.{AreWatcherLimits}
use Rattle.race_core.specs.History.{IsWatcherAt}
use Rattle.race_core.proofs.FirstLaws.{first}
use Rattle.race_core.proofs.BeyondLaws.{within_first}
use Rattle.watched_turns.specs.Turns.{first_state}
use Rattle.watched_turns.proofs.Run.{first_watched}
use Rattle.thread_events.specs.Standing.{Stands, is_kept_at}
use Rattle.placed_detector.specs.Standing.{Hand, Held, kept_of, Standing}
use Rattle.placed_detector.specs.First.{AreFirst}

none_owned : (n slots sid : ℕ) (a : Attachment) → (get_or (replicate n (fresh_slot slots)) sid no_slot).owner ≡ Some a → ⊥
none_owned zero slots sid a q = cc
none_owned (suc n) slots zero a q = cc
none_owned (suc n) slots (suc sid) a q = none_owned n slots sid a q

none_given : (told : Option (List ℕ)) → ◌≡◌ {A = Option (Option (List ℕ))} None (Some told) → ⊥
none_given told q = cc

module _ (file : List ℕ) (limits : Limits) (ranges : AreWatcherLimits limits) (c : State Hand Held) (are : AreFirst file limits c) where
  kept_first : Stands limits stripe (λ t. false) [] (kept_of c)
  unfolding labels clocks
  kept_first = record {
    desk = subst (λ (d : DeskContents). IsDeskAt limits.epochs limits.slots (items []) 0 d) (sym are.desk_is) (at_first limits (items []));
    objects = λ k. keeps-empty (is_kept_at stripe k) 0 (c.value k).sync (are.objects k);
    object_slots = are.slots;
    watchers = λ t. subst (λ (l : Hand). IsWatcherAt limits [] t l.watched) (sym (are.hands t)) (first limits [] t ranges (λ i by. by));
    settled = λ sid a owner. absurd (none_owned limits.slots limits.slots sid a
        (subst (λ (d : DeskContents). (slot_of d sid).owner ≡ Some a) are.desk_is owner));
    within = within_first limits.epochs limits.slots;
  }

  pub first_stands : Standing file limits c (first_state file limits.slots) (start file limits.harts) []
  first_stands = record {
    watched = first_watched file limits.harts limits.epochs limits.slots [];
    leaving = λ t. false;
    kept = kept_first;
    given = λ t told q. absurd (none_given told (ap (λ (l : Hand). l.given) (sym (are.hands t)) ∙ q));
    locals = λ t. ap (λ (l : Hand). l.bare) (sym (are.hands t));
    values = λ k. sym (are.bare k);
  }
