-- The laws of watchers, by the names that they have here.
use Rattle.std.proofs.Common.{◌≡◌, ℕ, suc, ◌<◌, ◌≤◌, Bool, false, Some, None, List, [], ◌∷◌, ◌++◌, length, get_or}
use Rattle.std.specs.Prelude.{slice_index}
use Rattle.run_record.specs.declared.event.Event.{Event}
use Rattle.run_record.specs.declared.event.Event.TheVariants.{End}
use Rattle.run_record.specs.declared.entry.Label.{Label}
use Rattle.run_record.specs.declared.entry.DeskNote.TheVariants.{Nothing, Attach, Leave}
use Rattle.run_record.specs.declared.limits.Limits.{Limits}
use Rattle.run_laws.specs.Moments.{Does, Notes, NewEra, Moment, items, IsBy}
use Rattle.run_laws.specs.Accesses.{Access}
use Rattle.run_laws.specs.Labels.{raises, is_end}
use Rattle.run_laws.specs.Clocks.{taken_from}
use Rattle.run_laws.specs.Present.{labels_now, label_now, clocks_now}
use Rattle.run_laws.specs.Reports.{told_side}
use Rattle.race_core.proofs.FirstLaws.{first}
use Rattle.race_core.proofs.StillLaws.{other, nothing, leave}
use Rattle.race_core.proofs.EventLaws.{attaches, taking, still, rises, spent, ends, begins}
use Rattle.race_core.proofs.BeyondLaws.{within_push as push_within, within_first as first_within}
use Rattle.race_core.proofs.OwnLaws.{known_at}
use Rattle.run_laws.proofs.LabelLaw.{label_parts}
use Rattle.std.proofs.Common.{refl, sym, ◌∙◌, ◌⊎◌, inl, inr, ◌==◌, cond, true, zero, arith, eq-eqb, replicate}
use Rattle.std.proofs.Math.ListN.{length-replicate}
use Rattle.std.proofs.lemmas.List.{get_or_past}
use Rattle.std.proofs.lemmas.Bool.{cases_lt}
use Rattle.race_core.specs.Watched.{Watched, AreWatcherLimits, new_watched, with_events, noted, labelled, unlabelled, with_clock, raised, in_era, side_of}
use Rattle.race_core.specs.History.{era_now, IsClock, IsWatcherAt, IsWithin, AttachesWithin}

pub first_watcher : (limits : Limits) (h : List Moment) (t : ℕ) → AreWatcherLimits limits → ((i : ℕ) → IsBy t (items h i) → ⊥) → IsWatcherAt limits h t (new_watched t limits)
first_watcher = first

pub room_watcher : (limits : Limits) (h : List Moment) (t events : ℕ) (w : Watched) → IsWatcherAt limits h t w → IsWatcherAt limits h t (with_events events w)
room_watcher limits h t events w at = record {
  in_range = at.in_range;
  tid = at.tid;
  greatest = at.greatest;
  slots = at.slots;
  part_words = at.part_words;
  parts = at.parts;
  frames = at.frames;
  locks = at.locks;
  trace = record { parts_held = at.trace.parts_held; ends = at.trace.ends; none_yet = at.trace.none_yet; counted = at.trace.counted };
  era = at.era;
  label = at.label;
  clock = at.clock;
  no_label = at.no_label;
  no_clock = at.no_clock;
  slot = at.slot;
  epoch = at.epoch;
}

pub enter_watcher : (limits : Limits) (h : List Moment) (t : ℕ) (w : Watched) → IsWatcherAt limits h t w → IsWatcherAt limits h t (in_era w (era_now limits.epochs h))
enter_watcher limits h t w at = go (w.era == era_now limits.epochs h) refl
  where
    at_zero : (n i : ℕ) → ◌≡◌ {A = ℕ} (get_or (replicate n 0) i 0) 0
    at_zero zero i = refl
    at_zero (suc n) zero = refl
    at_zero (suc n) (suc i) = at_zero n i

    later : w.era == era_now limits.epochs h ≡ false → w.era < era_now limits.epochs h
    later q = go (cases_lt w.era (era_now limits.epochs h))
      where
        go : (w.era < era_now limits.epochs h) ⊎ (era_now limits.epochs h ≤ w.era) → w.era < era_now limits.epochs h
        go (inl l) = l
        go (inr l) = let same : w.era ≡ era_now limits.epochs h = (let z = at.era in omega arith) in let p = eq-eqb w.era (era_now limits.epochs h) same in absurd (cc)

    go : (b : Bool) → w.era == era_now limits.epochs h ≡ b → IsWatcherAt limits h t (cond b w (record w { era = era_now limits.epochs h; label = None; clock = replicate (length w.clock) 0 }))
    go true q = at
    go false q =
        let lt = later q in
        record {
          in_range = at.in_range;
          tid = at.tid;
          greatest = at.greatest;
          slots = length-replicate (length w.clock) 0 ∙ at.slots;
          part_words = at.part_words;
          parts = at.parts;
          frames = at.frames;
          locks = at.locks;
          trace = at.trace;
          era = omega arith;
          label = λ e. sym (at.no_label lt);
          clock = λ e r. at_zero (length w.clock) r ∙ sym (at.no_clock lt r);
          no_label = λ l. absurd (omega arith);
          no_clock = λ l. absurd (omega arith);
          slot = λ l q. absurd (cc);
          epoch = λ l q. absurd (cc);
        }

pub side_told : (limits : Limits) (h : List Moment) (t : ℕ) (w : Watched) (a : Access) → IsWatcherAt limits h t w → side_of w a ≡ told_side h (length h) t a
side_told limits h t w a at = rw (at.tid, at.frames, at.locks) refl

pub within_first : (g n : ℕ) → IsWithin n (labels_now g []) (clocks_now g [])
within_first = first_within
