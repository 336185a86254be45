-- A thread that goes on in an era that has begun.
use Rattle.std.proofs.Common.{refl, sym, ◌∙◌, ◌≡◌, ◌⊎◌, inl, inr, ℕ, zero, suc, ◌<◌, ◌≤◌, ◌==◌, cond, Bool, true, false, arith, eq-eqb, List, length, get_or, replicate, None}
use Rattle.std.proofs.Math.ListN.{length-replicate}
use Rattle.std.proofs.lemmas.Bool.{cases_lt}
use Rattle.run_record.specs.declared.limits.Limits.{Limits}
use Rattle.run_laws.specs.Moments.{Moment}
use Rattle.race_core.specs.Watched.{Watched, in_era}
use Rattle.race_core.specs.History.{era_now, IsWatcherAt}

at_zero : (n i : ℕ) → ◌≡◌ {A = ℕ} (get_or (replicate n 0) i 0) 0
at_zero zero i = refl
at_zero (suc n) zero = refl
at_zero (suc n) (suc i) = at_zero n i

-- its watcher is still the thread's, in the present era
pub enters : (limits : Limits) (h : List Moment) (t : ℕ) (w : Watched) → IsWatcherAt limits h t w →
    IsWatcherAt limits h t (in_era w (era_now limits.epochs h))
enters limits h t w at = go (w.era == era_now limits.epochs h) refl
  where
    later : w.era == era_now limits.epochs h ≡ false → w.era < era_now limits.epochs h
    later q = by_order (cases_lt w.era (era_now limits.epochs h))
      where
        by_order : (w.era < era_now limits.epochs h) ⊎ (era_now limits.epochs h ≤ w.era) → w.era < era_now limits.epochs h
        by_order (inl l) = l
        by_order (inr l) =
            let same : w.era ≡ era_now limits.epochs h = (let z = at.era in omega arith) in
            let p = eq-eqb w.era (era_now limits.epochs h) same in
            absurd (cc)

    go : (b : Bool) → w.era == era_now limits.epochs h ≡ b →
        IsWatcherAt limits h t (cond b w (record w { era = era_now limits.epochs h; label = None; clock = replicate (length w.clock) 0 }))
    go true q = at
    go false q =
        let lt = later q in
        record {
          in_range = at.in_range;
          tid = at.tid;
          greatest = at.greatest;
          slots = length-replicate (length w.clock) 0 ∙ at.slots;
          part_words = at.part_words;
          parts = at.parts;
          frames = at.frames;
          locks = at.locks;
          trace = at.trace;
          era = omega arith;
          label = λ e. sym (at.no_label lt);
          clock = λ e r. at_zero (length w.clock) r ∙ sym (at.no_clock lt r);
          no_label = λ l. absurd (omega arith);
          no_clock = λ l. absurd (omega arith);
          slot = λ l q. absurd (cc);
          epoch = λ l q. absurd (cc);
        }
