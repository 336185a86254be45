-- A watcher stays that of its thread where others act, and where nothing is done.
use Rattle.std.proofs.Common.{◌≡◌, ℕ, None, List, [], ◌∷◌, ◌++◌, refl, sym, ap, subst, ◌∙◌, arith, ne_eqb}
use Rattle.run_record.specs.declared.entry.DeskNote.TheVariants.{Nothing, Attach, Leave}
use Rattle.run_record.specs.declared.entry.Label.{Label}
use Rattle.run_record.specs.declared.limits.Limits.{Limits}
use Rattle.run_laws.specs.Moments.{Item, Does, Notes, NewEra, Past, Moment, IsBy}
use Rattle.run_laws.specs.Clocks.{ChangesThread}
use Rattle.run_laws.specs.Stacks.{event_by}
use Rattle.trace_parts.specs.Held.{Holds}
use Rattle.race_core.specs.Watched.{Watched}
use Rattle.race_core.specs.History.{IsWatcherAt}
use Rattle.race_core.proofs.FrameLaws.{label_same, clock_same, era_same, frames_none, locks_none, trace_none}

pub unchanged : (limits : Limits) (h : List Moment) (m : Moment) (t : ℕ) (w : Watched) → IsWatcherAt limits h t w →
    (ChangesThread t m.item → ⊥) → (m.item ≡ NewEra → ⊥) → event_by t m.item ≡ None → IsWatcherAt limits (h ++ m ∷ []) t w
unchanged limits h m t w at still one_era none =
    let g = limits.epochs in
    let era = era_same g h m one_era in
    record {
      in_range = at.in_range;
      tid = at.tid;
      greatest = at.greatest;
      slots = at.slots;
      part_words = at.part_words;
      parts = at.parts;
      frames = at.frames ∙ sym (frames_none h m t none);
      locks = at.locks ∙ sym (locks_none h m t none);
      trace = subst (Holds w.trace) (sym (trace_none g h m t still)) at.trace;
      era = omega (arith, at.era, era);
      label = λ e. at.label (e ∙ era) ∙ sym (label_same g h m t still);
      clock = λ e r. at.clock (e ∙ era) r ∙ sym (clock_same g h m t r still);
      no_label = λ l. label_same g h m t still ∙ at.no_label (omega (arith, era));
      no_clock = λ l r. clock_same g h m t r still ∙ at.no_clock (omega (arith, era)) r;
      slot = at.slot;
      epoch = at.epoch;
    }

changes_by : (t : ℕ) (item : Item) → (IsBy t item → ⊥) → (item ≡ NewEra → ⊥) → ChangesThread t item → ⊥
changes_by t (Does u e) d n c = d (sym c)
changes_by t (Notes u (Attach l)) d n c = d (sym c)
changes_by t (Notes u (Leave l)) d n c = c
changes_by t (Notes u Nothing) d n c = c
changes_by t NewEra d n c = n refl
changes_by t Past d n c = c

no_event : (t : ℕ) (item : Item) → (IsBy t item → ⊥) → event_by t item ≡ None
no_event t (Does u e) d = rw (ne_eqb u t d) refl
no_event t (Notes u note) d = refl
no_event t NewEra d = refl
no_event t Past d = refl

pub other : (limits : Limits) (h : List Moment) (m : Moment) (t : ℕ) (w : Watched) → IsWatcherAt limits h t w → (IsBy t m.item → ⊥) → (m.item ≡ NewEra → ⊥) → IsWatcherAt limits (h ++ m ∷ []) t w
other limits h m t w at others one_era = unchanged limits h m t w at (changes_by t m.item others one_era) one_era (no_event t m.item others)

pub nothing : (limits : Limits) (h : List Moment) (m : Moment) (t : ℕ) (w : Watched) → IsWatcherAt limits h t w → m.item ≡ Notes t Nothing → IsWatcherAt limits (h ++ m ∷ []) t w
nothing limits h m t w at is =
    unchanged limits h m t w at (λ c. subst (ChangesThread t) is c) (λ z. let y = sym is ∙ z in absurd (cc)) (ap (event_by t) is)

pub leave : (limits : Limits) (h : List Moment) (m : Moment) (t : ℕ) (w : Watched) (label : Label) → IsWatcherAt limits h t w → m.item ≡ Notes t (Leave label) → IsWatcherAt limits (h ++ m ∷ []) t w
leave limits h m t w label at is =
    unchanged limits h m t w at (λ c. subst (ChangesThread t) is c) (λ z. let y = sym is ∙ z in absurd (cc)) (ap (event_by t) is)
