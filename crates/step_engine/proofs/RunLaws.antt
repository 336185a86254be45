-- A whole run: from its start, round by round, to its end.
use Rattle.std.proofs.Common.{◌≡◌, ℕ, ◌<◌, Bool, true, Option, Some, None, Ok, List, [], ◌∷◌, length, drop, refl, ap, ◌∙◌, sym, subst, arith, inl, inr}
use Rattle.std.specs.Prelude.{nat_lt, option_to_list}
use Rattle.std.specs.List.{list_any}
use Rattle.std.proofs.lemmas.Bool.{lt-ltb}
use Rattle.run_record.specs.declared.limits.Limits.{Limits}
use Rattle.run_record.specs.declared.plan.Turn.{Turn}
use Rattle.run_record.specs.declared.entry.Entry.{Entry}
use Rattle.run_record.specs.declared.finished.Finished.{Finished}
use Rattle.run_record.specs.declared.finished.GuestEnd.{GuestEnd}
use Rattle.run_record.specs.declared.finished.GuestEnd.TheVariants.{Budget}
use Rattle.elf_image.specs.File.{image_of, granule_of}
use Rattle.bare_machine.specs.World.{World, lives}
use Rattle.bare_machine.specs.Step.{end_of}
use Rattle.run_laws.specs.Faithful.{OneByOne, state_after, needs_slot}
use Rattle.run_laws.specs.Lawful.{IsLawful, IsWholeRun}
use Rattle.run_laws.specs.Reports.{Kept}
use Rattle.run_laws.specs.Rounds.{Due, due_turn, dues, from_live, end_in, turns_after, Reaches, Round, Ends}
use Rattle.turn_laws.proofs.WholeLaw.{lawful-whole}
use Rattle.machine_laws.specs.Machine.{bare_of}
use Rattle.machine_laws.proofs.EndLaw as ends
use Rattle.whole_runs.specs.Told.{Told}
use Rattle.whole_runs.specs.Run.{kept_in, IsRun}
use Rattle.whole_runs.proofs.Runs.{is_run as run_of}
use Rattle.thread_turns.specs.declared.watched.WatchedMachine.{WatchedMachine}
use Rattle.thread_turns.specs.declared.part.Part.{Part}
use Rattle.thread_turns.specs.Ranges.{AreLimits}
use Rattle.thread_turns.specs.Follows.{Follows}
use Rattle.step_engine.specs.declared.engine.Engine.{Engine}
use Rattle.step_engine.specs.declared.engine.Due as chosen
use Rattle.step_engine.specs.Live.{live_of}
use Rattle.step_engine.specs.Progress.{progress, due_of, IsReady, MakesRound}
use Rattle.step_engine.proofs.RoundLaws.{at_start}
use Rattle.step_engine.proofs.EngineLaws.{at_most_one, length_in}

-- ---- the start

pub ready-start :
    (file : List ℕ) (limits : Limits) (w : WatchedMachine) (entries : List Entry) (part : Part) → AreLimits limits → Follows file limits 0 0 [] w → w.detector.era ≡ 0 → entries ≡ [] →
    IsReady file limits (record { watched = w; entries = entries; part = part; turn = 0; last = None; round = 0; last_era = 0; remaining = limits.steps })
ready-start file limits w entries part are follows era none =
    subst (λ (es : List Entry). IsReady file limits (record { watched = w; entries = es; part = part; turn = 0; last = None; round = 0; last_era = 0; remaining = limits.steps })) (sym none)
    (let one = at_most_one w.detector.desk.queue in
    let few = are.few_steps in
    let long = length_in 0 w.detector.era [] in
    record { between = at_start file limits w follows; bounded = record { rounds = omega arith; eras = omega arith; moments = omega arith } })

-- ---- the next round

module _ (file : List ℕ) (limits : Limits) (plan : List Turn) (e : Engine) (ready : IsReady file limits e) where
  dues_are : dues OneByOne limits (bare_of file limits.harts) (progress e plan) ≡ option_to_list (due_turn limits (live_of e.watched.machine) e.last e.remaining (from_live (lives e.watched.machine) (drop e.turn plan)))
  dues_are = ap (λ (s : World). option_to_list (due_turn limits (live_of s) e.last e.remaining (from_live (lives s) (drop e.turn plan)))) (sym ready.between.follows.machine)

  end_is : end_in (bare_of file limits.harts) (state_after (bare_of file limits.harts) e.entries) ≡ end_of e.watched.machine
  end_is = ap (end_in (bare_of file limits.harts)) (sym ready.between.follows.machine) ∙ sym (ends.end_is file limits.harts e.watched.machine)

  turns_are : turns_after (bare_of file limits.harts) (progress e plan) ≡ drop 1 (from_live (lives e.watched.machine) (drop e.turn plan))
  turns_are = ap (λ (s : World). drop 1 (from_live (lives s) (drop e.turn plan))) (sym ready.between.follows.machine)

  one_due : (d : chosen.Due) → due_turn limits (live_of e.watched.machine) e.last e.remaining (from_live (lives e.watched.machine) (drop e.turn plan)) ≡ Some (due_of d) →
      dues OneByOne limits (bare_of file limits.harts) (progress e plan) ≡ due_of d ∷ []
  one_due d is = dues_are ∙ ap option_to_list is

  pub reached-more :
      (new : Engine) (d : chosen.Due) → Reaches OneByOne limits (bare_of file limits.harts) plan (progress e plan) → end_of e.watched.machine ≡ None →
      due_turn limits (live_of e.watched.machine) e.last e.remaining (from_live (lives e.watched.machine) (drop e.turn plan)) ≡ Some (due_of d) → 0 < d.given →
      drop d.turn plan ≡ drop 1 (from_live (lives e.watched.machine) (drop e.turn plan)) → MakesRound file limits e new d →
      Reaches OneByOne limits (bare_of file limits.harts) plan (progress new plan)
  reached-more new d reached on is given rest made =
      subst (Reaches OneByOne limits (bare_of file limits.harts) plan) (sym (made.after plan (one_due d is) (rest ∙ sym turns_are)))
      (Round (progress e plan) made.part reached (end_is ∙ on)
      (subst (λ (ds : List Due). list_any (λ (x : Due). nat_lt 0 x.given) ds ≡ true) (sym (one_due d is)) (rw (lt-ltb 0 d.given given) refl))
      (made.is_round plan (one_due d is)))

  pub ends-itself : (end : GuestEnd) → end_of e.watched.machine ≡ Some end → Ends OneByOne limits (bare_of file limits.harts) (progress e plan) end
  ends-itself end is = inl (end_is ∙ is)

  pub ends-undue : end_of e.watched.machine ≡ None → due_turn limits (live_of e.watched.machine) e.last e.remaining (from_live (lives e.watched.machine) (drop e.turn plan)) ≡ None →
      Ends OneByOne limits (bare_of file limits.harts) (progress e plan) Budget
  ends-undue on none = inr (end_is ∙ on, ap (list_any (λ (x : Due). nat_lt 0 x.given)) (dues_are ∙ ap option_to_list none), refl)

  pub ends-spent : (d : chosen.Due) → end_of e.watched.machine ≡ None → due_turn limits (live_of e.watched.machine) e.last e.remaining (from_live (lives e.watched.machine) (drop e.turn plan)) ≡ Some (due_of d) →
      d.given ≡ 0 → Ends OneByOne limits (bare_of file limits.harts) (progress e plan) Budget
  ends-spent d on is spent = inr (end_is ∙ on, ap (list_any (λ (x : Due). nat_lt 0 x.given)) (one_due d is) ∙ rw spent refl, refl)

-- ---- the whole run

module _ (file : List ℕ) (limits : Limits) (plan : List Turn) (meets : Option (List ℕ) → Option (List ℕ) → Bool) (e : Engine) (kept : Kept) (end : GuestEnd) (f : Finished) (accepted : image_of file ≡ Ok file) (ready : IsReady file limits e)
    (told : Told meets file limits e.entries kept)
    (reached : Reaches OneByOne limits (bare_of file limits.harts) plan (progress e plan)) (ends : Ends OneByOne limits (bare_of file limits.harts) (progress e plan) end)
    (entries_are : f.history.entries ≡ e.entries) (last_is : f.last ≡ record { threads = length e.watched.machine.threads; rounds = e.round; era = e.last_era; end = end })
    (kept_is : kept_in f ≡ kept) (output_is : f.output ≡ e.watched.machine.output) where
  whole : IsWholeRun OneByOne limits plan (bare_of file limits.harts) e.entries f.last
  whole = subst (IsWholeRun OneByOne limits plan (bare_of file limits.harts) e.entries) (sym last_is)
      (record {
        progress = progress e plan;
        reached = reached;
        history_is = refl;
        ends = ends;
        threads_are = ap (λ (s : World). length s.threads) ready.between.follows.machine;
        rounds_are = refl;
        era_is = refl;
      })

  lawful : IsLawful OneByOne limits plan (bare_of file limits.harts) (granule_of file) e.entries
  lawful = lawful-whole limits plan (bare_of file limits.harts) (granule_of file) e.entries f.last ready.between.follows.lawful whole

  pub is_run : IsRun OneByOne file limits plan meets f
  is_run =
      let ranges = ready.between.follows.limits_are in
      let some = ranges.some_epochs in
      run_of OneByOne file limits plan meets f ranges.few_slots (omega arith) ranges.few_epochs accepted
      (subst (IsLawful OneByOne limits plan (bare_of file limits.harts) (granule_of file)) (sym entries_are) lawful)
      (subst (λ (es : List Entry). IsWholeRun OneByOne limits plan (bare_of file limits.harts) es f.last) (sym entries_are) whole)
      (subst (λ (es : List Entry). Told meets file limits es (kept_in f)) (sym entries_are) (subst (Told meets file limits e.entries) (sym kept_is) told))
      (output_is ∙ ap (λ (s : World). s.output) ready.between.follows.machine
      ∙ ap (λ (es : List Entry). (state_after (bare_of file limits.harts) es).output) (sym entries_are))
