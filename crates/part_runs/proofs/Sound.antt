-- The entries of rounds so far are as lawful histories ask.
use Rattle.std.proofs.Common.{◌≡◌, ℕ, ◌*◌, List, Ok, subst, refl, arith}
use Rattle.run_record.specs.declared.entry.Entry.{Entry}
use Rattle.run_record.specs.declared.limits.Limits.{Limits}
use Rattle.run_record.specs.declared.plan.Turn.{Turn}
use Rattle.run_record.specs.declared.finished.LastState.{LastState}
use Rattle.elf_image.specs.File.{image_of, granule_of, granule_address}
use Rattle.elf_image.proofs.MemoryLaws.{granule_address-of}
use Rattle.run_laws.specs.Moments.{moments}
use Rattle.run_laws.specs.Checks.{AreAllChecks, AllStoreRightly}
use Rattle.run_laws.specs.Loads.{AllLoadRightly}
use Rattle.run_laws.specs.Faithful.{AtOnce, IsFaithful, needs_slot}
use Rattle.run_laws.specs.Lawful.{IsLawful}
use Rattle.machine_laws.specs.Machine.{bare_of}
use Rattle.report_laws.specs.Sound.{IsSound, TellsAddresses}
use Rattle.turn_orders.specs.Machine.{State}
use Rattle.turn_orders.specs.LineUp.{Stamped}
use Rattle.turn_histories.specs.Rounds.{all_entries, first_stamped}
use Rattle.turn_histories.proofs.Faithful.{faithful}
use Rattle.turn_histories.proofs.Checked.{all_checks, all_stores}
use Rattle.shared_table.specs.declared.object.DeskState.{DeskState}
use Rattle.shared_table.specs.declared.object.Object.{Object}
use Rattle.shared_table.specs.declared.view.Layout.{Layout}
use Rattle.shared_table.specs.Past.{Past}
use Rattle.placed_detector.specs.Standing.{Hand}
use Rattle.deed_histories.specs.Rounds.{FollowsRounds, listed_entries}
use Rattle.deed_histories.proofs.Histories.{from_first}
use Rattle.table_deeds.specs.Objects.{held_at}
use Rattle.table_deeds.specs.Rounds.{AreKept}
use Rattle.table_deeds.proofs.First.{first_kept}
use Rattle.table_deeds.proofs.Rounds.{all_rounds}
use Rattle.hart_parts.specs.Rounds.{PartRound, table_rounds}
use Rattle.hart_parts.proofs.Rounds.{rounds_are, entries_same}
use Rattle.part_notes.proofs.Histories.{all_labelled, all_notes}
use Rattle.cell_loads.proofs.Histories.{history_loads}
use Rattle.whole_parts.proofs.Whole.{whole}
use Rattle.part_runs.specs.Runs.{entries_of_rounds, AreRounds, AreAllRounds}

-- a granule's address is where it begins
pub addresses : (file : List ℕ) → image_of file ≡ Ok file → TellsAddresses (granule_of file) (granule_address file)
addresses file accepted b g q = let y = granule_address-of file (8 * b) g accepted q in omega arith

module _ (file : List ℕ) (limits : Limits) (lay : Layout) (past : Past) (m : State (Stamped Hand) Object) (rs : List PartRound)
    (all : AreRounds file limits lay past m rs) where
  kept : AreKept file limits 0 0 0 m (table_rounds m rs)
  kept = all_rounds file limits lay (table_rounds m rs) 0 0 0 m (rounds_are file limits lay rs 0 0 0 m all.parts)

  follow : FollowsRounds file limits 0 0 0 (held_at file limits m) (first_stamped file limits.slots) kept.rounds
  follow = from_first file limits all.limits_are.watcher (held_at file limits m) (first_kept file limits m all.first) kept.rounds all.accepted kept.are

  -- what holds of the entries as the rounds of deeds list them holds of the rounds' entries
  of_rounds : (P : List Entry → Type 0) → P (all_entries (listed_entries kept.rounds)) → P (entries_of_rounds rs)
  of_rounds P p =
      subst (λ (es : List (List Entry)). P (all_entries es)) (entries_same m rs)
      (subst (λ (es : List (List Entry)). P (all_entries es)) kept.entries p)

  pub is_faithful : IsFaithful AtOnce (bare_of file limits.harts) (entries_of_rounds rs)
  is_faithful = of_rounds (IsFaithful AtOnce (bare_of file limits.harts))
      (faithful file limits.harts limits.epochs limits.slots all.accepted follow.rounds (listed_entries kept.rounds) follow.follow follow.told)

  checked : AreAllChecks limits.epochs (granule_of file) (entries_of_rounds rs) (moments (entries_of_rounds rs))
  checked = of_rounds (λ (es : List Entry). AreAllChecks limits.epochs (granule_of file) es (moments es))
      (all_checks file limits.harts limits.epochs limits.slots all.accepted follow.rounds (listed_entries kept.rounds) follow.follow follow.told)

  stored : AllStoreRightly (moments (entries_of_rounds rs))
  stored = of_rounds (λ (es : List Entry). AllStoreRightly (moments es))
      (all_stores file limits.harts limits.epochs limits.slots all.accepted follow.rounds (listed_entries kept.rounds) follow.follow follow.told)

  loaded : AllLoadRightly limits.epochs (moments (entries_of_rounds rs))
  loaded = subst (λ (es : List (List Entry)). AllLoadRightly limits.epochs (moments (all_entries es))) (entries_same m rs)
      (history_loads file limits lay past m rs all.limits_are.watcher all.first all.accepted all.lawful all.pasts all.parts)

  -- the entries of rounds so far have what the laws of reports ask for
  pub sound : IsSound limits (granule_of file) (needs_slot (bare_of file limits.harts) (entries_of_rounds rs)) (entries_of_rounds rs)
  sound = record {
    few_slots = all.limits_are.watcher.few_slots;
    some_epochs = all.limits_are.some_epochs;
    few_epochs = all.limits_are.watcher.few_epochs;
    notes = all_notes file limits all.accepted lay all.limits_are.watcher all.limits_are.some_harts m all.first rs all.parts;
    checks = checked;
    stores = stored;
    loads = loaded;
  }

module _ (file : List ℕ) (limits : Limits) (lay : Layout) (past : Past) (m : State (Stamped Hand) Object) (rs : List PartRound) (plan : List Turn)
    (closed : DeskState) (last : LastState) (all : AreAllRounds file limits lay past m rs closed last) where
  -- those of all rounds are a lawful history
  pub lawful : IsLawful AtOnce limits plan (bare_of file limits.harts) (granule_of file) (entries_of_rounds rs)
  lawful =
      let so = all.rounds in
      let s = sound file limits lay past m rs so in
      record {
        faithful = is_faithful file limits lay past m rs so;
        last = last;
        rounds = whole file limits so.accepted lay plan m rs so.limits_are.watcher so.first so.parts all.dues closed last all.over;
        labelled = all_labelled file limits so.accepted lay so.limits_are.watcher so.limits_are.some_harts m so.first rs so.parts;
        notes = s.notes;
        checks = s.checks;
        stores = s.stores;
        loads = s.loads;
        loads_last = λ q. absurd (let z : ⊥ = cc in z);
      }

  -- with the run's last state
  pub lawful_with_last : (l : IsLawful AtOnce limits plan (bare_of file limits.harts) (granule_of file) (entries_of_rounds rs)) × (l.last ≡ last)
  unfolding lawful
  lawful_with_last = (lawful, refl)
