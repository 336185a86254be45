-- The loads of the whole history.
use Rattle.std.proofs.Common.{◌≡◌, ℕ, List, [], subst, sym}
use Rattle.std.specs.Prelude.{Ok}
use Rattle.run_record.specs.declared.entry.Entry.{Entry}
use Rattle.run_record.specs.declared.limits.Limits.{Limits}
use Rattle.elf_image.specs.File.{image_of, granule_of}
use Rattle.run_laws.specs.Moments.{moments}
use Rattle.run_laws.specs.Checks.{AreAllChecks, AllStoreRightly}
use Rattle.run_laws.specs.Loads.{AllLoadRightly}
use Rattle.race_core.specs.Watched.{AreWatcherLimits}
use Rattle.turn_orders.specs.Machine.{State}
use Rattle.turn_orders.specs.LineUp.{Stamped}
use Rattle.turn_histories.specs.Rounds.{all_entries, first_stamped}
use Rattle.turn_histories.proofs.Checked.{all_checks, all_stores}
use Rattle.shared_table.specs.declared.object.Object.{Object}
use Rattle.shared_table.specs.declared.view.Layout.{Layout}
use Rattle.shared_table.specs.Past.{Past, Lawful}
use Rattle.placed_detector.specs.Standing.{Hand}
use Rattle.deed_histories.specs.Rounds.{FollowsRounds, listed_entries}
use Rattle.deed_histories.proofs.Histories.{from_first}
use Rattle.table_deeds.specs.Objects.{AreFirstObjects, held_at}
use Rattle.table_deeds.specs.Rounds.{AreKept, entries_by_round}
use Rattle.table_deeds.proofs.First.{first_kept}
use Rattle.table_deeds.proofs.Rounds.{all_rounds}
use Rattle.hart_parts.proofs.Rounds.{rounds_are}
use Rattle.hart_parts.specs.Rounds.{PartRound, ArePartRounds, table_rounds}
use Rattle.cell_loads.specs.Pasts.{ArePasts}
use Rattle.cell_loads.proofs.Rounds.{timings_of}
use Rattle.cell_loads.proofs.Loads.{all_load_rightly}

module _ (file : List ℕ) (limits : Limits) (lay : Layout) (past : Past) (m : State (Stamped Hand) Object) (rs : List PartRound)
    (few : AreWatcherLimits limits)
    (first : AreFirstObjects file limits m) (ok : image_of file ≡ Ok file) (lawful : Lawful lay past) (pasts : ArePasts limits past [] m rs)
    (parts : ArePartRounds file limits lay 0 0 0 m rs) where
  abbrev entries : List Entry
  entries = all_entries (entries_by_round (table_rounds m rs))

  kept : AreKept file limits 0 0 0 m (table_rounds m rs)
  kept = all_rounds file limits lay (table_rounds m rs) 0 0 0 m (rounds_are file limits lay rs 0 0 0 m parts)

  follow : FollowsRounds file limits 0 0 0 (held_at file limits m) (first_stamped file limits.slots) kept.rounds
  follow = from_first file limits few (held_at file limits m) (first_kept file limits m first) kept.rounds ok kept.are

  right_checks : AreAllChecks limits.epochs (granule_of file) entries (moments entries)
  right_checks = subst (λ (es : List (List Entry)). AreAllChecks limits.epochs (granule_of file) (all_entries es) (moments (all_entries es))) kept.entries
      (all_checks file limits.harts limits.epochs limits.slots ok follow.rounds (listed_entries kept.rounds) follow.follow follow.told)

  right_stores : AllStoreRightly (moments entries)
  right_stores = subst (λ (es : List (List Entry)). AllStoreRightly (moments (all_entries es))) kept.entries
      (all_stores file limits.harts limits.epochs limits.slots ok follow.rounds (listed_entries kept.rounds) follow.follow follow.told)

  pub history_loads : AllLoadRightly limits.epochs (moments entries)
  history_loads =
      let t = timings_of file limits lay past rs 0 0 0 m parts pasts in
      subst (λ (es : List Entry). AllLoadRightly limits.epochs (moments es)) t.1
      (all_load_rightly lay past lawful t.0 t.2 file limits.epochs ok
      (subst (λ (es : List Entry). AreAllChecks limits.epochs (granule_of file) es (moments es)) (sym t.1) right_checks)
      (subst (λ (es : List Entry). AllStoreRightly (moments es)) (sym t.1) right_stores))
