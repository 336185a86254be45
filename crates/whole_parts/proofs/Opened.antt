-- After any rounds the desk says of threads, output and end what the bare machine has.
use Rattle.std.proofs.Common.{◌≡◌, ℕ, ◌+◌, cond, List, [], ◌∷◌, ◌++◌, sym, subst}
use Rattle.std.specs.Prelude.{Ok}
use Rattle.std.proofs.lemmas.List.{append_assoc, append-nil}
use Rattle.run_record.specs.declared.entry.Entry.{Entry}
use Rattle.run_record.specs.declared.limits.Limits.{Limits}
use Rattle.elf_image.specs.File.{image_of}
use Rattle.run_laws.specs.Faithful.{state_after}
use Rattle.bare_machine.specs.Step.{desk}
use Rattle.turn_histories.specs.Rounds.{all_entries}
use Rattle.race_core.specs.Watched.{AreWatcherLimits}
use Rattle.shared_table.specs.declared.object.DeskState.{DeskState}
use Rattle.shared_table.specs.declared.view.Layout.{Layout}
use Rattle.table_deeds.specs.Objects.{held_at, AreFirstObjects}
use Rattle.table_deeds.specs.Rounds.{last_stamp}
use Rattle.table_deeds.proofs.First.{first_kept}
use Rattle.hart_parts.specs.Rounds.{PartRound, table_round, ArePartRounds}
use Rattle.hart_parts.proofs.Rounds.{round_is}
use Rattle.whole_parts.specs.Dues.{HasDesk, entries_by_part_round, state_after_rounds}
use Rattle.whole_parts.proofs.Standing.{bare, Stood, first_stood}
use Rattle.whole_parts.proofs.Listed.{Objects, at_next}
use Rattle.whole_parts.proofs.Desks.{TellsOf, tells_of}

module _ (file : List ℕ) (limits : Limits) (ok : image_of file ≡ Ok file) (lay : Layout) where
  record Comes (m : Objects file limits) (done : List Entry) (rs : List PartRound) : Type 0 where
    round : ℕ
    era : ℕ
    stood : Stood file limits (held_at file limits (state_after_rounds m rs)) round era (done ++ all_entries (entries_by_part_round rs))

  comes : (rs : List PartRound) (round era base : ℕ) (m : Objects file limits) (done : List Entry) →
      Stood file limits (held_at file limits m) round era done → ArePartRounds file limits lay round era base m rs → Comes m done rs
  comes [] round era base m done s are = record {
    round = round;
    era = era;
    stood = subst (Stood file limits (held_at file limits m) round era) (sym (append-nil done)) s;
  }
  comes (r ∷ rs) round era base m done s are =
      let next = at_next file limits lay round era m (table_round m r) (round_is file limits lay round era m r are.1) ok done s in
      let rest = comes rs (round + 1) (cond r.ends (era + 1) era) (last_stamp (table_round m r)) r.next (done ++ r.entries) next are.2 in
      record {
        round = rest.round;
        era = rest.era;
        stood = subst (Stood file limits (held_at file limits (state_after_rounds r.next rs)) rest.round rest.era)
            (append_assoc done r.entries (all_entries (entries_by_part_round rs))) rest.stood;
      }

  pub tells_then : (m : Objects file limits) (rs : List PartRound) (d : DeskState) → AreWatcherLimits limits → AreFirstObjects file limits m →
      ArePartRounds file limits lay 0 0 0 m rs → HasDesk ((state_after_rounds m rs).value desk) d →
      TellsOf file limits d (state_after (bare file limits) (all_entries (entries_by_part_round rs)))
  tells_then m rs d ranges first are at =
      let c = comes rs 0 0 0 m [] (first_stood file limits (held_at file limits m) ranges (first_kept file limits m first)) are in
      tells_of file limits (state_after_rounds m rs) c.round c.era (all_entries (entries_by_part_round rs)) c.stood d at
