-- A turn of the desk in vain, in the last of rounds at the table.
use Rattle.std.proofs.Common.{◌≡◌, ℕ, suc, ◌+◌, cond, List, [], ◌∷◌, ◌++◌, length, sym, subst, arith}
use Rattle.std.specs.Prelude.{Ok}
use Rattle.std.proofs.lemmas.List.{append_assoc, append-nil}
use Rattle.run_record.specs.declared.entry.Entry.{Entry}
use Rattle.run_record.specs.declared.limits.Limits.{Limits}
use Rattle.elf_image.specs.File.{image_of}
use Rattle.run_laws.specs.Faithful.{AtOnce}
use Rattle.run_laws.specs.Rounds.{Progress, MayFindNone}
use Rattle.turn_histories.specs.Rounds.{all_entries}
use Rattle.race_core.specs.Watched.{AreWatcherLimits}
use Rattle.shared_table.specs.declared.object.Object.{Object}
use Rattle.shared_table.specs.declared.view.Layout.{Layout}
use Rattle.table_deeds.specs.Objects.{slots_in, held_at, AreFirstObjects}
use Rattle.table_deeds.specs.Rounds.{TableRound, last_stamp, IsTableRound, AreTableRounds, entries_by_round}
use Rattle.table_deeds.proofs.First.{first_kept}
use Rattle.whole_parts.specs.Tries.{EndsInVain, era_behind, HasCome}
use Rattle.whole_parts.proofs.Standing.{bare, Stood, first_stood}
use Rattle.whole_parts.proofs.Listed.{Objects, at_next}
use Rattle.whole_parts.proofs.Tries.{may_find_none}

module _ (file : List ℕ) (limits : Limits) (ok : image_of file ≡ Ok file) (lay : Layout) where
  -- what stands as the last round begins
  record Comes (round era : ℕ) (done : List Entry) (rs : List TableRound) (r : TableRound) : Type 0 where
    state : Objects file limits
    stood : Stood file limits (held_at file limits state) (round + length rs) (era_behind era rs) (done ++ all_entries (entries_by_round rs))
    is_round : IsTableRound file limits lay (round + length rs) (era_behind era rs) state r

  comes : (rs : List TableRound) (r : TableRound) (round era base : ℕ) (m : Objects file limits) (done : List Entry) →
      Stood file limits (held_at file limits m) round era done → AreTableRounds file limits lay round era base m (rs ++ r ∷ []) → Comes round era done rs r
  comes [] r round era base m done s are =
      let z : round ≡ round + 0 = omega arith in record {
        state = m;
        stood = subst (λ (n : ℕ). Stood file limits (held_at file limits m) n era (done ++ [])) z
            (subst (Stood file limits (held_at file limits m) round era) (sym (append-nil done)) s);
        is_round = subst (λ (n : ℕ). IsTableRound file limits lay n era m r) z are.1;
      }
  comes (x ∷ rs) r round era base m done s are =
      let z : round + 1 + length rs ≡ round + suc (length rs) = omega arith in
      let next = at_next file limits lay round era m x are.1 ok done s in
      let rest = comes rs r (round + 1) (cond x.ends (era + 1) era) (last_stamp x) x.next (done ++ x.entries) next are.2 in
      let last = era_behind (cond x.ends (era + 1) era) rs in record {
        state = rest.state;
        stood = subst (λ (n : ℕ). Stood file limits (held_at file limits rest.state) n last (done ++ (x.entries ++ all_entries (entries_by_round rs)))) z
            (subst (Stood file limits (held_at file limits rest.state) (round + 1 + length rs) last)
            (append_assoc done x.entries (all_entries (entries_by_round rs))) rest.stood);
        is_round = subst (λ (n : ℕ). IsTableRound file limits lay n last rest.state r) z rest.is_round;
      }

  -- the thread may find no slot
  pub in_vain : (m : Objects file limits) (rs : List TableRound) (r : TableRound) (p : Progress) (seat t : ℕ) (found : Object) →
      AreWatcherLimits limits → AreFirstObjects file limits m → AreTableRounds file limits lay 0 0 0 m (rs ++ r ∷ []) → HasCome p rs →
      EndsInVain r.late seat found → r.seat t ≡ seat → (slots_in limits found).queue ≡ [] → MayFindNone AtOnce limits (bare file limits) p r.entries t
  in_vain m rs r p seat t found ranges first are come vain seat_is none =
      let at = comes rs r 0 0 0 m [] (first_stood file limits (held_at file limits m) ranges (first_kept file limits m first)) are in
      let z : 0 + length rs ≡ p.round = omega (arith, come.round) in
      let stood = subst (λ (n : ℕ). Stood file limits (held_at file limits at.state) n p.era p.entries) z
      (subst (λ (n : ℕ). Stood file limits (held_at file limits at.state) (0 + length rs) n p.entries) (sym come.era)
      (subst (Stood file limits (held_at file limits at.state) (0 + length rs) (era_behind 0 rs)) (sym come.entries) at.stood)) in
      let is = subst (λ (n : ℕ). IsTableRound file limits lay n p.era at.state r) z
      (subst (λ (n : ℕ). IsTableRound file limits lay (0 + length rs) n at.state r) (sym come.era) at.is_round) in
      may_find_none file limits ok lay p at.state r is stood seat vain.number t found vain.made vain.stands vain.last seat_is none
