-- What threads and the table have at a round's end.
use Rattle.std.proofs.Common.{◌≡◌, ℕ, inl, inr, List, [], ◌∷◌, ◌++◌, sym, ap, ◌∙◌}
use Rattle.std.specs.Prelude.{Some}
use Rattle.run_record.specs.declared.limits.Limits.{Limits}
use Rattle.turn_orders.specs.Lists.{In}
use Rattle.turn_orders.specs.Machine.{State}
use Rattle.turn_orders.specs.LineUp.{Stamped, last_local, last_value}
use Rattle.shared_table.specs.declared.object.Object.{Object}
use Rattle.shared_table.specs.declared.view.Layout.{Layout}
use Rattle.shared_table.specs.Past.{Past}
use Rattle.woven_turns.specs.Weave.{weave}
use Rattle.woven_turns.proofs.Weaving.{place_all, value_after, thread_all}
use Rattle.placed_detector.specs.Standing.{Hand}
use Rattle.table_deeds.specs.Rounds.{TableRound, HasObjects, IsTableRound}
use Rattle.table_deeds.proofs.Left.{local_left_is, value_left_is}
use Rattle.hart_parts.specs.Parts.{Part, left_in}
use Rattle.hart_parts.specs.Rounds.{PartRound, table_round, IsPartRound, ArePartRounds}
use Rattle.hart_parts.proofs.Seats.{part_cases}
use Rattle.hart_parts.proofs.Rounds.{deeds_without, part_left, round_is}
use Rattle.whole_parts.specs.Dues.{state_after_rounds}
use Rattle.part_runs.specs.Runs.{AreRounds}
use Rattle.part_runs.specs.Ends.{at_end}

module _ (file : List ℕ) (limits : Limits) (lay : Layout) where
  -- the last of some rounds, after the state that the others left
  record Last (s : State (Stamped Hand) Object) (r : PartRound) : Type 0 where
    round : ℕ
    era : ℕ
    is : IsPartRound file limits lay round era s r

  last_round : (xs : List PartRound) (r : PartRound) (round era base : ℕ) (m : State (Stamped Hand) Object) →
      ArePartRounds file limits lay round era base m (xs ++ r ∷ []) → Last (state_after_rounds m xs) r
  last_round [] r round era base m are = record { round = round; era = era; is = are.1 }
  last_round (x ∷ xs) r round era base m are = last_round xs r _ _ _ _ are.2

  module _ (past : Past) (m : State (Stamped Hand) Object) (rs : List PartRound) (r : PartRound) (all : AreRounds file limits lay past m (rs ++ r ∷ [])) where
    abbrev s : State (Stamped Hand) Object
    s = state_after_rounds m rs

    it : Last s r
    it = last_round rs r 0 0 0 m all.parts

    abbrev t : TableRound
    t = table_round s r

    table : IsTableRound file limits lay it.round it.era s t
    table = round_is file limits lay it.round it.era s r it.is

    -- the table has the objects that the round's deeds left
    pub objects_at_end : HasObjects lay (r.late ++ r.early) (at_end m rs r)
    objects_at_end k below =
        value_after t.tag lay s r.early r.late t.seat t.alone table.worked k below table.lawful
        ∙ ap Some (ap (last_value (s.value k)) (sym (place_all t.tag lay s r.early r.late t.seat t.alone table.worked k below))
        ∙ sym (value_left_is s k (weave t.tag r.late ++ t.alone)))

    -- the thread of each part has what its part left
    pub part_at_end : (p : Part) → In p r.parts → (at_end m rs r).local p.thread ≡ left_in p
    part_at_end p i = part_left file limits lay it.round it.era s r it.is p i

    -- and each other one what it had
    pub other_at_end : (u : ℕ) → ((p : Part) → In p r.parts → p.thread ≡ u → ⊥) → (at_end m rs r).local u ≡ s.local u
    other_at_end u none = elim (part_cases s r.first_seat r.parts u it.is.apart) [
      | inl q ↦ absurd (none q.part q.member q.mine)
      | inr q ↦
          local_left_is s u (weave t.tag r.late ++ t.alone)
          ∙ ap (last_local (s.local u)) (thread_all t.tag lay s r.early r.late t.seat t.alone table.worked u
          ∙ deeds_without file limits lay it.round it.era s r it.is u q)
    ]
