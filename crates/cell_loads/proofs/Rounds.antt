-- The timings of all rounds.
use Rattle.std.proofs.Common.{◌≡◌, ◌≤◌, ◌+◌, ◌⊎◌, inl, inr, ℕ, cond, List, [], ◌∷◌, ◌++◌, length, refl, sym, ap, ap₂, subst, ◌∙◌, arith, length-append}
use Rattle.std.proofs.lemmas.List.{map-append, append_assoc}
use Rattle.run_record.specs.declared.entry.Entry.{Entry}
use Rattle.run_record.specs.declared.limits.Limits.{Limits}
use Rattle.turn_orders.specs.Lists.{Each, In, InOrder}
use Rattle.turn_orders.specs.Machine.{State}
use Rattle.turn_orders.specs.LineUp.{Stamped}
use Rattle.turn_orders.proofs.Members.{at_member, all_members, each_append, order_append}
use Rattle.turn_histories.specs.Rounds.{all_entries}
use Rattle.shared_table.specs.declared.object.Object.{Object}
use Rattle.shared_table.specs.declared.view.Item.{Item}
use Rattle.shared_table.specs.declared.view.Item.TheVariants.{Store}
use Rattle.shared_table.specs.declared.view.Layout.{Layout}
use mathlib.Core.Option.{some}
use lib.ListN.{get_elem?}
use Rattle.woven_turns.proofs.Items.{item_in_log}
use Rattle.shared_table.specs.Past.{log_of, Past}
use Rattle.woven_turns.specs.Steps.{Stands}
use Rattle.woven_turns.proofs.Standing.{stands_more}
use Rattle.woven_turns.proofs.Weaving.{in_left, in_right}
use Rattle.placed_detector.specs.Standing.{Hand}
use Rattle.table_deeds.specs.Rounds.{last_stamp, entries_by_round}
use Rattle.hart_parts.specs.Rounds.{PartRound, ArePartRounds, table_round, table_rounds}
use Rattle.cell_loads.specs.Spans.{Step, Timing, entries_timed, WasMade, IsTiming, IsSoonerInRound, IsSoonerEntry, AreTimings}
use Rattle.cell_loads.specs.Pasts.{TouchesNone, AreQuiet, ArePasts}
use Rattle.cell_loads.proofs.Lists.{order_as}
use Rattle.cell_loads.proofs.Steps.{IsLate}
use Rattle.cell_loads.proofs.Walks.{IsStoreOf}
use Rattle.cell_loads.proofs.Round.{IsOfRound, RoundTimed, round_timed}

-- ---- pasts one behind another

-- what stood stands, whatever came later
stands_longer : (more past e : Past) (y : ℕ × Item) → Stands past e y → Stands (more ++ past) e y
stands_longer [] past e y s = s
stands_longer (x ∷ more) past e y s = inr (stands_longer more past e y s)

-- a step of two parts of a past is of one of them
record IsIn (late e : Past) (early : Past) (y : ℕ × Item) : Type 0 where
  made : Past
  stands : Stands late made y
  is : e ≡ made ++ early

stands_parts : (late early e : Past) (y : ℕ × Item) → Stands (late ++ early) e y → IsIn late e early y ⊎ Stands early e y
stands_parts [] early e y s = inr s
stands_parts (x ∷ late) early e y (inl q) = inl (record { made = late; stands = inl (q.0, refl); is = sym q.1 })
stands_parts (x ∷ late) early e y (inr s) = elim (stands_parts late early e y s) [
  | inl r ↦ inl (record { made = r.made; stands = inr r.stands; is = r.is })
  | inr r ↦ inr r
]

-- a past is quiet where its logs are
pub quiet_from_logs : (past : Past) → ((n j : ℕ) (x : Item) → get_elem? (log_of n past) j ≡ some x → TouchesNone x) → AreQuiet past
quiet_from_logs past h = each_step past (λ n made x s. h n (length (log_of n made)) x (item_in_log past made n x s))
  where
    each_step : (late : Past) → ((n : ℕ) (made : Past) (x : Item) → Stands late made (n, x) → TouchesNone x) → AreQuiet late
    each_step [] f = tt
    each_step ((n, x) ∷ late) f = (f n late x (inl (refl, refl)), each_step late (λ k made y s. f k made y (inr s)))

-- no step of a quiet past is a store
quiet_store : (past e : Past) (n c w : ℕ) → AreQuiet past → Stands past e (n, Store c w) → ⊥
quiet_store [] e n c w h s = s
quiet_store (x ∷ past) e n c w h (inl q) = subst (λ (z : ℕ × Item). TouchesNone z.1) q.0 h.0
quiet_store (x ∷ past) e n c w h (inr s) = quiet_store past e n c w h.1 s

after_quiet : (between before e : Past) (n c w : ℕ) → AreQuiet between → Stands (between ++ before) e (n, Store c w) → Stands before e (n, Store c w)
after_quiet between before e n c w h s = elim (stands_parts between before e (n, Store c w) s) [
  | inl r ↦ absurd (quiet_store between r.made n c w h r.stands)
  | inr r ↦ r
]

-- the whole past goes on from each round's
goes_on : (limits : Limits) (past before : Past) (m : State (Stamped Hand) Object) (rs : List PartRound) → ArePasts limits past before m rs →
    (more : Past) × (past ≡ more ++ before)
goes_on limits past before m [] h = (h.0, h.2)
goes_on limits past before m (r ∷ rs) h =
    let z = goes_on limits past (r.late ++ r.early) r.next rs h.1 in (
      z.0 ++ (r.late ++ h.0.between),
      z.1 ∙ (ap (λ (p : Past). z.0 ++ (r.late ++ p)) h.0.early
          ∙ (ap (λ (p : Past). z.0 ++ p) (sym (append_assoc r.late h.0.between before)) ∙ sym (append_assoc z.0 (r.late ++ h.0.between) before))),
    )

-- ---- all rounds

pub record AllTimed (past before : Past) (round : ℕ) (entries : List Entry) : Type 0 where
  pub timings : List Timing
  pub entries_are : entries_timed timings ≡ entries
  pub each : Each (IsTiming past) timings
  pub later : Each (λ (x : Timing). (round ≤ x.entry.round) × (length before ≤ x.start)) timings
  pub order : InOrder IsSoonerEntry timings
  pub stores : (n c w : ℕ) (e : Past) → Stands past e (n, Store c w) → Stands before e (n, Store c w) ⊎ IsStoreOf timings c w (length e)

module _ (file : List ℕ) (limits : Limits) (lay : Layout) (past : Past) where
  pub all_timed : (rs : List PartRound) (round era base : ℕ) (m : State (Stamped Hand) Object) (before : Past) →
      ArePartRounds file limits lay round era base m rs → ArePasts limits past before m rs →
      AllTimed past before round (all_entries (entries_by_round (table_rounds m rs)))
  all_timed [] round era base m before h g = record {
    timings = [];
    entries_are = refl;
    each = tt;
    later = tt;
    order = tt;
    stores = λ n c w e s. inl (after_quiet g.0 before e n c w g.1 (subst (λ (p : Past). Stands p e (n, Store c w)) g.2 s));
  }
  all_timed (r ∷ rs) round era base m before h g =
      make (goes_on limits past (r.late ++ r.early) r.next rs g.1)
      (all_timed rs (round + 1) (cond r.ends (era + 1) era) (last_stamp (table_round m r)) r.next (r.late ++ r.early) h.2 g.1)
    where
      up : (more : Past) → past ≡ more ++ (r.late ++ r.early) → (n : ℕ) (s : Step) → IsLate r.early r.late n s → WasMade past n s
      up more q n s l = record {
        early = l.made ++ r.early;
        stands = subst (λ (p : Past). Stands p (l.made ++ r.early) (n, s.0)) (sym q)
            (stands_longer more (r.late ++ r.early) (l.made ++ r.early) (n, s.0) (stands_more r.late r.early l.made (n, s.0) l.stands));
        place = l.place;
      }

      make : (more : Past) × (past ≡ more ++ (r.late ++ r.early)) →
          AllTimed past (r.late ++ r.early) (round + 1) (all_entries (entries_by_round (table_rounds r.next rs))) →
          AllTimed past before round (all_entries (entries_by_round (table_rounds m (r ∷ rs))))
      make q b = join (round_timed file limits lay round era m r h.1 past before g.0 (up q.0 q.1))
        where
          join : RoundTimed limits past round r → AllTimed past before round (all_entries (entries_by_round (table_rounds m (r ∷ rs))))
          join a = record {
            timings = a.timings ++ b.timings;
            entries_are = map-append (λ (x : Timing). x.entry) a.timings b.timings ∙ ap₂ (λ (xs ys : List Entry). xs ++ ys) a.entries_are b.entries_are;
            each = each_append (IsTiming past) a.timings b.timings (all_members (IsTiming past) a.timings (λ x i. (of_round x i).is)) b.each;
            later = each_append (λ (x : Timing). (round ≤ x.entry.round) × (length before ≤ x.start)) a.timings b.timings
                (all_members (λ (x : Timing). (round ≤ x.entry.round) × (length before ≤ x.start)) a.timings
                (λ x i. let c = its_round x i in let d = (of_round x i).from in let e = begun in (omega arith, omega arith)))
                (all_members (λ (x : Timing). (round ≤ x.entry.round) × (length before ≤ x.start)) b.timings
                (λ x i. let c = later_is x i in let d = c.0 in let e = c.1 in let f = begun in
                (omega arith, omega (arith, length-append r.late r.early, e, f))));
            order = order_append IsSoonerEntry a.timings b.timings
                (order_as IsSoonerInRound IsSoonerEntry a.timings (λ x y i j s. inl s) a.order) b.order
                (λ x y i j. let c = its_round x i in let d = later_is y j in let e = d.0 in let f = d.1 in let k = (of_round x i).to in
                inr (record { round = omega arith; over = omega arith }));
            stores = λ n c w e s. from_late n c w e (b.stores n c w e s);
          }
            where
              of_round : (x : Timing) → In x a.timings → IsOfRound limits past r.early r.late x
              of_round x i = at_member (IsOfRound limits past r.early r.late) x a.timings a.each i

              its_round : (x : Timing) → In x a.timings → x.entry.round ≡ round
              its_round x i = at_member (λ (x : Timing). x.entry.round ≡ round) x a.timings a.rounds i

              later_is : (x : Timing) → In x b.timings → (round + 1 ≤ x.entry.round) × (length (r.late ++ r.early) ≤ x.start)
              later_is x i = at_member (λ (x : Timing). (round + 1 ≤ x.entry.round) × (length (r.late ++ r.early) ≤ x.start)) x b.timings b.later i

              begun : length before ≤ length r.early
              begun = let q = ap (λ (p : Past). length p) g.0.early in omega (arith, q, length-append g.0.between before)

              from_late : (n c w : ℕ) (e : Past) → Stands (r.late ++ r.early) e (n, Store c w) ⊎ IsStoreOf b.timings c w (length e) →
                  Stands before e (n, Store c w) ⊎ IsStoreOf (a.timings ++ b.timings) c w (length e)
              from_late n c w e (inr z) = inr (z.0, in_right z.0 a.timings b.timings z.1, z.2)
              from_late n c w e (inl s) = elim (stands_parts r.late r.early e (n, Store c w) s) [
                | inl k ↦
                    let z = a.stores n c w k.made k.stands in
                    inr (
                      z.0,
                      in_left z.0 a.timings b.timings z.1,
                      subst (λ (p : ℕ). In (Store c w, p) (Rattle.cell_loads.specs.Spans.steps_of z.0.checked)) (ap (λ (p : Past). length p) (sym k.is)) z.2,
                    )
                | inr k ↦ inl (after_quiet g.0.between before e n c w g.0.quiet (subst (λ (p : Past). Stands p e (n, Store c w)) g.0.early k))
              ]

  -- the entries of all rounds have right timings in the past
  pub timings_of : (rs : List PartRound) (round era base : ℕ) (m : State (Stamped Hand) Object) → ArePartRounds file limits lay round era base m rs →
      ArePasts limits past [] m rs →
      (xs : List Timing) × (entries_timed xs ≡ all_entries (entries_by_round (table_rounds m rs))) × AreTimings past xs
  timings_of rs round era base m h g =
      let a = all_timed rs round era base m [] h g in
      (a.timings, a.entries_are, record { each = a.each; order = a.order; stores = λ n c w e s. elim (a.stores n c w e s) [ inl z ↦ absurd z | inr z ↦ z ] })
