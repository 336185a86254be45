-- Each step keeps the rule.
use Rattle.std.proofs.Common.{◌≡◌, ◌≢◌, ℕ, zero, suc, ◌+◌, ◌*◌, ◌/◌, ◌%◌, ◌^◌, ◌<◌, ◌≤◌, true, eqb, List, [], ◌∷◌, ◌++◌, length, set, get_or, Option, None, Some, refl, sym, ap, ◌∙◌, subst, ◌⊎◌, inl, inr, ⊎_elim, arith, eq-eqb, ne_eqb, length-set, get_or-set_other, get_or-set_same}
use mathlib.Core.Logic.{dite}
use mathlib.Core.Option.{Option as Maybe, some, none, some-injective, some-ne-none}
use native.Mathlib.Decide.{ℕ_discrete}
use lib.ListN.{get_elem?}
use lib.Seq.{set-get_or}
use prog.Atomic.{either}
use Rattle.atomic_table.specs.Table.{State, keeps, takes, gives, step, stepped, opening, carried_after, Allows, Splits, Joins}
use Rattle.atomic_table.proofs.Lists.{at_set, at_map, set_here, set_else, set_again, at_longer, at_last}
use Rattle.shared_table.specs.declared.object.Object.{Object}
use Rattle.shared_table.specs.declared.view.Layout.{Layout}
use Rattle.shared_table.specs.declared.view.Item.{Item}
use Rattle.shared_table.specs.declared.view.Item.TheVariants.{Split, Join, Take, Give, Load, Store}
use Rattle.shared_table.specs.declared.view.Held.{Held}
use Rattle.shared_table.specs.declared.view.View.{View}
use Rattle.shared_table.specs.Past.{Slot, Log, Past, IsSound, IsSoundSlot, Turns, turns_at, turns_of, word_by, word_of, cell_of, log_of, logs_after, logs_of, IsOut, Allowed, Lawful, IsCellWord}
use Rattle.shared_table.specs.Layouts.{objects_of, cells_of, first_of}
use Rattle.shared_table.specs.Rule.{word_place, slot_place, cell_place, HoldsObject, opener, home_of, HasTurn, Knows, Kept}
use Rattle.shared_table.specs.Steps.{Mine, logged, holding, took, gave, loaded, stored, parted, new_seat, joined, spent, FoundLast, IfOpening, taken, given, load_told, store_told, learned}
use Rattle.shared_table.proofs.Pasts.{if_here, if_else, some_below, Ends, fresh_log, out_stays, log_mine, log_else, turn_stays, sound_stays, cell_word, by_stays, holder_out}

words_set : (ws : List ℕ) (m k n : ℕ) (g g' : ℕ → ℕ) → word_place k < length ws → g' k ≡ n → ((j : ℕ) → j ≢ k → g' j ≡ g j) → ((j : ℕ) → j < m → get_or ws (word_place j) 0 ≡ g j) → (j : ℕ) → j < m → get_or (set ws (word_place k) n) (word_place j) 0 ≡ g' j
words_set ws m k n g g' l here other was j b = dite (ℕ_discrete j k)
    (λ e. ap (λ (z : ℕ). get_or (set ws (word_place k) n) (word_place z) 0) e ∙ (get_or-set_same ws (word_place k) n 0 l ∙ (sym here ∙ ap g' (sym e))))
    (λ o. get_or-set_other ws (word_place k) (word_place j) n 0 (λ e. o (omega arith)) ∙ (was j b ∙ sym (other j o)))

homes_set : (hs : List (Maybe Slot)) (m k : ℕ) (n : Maybe Slot) (g g' : ℕ → Maybe Slot) → slot_place k < length hs → g' k ≡ n → ((j : ℕ) → j ≢ k → g' j ≡ g j) → ((j : ℕ) → j < m → get_elem? hs (slot_place j) ≡ some (g j)) → (j : ℕ) → j < m → get_elem? (set hs (slot_place k) n) (slot_place j) ≡ some (g' j)
homes_set hs m k n g g' l here other was j b = dite (ℕ_discrete j k)
    (λ e. ap (λ (z : ℕ). get_elem? (set hs (slot_place k) n) (slot_place z)) e ∙ (set_here hs (slot_place k) n l ∙ ap some (sym here ∙ ap g' (sym e))))
    (λ o. set_else hs (slot_place k) (slot_place j) n (λ e. o (omega arith)) ∙ (was j b ∙ ap some (sym (other j o))))

-- who has the open turn of an object found what the last turn left
found_by : (lay : Layout) (past : Past) (n : ℕ) (h : Option Held) → HasTurn lay past n h → FoundLast lay past h
found_by lay past n None t = tt
found_by lay past n (Some h) t = ap (λ (z : Turns). z.value) t.0

abbrev first_value : List (ℕ × Slot) → Slot
first_value [] = None
first_value (x ∷ xs) = x.1

module _ (lay : Layout) where
  abbrev St : Type 0
  St = State Slot View

  abbrev Rule : St → Type 0
  Rule = Kept lay

  holds_turn : (past : Past) (n m : ℕ) (x : Item) (h : Option Held) → n ≢ m → Allowed lay past n x → HasTurn lay past m h → HasTurn lay ((n, x) ∷ past) m h
  holds_turn past n m x None ne ok t = tt
  holds_turn past n m x (Some h) ne ok t = (turn_stays lay past n m h.object h.done (Some h.found) x ne ok t.0, t.1, t.2)

  -- a step of another seat changes no list of logs of the opening seat
  logs_stay : (past : Past) (n : ℕ) (x : Item) → n ≢ 0 → Allowed lay past n x → logs_after past x (logs_of past) ≡ logs_of past
  logs_stay past n (Split j) ne ok = absurd (ne ok.0)
  logs_stay past n (Join j) ne ok = absurd (ne ok.0)
  logs_stay past n (Take j t) ne ok = refl
  logs_stay past n (Give j t found left) ne ok = refl
  logs_stay past n (Load c w) ne ok = refl
  logs_stay past n (Store c w) ne ok = refl

  -- what another seat knows stays so
  others_know : (past : Past) (n : ℕ) (x : Item) (u : View) → n ≢ u.number → Allowed lay past n x → ¬ Ends u.number x → Knows lay past u → Knows lay ((n, x) ∷ past) u
  others_know past n x u ne ok on k = record {
    out = out_stays past n u.number x on k.out;
    log = k.log ∙ sym (log_else past n u.number x ne);
    turn = holds_turn past n u.number x u.held ne ok k.turn;
    only = λ j e. k.only j (by_stays lay past n u.number j x ne e);
    logs = λ e. k.logs e ∙ sym (logs_stay past n x (λ z. ne (z ∙ sym e)) ok);
    same_layout = k.same_layout;
  }

  module _ (s : St) (r : Rule s) (id : ℕ) (v : View) (at : get_elem? s.views id ≡ some v) (live : v.live ≡ true) where
    abbrev now : Item → Past
    now x = (v.number, x) ∷ r.past

    -- after a step of the seat, whose view becomes w, all seats know what they have to
    all_know : (x : Item) (w : View) → Allowed lay r.past v.number x → Knows lay (now x) w
        → (j : ℕ) (u : View) → (get_elem? s.views j ≡ some u → ¬ Ends u.number x) → get_elem? (set s.views id w) j ≡ some u → u.live ≡ true → Knows lay (now x) u
    all_know x w ok mine j u on e is = ⊎_elim (λ (t : (j ≡ id) × (w ≡ u)). subst (λ (z : View). Knows lay (now x) z) t.1 mine)
        (λ (t : (j ≢ id) × (get_elem? s.views j ≡ some u)). let ne : v.number ≢ u.number = λ same. t.0 (sym (r.apart id j v u at t.1 live is same)) in
        others_know r.past v.number x u ne ok (on t.1) (r.seats j u t.1 is))
        (at_set s.views id j w u e)

    still_apart : (w : View) → w.number ≡ v.number → (i j : ℕ) (a b : View) → get_elem? (set s.views id w) i ≡ some a → get_elem? (set s.views id w) j ≡ some b → a.live ≡ true → b.live ≡ true → a.number ≡ b.number → i ≡ j
    still_apart w same i j a b ea eb la lb e = ⊎_elim
        (λ (p : (i ≡ id) × (w ≡ a)). ⊎_elim
        (λ (q : (j ≡ id) × (w ≡ b)). p.0 ∙ sym q.0)
        (λ (q : (j ≢ id) × (get_elem? s.views j ≡ some b)). p.0 ∙ r.apart id j v b at q.1 live lb (sym same ∙ (ap (λ (z : View). z.number) p.1 ∙ e)))
        (at_set s.views id j w b eb))
        (λ (p : (i ≢ id) × (get_elem? s.views i ≡ some a)). ⊎_elim
        (λ (q : (j ≡ id) × (w ≡ b)). r.apart i id a v p.1 at la live (e ∙ sym (ap (λ (z : View). z.number) q.1) ∙ same) ∙ sym q.0)
        (λ (q : (j ≢ id) × (get_elem? s.views j ≡ some b)). r.apart i j a b p.1 q.1 la lb e)
        (at_set s.views id j w b eb))
        (at_set s.views id i w a ea)

    -- each seat that is out has a view still
    present_set : (w : View) → w.number ≡ v.number → w.live ≡ true → (m : ℕ) → IsOut r.past m → (j : ℕ) × (u : View) × (get_elem? (set s.views id w) j ≡ some u) × (u.live ≡ true) × (u.number ≡ m)
    present_set w same alive m out =
        let p = r.present m out in
        dite (ℕ_discrete p.0 id)
        (λ e. let is : v ≡ p.1 = some-injective v p.1 (sym at ∙ (ap (λ (z : ℕ). get_elem? s.views z) (sym e) ∙ p.2)) in
        (id, w, set_here s.views id w (some_below s.views id v at), alive, same ∙ (ap (λ (z : View). z.number) is ∙ p.4)))
        (λ o. (p.0, p.1, set_else s.views id p.0 w o ∙ p.2, p.3, p.4))

    -- what the seat knows after a step that is no split and no join
    i_know : (x : Item) (h : Option Held) → ((k : ℕ) → (turns_of lay k (now x)).by ≡ Some v.number → HoldsObject k h) → ¬ Ends v.number x → logs_after r.past x (logs_of r.past) ≡ logs_of r.past → HasTurn lay (now x) v.number h → Knows lay (now x) (logged v x h)
    i_know x h only on same turn = let k = r.seats id v at live in record {
      out = out_stays r.past v.number v.number x on k.out;
      log = ap (λ l. l ++ x ∷ []) k.log ∙ sym (log_mine r.past v.number x);
      turn = turn;
      only = only;
      logs = λ e. k.logs e ∙ sym same;
      same_layout = k.same_layout;
    }

    tells : IfOpening v
    tells e = let k = r.seats id v at live in (
      r.past,
      subst (λ (z : Layout). Lawful z r.past) (sym k.same_layout) r.lawful,
      k.logs e,
      k.log ∙ ap (λ n. log_of n r.past) e,
      subst (λ (z : Layout). FoundLast z r.past v.held) (sym k.same_layout) (found_by lay r.past v.number v.held k.turn),
    )

    -- the item is added to the past, and the words and homes are those of the longer past
    goes_on : (x : Item) (w : View) (ws : List ℕ) (hs : List (Maybe Slot)) → Allowed lay r.past v.number x → ((m : ℕ) → ¬ Ends m x) → Knows lay (now x) w → w.number ≡ v.number → w.live ≡ true → logs_after r.past x (logs_of r.past) ≡ logs_of r.past → length ws ≡ length s.words
        → ((k : ℕ) → k < objects_of lay → get_or ws (word_place k) 0 ≡ word_of (turns_of lay k (now x)))
        → ((k : ℕ) → k < objects_of lay → get_elem? hs (slot_place k) ≡ some (home_of (turns_of lay k (now x))))
        → ((c : ℕ) → c < cells_of lay → get_or ws (cell_place lay c) 0 ≡ cell_of c (now x))
        → Rule record { words = ws; homes = hs; views = set s.views id w }
    goes_on x w ws hs ok on mine same alive calm_logs long words homes stores = record {
      past = now x;
      lawful = ((r.seats id v at live).out, ok, r.lawful);
      sound = r.sound;
      wide = long ∙ r.wide;
      words = words;
      homes = homes;
      stores = stores;
      seats = λ j u e is. all_know x w ok mine j u (λ _. on u.number) e is;
      apart = still_apart w same;
      present = λ m out. present_set w same alive m (subst (λ (l : List (Option Log)). get_elem? l m ≡ some None) calm_logs out);
    }

    wide_enough : 8 * objects_of lay + cells_of lay ≤ length s.words
    wide_enough = let w = r.wide in omega arith

    take_hit : (k d : ℕ) (y : Object) (cs : List (ℕ × Slot)) → v.held ≡ None → k < objects_of lay → turns_of lay k r.past ≡ turns_at d (Some y) None → 2 * d + 2 < 18446744073709551616
        → Rule (stepped s (word_place k) (2 * d + 1) id cs (took v k d y) (takes (slot_place k) (Some y)))
    take_hit k d y cs none_held l is small =
        let x : Item = Take k (d + 1) in
        let n : ℕ = v.number in
        let wide = wide_enough in
        let there : turns_of lay k (now x) ≡ turns_at d (Some y) (Some n) = if_here k k (turns_at (turns_of lay k r.past).done (turns_of lay k r.past).value (Some n)) (turns_of lay k r.past) refl ∙ ap (λ (z : Turns). turns_at z.done z.value (Some n)) is in
        let else_ : (j : ℕ) → j ≢ k → turns_of lay j (now x) ≡ turns_of lay j r.past = λ j o. if_else k j _ (turns_of lay j r.past) (λ e. o (sym e)) in
        goes_on x (took v k d y) (set s.words (word_place k) (2 * d + 1)) (set s.homes (slot_place k) none)
        (l, ap (λ (z : Turns). z.by) is, ap (λ (z : Turns). z.done + 1) (sym is))
        (λ m e. e)
        (i_know x (Some (holding k d y))
        (λ j e. dite (ℕ_discrete k j) (λ q. q) (λ o. absurd (subst (HoldsObject j) none_held ((r.seats id v at live).only j (ap (λ (z : Turns). z.by) (sym (else_ j (λ q. o (sym q)))) ∙ e)))))
        (λ e. e) refl (there, l, small))
        refl
        live
        refl
        (length-set s.words (word_place k) (2 * d + 1))
        (words_set s.words (objects_of lay) k (2 * d + 1) (λ j. word_of (turns_of lay j r.past)) (λ j. word_of (turns_of lay j (now x))) (omega arith) (ap word_of there) (λ j o. ap word_of (else_ j o)) r.words)
        (homes_set s.homes (objects_of lay) k none (λ j. home_of (turns_of lay j r.past)) (λ j. home_of (turns_of lay j (now x))) (some_below s.homes (slot_place k) _ (r.homes k l)) (ap home_of there) (λ j o. ap home_of (else_ j o)) r.homes)
        (λ c m. get_or-set_other s.words (word_place k) (cell_place lay c) (2 * d + 1) 0 (λ e. omega arith) ∙ r.stores c m)

    give_hit : (h : Held) (y : Object) → v.held ≡ Some h → HasTurn lay r.past v.number (Some h) → IsSound lay h.object y
        → Rule (stepped s (word_place h.object) (2 * h.done + 2) id ((slot_place h.object, Some y) ∷ []) (gave v h y) gives)
    give_hit h y held t ok =
        let k : ℕ = h.object in
        let d : ℕ = h.done in
        let is = t.0 in
        let l : k < objects_of lay = t.1 in
        let x : Item = Give k (d + 1) h.found y in
        let wide = wide_enough in
        let there : turns_of lay k (now x) ≡ turns_at (d + 1) (Some y) None = if_here k k (turns_at ((turns_of lay k r.past).done + 1) (Some y) None) (turns_of lay k r.past) refl ∙ ap (λ (z : Turns). turns_at (z.done + 1) (Some y) None) is in
        let else_ : (j : ℕ) → j ≢ k → turns_of lay j (now x) ≡ turns_of lay j r.past = λ j o. if_else k j _ (turns_of lay j r.past) (λ e. o (sym e)) in
        goes_on x (gave v h y) (set s.words (word_place k) (2 * d + 2)) (set s.homes (slot_place k) (some (Some y)))
        (l, ap (λ (z : Turns). z.by) is, ap (λ (z : Turns). z.done + 1) (sym is), ap (λ (z : Turns). z.value) is, ok)
        (λ m e. e)
        (i_know x None
        (λ j e. dite (ℕ_discrete k j)
        (λ q. let st = turns_of lay j r.past in let f = ap (λ (z : Turns). z.by) (if_here k j (turns_at (st.done + 1) (Some y) None) st q) in let g : None ≡ Some v.number = sym f ∙ e in cc)
        (λ o. o (subst (HoldsObject j) held ((r.seats id v at live).only j (ap (λ (z : Turns). z.by) (sym (else_ j (λ q. o (sym q)))) ∙ e)))))
        (λ e. e) refl tt)
        refl
        live
        refl
        (length-set s.words (word_place k) (2 * d + 2))
        (words_set s.words (objects_of lay) k (2 * d + 2) (λ j. word_of (turns_of lay j r.past)) (λ j. word_of (turns_of lay j (now x))) (omega arith) (ap word_of there ∙ omega arith) (λ j o. ap word_of (else_ j o)) r.words)
        (homes_set s.homes (objects_of lay) k (some (Some y)) (λ j. home_of (turns_of lay j r.past)) (λ j. home_of (turns_of lay j (now x))) (some_below s.homes (slot_place k) _ (r.homes k l)) (ap home_of there) (λ j o. ap home_of (else_ j o)) r.homes)
        (λ c m. get_or-set_other s.words (word_place k) (cell_place lay c) (2 * d + 2) 0 (λ e. omega arith) ∙ r.stores c m)

  -- a step that changes nothing
  same_state : (s : St) (i id : ℕ) (cs : List (ℕ × Slot)) (v : View) → get_elem? s.views id ≡ some v → Rule s → Rule (stepped s i (get_or s.words i 0) id cs v keeps)
  same_state s i id cs v at r = subst Rule (λ k. record { words = sym (set-get_or s.words i 0) k; homes = s.homes; views = sym (set_again s.views id v at) k }) r

  pub learns : (slots id : ℕ) (me : Mine) (i : ℕ) → me.0.live ≡ true → Allows Rule slots id me i (λ n. n) (learned (step slots i 0 0 none) me)
  learns slots id me i live s r _ at _ = (me.0, keeps, tt, same_state s i id me.1 me.0 at r, (refl, tells s r id me.0 at live))

  even_free : (d : ℕ) (b : Option ℕ) → word_by d b % 2 ≡ 0 → (b ≡ None) × (word_by d b ≡ 2 * d)
  even_free d None e = (refl, refl)
  even_free d (Some n) e = absurd (omega arith)

  sound_value : (k : ℕ) (x : Slot) → IsSoundSlot lay k x → (y : Object) × (x ≡ Some y) × IsSound lay k y
  sound_value k None h = absurd h
  sound_value k (Some y) h = (y, refl, h)

  pub takes_turn : (slots id : ℕ) (me : Mine) (k old new : ℕ) → me.0.live ≡ true → me.0.layout ≡ lay → me.0.held ≡ None → k < objects_of lay → old % 2 ≡ 0 → old + 2 < 18446744073709551616 → new ≡ old + 1
      → Allows Rule slots id me (word_place k) (λ n. either (eqb n old) new n) (taken (step slots (word_place k) old new none) me)
  takes_turn slots id me k old new live same_layout none_held l even small up s r _ at _ =
      let n : ℕ = get_or s.words (word_place k) 0 in
      dite (ℕ_discrete n old)
      (λ hit.
      let st : Turns = turns_of lay k r.past in
      let word : n ≡ word_by st.done st.by = r.words k l in
      let free = even_free st.done st.by (ap (λ (z : ℕ). z % 2) (sym word ∙ hit) ∙ even) in
      let double : old ≡ 2 * st.done = sym hit ∙ (word ∙ free.1) in
      let val = sound_value k st.value (sound_stays lay r.past k (r.sound k l) r.lawful) in
      let y : Object = val.0 in
      let is : st ≡ turns_at st.done (Some y) None = λ i. turns_at st.done (val.1 i) (free.0 i) in
      let home : get_elem? s.homes (slot_place k) ≡ some (some (Some y)) = r.homes k l ∙ ap (λ z. some (home_of z)) is in
      let half : st.done ≡ old / 2 = omega arith in
      let kept = take_hit s r id me.0 at live k st.done y me.1 none_held l is (omega arith) in
      let next : new ≡ 2 * st.done + 1 = omega arith in
      let w : View = took me.0 k (old / 2) y in
      let after : Rule (stepped s (word_place k) new id me.1 w (takes (slot_place k) (Some y))) = subst (λ (z : ℕ × ℕ). Rule (stepped s (word_place k) z.0 id me.1 (took me.0 k z.1 y) (takes (slot_place k) (Some y)))) (λ i. (sym next i, half i)) kept in
      let told = tells record { words = set s.words (word_place k) new; homes = set s.homes (slot_place k) none; views = set s.views id w } after id w (set_here s.views id w (some_below s.views id me.0 at)) live in
      let carried : List (ℕ × Slot) = (slot_place k, Some y) ∷ me.1 in (
        w,
        takes (slot_place k) (Some y),
        home,
        subst (λ b. Rule (stepped s (word_place k) (either b new n) id me.1 w (takes (slot_place k) (Some y)))) (sym (eq-eqb n old hit)) after,
        (
          (λ _ j e. let same : k ≡ j = omega arith in
              subst (λ (j : ℕ). (x : Object) × IsSound me.0.layout j x × (let a : Mine = (w, carried) in a ≡ (took me.0 j (old / 2) x, (slot_place j, Some x) ∷ me.1)) × IfOpening w) same
              (y, subst (λ (z : Layout). IsSound z k y) (sym same_layout) val.2, refl, told)),
          λ not. absurd (not hit),
        ),
      ))
      (λ miss. (
        me.0,
        keeps,
        tt,
        subst (λ b. Rule (stepped s (word_place k) (either b new n) id me.1 me.0 keeps)) (sym (ne_eqb n old miss)) (same_state s (word_place k) id me.1 me.0 at r),
        ((λ hit. absurd (miss hit)), λ _. refl),
      ))

  pub gives_turn : (slots id : ℕ) (me : Mine) (h : Held) (k : ℕ) (y : Object) → me.0.live ≡ true → me.0.held ≡ Some h → h.object ≡ k → me.1 ≡ (slot_place k, Some y) ∷ [] → IsSound lay k y
      → Allows Rule slots id me (word_place k) (λ n. (n + 1) % 2 ^ 64) (given (step slots (word_place k) 1 0 none) me)
  gives_turn slots id me h k y live held here out ok s r _ at _ =
      let v : View = me.0 in
      let know = r.seats id v at live in
      let turn : HasTurn lay r.past v.number (Some h) = subst (HasTurn lay r.past v.number) held know.turn in
      let l : k < objects_of lay = subst (λ (z : ℕ). z < objects_of lay) here turn.1 in
      let n : ℕ = get_or s.words (word_place k) 0 in
      let word : n ≡ 2 * h.done + 1 = r.words k l ∙ ap (λ (z : ℕ). word_of (turns_of lay z r.past)) (sym here) ∙ ap word_of turn.0 in
      let small = turn.2 in
      let next : (n + 1) % 2 ^ 64 ≡ 2 * h.done + 2 = omega arith in
      let kept = give_hit s r id v at live h y held turn (subst (λ (z : ℕ). IsSound lay z y) (sym here) ok) in (
        gave v h y,
        gives,
        tt,
        subst (λ (z : ℕ × (ℕ × List (ℕ × Slot))). Rule (stepped s (word_place z.0) z.1.0 id z.1.1 (gave v h y) gives)) (λ i. (here i, (sym next i, (ap (λ (j : ℕ). (slot_place j, Some y) ∷ []) here ∙ sym out) i))) kept,
        λ h' slot y' held' out'. given_is v h h' y y' me.1 (slot_place k) slot (sym held ∙ held') out out',
      )
    where
      given_is : (v : View) (h h' : Held) (y y' : Object) (c : List (ℕ × Slot)) (k j : ℕ) → Some h ≡ Some h' → c ≡ (k, Some y) ∷ [] → c ≡ (j, Some y') ∷ [] → let m : Mine = (gave v h y, carried_after c gives) in m ≡ (gave v h' y', [])
      given_is v h h' y y' c k j a b b' =
          let e : h ≡ h' = cc in
          let g : Some y ≡ Some y' = ap first_value (sym b ∙ b') in
          let f : y ≡ y' = cc in
          λ i. (gave v (e i) (f i), carried_after (b i) gives)

  calm : (past past' : Past) (n : ℕ) (h : Option Held) → ((k : ℕ) → turns_of lay k past' ≡ turns_of lay k past) → HasTurn lay past n h → HasTurn lay past' n h
  calm past past' n None same t = tt
  calm past past' n (Some h) same t = (same h.object ∙ t.0, t.1, t.2)

  pub loads_cell : (slots id : ℕ) (me : Mine) (c : ℕ) → me.0.live ≡ true → c < cells_of lay
      → Allows Rule slots id me (cell_place lay c) (λ n. n) (load_told (step slots (cell_place lay c) 0 0 none) me)
  loads_cell slots id me c live l s r _ at _ =
      let v : View = me.0 in
      let know = r.seats id v at live in
      let i : ℕ = cell_place lay c in
      let n : ℕ = get_or s.words i 0 in
      let x : Item = Load c n in
      let w : View = loaded v c n in
      let known = i_know s r id v at live x v.held know.only (λ e. e) refl (calm r.past ((v.number, x) ∷ r.past) v.number v.held (λ _. refl) know.turn) in
      let kept = goes_on s r id v at live x w s.words s.homes (l, r.stores c l) (λ _ e. e) known refl live refl refl r.words r.homes r.stores in (
        w,
        keeps,
        tt,
        subst (λ ws. Rule record { words = ws; homes = s.homes; views = set s.views id w }) (sym (set-get_or s.words i 0)) kept,
        λ j e. let is : c ≡ j = let f = ap objects_of know.same_layout in omega arith in
            ((λ k. (loaded v (is k) n, me.1)), λ some_word. subst (λ (z : Layout). IsCellWord z n) (sym know.same_layout) (subst (IsCellWord lay) (sym (r.stores c l)) (cell_word lay r.past c r.lawful (λ z. some_word (r.stores c l ∙ z))))),
      )

  pub stores_cell : (slots id : ℕ) (me : Mine) (c n : ℕ) → me.0.live ≡ true → c < cells_of lay → IsCellWord lay n
      → Allows Rule slots id me (cell_place lay c) (λ _. n) (λ _. store_told (step slots (cell_place lay c) n 0 none) me n)
  stores_cell slots id me c n live l ok s r _ at _ =
      let v : View = me.0 in
      let know = r.seats id v at live in
      let i : ℕ = cell_place lay c in
      let x : Item = Store c n in
      let w : View = stored v c n in
      let wide = wide_enough s r id v at live in
      let known = i_know s r id v at live x v.held know.only (λ e. e) refl (calm r.past ((v.number, x) ∷ r.past) v.number v.held (λ _. refl) know.turn) in
      let kept = goes_on s r id v at live x w (set s.words i n) s.homes (l, ok) (λ _ e. e) known refl live refl (length-set s.words i n)
      (λ k m. get_or-set_other s.words i (word_place k) n 0 (λ e. omega arith) ∙ r.words k m)
      r.homes
      (λ j m. dite (ℕ_discrete c j)
      (λ e. ap (λ (z : ℕ). get_or (set s.words i n) (cell_place lay z) 0) (sym e) ∙ (get_or-set_same s.words i n 0 (omega arith) ∙ sym (if_here c j n (cell_of j r.past) e)))
      (λ o. get_or-set_other s.words i (cell_place lay j) n 0 (λ e. o (omega arith)) ∙ (r.stores j m ∙ sym (if_else c j n (cell_of j r.past) o)))) in (
        w,
        keeps,
        tt,
        kept,
        λ j e. let is : c ≡ j = let f = ap objects_of know.same_layout in omega arith in λ k. (stored v (is k) n, me.1),
      )

  at_end : {A : Type 0} (l : List A) (a b : A) (j : ℕ) → get_elem? (l ++ a ∷ []) j ≡ some b → (get_elem? l j ≡ some b) ⊎ ((j ≡ length l) × (a ≡ b))
  at_end [] a b zero e = inr (refl, some-injective a b e)
  at_end [] a b (suc j) e = absurd (some-ne-none b (sym e))
  at_end (x ∷ xs) a b zero e = inl e
  at_end (x ∷ xs) a b (suc j) e = ⊎_elim (λ p. inl p) (λ p. let q = p.0 in inr (omega arith, p.1)) (at_end xs a b j e)

  pub splits_seat : (id : ℕ) (v : View) → v.live ≡ true → v.number ≡ 0 → Splits Rule id v (parted v) (new_seat v)
  splits_seat id v live opening s r at =
      let know = r.seats id v at live in
      let no_log : Option Log = None in
      let m : ℕ = length v.logs in
      let x : Item = Split m in
      let w : View = parted v in
      let new : View = new_seat v in
      let logs = know.logs opening in
      let past' : Past = (v.number, x) ∷ r.past in
      let vs : List View = set s.views id w in
      let below : v.number < length (logs_of r.past) = some_below (logs_of r.past) v.number None know.out in
      let many : m ≡ length (logs_of r.past) = ap (λ (l : List (Option Log)). length l) logs in
      let ok : Allowed lay r.past v.number x = (opening, many) in
      let mine : Knows lay past' w = record {
        out = out_stays r.past v.number v.number x (λ e. e) know.out;
        log = ap (λ l. l ++ x ∷ []) know.log ∙ sym (log_mine r.past v.number x);
        turn = calm r.past past' v.number v.held (λ _. refl) know.turn;
        only = know.only;
        logs = λ _. ap (λ l. l ++ None ∷ []) logs;
        same_layout = know.same_layout;
      } in
      let theirs : Knows lay past' new = record {
        out = at_last (logs_of r.past) None m (sym many);
        log = sym (log_else r.past v.number m x (λ e. omega arith) ∙ fresh_log lay r.past m r.lawful (omega arith));
        turn = tt;
        only = λ k e. absurd (let b = some_below (logs_of r.past) m None (holder_out lay r.past k m r.lawful e) in omega arith);
        logs = λ e. absurd (omega arith);
        same_layout = know.same_layout;
      } in
      let before = still_apart s r id v at live w refl in
      let lower : (j : ℕ) (u : View) → get_elem? vs j ≡ some u → u.live ≡ true → u.number < m = λ j u e is.
      ⊎_elim (λ (t : (j ≡ id) × (w ≡ u)). let f = ap (λ (z : View). z.number) t.1 in omega arith)
      (λ (t : (j ≢ id) × (get_elem? s.views j ≡ some u)). let f = some_below (logs_of r.past) u.number None (r.seats j u t.1 is).out in omega arith)
      (at_set s.views id j w u e) in
      record {
        past = past';
        lawful = (know.out, ok, r.lawful);
        sound = r.sound;
        wide = r.wide;
        words = r.words;
        homes = r.homes;
        stores = r.stores;
        seats = λ j u e is. ⊎_elim
            (λ was. all_know s r id v at live x w ok mine j u (λ _ z. z) was is)
            (λ (t : (j ≡ length vs) × (new ≡ u)). subst (λ (z : View). Knows lay past' z) t.1 theirs)
            (at_end vs new u j e);
        apart = λ i j a b ea eb la lb e. ⊎_elim
            (λ p. ⊎_elim
            (λ q. before i j a b p q la lb e)
            (λ (q : (j ≡ length vs) × (new ≡ b)). let f = ap (λ (z : View). z.number) q.1 in let g = lower i a p la in absurd (omega arith))
            (at_end vs new b j eb))
            (λ (p : (i ≡ length vs) × (new ≡ a)). ⊎_elim
            (λ q. let f = ap (λ (z : View). z.number) p.1 in let g = lower j b q lb in absurd (omega arith))
            (λ (q : (j ≡ length vs) × (new ≡ b)). p.0 ∙ sym q.0)
            (at_end vs new b j eb))
            (at_end vs new a i ea);
        present = λ n out. ⊎_elim
            (λ was. let p = present_set s r id v at live w refl live n was in (p.0, p.1, at_longer vs (new ∷ []) p.0 p.1 p.2, p.3, p.4))
            (λ (t : (n ≡ length (logs_of r.past)) × (no_log ≡ no_log)). (length vs, new, at_last vs new (length vs) refl, refl, many ∙ sym t.0))
            (at_end (logs_of r.past) no_log no_log n out);
      }

  pub joins_seat : (id : ℕ) (v : View) (other : ℕ) (u : View) → v.live ≡ true → v.number ≡ 0 → u.live ≡ true → u.held ≡ None → Joins Rule id v other u (joined v u) spent
  joins_seat id v other u live opening alive free s r at ne there =
      let know = r.seats id v at live in
      let was : get_elem? s.views other ≡ some u = sym (set_else s.views id other (joined v u) ne) ∙ there in
      let know' = r.seats other u was alive in
      let m : ℕ = u.number in
      let differs : v.number ≢ m = λ e. ne (r.apart other id u v was at alive live (sym e)) in
      let x : Item = Join m in
      let w : View = joined v u in
      let past' : Past = (v.number, x) ∷ r.past in
      let vs : List View = set s.views id w in
      let ok : Allowed lay r.past v.number x = (opening, (λ e. differs (opening ∙ sym e)), know'.out, λ k e. subst (HoldsObject k) free (know'.only k e)) in
      let mine : Knows lay past' w = record {
        out = out_stays r.past v.number v.number x differs know.out;
        log = ap (λ l. l ++ x ∷ []) know.log ∙ sym (log_mine r.past v.number x);
        turn = calm r.past past' v.number v.held (λ _. refl) know.turn;
        only = know.only;
        logs = λ e. λ i. set (know.logs e i) m (Some (know'.log i));
        same_layout = know.same_layout;
      } in
      record {
        past = past';
        lawful = (know.out, ok, r.lawful);
        sound = r.sound;
        wide = r.wide;
        words = r.words;
        homes = r.homes;
        stores = r.stores;
        seats = λ j z e is. ⊎_elim
            (λ (t : (j ≡ other) × (spent ≡ z)). absurd (dead z (sym t.1) is))
            (λ (t : (j ≢ other) × (get_elem? vs j ≡ some z)). all_know s r id v at live x w ok mine j z (λ old same. t.0 (r.apart j other z u old was is alive same)) t.1 is)
            (at_set vs other j spent z e);
        apart = λ i j a b ea eb la lb e. ⊎_elim
            (λ (p : (i ≡ other) × (spent ≡ a)). absurd (dead a (sym p.1) la))
            (λ (p : (i ≢ other) × (get_elem? vs i ≡ some a)). ⊎_elim
            (λ (q : (j ≡ other) × (spent ≡ b)). absurd (dead b (sym q.1) lb))
            (λ (q : (j ≢ other) × (get_elem? vs j ≡ some b)). still_apart s r id v at live w refl i j a b p.1 q.1 la lb e)
            (at_set vs other j spent b eb))
            (at_set vs other i spent a ea);
        present = λ n out. ⊎_elim
            (λ (t : (n ≡ m) × (Some (log_of m r.past) ≡ None)). absurd (let e = t.1 in cc))
            (λ (t : (n ≢ m) × IsOut r.past n). let p = present_set s r id v at live w refl live n t.1 in
            let away : p.0 ≢ other = λ e. let is : u ≡ p.1 = some-injective u p.1 (sym there ∙ (ap (λ (z : ℕ). get_elem? vs z) (sym e) ∙ p.2)) in t.0 (sym (ap (λ (z : View). z.number) is ∙ p.4)) in
            (p.0, p.1, set_else vs other p.0 spent away ∙ p.2, p.3, p.4))
            (at_set (logs_of r.past) m n (Some (log_of m r.past)) None out);
      }
    where
      dead : (z : View) → z ≡ spent → z.live ≡ true → ⊥
      dead z e is = let f = ap (λ (y : View). y.live) e in cc

  pub begins : (ws : List ℕ) (xs : List Slot) → length ws ≡ 8 * objects_of lay + cells_of lay → ((i : ℕ) → get_or ws i 0 ≡ 0) → ((k : ℕ) → k < objects_of lay → IsSoundSlot lay k (first_of lay k))
      → ((k : ℕ) → k < objects_of lay → get_elem? xs (slot_place k) ≡ some (first_of lay k)) → Rule (opening ws xs (opener lay))
  begins ws xs wide zeros sound spread = record {
    past = [];
    lawful = tt;
    sound = sound;
    wide = wide;
    words = λ k l. zeros (word_place k);
    homes = λ k l. at_map some xs (slot_place k) (first_of lay k) (spread k l);
    stores = λ c l. zeros (cell_place lay c);
    seats = one;
    apart = only;
    present = there;
  }
    where
      one : (j : ℕ) (v : View) → get_elem? (opener lay ∷ []) j ≡ some v → v.live ≡ true → Knows lay [] v
      one zero v e is = subst (λ (z : View). Knows lay [] z) (some-injective (opener lay) v e) record { out = refl; log = refl; turn = tt; only = λ k e. absurd (cc); logs = λ _. refl; same_layout = refl }
      one (suc j) v e is = absurd (some-ne-none v (sym e))

      there : (n : ℕ) → IsOut [] n → (j : ℕ) × (v : View) × (get_elem? (opener lay ∷ []) j ≡ some v) × (v.live ≡ true) × (v.number ≡ n)
      there zero e = (0, opener lay, refl, refl, refl)
      there (suc n) e = absurd (some-ne-none _ (sym e))

      only : (i j : ℕ) (a b : View) → get_elem? (opener lay ∷ []) i ≡ some a → get_elem? (opener lay ∷ []) j ≡ some b → a.live ≡ true → b.live ≡ true → a.number ≡ b.number → i ≡ j
      only zero zero a b ea eb la lb e = refl
      only zero (suc j) a b ea eb la lb e = absurd (some-ne-none b (sym eb))
      only (suc i) j a b ea eb la lb e = absurd (some-ne-none a (sym ea))

  -- the same, where the word's number is given
  pub loads_at : (slots id : ℕ) (me : Mine) (i c : ℕ) → me.0.live ≡ true → c < cells_of lay → cell_place lay c ≡ i → Allows Rule slots id me i (λ n. n) (load_told (step slots i 0 0 none) me)
  loads_at slots id me i c live l e = subst (λ (z : ℕ). Allows Rule slots id me z (λ n. n) (load_told (step slots z 0 0 none) me)) e (loads_cell slots id me c live l)

  pub stores_at : (slots id : ℕ) (me : Mine) (i c n : ℕ) → me.0.live ≡ true → c < cells_of lay → IsCellWord lay n → cell_place lay c ≡ i → Allows Rule slots id me i (λ _. n) (λ _. store_told (step slots i n 0 none) me n)
  stores_at slots id me i c n live l ok e = subst (λ (z : ℕ). Allows Rule slots id me z (λ _. n) (λ _. store_told (step slots z n 0 none) me n)) e (stores_cell slots id me c n live l ok)

-- a step that is logged leaves the seat live, and at its layout
pub still_own : (m : Mine) (v : View) (x : Item) (h : Option Held) (c : List (ℕ × Slot)) (lay : Layout) → m ≡ (logged v x h, c) → v.live ≡ true → v.layout ≡ lay → (m.0.live ≡ true) × (m.0.layout ≡ lay)
still_own m v x h c lay e live same = (ap (λ (z : Mine). z.0.live) e ∙ live, ap (λ (z : Mine). z.0.layout) e ∙ same)
