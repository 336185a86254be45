-- What a lawful past says of logs, turns and cells.
use Rattle.std.proofs.Common.{cond, eq-eqb, ne_eqb, ◌≡◌, ◌≢◌, ℕ, zero, suc, ◌+◌, ◌*◌, ◌%◌, ◌<◌, get_or, Bool, true, false, List, [], ◌∷◌, ◌++◌, length, Option, None, Some, refl, sym, ap, ◌∙◌, subst, ⊎_elim, arith, length-append, length-set, append-nil}
use mathlib.Core.Logic.{dite}
use mathlib.Core.Option.{some, some-injective, some-ne-none}
use native.Mathlib.Decide.{ℕ_discrete}
use lib.ListN.{get_elem?}
use Rattle.atomic_table.proofs.Lists.{at_set, set_here, set_else, at_longer, at_snoc}
use Rattle.shared_table.specs.declared.view.Layout.{Layout}
use Rattle.shared_table.specs.declared.view.Item.{Item}
use Rattle.shared_table.specs.declared.view.Item.TheVariants.{Split, Join, Take, Give, Load, Store}
use Rattle.shared_table.specs.Layouts.{objects_of, first_of}
use Rattle.shared_table.specs.Past.{Slot, Log, Past, Turns, turns_at, turns_of, word_by, word_of, cell_of, log_of, logs_of, IsOut, Allowed, Lawful}
use Rattle.atomic_table.specs.Table.{State}
use Rattle.shared_table.specs.declared.view.View.{View}
use Rattle.shared_table.specs.declared.view.Held.{Held}
use Rattle.shared_table.specs.Steps.{Told}
use Rattle.shared_table.specs.Rule.{word_place, HoldsObject, HasTurn, Kept}
use Rattle.shared_table.specs.Laws.{Turn, turn, turn_list, FollowFrom, last_left, other, marks, next_number, InTurn, ends_open, ends_number, is_open, splits_in, joins_of, below, AllJoined, HasLineUp}
use Rattle.shared_table.proofs.Pasts.{if_here, if_else, some_below, log_else, fresh_log, holder_out}

snoc_length : {A : Type 0} (l : List A) (x : A) → length (l ++ x ∷ []) ≡ suc (length l)
snoc_length [] x = refl
snoc_length (y ∷ l) x = ap suc (snoc_length l x)

module _ (lay : Layout) where
  abbrev Ok : Past → Type 0
  Ok = Lawful lay

  abbrev pub IsJoined : Past → ℕ → Log → Type 0
  IsJoined past m l = get_elem? (logs_of past) m ≡ some (Some l)

  not_both : (past : Past) (n m : ℕ) (l : Log) → IsOut past n → IsJoined past m l → n ≢ m
  not_both past n m l out here e =
      let a = subst (λ (z : ℕ). get_elem? (logs_of past) z ≡ some None) e out in
      let b = some-injective None (Some l) (sym a ∙ here) in
      absurd (cc)

  -- the log that is kept under a number is all that the past has of it
  pub kept_log : (past : Past) (m : ℕ) (l : Log) → Ok past → IsJoined past m l → l ≡ log_of m past
  kept_log [] zero l h e = absurd (let b = some-injective None (Some l) e in cc)
  kept_log [] (suc m) l h e = absurd (some-ne-none (Some l) (sym e))
  kept_log ((n, Split j) ∷ past) m l h e = ⊎_elim
      (λ was. kept_log past m l h.2 was ∙ sym (log_else past n m (Split j) (not_both past n m l h.0 was)))
      (λ new. absurd (cc))
      (at_snoc (logs_of past) None (Some l) m e)
  kept_log ((n, Join j) ∷ past) m l h e = ⊎_elim
      (λ (t : (m ≡ j) × (Some (log_of j past) ≡ Some l)). let f : log_of j past ≡ l = cc in
      sym f ∙ (ap (λ (z : ℕ). log_of z past) (sym t.0) ∙ sym (log_else past n m (Join j) (λ same. h.1.1 (sym t.0 ∙ (sym same ∙ h.1.0))))))
      (λ (t : (m ≢ j) × IsJoined past m l). kept_log past m l h.2 t.1 ∙ sym (log_else past n m (Join j) (not_both past n m l h.0 t.1)))
      (at_set (logs_of past) j m (Some (log_of j past)) (Some l) e)
  kept_log ((n, Take j t) ∷ past) m l h e = kept_log past m l h.2 e ∙ sym (log_else past n m (Take j t) (not_both past n m l h.0 e))
  kept_log ((n, Give j t f g) ∷ past) m l h e = kept_log past m l h.2 e ∙ sym (log_else past n m (Give j t f g) (not_both past n m l h.0 e))
  kept_log ((n, Load c w) ∷ past) m l h e = kept_log past m l h.2 e ∙ sym (log_else past n m (Load c w) (not_both past n m l h.0 e))
  kept_log ((n, Store c w) ∷ past) m l h e = kept_log past m l h.2 e ∙ sym (log_else past n m (Store c w) (not_both past n m l h.0 e))

  -- what came later in the past came after what was lawful
  pub earlier : (late past : Past) → Ok (late ++ past) → Ok past
  earlier [] past h = h
  earlier (x ∷ late) past h = earlier late past h.2

  -- a split stands before all items of the new seat
  pub split_first : (late past : Past) (n m : ℕ) → Ok (late ++ (n, Split m) ∷ past) → log_of m past ≡ []
  split_first late past n m h = let k = earlier late ((n, Split m) ∷ past) h in fresh_log lay past m k.2 (let e = k.1.1 in omega arith)

  -- a load gave the word of the last store before it, or 0
  pub load_last : (late past : Past) (n c w : ℕ) → Ok (late ++ (n, Load c w) ∷ past) → w ≡ cell_of c past
  load_last late past n c w h = (earlier late ((n, Load c w) ∷ past) h).1.1

  follow_more : (t : ℕ) (x : Slot) (es : List Turn) (e : Turn) → FollowFrom t x es → e.number ≡ t + length es → last_left x es ≡ Some e.found → FollowFrom t x (es ++ e ∷ [])
  follow_more t x [] e h n v = (omega arith, v, tt)
  follow_more t x (y ∷ es) e h n v = (h.0, h.1, follow_more (t + 1) (Some y.left) es e h.2 (omega arith) v)

  last_more : (x : Slot) (es : List Turn) (e : Turn) → last_left x (es ++ e ∷ []) ≡ Some e.left
  last_more x [] e = refl
  last_more x (y ∷ es) e = last_more (Some y.left) es e

  -- the turns of an object have the numbers 1, 2 and so on. The first found the first value, and each other what the one before it left
  pub turns_follow : (past : Past) (k : ℕ) → Ok past → let x = first_of lay k in
      FollowFrom 1 x (turn_list k past) × (length (turn_list k past) ≡ (turns_of lay k past).done) × (last_left x (turn_list k past) ≡ (turns_of lay k past).value)
  turns_follow [] k h = (tt, refl, refl)
  turns_follow ((n, Split j) ∷ past) k h = turns_follow past k h.2
  turns_follow ((n, Join j) ∷ past) k h = turns_follow past k h.2
  turns_follow ((n, Load c w) ∷ past) k h = turns_follow past k h.2
  turns_follow ((n, Store c w) ∷ past) k h = turns_follow past k h.2
  turns_follow ((n, Take j t) ∷ past) k h = let was = turns_follow past k h.2 in let st = turns_of lay k past in
      dite (ℕ_discrete j k)
      (λ e. let is = if_here j k (turns_at st.done st.value (Some n)) st e in (was.0, was.1 ∙ ap (λ (z : Turns). z.done) (sym is), was.2 ∙ ap (λ (z : Turns). z.value) (sym is)))
      (λ o. let is = if_else j k (turns_at st.done st.value (Some n)) st o in (was.0, was.1 ∙ ap (λ (z : Turns). z.done) (sym is), was.2 ∙ ap (λ (z : Turns). z.value) (sym is)))
  turns_follow ((n, Give j t f g) ∷ past) k h =
      let was = turns_follow past k h.2 in
      let st = turns_of lay k past in
      let ts = turn_list k past in
      let x = first_of lay k in
      let after : Turns = turns_at (st.done + 1) (Some g) None in
      dite (ℕ_discrete j k)
      (λ e.
      let is = if_here j k after st e in
      let grown = if_here j k (ts ++ turn t f g ∷ []) ts e in
      let at : (z : ℕ) → j ≡ z → (t ≡ (turns_of lay z past).done + 1) × ((turns_of lay z past).value ≡ Some f) = λ z q. subst (λ (y : ℕ). (t ≡ (turns_of lay y past).done + 1) × ((turns_of lay y past).value ≡ Some f)) q (h.1.2, h.1.3) in
      let mine = at k e in
      let count = was.1 in (
        subst (FollowFrom 1 x) (sym grown) (follow_more 1 x ts (turn t f g) was.0 (let a = mine.0 in omega arith) (was.2 ∙ mine.1)),
        ap (λ (z : List Turn). length z) grown ∙ (omega (arith, length-append ts (turn t f g ∷ [])) ∙ ap (λ (z : Turns). z.done) (sym is)),
        ap (λ (z : List Turn). last_left x z) grown ∙ (last_more x ts (turn t f g) ∙ ap (λ (z : Turns). z.value) (sym is)),
      ))
      (λ o.
      let is = if_else j k after st o in
      let same = if_else j k (ts ++ turn t f g ∷ []) ts o in (
        subst (FollowFrom 1 x) (sym same) was.0,
        ap (λ (z : List Turn). length z) same ∙ (was.1 ∙ ap (λ (z : Turns). z.done) (sym is)),
        ap (λ (z : List Turn). last_left x z) same ∙ (was.2 ∙ ap (λ (z : Turns). z.value) (sym is)),
      ))

  in_turn_more : (o : Bool) (t : ℕ) (es : List (Bool × ℕ)) (e : Bool × ℕ) → InTurn o t es → e.0 ≡ other (ends_open o es) → e.1 ≡ ends_number t es → InTurn o t (es ++ e ∷ [])
  in_turn_more o t [] e h b n = (b, n, tt)
  in_turn_more o t (x ∷ es) e h b n = (h.0, h.1, in_turn_more x.0 (next_number x.0 t) es e h.2 b n)

  open_more : (o : Bool) (es : List (Bool × ℕ)) (e : Bool × ℕ) → ends_open o (es ++ e ∷ []) ≡ e.0
  open_more o [] e = refl
  open_more o (x ∷ es) e = open_more x.0 es e

  number_more : (t : ℕ) (es : List (Bool × ℕ)) (e : Bool × ℕ) → ends_number t (es ++ e ∷ []) ≡ next_number e.0 (ends_number t es)
  number_more t [] e = refl
  number_more t (x ∷ es) e = number_more (next_number x.0 t) es e

  abbrev Marked : ℕ → Turns → List (Bool × ℕ) → Type 0
  Marked k st ms = InTurn false 1 ms × (ends_open false ms ≡ is_open st.by) × (ends_number 1 ms ≡ st.done + 1)

  -- the takes and gives of an object stand in the order take 1, give 1, take 2, give 2 and so on
  pub in_turn : (past : Past) (k : ℕ) → Ok past → Marked k (turns_of lay k past) (marks k past)
  in_turn [] k h = (tt, refl, refl)
  in_turn ((n, Split j) ∷ past) k h = in_turn past k h.2
  in_turn ((n, Join j) ∷ past) k h = in_turn past k h.2
  in_turn ((n, Load c w) ∷ past) k h = in_turn past k h.2
  in_turn ((n, Store c w) ∷ past) k h = in_turn past k h.2
  in_turn ((n, Take j t) ∷ past) k h =
      let was = in_turn past k h.2 in
      let st = turns_of lay k past in
      let ms = marks k past in
      let after : Turns = turns_at st.done st.value (Some n) in
      dite (ℕ_discrete j k)
      (λ e.
      let mine = subst (λ (y : ℕ). ((turns_of lay y past).by ≡ None) × (t ≡ (turns_of lay y past).done + 1)) e (h.1.1, h.1.2) in
      subst (λ (z : Turns × List (Bool × ℕ)). Marked k z.0 z.1) (λ i. (sym (if_here j k after st e) i, sym (if_here j k (ms ++ (true, t) ∷ []) ms e) i))
      (in_turn_more false 1 ms (true, t) was.0 (ap other (sym (was.1 ∙ ap is_open mine.0))) (mine.1 ∙ sym was.2), open_more false ms (true, t), number_more 1 ms (true, t) ∙ was.2))
      (λ o. subst (λ (z : Turns × List (Bool × ℕ)). Marked k z.0 z.1) (λ i. (sym (if_else j k after st o) i, sym (if_else j k (ms ++ (true, t) ∷ []) ms o) i)) was)
  in_turn ((n, Give j t f g) ∷ past) k h =
      let was = in_turn past k h.2 in
      let st = turns_of lay k past in
      let ms = marks k past in
      let after : Turns = turns_at (st.done + 1) (Some g) None in
      dite (ℕ_discrete j k)
      (λ e.
      let mine = subst (λ (y : ℕ). ((turns_of lay y past).by ≡ Some n) × (t ≡ (turns_of lay y past).done + 1)) e (h.1.1, h.1.2) in
      subst (λ (z : Turns × List (Bool × ℕ)). Marked k z.0 z.1) (λ i. (sym (if_here j k after st e) i, sym (if_here j k (ms ++ (false, t) ∷ []) ms e) i))
      (in_turn_more false 1 ms (false, t) was.0 (ap other (sym (was.1 ∙ ap is_open mine.0))) (mine.1 ∙ sym was.2), open_more false ms (false, t), number_more 1 ms (false, t) ∙ ap (λ (z : ℕ). z + 1) was.2))
      (λ o. subst (λ (z : Turns × List (Bool × ℕ)). Marked k z.0 z.1) (λ i. (sym (if_else j k after st o) i, sym (if_else j k (ms ++ (false, t) ∷ []) ms o) i)) was)

  -- the word of an object is odd only while a seat's view has the turn
  pub odd_held : (s : State Slot View) (r : Kept lay s) (k : ℕ) → k < objects_of lay → get_or s.words (word_place k) 0 % 2 ≡ 1
      → (j : ℕ) × (v : View) × (get_elem? s.views j ≡ some v) × (v.live ≡ true) × HoldsObject k v.held
  odd_held s r k l odd =
      let st : Turns = turns_of lay k r.past in
      let by = odd_by st.done st.by (ap (λ (z : ℕ). z % 2) (sym (r.words k l)) ∙ odd) in
      let p = r.present by.0 (holder_out lay r.past k by.0 r.lawful by.1) in
      (p.0, p.1, p.2, p.3, (r.seats p.0 p.1 p.2 p.3).only k (by.1 ∙ ap Some (sym p.4)))
    where
      odd_by : (d : ℕ) (b : Option ℕ) → word_by d b % 2 ≡ 1 → (n : ℕ) × (b ≡ Some n)
      odd_by d None e = absurd (omega arith)
      odd_by d (Some n) e = (n, refl)

  joined_stays : (past : Past) (n m : ℕ) (x : Item) (l : Log) → Allowed lay past n x → IsJoined past m l → IsJoined ((n, x) ∷ past) m l
  joined_stays past n m (Split j) l ok h = at_longer (logs_of past) (None ∷ []) m (Some l) h
  joined_stays past n m (Join j) l ok h = set_else (logs_of past) j m (Some (log_of j past)) (λ e. not_both past j m l ok.2 h (sym e)) ∙ h
  joined_stays past n m (Take j t) l ok h = h
  joined_stays past n m (Give j t f g) l ok h = h
  joined_stays past n m (Load c w) l ok h = h
  joined_stays past n m (Store c w) l ok h = h

  -- a join stands after all items of the seat that was joined
  pub join_last : (late past : Past) (m : ℕ) (l : Log) → Ok (late ++ past) → IsJoined past m l → (log_of m late ≡ []) × IsJoined (late ++ past) m l
  join_last [] past m l h j = (refl, j)
  join_last (x ∷ late) past m l h j =
      let ih = join_last late past m l h.2 j in
      (log_else late x.0 m x.1 (not_both (late ++ past) x.0 m l h.0 ih.1) ∙ ih.0, joined_stays (late ++ past) x.0 m x.1 l h.1 ih.1)

  abbrev split_of : Item → List ℕ
  split_of x = splits_in (x ∷ [])

  splits_more : (l : Log) (x : Item) → splits_in (l ++ x ∷ []) ≡ splits_in l ++ split_of x
  splits_more [] x = refl
  splits_more (Split m ∷ l) x = ap (λ (z : List ℕ). m ∷ z) (splits_more l x)
  splits_more (Join m ∷ l) x = splits_more l x
  splits_more (Take j t ∷ l) x = splits_more l x
  splits_more (Give j t f g ∷ l) x = splits_more l x
  splits_more (Load c w ∷ l) x = splits_more l x
  splits_more (Store c w ∷ l) x = splits_more l x

  no_split : (past : Past) (n : ℕ) (x : Item) → split_of x ≡ [] → splits_in (log_of 0 ((n, x) ∷ past)) ≡ splits_in (log_of 0 past)
  no_split past n x none = dite (ℕ_discrete n 0)
      (λ e. ap splits_in (if_here n 0 (log_of 0 past ++ x ∷ []) (log_of 0 past) e) ∙ (splits_more (log_of 0 past) x ∙ (ap (λ (z : List ℕ). splits_in (log_of 0 past) ++ z) none ∙ append-nil (splits_in (log_of 0 past)))))
      (λ o. ap splits_in (log_else past n 0 x o))

  -- the opening seat's log has a split of each number that was made but 0, in order
  pub splits_are : (past : Past) → Ok past → 0 ∷ splits_in (log_of 0 past) ≡ below (length (logs_of past))
  splits_are [] h = refl
  splits_are ((n, Split m) ∷ past) h =
      let ih = splits_are past h.2 in
      let l = log_of 0 past in
      ap (λ (z : Log). 0 ∷ splits_in z) (if_here n 0 (l ++ Split m ∷ []) l h.1.0)
      ∙ (ap (λ (z : List ℕ). 0 ∷ z) (splits_more l (Split m))
      ∙ (ap (λ (z : List ℕ). z ++ m ∷ []) ih
      ∙ (ap (λ (z : ℕ). below (length (logs_of past)) ++ z ∷ []) h.1.1
      ∙ ap below (sym (snoc_length (logs_of past) None)))))
  splits_are ((n, Join m) ∷ past) h = ap (λ (z : List ℕ). 0 ∷ z) (no_split past n (Join m) refl) ∙ (splits_are past h.2 ∙ ap below (sym (length-set (logs_of past) m (Some (log_of m past)))))
  splits_are ((n, Take j t) ∷ past) h = ap (λ (z : List ℕ). 0 ∷ z) (no_split past n (Take j t) refl) ∙ splits_are past h.2
  splits_are ((n, Give j t f g) ∷ past) h = ap (λ (z : List ℕ). 0 ∷ z) (no_split past n (Give j t f g) refl) ∙ splits_are past h.2
  splits_are ((n, Load c w) ∷ past) h = ap (λ (z : List ℕ). 0 ∷ z) (no_split past n (Load c w) refl) ∙ splits_are past h.2
  splits_are ((n, Store c w) ∷ past) h = ap (λ (z : List ℕ). 0 ∷ z) (no_split past n (Store c w) refl) ∙ splits_are past h.2

  abbrev join_of : ℕ → Item → ℕ
  join_of m x = joins_of m (x ∷ [])

  joins_more : (m : ℕ) (l : Log) (x : Item) → joins_of m (l ++ x ∷ []) ≡ joins_of m l + join_of m x
  joins_more m [] x = omega arith
  joins_more m (Join j ∷ l) x = (let e = joins_more m l x in omega arith)
  joins_more m (Split j ∷ l) x = joins_more m l x
  joins_more m (Take j t ∷ l) x = joins_more m l x
  joins_more m (Give j t f g ∷ l) x = joins_more m l x
  joins_more m (Load c w ∷ l) x = joins_more m l x
  joins_more m (Store c w ∷ l) x = joins_more m l x

  no_join : (past : Past) (n m : ℕ) (x : Item) → join_of m x ≡ 0 → joins_of m (log_of 0 ((n, x) ∷ past)) ≡ joins_of m (log_of 0 past)
  no_join past n m x none = dite (ℕ_discrete n 0)
      (λ e. ap (joins_of m) (if_here n 0 (log_of 0 past ++ x ∷ []) (log_of 0 past) e) ∙ (let q = joins_more m (log_of 0 past) x in omega arith))
      (λ o. ap (joins_of m) (log_else past n 0 x o))

  abbrev NotJoined : Past → ℕ → Type 0
  NotJoined past m = (l : Log) → IsJoined past m l → ⊥

  -- the opening seat's log has one join of each number under which a log is kept, and none of others
  pub record Joins (past : Past) (m : ℕ) : Type 0 where
    pub once : (l : Log) → IsJoined past m l → joins_of m (log_of 0 past) ≡ 1
    pub never : NotJoined past m → joins_of m (log_of 0 past) ≡ 0

  -- a step that joins nobody
  joins_still : (past : Past) (n m : ℕ) (x : Item) → join_of m x ≡ 0 → ((l : Log) → IsJoined ((n, x) ∷ past) m l → IsJoined past m l) → ((l : Log) → IsJoined past m l → IsJoined ((n, x) ∷ past) m l) → Joins past m → Joins ((n, x) ∷ past) m
  joins_still past n m x none back on was = record {
    once = λ l j. no_join past n m x none ∙ was.once l (back l j);
    never = λ not. no_join past n m x none ∙ was.never (λ l j. not l (on l j));
  }

  one_join : (j m : ℕ) → j ≡ m → join_of m (Join j) ≡ 1
  one_join j m e = ap (λ (b : Bool). cond b 1 0 + 0) (eq-eqb j m e)

  no_other : (j m : ℕ) → j ≢ m → join_of m (Join j) ≡ 0
  no_other j m o = ap (λ (b : Bool). cond b 1 0 + 0) (ne_eqb j m o)

  -- the seat j is joined
  joins_one : (past : Past) (n j m : ℕ) → Ok ((n, Join j) ∷ past) → Joins past m → Joins ((n, Join j) ∷ past) m
  joins_one past n j m h was = dite (ℕ_discrete j m)
      (λ e.
      let none = was.never (λ l k. not_both past j m l h.1.2 k e) in
      let now : joins_of m (log_of 0 ((n, Join j) ∷ past)) ≡ 1 =
      ap (joins_of m) (if_here n 0 (log_of 0 past ++ Join j ∷ []) (log_of 0 past) h.1.0)
      ∙ (let a = joins_more m (log_of 0 past) (Join j) in let b = one_join j m e in omega (arith, none)) in
      record {
        once = λ l k. now;
        never = λ not. absurd (not (log_of j past) (subst (λ (z : ℕ). IsJoined ((n, Join j) ∷ past) z (log_of j past)) e (set_here (logs_of past) j (Some (log_of j past)) (some_below (logs_of past) j None h.1.2))));
      })
      (λ o. joins_still past n m (Join j) (no_other j m o)
      (λ l k. ⊎_elim (λ (t : (m ≡ j) × (Some (log_of j past) ≡ Some l)). absurd (o (sym t.0))) (λ (t : (m ≢ j) × IsJoined past m l). t.1) (at_set (logs_of past) j m (Some (log_of j past)) (Some l) k))
      (λ l k. joined_stays past n m (Join j) l h.1 k) was)

  pub joins_are : (past : Past) (m : ℕ) → Ok past → Joins past m
  joins_are [] zero h = record { once = λ l e. absurd (let b = some-injective None (Some l) e in cc); never = λ not. refl }
  joins_are [] (suc m) h = record { once = λ l e. absurd (some-ne-none (Some l) (sym e)); never = λ not. refl }
  joins_are ((n, Split j) ∷ past) m h = joins_still past n m (Split j) refl
      (λ l k. ⊎_elim (λ was. was) (λ new. absurd (cc)) (at_snoc (logs_of past) None (Some l) m k))
      (λ l k. joined_stays past n m (Split j) l h.1 k) (joins_are past m h.2)
  joins_are ((n, Join j) ∷ past) m h = joins_one past n j m h (joins_are past m h.2)
  joins_are ((n, Take j t) ∷ past) m h = joins_still past n m (Take j t) refl (λ l k. k) (λ l k. k) (joins_are past m h.2)
  joins_are ((n, Give j t f g) ∷ past) m h = joins_still past n m (Give j t f g) refl (λ l k. k) (λ l k. k) (joins_are past m h.2)
  joins_are ((n, Load c w) ∷ past) m h = joins_still past n m (Load c w) refl (λ l k. k) (λ l k. k) (joins_are past m h.2)
  joins_are ((n, Store c w) ∷ past) m h = joins_still past n m (Store c w) refl (λ l k. k) (λ l k. k) (joins_are past m h.2)

  -- the word of an object that a live seat has
  pub held_word : (s : State Slot View) (r : Kept lay s) (j : ℕ) (v : View) (h : Held) → get_elem? s.views j ≡ some v → v.live ≡ true → v.held ≡ Some h → get_or s.words (word_place h.object) 0 ≡ 2 * h.done + 1
  held_word s r j v h at live held =
      let turn : HasTurn lay r.past v.number (Some h) = subst (HasTurn lay r.past v.number) held (r.seats j v at live).turn in
      r.words h.object turn.1 ∙ ap word_of turn.0

  -- no two live seats have the turn of one object
  pub one_holder : (s : State Slot View) (r : Kept lay s) (i j : ℕ) (v w : View) (h g : Held) → get_elem? s.views i ≡ some v → get_elem? s.views j ≡ some w → v.live ≡ true → w.live ≡ true → v.held ≡ Some h → w.held ≡ Some g → h.object ≡ g.object → i ≡ j
  one_holder s r i j v w h g at there live alive mine theirs same =
      let one : HasTurn lay r.past v.number (Some h) = subst (HasTurn lay r.past v.number) mine (r.seats i v at live).turn in
      let two : HasTurn lay r.past w.number (Some g) = subst (HasTurn lay r.past w.number) theirs (r.seats j w there alive).turn in
      let by : Some v.number ≡ Some w.number = ap (λ (z : Turns). z.by) (sym one.0) ∙ (ap (λ (k : ℕ). (turns_of lay k r.past).by) same ∙ ap (λ (z : Turns). z.by) two.0) in
      r.apart i j v w at there live alive (cc)

-- where no other seat is out, the logs have a line-up
pub line_up : (v : View) → Told v → AllJoined v → HasLineUp v
line_up v told all =
    let past = told.0 in
    let h = told.1 in
    let logs : v.logs ≡ logs_of past = told.2 in
    record {
      past = past;
      lawful = h;
      own = told.3;
      others = λ m ne l.
          let kept = all m ne l in
          let is = kept_log v.layout past m kept.0 h (ap (λ (z : List (Option Log)). get_elem? z m) (sym logs) ∙ kept.1) in
          kept.1 ∙ ap (λ (z : Log). some (Some z)) is;
      no_more = λ m l. fresh_log v.layout past m h (let e = ap (λ (z : List (Option Log)). length z) logs in omega arith);
      alternate = λ k. (in_turn v.layout past k h).0;
      follow = λ k. (turns_follow v.layout past k h).0;
    }
