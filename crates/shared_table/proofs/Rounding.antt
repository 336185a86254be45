-- What the seats of a round add up to.
use Rattle.std.proofs.Common.{◌≡◌, ℕ, zero, suc, ◌+◌, ◌-◌, ◌<◌, ◌≤◌, List, [], ◌∷◌, ◌++◌, map, length, take, drop, get_or, set, Option, None, Some, All, refl, sym, ap, ◌∙◌, subst, arith, append-nil, append_assoc, length-append, length-set}
use mathlib.Core.Logic.{dite}
use mathlib.Core.Option.{some}
use native.Mathlib.Decide.{ℕ_discrete}
use lib.ListN.{get_elem?}
use Rattle.atomic_table.proofs.Lists.{set_here, set_else}
use Rattle.atomic_table.specs.declared.shared.Seat.{Seat}
use Rattle.shared_table.specs.declared.view.Item.TheVariants.{Split, Join}
use Rattle.shared_table.specs.declared.view.View.{View}
use Rattle.shared_table.specs.declared.workers.Part.{Part}
use Rattle.shared_table.specs.Layouts.{SharedTable}
use Rattle.shared_table.specs.Past.{Slot, Log}
use Rattle.shared_table.specs.Steps.{Mine, new_seat}
use Rattle.shared_table.specs.Seats.{IsSeatOf, IsFree, IsOpener}
use Rattle.shared_table.specs.Rounds.{splits_from, joins_from, worker_of, log, number, AreOpened, AreReady, Ran, AreBack, Grown, HasLogs, HasRound}
use Rattle.shared_table.proofs.Rows.{each_more, at_front, some_at}

-- one seat more is made behind so many, and joined
splits_snoc : (n k : ℕ) → splits_from n (suc k) ≡ splits_from n k ++ Split (n + k) ∷ []
splits_snoc n zero = ap (λ (z : ℕ). Split z ∷ []) (omega arith)
splits_snoc n (suc k) =
    let up : n + 1 + k ≡ n + suc k = omega arith in
    ap (λ (l : Log). Split n ∷ l) (splits_snoc (n + 1) k ∙ ap (λ (z : ℕ). splits_from (n + 1) k ++ Split z ∷ []) up)

joins_snoc : (n k : ℕ) → joins_from n (suc k) ≡ joins_from n k ++ Join (n + k) ∷ []
joins_snoc n zero = ap (λ (z : ℕ). Join z ∷ []) (omega arith)
joins_snoc n (suc k) =
    let up : n + 1 + k ≡ n + suc k = omega arith in
    ap (λ (l : Log). Join n ∷ l) (joins_snoc (n + 1) k ∙ ap (λ (z : ℕ). joins_from (n + 1) k ++ Join z ∷ []) up)

-- the opening seat's log goes on by that item
pub splits_more : (n k made count : ℕ) (first old new : Log) → old ≡ first ++ splits_from n k → new ≡ old ++ Split made ∷ [] → made ≡ n + k → count ≡ k + 1 →
    new ≡ first ++ splits_from n count
splits_more n k made count first old new was now is more =
    let up : suc k ≡ count = omega arith in
    now ∙ (ap (λ (l : Log). l ++ Split made ∷ []) was ∙ (append_assoc first (splits_from n k) (Split made ∷ []) ∙ ap (λ (l : Log). first ++ l)
    (ap (λ (z : ℕ). splits_from n k ++ Split z ∷ []) is ∙ (sym (splits_snoc n k) ∙ ap (splits_from n) up))))

pub joins_more : (n k made count : ℕ) (first old new : Log) → old ≡ first ++ joins_from n k → new ≡ old ++ Join made ∷ [] → made ≡ n + k → count ≡ k + 1 →
    new ≡ first ++ joins_from n count
joins_more n k made count first old new was now is more =
    let up : suc k ≡ count = omega arith in
    now ∙ (ap (λ (l : Log). l ++ Join made ∷ []) was ∙ (append_assoc first (joins_from n k) (Join made ∷ []) ∙ ap (λ (l : Log). first ++ l)
    (ap (λ (z : ℕ). joins_from n k ++ Join z ∷ []) is ∙ (sym (joins_snoc n k) ∙ ap (joins_from n) up))))

-- a seat that only gets one more item or log holds as much as before
pub still_opener : (t : SharedTable) (before after : Seat Slot View) (v : View) → IsOpener t before → IsSeatOf t after → after.me ≡ (v, before.me.1) → v.held ≡ before.me.0.held → v.number ≡ before.me.0.number → IsOpener t after
still_opener t before after v old own is held same = record {
  own = own;
  free = (ap (λ (m : Mine). m.0.held) is ∙ (held ∙ old.free.0), ap (λ (m : Mine). m.1) is ∙ old.free.1);
  opening = ap (λ (m : Mine). m.0.number) is ∙ (same ∙ old.opening);
}

pub grown_more : (n : ℕ) (v w u : View) → Grown n v w → u.logs ≡ w.logs ++ None ∷ [] → Grown (n + 1) v u
grown_more n v w u old more =
    let long = old.0 in (
      ap (λ (l : List (Option Log)). length l) more ∙ omega (arith, length-append w.logs (None ∷ [])),
      λ i l. ap (λ (z : List (Option Log)). get_elem? z i) more ∙ (at_front w.logs (None ∷ []) i (omega arith) ∙ old.1 i l),
    )

module _ {A : Type 0} where
  pub no_items : (xs : List A) → length xs ≡ 0 → xs ≡ []
  no_items [] e = refl
  no_items (x ∷ xs) e = absurd (omega arith)

  -- the first item that is left
  pub drop_step : (xs : List A) (i : ℕ) (x : A) (rest : List A) → drop i xs ≡ x ∷ rest → (i < length xs) × ((d : A) → get_or xs i d ≡ x) × (drop (i + 1) xs ≡ rest) × (take (i + 1) xs ≡ take i xs ++ x ∷ [])
  drop_step [] zero x rest e = absurd (cc)
  drop_step [] (suc i) x rest e = absurd (cc)
  drop_step (y ∷ xs) zero x rest e =
      let same : y ≡ x = cc in
      let left : xs ≡ rest = cc in
      (omega arith, λ d. same, left, ap (λ (z : A). z ∷ []) same)
  drop_step (y ∷ xs) (suc i) x rest e =
      let h = drop_step xs i x rest e in
      let up : suc i + 1 ≡ suc (i + 1) = omega arith in (
        (let l = h.0 in omega arith),
        h.1,
        ap (λ (n : ℕ). drop n (y ∷ xs)) up ∙ h.2,
        ap (λ (n : ℕ). take n (y ∷ xs)) up ∙ ap (λ (l : List A). y ∷ l) h.3,
      )

  pub drop_none : (xs : List A) (i : ℕ) → i ≤ length xs → length (drop i xs) ≡ 0 → i ≡ length xs
  drop_none [] zero l e = refl
  drop_none [] (suc i) l e = absurd (omega arith)
  drop_none (x ∷ xs) zero l e = absurd (omega arith)
  drop_none (x ∷ xs) (suc i) l e = let h = drop_none xs i (omega arith) e in omega arith

  pub take_all : (xs : List A) (i : ℕ) → i ≡ length xs → take i xs ≡ xs
  take_all [] zero e = refl
  take_all [] (suc i) e = absurd (omega arith)
  take_all (x ∷ xs) zero e = absurd (omega arith)
  take_all (x ∷ xs) (suc i) e = ap (λ (l : List A). x ∷ l) (take_all xs i (omega arith))

module _ {W : Type 0} where
  shift : (ps : List (Part W)) (p : Part W) (rest : List W) → map worker_of (ps ++ p ∷ []) ++ rest ≡ map worker_of ps ++ p.worker ∷ rest
  shift [] p rest = refl
  shift (q ∷ ps) p rest = ap (λ (l : List W). q.worker ∷ l) (shift ps p rest)

  pub left_more : (ps : List (Part W)) (p : Part W) (before rest all : List W) → before ≡ p.worker ∷ rest → map worker_of ps ++ before ≡ all → map worker_of (ps ++ p ∷ []) ++ rest ≡ all
  left_more ps p before rest all step e = shift ps p rest ∙ (ap (λ (l : List W). map worker_of ps ++ l) (sym step) ∙ e)

  pub none_left : (ps : List (Part W)) (rest all : List W) → map worker_of ps ++ rest ≡ all → length rest ≡ 0 → map worker_of ps ≡ all
  none_left ps rest all e none = sym (ap (λ (l : List W). map worker_of ps ++ l) (no_items rest none) ∙ append-nil (map worker_of ps)) ∙ e

  pub as_many : (ps : List (Part W)) → length (map worker_of ps) ≡ length ps
  as_many [] = refl
  as_many (p ∷ ps) = ap suc (as_many ps)

  pub map_snoc : (ps : List (Part W)) (p : Part W) → map worker_of (ps ++ p ∷ []) ≡ map worker_of ps ++ p.worker ∷ []
  map_snoc [] p = refl
  map_snoc (q ∷ ps) p = ap (λ (l : List W). q.worker ∷ l) (map_snoc ps p)

  pub map_at : (ps : List (Part W)) (i : ℕ) (d : Part W) (e : W) → i < length ps → get_or (map worker_of ps) i e ≡ (get_or ps i d).worker
  map_at [] i d e l = absurd (omega arith)
  map_at (p ∷ ps) zero d e l = refl
  map_at (p ∷ ps) (suc i) d e l = map_at ps i d e (omega arith)

  -- one more seat is made
  pub opened_more : (t : SharedTable) (m : ℕ) (ps : List (Part W)) (p : Part W) (v : View) → AreOpened t m (map worker_of ps) ps → IsSeatOf t p.seat → p.seat.me ≡ (new_seat v, []) → length v.logs ≡ m + length ps → AreOpened t m (map worker_of (ps ++ p ∷ [])) (ps ++ p ∷ [])
  opened_more t m ps p v old own is long = record {
    workers_are = refl;
    seats = λ i d l. each_more (λ k (j : Part W). IsSeatOf t j.seat × IsFree j.seat.me × (log j ≡ []) × (number j ≡ m + k)) ps p d (length ps) refl (λ k b. old.seats k d b)
        (own, (ap (λ (z : Mine). z.0.held) is, ap (λ (z : Mine). z.1) is), ap (λ (z : Mine). z.0.log) is, ap (λ (z : Mine). z.0.number) is ∙ long) i
        (let b = length-append ps (p ∷ []) in omega arith);
  }

  pub opened_none : (t : SharedTable) (m : ℕ) (ps : List (Part W)) → length ps ≡ 0 → AreOpened t m (map worker_of ps) ps
  opened_none t m ps none = record { workers_are = refl; seats = λ i d l. absurd (omega arith) }

  -- who may work has a part that is ready
  pub all_ready : (can : SharedTable → W → Type 0) (t : SharedTable) (m : ℕ) (ws : List W) (ps : List (Part W)) → All (can t) ws → AreOpened t m ws ps → AreReady can t ps
  all_ready can t m ws ps may opened i d l =
      let s = opened.seats i d l in
      let all : All (can t) (map worker_of ps) = subst (All (can t)) (sym opened.workers_are) may in
      let many = as_many ps in
      record { own = s.0; free = s.1; new = s.2; may = subst (can t) (map_at ps i d d.worker l) (all i d.worker (omega arith)) }

  pub all_back : (works : SharedTable → W → Log → W → Type 0) (t : SharedTable) (m : ℕ) (ws : List W) (ps qs : List (Part W)) → AreOpened t m ws ps → Ran works t ps qs → length qs ≡ length ps → AreBack t m qs
  all_back works t m ws ps qs opened ran same i d l = let r = ran i d (omega arith) in (r.own, r.free, r.same_number ∙ (opened.seats i d (omega arith)).3)

  -- one more log is kept
  pub logs_more : (m i : ℕ) (ps : List (Part W)) (p : Part W) (v w u : View) → m + length ps ≡ length v.logs → i < length ps → ((d : Part W) → get_or ps i d ≡ p) → number p ≡ m + i → u.logs ≡ set w.logs (number p) (Some (log p))
      → length w.logs ≡ length v.logs → ((k : ℕ) → k < m → get_elem? w.logs k ≡ get_elem? v.logs k) → ((k : ℕ) (d : Part W) → k < i → get_elem? w.logs (m + k) ≡ some (Some (log (get_or ps k d))))
      → (length u.logs ≡ length v.logs) × ((k : ℕ) → k < m → get_elem? u.logs k ≡ get_elem? v.logs k) × ((k : ℕ) (d : Part W) → k < i + 1 → get_elem? u.logs (m + k) ≡ some (Some (log (get_or ps k d))))
  logs_more m i ps p v w u room l is num set_ long old done =
      let x : Option Log = Some (log p) in
      let grown : u.logs ≡ set w.logs (m + i) x = set_ ∙ ap (λ (z : ℕ). set w.logs z x) num in (
        ap (λ (z : List (Option Log)). length z) grown ∙ (length-set w.logs (m + i) x ∙ long),
        λ k b. ap (λ (z : List (Option Log)). get_elem? z k) grown ∙ (set_else w.logs (m + i) k x (λ e. omega arith) ∙ old k b),
        λ k d b. ap (λ (z : List (Option Log)). get_elem? z (m + k)) grown ∙ dite (ℕ_discrete k i)
            (λ e. ap (λ (z : ℕ). get_elem? (set w.logs (m + i) x) (m + z)) e ∙ (set_here w.logs (m + i) x (omega arith) ∙ ap (λ (j : Part W). some (Some (log j))) (sym (is d) ∙ ap (λ (z : ℕ). get_or ps z d) (sym e))))
            (λ o. set_else w.logs (m + i) (m + k) x (λ e. o (omega arith)) ∙ done k d (omega arith)),
      )

  -- from the splits, the workers and the joins to the round
  pub has_round : (works : SharedTable → W → Log → W → Type 0) (t : SharedTable) (v w x y : View) (before after : List W) (ps qs : List (Part W)) → Grown (length before) v w → AreOpened t (length v.logs) before ps → Ran works t ps qs → length qs ≡ length ps
      → HasLogs (length w.logs - length qs) qs w x → after ≡ map worker_of qs → y.logs ≡ x.logs → HasRound works t v y before after
  has_round works t v w x y before after ps qs grown opened ran same kept out e =
      let a = grown.0 in
      let count : length ps ≡ length before = sym (as_many ps) ∙ ap (λ (z : List W). length z) opened.workers_are in
      let m : length w.logs - length qs ≡ length v.logs = omega arith in
      record {
        same_count = ap (λ (z : List W). length z) out ∙ (as_many qs ∙ (same ∙ count));
        grown = (
          ap (λ (l : List (Option Log)). length l) e ∙ (kept.0 ∙ grown.0),
          λ i l. ap (λ (z : List (Option Log)). get_elem? z i) e ∙ (kept.1 i (omega arith) ∙ grown.1 i l),
        );
        worked = λ i d l.
            let p : Part W = (some_at ps i (omega arith)).0 in
            let did = (ran i p (omega arith)).worked in
            let q : Part W = get_or qs i p in (
              log q,
              ap (λ (z : List (Option Log)). get_elem? z (length v.logs + i)) e ∙ (ap (λ (z : ℕ). get_elem? x.logs (z + i)) (sym m) ∙ kept.2 i p (omega arith)),
              subst (λ (z : W × W). works t z.0 (log q) z.1)
                  (λ j. ((sym (map_at ps i p d (omega arith)) ∙ ap (λ (l : List W). get_or l i d) opened.workers_are) j, (sym (map_at qs i p d (omega arith)) ∙ ap (λ (l : List W). get_or l i d) (sym out)) j))
                  did,
            );
      }
