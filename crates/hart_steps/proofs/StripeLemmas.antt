-- A stripe's list of words beside the words by granule.
use Rattle.std.proofs.Common.{◌≡◌, ◌≢◌, ◌<◌, ℕ, Bool, true, false, cond, eqb, ltb, List, [], inl, inr, length, Option, Some, None, refl, sym, ap, subst, ◌∙◌, arith, eq-eqb}
use Rattle.std.specs.Prelude.{◌&&◌, slice_index, slice_set, option_map}
use Rattle.std.proofs.lemmas.Bool.{lt-ltb, ltb-true, ltb-false, eqb-true, cases_Bool}
use mathlib.Core.Path.{fun_ext}
use mathlib.Core.Logic.{dite}
use native.Mathlib.Decide.{ℕ_discrete}
use Rattle.rv_exec.specs.declared.exec.Effect.{Effect}
use Rattle.rv_exec.specs.declared.exec.Effect.TheVariants as effects
use Rattle.elf_image.specs.File.{granules_of, initial_word}
use Rattle.guest_memory.specs.declared.reservations.Reservation.{Reservation}
use Rattle.guest_memory.specs.Fields.{field, with_field}
use Rattle.guest_memory.specs.Reservations.{without_granule}
use Rattle.entry_calls.specs.Effects.{word_by}
use Rattle.bare_machine.specs.declared.touch.Touched.{Touched}
use Rattle.bare_machine.specs.Memory.{offset}
use Rattle.shared_table.specs.Layouts.{count_below, place_in}
use Rattle.shared_table.proofs.Dealing.{counted}
use Rattle.turn_orders.specs.Machine.{but}
use Rattle.turn_orders.proofs.Functions.{but_here, but_else}
use Rattle.place_turns.specs.Places.{Stripe, Value, stripe_at, of_stripe}
use Rattle.bare_machine.specs.Requests.{request}
use Rattle.place_turns.specs.Turns.{Turned, served, stripe_reserved, stripe_written, touch_turn, operate_turn}
use Rattle.place_turns.specs.Wholes.{first_stripe}
use Rattle.place_turns.proofs.Lists.{index_set_same, index_set_other}
use Rattle.bare_machine.specs.declared.request.Touch.{Touch}
use Rattle.bare_machine.specs.declared.request.Operation.{Operation}
use Rattle.bare_machine.specs.declared.request.Request.{Request}
use Rattle.bare_machine.specs.declared.request.Request.TheVariants as kinds
use Rattle.hart_steps.specs.declared.hart.Hart.{Hart}
use Rattle.bare_machine.specs.Asked.{asked, IsWithin}
use Rattle.hart_steps.specs.Asked.{granule_in}
use Rattle.hart_steps.specs.Harts.{local_of, turn, leaves}
use Rattle.hart_steps.specs.Stripes.{words_of, stripe_value, IsIndexOf, AreFirst, words_written, reservations_written, settled, Left, touch_left, touched_by, touches, operate_left, operates}

cond_alike : (b : Bool) (x y z : ℕ) → (b ≡ true → x ≡ y) → cond b x z ≡ cond b y z
cond_alike true x y z h = h refl
cond_alike false x y z h = refl

cond_first : (b : Bool) (x z : ℕ) → (b ≡ true → x ≡ z) → cond b x z ≡ z
cond_first true x z h = h refl
cond_first false x z h = refl

both_left : (a b : Bool) → (a && b) ≡ true → a ≡ true
both_left true b h = refl
both_left false b h = h

both_right : (a b : Bool) → (a && b) ≡ true → b ≡ true
both_right true b h = h
both_right false b h = absurd (cc)

module _ (file : List ℕ) where
  -- two granules of one stripe have two places
  places_apart : (m n : ℕ) → stripe_at file m ≡ stripe_at file n → m < n → place_in file m < place_in file n
  places_apart m n same l =
      let less = counted (stripe_at file) m n l in
      subst (λ (k : ℕ). place_in file m < count_below (stripe_at file) k n) same less

  pub other_place : (m n : ℕ) → stripe_at file m ≡ stripe_at file n → m ≢ n → place_in file m ≢ place_in file n
  other_place m n same apart = λ e. elim (cases_Bool (ltb m n)) [
    | inl below ↦ let less = places_apart m n same (ltb-true m n below) in absurd (omega arith)
    | inr above ↦ let l : n < m = grind (arith, ltb-false m n above) in let less = places_apart n m (sym same) l in absurd (omega arith)
  ]

  pub inside : (words : List ℕ) (n index : ℕ) → n < granules_of file → IsIndexOf file n words index → index < length words
  inside words n index below is = let less = counted (stripe_at file) n (granules_of file) below in omega (arith, is.size, is.place, less)

  pub first_is : (words : List ℕ) (k : ℕ) → AreFirst file k words → stripe_value file k words [] ≡ of_stripe (first_stripe file)
  first_is words k h =
      ap (λ (f : ℕ → ℕ). of_stripe (record { words = f; reservations = [] }))
      (fun_ext (λ n. cond_first (eqb (stripe_at file n) k && ltb n (granules_of file)) (slice_index words (place_in file n)) (initial_word file n)
      (λ e. h.each n (ltb-true n (granules_of file) (both_right _ _ e)) (eqb-true (stripe_at file n) k (both_left _ _ e)))))

  module _ (n index : ℕ) (words : List ℕ) (below : n < granules_of file) (is : IsIndexOf file n words index) where
    abbrev k : ℕ
    k = stripe_at file n

    -- the granule's word is that of its index
    pub word_here : (ws : List ℕ) → words_of file k ws n ≡ slice_index ws index
    word_here ws =
        ap (λ (b : Bool). cond (b && ltb n (granules_of file)) (slice_index ws (place_in file n)) (initial_word file n)) (eq-eqb k k refl)
        ∙ (ap (λ (b : Bool). cond b (slice_index ws (place_in file n)) (initial_word file n)) (lt-ltb n (granules_of file) below)
        ∙ ap (slice_index ws) (sym is.place))

    word_else : (word m : ℕ) → m ≢ n → words_of file k words m ≡ words_of file k (slice_set words index word) m
    word_else word m apart =
        cond_alike (eqb (stripe_at file m) k && ltb m (granules_of file)) (slice_index words (place_in file m)) (slice_index (slice_set words index word) (place_in file m)) (initial_word file m)
        (λ e. let same = eqb-true (stripe_at file m) k (both_left _ _ e) in
        sym (index_set_other words index (place_in file m) word (λ q. other_place m n same apart (q ∙ is.place))))

    -- a write to the granule is one to its index
    pub word_set : (word : ℕ) → but (words_of file k words) n word ≡ words_of file k (slice_set words index word)
    word_set word = fun_ext (λ m. dite (ℕ_discrete m n)
        (λ e. but_here (words_of file k words) n m word e ∙ (sym (index_set_same words index word (inside words n index below is)) ∙ (sym (word_here (slice_set words index word)) ∙ ap (words_of file k (slice_set words index word)) (sym e))))
        (λ apart. but_else (words_of file k words) n m word apart ∙ word_else word m apart))

    abbrev before : List Reservation → Stripe
    before rs = record { words = words_of file k words; reservations = rs }

    reserved_is : (t : ℕ) (rs : List Reservation) (effect : Effect) → stripe_reserved (before rs) t n effect ≡ before (settled rs t n effect)
    reserved_is t rs effects.Local = refl
    reserved_is t rs (effects.Load a size) = refl
    reserved_is t rs (effects.Store a size v) = refl
    reserved_is t rs (effects.Amo a size v) = refl
    reserved_is t rs (effects.Reserve a size) = refl
    reserved_is t rs (effects.Conditional a size v) = refl
    reserved_is t rs effects.Call = refl
    reserved_is t rs (effects.Fault fault) = refl

    written_is : (rs : List Reservation) (word : Option ℕ) → of_stripe (stripe_written (before rs) n word) ≡ stripe_value file k (words_written words index word) (reservations_written rs n word)
    written_is rs None = refl
    written_is rs (Some word) = ap (λ (f : ℕ → ℕ). of_stripe (record { words = f; reservations = without_granule rs n })) (word_set word)

    changed_is : (t : ℕ) (rs : List Reservation) (effect : Effect) (word : Option ℕ) →
        of_stripe (stripe_written (stripe_reserved (before rs) t n effect) n word) ≡ stripe_value file k (words_written words index word) (reservations_written (settled rs t n effect) n word)
    changed_is t rs effect word = ap (λ (s : Stripe). of_stripe (stripe_written s n word)) (reserved_is t rs effect) ∙ written_is (settled rs t n effect) word

-- the turn that leaves this at stripe k
abbrev left_turn : List ℕ → ℕ → Left → Turned
left_turn file k l = leaves l.hart (stripe_value file k l.words l.reservations) l.events

module _ (file : List ℕ) (h : Hart) (words : List ℕ) (rs : List Reservation) (index : ℕ) where
  abbrev at_granule : ℕ → Stripe
  at_granule n = record { words = words_of file (stripe_at file n) words; reservations = rs }

  touch_with : (t : ℕ) (r : Touch) → r.granule < granules_of file → IsIndexOf file r.granule words index → (made : Touched) →
      touch_turn t (local_of h) (at_granule r.granule) h.thread r.instr r.effect r.granule made ≡ left_turn file (stripe_at file r.granule) (touch_left t h words rs index r made)
  touch_with t r below is made =
      ap (λ (v : Value). record (left_turn file (stripe_at file r.granule) (touch_left t h words rs index r made)) { value = v }) (changed_is file r.granule index words below is t rs r.effect made.written)

  -- what a touch of a granule leaves is its turn
  touch_is : (harts t : ℕ) (r : Touch) → r.granule < granules_of file → IsIndexOf file r.granule words index →
      served harts t (local_of h) (of_stripe (at_granule r.granule)) h.thread (asked h.thread.regs (kinds.Touch r)) ≡ left_turn file (stripe_at file r.granule) (touches t h words rs index r)
  touch_is harts t r below is =
      ap (λ (word : ℕ). touch_turn t (local_of h) (at_granule r.granule) h.thread r.instr r.effect r.granule (touched_by t h rs r word)) (word_here file r.granule index words below is words)
      ∙ touch_with t r below is (touched_by t h rs r (slice_index words index))

  operate_with : (r : Operation) → r.granule < granules_of file → IsIndexOf file r.granule words index → (word : ℕ) →
      operate_turn (local_of h) (at_granule r.granule) h.thread r.call r.addr r.size r.granule word ≡ left_turn file (stripe_at file r.granule) (operate_left h words rs index r word)
  operate_with r below is word =
      ap (λ (v : Value). record (left_turn file (stripe_at file r.granule) (operate_left h words rs index r word)) { value = v })
      (written_is file r.granule index words below is rs (option_map (with_field word (offset r.addr) r.size) (word_by r.call (field word (offset r.addr) r.size))))

  -- and so is what an atomic call leaves
  operate_is : (harts t : ℕ) (r : Operation) → r.granule < granules_of file → IsIndexOf file r.granule words index →
      served harts t (local_of h) (of_stripe (at_granule r.granule)) h.thread (asked h.thread.regs (kinds.Operate r)) ≡ left_turn file (stripe_at file r.granule) (operates h words rs index r)
  operate_is harts t r below is =
      ap (λ (word : ℕ). operate_turn (local_of h) (at_granule r.granule) h.thread r.call r.addr r.size r.granule word) (word_here file r.granule index words below is words)
      ∙ operate_with r below is (slice_index words index)

-- a request is served from this state to what is left
abbrev pub Serves : ℕ → Hart → List ℕ → List Reservation → ℕ → Left → Request → Type 0
Serves t h words rs index left r = (file : List ℕ) (harts : ℕ) → asked h.thread.regs r ≡ request file t h.thread → IsWithin file r → IsIndexOf file (granule_in r) words index →
    turn file harts t h (stripe_value file (stripe_at file (granule_in r)) words rs) ≡ left_turn file (stripe_at file (granule_in r)) left

module _ (t : ℕ) (h : Hart) (words : List ℕ) (rs : List Reservation) (index : ℕ) (left : Left) where
  pub touch_serves : (r : Request) (touch : Touch) → r ≡ kinds.Touch touch → touches t h words rs index touch ≡ left → Serves t h words rs index left r
  touch_serves r touch is made = subst (Serves t h words rs index left) (sym is) (λ file harts e within at.
      ap (served harts t (local_of h) (stripe_value file (stripe_at file touch.granule) words rs) h.thread) (sym e)
      ∙ (touch_is file h words rs index harts t touch within at ∙ ap (left_turn file (stripe_at file touch.granule)) made))

  pub operate_serves : (r : Request) (op : Operation) → r ≡ kinds.Operate op → operates h words rs index op ≡ left → Serves t h words rs index left r
  operate_serves r op is made = subst (Serves t h words rs index left) (sym is) (λ file harts e within at.
      ap (served harts t (local_of h) (stripe_value file (stripe_at file op.granule) words rs) h.thread) (sym e)
      ∙ (operate_is file h words rs index harts t op within at ∙ ap (left_turn file (stripe_at file op.granule)) made))
