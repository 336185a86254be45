-- The words of granules are dealt to their stripes.
use Rattle.std.proofs.Common.{◌≡◌, ◌≢◌, ℕ, zero, suc, ◌+◌, ◌*◌, ◌<◌, ◌≤◌, List, [], ◌∷◌, ◌++◌, length, get_or, set, replicate, None, Some, refl, sym, ap, ◌∙◌, subst, arith, append-nil, length-append, length-set, get_or-set_other, get_or-set_same}
use mathlib.Core.Logic.{dite}
use mathlib.Core.Option.{some}
use native.Mathlib.Decide.{ℕ_discrete}
use lib.ListN.{get_elem?}
use Rattle.run_record.specs.declared.limits.Limits.{Limits}
use Rattle.elf_image.specs.File.{granules_of, initial_word}
use Rattle.slot_desk.specs.Desks.{SlotContents, fresh_slot}
use Rattle.shared_table.specs.declared.object.DeskState.{DeskState}
use Rattle.shared_table.specs.declared.object.Object.TheVariants.{Stripe, Desk}
use Rattle.shared_table.specs.declared.view.Layout.{Layout}
use Rattle.shared_table.specs.Layouts.{stripe_at, count_below, size_in, place_in, objects_of, first_of, IsFirstStripe, IsFirstDesk, IsLaidOut}
use Rattle.shared_table.specs.Past.{Slot, IsSoundSlot, IsDeskOf, HasThreads}
use Rattle.shared_table.specs.Rule.{slot_place}
use Rattle.shared_table.specs.Opening.{words_in, IsBlank, slot_at, AreBlank, AreDealt, spread}
use Rattle.shared_table.proofs.Pasts.{if_here, if_else}
use Rattle.shared_table.proofs.Rows.{snoc_here, snoc_before, each_more}

module _ (f : ℕ → ℕ) where
  pub counts_here : (k n : ℕ) → f n ≡ k → count_below f k (n + 1) ≡ count_below f k n + 1
  counts_here k n e = let up : n + 1 ≡ suc n = omega arith in ap (count_below f k) up ∙ (if_here (f n) k (suc (count_below f k n)) (count_below f k n) e ∙ omega arith)

  pub counts_else : (k n : ℕ) → f n ≢ k → count_below f k (n + 1) ≡ count_below f k n
  counts_else k n o = let up : n + 1 ≡ suc n = omega arith in ap (count_below f k) up ∙ if_else (f n) k (suc (count_below f k n)) (count_below f k n) o

  pub count_grows : (k n : ℕ) → count_below f k n ≤ count_below f k (n + 1)
  count_grows k n = dite (ℕ_discrete (f n) k) (λ e. let h = counts_here k n e in omega arith) (λ o. let h = counts_else k n o in omega arith)

  pub count_few : (k n : ℕ) → count_below f k n ≤ n
  count_few k zero = omega arith
  count_few k (suc n) =
      let h = count_few k n in
      let up : n + 1 ≡ suc n = omega arith in
      dite (ℕ_discrete (f n) k)
      (λ e. let g = ap (count_below f k) (sym up) ∙ counts_here k n e in omega arith)
      (λ o. let g = ap (count_below f k) (sym up) ∙ counts_else k n o in omega arith)

  -- a number below n is counted among those of its kind
  pub counted : (i n : ℕ) → i < n → count_below f (f i) i < count_below f (f i) n
  counted i zero l = absurd (omega arith)
  counted i (suc n) l =
      let up : n + 1 ≡ suc n = omega arith in
      let to = ap (count_below f (f i)) up in
      dite (ℕ_discrete i n)
      (λ e. let h = counts_here (f i) n (ap f (sym e)) in let g = ap (count_below f (f i)) e in omega arith)
      (λ o. let h = counted i n (omega arith) in let g = count_grows (f i) n in omega arith)

module _ (image : List ℕ) (limits : Limits) (n : ℕ) (stripes : List Slot) (places : List ℕ) (x : Slot) (old : AreDealt image limits n stripes places) where
  abbrev f : ℕ → ℕ
  f = stripe_at image

  abbrev s : ℕ
  s = f n

  abbrev before : List ℕ
  before = words_in (slot_at stripes s)

  abbrev after : List Slot
  after = set stripes s x

  -- one more word is dealt
  pub dealt_more : s < 64 → IsBlank limits x → words_in x ≡ before ++ initial_word image n ∷ [] → AreDealt image limits (n + 1) after (places ++ length before ∷ [])
  dealt_more low blank more =
      let long = old.all_stripes in
      let here : slot_at after s ≡ x = get_or-set_same stripes s x None (omega arith) in
      let here_at : (k : ℕ) → s ≡ k → slot_at after k ≡ x = λ k e. ap (slot_at after) (sym e) ∙ here in
      let else_at : (k : ℕ) → k ≢ s → slot_at after k ≡ slot_at stripes k = λ k o. get_or-set_other stripes s k x None o in
      let full : length before ≡ count_below f s n = old.sizes s low in
      let all_places = old.all_places in
      record {
        all_stripes = length-set stripes s x ∙ long;
        all_places = omega (arith, length-append places (length before ∷ []));
        blank = λ k l. dite (ℕ_discrete s k)
            (λ e. subst (IsBlank limits) (sym (here_at k e)) blank)
            (λ o. subst (IsBlank limits) (sym (else_at k (λ e. o (sym e)))) (old.blank k l));
        sizes = λ k l. dite (ℕ_discrete s k)
            (λ e.
            let grown : length (words_in x) ≡ length before + 1 = ap (λ (z : List ℕ). length z) more ∙ length-append before (initial_word image n ∷ []) in
            ap (λ (z : Slot). length (words_in z)) (here_at k e) ∙ (grown ∙ (ap (λ (z : ℕ). z + 1) (full ∙ ap (λ (z : ℕ). count_below f z n) e) ∙ sym (counts_here f k n e))))
            (λ o. ap (λ (z : Slot). length (words_in z)) (else_at k (λ e. o (sym e))) ∙ (old.sizes k l ∙ sym (counts_else f k n o)));
        placed = each_more (λ k v. v ≡ place_in image k) places (length before) 0 n all_places old.placed full;
        words = λ g l. dite (ℕ_discrete g n)
            (λ e.
            let there : words_in (slot_at after (f g)) ≡ before ++ initial_word image n ∷ [] = ap words_in (here_at (f g) (ap f (sym e))) ∙ more in
            ap (λ (z : List ℕ). get_or z (place_in image g) 0) there
            ∙ (ap (λ (z : ℕ). get_or (before ++ initial_word image n ∷ []) (place_in image z) 0) e
            ∙ (snoc_here before (initial_word image n) 0 (place_in image n) full ∙ ap (initial_word image) (sym e))))
            (λ o. dite (ℕ_discrete s (f g))
            (λ e.
            let there : words_in (slot_at after (f g)) ≡ before ++ initial_word image n ∷ [] = ap words_in (here_at (f g) e) ∙ more in
            let inside = counted f g n (omega arith) in
            let size : length before ≡ count_below f (f g) n = full ∙ ap (λ (z : ℕ). count_below f z n) e in
            ap (λ (z : List ℕ). get_or z (place_in image g) 0) there
            ∙ (snoc_before before (initial_word image n) 0 (place_in image g) (omega arith)
            ∙ (ap (λ (z : ℕ). get_or (words_in (slot_at stripes z)) (place_in image g) 0) e ∙ old.words g (omega arith))))
            (λ p. ap (λ (z : Slot). get_or (words_in z) (place_in image g) 0) (else_at (f g) (λ e. p (sym e))) ∙ old.words g (omega arith)));
      }

pub dealt_none : (image : List ℕ) (limits : Limits) (stripes : List Slot) (places : List ℕ) → length stripes ≡ 64 → length places ≡ 0 → AreBlank limits 64 stripes → AreDealt image limits 0 stripes places
dealt_none image limits stripes places long none blank = record {
  all_stripes = long;
  all_places = none;
  blank = λ k l. (blank k l).0;
  sizes = λ k l. ap (λ (z : List ℕ). length z) (blank k l).1;
  placed = λ g l. absurd (omega arith);
  words = λ g l. absurd (omega arith);
}

-- a stripe that got all its words is as it begins
first_stripe : (image : List ℕ) (limits : Limits) (k : ℕ) (x : Slot) → IsBlank limits x → length (words_in x) ≡ size_in image k
    → ((g : ℕ) → g < granules_of image → stripe_at image g ≡ k → get_or (words_in x) (place_in image g) 0 ≡ initial_word image g) → IsFirstStripe image limits k x
first_stripe image limits k None b size words = b
first_stripe image limits k (Some (Desk d)) b size words = b
first_stripe image limits k (Some (Stripe y)) b size words = (size, words, b.0, b.1, b.2, b.3)

sound_stripe : (image : List ℕ) (limits : Limits) (lay : Layout) (k : ℕ) (x : Slot) → k < 64 → lay.limits ≡ limits → get_or lay.sizes k 0 ≡ size_in image k → IsFirstStripe image limits k x → IsSoundSlot lay k x
sound_stripe image limits lay k None l same size first = first
sound_stripe image limits lay k (Some (Desk d)) l same size first = absurd first
sound_stripe image limits lay k (Some (Stripe y)) l same size first = (l, first.0 ∙ sym size, first.3 ∙ ap (λ (z : Limits). z.slots) (sym same))

many : (n : ℕ) (x : SlotContents) → length (replicate n x) ≡ n
many zero x = refl
many (suc n) x = ap suc (many n x)

sound_desk : (image : List ℕ) (limits : Limits) (lay : Layout) (k : ℕ) (x : Slot) → k ≡ 64 → lay.limits ≡ limits →
    IsFirstDesk image limits x → IsSoundSlot lay k x
sound_desk image limits lay k None e same first = first
sound_desk image limits lay k (Some (Stripe s)) e same first = absurd first
sound_desk image limits lay k (Some (Desk d)) e same first = (
  e,
  subst (λ (z : DeskState). IsDeskOf lay.limits z.desk) (sym first)
      (ap (λ (z : Limits). z.harts) (sym same), ap (λ (z : Limits). z.epochs) (sym same), many limits.slots (fresh_slot limits.slots) ∙ ap (λ (z : Limits). z.slots) (sym same)),
  subst HasThreads (sym first) (refl, omega arith),
)

module _ (image : List ℕ) (limits : Limits) (lay : Layout) (stripes : List Slot) (places : List ℕ) where
  -- from the dealt stripes and the desk to the layout
  pub laid_out : AreDealt image limits (granules_of image) stripes places → (d : Slot) → IsFirstDesk image limits d →
      lay.firsts ≡ stripes ++ d ∷ [] → lay.limits ≡ limits → lay.granules ≡ granules_of image
      → ((k : ℕ) → k < length stripes → get_or lay.sizes k 0 ≡ length (words_in (slot_at stripes k))) → IsLaidOut image limits lay
  laid_out dealt d first firsts same granules sizes =
      let long = dealt.all_stripes in
      let front : (k : ℕ) → k < 64 → first_of lay k ≡ slot_at stripes k = λ k l. ap (λ (z : List Slot). slot_at z k) firsts ∙ snoc_before stripes d None k (omega arith) in
      record {
        same_limits = same;
        granules = granules;
        objects = ap (λ (z : List Slot). length z) firsts ∙ omega (arith, length-append stripes (d ∷ []));
        sizes = λ k l. sizes k (omega arith) ∙ dealt.sizes k l;
        stripes = λ k l. subst (IsFirstStripe image limits k) (sym (front k l))
            (first_stripe image limits k (slot_at stripes k) (dealt.blank k l) (dealt.sizes k l)
            (λ g b e. subst (λ (j : ℕ). get_or (words_in (slot_at stripes j)) (place_in image g) 0 ≡ initial_word image g) e (dealt.words g b)));
        desk = subst (IsFirstDesk image limits) (sym (ap (λ (z : List Slot). slot_at z 64) firsts ∙ snoc_here stripes d None 64 long)) first;
      }

-- the first values are sound
pub firsts_sound : (image : List ℕ) (limits : Limits) (lay : Layout) → IsLaidOut image limits lay → (k : ℕ) → k < objects_of lay → IsSoundSlot lay k (first_of lay k)
firsts_sound image limits lay h k l =
    let objects = h.objects in
    dite (ℕ_discrete k 64)
    (λ e. subst (IsSoundSlot lay k) (ap (first_of lay) (sym e)) (sound_desk image limits lay k (first_of lay 64) e h.same_limits h.desk))
    (λ o. let below : k < 64 = omega arith in sound_stripe image limits lay k (first_of lay k) below h.same_limits (h.sizes k below) (h.stripes k below))

-- a value stands at twice its number
pub spread_at : (xs : List Slot) (k : ℕ) → k < length xs → get_elem? (spread xs) (slot_place k) ≡ some (slot_at xs k)
spread_at [] k l = absurd (omega arith)
spread_at (x ∷ xs) zero l = refl
spread_at (x ∷ xs) (suc k) l = let e : slot_place (suc k) ≡ suc (suc (suc (suc (slot_place k)))) = omega arith in ap (λ (z : ℕ). get_elem? (spread (x ∷ xs)) z) e ∙ spread_at xs k (omega arith)

pub spread_long : (xs : List Slot) → length (spread xs) ≡ 4 * length xs
spread_long [] = refl
spread_long (x ∷ xs) = let h = spread_long xs in omega arith

pub all_spread : (done rest all : List Slot) → done ++ spread rest ≡ spread all → length rest ≡ 0 → done ≡ spread all
all_spread done [] all e none = sym (append-nil done) ∙ e
all_spread done (x ∷ rest) all e none = absurd (omega arith)

-- each stripe has fewer words than 2 ^ 32
pub few_words : (image : List ℕ) (limits : Limits) (stripes : List Slot) (places : List ℕ) → granules_of image ≤ 532480 → AreDealt image limits (granules_of image) stripes places
    → (k : ℕ) → k < length stripes → length (words_in (slot_at stripes k)) < 4294967296
few_words image limits stripes places few dealt k l =
    let long = dealt.all_stripes in
    let size = dealt.sizes k (omega arith) in
    let most = count_few (stripe_at image) k (granules_of image) in
    omega arith

-- a row of zeros
pub zero_at : (n i : ℕ) → let z : ℕ = 0 in get_or (replicate n z) i z ≡ z
zero_at zero i = refl
zero_at (suc n) zero = refl
zero_at (suc n) (suc i) = zero_at n i

pub zeros_long : (n : ℕ) → let z : ℕ = 0 in length (replicate n z) ≡ n
zeros_long zero = refl
zeros_long (suc n) = let h = zeros_long n in omega arith
