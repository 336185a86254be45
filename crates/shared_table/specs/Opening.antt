-- The objects while they are made.
use Rattle.std.specs.Prelude.{◌≡◌, ℕ, ◌<◌, List, [], ◌∷◌, ◌++◌, length, slice_index, slice_index_or, None, Some}
use Rattle.run_record.specs.declared.limits.Limits.{Limits}
use Rattle.elf_image.specs.File.{initial_word}
use Rattle.shared_table.specs.declared.object.Object.TheVariants.{Stripe, Desk}
use Rattle.shared_table.specs.Layouts.{stripe_at, place_in, count_below, IsFirstDesk}
use Rattle.shared_table.specs.Past.{Slot}

abbrev pub words_in : Slot → List ℕ
words_in None = []
words_in (Some (Stripe s)) = s.value.words
words_in (Some (Desk d)) = []

-- a stripe with no reservation, no synchronisation object and no stamp
abbrev pub IsBlank : Limits → Slot → Type 0
IsBlank limits None = ⊥
IsBlank limits (Some (Desk d)) = ⊥
IsBlank limits (Some (Stripe s)) = (s.value.reserved ≡ []) × (s.value.sync.slots ≡ limits.slots) × (s.value.sync.objects ≡ []) × (s.value.last ≡ 0)

abbrev pub slot_at : List Slot → ℕ → Slot
slot_at xs k = slice_index_or xs k None

-- the first n are stripes without words
abbrev pub AreBlank : Limits → ℕ → List Slot → Type 0
AreBlank limits n xs = (k : ℕ) → k < n → IsBlank limits (slot_at xs k) × (words_in (slot_at xs k) ≡ [])

-- the words of the first n granules are in their stripes, by rising granule
pub record AreDealt (image : List ℕ) (limits : Limits) (n : ℕ) (stripes : List Slot) (places : List ℕ) : Type 0 where
  pub all_stripes : length stripes ≡ 64
  pub all_places : length places ≡ n
  pub blank : (k : ℕ) → k < 64 → IsBlank limits (slot_at stripes k)
  pub sizes : (k : ℕ) → k < 64 → length (words_in (slot_at stripes k)) ≡ count_below (stripe_at image) k n
  pub placed : (granule : ℕ) → granule < n → slice_index places granule ≡ place_in image granule
  pub words : (granule : ℕ) → granule < n → slice_index (words_in (slot_at stripes (stripe_at image granule))) (place_in image granule) ≡ initial_word image granule

-- the desk, as it begins, stands behind the objects
abbrev pub HasDesk : List ℕ → Limits → List Slot → List Slot → Type 0
HasDesk image limits objects all = (d : Slot) × IsFirstDesk image limits d × (all ≡ objects ++ d ∷ [])

-- three empty slots after each value
abbrev pub spread : List Slot → List Slot
spread [] = []
spread (x ∷ xs) = x ∷ None ∷ None ∷ None ∷ spread xs
