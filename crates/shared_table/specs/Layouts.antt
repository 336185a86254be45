-- How a table is laid out: which granules a stripe has, and where a granule's word stands in it.
use Rattle.std.specs.Prelude.{◌≡◌, ℕ, zero, suc, ◌*◌, ◌/◌, ◌%◌, ◌<◌, ◌==◌, if◌then◌else◌, List, [], length, slice_index, slice_index_or, Option, None, Some}
use Rattle.run_record.specs.declared.limits.Limits.{Limits}
use Rattle.elf_image.specs.File.{entry, granules_of, granule_address, initial_word}
use Rattle.slot_desk.specs.Steps.{new_desk}
use Rattle.machine_desk.specs.Desks.{first_desk}
use Rattle.atomic_table.specs.Seated.{TableId}
use Rattle.shared_table.specs.declared.object.Object.{Object}
use Rattle.shared_table.specs.declared.object.Object.TheVariants.{Stripe, Desk}
use Rattle.shared_table.specs.declared.view.Layout.{Layout}

-- the stripe of an address
abbrev pub stripe_of : ℕ → ℕ
stripe_of addr = addr / 8 % 64

-- the stripe of a granule of the image
abbrev pub stripe_at : List ℕ → ℕ → ℕ
stripe_at image granule = stripe_of (granule_address image granule)

-- how many numbers below n the function takes to k
abbrev pub count_below : (ℕ → ℕ) → ℕ → ℕ → ℕ
count_below f k zero = 0
count_below f k (suc n) = if f n == k then suc (count_below f k n) else count_below f k n

-- how many granules of the image are in the stripe
abbrev pub size_in : List ℕ → ℕ → ℕ
size_in image k = count_below (stripe_at image) k (granules_of image)

-- how many lesser granules the granule's stripe has
abbrev pub place_in : List ℕ → ℕ → ℕ
place_in image granule = count_below (stripe_at image) (stripe_at image granule) granule

-- objects are the stripes and, last, the desk
abbrev pub objects_of : Layout → ℕ
objects_of lay = length lay.firsts

abbrev pub cells_of : Layout → ℕ
cells_of lay = 4 * lay.granules

abbrev pub first_of : Layout → ℕ → Option Object
first_of lay k = slice_index_or lay.firsts k None

-- a stripe as it begins: the image's words, no reservation, no synchronisation object, no stamp
abbrev pub IsFirstStripe : List ℕ → Limits → ℕ → Option Object → Type 0
IsFirstStripe image limits k None = ⊥
IsFirstStripe image limits k (Some (Desk d)) = ⊥
IsFirstStripe image limits k (Some (Stripe s)) =
    (length s.value.words ≡ size_in image k)
    × ((granule : ℕ) → granule < granules_of image → stripe_at image granule ≡ k → slice_index s.value.words (place_in image granule) ≡ initial_word image granule)
    × (s.value.reserved ≡ []) × (s.value.sync.slots ≡ limits.slots) × (s.value.sync.objects ≡ []) × (s.value.last ≡ 0)

-- the desk as it begins: the main thread at the image's entry, each slot free, no stamp
abbrev pub IsFirstDesk : List ℕ → Limits → Option Object → Type 0
IsFirstDesk image limits None = ⊥
IsFirstDesk image limits (Some (Stripe s)) = ⊥
IsFirstDesk image limits (Some (Desk d)) =
    d.value ≡ record { desk = new_desk limits; machine = first_desk (entry image); last = 0 }

-- a table of these limits over an image: 64 stripes and the desk, as they begin
pub record IsLaidOut (image : List ℕ) (limits : Limits) (lay : Layout) : Type 0 where
  pub same_limits : lay.limits ≡ limits
  pub granules : lay.granules ≡ granules_of image
  pub objects : objects_of lay ≡ 65
  pub sizes : (k : ℕ) → k < 64 → slice_index lay.sizes k ≡ size_in image k
  pub stripes : (k : ℕ) → k < 64 → IsFirstStripe image limits k (first_of lay k)
  pub desk : IsFirstDesk image limits (first_of lay 64)

-- what contracts see of a table: which it is, its layout, and where the word of each granule stands in its stripe
pub record SharedTable : Type 0 where
  pub id : TableId
  pub layout : Layout
  pub places : List ℕ

-- the table was made for this image and these limits
pub record IsTableOf (image : List ℕ) (limits : Limits) (t : SharedTable) : Type 0 where
  pub laid_out : IsLaidOut image limits t.layout
  pub places : (granule : ℕ) → granule < granules_of image → slice_index t.places granule ≡ place_in image granule
