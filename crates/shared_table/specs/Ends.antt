-- What a closed table leaves.
use Rattle.std.specs.Prelude.{◌≡◌, ◌↔◌, ℕ, ◌%◌, ◌<◌, ◌≤◌, Bool, true, false, ◌==◌, if◌then◌else◌, List, slice_index, slice_index_or, Option, None, Some, IsSome}
use Rattle.shared_table.specs.declared.object.Object.TheVariants.{Desk as ADesk, Stripe as AStripe}
use Rattle.shared_table.specs.declared.object.Stripe.{Stripe}
use Rattle.shared_table.specs.declared.object.DeskState.{DeskState}
use Rattle.shared_table.specs.declared.view.View.{View}
use Rattle.shared_table.specs.Layouts.{cells_of}
use Rattle.shared_table.specs.Past.{Slot, Past, Turns, turns_of, cell_of, log_of, logs_of, Lawful}

-- the value of a slot where the object's word is even
abbrev pub ends_as : ℕ → Slot → Slot
ends_as word x = if word % 2 == 0 then x else None

abbrev pub left_by : Slot → Option ℕ → Slot
left_by x None = x
left_by x (Some n) = None

-- the value that the last turn left, or None while a turn is open
abbrev pub left_of : Turns → Slot
left_of st = left_by st.value st.by

abbrev pub stripe_in : Slot → Option Stripe
stripe_in None = None
stripe_in (Some (AStripe s)) = Some s.value
stripe_in (Some (ADesk d)) = None

abbrev pub desk_in : Slot → Option DeskState
desk_in None = None
desk_in (Some (AStripe s)) = None
desk_in (Some (ADesk d)) = Some d.value

-- There is a lawful past with the logs that the opening seat has. Each stripe and the desk is what the last turn of it left, and there is none exactly where a turn of it is open still. Each cell has the word of the last store.
pub record EndsAs (v : View) (stripes : List (Option Stripe)) (desk : Option DeskState) (cells : List ℕ) : Type 0 where
  pub past : Past
  pub lawful : Lawful v.layout past
  pub logs : v.logs ≡ logs_of past
  pub log : v.log ≡ log_of 0 past
  pub stripe_left : (k : ℕ) → k < 64 → slice_index_or stripes k None ≡ stripe_in (left_of (turns_of v.layout k past))
  pub stripe_there : (k : ℕ) → k < 64 → IsSome (slice_index_or stripes k None) ↔ ((turns_of v.layout k past).by ≡ None)
  pub desk_left : desk ≡ desk_in (left_of (turns_of v.layout 64 past))
  pub desk_there : IsSome desk ↔ ((turns_of v.layout 64 past).by ≡ None)
  pub words : (c : ℕ) → c < cells_of v.layout → slice_index cells c ≡ cell_of c past

-- each place from low up to high holds its value
abbrev pub Filled : List Bool → ℕ → ℕ → Type 0
Filled fs low high = (k : ℕ) → low ≤ k → k < high → slice_index_or fs k false ≡ true

-- the places below n hold nothing
abbrev pub AreEmpty : List Bool → ℕ → Type 0
AreEmpty fs n = (k : ℕ) → k < n → slice_index_or fs k false ≡ false
