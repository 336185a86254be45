-- A request that is served at a stripe.
use Rattle.std.specs.Prelude.{◌≡◌, ◌≤◌, ℕ, List, Option, Some, None, length}
use Rattle.run_record.specs.declared.event.Event.{Event}
use Rattle.bare_machine.specs.declared.request.Request.{Request}
use Rattle.bare_machine.specs.declared.request.Request.TheVariants as kinds
use Rattle.bare_machine.specs.Memory as memory
use Rattle.shared_table.specs.declared.object.Object.{Object}
use Rattle.shared_table.specs.declared.object.Object.TheVariants.{Stripe as InStripe}
use Rattle.shared_table.specs.declared.object.Stripe.{Stripe}
use Rattle.shared_table.specs.declared.object.DeskState.{DeskState}
use Rattle.slot_desk.specs.Desks.{lives_of, live_of}
use Rattle.machine_desk.specs.Desks.{is_full}
use Rattle.hart_steps.specs.Desks.{desk_value, lives_after}
use Rattle.hart_steps.specs.declared.hart.Hart.{Hart}
use Rattle.hart_steps.specs.Asked.{Asks}
use Rattle.hart_steps.specs.Harts.{turn, leaves}
use Rattle.hart_steps.specs.Stripes.{stripe_value}

-- the request uses stripe k
abbrev pub UsesStripe : ℕ → Request → Type 0
UsesStripe k (kinds.Touch r) = k ≡ memory.stripe r.addr
UsesStripe k (kinds.Operate r) = k ≡ memory.stripe r.addr
UsesStripe k (kinds.Return r) = r.object ≡ Some k
UsesStripe k _ = ⊥

-- the granule that the request uses, if any
abbrev pub granule_used : Request → Option ℕ
granule_used (kinds.Touch r) = Some r.granule
granule_used (kinds.Operate r) = Some r.granule
granule_used _ = None

-- the thread has asked, as it was before
pub record HasAsked (file : List ℕ) (t : ℕ) (asked : Hart) (r : Request) : Type 0 where
  pub found : Hart
  pub asks : Asks file t found asked r

-- Thread t's request was served at stripe k, which was s and is s'.
pub record ServedAt (file : List ℕ) (k t : ℕ) (r : Request) (asked left : Hart) (s s' : Stripe) (es : List Event) : Type 0 where
  pub turned :
      (found : Hart) → Asks file t found asked r → (harts : ℕ) →
      turn file harts t found (stripe_value file k s.words s.reserved) ≡ leaves left (stripe_value file k s'.words s'.reserved) es
  pub size : length s'.words ≡ length s.words
  pub sync_is : s'.sync ≡ s.sync
  pub last_is : s'.last ≡ s.last

-- The object is a stripe and stays one, where the request was served.
abbrev pub ServedIn : List ℕ → ℕ → ℕ → Request → Hart → Hart → Option Object → Option Object → List Event → Type 0
ServedIn file k t r asked left (Some (InStripe s)) (Some (InStripe s')) es = ServedAt file k t r asked left s.value s'.value es
ServedIn file k t r asked left _ _ es = ⊥

-- Thread t's request was served at the desk, where so many threads may live at once: it was d and is d', and its slots are as they were.
pub record ServedAtDesk (harts t : ℕ) (r : Request) (asked left : Hart) (d d' : DeskState) (es : List Event) : Type 0 where
  pub turned :
      (file : List ℕ) (found : Hart) → Asks file t found asked r →
      turn file harts t found (desk_value d.machine (lives_of d.desk))
      ≡ leaves left (desk_value d'.machine (lives_after t (is_full harts (live_of d.desk) d.machine.made) r (lives_of d.desk))) es
  pub few : length d'.machine.made ≤ 1024
  pub room : length d.desk.threads ≡ 1024
  pub desk_is : d'.desk ≡ d.desk
  pub last_is : d'.last ≡ d.last
