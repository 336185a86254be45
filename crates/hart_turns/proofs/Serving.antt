-- What a request uses, and the turn in which it is served at its stripe.
use Rattle.std.proofs.Common.{◌≡◌, ◌<◌, ℕ, Some, None, List, length, slice_index, ap, sym, subst, ◌∙◌, Bool, Option}
use Rattle.std.specs.Prelude.{count_by, Result, Ok, Err, OnOk}
use Rattle.elf_image.specs.File.{image_of, granules_of}
use Rattle.run_record.specs.declared.event.Event.{Event}
use Rattle.run_record.specs.declared.limits.Limits.{Limits}
use Rattle.rv_exec.specs.Registers.{Registers}
use Rattle.bare_machine.specs.declared.thread.Thread.{Thread}
use Rattle.bare_machine.specs.declared.request.Request.{Request}
use Rattle.bare_machine.specs.declared.request.Request.TheVariants as kinds
use Rattle.bare_machine.specs.Asked.{asked, IsWithin}
use Rattle.bare_machine.specs.Requests as requests
use Rattle.bare_machine.proofs.Granules.{AtGranule, request_at_granule}
use Rattle.guest_memory.specs.declared.reservations.Reservation.{Reservation}
use Rattle.place_turns.specs.Places.{stripe_at}
use Rattle.place_turns.proofs.Serving.{granule_stripe}
use Rattle.shared_table.specs.Layouts.{SharedTable, IsTableOf}
use Rattle.hart_steps.specs.declared.hart.Hart.{Hart}
use Rattle.hart_steps.specs.Asked.{Asks, IsAlone, UsesGranule, granule_in, UsesDesk}
use Rattle.hart_steps.specs.Harts.{turn, leaves}
use Rattle.hart_steps.specs.Stripes.{IsIndexOf, stripe_value}
use Rattle.hart_steps.proofs.StripeLemmas as stripes
use Rattle.hart_steps.specs.Desks.{IsJoinedOf, IsToldOf, desk_value, lives_after}
use Rattle.machine_desk.specs.declared.MachineDesk.{MachineDesk}
use Rattle.machine_desk.specs.Desks.{is_full}
use Rattle.shared_table.specs.declared.object.DeskState.{DeskState}
use Rattle.slot_desk.specs.Desks.{lives_of, live_of}
use Rattle.hart_turns.specs.Serves.{UsesStripe, granule_used, HasAsked}

-- ---- what a request uses

pub used_granule : (r : Request) (g : ℕ) → granule_used r ≡ Some g → UsesGranule r × (granule_in r ≡ g)
used_granule (kinds.Touch r) g q = (tt, cc)
used_granule (kinds.Operate r) g q = (tt, cc)
used_granule _ g q = absurd (cc)

pub used_none : (k : ℕ) (r : Request) → UsesStripe k r → granule_used r ≡ None → IsAlone r
used_none k (kinds.Return r) u q = tt
used_none k (kinds.Touch r) u q = absurd (cc)
used_none k (kinds.Operate r) u q = absurd (cc)
used_none k _ u q = absurd u

-- the object of the thread's request
pub asks_stripe : (k : ℕ) (regs : Registers) (r : Request) → UsesStripe k r → requests.object_of (asked regs r) ≡ Some k
asks_stripe k regs (kinds.Touch r) u = ap Some (sym u)
asks_stripe k regs (kinds.Operate r) u = ap Some (sym u)
asks_stripe k regs (kinds.Return r) u = u
asks_stripe k regs _ u = absurd u

-- the granule is one of the stripe
of_granule : (file : List ℕ) (k : ℕ) (regs : Registers) (r : Request) → image_of file ≡ Ok file → UsesStripe k r → UsesGranule r → AtGranule file (asked regs r) →
    k ≡ stripe_at file (granule_in r)
of_granule file k regs (kinds.Touch r) ok u g at = u ∙ sym (granule_stripe file r.addr r.granule ok at)
of_granule file k regs (kinds.Operate r) ok u g at = u ∙ sym (granule_stripe file r.addr r.granule ok at)
of_granule file k regs _ ok u g at = absurd g

pub at_stripe : (file : List ℕ) (k t : ℕ) (h : Hart) (r : Request) → image_of file ≡ Ok file → UsesStripe k r → UsesGranule r → HasAsked file t h r →
    k ≡ stripe_at file (granule_in r)
at_stripe file k t h r ok u g a =
    of_granule file k h.thread.regs r ok u g (subst (AtGranule file) (sym a.asks.value) (request_at_granule file t a.found.thread))

pub within_file : (file : List ℕ) (r : Request) → UsesGranule r → IsWithin file r → granule_in r < granules_of file
within_file file (kinds.Touch r) g w = w
within_file file (kinds.Operate r) g w = w
within_file file _ g w = absurd g

-- a thread that asked for a granule is as it was
pub as_found : (file : List ℕ) (t : ℕ) (found h : Hart) (r : Request) → UsesGranule r → Asks file t found h r → h ≡ found
as_found file t found h (kinds.Touch r) g a = a.hart ∙ ap (λ (x : Thread). record found { thread = record found.thread { regs = x.regs } }) a.kept
as_found file t found h (kinds.Operate r) g a = a.hart ∙ ap (λ (x : Thread). record found { thread = record found.thread { regs = x.regs } }) a.kept
as_found file t found h _ g a = absurd g

-- ---- the word of the granule

pub word_there : (file : List ℕ) (limits : Limits) (table : SharedTable) (k : ℕ) (words : List ℕ) (n index : ℕ) → IsTableOf file limits table → k < 64 →
    length words ≡ slice_index table.layout.sizes k → n < granules_of file → k ≡ stripe_at file n → index ≡ slice_index table.places n → IsIndexOf file n words index
word_there file limits table k words n index is below long inside here at = record {
  size = long ∙ (is.laid_out.sizes k below ∙ ap (Rattle.shared_table.specs.Layouts.size_in file) here);
  place = at ∙ is.places n inside;
}

pub word_within : (file words : List ℕ) (n index : ℕ) → n < granules_of file → IsIndexOf file n words index → index < length words
word_within file words n index inside is = stripes.inside file words n index inside is

-- ---- the turn

pub turned_granule : (file : List ℕ) (k t : ℕ) (r : Request) (h left : Hart) (words words' : List ℕ) (reserved reserved' : List Reservation) (es : List Event) →
    UsesGranule r → k ≡ stripe_at file (granule_in r) →
    ((harts : ℕ) → asked h.thread.regs r ≡ requests.request file t h.thread →
    turn file harts t h (stripe_value file (stripe_at file (granule_in r)) words reserved) ≡ leaves left (stripe_value file (stripe_at file (granule_in r)) words' reserved') es) →
    (found : Hart) → Asks file t found h r → (harts : ℕ) →
    turn file harts t found (stripe_value file k words reserved) ≡ leaves left (stripe_value file k words' reserved') es
turned_granule file k t r h left words words' reserved reserved' es g here served found asks harts =
    let same = as_found file t found h r g asks in
    subst (λ (x : Hart). turn file harts t x (stripe_value file k words reserved) ≡ leaves left (stripe_value file k words' reserved') es) same
    (subst (λ (n : ℕ). turn file harts t h (stripe_value file n words reserved) ≡ leaves left (stripe_value file n words' reserved') es) (sym here)
    (served harts (asks.value ∙ ap (λ (x : Hart). requests.request file t x.thread) (sym same))))

-- ---- the granule, as it was found

pub record IsGranuleAt (file : List ℕ) (k : ℕ) (r : Request) (words : List ℕ) (index : ℕ) : Type 0 where
  pub uses : UsesGranule r
  pub here : k ≡ stripe_at file (granule_in r)
  pub inside : granule_in r < granules_of file
  pub index_is : IsIndexOf file (granule_in r) words index

pub granule_found : (file : List ℕ) (limits : Limits) (table : SharedTable) (k t : ℕ) (h : Hart) (r : Request) (words : List ℕ) (g index : ℕ) → image_of file ≡ Ok file →
    IsTableOf file limits table → k < 64 → length words ≡ slice_index table.layout.sizes k → UsesStripe k r → HasAsked file t h r → IsWithin file r →
    granule_used r ≡ Some g → index ≡ slice_index table.places g → IsGranuleAt file k r words index
granule_found file limits table k t h r words g index ok is below long uses asks within used at =
    let granule = used_granule r g used in
    let here = at_stripe file k t h r ok uses granule.0 asks in
    let inside = within_file file r granule.0 within in
    record {
      uses = granule.0;
      here = here;
      inside = inside;
      index_is = word_there file limits table k words (granule_in r) index is below long inside here (at ∙ ap (slice_index table.places) (sym granule.1));
    }

pub on_ok : {E : Type 0} (P Q : Type 0) (r : Result (Unit {0}) E) → (P → Q) → OnOk r P → OnOk r Q
on_ok P Q (Ok u) f p = f p
on_ok P Q (Err e) f p = tt

-- ---- the desk

desk_kept : (file : List ℕ) (t : ℕ) (found h : Hart) (r : Request) → UsesDesk r → Asks file t found h r → h.thread ≡ found.thread
desk_kept file t found h (kinds.Put word count) u a = a.kept
desk_kept file t found h (kinds.Create pc argument stack) u a = a.kept
desk_kept file t found h (kinds.Join of) u a = a.kept
desk_kept file t found h (kinds.Stop end) u a = a.kept
desk_kept file t found h _ u a = absurd u

-- a thread that asked for the desk is as it was
pub desk_found : (file : List ℕ) (t : ℕ) (found h : Hart) (r : Request) → UsesDesk r → Asks file t found h r → h ≡ found
desk_found file t found h r u a = a.hart ∙ ap (λ (x : Thread). record found { thread = record found.thread { regs = x.regs } }) (desk_kept file t found h r u a)

pub turned_desk : (file : List ℕ) (harts t : ℕ) (r : Request) (h left : Hart) (d : DeskState) (m : MachineDesk) (living : ℕ) (joined : Option Bool) (es : List Event) →
    UsesDesk r → living ≡ live_of d.desk → living ≡ count_by (λ (b : Bool). b) (lives_of d.desk) → IsJoinedOf r (lives_of d.desk) joined →
    ((lives : List Bool) → asked h.thread.regs r ≡ requests.request file t h.thread → IsToldOf r lives living joined →
    turn file harts t h (desk_value d.machine lives) ≡ leaves left (desk_value m (lives_after t (is_full harts living d.machine.made) r lives)) es) →
    (found : Hart) → Asks file t found h r →
    turn file harts t found (desk_value d.machine (lives_of d.desk))
    ≡ leaves left (desk_value m (lives_after t (is_full harts (live_of d.desk) d.machine.made) r (lives_of d.desk))) es
turned_desk file harts t r h left d m living joined es uses alive counted told served found asks =
    let same = desk_found file t found h r uses asks in
    let lives = lives_of d.desk in
    subst (λ (n : ℕ). turn file harts t found (desk_value d.machine lives) ≡ leaves left (desk_value m (lives_after t (is_full harts n d.machine.made) r lives)) es) alive
    (subst (λ (x : Hart). turn file harts t x (desk_value d.machine lives) ≡ leaves left (desk_value m (lives_after t (is_full harts living d.machine.made) r lives)) es) same
    (served lives (asks.value ∙ ap (λ (x : Hart). requests.request file t x.thread) (sym same)) (record { count = counted; joined_is = told })))
