-- The reports of the accesses that wait, as a detector tells them.
use Rattle.std.specs.Prelude.{◌≡◌, ◌+◌, ◌*◌, ℕ, Bool, true, List, [], length, map, fold, All, Option, Some, IsSome}
use Rattle.std.specs.List.{AllZip}
use Rattle.run_record.specs.declared.report.Report.{Report}
use Rattle.run_record.specs.declared.report.Side.{Side}
use Rattle.elf_image.specs.File.{granule_of, granules_of, granule_address}
use Rattle.run_laws.specs.Moments.{Moment}
use Rattle.run_laws.specs.Reports.{Kept, kept_after}
use Rattle.run_laws.specs.Words.{sid, epoch, label_in}
use Rattle.shadow_word.specs.Cells.{cell_in, fields_of}
use Rattle.slot_desk.specs.Desks.{DeskContents, slot_of, owner_at}
use Rattle.trace_parts.specs.Held.{HeldTrace, has_label}
use Rattle.trace_parts.specs.Sought.{restored, first_held}
use Rattle.report_laws.specs.Owners.{previous_side}
use Rattle.report_laws.specs.Awaited.{Awaited, HasOwner, IsRestorable, IsToldBy}
use Rattle.report_text.specs.Offers.{offers}
use Rattle.detector.specs.Detected.{Detected}
use Rattle.detector.specs.Stands.{Stands, awaited}

-- The desk's journals name the thread whose label the word has.
abbrev pub IsOwnedBy : DeskContents → ℕ → ℕ → Type 0
IsOwnedBy desk word t = owner_at (slot_of desk (sid word)).journal (epoch word) ≡ Some t

-- the word is a cell's, and its label some thread's
pub record HasOwnerAt (desk : DeskContents) (word : ℕ) : Type 0 where
  pub cell : cell_in word ≡ Some (fields_of word)
  pub tid : ℕ
  pub owned : IsOwnedBy desk word tid

-- The granule is one of the file, and the word a cell's. Where the trace has the word's label, it has an access
-- under it with the word on the granule.
pub record CanBeSought (file : List ℕ) (trace : HeldTrace) (granule word : ℕ) : Type 0 where
  pub block : ℕ
  pub granule_is : granule_of file (8 * block) ≡ Some granule
  pub cell : cell_in word ≡ Some (fields_of word)
  pub stands :
      has_label trace (label_in word) ≡ true →
      IsSome (first_held trace.held (label_in word) (granule_address file granule) word)

-- the access of thread t that left the word on the granule, as the trace tells it, or as far as the word does
abbrev pub side_in : List ℕ → HeldTrace → ℕ → ℕ → ℕ → Side
side_in file trace granule word t =
    let address_of = granule_address file in
    previous_side address_of granule word t (restored (first_held trace.held (label_in word) (address_of granule) word))

-- A history left the detector so. In it the label of the candidate's word is a thread's and of the present era, and the
-- word can be sought in traces.
pub record CanBeTold (file : List ℕ) (d : Detected) (one : Awaited) : Type 0 where
  pub from : ℕ
  pub leaving : Option ℕ
  pub h : List Moment
  pub stands : Stands (granules_of file) d.limits from leaving h d
  pub owner : HasOwner d.limits.epochs h one
  pub restorable : IsRestorable d.limits (granule_of file) (granule_address file) h one

-- in each such history the candidate's report has that earlier access
abbrev pub TellsPrevious : List ℕ → Detected → Awaited → Side → Type 0
TellsPrevious file d one side =
    (from : ℕ) (leaving : Option ℕ) (h : List Moment) → Stands (granules_of file) d.limits from leaving h d →
    HasOwner d.limits.epochs h one → IsRestorable d.limits (granule_of file) (granule_address file) h one →
    IsToldBy d.limits (granule_address file) h one (record { mine = one.mine; previous = side })

-- One history left the detector so, and in it each candidate that waits can be told.
pub record CanTellAll (file : List ℕ) (d : Detected) : Type 0 where
  pub from : ℕ
  pub leaving : Option ℕ
  pub h : List Moment
  pub stands : Stands (granules_of file) d.limits from leaving h d
  pub owners : All (HasOwner d.limits.epochs h) (map awaited d.waiting)
  pub restorable : All (IsRestorable d.limits (granule_of file) (granule_address file) h) (map awaited d.waiting)

-- The reports of all that waited were offered in order, by the rules that two stacks may meet, and none waits any more.
pub record TellsAll (meets : Option (List ℕ) → Option (List ℕ) → Bool) (file : List ℕ) (old new : Detected) (before after : Kept) : Type 0 where
  pub told : List Report
  pub as_many : length told ≡ length old.waiting
  pub tells :
      (from : ℕ) (leaving : Option ℕ) (h : List Moment) → Stands (granules_of file) old.limits from leaving h old →
      All (HasOwner old.limits.epochs h) (map awaited old.waiting) →
      All (IsRestorable old.limits (granule_of file) (granule_address file) h) (map awaited old.waiting) →
      AllZip (IsToldBy old.limits (granule_address file) h) (map awaited old.waiting) told
  pub kept : after ≡ fold (kept_after meets) before told
  pub counted : offers after ≡ offers before + length told
  pub none_waits : new ≡ record old { waiting = [] }
