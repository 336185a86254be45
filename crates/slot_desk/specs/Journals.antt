-- What holds of the memory of a journal.
use Rattle.std.specs.Prelude.{◌≡◌, ◌≤◌, ℕ, Bool, false, Option, Some, None, List, All}
use Rattle.std.specs.List.Sorted.{IsNonDecreasingBy}
use Rattle.slot_desk.specs.declared.slot.Attachment.{Attachment}

-- no attachment of the journal begins after that epoch
abbrev pub BeginBy : ℕ → List Attachment → Type 0
BeginBy epoch journal = All (λ (a : Attachment). a.epoch ≤ epoch) journal

-- A slot's attachments begin in rising epochs, up to its owner's, or up to the last epoch where the slot is free.
pub record IsJournal (owner : Option Attachment) (spent : Bool) (last : ℕ) (journal : List Attachment) : Type 0 where
  pub rising : IsNonDecreasingBy (λ (a : Attachment). a.epoch) journal
  pub owned : (a : Attachment) → owner ≡ Some a → (1 ≤ a.epoch) × BeginBy a.epoch journal
  pub free : owner ≡ None → spent ≡ false → BeginBy last journal
