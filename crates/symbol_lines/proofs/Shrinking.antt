-- The machine that keeps less does what the machine does.
use Rattle.std.proofs.Common.{◌≡◌, ℕ, ◌+◌, ◌%◌, ◌^◌, List, [], ◌∷◌, ◌++◌, Some, refl, ap, ◌∙◌}
use Rattle.std.specs.Prelude.{fold, unwrap_or}
use Rattle.std.proofs.lemmas.List.{map_push}
use Rattle.symbol_lines.specs.declared.rows.Row.{Row}
use Rattle.symbol_lines.specs.Program.{Operation, Machine, Advance, AddRow, SetAddress, SetFile, EndSequence, DefineFile, perform, first_address}
use Rattle.symbol_lines.specs.Kept.{add_kept, KeptMachine, perform_kept, kept_sequence, first_of, kept_machine}
use Rattle.symbol_lines.proofs.KeptRows.{fold-push}

first_of-push : (rows : List Row) (r : Row) → first_of (rows ++ r ∷ []) ≡ Some (unwrap_or (first_of rows) r.address)
first_of-push [] r = refl
first_of-push (x ∷ xs) r = refl

first_address_is : (rows : List Row) (end : ℕ) → first_address rows end ≡ unwrap_or (first_of rows) end
first_address_is [] end = refl
first_address_is (x ∷ xs) end = refl

-- one operation
pub perform-kept : (k : ℕ) (m : Machine) (o : Operation) → kept_machine k (perform m o) ≡ perform_kept (kept_machine k m) o
perform-kept k m (Advance by lines) = refl
perform-kept k m (AddRow by lines) =
    let row : Row = record { address = (m.address + by) % 2 ^ 64; line = (m.line + lines) % 2 ^ 64; file = m.file } in
    rw (first_of-push m.rows row, fold-push add_kept [] m.rows row) refl
perform-kept k m (SetAddress a) = refl
perform-kept k m (SetFile n) = refl
perform-kept k m EndSequence =
    rw (map_push (kept_sequence k) m.sequences (record { start = first_address m.rows m.address; end = m.address; rows = m.rows }), first_address_is m.rows m.address) refl
perform-kept k m (DefineFile f) = refl

-- a whole program
pub program-kept : (k : ℕ) (m : Machine) (os : List Operation) → kept_machine k (fold perform m os) ≡ fold perform_kept (kept_machine k m) os
program-kept k m [] = refl
program-kept k m (o ∷ os) = program-kept k (perform m o) os ∙ ap (λ (n : KeptMachine). fold perform_kept n os) (perform-kept k m o)
