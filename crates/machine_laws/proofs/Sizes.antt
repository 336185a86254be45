-- The sizes that calls name.
use Rattle.std.proofs.Common.{◌≤◌, ◌-◌, ℕ, Bool, cond, nat_lt, nat_eq, min, List, [], ◌∷◌, Option, Some, None, arith}
use Rattle.std.specs.Prelude.{find, option_map}
use Rattle.std.proofs.lemmas.Bool.{cond_both}
use Rattle.rv_exec.specs.Registers.{Registers, value}
use Rattle.entry_calls.specs.declared.call.Call.{Call}
use Rattle.entry_calls.specs.declared.call.Call.TheVariants as calls
use Rattle.entry_calls.specs.Calls.{Row, call_of, call_numbered, found, services, accesses, others, operations}

-- an access has at most 65,536 bytes, and an atomic operation at least one and at most eight
abbrev pub IsSized : Call → Type 0
IsSized (calls.Access addr size read) = size ≤ 65536
IsSized (calls.Atomic op size addr v expected order fail_order) = (1 ≤ size) × (size ≤ 8)
IsSized _ = Unit {0}

abbrev pub IsSizedIfAny : Option Call → Type 0
IsSizedIfAny None = Unit {0}
IsSizedIfAny (Some c) = IsSized c

abbrev AreSized : Registers → List Row → Type 0
AreSized r [] = Unit {0}
AreSized r (row ∷ rows) = IsSized (row.call r) × AreSized r rows

found_sized : (rows : List Row) (n : ℕ) (r : Registers) → AreSized r rows → IsSizedIfAny (found rows n r)
found_sized [] n r s = tt
found_sized (row ∷ rows) n r s =
    cond_both (nat_eq row.number n) (Some row) (find (λ (row : Row). nat_eq row.number n) rows) (λ (o : Option Row). IsSizedIfAny (option_map (λ (row : Row). row.call r) o)) (λ e. s.0) (λ e. found_sized rows n r s.1)

services_sized : (r : Registers) → AreSized r services
services_sized r = (tt, (tt, (tt, (tt, (tt, (tt, tt))))))

small : (n : ℕ) → min n 65536 ≤ 65536
small n = omega arith

accesses_sized : (r : Registers) → AreSized r accesses
accesses_sized r =
    let one : 1 ≤ 65536 = omega arith in
    let two : 2 ≤ 65536 = omega arith in
    let four : 4 ≤ 65536 = omega arith in
    let eight : 8 ≤ 65536 = omega arith in
    let sixteen : 16 ≤ 65536 = omega arith in
    let range = small (value r 11) in
    (one, (two, (four, (eight, (sixteen, (one, (two, (four, (eight, (sixteen, (two, (four, (eight, (sixteen, (two, (four, (eight, (sixteen, (range, (range, tt))))))))))))))))))))

others_sized : (r : Registers) → AreSized r others
others_sized r =
    let eight : 8 ≤ 65536 = omega arith in
    (tt, (tt, (eight, (eight, (tt, (tt, (tt, (tt, (tt, (tt, (tt, tt)))))))))))

operations_sized : (size : ℕ) (r : Registers) → (1 ≤ size) × (size ≤ 8) → AreSized r (operations size)
operations_sized size r s = (s, (s, (s, (s, (s, (s, (s, (s, (s, tt)))))))))

either_sized : (b : Bool) (x y : Option Call) → IsSizedIfAny x → IsSizedIfAny y → IsSizedIfAny (cond b x y)
either_sized b x y p q = cond_both b x y IsSizedIfAny (λ e. p) (λ e. q)

numbered_sized : (n : ℕ) (r : Registers) → IsSizedIfAny (call_numbered n r)
numbered_sized n r =
    either_sized (nat_lt n 16) _ _ (found_sized services n r (services_sized r))
    (either_sized (nat_lt n 36) _ _ (found_sized accesses n r (accesses_sized r))
    (either_sized (nat_lt n 64) _ _ (found_sized others n r (others_sized r))
    (either_sized (nat_lt n 80) _ _ (found_sized (operations 1) (n - 64) r (operations_sized 1 r (omega arith, omega arith)))
    (either_sized (nat_lt n 96) _ _ (found_sized (operations 2) (n - 80) r (operations_sized 2 r (omega arith, omega arith)))
    (either_sized (nat_lt n 112) _ _ (found_sized (operations 4) (n - 96) r (operations_sized 4 r (omega arith, omega arith)))
    (either_sized (nat_lt n 128) _ _ (found_sized (operations 8) (n - 112) r (operations_sized 8 r (omega arith, omega arith))) tt))))))

pub call_sized : (r : Registers) → IsSizedIfAny (call_of r)
unfolding call_of
call_sized r = numbered_sized (value r 17) r
