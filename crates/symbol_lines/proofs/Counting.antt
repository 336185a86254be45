-- Lists that are read entry by entry, as loops do: what was read before, and what is still read.
use Rattle.std.proofs.Common.{◌≡◌, ℕ, zero, suc, ◌+◌, ◌-◌, ◌<◌, ◌≤◌, Bool, true, false, eqb, List, [], ◌∷◌, ◌++◌, length, Option, Some, None, refl, sym, ap, ◌∙◌, append_assoc, arith}
use Rattle.std.specs.Prelude.{fold}
use Rattle.std.specs.Option.{option_map}
use Rattle.std.proofs.lemmas.Bool.{eq-eqb, ne_eqb, eqb-true}
use Rattle.std.proofs.lemmas.List.{append-nil}
use Rattle.symbol_lines.specs.Reading.{◌>>=◌, text_at, list_at}
use Rattle.symbol_lines.specs.Paths.{Entry}
use Rattle.symbol_lines.specs.Program.{Rules, Operation, named, file_after, directories_at, files_at, operation_at, operations_in}

-- what was read before, in front of what is read
abbrev pub with_front : {A : Type 0} → List A → Option (List A × List ℕ) → Option (List A × List ℕ)
with_front front read = read >>= λ x. Some (front ++ x.0, x.1)

regroup : {A : Type 0} (front : List A) (d : A) (read : Option (List A × List ℕ)) → with_front front (read >>= λ x. Some (d ∷ x.0, x.1)) ≡ with_front (front ++ d ∷ []) read
regroup front d None = refl
regroup {A} front d (Some x) = ap (λ (ds : List A). Some (ds, x.1)) (sym (append_assoc front (d ∷ []) x.0))

-- so many things
pub list_more : {A : Type 0} (read : List ℕ → Option (A × List ℕ)) (front : List A) (n i : ℕ) (bytes after : List ℕ) (x : A) (total : Option (List A × List ℕ)) → i < n → Some (x, after) ≡ read bytes
    → with_front front (list_at read (n - i) bytes) ≡ total → with_front (front ++ x ∷ []) (list_at read (n - (i + 1)) after) ≡ total
unfolding list_at
list_more read front n i bytes after x total lt is so_far =
    let k : n - i ≡ suc (n - (i + 1)) = omega arith in
    let one : with_front front (list_at read (n - i) bytes) ≡ with_front (front ++ x ∷ []) (list_at read (n - (i + 1)) after) = rw (k, ← is) (regroup front x (list_at read (n - (i + 1)) after)) in
    sym one ∙ so_far

pub list_bad : {A : Type 0} (read : List ℕ → Option (A × List ℕ)) (front : List A) (n i : ℕ) (bytes : List ℕ) (total : Option (List A × List ℕ)) → i < n → None ≡ read bytes
    → with_front front (list_at read (n - i) bytes) ≡ total → None ≡ total
unfolding list_at
list_bad read front n i bytes total lt is so_far =
    let k : n - i ≡ suc (n - (i + 1)) = omega arith in
    let one : with_front front (list_at read (n - i) bytes) ≡ None = rw (k, ← is) refl in
    sym one ∙ so_far

pub list_end : {A : Type 0} (read : List ℕ → Option (A × List ℕ)) (front : List A) (n i : ℕ) (bytes : List ℕ) (total : Option (List A × List ℕ)) → n ≤ i
    → with_front front (list_at read (n - i) bytes) ≡ total → Some (front, bytes) ≡ total
unfolding list_at
list_end {A} read front n i bytes total le so_far =
    let k : n - i ≡ 0 = omega arith in
    let one : with_front front (list_at read (n - i) bytes) ≡ Some (front, bytes) = rw k (ap (λ (xs : List A). Some (xs, bytes)) (append-nil front)) in
    sym one ∙ so_far

-- directories

pub directory_more : (front : List Entry) (n i : ℕ) (bytes d after : List ℕ) (total : Option (List Entry × List ℕ)) → i < n → Some (d, after) ≡ text_at bytes → (length d ≡ 0 → ⊥)
    → with_front front (directories_at (n - i) bytes) ≡ total → with_front (front ++ named d 0 ∷ []) (directories_at (n - (i + 1)) after) ≡ total
unfolding directories_at
directory_more front n i bytes d after total lt read some so_far =
    let k : n - i ≡ suc (n - (i + 1)) = omega arith in
    let not_empty : eqb (length d) 0 ≡ false = ne_eqb _ _ some in
    let one : with_front front (directories_at (n - i) bytes) ≡ with_front (front ++ named d 0 ∷ []) (directories_at (n - (i + 1)) after) = rw (k, ← read, not_empty) (regroup front (named d 0) (directories_at (n - (i + 1)) after)) in
    sym one ∙ so_far

pub directories_end : (front : List Entry) (n i : ℕ) (bytes d after : List ℕ) (total : Option (List Entry × List ℕ)) → i < n → Some (d, after) ≡ text_at bytes → length d ≡ 0
    → with_front front (directories_at (n - i) bytes) ≡ total → Some (front, after) ≡ total
unfolding directories_at
directories_end front n i bytes d after total lt read none so_far =
    let k : n - i ≡ suc (n - (i + 1)) = omega arith in
    let empty : eqb (length d) 0 ≡ true = eq-eqb _ _ none in
    let one : with_front front (directories_at (n - i) bytes) ≡ Some (front, after) = rw (k, ← read, empty) (ap (λ (ds : List Entry). Some (ds, after)) (append-nil front)) in
    sym one ∙ so_far

pub directories_bad : (front : List Entry) (n i : ℕ) (bytes : List ℕ) (total : Option (List Entry × List ℕ)) → i < n → None ≡ text_at bytes
    → with_front front (directories_at (n - i) bytes) ≡ total → None ≡ total
unfolding directories_at
directories_bad front n i bytes total lt read so_far =
    let k : n - i ≡ suc (n - (i + 1)) = omega arith in
    let one : with_front front (directories_at (n - i) bytes) ≡ None = rw (k, ← read) refl in
    sym one ∙ so_far

pub directories_over : (front : List Entry) (n i : ℕ) (bytes : List ℕ) (total : Option (List Entry × List ℕ)) → n ≤ i
    → with_front front (directories_at (n - i) bytes) ≡ total → None ≡ total
unfolding directories_at
directories_over front n i bytes total le so_far =
    let k : n - i ≡ 0 = omega arith in
    let one : with_front front (directories_at (n - i) bytes) ≡ None = rw k refl in
    sym one ∙ so_far

-- files
abbrev pub with_files : List Entry → Option (List Entry) → Option (List Entry)
with_files front read = read >>= λ x. Some (front ++ x)

regroup_files : (front : List Entry) (f : Entry) (read : Option (List Entry)) → with_files front (read >>= λ x. Some (f ∷ x)) ≡ with_files (front ++ f ∷ []) read
regroup_files front f None = refl
regroup_files front f (Some x) = ap (λ (fs : List Entry). Some fs) (sym (append_assoc front (f ∷ []) x))

pub file_more : (front : List Entry) (n i : ℕ) (bytes name between after : List ℕ) (f : Entry) (total : Option (List Entry)) → i < n → Some (name, between) ≡ text_at bytes → (length name ≡ 0 → ⊥) → Some (f, after) ≡ file_after name between
    → with_files front (files_at (n - i) bytes) ≡ total → with_files (front ++ f ∷ []) (files_at (n - (i + 1)) after) ≡ total
unfolding files_at
file_more front n i bytes name between after f total lt read some entry so_far =
    let k : n - i ≡ suc (n - (i + 1)) = omega arith in
    let not_empty : eqb (length name) 0 ≡ false = ne_eqb _ _ some in
    let one : with_files front (files_at (n - i) bytes) ≡ with_files (front ++ f ∷ []) (files_at (n - (i + 1)) after) = rw (k, ← read, not_empty) (rw (← entry) (regroup_files front f (files_at (n - (i + 1)) after))) in
    sym one ∙ so_far

pub files_end : (front : List Entry) (n i : ℕ) (bytes name between : List ℕ) (total : Option (List Entry)) → i < n → Some (name, between) ≡ text_at bytes → length name ≡ 0
    → with_files front (files_at (n - i) bytes) ≡ total → Some front ≡ total
unfolding files_at
files_end front n i bytes name between total lt read none so_far =
    let k : n - i ≡ suc (n - (i + 1)) = omega arith in
    let empty : eqb (length name) 0 ≡ true = eq-eqb _ _ none in
    let one : with_files front (files_at (n - i) bytes) ≡ Some front = rw (k, ← read, empty) (ap (λ (fs : List Entry). Some fs) (append-nil front)) in
    sym one ∙ so_far

pub files_bad : (front : List Entry) (n i : ℕ) (bytes : List ℕ) (total : Option (List Entry)) → i < n → None ≡ text_at bytes
    → with_files front (files_at (n - i) bytes) ≡ total → None ≡ total
unfolding files_at
files_bad front n i bytes total lt read so_far =
    let k : n - i ≡ suc (n - (i + 1)) = omega arith in
    let one : with_files front (files_at (n - i) bytes) ≡ None = rw (k, ← read) refl in
    sym one ∙ so_far

pub files_bad_entry : (front : List Entry) (n i : ℕ) (bytes name between : List ℕ) (total : Option (List Entry)) → i < n → Some (name, between) ≡ text_at bytes → (length name ≡ 0 → ⊥) → None ≡ file_after name between
    → with_files front (files_at (n - i) bytes) ≡ total → None ≡ total
unfolding files_at
files_bad_entry front n i bytes name between total lt read some entry so_far =
    let k : n - i ≡ suc (n - (i + 1)) = omega arith in
    let not_empty : eqb (length name) 0 ≡ false = ne_eqb _ _ some in
    let one : with_files front (files_at (n - i) bytes) ≡ None = rw (k, ← read, not_empty) (rw (← entry) refl) in
    sym one ∙ so_far

pub files_over : (front : List Entry) (n i : ℕ) (bytes : List ℕ) (total : Option (List Entry)) → n ≤ i
    → with_files front (files_at (n - i) bytes) ≡ total → None ≡ total
unfolding files_at
files_over front n i bytes total le so_far =
    let k : n - i ≡ 0 = omega arith in
    let one : with_files front (files_at (n - i) bytes) ≡ None = rw k refl in
    sym one ∙ so_far

-- operations, and what they do one after the other
runs_on : {M : Type 0} (perform : M → Operation → M) (m : M) (o : Operation) (read : Option (List Operation)) → option_map (fold perform m) (read >>= λ os. Some (o ∷ os)) ≡ option_map (fold perform (perform m o)) read
runs_on perform m o None = refl
runs_on perform m o (Some os) = refl

pub operation_more : {M : Type 0} (perform : M → Operation → M) (m : M) (r : Rules) (n i : ℕ) (bytes after : List ℕ) (o : Operation) (total : Option M) → i < n → (length bytes ≡ 0 → ⊥) → Some (o, after) ≡ operation_at r bytes
    → option_map (fold perform m) (operations_in r (n - i) bytes) ≡ total → option_map (fold perform (perform m o)) (operations_in r (n - (i + 1)) after) ≡ total
unfolding operations_in
operation_more perform m r n i bytes after o total lt some read so_far =
    let k : n - i ≡ suc (n - (i + 1)) = omega arith in
    let not_empty : eqb (length bytes) 0 ≡ false = ne_eqb _ _ some in
    let one : option_map (fold perform m) (operations_in r (n - i) bytes) ≡ option_map (fold perform (perform m o)) (operations_in r (n - (i + 1)) after) = rw (k, not_empty) (rw (← read) (runs_on perform m o (operations_in r (n - (i + 1)) after))) in
    sym one ∙ so_far

pub operations_end : {M : Type 0} (perform : M → Operation → M) (m : M) (r : Rules) (k : ℕ) (bytes : List ℕ) (total : Option M) → length bytes ≡ 0
    → option_map (fold perform m) (operations_in r k bytes) ≡ total → Some m ≡ total
unfolding operations_in
operations_end perform m r zero bytes total none so_far =
    let empty : eqb (length bytes) 0 ≡ true = eq-eqb _ _ none in
    let one : option_map (fold perform m) (operations_in r zero bytes) ≡ Some m = rw empty refl in
    sym one ∙ so_far
operations_end perform m r (suc k) bytes total none so_far =
    let empty : eqb (length bytes) 0 ≡ true = eq-eqb _ _ none in
    let one : option_map (fold perform m) (operations_in r (suc k) bytes) ≡ Some m = rw empty refl in
    sym one ∙ so_far

pub operations_bad : {M : Type 0} (perform : M → Operation → M) (m : M) (r : Rules) (n i : ℕ) (bytes : List ℕ) (total : Option M) → i < n → (length bytes ≡ 0 → ⊥) → None ≡ operation_at r bytes
    → option_map (fold perform m) (operations_in r (n - i) bytes) ≡ total → None ≡ total
unfolding operations_in
operations_bad perform m r n i bytes total lt some read so_far =
    let k : n - i ≡ suc (n - (i + 1)) = omega arith in
    let not_empty : eqb (length bytes) 0 ≡ false = ne_eqb _ _ some in
    let one : option_map (fold perform m) (operations_in r (n - i) bytes) ≡ None = rw (k, not_empty) (rw (← read) refl) in
    sym one ∙ so_far

pub operations_over : {M : Type 0} (perform : M → Operation → M) (m : M) (r : Rules) (n i : ℕ) (bytes : List ℕ) (total : Option M) → n ≤ i → (length bytes ≡ 0 → ⊥)
    → option_map (fold perform m) (operations_in r (n - i) bytes) ≡ total → None ≡ total
unfolding operations_in
operations_over perform m r n i bytes total le some so_far =
    let k : n - i ≡ 0 = omega arith in
    let not_empty : eqb (length bytes) 0 ≡ false = ne_eqb _ _ some in
    let one : option_map (fold perform m) (operations_in r (n - i) bytes) ≡ None = rw (k, not_empty) refl in
    sym one ∙ so_far

-- the test of an empty list
pub is_empty : (n : ℕ) (b : Bool) → b ≡ eqb n 0 → b ≡ true → n ≡ 0
is_empty n b e h = eqb-true n 0 (sym e ∙ h)

pub is_some : (n : ℕ) (b : Bool) → b ≡ eqb n 0 → b ≡ false → n ≡ 0 → ⊥
is_some n b e h z = let one : eqb n 0 ≡ true = eq-eqb n 0 z in let two : eqb n 0 ≡ false = sym e ∙ h in cc
