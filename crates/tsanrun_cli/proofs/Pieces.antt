-- Pieces that are put one after another.
use Rattle.std.proofs.Common.{◌≡◌, ℕ, suc, ◌+◌, ◌<◌, List, [], ◌∷◌, ◌++◌, length, take, drop, get_or, Option, Some, None, ap, append_assoc, sym, ◌∙◌}
use Rattle.std.proofs.Math.Seq.{take-append-add, take-append_seam, split_at}
use Rattle.std.proofs.lemmas.List.{take_more, append-nil, take-append-drop}
use Rattle.std.proofs.lemmas.List.Concat.{flat_map-append}
use Rattle.std.specs.List.{flat_map}
use Rattle.std.specs.Prelude.{Result, Ok, Err, OnErr}
use Rattle.tool_ports.specs.Ports.{Appends, AppendsPart}

pub append_after : (a b c : Option (List ℕ)) (x y : List ℕ) → Appends a b x → Appends b c y → Appends a c (x ++ y)
append_after None b c x y first second = rw first at second
append_after (Some o) b c x y first second = rw (append_assoc) at (rw first at second)

-- a part of the second of two pieces is a part of both, and of what begins with them
take_after : (n : ℕ) (x y rest : List ℕ) → take (length x + length (take n y)) (x ++ (y ++ rest)) ≡ x ++ take n y
take_after n x y rest =
    let apart : take n y ++ (drop n y ++ rest) ≡ y ++ rest = sym (append_assoc (take n y) (drop n y) rest) ∙ ap (λ t. t ++ rest) (take-append-drop n y) in
    let short : take (length (take n y)) (y ++ rest) ≡ take n y = rw (← apart) (take-append_seam (take n y) (drop n y ++ rest)) in
    take-append-add x (y ++ rest) (length (take n y)) ∙ ap (λ t. x ++ t) short

pub part_after : (a b c : Option (List ℕ)) (x y rest all : List ℕ) → all ≡ x ++ (y ++ rest) → Appends a b x → AppendsPart b c y → AppendsPart a c all
part_after a b c x y rest all whole first part =
    let both : Appends a c (x ++ take part.0 y) = append_after a b c x (take part.0 y) first part.1 in
    let n = length x + length (take part.0 y) in
    let cut : take n all ≡ x ++ take part.0 y = rw whole (take_after part.0 x y rest) in
    (n, rw cut both)

-- one more piece
pub pieces_more : {X : Type 0} (f : X → List ℕ) (xs : List X) (i : ℕ) (d : X) → i < length xs → flat_map f (take (i + 1) xs) ≡ flat_map f (take i xs) ++ f (get_or xs i d)
pieces_more f xs i d within =
    let more : flat_map f (take (i + 1) xs) ≡ flat_map f (take i xs ++ get_or xs i d ∷ []) = ap (flat_map f) (take_more xs i d within) in
    let apart : flat_map f (take i xs ++ get_or xs i d ∷ []) ≡ flat_map f (take i xs) ++ (f (get_or xs i d) ++ []) = flat_map-append f (take i xs) (get_or xs i d ∷ []) in
    let last : f (get_or xs i d) ++ [] ≡ f (get_or xs i d) = append-nil (f (get_or xs i d)) in
    more ∙ apart ∙ ap (λ t. flat_map f (take i xs) ++ t) last

pub pieces_around : {X : Type 0} (f : X → List ℕ) (xs : List X) (i : ℕ) (d : X) → i < length xs → flat_map f xs ≡ flat_map f (take i xs) ++ (f (get_or xs i d) ++ flat_map f (drop (suc i) xs))
pieces_around f xs i d within =
    ap (flat_map f) (split_at xs i d within) ∙ flat_map-append f (take i xs) (get_or xs i d ∷ drop (suc i) xs)

-- one more text, of one more item
pub text_more : {V X : Type 0} (g : V → List ℕ) (f : X → List ℕ) (texts : List V) (text : V) (xs : List X) (i : ℕ) (x : X) → i < length xs → x ≡ get_or xs i x → g text ≡ f x → flat_map g texts ≡ flat_map f (take i xs) → flat_map g (texts ++ text ∷ []) ≡ flat_map f (take (i + 1) xs)
text_more g f texts text xs i x within is same before =
    let longer : flat_map g (texts ++ text ∷ []) ≡ flat_map g texts ++ (g text ++ []) = flat_map-append g texts (text ∷ []) in
    let more : flat_map f (take (i + 1) xs) ≡ flat_map f (take i xs) ++ f (get_or xs i x) = pieces_more f xs i x within in
    let item : f (get_or xs i x) ≡ g text = ap f (sym is) ∙ sym same in
    let nil : g text ++ [] ≡ g text = append-nil (g text) in
    cc

pub on_err : {T E : Type 0} (r : Result T E) (P : Type 0) → P → OnErr r P
on_err (Ok v) P p = tt
on_err (Err e) P p = p
