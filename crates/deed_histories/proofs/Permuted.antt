-- What goes with the elements of a list goes with those of a permuted one.
use Rattle.std.proofs.Common.{◌≡◌, ℕ, List, [], ◌∷◌, length, get_or, refl, sym, ap, subst, ◌∙◌}
use Rattle.std.specs.Prelude.{map}
use Rattle.std.specs.List.{AllZip}
use Rattle.std.specs.List.Sorted.{IsPermutation, apply_swaps, SwapsInRange}
use Rattle.std.specs.List.{swap}
use Rattle.std.proofs.lemmas.List.{length-map}
use lib.ListN.{set, get_or-map}
use lib.Seq.{map-set}
use Rattle.turn_orders.specs.Lists.{Each, SameMembers}
use Rattle.turn_orders.proofs.Members.{at_member, all_members}
use Rattle.turn_orders.proofs.Permuted.{same_members}

-- both lists as one of pairs
pub record Pairs {X Y : Type 0} (R : X → Y → Type 0) (xs : List X) (ys : List Y) : Type 0 where
  pub pairs : List (X × Y)
  pub firsts : map (λ (p : X × Y). p.0) pairs ≡ xs
  pub seconds : map (λ (p : X × Y). p.1) pairs ≡ ys
  pub each : Each (λ (p : X × Y). R p.0 p.1) pairs

pub paired : {X Y : Type 0} (R : X → Y → Type 0) (xs : List X) (ys : List Y) → AllZip R xs ys → Pairs R xs ys
paired R [] [] z = record { pairs = []; firsts = refl; seconds = refl; each = tt }
paired R [] (y ∷ ys) z = absurd z
paired R (x ∷ xs) [] z = absurd z
paired {X} {Y} R (x ∷ xs) (y ∷ ys) z =
    let rest = paired R xs ys z.1 in
    record {
      pairs = (x, y) ∷ rest.pairs;
      firsts = ap (λ (zs : List X). x ∷ zs) rest.firsts;
      seconds = ap (λ (zs : List Y). y ∷ zs) rest.seconds;
      each = (z.0, rest.each);
    }

pub unpaired : {X Y : Type 0} (R : X → Y → Type 0) (ps : List (X × Y)) → Each (λ (p : X × Y). R p.0 p.1) ps → AllZip R (map (λ (p : X × Y). p.0) ps)
    (map (λ (p : X × Y). p.1) ps)
unpaired R [] e = tt
unpaired R (p ∷ ps) e = (e.0, unpaired R ps e.1)

-- ---- lists that are moved alike

module _ {X Y : Type 0} (f : X → Y) where
  map_swap : (xs : List X) (i j : ℕ) → map f (swap xs i j) ≡ swap (map f xs) i j
  map_swap [] i j = refl
  map_swap (d ∷ ys) i j =
      map-set f (set (d ∷ ys) i (get_or (d ∷ ys) j d)) j (get_or (d ∷ ys) i d)
      ∙ (λ k. set ((map-set f (d ∷ ys) i (get_or (d ∷ ys) j d) ∙ ap (set (map f (d ∷ ys)) i) (sym (get_or-map f (d ∷ ys) j d))) k) j
      (sym (get_or-map f (d ∷ ys) i d) k))

  pub map_swaps : (xs : List X) (ps : List (ℕ × ℕ)) → map f (apply_swaps xs ps) ≡ apply_swaps (map f xs) ps
  map_swaps xs [] = refl
  map_swaps xs (p ∷ ps) = map_swap (apply_swaps xs ps) p.0 p.1 ∙ ap (λ (l : List Y). swap l p.0 p.1) (map_swaps xs ps)

-- A list, and what goes with its elements, in another order.
pub record Moved {X Y : Type 0} (R : X → Y → Type 0) (xs : List X) (zs : List Y) : Type 0 where
  pub list : List X
  pub same : SameMembers xs list
  pub goes : AllZip R list zs

pub moved : {X Y : Type 0} (R : X → Y → Type 0) (xs : List X) (ys zs : List Y) → AllZip R xs ys → IsPermutation ys zs → Moved R xs zs
moved {X} {Y} R xs ys zs z p =
    let pairs = paired R xs ys z in
    let fst : X × Y → X = λ q. q.0 in
    let snd : X × Y → Y = λ q. q.1 in
    let long : length ys ≡ length pairs.pairs = ap (λ (l : List Y). length l) (sym pairs.seconds) ∙ length-map pairs.pairs snd in
    let perm : IsPermutation pairs.pairs (apply_swaps pairs.pairs p.moves) = record
    { moves = p.moves; below = subst (λ (n : ℕ). SwapsInRange n p.moves) long p.below; is = refl } in
    let members = same_members pairs.pairs (apply_swaps pairs.pairs p.moves) perm in
    let each = all_members (λ (q : X × Y). R q.0 q.1) (apply_swaps pairs.pairs p.moves)
    (λ q i. at_member (λ (r : X × Y). R r.0 r.1) q pairs.pairs pairs.each ((members q).1 i)) in
    let firsts : IsPermutation xs (map fst (apply_swaps pairs.pairs p.moves)) = record {
      moves = p.moves;
      below = subst (λ (n : ℕ). SwapsInRange n p.moves) (long ∙ (sym (length-map pairs.pairs fst) ∙ ap (λ (l : List X). length l) pairs.firsts)) p.below;
      is = map_swaps fst pairs.pairs p.moves ∙ ap (λ (l : List X). apply_swaps l p.moves) pairs.firsts;
    } in
    let seconds : map snd (apply_swaps pairs.pairs p.moves) ≡ zs = map_swaps snd pairs.pairs p.moves ∙
    (ap (λ (l : List Y). apply_swaps l p.moves) pairs.seconds ∙ sym p.is) in
    record {
      list = map fst (apply_swaps pairs.pairs p.moves);
      same = same_members xs (map fst (apply_swaps pairs.pairs p.moves)) firsts;
      goes = subst (AllZip R (map fst (apply_swaps pairs.pairs p.moves))) seconds (unpaired R (apply_swaps pairs.pairs p.moves) each);
    }
