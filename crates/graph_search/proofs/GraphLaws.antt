-- The links of a node stand side by side.
use Rattle.std.proofs.Common.{◌≡◌, ℕ, ◌+◌, ◌-◌, ◌<◌, ◌≤◌, List, length, map, get_or, take, drop, sym, ap, ◌∙◌, inl, inr, arith}
use Rattle.std.specs.List.{All, Contains}
use Rattle.std.proofs.lemmas.Bool.{cases_lt}
use Rattle.std.proofs.lemmas.List.{length-take, length-drop, get_or-take, get_or-drop, length-map, get_or-map}
use Rattle.std.proofs.lemmas.List.Elements.{All-map}
use Rattle.graph_search.specs.declared.graph.Link.{Link}
use Rattle.graph_search.specs.Graphs.{IsWithin, AreStarts, AreFrom, turn}
use Rattle.graph_search.specs.Searches.{at}

abbrev nothing : Link
nothing = record { from = 0; to = 0 }

pub starts_rise : (nodes n : ℕ) (links : List Link) (starts : List ℕ) → AreStarts nodes links starts → n < nodes → at starts n ≤ at starts (n + 1)
starts_rise nodes n links starts s l = elim (cases_lt (at starts (n + 1)) (at starts n)) [
  | inl less ↦
      let i = at starts (n + 1) in
      let w = s.within n (omega arith) in
      let below : (get_or links i nothing).from < n = (s.parts n (omega arith)).0 i nothing (omega arith) less in
      let above : n + 1 ≤ (get_or links i nothing).from = (s.parts (n + 1) (omega arith)).1 i nothing (omega arith) (omega arith) in
      absurd (omega arith)
  | inr up ↦ up
]

abbrev pub part : List Link → List ℕ → ℕ → List Link
part links starts n = take (at starts (n + 1) - at starts n) (drop (at starts n) links)

module _ (nodes n : ℕ) (links : List Link) (starts : List ℕ) (s : AreStarts nodes links starts) (l : n < nodes) where
  long : length (part links starts n) ≡ at starts (n + 1) - at starts n
  long =
      let w = s.within (n + 1) (omega arith) in
      let d = length-drop (at starts n) links in
      omega (arith, length-take (at starts (n + 1) - at starts n) (drop (at starts n) links))

  read : (k : ℕ) (d : Link) → k < at starts (n + 1) - at starts n → get_or (part links starts n) k d ≡ get_or links (at starts n + k) d
  read k d inside = get_or-take (at starts (n + 1) - at starts n) (drop (at starts n) links) k d inside ∙ get_or-drop (at starts n) links k d

  pub from_part : AreFrom links n (part links starts n)
  from_part = record {
    each = λ k c.
        let w = s.within (n + 1) (omega arith) in
        let i : c.0 < at starts (n + 1) - at starts n = omega (arith, long, c.1) in
        (at starts n + c.0, omega arith, sym (read c.0 k i) ∙ c.2);
    from = λ k c.
        let w = s.within (n + 1) (omega arith) in
        let i : c.0 < at starts (n + 1) - at starts n = omega (arith, long, c.1) in
        let is : get_or links (at starts n + c.0) k ≡ k = sym (read c.0 k i) ∙ c.2 in
        let above : n ≤ (get_or links (at starts n + c.0) k).from = (s.parts n (omega arith)).1 (at starts n + c.0) k (omega arith) (omega arith) in
        let below : (get_or links (at starts n + c.0) k).from < n + 1 = (s.parts (n + 1) (omega arith)).0 (at starts n + c.0) k (omega arith) (omega arith) in
        let same : (get_or links (at starts n + c.0) k).from ≡ k.from = ap (λ (m : Link). m.from) is in
        omega arith;
    all = λ k c e.
        let same : (get_or links c.0 k).from ≡ k.from = ap (λ (m : Link). m.from) c.2 in
        let first : at starts n ≤ c.0 = elim (cases_lt c.0 (at starts n)) [
          | inl b ↦ let q : (get_or links c.0 k).from < n = (s.parts n (omega arith)).0 c.0 k (omega arith) b in absurd (omega arith)
          | inr b ↦ b
        ] in
        let last : c.0 < at starts (n + 1) = elim (cases_lt c.0 (at starts (n + 1))) [
          | inl b ↦ b
          | inr b ↦ let q : n + 1 ≤ (get_or links c.0 k).from = (s.parts (n + 1) (omega arith)).1 c.0 k b c.1 in absurd (omega arith)
        ] in
        let sum : at starts n + (c.0 - at starts n) ≡ c.0 = omega arith in
        (c.0 - at starts n, omega (arith, long), read (c.0 - at starts n) k (omega arith) ∙ (ap (λ (m : ℕ). get_or links m k) sum ∙ c.2));
  }

pub contains-turned : (links : List Link) (l : Link) → Contains links l → Contains (map turn links) (turn l)
contains-turned links l (k, inside, e) = (k, omega (arith, length-map links turn), get_or-map turn links k l (turn l) inside ∙ ap turn e)

pub contains-turn : (links : List Link) (l : Link) → Contains (map turn links) l → Contains links (turn l)
contains-turn links l (k, inside, e) =
    let short : k < length links = omega (arith, length-map links turn) in
    (k, short, ap turn (sym (get_or-map turn links k (turn l) l short) ∙ e))

pub turned_within : (n : ℕ) (links : List Link) → All (IsWithin n) links → All (IsWithin n) (map turn links)
turned_within n links w = All-map (IsWithin n) turn links (λ k d l. record { from = (w k d l).to; to = (w k d l).from })
