-- The ends of names, from the last offset of a string table down.
use Rattle.std.proofs.Common.{◌≡◌, ℕ, zero, suc, ◌+◌, ◌-◌, ◌<◌, ◌≤◌, Bool, true, false, leb, ltb, eqb, ◌&&◌, ◌||◌, not, if◌then◌else◌, List, [], ◌∷◌, ◌++◌, length, take, drop, get_or, Option, Some, None, refl, sym, ap, ◌∙◌, subst, inl, inr, add-one, drop-cons, arith}
use Rattle.std.specs.Prelude.{unwrap_or}
use Rattle.std.specs.Cmp.{both_ways}
use Rattle.std.specs.List.{list_any}
use Rattle.std.specs.Option.{option_map}
use Rattle.std.specs.Str.{IsUtf8, is_utf8, IsCharBoundary}
use Rattle.std.proofs.lemmas.Bool.{cases_Bool, and_parts, and_from, eq-eqb, ne_eqb, lt-ltb, le-ltb, ltb-true, ltb-false, leb-true, false_from_ne_true}
use Rattle.std.proofs.lemmas.List.{length-append, length-drop, length-take, take_at, drop_at, drop-drop, drop_all, take-append-drop, get_or-take, get_or-drop}
use Rattle.std.proofs.lemmas.List.Folds.{list_any_at}
use Rattle.std.proofs.lemmas.Str.{IsUtf8-append, IsUtf8-nil, IsUtf8-take, IsUtf8-drop, IsUtf8-from_is_utf8, is_utf8-from_IsUtf8, IsCharBoundary-start}
use Rattle.std.proofs.Math.Bool.{and-false}
use Rattle.symbol_lines.specs.Reading.{◌>>=◌, text_at}
use Rattle.symbol_lines.specs.Lines.{is_shown}
use Rattle.symbol_lines.specs.Paths.{has_text}
use Rattle.symbol_lines.specs.NameEnds.{shown_len, name_len, name_end, place_in, HasEnds, HasTextsBelow, IsBoundary, shown_at}

-- ---- bytes in front of a text

-- no byte is below 0x20
abbrev IsHigh : List ℕ → Type 0
IsHigh c = (k : ℕ) → k < length c → 32 ≤ get_or c k 0

-- no character goes on at the front
abbrev IsFresh : List ℕ → Type 0
IsFresh t = 0 < length t → 128 ≤ get_or t 0 0 → 192 ≤ get_or t 0 0

text_behind : (c s : List ℕ) → IsHigh c → text_at (c ++ s) ≡ option_map (λ t. (c ++ t.0, t.1)) (text_at s)
text_behind [] s h = same (text_at s)
  where
    same : (o : Option (List ℕ × List ℕ)) → o ≡ option_map (λ t. (t.0, t.1)) o
    same None = refl
    same (Some t) = refl
text_behind (b ∷ c) s h =
    let some : eqb b 0 ≡ false = ne_eqb b 0 (λ e. omega (arith, e, h 0 (omega arith))) in
    let rest : text_at (c ++ s) ≡ option_map (λ t. (c ++ t.0, t.1)) (text_at s) = text_behind c s (λ k lt. h (suc k) (omega arith)) in
    rw (some, rest) (one (text_at s))
  where
    one : (o : Option (List ℕ × List ℕ)) → ◌>>=◌ {A = List ℕ × List ℕ} {B = List ℕ × List ℕ} (option_map (λ t. (c ++ t.0, t.1)) o) (λ t. Some (b ∷ t.0, t.1)) ≡ option_map (λ t. (b ∷ (c ++ t.0), t.1)) o
    one None = refl
    one (Some t) = refl

low_behind : (c t : List ℕ) → IsHigh c → list_any (λ b. ltb b 0x20) (c ++ t) ≡ list_any (λ b. ltb b 0x20) t
low_behind [] t h = refl
low_behind (b ∷ c) t h =
    let high : ltb b 0x20 ≡ false = le-ltb b 0x20 (h 0 (omega arith)) in
    rw high (low_behind c t (λ k lt. h (suc k) (omega arith)))

at_seam : (c t : List ℕ) → get_or (c ++ t) (length c) 0 ≡ get_or t 0 0
at_seam [] t = refl
at_seam (b ∷ c) t = at_seam c t

seam : (c t : List ℕ) → IsFresh t → IsCharBoundary (c ++ t) (length c)
seam c t fresh =
    let len = length-append c t in
    let byte = at_seam c t in
    (omega arith, λ lt above. let more = fresh (omega arith) (omega arith) in omega arith)

utf8_behind : (c t : List ℕ) → IsFresh t → is_utf8 (c ++ t) ≡ (is_utf8 c && is_utf8 t)
utf8_behind c t fresh =
    both_ways (is_utf8 (c ++ t)) (is_utf8 c && is_utf8 t)
    (λ h.
    let u = IsUtf8-from_is_utf8 (c ++ t) h in
    and_from (is_utf8 c) (is_utf8 t)
    (is_utf8-from_IsUtf8 c (subst IsUtf8 (take_at c t (length c) refl) (IsUtf8-take (c ++ t) (length c) u (seam c t fresh))))
    (is_utf8-from_IsUtf8 t (subst IsUtf8 (drop_at c t (length c) refl) (IsUtf8-drop (c ++ t) (length c) u (seam c t fresh)))))
    (λ h.
    let both = and_parts (is_utf8 c) (is_utf8 t) h in
    is_utf8-from_IsUtf8 (c ++ t) (IsUtf8-append c t (IsUtf8-from_is_utf8 c both.0) (IsUtf8-from_is_utf8 t both.1)))

in_turn : (a u v : Bool) → (not a && (u && v)) ≡ (u && (not a && v))
in_turn true true v = refl
in_turn true false v = refl
in_turn false u v = refl

shown_behind : (c t : List ℕ) → IsHigh c → IsFresh t → is_shown (c ++ t) ≡ (is_utf8 c && is_shown t)
shown_behind c t high fresh =
    rw (low_behind c t high, utf8_behind c t fresh) (in_turn (list_any (λ b. ltb b 0x20) t) (is_utf8 c) (is_utf8 t))

-- a text begins as the bytes that it is read from
text_is : (s : List ℕ) (t : List ℕ × List ℕ) → text_at s ≡ Some t → (t.0 ≡ take (length t.0) s) × (length t.0 < length s)
text_is [] t h = absurd (cc)
text_is (b ∷ s) t h =
    elim (cases_Bool (eqb b 0)) [
      | inl zero_here ↦
          let none : [] ≡ t.0 = ap (λ (o : Option (List ℕ × List ℕ)). (unwrap_or o t).0) (rw zero_here at h) in
          rw (← none) (refl, omega arith)
      | inr later ↦ by (text_is s) (text_at s) refl (rw later at h)
    ]
  where
    by : ((x : List ℕ × List ℕ) → text_at s ≡ Some x → (x.0 ≡ take (length x.0) s) × (length x.0 < length s)) → (o : Option (List ℕ × List ℕ)) → text_at s ≡ o → (o >>= λ x. Some (b ∷ x.0, x.1)) ≡ Some t → (t.0 ≡ take (length t.0) (b ∷ s)) × (length t.0 < suc (length s))
    by below None e k = absurd (cc)
    by below (Some x) e k =
        let more : (b ∷ x.0) ≡ t.0 = ap (λ (o : Option (List ℕ × List ℕ)). (unwrap_or o t).0) k in
        let rest = below x e in
        rw (← more) (ap (λ (l : List ℕ). b ∷ l) rest.0, omega (arith, rest.1))

text_fresh : (s : List ℕ) (t : List ℕ × List ℕ) → text_at s ≡ Some t → IsFresh s → IsFresh t.0
text_fresh s t h fresh some above =
    let is = text_is s t h in
    let byte : get_or t.0 0 0 ≡ get_or s 0 0 = ap (λ (l : List ℕ). get_or l 0 0) is.0 ∙ get_or-take (length t.0) s 0 0 some in
    let more = fresh (omega (arith, is.1)) (omega arith) in
    omega arith

-- ---- the length of a name

chosen : (u v : Bool) (n k m : ℕ) → n ≡ k + m → (if (u && v) then Some n else None) ≡ (if u then option_map (λ x. k + x) (if v then Some m else None) else None)
chosen true true n k m e = ap (λ (x : ℕ). Some x) e
chosen true false n k m e = refl
chosen false v n k m e = refl

len_by : (c s : List ℕ) (o : Option (List ℕ × List ℕ)) → IsHigh c → IsFresh s → text_at s ≡ o → shown_len (option_map (λ t. (c ++ t.0, t.1)) o) ≡ (if is_utf8 c then option_map (λ m. length c + m) (shown_len o) else None)
len_by c s None high fresh e = elim (is_utf8 c) as (λ u. None ≡ (if u then option_map (λ (m : ℕ). length c + m) None else None)) [ true ↦ refl | false ↦ refl ]
len_by c s (Some t) high fresh e =
    rw (shown_behind c t.0 high (text_fresh s t e fresh)) (chosen (is_utf8 c) (is_shown t.0) (length (c ++ t.0)) (length c) (length t.0) (length-append c t.0))

len_behind : (c s : List ℕ) → IsHigh c → IsFresh s → name_len (c ++ s) ≡ (if is_utf8 c then option_map (λ m. length c + m) (name_len s) else None)
len_behind c s high fresh = rw (text_behind c s high) (len_by c s (text_at s) high fresh refl)

never_shown : (b : ℕ) (s : List ℕ) → ((t : List ℕ) → is_shown (b ∷ t) ≡ false) → eqb b 0 ≡ false → name_len (b ∷ s) ≡ None
never_shown b s never some = rw some (by (text_at s))
  where
    by : (o : Option (List ℕ × List ℕ)) → shown_len (o >>= λ t. Some (b ∷ t.0, t.1)) ≡ None
    by None = refl
    by (Some t) = rw (never t.0) refl

low_never : (b : ℕ) (t : List ℕ) → b < 32 → is_shown (b ∷ t) ≡ false
low_never b t lt = let low : ltb b 0x20 ≡ true = lt-ltb b 0x20 lt in rw low refl

inside_never : (b : ℕ) (t : List ℕ) → 128 ≤ b → b < 192 → is_shown (b ∷ t) ≡ false
inside_never b t le lt =
    let bad : is_utf8 (b ∷ t) ≡ false = false_from_ne_true (is_utf8 (b ∷ t)) (λ h. let start = (IsCharBoundary-start (b ∷ t) (IsUtf8-from_is_utf8 (b ∷ t) h)).1 (omega arith) le in omega arith) in
    rw bad (and-false (not (list_any (λ x. ltb x 0x20) (b ∷ t))))

-- ---- the end of the name at an offset

front_is : (strings : List ℕ) (offset : ℕ) → offset < length strings → drop offset strings ≡ get_or strings offset 0 ∷ drop (offset + 1) strings
front_is strings offset lt = drop-cons strings offset 0 lt ∙ ap (λ n. get_or strings offset 0 ∷ drop n strings) (sym (add-one offset))

pub end_at_zero : (strings : List ℕ) (offset : ℕ) → offset < length strings → get_or strings offset 0 ≡ 0 → place_in strings offset ≡ name_end strings offset
end_at_zero strings offset lt zero_here =
    let here : ltb offset (length strings) ≡ true = lt-ltb offset (length strings) lt in
    let nothing : is_utf8 [] ≡ true = is_utf8-from_IsUtf8 [] IsUtf8-nil in
    let same : offset + 0 ≡ offset = omega arith in
    rw (here, front_is strings offset lt, zero_here, nothing, same) refl

no_place : (strings : List ℕ) → place_in strings (length strings) ≡ None
no_place strings = let past : ltb (length strings) (length strings) ≡ false = le-ltb (length strings) (length strings) (omega arith) in rw past refl

pub end_never : (strings : List ℕ) (offset : ℕ) → offset < length strings → (get_or strings offset 0 ≡ 0 → ⊥) → ((t : List ℕ) → is_shown (get_or strings offset 0 ∷ t) ≡ false) → place_in strings (length strings) ≡ name_end strings offset
end_never strings offset lt some never =
    let none : name_len (get_or strings offset 0 ∷ drop (offset + 1) strings) ≡ None = never_shown (get_or strings offset 0) (drop (offset + 1) strings) never (ne_eqb _ _ some) in
    no_place strings ∙ sym (ap (λ (l : List ℕ). option_map (λ m. offset + m) (name_len l)) (front_is strings offset lt) ∙ ap (option_map (λ m. offset + m)) none)

pub end_low : (strings : List ℕ) (offset : ℕ) → offset < length strings → (get_or strings offset 0 ≡ 0 → ⊥) → get_or strings offset 0 < 32 → place_in strings (length strings) ≡ name_end strings offset
end_low strings offset lt some low = end_never strings offset lt some (λ t. low_never (get_or strings offset 0) t low)

pub end_inside : (strings : List ℕ) (offset : ℕ) → offset < length strings → (leb 128 (get_or strings offset 0) && ltb (get_or strings offset 0) 192) ≡ true → place_in strings (length strings) ≡ name_end strings offset
end_inside strings offset lt inside =
    let both = and_parts (leb 128 (get_or strings offset 0)) (ltb (get_or strings offset 0) 192) inside in
    let le = leb-true 128 (get_or strings offset 0) both.0 in
    let below = ltb-true (get_or strings offset 0) 192 both.1 in
    end_never strings offset lt (λ e. omega arith) (λ t. inside_never (get_or strings offset 0) t le below)

-- a character's bytes
abbrev pub character : List ℕ → ℕ → ℕ → List ℕ
character strings offset boundary = take (boundary - offset) (drop offset strings)

character_high : (strings : List ℕ) (offset boundary : ℕ) → IsBoundary strings offset boundary → 32 ≤ get_or strings offset 0 → IsHigh (character strings offset boundary)
character_high strings offset boundary b first k lt =
    let len = length-take (boundary - offset) (drop offset strings) in
    let below : k < boundary - offset = omega arith in
    let byte : get_or (character strings offset boundary) k 0 ≡ get_or strings (offset + k) 0 = get_or-take (boundary - offset) (drop offset strings) k 0 below ∙ get_or-drop offset strings k 0 in
    rw byte (by k below)
  where
    by : (k : ℕ) → k < boundary - offset → 32 ≤ get_or strings (offset + k) 0
    by zero lt = let same : offset + 0 ≡ offset = omega arith in rw same first
    by (suc k) lt = let inner = b.inside (offset + suc k) (omega arith) (omega arith) in omega arith

behind_fresh : (strings : List ℕ) (offset boundary : ℕ) → IsBoundary strings offset boundary → IsFresh (drop boundary strings)
behind_fresh strings offset boundary b some above =
    let len = length-drop boundary strings in
    let byte : get_or (drop boundary strings) 0 0 ≡ get_or strings boundary 0 = get_or-drop boundary strings 0 0 ∙ ap (λ (n : ℕ). get_or strings n 0) (omega arith) in
    let more = b.first (omega arith) (omega arith) in
    omega arith

cut : (strings : List ℕ) (offset boundary : ℕ) → IsBoundary strings offset boundary → drop offset strings ≡ character strings offset boundary ++ drop boundary strings
cut strings offset boundary b =
    let same : offset + (boundary - offset) ≡ boundary = omega (arith, b.above) in
    sym (take-append-drop (boundary - offset) (drop offset strings)) ∙ ap (λ (l : List ℕ). character strings offset boundary ++ l) (drop-drop (boundary - offset) offset strings ∙ ap (λ n. drop n strings) same)

added : (u : Bool) (offset n boundary : ℕ) (o : Option ℕ) → offset + n ≡ boundary → option_map (λ m. offset + m) (if u then option_map (λ m. n + m) o else None) ≡ (if u then option_map (λ m. boundary + m) o else None)
added true offset n boundary None e = refl
added true offset n boundary (Some m) e = let same : offset + (n + m) ≡ boundary + m = omega arith in ap (λ (x : ℕ). Some x) same
added false offset n boundary o e = refl

end_by : (strings : List ℕ) (offset boundary : ℕ) → IsBoundary strings offset boundary → 32 ≤ get_or strings offset 0 → name_end strings offset ≡ (if is_utf8 (character strings offset boundary) then name_end strings boundary else None)
end_by strings offset boundary b first =
    let c = character strings offset boundary in
    let len : length c ≡ boundary - offset = omega (arith, length-take (boundary - offset) (drop offset strings), length-drop offset strings, b.within) in
    ap (λ (l : List ℕ). option_map (λ m. offset + m) (name_len l)) (cut strings offset boundary b)
    ∙ ap (option_map (λ m. offset + m)) (len_behind c (drop boundary strings) (character_high strings offset boundary b first) (behind_fresh strings offset boundary b))
    ∙ added (is_utf8 c) offset (length c) boundary (name_len (drop boundary strings)) (omega (arith, b.above))

pub end_bad : (strings : List ℕ) (offset boundary : ℕ) → IsBoundary strings offset boundary → 32 ≤ get_or strings offset 0 → (IsUtf8 (character strings offset boundary) → ⊥) → place_in strings (length strings) ≡ name_end strings offset
end_bad strings offset boundary b first bad =
    let not_utf8 : is_utf8 (character strings offset boundary) ≡ false = false_from_ne_true (is_utf8 (character strings offset boundary)) (λ h. bad (IsUtf8-from_is_utf8 _ h)) in
    no_place strings ∙ sym (end_by strings offset boundary b first ∙ rw not_utf8 refl)

pub end_good : (strings : List ℕ) (offset boundary : ℕ) → IsBoundary strings offset boundary → 32 ≤ get_or strings offset 0 → IsUtf8 (character strings offset boundary) → name_end strings offset ≡ name_end strings boundary
end_good strings offset boundary b first good =
    let utf8 : is_utf8 (character strings offset boundary) ≡ true = is_utf8-from_IsUtf8 _ good in
    end_by strings offset boundary b first ∙ rw utf8 refl

pub end_none : (strings : List ℕ) (boundary : ℕ) → length strings ≤ boundary → name_end strings boundary ≡ None
end_none strings boundary le = let none : drop boundary strings ≡ [] = drop_all boundary strings le in rw none refl

pub end_past : (strings : List ℕ) (boundary : ℕ) → length strings ≤ boundary → place_in strings (length strings) ≡ name_end strings boundary
end_past strings boundary le = no_place strings ∙ sym (end_none strings boundary le)

-- ---- a name by its end

name_by : (strings : List ℕ) (offset : ℕ) (o : Option (List ℕ × List ℕ)) (end : ℕ) → text_at (drop offset strings) ≡ o → Some end ≡ option_map (λ m. offset + m) (shown_len o) → (offset ≤ end) × (end ≤ length strings) × IsUtf8 (take (end - offset) (drop offset strings)) × (Some (take (end - offset) (drop offset strings)) ≡ shown_at strings offset)
name_by strings offset None end e h = absurd (cc)
name_by strings offset (Some t) end e h =
    elim (cases_Bool (is_shown t.0)) [
      | inl here ↦
          let is = text_is (drop offset strings) t e in
          let len = length-drop offset strings in
          let sum : end ≡ offset + length t.0 = let k = rw here at h in cc in
          let size : end - offset ≡ length t.0 = omega arith in
          let text : take (end - offset) (drop offset strings) ≡ t.0 = rw size (sym is.0) in
          let utf8 = (and_parts (not (list_any (λ b. ltb b 0x20) t.0)) (is_utf8 t.0) here).1 in
          (omega arith, omega (arith, is.1), subst IsUtf8 (sym text) (IsUtf8-from_is_utf8 t.0 utf8), ap Some text ∙ rw (e, here) refl)
      | inr away ↦ absurd (let k = rw away at h in cc)
    ]

pub name_found : (strings : List ℕ) (offset end : ℕ) → Some end ≡ name_end strings offset → (offset ≤ end) × (end ≤ length strings) × IsUtf8 (take (end - offset) (drop offset strings)) × (Some (take (end - offset) (drop offset strings)) ≡ shown_at strings offset)
name_found strings offset end h = name_by strings offset (text_at (drop offset strings)) end refl h

-- what is read from the table of ends
pub end_told : (strings ends : List ℕ) (offset : ℕ) → HasEnds strings ends → length ends ≡ length strings → offset < length strings → place_in strings (get_or ends (length strings - 1 - offset) 0) ≡ name_end strings offset
end_told strings ends offset h all lt =
    let same : length strings - 1 - (length strings - 1 - offset) ≡ offset = omega arith in
    h.each (length strings - 1 - offset) (omega arith) ∙ ap (name_end strings) same

pub end_kept : (strings ends : List ℕ) (offset boundary : ℕ) → HasEnds strings ends → offset + length ends + 1 ≡ length strings → offset < boundary → boundary < length strings → place_in strings (get_or ends (length strings - 1 - boundary) 0) ≡ name_end strings boundary
end_kept strings ends offset boundary h all above lt =
    let same : length strings - 1 - (length strings - 1 - boundary) ≡ boundary = omega arith in
    h.each (length strings - 1 - boundary) (omega arith) ∙ ap (name_end strings) same

pub is_place : (strings : List ℕ) (end : ℕ) (o : Option ℕ) → end < length strings → place_in strings end ≡ o → Some end ≡ o
is_place strings end o lt h = let here : ltb end (length strings) ≡ true = lt-ltb end (length strings) lt in rw here at h

-- ---- all ends

-- the ends of the names from the last offset down to this one, and the first place behind the next one that isn't inside a character
pub record Finds (strings ends : List ℕ) (offset boundary : ℕ) : Type 0 where
  pub found : HasEnds strings ends
  pub all : offset + length ends ≡ length strings
  pub next : 0 < offset → IsBoundary strings (offset - 1) boundary

-- ---- which texts have an end

any_behind : (p : ℕ → Bool) (xs : List ℕ) (m : ℕ) → list_any p xs ≡ false → list_any p (drop m xs) ≡ false
any_behind p xs zero h = h
any_behind p [] (suc m) h = refl
any_behind p (x ∷ xs) (suc m) h = any_behind p xs m (rest (p x) h)
  where
    rest : (b : Bool) → (b || list_any p xs) ≡ false → list_any p xs ≡ false
    rest true e = absurd (cc)
    rest false e = e

pub none_at_end : (section : List ℕ) → has_text section (length section) ≡ false
none_at_end section = let none : drop (length section) section ≡ [] = drop_all (length section) section (omega arith) in rw none refl

pub none_before : (section : List ℕ) (n : ℕ) → n < length section → (get_or section n 0 ≡ 0 → ⊥) → has_text section (n + 1) ≡ false → has_text section n ≡ false
none_before section n within not_zero none =
    let not_here : eqb (get_or section n 0) 0 ≡ false = ne_eqb _ _ not_zero in
    ap (list_any (λ b. eqb b 0)) (front_is section n within) ∙ rw not_here none

pub texts_below : (section : List ℕ) (end : ℕ) → end ≤ length section → has_text section end ≡ false → (0 < end → get_or section (end - 1) 0 ≡ 0) → HasTextsBelow section end
texts_below section end within none last = record {
  each = λ offset. elim (cases_Bool (ltb offset end)) [
    | inl below ↦
        let lt = ltb-true offset end below in
        let same : offset + (end - 1 - offset) ≡ end - 1 = omega arith in
        let byte : get_or (drop offset section) (end - 1 - offset) 0 ≡ 0 = get_or-drop offset section (end - 1 - offset) 0 ∙ rw same (last (omega arith)) in
        let here : eqb (get_or (drop offset section) (end - 1 - offset) 0) 0 ≡ true = eq-eqb _ _ byte in
        below ∙ sym (list_any_at (λ b. eqb b 0) (drop offset section) (end - 1 - offset) 0 (omega (arith, length-drop offset section)) here)
    | inr not_below ↦
        let le = ltb-false offset end not_below in
        let same : end + (offset - end) ≡ offset = omega arith in
        let behind : drop (offset - end) (drop end section) ≡ drop offset section = drop-drop (offset - end) end section ∙ ap (λ n. drop n section) same in
        not_below ∙ sym (ap (list_any (λ b. eqb b 0)) (sym behind) ∙ any_behind (λ b. eqb b 0) (drop end section) (offset - end) none)
  ];
}
