-- Texts of files in parts.
use Rattle.std.proofs.Common.{◌≡◌, ℕ, suc, ◌+◌, ◌-◌, ◌<◌, Bool, true, false, ltb, eqb, ◌&&◌, ◌||◌, not, if◌then◌else◌, List, [], ◌∷◌, ◌++◌, length, drop, get_or, map, Option, Some, None, refl, sym, ap, ◌∙◌, subst, arith}
use Rattle.std.specs.Prelude.{slice_get}
use Rattle.std.specs.Cmp.{both_ways}
use Rattle.std.specs.List.{list_any}
use Rattle.std.specs.Option.{option_map}
use Rattle.std.specs.Str.{IsUtf8, is_utf8}
use Rattle.std.proofs.lemmas.Bool.{and_parts, and_from}
use Rattle.std.proofs.lemmas.List.{length-append, take_at}
use Rattle.std.proofs.lemmas.List.Folds.{list_any-append}
use Rattle.std.proofs.lemmas.Option.{slice_get-map}
use Rattle.std.proofs.lemmas.Str.{IsUtf8-append, IsUtf8-take, IsUtf8-drop, IsUtf8-from_ascii, IsUtf8-from_is_utf8, is_utf8-from_IsUtf8, IsCharBoundary-before_ascii, IsCharBoundary-after_ascii}
use Rattle.std.proofs.lemmas.Str.Ascii.{IsAscii-cons}
use Rattle.std.proofs.Math.Seq.{get_or-append_seam}
use Rattle.symbol_lines.specs.Reading.{◌>>=◌}
use Rattle.symbol_lines.specs.Paths.{TextSections, Entry, entry_text}
use Rattle.symbol_lines.specs.Lines.{is_shown, path_of, shown_path}
use Rattle.symbol_lines.specs.KeptLines.{shown_or_none, shown_entry, path_in, text_in}

-- ---- a text around '/' is UTF-8 where both parts are

slash_at : (d n : List ℕ) → length d < length (d ++ 47 ∷ n)
slash_at d n = omega (arith, length-append d (47 ∷ n))

slash_low : (d n : List ℕ) → get_or (d ++ 47 ∷ n) (length d) 0 < 128
slash_low d n = omega (arith, get_or-append_seam d 47 n 0)

behind_slash : (d n : List ℕ) → drop (length d + 1) (d ++ 47 ∷ n) ≡ n
behind_slash [] n = refl
behind_slash (b ∷ d) n =
    let e : length (b ∷ d) + 1 ≡ suc (length d + 1) = omega arith in
    rw e (behind_slash d n)

front_utf8 : (d n : List ℕ) → IsUtf8 (d ++ 47 ∷ n) → IsUtf8 d
front_utf8 d n u =
    subst IsUtf8 (take_at d (47 ∷ n) (length d) refl) (IsUtf8-take (d ++ 47 ∷ n) (length d) u (IsCharBoundary-before_ascii (d ++ 47 ∷ n) (length d) (slash_at d n) (slash_low d n)))

back_utf8 : (d n : List ℕ) → IsUtf8 (d ++ 47 ∷ n) → IsUtf8 n
back_utf8 d n u =
    subst IsUtf8 (behind_slash d n) (IsUtf8-drop (d ++ 47 ∷ n) (length d + 1) u (IsCharBoundary-after_ascii (d ++ 47 ∷ n) (length d) u (slash_at d n) (slash_low d n)))

slash_utf8 : IsUtf8 (47 ∷ [])
slash_utf8 = IsUtf8-from_ascii (47 ∷ []) (IsAscii-cons 47 [] (omega arith) (λ i. omega arith))

joined_utf8 : (d n : List ℕ) → IsUtf8 d → IsUtf8 n → IsUtf8 (d ++ 47 ∷ n)
joined_utf8 d n u v = IsUtf8-append d (47 ∷ n) u (IsUtf8-append (47 ∷ []) n slash_utf8 v)

is_utf8-joined : (d n : List ℕ) → is_utf8 (d ++ 47 ∷ n) ≡ (is_utf8 d && is_utf8 n)
is_utf8-joined d n =
    both_ways (is_utf8 (d ++ 47 ∷ n)) (is_utf8 d && is_utf8 n)
    (λ h.
    let u = IsUtf8-from_is_utf8 (d ++ 47 ∷ n) h in
    and_from (is_utf8 d) (is_utf8 n) (is_utf8-from_IsUtf8 d (front_utf8 d n u)) (is_utf8-from_IsUtf8 n (back_utf8 d n u)))
    (λ h.
    let both = and_parts (is_utf8 d) (is_utf8 n) h in
    is_utf8-from_IsUtf8 (d ++ 47 ∷ n) (joined_utf8 d n (IsUtf8-from_is_utf8 d both.0) (IsUtf8-from_is_utf8 n both.1)))

-- ---- it can be shown where both parts can

parts_shown : (a b u v : Bool) → (not (a || b) && (u && v)) ≡ ((not a && u) && (not b && v))
parts_shown true b u v = refl
parts_shown false true true v = refl
parts_shown false true false v = refl
parts_shown false false true v = refl
parts_shown false false false v = refl

is_shown-joined : (d n : List ℕ) → is_shown (d ++ 47 ∷ n) ≡ (is_shown d && is_shown n)
is_shown-joined d n =
    rw (list_any-append (λ b. ltb b 0x20) d (47 ∷ n), is_utf8-joined d n)
    (parts_shown (list_any (λ b. ltb b 0x20) d) (list_any (λ b. ltb b 0x20) n) (is_utf8 d) (is_utf8 n))

-- ---- the text of a file

-- the test that a path stands alone
abbrev is_alone : ℕ → List ℕ → Bool
is_alone n path = eqb n 0 || eqb (get_or path 0 0) 47

alone : (first : ℕ) (dirs : List (Option (List ℕ))) (n : ℕ) (path : List ℕ) (s : Bool) → is_alone n path ≡ true → path_in first dirs n (if s then Some path else None) ≡ (if s then path else [])
alone first dirs n path true h = rw h refl
alone first dirs n path false h = refl

behind_one : (first : ℕ) (dirs : List (Option (List ℕ))) (n : ℕ) (d path : List ℕ) (s t : Bool) → is_alone n path ≡ false → slice_get dirs (n - first) ≡ Some (if s then Some d else None)
    → path_in first dirs n (if t then Some path else None) ≡ (if (s && t) then d ++ 47 ∷ path else [])
behind_one first dirs n d path true true h e = rw (h, e) refl
behind_one first dirs n d path true false h e = refl
behind_one first dirs n d path false true h e = rw (h, e) refl
behind_one first dirs n d path false false h e = refl

behind_none : (first : ℕ) (dirs : List (Option (List ℕ))) (n : ℕ) (path : List ℕ) (t : Bool) → is_alone n path ≡ false → slice_get dirs (n - first) ≡ None → path_in first dirs n (if t then Some path else None) ≡ []
behind_none first dirs n path true h e = rw (h, e) refl
behind_none first dirs n path false h e = refl

behind_bad : (first : ℕ) (dirs : List (Option (List ℕ))) (n : ℕ) (path : List ℕ) (t : Bool) → is_alone n path ≡ false → slice_get dirs (n - first) ≡ Some None → path_in first dirs n (if t then Some path else None) ≡ []
behind_bad first dirs n path true h e = rw (h, e) refl
behind_bad first dirs n path false h e = refl

behind_told : (first : ℕ) (dirs : List (Option (List ℕ))) (n : ℕ) (path : List ℕ) (o : Option (List ℕ)) → is_alone n path ≡ false → slice_get dirs (n - first) ≡ Some (o >>= shown_or_none)
    → path_in first dirs n (shown_or_none path) ≡ shown_path (option_map (λ d. d ++ 47 ∷ path) o)
behind_told first dirs n path None h e = behind_bad first dirs n path (is_shown path) h e
behind_told first dirs n path (Some d) h e =
    behind_one first dirs n d path (is_shown d) (is_shown path) h e ∙ ap (λ (s : Bool). if s then d ++ 47 ∷ path else []) (sym (is_shown-joined d path))

behind_is : (texts : TextSections) (first : ℕ) (dirs : List Entry) (n : ℕ) (path : List ℕ) (o : Option Entry) → is_alone n path ≡ false → slice_get dirs (n - first) ≡ o
    → path_in first (map (shown_entry texts) dirs) n (shown_or_none path) ≡ shown_path (option_map (λ d. d ++ 47 ∷ path) (o >>= entry_text texts))
behind_is texts first dirs n path None h e =
    behind_none first (map (shown_entry texts) dirs) n path (is_shown path) h (slice_get-map (shown_entry texts) dirs (n - first) ∙ ap (option_map (shown_entry texts)) e)
behind_is texts first dirs n path (Some d) h e =
    behind_told first (map (shown_entry texts) dirs) n path (entry_text texts d) h (slice_get-map (shown_entry texts) dirs (n - first) ∙ ap (option_map (shown_entry texts)) e)

path_by : (texts : TextSections) (first : ℕ) (dirs : List Entry) (n : ℕ) (path : List ℕ) (s : Bool) → is_alone n path ≡ s
    → path_in first (map (shown_entry texts) dirs) n (shown_or_none path)
    ≡ shown_path (if s then Some path else option_map (λ d. d ++ 47 ∷ path) (slice_get dirs (n - first) >>= entry_text texts))
path_by texts first dirs n path true h = alone first (map (shown_entry texts) dirs) n path (is_shown path) h
path_by texts first dirs n path false h = behind_is texts first dirs n path (slice_get dirs (n - first)) h refl

text_by : (texts : TextSections) (first : ℕ) (dirs : List Entry) (n : ℕ) (o : Option (List ℕ)) → path_in first (map (shown_entry texts) dirs) n (o >>= shown_or_none)
    ≡ shown_path (o >>= λ path. if is_alone n path then Some path else option_map (λ d. d ++ 47 ∷ path) (slice_get dirs (n - first) >>= entry_text texts))
text_by texts first dirs n None = refl
text_by texts first dirs n (Some path) = path_by texts first dirs n path (is_alone n path) refl

text_in-shown : (texts : TextSections) (first : ℕ) (dirs : List Entry) (f : Entry) → text_in texts first (map (shown_entry texts) dirs) f ≡ shown_path (path_of texts first dirs f)
text_in-shown texts first dirs f = text_by texts first dirs f.directory (entry_text texts f)

pub texts_in-shown : (texts : TextSections) (first : ℕ) (dirs : List Entry) (fs : List Entry) → map (text_in texts first (map (shown_entry texts) dirs)) fs ≡ map (λ f. shown_path (path_of texts first dirs f)) fs
texts_in-shown texts first dirs [] = refl
texts_in-shown texts first dirs (f ∷ fs) = (λ i. text_in-shown texts first dirs f i ∷ texts_in-shown texts first dirs fs i)
