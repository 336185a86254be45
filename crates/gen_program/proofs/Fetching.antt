-- What is fetched from a made executable: the words of its code.
use Rattle.std.proofs.Common.{◌≡◌, ℕ, ◌+◌, ◌-◌, ◌*◌, ◌/◌, ◌%◌, ◌^◌, ◌<◌, ◌≤◌, List, [], ◌∷◌, ◌++◌, length, take, get_or, arith, refl, sym, ap, ◌∙◌, true, eq-eqb}
use Rattle.std.specs.Prelude.{nat_lt, nat_le, ◌==◌, Some}
use Rattle.std.specs.List.{flat_map}
use Rattle.std.proofs.lemmas.Bool.{le-leb, lt-ltb}
use Rattle.std.proofs.lemmas.List.{get_or-append-add, length-take-le}
use Rattle.std.proofs.lemmas.List.Concat.{get_or-flat_map}
use Rattle.std.proofs.lemmas.Nat.{from_le_bytes-to_le_bytes_4}
use Rattle.elf_image.specs.Bytes.{word_of}
use Rattle.elf_image.specs.Headers.{region, byte_of}
use Rattle.elf_image.specs.File.{segments, segments_of, regions_of, is_code, byte_at, word_at}
use Rattle.gen_program.specs.Executable.{word, headers}
use Rattle.gen_program.proofs.Accepting.{code_segment, data_segment, are_segments, length-headers}
use Rattle.gen_program.proofs.Lengths.{length-words}

code_passes : (file : List ℕ) (s k : ℕ) → segments file ≡ code_segment s ∷ data_segment s ∷ [] → 4 * k + 4 ≤ s → is_code file (0x10000 + 4 * k) ≡ true
unfolding regions_of segments_of region
code_passes file s k are inside =
    let end : ℕ = 8 * ((0x10000 + s + 7) / 8) in
    let low : 0x10000 + s ≤ end = omega arith in
    let multiple : ((0x10000 + 4 * k) % 4 == 0) ≡ true = eq-eqb _ _ (omega arith) in
    let begins : nat_le 0x10000 (0x10000 + 4 * k) ≡ true = le-leb _ _ (omega arith) in
    let ends : nat_le (0x10000 + 4 * k + 4) end ≡ true = le-leb _ _ (omega arith) in
    rw (multiple, are, begins, ends) refl

byte_at-code : (s : ℕ) (rest : List ℕ) (i : ℕ) → 4 ≤ s → s ≤ 4000000 → i < s → byte_at (headers s ++ rest) (0x10000 + i) ≡ get_or rest i 0
unfolding byte_at segments_of byte_of
byte_at-code s rest i some small inside =
    let begins : nat_le 0x10000 (0x10000 + i) ≡ true = le-leb _ _ (omega arith) in
    let ends : nat_lt (0x10000 + i) (0x10000 + s) ≡ true = lt-ltb _ _ (omega arith) in
    let place : 176 + (0x10000 + i - 0x10000) ≡ length (headers s) + i = omega (arith, length-headers s) in
    rw (are_segments s rest some small, begins, ends, place) (get_or-append-add (headers s) rest i 0)

get_or-words : (ws : List ℕ) (k j : ℕ) → k < length ws → j < 4 → get_or (flat_map word ws) (4 * k + j) 0 ≡ get_or (word (get_or ws k 0)) j 0
get_or-words ws k j inside small =
    let before : length (flat_map word (take k ws)) ≡ 4 * k = length-words (take k ws) ∙ ap (λ n. 4 * n) (length-take-le k ws (omega arith)) in
    ap (λ n. get_or (flat_map word ws) (n + j) 0) (sym before) ∙ get_or-flat_map word ws k j 0 0 inside small

pub word_at-headers : (s : ℕ) (ws : List ℕ) (k : ℕ) → s ≡ 4 * length ws → s ≤ 4000000 → k < length ws → get_or ws k 0 < 2 ^ 32 → word_at (headers s ++ flat_map word ws) (0x10000 + 4 * k) ≡ Some (get_or ws k 0)
unfolding word_at word_of
word_at-headers s ws k size small inside fits =
    let file : List ℕ = headers s ++ flat_map word ws in
    let w : ℕ = get_or ws k 0 in
    let byte : (j : ℕ) → j < 4 → byte_at file (0x10000 + (4 * k + j)) ≡ get_or (word w) j 0 =
    λ j lt. byte_at-code s (flat_map word ws) (4 * k + j) (omega arith) small (omega arith) ∙ get_or-words ws k j inside lt in
    let at : (j a : ℕ) → a ≡ 0x10000 + (4 * k + j) → j < 4 → byte_at file a ≡ get_or (word w) j 0 = λ j a e lt. ap (byte_at file) e ∙ byte j lt in
    let zeroth : byte_at file (0x10000 + 4 * k) ≡ w % 256 = at 0 _ (omega arith) (omega arith) in
    let first : byte_at file (0x10000 + 4 * k + 1) ≡ w / 256 % 256 = at 1 _ (omega arith) (omega arith) in
    let second : byte_at file (0x10000 + 4 * k + 2) ≡ w / 65536 % 256 = at 2 _ (omega arith) (omega arith) in
    let third : byte_at file (0x10000 + 4 * k + 3) ≡ w / 16777216 % 256 = at 3 _ (omega arith) (omega arith) in
    let whole : word_of (byte_at file) (0x10000 + 4 * k) ≡ w = omega (arith, zeroth, first, second, third, from_le_bytes-to_le_bytes_4 w fits) in
    let code = code_passes file s k (are_segments s (flat_map word ws) (omega arith) small) (omega arith) in
    rw code (ap (λ v. Some v) whole)
