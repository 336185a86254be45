-- One more operation, main with its threads, and the file of a seed, which the loader accepts.
use Rattle.std.proofs.Common.{◌≡◌, ℕ, ◌+◌, ◌*◌, ◌/◌, ◌≤◌, List, [], ◌++◌, length, arith, sym, ap, ◌∙◌, length-append}
use Rattle.std.specs.Prelude.{Ok}
use Rattle.std.specs.List.{flat_map}
use Rattle.std.proofs.lemmas.List.{append_assoc}
use Rattle.elf_image.specs.File.{image_of}
use Rattle.gen_program.specs.Draws.{start, after, next, draw}
use Rattle.gen_program.specs.Program.{operation, operation_at, operations, thread, t1, t2, t3, main_of, code, program}
use Rattle.gen_program.specs.Executable.{word, executable}
use Rattle.gen_program.proofs.Lengths.{after-suc, after-after, operations_more, length-thread, length-code, length-words}
use Rattle.gen_program.proofs.Accepting.{image_of-headers}

pub one_more :
    (x i s choice place : ℕ) (old now new : List ℕ) → now ≡ old ++ operations x i → s ≡ after x (2 * i) → choice ≡ next s / 65536 → place ≡ next (next s) / 65536 → new ≡ now ++ operation choice place → new ≡ old ++ operations x (i + 1)
one_more x i s choice place old now new now_is s_is choice_is place_is new_is =
    let first : next s ≡ after x (2 * i + 1) = ap next s_is ∙ sym (after-suc x (2 * i)) in
    let second : next (next s) ≡ after x (2 * i + 1 + 1) = ap next first ∙ sym (after-suc x (2 * i + 1)) in
    let chosen : choice ≡ draw x (2 * i) = choice_is ∙ ap (λ y. y / 65536) first in
    let placed : place ≡ draw x (2 * i + 1) = place_is ∙ ap (λ y. y / 65536) second in
    let made : operation choice place ≡ operation_at x i = ap (λ r. operation r place) chosen ∙ ap (operation (draw x (2 * i))) placed in
    new_is
    ∙ ap (λ (ws : List ℕ). ws ++ operation choice place) now_is
    ∙ append_assoc old (operations x i) (operation choice place)
    ∙ ap (λ (ws : List ℕ). old ++ (operations x i ++ ws)) made
    ∙ ap (λ (ws : List ℕ). old ++ ws) (sym (operations_more x i))

pub longer : (x size : ℕ) (old new : List ℕ) → new ≡ old ++ thread x size → length new ≤ length old + 27 * size + 2
longer x size old new e = omega (arith, ap length e, length-append old (thread x size), length-thread x size)

-- the draws and the words after each thread
pub record Threads (seed size x0 x1 x2 : ℕ) (v0 v1 v2 v3 : List ℕ) : Type 0 where
  pub seeded : x0 ≡ start seed
  pub second : x1 ≡ after x0 (2 * size)
  pub third : x2 ≡ after x1 (2 * size)
  pub none : v0 ≡ []
  pub one : v1 ≡ v0 ++ thread x0 size
  pub two : v2 ≡ v1 ++ thread x1 size
  pub three : v3 ≡ v2 ++ thread x2 size

pub code_is :
    {seed size x0 x1 x2 : ℕ} {v0 v1 v2 v3 : List ℕ} → Threads seed size x0 x1 x2 v0 v1 v2 v3 → (main : List ℕ) → main ≡ main_of (length v1) (length v2) → main ++ v3 ≡ code seed size
unfolding code
code_is {seed} {size} {x0} {x1} {x2} {v0} {v1} {v2} {v3} made main main_is =
    let at_second : x1 ≡ after (start seed) (2 * size) = made.second ∙ ap (λ x. after x (2 * size)) made.seeded in
    let twice : 2 * size + 2 * size ≡ 4 * size = omega arith in
    let at_third : x2 ≡ after (start seed) (4 * size) =
    made.third ∙ ap (λ x. after x (2 * size)) at_second ∙ after-after (start seed) (2 * size) (2 * size) ∙ ap (after (start seed)) twice in
    let one : v1 ≡ t1 seed size = made.one ∙ ap (λ (ws : List ℕ). ws ++ thread x0 size) made.none ∙ ap (λ x. thread x size) made.seeded in
    let two : v2 ≡ t1 seed size ++ t2 seed size =
    made.two ∙ ap (λ (ws : List ℕ). ws ++ thread x1 size) one ∙ ap (λ x. t1 seed size ++ thread x size) at_second in
    let three : v3 ≡ t1 seed size ++ t2 seed size ++ t3 seed size =
    made.three ∙ ap (λ (ws : List ℕ). ws ++ thread x2 size) two ∙ ap (λ x. t1 seed size ++ t2 seed size ++ thread x size) at_third in
    let first : main ≡ main_of (length (t1 seed size)) (length (t1 seed size ++ t2 seed size)) =
    main_is ∙ ap (λ n. main_of n (length v2)) (ap length one) ∙ ap (main_of (length (t1 seed size))) (ap length two) in
    ap (λ (ws : List ℕ). ws ++ v3) first ∙ ap (λ (ws : List ℕ). main_of (length (t1 seed size)) (length (t1 seed size ++ t2 seed size)) ++ ws) three

-- ---- the file

pub program_loads : (seed size : ℕ) → size ≤ 10000 → image_of (program seed size) ≡ Ok (program seed size)
unfolding program executable
program_loads seed size small =
    let words = code seed size in
    image_of-headers (4 * length words) (flat_map word words) (length-words words) (omega (arith, length-code seed size)) (omega (arith, length-code seed size))
