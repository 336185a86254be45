-- Texts, piece by piece.
use Rattle.std.proofs.Common.{◌≡◌, ℕ, ◌+◌, suc, List, [], ◌∷◌, ◌++◌, ◌<◌, length, take, get_or, refl, ap, sym, ◌∙◌, append_assoc, arith, length-take}
use Rattle.std.proofs.lemmas.List.{take_more}
use Rattle.symbol_lines.specs.FrameTexts.{FrameText}
use Rattle.report_text.specs.Texts.{frame_line, frame_lines}

append-nil : {A : Type 0} (xs : List A) → xs ++ [] ≡ xs
append-nil [] = refl
append-nil (x ∷ xs) = ap (λ ys. x ∷ ys) (append-nil xs)

-- one more frame is one more line
pub frame_lines-push : (frame_of : ℕ → FrameText) (number : ℕ) (places : List ℕ) (place : ℕ) → frame_lines frame_of number (places ++ place ∷ []) ≡ frame_lines frame_of number places ++ frame_line (number + length places) place (frame_of place)
frame_lines-push frame_of number [] place =
    let e : number + 0 ≡ number = omega arith in
    append-nil (frame_line number place (frame_of place)) ∙ sym (ap (λ n. frame_line n place (frame_of place)) e)
frame_lines-push frame_of number (p ∷ places) place =
    let e : (number + 1) + length places ≡ number + suc (length places) = omega arith in
    ap (λ rest. frame_line number p (frame_of p) ++ rest) (frame_lines-push frame_of (number + 1) places place ∙ ap (λ n. frame_lines frame_of (number + 1) places ++ frame_line n place (frame_of place)) e)
    ∙ sym (append_assoc (frame_line number p (frame_of p)) (frame_lines frame_of (number + 1) places) (frame_line (number + suc (length places)) place (frame_of place)))

-- two pieces after a text
pub two_pieces : (t u v a b c : List ℕ) → t ≡ a → u ≡ t ++ b → v ≡ u ++ c → v ≡ a ++ (b ++ c)
two_pieces t u v a b c e f g = g ∙ (λ i. f i ++ c) ∙ (λ i. (e i ++ b) ++ c) ∙ append_assoc a b c

-- four pieces after a text
pub four_pieces : (s t u v w a b c d e : List ℕ) → s ≡ a → t ≡ s ++ b → u ≡ t ++ c → v ≡ u ++ d → w ≡ v ++ e → w ≡ a ++ (b ++ (c ++ (d ++ e)))
four_pieces s t u v w a b c d e p q r x y =
    two_pieces u v w (a ++ (b ++ c)) d e (two_pieces s t u a b c p q r) x y
    ∙ append_assoc a (b ++ c) (d ++ e) ∙ ap (λ rest. a ++ rest) (append_assoc b c (d ++ e))

-- the line of the next frame
pub next_line : (frame_of : ℕ → FrameText) (places : List ℕ) (number : ℕ) (before now next : List ℕ) (f : FrameText) → number < length places
    → now ≡ before ++ frame_lines frame_of 0 (take number places) → f ≡ frame_of (get_or places number 0) → next ≡ now ++ frame_line number (get_or places number 0) f
    → next ≡ before ++ frame_lines frame_of 0 (take (number + 1) places)
next_line frame_of places number before now next f below lines frame line =
    let place : ℕ = get_or places number 0 in
    let long : 0 + length (take number places) ≡ number = simp length-take (omega arith) in
    let more = ap (frame_lines frame_of 0) (take_more places number 0 below) ∙ frame_lines-push frame_of 0 (take number places) place ∙ ap (λ n. frame_lines frame_of 0 (take number places) ++ frame_line n place (frame_of place)) long in
    line ∙ (λ i. lines i ++ frame_line number place (frame i)) ∙ append_assoc before (frame_lines frame_of 0 (take number places)) (frame_line number place (frame_of place)) ∙ sym (ap (λ rest. before ++ rest) more)
