use Rattle.std.proofs.Common.{◌≡◌, ℕ, List, [], ◌∷◌, ◌++◌, ap, ◌∙◌}
use Rattle.std.specs.List.{flat_map}
use Rattle.std.proofs.lemmas.Result.{IfOk-equal}
use Rattle.std.proofs.lemmas.List.{append_assoc}
use Rattle.gen_program.specs.Executable.{word, long, program_header}
use Rattle.gen_program.proofs.executable.put_program_header.Goals as goal

-- two words and then six longs are a program header
both : (old words : List ℕ) (flags offset address file_size memory_size : ℕ) → words ≡ old ++ flat_map word (1 ∷ flags ∷ []) → words ++ flat_map long (offset ∷ address ∷ address ∷ file_size ∷ memory_size ∷ 8 ∷ []) ≡ old ++ program_header flags offset address file_size memory_size
unfolding program_header
both old words flags offset address file_size memory_size e =
    let longs : List ℕ = flat_map long (offset ∷ address ∷ address ∷ file_size ∷ memory_size ∷ 8 ∷ []) in
    ap (λ (ws : List ℕ). ws ++ longs) e ∙ append_assoc old (flat_map word (1 ∷ flags ∷ [])) longs

pub returns : goal.returns
returns c =
    IfOk-equal c.put_longs.result _ _ _ c.put_longs.ensures
    (both c.args.file.now.items c.put_words.new.file.items c.args.flags c.args.offset c.args.address c.args.sizes.0 c.args.sizes.1 c.in_ok-put_words.ensures)
