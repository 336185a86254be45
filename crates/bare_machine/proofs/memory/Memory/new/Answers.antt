use Rattle.std.proofs.Common.{◌∙◌, ◌++◌, ◌∷◌, [], List, ℕ, ap, sym, zero-add}
use Rattle.std.proofs.lemmas.List.FromFn.{map-range_with_len_more}
use Rattle.elf_image.specs.File.{initial_word}
use Rattle.bare_machine.proofs.memory.Memory.new.Goals as goal

pub loop-granule-preserved : goal.loop-granule-preserved
loop-granule-preserved c =
    let more = map-range_with_len_more (initial_word c.args.image.now) 0 c.loop-granule.granule c.loop-granule.granule (zero-add c.loop-granule.granule) in
    let pushed = c.in_ok-push.ensures.items in
    pushed ∙ (ap (λ (xs : List ℕ). xs ++ c.initial_word.result ∷ []) c.loop-granule.invariant ∙ (rw c.initial_word.ensures (sym more)))
