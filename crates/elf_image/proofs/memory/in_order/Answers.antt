use Rattle.std.proofs.Common.{◌≡◌, List, [], ◌∷◌, ◌++◌, subst, rules}
use Rattle.std.proofs.lemmas.List.Sorted.{IsPermutation-to_front, IsPermutation-sym, IsPermutation-trans, IsNonDecreasingBy-from_sort_by_key}
use Rattle.std.specs.List.Sorted.{IsPermutation}
use Rattle.elf_image.specs.declared.header.ProgramHeader.{ProgramHeader}
use Rattle.elf_image.specs.Headers.{stack}
use Rattle.elf_image.proofs.memory.in_order.Goals as goal

pub returns-clause-moved : goal.returns-clause-moved
returns-clause-moved c =
    let all = c.args.segments.items in
    let pushed : c.push.new.self.items ≡ all ++ (stack ∷ []) = cc (c.in_ok-push.ensures.items, c.stack.ensures) in
    let front = IsPermutation-sym (all ++ (stack ∷ [])) (stack ∷ all) (IsPermutation-to_front all stack) in
    let sorted = subst (λ (hs : List ProgramHeader). IsPermutation hs c.sort_unstable_by_key.new.self.items) pushed c.sort_unstable_by_key.ensures.permutation in
    IsPermutation-trans (stack ∷ all) (all ++ (stack ∷ [])) c.sort_unstable_by_key.new.self.items front sorted

pub returns-clause-rising : goal.returns-clause-rising
returns-clause-rising c =
    IsNonDecreasingBy-from_sort_by_key (λ (h : ProgramHeader). h.address) _ c.sort_unstable_by_key.ensures.sorted (λ a r q k. search rules)
