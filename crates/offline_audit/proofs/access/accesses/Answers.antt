use Rattle.std.proofs.Common.{rules, List}
use Rattle.std.proofs.lemmas.List.Sorted.{IsPermutation-trans, IsPermutation-sym, Contains-permutation, IsNonDecreasingBy-from_sort_by_key}
use Rattle.offline_audit.specs.declared.access.Made.{Made}
use Rattle.offline_audit.proofs.access.accesses.Goals as goal

pub returns-clause-all : goal.returns-clause-all
returns-clause-all c =
    let first : List Made = c.in_ok-made.made.items in
    let second : List Made = c.sort_by_key.new.self.items in
    let third : List Made = c.sort_by_key-2.new.self.items in
    let fourth : List Made = c.sort_by_key-3.new.self.items in
    let moved =
    IsPermutation-trans first second fourth c.sort_by_key.ensures.permutation
    (IsPermutation-trans second third fourth c.sort_by_key-2.ensures.permutation c.sort_by_key-3.ensures.permutation) in
    λ m. (
      λ x. (c.in_ok-made.ensures m).0 (Contains-permutation fourth first m (IsPermutation-sym first fourth moved) x),
      λ x. Contains-permutation first fourth m moved ((c.in_ok-made.ensures m).1 x),
    )

pub returns-clause-rising : goal.returns-clause-rising
returns-clause-rising c =
    IsNonDecreasingBy-from_sort_by_key (λ (m : Made). m.kind.addr) _ c.in_ok-sort_by_key-3.ensures.sorted (λ a r q k. search rules)
