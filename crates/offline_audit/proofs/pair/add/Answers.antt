use Rattle.std.proofs.Common.{◌≡◌, List, ◌⊎◌, sym, subst, Contains}
use Rattle.report_text.specs.declared.pair.Pair.{Pair}
use Rattle.offline_audit.specs.Pairs.{AreRisingPairs, IsPlaceAmong}
use Rattle.offline_audit.proofs.PairLists.{rising_more, inserted}
use Rattle.offline_audit.proofs.pair.add.Goals as goal

pub returns-clause-rising : goal.returns-clause-rising
returns-clause-rising c =
    let pairs : List Pair = c.args.pairs.now.items in
    let at = c.place_among-at.result in
    let place : IsPlaceAmong pairs c.args.pair at = rw c.as_slice.ensures.value at c.place_among-at.ensures in
    subst AreRisingPairs (sym c.in_ok-insert.ensures.items) (rising_more pairs c.args.pair at c.requires.rising place c.requires.new)

pub returns-clause-added : goal.returns-clause-added
returns-clause-added c = λ x.
    subst (λ (xs : List Pair). (Contains xs x → (Contains c.args.pairs.now.items x) ⊎ (x ≡ c.args.pair)) × ((Contains c.args.pairs.now.items x ⊎ (x ≡ c.args.pair)) → Contains xs x))
    (sym c.in_ok-insert.ensures.items) (inserted c.args.pairs.now.items c.place_among-at.result c.args.pair x)
