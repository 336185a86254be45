use Rattle.std.proofs.Common.{rules, ◌≡◌, ◌∙◌, get_or}
use Rattle.std.proofs.lemmas.List.{get_or_default}
use Rattle.offline_audit.proofs.PairLists.{at_place, equal_pair, no_pair}
use Rattle.offline_audit.proofs.pair.has.Goals as goal

pub returns-then-at-pairs : goal.returns-then-at-pairs
returns-then-at-pairs c =
    let pairs = c.args.pairs.now in
    let pair = c.args.pair in
    let at = c.place_among-at.result in (
      λ t. (at, c.if-at-pairs.true, search rules),
      λ within.
          let p = at_place pairs pair at c.requires c.place_among-at.ensures within in
          let read : get_or pairs at no_pair ≡ pair = get_or_default pairs at no_pair pair p.0 ∙ p.1 in
          c.eq.ensures ∙ equal_pair (get_or pairs at no_pair) pair read,
    )
