use Rattle.std.proofs.Common.{List, length, ap}
use Rattle.report_text.specs.declared.pair.Pair.{Pair}
use Rattle.offline_audit.proofs.text.pair_texts.Goals as goal

pub returns : goal.returns
returns g c = record {
  pairs = c.in_ok-pairs.pairs;
  rising = c.in_ok-pairs.ensures.rising;
  exact = c.in_ok-pairs.ensures.exact;
  count_is = ap (λ (ps : List Pair). length ps) c.as_slice.ensures;
  text_is = c.in_ok-texts.ensures;
}
