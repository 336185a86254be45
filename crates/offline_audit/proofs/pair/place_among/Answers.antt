use Rattle.std.proofs.Common.{rules}
use Rattle.std.proofs.lemmas.List.Sorted.{IsPartitionPoint-from_clause}
use Rattle.report_text.specs.declared.pair.Pair.{Pair}
use Rattle.offline_audit.specs.Pairs.{is_lower}
use Rattle.offline_audit.proofs.PairLists.{parted, place_from}
use Rattle.offline_audit.proofs.pair.place_among.Goals as goal

pub returns : goal.returns
returns c =
    let pairs = c.args.pairs.now in
    let at = c.partition_point.result in
    place_from pairs c.args.pair at c.partition_point.ensures.bound
    (IsPartitionPoint-from_clause (λ (x : Pair). is_lower x c.args.pair) pairs at c.partition_point.ensures.partitioned (parted pairs c.args.pair c.requires) (λ x r q k. search rules))
