use Rattle.std.proofs.Common.{List, ◌∷◌, [], ◌++◌, ltb, sym, ap, arith, rules}
use Rattle.std.proofs.lemmas.Bool.{ltb-true}
use Rattle.std.proofs.lemmas.List.Sorted.{IsPartitionPoint-from_clause, IsPartitionedBy-ltb}
use Rattle.symbol_lines.specs.declared.rows.Row.{Row}
use Rattle.symbol_lines.specs.Kept.{IsRising}
use Rattle.symbol_lines.proofs.KeptRows.{filter_front, rising_push}
use Rattle.symbol_lines.proofs.rows.add_row.Goals as goal

pub returns : goal.returns
returns c =
    let xs = c.args.rows.now.items in
    let zs = c.as_slice.result.now in
    let row = c.args.row in
    let n = c.partition_point-count.result in
    let up : IsRising zs = rw c.as_slice.ensures.value c.requires in
    let parted = IsPartitionPoint-from_clause (λ (r : Row). ltb r.address row.address) zs n c.partition_point-count.ensures.partitioned (IsPartitionedBy-ltb (λ (r : Row). r.address) zs row.address up) (λ x r q k. search rules) in
    let taken = filter_front (λ (r : Row). ltb r.address row.address) zs n (λ k d lt in'. parted.0 k d (omega arith) lt) parted.1 in
    let rising = rising_push zs n row up (λ k d lt in'. ltb-true _ _ (parted.0 k d (omega arith) lt)) c.partition_point-count.ensures.bound in
    record {
      rows = rw (c.in_ok-push.ensures.items, c.truncate.ensures.items, ← c.as_slice.ensures.value) (ap (λ (ys : List Row). ys ++ row ∷ []) (sym taken));
      rising = rw (c.in_ok-push.ensures.items, c.truncate.ensures.items, ← c.as_slice.ensures.value) rising;
      err = tt;
    }
