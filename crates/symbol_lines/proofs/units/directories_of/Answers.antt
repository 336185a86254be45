use Rattle.std.proofs.Common.{length, map}
use Rattle.std.proofs.lemmas.List.{map_push}
use Rattle.symbol_lines.specs.Views.{entry_view}
use Rattle.symbol_lines.proofs.Counting.{directory_more, directories_end, directories_bad, directories_over, is_empty, is_some}
use Rattle.symbol_lines.proofs.units.directories_of.Goals as goal

pub returns-in-None : goal.returns-in-None
returns-in-None c =
    directories_bad (map entry_view c.loop.found.items) (length c.args.bytes.now) c.loop.counter c.loop.rest.now _ c.loop-test.true c.in-None.ensures c.loop.invariant

pub returns-then-is_empty : goal.returns-then-is_empty
returns-then-is_empty c =
    directories_end (map entry_view c.loop.found.items) (length c.args.bytes.now) c.loop.counter c.loop.rest.now c.in-Some.read.0.now c.in-Some.read.1.now _ c.loop-test.true c.in-Some.ensures (is_empty _ _ c.is_empty.ensures c.if-is_empty.true) c.loop.invariant

pub loop-preserved : goal.loop-preserved
loop-preserved c =
    rw (c.in_ok-push.ensures.items, map_push entry_view c.loop.found.items c.named.result, c.named.ensures)
    (directory_more (map entry_view c.loop.found.items) (length c.args.bytes.now) c.loop.counter c.loop.rest.now c.in-Some.read.0.now c.in-Some.read.1.now _ c.loop-test.true c.in-Some.ensures (is_some _ _ c.is_empty.ensures c.if-is_empty.false) c.loop.invariant)

pub returns : goal.returns
returns c =
    directories_over (map entry_view c.loop.found.items) (length c.args.bytes.now) c.loop.counter c.loop.rest.now _ c.loop-test.false c.loop.invariant
