use Rattle.std.proofs.Common.{length, map}
use Rattle.std.proofs.lemmas.List.{map_push}
use Rattle.symbol_lines.specs.Views.{entry_view}
use Rattle.symbol_lines.proofs.Counting.{file_more, files_end, files_bad, files_bad_entry, files_over, is_empty, is_some}
use Rattle.symbol_lines.proofs.units.files_of.Goals as goal

pub returns-in-None : goal.returns-in-None
returns-in-None c =
    files_bad (map entry_view c.loop.found.items) (length c.args.bytes.now) c.loop.counter c.loop.rest.now _ c.loop-test.true c.in-None.ensures c.loop.invariant

pub returns-then-is_empty : goal.returns-then-is_empty
returns-then-is_empty c =
    files_end (map entry_view c.loop.found.items) (length c.args.bytes.now) c.loop.counter c.loop.rest.now c.in-Some.read.0.now c.in-Some.read.1.now _ c.loop-test.true c.in-Some.ensures
    (is_empty _ _ c.is_empty.ensures c.if-is_empty.true) c.loop.invariant

pub returns-in-None-file_after : goal.returns-in-None-file_after
returns-in-None-file_after c =
    files_bad_entry (map entry_view c.loop.found.items) (length c.args.bytes.now) c.loop.counter c.loop.rest.now c.in-Some.read.0.now c.in-Some.read.1.now _ c.loop-test.true c.in-Some.ensures
    (is_some _ _ c.is_empty.ensures c.if-is_empty.false) c.in-None-file_after.ensures c.loop.invariant

pub loop-preserved : goal.loop-preserved
loop-preserved c =
    rw (c.in_ok-push.ensures.items, map_push entry_view c.loop.found.items c.in-Some-file_after.read.0)
    (file_more (map entry_view c.loop.found.items) (length c.args.bytes.now) c.loop.counter c.loop.rest.now c.in-Some.read.0.now c.in-Some.read.1.now c.in-Some-file_after.read.1.now (entry_view c.in-Some-file_after.read.0) _ c.loop-test.true c.in-Some.ensures
    (is_some _ _ c.is_empty.ensures c.if-is_empty.false) c.in-Some-file_after.ensures c.loop.invariant)

pub returns : goal.returns
returns c =
    files_over (map entry_view c.loop.found.items) (length c.args.bytes.now) c.loop.counter c.loop.rest.now _ c.loop-test.false c.loop.invariant
