use Rattle.std.proofs.Common.{map}
use Rattle.std.proofs.lemmas.List.{map_push}
use Rattle.symbol_lines.specs.Entries.{format_at}
use Rattle.symbol_lines.specs.Views.{format_view}
use Rattle.symbol_lines.proofs.Counting.{list_more, list_bad, list_end}
use Rattle.symbol_lines.proofs.entries.formats_of.Goals as goal

pub returns-in-None : goal.returns-in-None
returns-in-None c =
    list_bad format_at (map format_view c.loop.found.items) c.args.count c.loop.counter c.loop.rest.now _ c.loop-test.true c.in-None.ensures c.loop.invariant

pub loop-preserved : goal.loop-preserved
loop-preserved c =
    rw (c.in_ok-push.ensures.items, map_push format_view c.loop.found.items c.in-Some.read.0)
    (list_more format_at (map format_view c.loop.found.items) c.args.count c.loop.counter c.loop.rest.now c.in-Some.read.1.now (format_view c.in-Some.read.0) _ c.loop-test.true c.in-Some.ensures c.loop.invariant)

pub returns : goal.returns
returns c = list_end format_at (map format_view c.loop.found.items) c.args.count c.loop.counter c.loop.rest.now _ c.loop-test.false c.loop.invariant
