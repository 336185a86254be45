use Rattle.std.proofs.Common.{map}
use Rattle.std.proofs.lemmas.List.{map_push}
use Rattle.symbol_lines.specs.Entries.{entry_at}
use Rattle.symbol_lines.specs.SectionViews.{sections_view}
use Rattle.symbol_lines.specs.Views.{entry_view, format_view}
use Rattle.symbol_lines.proofs.Counting.{list_more, list_bad, list_end}
use Rattle.symbol_lines.proofs.entries.entries_like.Goals as goal

pub returns-in-None : goal.returns-in-None
returns-in-None c =
    list_bad (entry_at (sections_view c.args.sections.now) (map format_view c.args.formats.now)) (map entry_view c.loop.found.items) c.args.count c.loop.counter c.loop.rest.now _ c.loop-test.true c.in-None.ensures c.loop.invariant

pub loop-preserved : goal.loop-preserved
loop-preserved c =
    rw (c.in_ok-push.ensures.items, map_push entry_view c.loop.found.items c.in-Some.read.0)
    (list_more (entry_at (sections_view c.args.sections.now) (map format_view c.args.formats.now)) (map entry_view c.loop.found.items) c.args.count c.loop.counter c.loop.rest.now c.in-Some.read.1.now (entry_view c.in-Some.read.0) _ c.loop-test.true c.in-Some.ensures c.loop.invariant)

pub returns : goal.returns
returns c = list_end (entry_at (sections_view c.args.sections.now) (map format_view c.args.formats.now)) (map entry_view c.loop.found.items) c.args.count c.loop.counter c.loop.rest.now _ c.loop-test.false c.loop.invariant
