use Rattle.std.proofs.Common.{subst, ◌≡◌, ◌+◌, ◌-◌, ◌∷◌, ◌++◌, [], length, map, sym, ap, ◌∙◌, arith}
use Rattle.std.proofs.lemmas.List.{map_push, map-append, length-map}
use Rattle.symbol_lines.specs.KeptLines.{files_view}
use Rattle.symbol_lines.specs.MachineViews.{sequence_view}
use Rattle.symbol_lines.specs.SectionViews.{sections_view}
use Rattle.symbol_lines.proofs.Gathering.{Gathers, gathers_more, gathers_end, gathers_over}
use Rattle.symbol_lines.proofs.sequences.read_lines.Goals as goal

pub returns-in-None : goal.returns-in-None
returns-in-None c =
    gathers_end (sections_view c.args.sections.now) c.args.section.now (length c.args.section.now - c.loop.counter) c.loop.rest.now (map files_view c.loop.units.items) (map sequence_view c.loop.found.items) c.in-None.ensures c.loop.invariant

pub loop-preserved : goal.loop-preserved
loop-preserved c =
    let ss = c.in_ok-sequences.field-0.sequences.items in
    let t = files_view c.in_ok-sequences.field-0.files in
    let n : c.len.result ≡ length (map files_view c.loop.units.items) = omega (arith, c.len.ensures, length-map c.loop.units.items files_view, c.loop.units.ok.0) in
    let are = rw n at c.in_ok-sequences.ensures.units in
    let more : map files_view c.push.new.self.items ≡ map files_view c.loop.units.items ++ t ∷ [] =
    ap (map files_view) c.in_ok-push.ensures.items ∙ map_push files_view c.loop.units.items c.in_ok-sequences.field-0.files in
    let all : map sequence_view c.append.new.self.items ≡ map sequence_view c.loop.found.items ++ map sequence_view ss =
    ap (map sequence_view) c.in_ok-append.ensures.items ∙ map-append sequence_view c.loop.found.items ss in
    let g = gathers_more (sections_view c.args.sections.now) c.args.section.now c.loop.counter c.loop.rest.now c.in-Some.read.0.now c.in-Some.read.1.now (map files_view c.loop.units.items) (map sequence_view c.loop.found.items) t (map sequence_view ss) c.loop-test.true c.in-Some.ensures c.in_ok-sequences.ensures.lines are c.loop.invariant in
    let n = length c.args.section.now - (c.loop.counter + 1) in
    let after = c.in-Some.read.1.now in
    subst (λ us. Gathers (sections_view c.args.sections.now) c.args.section.now n after us (map sequence_view c.append.new.self.items)) (sym more)
    (subst (λ fs. Gathers (sections_view c.args.sections.now) c.args.section.now n after (map files_view c.loop.units.items ++ t ∷ []) fs) (sym all) g)

pub returns : goal.returns
returns c =
    gathers_over (sections_view c.args.sections.now) c.args.section.now c.loop.counter c.loop.rest.now (map files_view c.loop.units.items) (map sequence_view c.loop.found.items) c.loop-test.false c.loop.invariant
