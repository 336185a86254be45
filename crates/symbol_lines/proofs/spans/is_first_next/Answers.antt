use Rattle.std.proofs.Common.{◌≡◌, None, get_or, leb, true, false, arith}
use Rattle.std.proofs.lemmas.Bool.{leb-true, leb-false}
use Rattle.symbol_lines.specs.declared.spans.Step.{Step}
use Rattle.symbol_lines.specs.Spans.{IsNext}
use Rattle.symbol_lines.proofs.Tables.{if_true, if_false, is_next}
use Rattle.symbol_lines.proofs.spans.is_first_next.Goals as goal

pub returns-clause-first : goal.returns-clause-first
returns-clause-first c =
    let d : Step = record { from = 0; owner = None } in
    if_true _ (IsNext c.args.first.now c.args.i c.args.second.now c.args.j) (λ (h : leb (get_or c.args.first.now c.args.i d).from (get_or c.args.second.now c.args.j d).from ≡ true).
    is_next c.args.first.now c.args.second.now c.args.i c.args.j d c.requires.second (omega arith) (leb-true _ _ h))

pub returns-clause-second : goal.returns-clause-second
returns-clause-second c =
    let d : Step = record { from = 0; owner = None } in
    if_false _ (IsNext c.args.second.now c.args.j c.args.first.now c.args.i) (λ (h : leb (get_or c.args.first.now c.args.i d).from (get_or c.args.second.now c.args.j d).from ≡ false).
    let below = leb-false (get_or c.args.first.now c.args.i d).from (get_or c.args.second.now c.args.j d).from h in
    is_next c.args.second.now c.args.first.now c.args.j c.args.i d c.requires.first (omega arith) (omega arith))
