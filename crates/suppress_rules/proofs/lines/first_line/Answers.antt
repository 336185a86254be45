use Rattle.std.proofs.Common.{◌∙◌, rules}
use Rattle.suppress_rules.proofs.CutLaws.{before_cut, after_cut, before_none, after_none}
use Rattle.suppress_rules.proofs.lines.first_line.Goals as goal

pub returns-in-Some-clause-line : goal.returns-in-Some-clause-line
returns-in-Some-clause-line c = before_cut 10 c.args.bytes.now c.in-Some.cut.0.now c.in-Some.cut.1.now c.in-Some.ensures.0 c.in-Some.ensures.1

pub returns-in-Some-clause-below : goal.returns-in-Some-clause-below
returns-in-Some-clause-below c = after_cut 10 c.args.bytes.now c.in-Some.cut.0.now c.in-Some.cut.1.now c.in-Some.ensures.0 c.in-Some.ensures.1

pub returns-in-None-clause-line : goal.returns-in-None-clause-line
returns-in-None-clause-line c = before_none 10 c.args.bytes.now c.in-None.ensures

pub returns-in-None-clause-below : goal.returns-in-None-clause-below
returns-in-None-clause-below c = (search rules) ∙ after_none 10 c.args.bytes.now c.in-None.ensures
