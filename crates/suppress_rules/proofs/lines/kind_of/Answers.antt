use Rattle.std.proofs.Common.{◌≡◌, ap, sym, arith, rules, codes}
use Rattle.std.proofs.lemmas.Slice.Eq.{text_from_reads}
use Rattle.suppress_rules.specs.RuleFile as file
use Rattle.suppress_rules.proofs.lines.kind_of.Goals as goal

pub returns-in-114 : goal.returns-in-114
returns-in-114 c = let e : c.args.name.now ≡ codes "race_top" = text_from_reads c.args.name.now (codes "race_top") (omega arith) (search rules) in ap file.kind_of (sym e)

pub returns-in-thread : goal.returns-in-thread
returns-in-thread c = let e : c.args.name.now ≡ codes "mutex" = text_from_reads c.args.name.now (codes "mutex") (omega arith) (search rules) in ap file.kind_of (sym e)

pub returns-in-thread-2 : goal.returns-in-thread-2
returns-in-thread-2 c = let e : c.args.name.now ≡ codes "thread" = text_from_reads c.args.name.now (codes "thread") (omega arith) (search rules) in ap file.kind_of (sym e)

pub returns-in-thread-3 : goal.returns-in-thread-3
returns-in-thread-3 c = let e : c.args.name.now ≡ codes "signal" = text_from_reads c.args.name.now (codes "signal") (omega arith) (search rules) in ap file.kind_of (sym e)

pub returns-in-thread-4 : goal.returns-in-thread-4
returns-in-thread-4 c = let e : c.args.name.now ≡ codes "deadlock" = text_from_reads c.args.name.now (codes "deadlock") (omega arith) (search rules) in ap file.kind_of (sym e)

pub returns-in-thread-5 : goal.returns-in-thread-5
returns-in-thread-5 c = let e : c.args.name.now ≡ codes "called_from_lib" = text_from_reads c.args.name.now (codes "called_from_lib") (omega arith) (search rules) in ap file.kind_of (sym e)
