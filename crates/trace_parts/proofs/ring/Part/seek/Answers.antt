use Rattle.std.proofs.Common.{sym, ◌∙◌}
use Rattle.trace_parts.specs.Snapshot.{with_label}
use Rattle.trace_parts.specs.Part.{snapshot_of, told_from}
use Rattle.trace_parts.proofs.UnderLaws.{none_told, under_after_all}
use Rattle.trace_parts.proofs.ring.Part.seek.Goals as goal

pub returns-then-not-contains-clause-found : goal.returns-then-not-contains-clause-found
returns-then-not-contains-clause-found c =
    let s = c.args.sought.now in
    sym (none_told s.label s.granule_address s.word (with_label c.args.standing.now.label (snapshot_of c.args.self.now.before)) (told_from c.args.self.now.words.items) (sym c.is_under.ensures ∙ c.if-not-is_under.true) (c.requires.labels s.label (sym c.contains.ensures ∙ c.if-not-contains.true)))

pub returns-then-not-contains-clause-passed : goal.returns-then-not-contains-clause-passed
returns-then-not-contains-clause-passed c =
    let s = c.args.sought.now in
    let before = with_label c.args.standing.now.label (snapshot_of c.args.self.now.before) in
    let under = sym c.is_under.ensures ∙ c.if-not-is_under.true in
    λ _. under ∙ sym (under_after_all s.label before (told_from c.args.self.now.words.items) under (c.requires.labels s.label (sym c.contains.ensures ∙ c.if-not-contains.true)))
