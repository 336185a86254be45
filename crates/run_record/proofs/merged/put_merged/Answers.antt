use Rattle.std.proofs.Common.{length, None, subst}
use Rattle.run_record.specs.Flat.{flat_entries}
use Rattle.run_record.specs.Merging.{IsChosen, IsChosenBelow}
use Rattle.run_record.proofs.MergeRests.{begun, next, shorter, merged}
use Rattle.run_record.proofs.merged.put_merged.Goals as goal

pub loop-choice-init : goal.loop-choice-init
loop-choice-init c = (
  c.requires.whole,
  begun c.args.logs.now (flat_entries c.args.flat.now) c.in_ok-rests.rests.items c.in_ok-rests.ensures c.requires.ordered,
)

pub loop-choice-smaller : goal.loop-choice-smaller
loop-choice-smaller c =
    let rests = c.loop-choice.rests.items in
    let chosen : IsChosen rests (length rests) c.in-Some.choice =
    subst (IsChosenBelow rests (length rests)) c.in-Some.is (rw c.deref.ensures.value at c.choose.ensures) in
    shorter rests c.in-Some.choice c.run-count.result c.index.result.now c.split.result.0 c.split.result.1 chosen c.index.ensures c.run-count.ensures.upto
    c.split.ensures.front c.split.ensures.later c.run-count.ensures.within c.run-count.ensures.stops

pub loop-choice-preserved : goal.loop-choice-preserved
loop-choice-preserved c =
    let rests = c.loop-choice.rests.items in
    let chosen : IsChosen rests (length rests) c.in-Some.choice =
    subst (IsChosenBelow rests (length rests)) c.in-Some.is (rw c.deref.ensures.value at c.choose.ensures) in (
      c.in_ok-put_rest.ensures.whole,
      next rests c.in-Some.choice c.run-count.result c.index.result.now c.split.result.0 c.split.result.1 chosen c.index.ensures c.run-count.ensures.upto
          c.split.ensures.front c.split.ensures.later c.args.logs.now (flat_entries c.args.flat.now) (flat_entries c.loop-choice.flat)
          (flat_entries c.put_rest.new.flat) c.in_ok-put_rest.ensures.ok c.split.ensures.later_rest c.loop-choice.invariant.1,
    )

pub returns-clause-ok : goal.returns-clause-ok
returns-clause-ok c =
    let rests = c.loop-choice.rests.items in
    let none : IsChosenBelow rests (length rests) None = subst (IsChosenBelow rests (length rests)) c.in_default.is (rw c.deref.ensures.value at c.choose.ensures) in
    merged c.args.logs.now (flat_entries c.args.flat.now) (flat_entries c.loop-choice.flat) rests none c.requires.distinct c.loop-choice.invariant.1
