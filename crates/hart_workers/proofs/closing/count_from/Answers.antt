use Rattle.std.proofs.Common.{◌≡◌, ◌+◌, ◌∷◌, [], List, max, drop, sym, ap, ◌∙◌, arith}
use Rattle.std.proofs.lemmas.List.{drop_all}
use Rattle.run_record.specs.declared.entry.Entry.{Entry}
use Rattle.run_laws.specs.Rounds.{steps_in}
use Rattle.turn_laws.proofs.PartLaw.{steps_more}
use Rattle.table_deeds.specs.Rounds.{greatest_in}
use Rattle.hart_workers.proofs.Lists.{headed}
use Rattle.hart_workers.proofs.closing.count_from.Goals as goal

pub loop-n-preserved : goal.loop-n-preserved
loop-n-preserved c =
    let es : List Entry = c.args.entries.now in
    let it = headed es c.loop-n.n c.in-Some.head (sym c.head.ensures ∙ c.in-Some.is) in
    let greatest : greatest_in (drop c.loop-n.n es) ≡ max it.entry.stamp (greatest_in (drop (c.loop-n.n + 1) es)) = ap greatest_in it.front in
    let steps : steps_in (drop c.loop-n.n es) ≡ (0 + it.entry.steps) + steps_in (drop (c.loop-n.n + 1) es) =
    ap steps_in it.front ∙ steps_more (it.entry ∷ []) (drop (c.loop-n.n + 1) es) in
    let base = c.loop-n.invariant.base in
    let so_far = c.loop-n.invariant.steps in
    let sum = c.in-Some-checked_add.ensures.1 in
    let max_is = c.max.ensures in
    let stamp = it.stamp_is in
    let same_steps = it.steps_are in
    record {
      base = omega (arith, greatest, base, max_is, stamp);
      steps = omega (arith, steps, so_far, sum, same_steps);
    }

pub returns-clause-base : goal.returns-clause-base
returns-clause-base c =
    let es : List Entry = c.args.entries.now in
    let len = c.len-n-end.ensures in
    let past = c.loop-n-test.false in
    let none : greatest_in (drop c.loop-n.n es) ≡ 0 = ap greatest_in (drop_all c.loop-n.n es (omega (arith, len, past))) in
    let all = c.loop-n.invariant.base in
    omega (arith, none, all)

pub returns-clause-steps : goal.returns-clause-steps
returns-clause-steps c =
    let es : List Entry = c.args.entries.now in
    let len = c.len-n-end.ensures in
    let past = c.loop-n-test.false in
    let none : steps_in (drop c.loop-n.n es) ≡ 0 = ap steps_in (drop_all c.loop-n.n es (omega (arith, len, past))) in
    let all = c.loop-n.invariant.steps in
    omega (arith, none, all)
