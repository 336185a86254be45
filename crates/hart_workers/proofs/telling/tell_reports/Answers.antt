use Rattle.std.proofs.Common.{rules, ◌≡◌, [], ◌∷◌, List, length, refl, sym, ap, ◌∙◌, arith}
use Rattle.std.specs.Vec.Iter.{into_iter_items}
use Rattle.part_races.specs.Sorting.{awaited_in}
use Rattle.report_text.specs.Offers.{is_met}
use Rattle.hart_workers.proofs.Tellings.{Telling, telling_start, next_can, telling_step, telling_end}
use Rattle.hart_workers.proofs.telling.tell_reports.Goals as goal
use Rattle.hart_workers.proofs.telling.tell_reports.Given.{Over}
use Rattle.hart_workers.proofs.telling.tell_reports.Goals.{In-Some}

nothing_left : {X : Type 0} (l : List X) → length l ≡ 0 → l ≡ []
nothing_left [] h = refl
nothing_left (x ∷ xs) h = absurd (omega arith)

now : (g : Over) (c : In-Some g) → Telling (is_met (g.S.Suppressions.rule_met c.args.reporter.now.rules)) c.args.image.now c.args.states.now c.args.desk.now
    (awaited_in c.args.pending) c.args.reporter.now.kept c.loop-one.reporter.kept c.loop-one.yielded (c.in-Some.one ∷ into_iter_items c.next.new.self)
now g c = rw c.in-Some.ensures.steps.0 at c.loop-one.invariant.0

pub loop-one-init : goal.loop-one-init
loop-one-init g c =
    let gives = c.into_iter-one-iterator.ensures.into_iter_gives in
    (rw (gives.0, ← c.pending.view_is) (telling_start _ _ _ _ _ _), search rules, refl)

pub told_previous-requires : goal.told_previous-requires
told_previous-requires g c = next_can _ _ _ _ _ _ _ _ _ _ (now g (goal.at.told_previous-requires g c).In-Some) c.requires

pub loop-one-preserved : goal.loop-one-preserved
loop-one-preserved g c =
    let t = now g (goal.at.loop-one-preserved g c).In-Some in
    let was = c.loop-one.invariant.1 in
    let short = ap length c.in-Some.ensures.steps.0 in
    let gone = c.in-Some.ensures.steps.1 in
    let rules_are = c.loop-one.invariant.2 in
    let kept = rw rules_are at c.in_ok-offer.ensures.kept in
    (telling_step _ _ _ _ _ _ _ _ _ _ t c.in_ok-previous.previous c.offer.new.self.kept c.in_ok-previous.ensures kept, omega arith, c.offer.ensures.rules ∙ rules_are)

pub returns-clause-told : goal.returns-clause-told
returns-clause-told g c =
    let at = c.loop-one in
    let none = c.in-None.ensures.steps in
    let empty : into_iter_items at.one-iterator ≡ [] = nothing_left _ (sym at.invariant.1 ∙ none.0) in
    telling_end _ _ _ _ _ _ _ _ (rw empty at at.invariant.0)
