use Rattle.std.proofs.Common.{rules, ◌≡◌, [], ◌∷◌, List, length, refl, sym, ap, ◌∙◌, arith}
use Rattle.std.specs.Vec.Iter.{into_iter_items}
use Rattle.report_text.specs.Offers.{is_met}
use Rattle.detector.proofs.ToldLaws.{Telling, telling_start, next_can, telling_step, telling_end}
use Rattle.detector.proofs.detector.Detector.tell.Goals as goal
use Rattle.detector.proofs.detector.Detector.tell.Given.{Over}
use Rattle.detector.proofs.detector.Detector.tell.Goals.{In-Some}

nothing_left : {X : Type 0} (l : List X) → length l ≡ 0 → l ≡ []
nothing_left [] h = refl
nothing_left (x ∷ xs) h = absurd (omega arith)

now : (g : Over) (c : In-Some g) → Telling (is_met (g.S.Suppressions.rule_met c.args.reporter.now.rules)) c.args.image.now c.args.self.now c.take_waiting-waiting.new.self c.args.reporter.now.kept c.loop-candidate.reporter.kept c.loop-candidate.yielded (c.in-Some.candidate ∷ into_iter_items c.next.new.self)
now g c = rw c.in-Some.ensures.steps.0 at c.loop-candidate.invariant.0

pub loop-candidate-init : goal.loop-candidate-init
loop-candidate-init g c =
    let gives = c.into_iter-candidate-iterator.ensures.into_iter_gives in
    let items : into_iter_items c.into_iter-candidate-iterator.result ≡ c.args.self.now.waiting = gives.0 ∙ c.take_waiting-waiting.ensures.taken in
    (rw items (telling_start _ _ _ _ _ c.take_waiting-waiting.ensures.left), search rules, refl)

pub previous-requires : goal.previous-requires
previous-requires g c = next_can _ _ _ _ _ _ _ _ _ (now g (goal.at.previous-requires g c).In-Some) c.requires.can

pub loop-candidate-preserved : goal.loop-candidate-preserved
loop-candidate-preserved g c =
    let t = now g (goal.at.loop-candidate-preserved g c).In-Some in
    let was = c.loop-candidate.invariant.1 in
    let short = ap length c.in-Some.ensures.steps.0 in
    let gone = c.in-Some.ensures.steps.1 in
    let rules_are = c.loop-candidate.invariant.2 in
    let kept = rw rules_are at c.in_ok-offer.ensures.kept in
    (telling_step _ _ _ _ _ _ _ _ _ t c.in_ok-previous.previous c.offer.new.self.kept c.in_ok-previous.ensures kept c.in_ok-offer.ensures.counted, omega arith, c.offer.ensures.rules ∙ rules_are)

pub returns-clause-told : goal.returns-clause-told
returns-clause-told g c =
    let at = c.loop-candidate in
    let none = c.in-None.ensures.steps in
    let empty : into_iter_items at.candidate-iterator ≡ [] = nothing_left _ (sym at.invariant.1 ∙ none.0) in
    telling_end _ _ _ _ _ _ _ (rw empty at at.invariant.0)
