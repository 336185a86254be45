use Rattle.std.proofs.Common.{ℕ, ◌%◌, List, ◌∷◌, ap, subst, ◌∙◌}
use Rattle.trace_parts.specs.Held.{HeldTrace}
use Rattle.race_core.specs.Watched.{Watched}
use Rattle.race_core.specs.Parts.{left_of}
use Rattle.detector.specs.Detected.{watcher_of, cells_at}
use Rattle.detector.specs.Checking.{Half}
use Rattle.detector.proofs.AccessLaws.{half_start, next_part, room_for, slots_known, half_step, same_watcher, label_known}
use Rattle.detector.proofs.detector.Detector.check_all.Goals as goal
use Rattle.detector.proofs.detector.Detector.check_all.Goals.{In-Some}

pub parts-init : goal.parts-init
parts-init c = half_start _ _ _ _ _ _ _ c.requires.access c.plan_access-parts.ensures

-- the parts so far, with the one that comes next
half_now : (c : In-Some) → Half c.args.image.now c.args.self.now c.parts.self c.args.tid c.args.place c.args.event.now c.args.checks.now c.parts.checks ((c.in-Some.granule, c.in-Some.mask) ∷ left_of c.next.new.self) c.parts.raced
half_now c = subst (λ (left : List (ℕ × ℕ)). Half c.args.image.now c.args.self.now c.parts.self c.args.tid c.args.place c.args.event.now c.args.checks.now c.parts.checks left c.parts.raced) c.in-Some.ensures.steps c.parts.invariant

pub check-found-requires-clause-room : goal.check-found-requires-clause-room
check-found-requires-clause-room c =
    let i = (goal.at.check-found-requires-clause-room c).In-Some in
    let half = half_now i in
    let next = next_part _ half.access half.done _ _ c.accepted.ensures half.parts in
    room_for _ _ _ _ _ _ _ _ _ _ (c.in-Some.granule, c.in-Some.mask) half c.requires.stands next.within

pub check-found-requires-clause-label : goal.check-found-requires-clause-label
check-found-requires-clause-label c =
    let i = (goal.at.check-found-requires-clause-label c).In-Some in
    let half = half_now i in
    let next = next_part _ half.access half.done _ _ c.accepted.ensures half.parts in
    label_known (watcher_of c.args.self.now c.args.tid) (watcher_of c.parts.self c.args.tid) c.requires.going.label (cells_at c.parts.self.shadow c.in-Some.granule) (same_watcher _ _ _ _ _ _ _ _ _ _ half) c.requires.going.labelled
    (λ this_era. slots_known _ _ _ _ _ _ _ _ _ _ (c.in-Some.granule, c.in-Some.mask) this_era half c.requires.stands next.within)

pub check-found-requires-clause-some_byte : goal.check-found-requires-clause-some_byte
check-found-requires-clause-some_byte c =
    let i = (goal.at.check-found-requires-clause-some_byte c).In-Some in
    let half = half_now i in
    (next_part _ half.access half.done _ _ c.accepted.ensures half.parts).some_byte

pub parts-preserved : goal.parts-preserved
parts-preserved c =
    let i = (goal.at.parts-preserved c).In-Some in
    let half = half_now i in
    let next = next_part _ half.access half.done _ _ c.accepted.ensures half.parts in
    let same = same_watcher _ _ _ _ _ _ _ _ _ _ half in
    let labelled = ap (λ (w : Watched). w.label) same ∙ c.requires.going.labelled in
    let turn_is = ap (λ (n : ℕ). n % 4) (c.count.ensures ∙ ap (λ (t : HeldTrace). t.count) (c.trace.ensures ∙ ap (λ (w : Watched). w.trace) c.watcher-watcher.ensures)) in
    rw (c.in_ok-push.ensures.ok, c.first_raced-raced.ensures) (half_step _ _ _ _ _ _ _ _ _ _ _ _ _ _ c.check-found.result.0 c.requires.going.label half next c.requires.going c.requires.going.labelled next.few_bits turn_is
    (c.check-found.ensures.check half.access c.requires.going.label half.is_access labelled) c.check-found.ensures.stored (rw same at c.check-found.ensures.raced))
