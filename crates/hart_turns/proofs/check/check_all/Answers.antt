use Rattle.std.proofs.Common.{◌<◌, ℕ, ◌%◌, List, ◌∷◌, ap, subst, ◌∙◌, arith}
use Rattle.elf_image.proofs.MemoryLaws.{few_granules}
use Rattle.run_record.specs.declared.entry.Label.{Label}
use Rattle.run_laws.specs.Accesses.{access_of}
use Rattle.race_core.specs.Parts.{left_of}
use Rattle.trace_parts.specs.Held.{HeldTrace}
use Rattle.hart_turns.specs.Checks.{Half}
use Rattle.hart_turns.proofs.Checking.{some_of, some_and, next_within, next_some, half_start, half_step, half_end}
use Rattle.hart_turns.proofs.check.check_all.Goals as goal
use Rattle.hart_turns.proofs.check.check_all.Goals.{In-Some}

pub parts-init : goal.parts-init
parts-init c = (c.requires.own, half_start c.args.image.now c.args.watcher.now c.args.event.now c.args.place c.args.checks.now c.args.seat.now.me _ c.plan_access-parts.ensures)

-- the parts so far, with the one that comes next
half_now : (c : In-Some) → Half c.args.image.now c.args.watcher.now c.args.event.now c.args.place c.args.checks.now c.parts.checks c.args.seat.now.me c.parts.seat.me
    ((c.in-Some.granule, c.in-Some.mask) ∷ left_of c.next.new.self) c.parts.raced
half_now c = subst (λ (left : List (ℕ × ℕ)). Half c.args.image.now c.args.watcher.now c.args.event.now c.args.place c.args.checks.now c.parts.checks
    c.args.seat.now.me c.parts.seat.me left c.parts.raced) c.in-Some.ensures.steps c.parts.invariant.1

pub check-found-requires-clause-granule : goal.check-found-requires-clause-granule
check-found-requires-clause-granule c =
    let i = (goal.at.check-found-requires-clause-granule c).In-Some in
    let half = half_now i in
    let a = some_of (access_of c.args.event.now) c.requires.access in
    let z = next_within c.args.image.now a.0 half.done _ (c.in-Some.granule, c.in-Some.mask) c.accepted.ensures (half.parts a.0 a.1) in
    let y = c.requires.granules in
    omega arith

pub check-found-requires-clause-few : goal.check-found-requires-clause-few
check-found-requires-clause-few c = let z = few_granules c.args.image.now c.accepted.ensures in let y = c.requires.granules in omega arith

pub check-found-requires-clause-some_byte : goal.check-found-requires-clause-some_byte
check-found-requires-clause-some_byte c =
    let i = (goal.at.check-found-requires-clause-some_byte c).In-Some in
    let half = half_now i in
    let a = some_of (access_of c.args.event.now) c.requires.access in
    next_some c.args.image.now a.0 half.done _ (c.in-Some.granule, c.in-Some.mask) (half.parts a.0 a.1)

pub parts-preserved : goal.parts-preserved
parts-preserved c =
    let i = (goal.at.parts-preserved c).In-Some in
    let half = half_now i in
    let turn_is = ap (λ (n : ℕ). n % 4) (c.count.ensures ∙ ap (λ (t : HeldTrace). t.count) c.trace.ensures) in (
      c.check-found.ensures.own,
      rw (c.in_ok-push.ensures.ok, c.first_raced-raced.ensures) (half_step c.args.image.now c.args.watcher.now c.args.event.now c.args.place c.args.checks.now c.parts.checks
          c.args.seat.now.me c.parts.seat.me c.check-found.new.seat.me (c.in-Some.granule, c.in-Some.mask) _ _ c.check-found.result.0 c.parts.raced _ half c.check-found.ensures.check
          turn_is c.check-found.ensures.log c.check-found.ensures.raced),
    )

pub returns-clause-all : goal.returns-clause-all
returns-clause-all c =
    let a = some_of (access_of c.args.event.now) c.requires.access in
    let l = some_and (λ (l : Label). l.sid < c.args.shared.now.layout.limits.slots) c.args.watcher.now.label c.requires.can.label in
    half_end c.args.image.now c.args.watcher.now c.args.event.now c.args.place c.args.checks.now c.parts.checks c.args.seat.now.me c.parts.seat.me
    (left_of c.parts.parts) c.parts.raced a.0 l.0 a.1 l.1 c.in_default.ensures.steps.0 c.parts.invariant.1
