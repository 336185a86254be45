use Rattle.std.proofs.Common.{◌-◌, ◌<◌, ◌≤◌, Some, None, length, sym, ap, ◌∙◌, arith}
use Rattle.trace_parts.specs.Snapshot.{Snapshot}
use Rattle.trace_parts.specs.Part.{IsPart}
use Rattle.trace_parts.proofs.RestoreLaws.{parts_first, parts_found, parts_on, parts_last, told_is_restored, lost_is_restored, ArePartsOf-at}
use Rattle.trace_parts.proofs.ring.Ring.restore.Goals as goal
use Rattle.trace_parts.proofs.ring.Ring.restore.Goals.{After-standing-1}

pub loop-i-init : goal.loop-i-init
loop-i-init c =
    let s = c.args.sought.now in
    let ring = c.args.self.now in
    parts_first s.label s.granule_address s.word c.len-i.result ring c.new-standing.result.label (ap (λ (t : Snapshot). t.label) c.new-standing.ensures) (c.len-i.ensures ∙ ring.older.ok.0)

part_walked : (c : After-standing-1) → IsPart c.args.self.now.part_words c.index-part.result.now
part_walked c =
    let ring = c.args.self.now in
    let below : c.loop-i.i - 1 < length ring.older.items = omega (arith, c.loop-i-test.true, c.loop-i.auto.i, c.len-i.ensures, ring.older.ok.0) in
    ArePartsOf-at ring.part_words (c.loop-i.i - 1) ring.older.items c.index-part.result.now c.requires.sound.older below c.index-part.ensures

pub seek-requires-clause-spelled : goal.seek-requires-clause-spelled
seek-requires-clause-spelled c = (part_walked c).is_spelled

pub seek-requires-clause-labels : goal.seek-requires-clause-labels
seek-requires-clause-labels c = (part_walked c).labels

pub returns-in-Some : goal.returns-in-Some
returns-in-Some c =
    let s = c.args.sought.now in
    let ring = c.args.self.now in
    let within : c.loop-i.i ≤ length ring.older.items = omega (arith, c.loop-i.auto.i, c.len-i.ensures, ring.older.ok.0) in
    told_is_restored s.label s.granule_address s.word ring c.in-Some.found c.requires.begins
    (parts_found s.label s.granule_address s.word c.loop-i.i ring c.loop-i.standing.label c.index-part.result.now c.in-Some.found c.loop-i-test.true within c.index-part.ensures c.loop-i.invariant (sym c.in-Some.is ∙ c.in_ok-found.ensures.found))

pub loop-i-preserved : goal.loop-i-preserved
loop-i-preserved c =
    let s = c.args.sought.now in
    let ring = c.args.self.now in
    let within : c.loop-i.i ≤ length ring.older.items = omega (arith, c.loop-i.auto.i, c.len-i.ensures, ring.older.ok.0) in
    parts_on s.label s.granule_address s.word c.loop-i.i ring c.loop-i.standing.label c.seek.new.standing.label c.index-part.result.now c.requires.sound.in_order c.loop-i-test.true within c.index-part.ensures c.loop-i.invariant
    (sym c.in_default.is ∙ c.in_ok-found.ensures.found) (c.in_ok-found.ensures.passed c.in_default.is)

pub returns-in-Some-2 : goal.returns-in-Some-2
returns-in-Some-2 c =
    let s = c.args.sought.now in
    let ring = c.args.self.now in
    told_is_restored s.label s.granule_address s.word ring c.in-Some-2.found c.requires.begins
    (parts_last s.label s.granule_address s.word c.loop-i.i ring c.loop-i.standing.label (Some c.in-Some-2.found) c.loop-i-test.false c.loop-i.invariant (sym c.in-Some-2.is ∙ c.in_ok-found-2.ensures.found))

pub returns : goal.returns
returns c =
    let s = c.args.sought.now in
    let ring = c.args.self.now in
    lost_is_restored s.label s.granule_address s.word ring c.requires.begins
    (parts_last s.label s.granule_address s.word c.loop-i.i ring c.loop-i.standing.label None c.loop-i-test.false c.loop-i.invariant (sym c.in-None.is ∙ c.in_ok-found-2.ensures.found))
