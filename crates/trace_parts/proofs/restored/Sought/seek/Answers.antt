use Rattle.std.proofs.Common.{◌≡◌, ℕ, ◌≤◌, Bool, List, length, drop, subst, refl, sym, ap, ◌∙◌, arith}
use Rattle.trace_parts.specs.declared.event.TraceEvent.{TraceEvent}
use Rattle.trace_parts.specs.Spelling.{told, kind_of, words_of_kind}
use Rattle.trace_parts.specs.Snapshot.{snapshot_after}
use Rattle.trace_parts.specs.Part.{place_then, snapshot_of}
use Rattle.trace_parts.proofs.SoughtLaws.{told_none, told_some}
use Rattle.trace_parts.proofs.SeekLaws.{SeeksOn, first_read, some_left, none_left, seeks_found, seeks_on, seeks_none, told_if-no_access}
use Rattle.trace_parts.proofs.restored.Sought.seek.Goals as goal

pub note_first-requires-clause-whole : goal.note_first-requires-clause-whole
note_first-requires-clause-whole c =
    let l = c.loop-rest in
    (first_read l.previous l.rest.now l.invariant.0.fits l.invariant.0.is_spelled (some_left l.rest.now c.is_empty.result c.is_empty.ensures c.loop-rest-test.true)).reads.within

pub split_at-requires : goal.split_at-requires
split_at-requires c =
    let l = c.loop-rest in
    let first = first_read l.previous l.rest.now l.invariant.0.fits l.invariant.0.is_spelled (some_left l.rest.now c.is_empty.result c.is_empty.ensures c.loop-rest-test.true) in
    omega (arith, first.reads.within, c.in_ok-count.ensures.words)

pub loop-rest-preserved-then-bits-gt2 : goal.loop-rest-preserved-then-bits-gt2
loop-rest-preserved-then-bits-gt2 c =
    let s = c.args.self.now in
    let l = c.loop-rest in
    let rest = l.rest.now in
    let n = words_of_kind (kind_of rest) in
    let next = snapshot_of c.note_first.new.standing in
    let first = first_read l.previous rest l.invariant.0.fits l.invariant.0.is_spelled (some_left rest c.is_empty.result c.is_empty.ensures c.loop-rest-test.true) in
    let other = first.no_access (omega (arith, c.if-bits-gt2.true, c.bits.ensures.value)) in
    let on = seeks_on s.label s.granule_address s.word l.previous n l.previous rest first.event (snapshot_of l.standing) next c.args.words.now (snapshot_of c.args.standing.now) l.invariant.0 first.reads (told_if-no_access s.label s.granule_address s.word (snapshot_of l.standing) (told first.event) other.0) (c.in_ok-count.ensures.noted l.previous first.event first.fields) (sym other.1) in
    (subst (λ (words : List ℕ). SeeksOn s.label s.granule_address s.word l.previous words next c.args.words.now (snapshot_of c.args.standing.now)) (sym (c.split_at.ensures.back ∙ ap (λ (m : ℕ). drop m rest) c.in_ok-count.ensures.words)) on, c.is_under-under-then-bits-gt2.ensures)

pub first_access-access-requires-clause-whole : goal.first_access-access-requires-clause-whole
first_access-access-requires-clause-whole c =
    let l = c.loop-rest in
    (first_read l.previous l.rest.now l.invariant.0.fits l.invariant.0.is_spelled (some_left l.rest.now c.is_empty.result c.is_empty.ensures c.loop-rest-test.true)).reads.within

pub returns-then-is_left_by-clause-found : goal.returns-then-is_left_by-clause-found
returns-then-is_left_by-clause-found c =
    let s = c.args.self.now in
    let l = c.loop-rest in
    let rest = l.rest.now in
    let now = snapshot_of l.standing in
    let a = c.first_access-access.result in
    let first = first_read l.previous rest l.invariant.0.fits l.invariant.0.is_spelled (some_left rest c.is_empty.result c.is_empty.ensures c.loop-rest-test.true) in
    let is = c.first_access-access.ensures.fields first.event first.fields in
    seeks_found s.label s.granule_address s.word l.previous (words_of_kind (kind_of rest)) rest first.event now c.args.words.now (snapshot_of c.args.standing.now) c.in_ok-told_at.field-0 l.invariant.0 first.reads
    (told_some s.label s.granule_address s.word now first.event a.place a.addr a.size a.read a.atomic l.under c.in_ok-told_at.field-0 is l.invariant.1 (sym c.if-is_left_by.true ∙ c.is_left_by.ensures a.place) c.in_ok-told_at.ensures)

pub split_at-requires-in-loop-rest : goal.split_at-requires-in-loop-rest
split_at-requires-in-loop-rest c =
    let l = c.loop-rest in
    let first = first_read l.previous l.rest.now l.invariant.0.fits l.invariant.0.is_spelled (some_left l.rest.now c.is_empty.result c.is_empty.ensures c.loop-rest-test.true) in
    omega (arith, first.reads.within, c.first_access-access.ensures.words)

pub loop-rest-preserved : goal.loop-rest-preserved
loop-rest-preserved c =
    let s = c.args.self.now in
    let l = c.loop-rest in
    let rest = l.rest.now in
    let n = words_of_kind (kind_of rest) in
    let now = snapshot_of l.standing in
    let a = c.first_access-access.result in
    let first = first_read l.previous rest l.invariant.0.fits l.invariant.0.is_spelled (some_left rest c.is_empty.result c.is_empty.ensures c.loop-rest-test.true) in
    let is = c.first_access-access.ensures.fields first.event first.fields in
    let other = told_none s.label s.granule_address s.word now first.event a.place a.addr a.size a.read a.atomic l.under is l.invariant.1 (sym c.if-is_left_by.false ∙ c.is_left_by.ensures a.place) in
    let on = seeks_on s.label s.granule_address s.word l.previous n a.place rest first.event now now c.args.words.now (snapshot_of c.args.standing.now) l.invariant.0 first.reads other (ap (λ (e : TraceEvent). snapshot_after now (told e)) (sym is)) (ap (place_then l.previous) (sym is)) in
    (subst (λ (words : List ℕ). SeeksOn s.label s.granule_address s.word a.place words now c.args.words.now (snapshot_of c.args.standing.now)) (sym (c.split_at-in-loop-rest.ensures.back ∙ ap (λ (m : ℕ). drop m rest) c.first_access-access.ensures.words)) on, l.invariant.1)

pub returns-clause-found : goal.returns-clause-found
returns-clause-found c =
    let s = c.args.self.now in
    let l = c.loop-rest in
    (seeks_none s.label s.granule_address s.word l.previous l.rest.now (snapshot_of l.standing) c.args.words.now (snapshot_of c.args.standing.now) l.invariant.0 (none_left l.rest.now c.is_empty.result c.is_empty.ensures c.loop-rest-test.false)).0

pub returns-clause-passed : goal.returns-clause-passed
returns-clause-passed c =
    let s = c.args.self.now in
    let l = c.loop-rest in
    λ _. (seeks_none s.label s.granule_address s.word l.previous l.rest.now (snapshot_of l.standing) c.args.words.now (snapshot_of c.args.standing.now) l.invariant.0 (none_left l.rest.now c.is_empty.result c.is_empty.ensures c.loop-rest-test.false)).1
