use Rattle.std.proofs.Common.{◌≡◌, ◌-◌, take, sym, ap, ◌∙◌, arith}
use Rattle.run_record.specs.Marks.{marks_before}
use Rattle.run_record.specs.Flat.{event_count, check_count}
use Rattle.run_record.proofs.CutLaws.{events_left, checks_left, cut_whole, cut_entries}
use Rattle.run_record.proofs.cut.cut.Goals as goal

pub sizes-later_events-requires-clause-events : goal.sizes-later_events-requires-clause-events
sizes-later_events-requires-clause-events c =
    let left = events_left c.args.n _ c.args.flat.now.rows.items _ _ c.split_at.ensures.back c.deref.ensures.value c.requires.whole.events_are in
    omega (arith, left, c.len-events.ensures, c.args.flat.now.events.ok.0)

pub sizes-later_events-requires-clause-checks : goal.sizes-later_events-requires-clause-checks
sizes-later_events-requires-clause-checks c =
    let left = checks_left c.args.n _ c.args.flat.now.rows.items _ _ c.split_at.ensures.back c.deref.ensures.value c.requires.whole.checks_are in
    omega (arith, left, c.len-checks.ensures, c.args.flat.now.checks.ok.0)

pub overflow_sub-events : goal.overflow_sub-events
overflow_sub-events c =
    let left = events_left c.args.n _ c.args.flat.now.rows.items _ _ c.split_at.ensures.back c.deref.ensures.value c.requires.whole.events_are in
    omega (arith, left, c.len-events.ensures, c.args.flat.now.events.ok.0, c.sizes-later_events.ensures.events)

pub overflow_sub-checks : goal.overflow_sub-checks
overflow_sub-checks c =
    let left = checks_left c.args.n _ c.args.flat.now.rows.items _ _ c.split_at.ensures.back c.deref.ensures.value c.requires.whole.checks_are in
    omega (arith, left, c.len-checks.ensures, c.args.flat.now.checks.ok.0, c.sizes-later_events.ensures.checks)

pub returns-clause-whole : goal.returns-clause-whole
returns-clause-whole c =
    let n = c.args.n in
    let f = c.args.flat.now in
    let left = events_left n _ f.rows.items _ _ c.split_at.ensures.back c.deref.ensures.value c.requires.whole.events_are in
    let left' = checks_left n _ f.rows.items _ _ c.split_at.ensures.back c.deref.ensures.value c.requires.whole.checks_are in
    let e = c.len-events.result - c.sizes-later_events.result.0 in
    let k = c.len-checks.result - c.sizes-later_events.result.1 in
    let events : e ≡ event_count (take n f.rows.items) = omega (arith, left, c.len-events.ensures, f.events.ok.0, c.sizes-later_events.ensures.events) in
    let checks : k ≡ check_count (take n f.rows.items) = omega (arith, left', c.len-checks.ensures, f.checks.ok.0, c.sizes-later_events.ensures.checks) in
    let notes : take c.count_before-notes.result f.notes.items ≡ marks_before n f.notes.items =
    ap (take c.count_before-notes.result) (sym c.deref-2.ensures.value) ∙ c.count_before-notes.ensures.before ∙ ap (marks_before n) c.deref-2.ensures.value
    in
    let words : take c.count_before-words.result f.words.items ≡ marks_before k f.words.items =
    ap (take c.count_before-words.result) (sym c.deref-3.ensures.value) ∙ c.count_before-words.ensures.before ∙ ap (marks_before k) c.deref-3.ensures.value
    in
    rw (c.truncate.ensures.items, c.truncate-2.ensures.items, c.truncate-3.ensures.items, c.truncate-4.ensures.items, c.truncate-5.ensures.items, notes, words)
    (cut_whole n e k f.rows.items f.notes.items f.events.items f.checks.items f.words.items c.requires.whole c.requires.within events checks)

pub returns-clause-entries : goal.returns-clause-entries
returns-clause-entries c =
    let n = c.args.n in
    let f = c.args.flat.now in
    let left = events_left n _ f.rows.items _ _ c.split_at.ensures.back c.deref.ensures.value c.requires.whole.events_are in
    let left' = checks_left n _ f.rows.items _ _ c.split_at.ensures.back c.deref.ensures.value c.requires.whole.checks_are in
    let e = c.len-events.result - c.sizes-later_events.result.0 in
    let k = c.len-checks.result - c.sizes-later_events.result.1 in
    let events : e ≡ event_count (take n f.rows.items) = omega (arith, left, c.len-events.ensures, f.events.ok.0, c.sizes-later_events.ensures.events) in
    let checks : k ≡ check_count (take n f.rows.items) = omega (arith, left', c.len-checks.ensures, f.checks.ok.0, c.sizes-later_events.ensures.checks) in
    let notes : take c.count_before-notes.result f.notes.items ≡ marks_before n f.notes.items =
    ap (take c.count_before-notes.result) (sym c.deref-2.ensures.value) ∙ c.count_before-notes.ensures.before ∙ ap (marks_before n) c.deref-2.ensures.value
    in
    let words : take c.count_before-words.result f.words.items ≡ marks_before k f.words.items =
    ap (take c.count_before-words.result) (sym c.deref-3.ensures.value) ∙ c.count_before-words.ensures.before ∙ ap (marks_before k) c.deref-3.ensures.value
    in
    rw (c.truncate.ensures.items, c.truncate-2.ensures.items, c.truncate-3.ensures.items, c.truncate-4.ensures.items, c.truncate-5.ensures.items, notes, words)
    (cut_entries n e k f.rows.items f.notes.items f.events.items f.checks.items f.words.items events checks)
