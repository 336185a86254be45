use Rattle.std.proofs.Common.{◌+◌, ap, ◌∙◌, arith}
use Rattle.run_record.specs.declared.rest.Rest.{Rest}
use Rattle.run_record.specs.Flat.{event_count, check_count}
use Rattle.run_record.proofs.CutLaws.{events_split, checks_split}
use Rattle.run_record.proofs.RestLaws.{IsFront, IsLater, front-entries, front-rest, later-entries, later-rest}
use Rattle.run_record.proofs.rest.split.Goals as goal
use Rattle.run_record.proofs.rest.split.Goals.{After-later_words-1}

pub sizes-event_count-requires-clause-events : goal.sizes-event_count-requires-clause-events
sizes-event_count-requires-clause-events c =
    let r = c.args.rest.now in
    omega (arith, ap event_count c.split_at.ensures.front, events_split c.args.n r.rows.now, c.requires.rest.events_are)

pub sizes-event_count-requires-clause-checks : goal.sizes-event_count-requires-clause-checks
sizes-event_count-requires-clause-checks c =
    let r = c.args.rest.now in
    omega (arith, ap check_count c.split_at.ensures.front, checks_split c.args.n r.rows.now, c.requires.rest.checks_are, c.requires.rest.few_checks)

pub split_at-requires-2 : goal.split_at-requires-2
split_at-requires-2 c =
    let r = c.args.rest.now in
    omega (arith, c.sizes-event_count.ensures.events, ap event_count c.split_at.ensures.front, events_split c.args.n r.rows.now, c.requires.rest.events_are)

pub split_at-requires-3 : goal.split_at-requires-3
split_at-requires-3 c =
    let r = c.args.rest.now in
    omega (arith, c.sizes-event_count.ensures.checks, ap check_count c.split_at.ensures.front, checks_split c.args.n r.rows.now, c.requires.rest.checks_are)

front : After-later_words-1 → Rest
front c = record {
  entry = c.args.rest.now.entry;
  check = c.args.rest.now.check;
  rows = c.split_at.result.0;
  notes = c.split_at-4.result.0;
  events = c.split_at-2.result.0;
  checks = c.split_at-3.result.0;
  words = c.split_at-5.result.0;
}

later : After-later_words-1 → Rest
later c = record {
  entry = c.args.rest.now.entry + c.args.n;
  check = c.args.rest.now.check + c.sizes-event_count.result.1;
  rows = c.split_at.result.1;
  notes = c.split_at-4.result.1;
  events = c.split_at-2.result.1;
  checks = c.split_at-3.result.1;
  words = c.split_at-5.result.1;
}

front-is : (c : After-later_words-1) → IsFront c.args.rest.now (front c) c.args.n c.sizes-event_count.result.0 c.sizes-event_count.result.1
unfolding front
front-is c = record {
  entry = λ i. c.args.rest.now.entry;
  check = λ i. c.args.rest.now.check;
  rows = c.split_at.ensures.front;
  notes = c.split_at-4.ensures.front ∙ c.count_before.ensures.before;
  events = c.split_at-2.ensures.front;
  checks = c.split_at-3.ensures.front;
  words = c.split_at-5.ensures.front ∙ c.count_before-2.ensures.before;
  event_count_is = c.sizes-event_count.ensures.events ∙ ap event_count c.split_at.ensures.front;
  check_count_is = c.sizes-event_count.ensures.checks ∙ ap check_count c.split_at.ensures.front;
}

later-is : (c : After-later_words-1) → IsLater c.args.rest.now (later c) c.args.n c.sizes-event_count.result.0 c.sizes-event_count.result.1
unfolding later
later-is c = record {
  entry = λ i. c.args.rest.now.entry + c.args.n;
  check = λ i. c.args.rest.now.check + c.sizes-event_count.result.1;
  rows = c.split_at.ensures.back;
  notes = c.split_at-4.ensures.back ∙ c.count_before.ensures.from;
  events = c.split_at-2.ensures.back;
  checks = c.split_at-3.ensures.back;
  words = c.split_at-5.ensures.back ∙ c.count_before-2.ensures.from;
  event_count_is = c.sizes-event_count.ensures.events ∙ ap event_count c.split_at.ensures.front;
  check_count_is = c.sizes-event_count.ensures.checks ∙ ap check_count c.split_at.ensures.front;
}

pub returns-clause-front : goal.returns-clause-front
unfolding front
returns-clause-front c = front-entries c.args.rest.now (front c) _ _ _ (front-is c)

pub returns-clause-front_rest : goal.returns-clause-front_rest
unfolding front
returns-clause-front_rest c = front-rest c.args.rest.now (front c) _ _ _ c.requires.rest c.requires.within (front-is c)

pub returns-clause-later : goal.returns-clause-later
unfolding later
returns-clause-later c = later-entries c.args.rest.now (later c) _ _ _ c.requires.rest (later-is c)

pub returns-clause-later_rest : goal.returns-clause-later_rest
unfolding later
returns-clause-later_rest c = later-rest c.args.rest.now (later c) _ _ _ c.requires.rest c.requires.within (later-is c)
