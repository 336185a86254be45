use Rattle.std.proofs.Common.{List, sym, ap, subst, ◌∙◌}
use Rattle.std.specs.Prelude.{Option, All, IsPermutation}
use Rattle.run_record.specs.declared.entry.Entry.{Entry}
use Rattle.run_record.specs.Order.{AreOrdered, entries_in}
use Rattle.report_text.specs.Offers.{is_met}
use Rattle.part_races.specs.Sorting.{awaited_in}
use Rattle.hart_turns.specs.declared.slots.ThreadState.{ThreadState}
use Rattle.hart_workers.specs.declared.crew.Crew.{Crew}
use Rattle.hart_workers.specs.Crews.{IsIdle}
use Rattle.hart_workers.specs.Tells.{CanTell}
use Rattle.hart_workers.specs.Closing.{EndsInTurn}
use Rattle.hart_workers.proofs.Ending.{can_be_told, closed}
use Rattle.hart_workers.proofs.rounds.Rounds.close.Goals as goal

pub go_on-requires-clause-ordered : goal.go_on-requires-clause-ordered
go_on-requires-clause-ordered g c = subst (All AreOrdered) (sym c.as_slice.ensures.value) c.requires.at_end.ordered

pub end_in_turn-requires-clause-tellable : goal.end_in_turn-requires-clause-tellable
end_in_turn-requires-clause-tellable g c = λ found within took d at.
    let same = c.as_slice-2.ensures.value ∙ ap (λ (crew : Crew). crew.states.items) c.in_ok-go_on.ensures.crew in
    let on = c.in_ok-go_on.ensures.onward in
    subst (λ (states : List (Option ThreadState)). CanTell c.args.image.now states d.desk (awaited_in c.args.made.pending)) (sym same)
    (can_be_told (is_met (g.S.Suppressions.rule_met c.args.reporter.now.rules)) c.args.image.now c.args.limits.now c.args.shared.now.layout c.args.seat.now.me
    within c.args.self.now _ c.args.reporter.now.kept found c.requires.opener.own.layout c.requires.opener.opening
    (c.requires.at_end.merges on.entries (subst (λ (logs : List (List Entry)). IsPermutation (entries_in logs) on.entries) c.as_slice.ensures.value on.same) on.ordered)
    took d at)

pub returns-clause-between : goal.returns-clause-between
returns-clause-between g c =
    let crew = ap (λ (crew : Crew). crew.states.items) c.in_ok-go_on.ensures.crew in
    let same = c.as_slice-2.ensures.value ∙ crew in
    let by = c.in_ok-go_on.ensures.onward in
    let on = by.onward in
    closed (is_met (g.S.Suppressions.rule_met c.args.reporter.now.rules)) c.args.image.now c.args.limits.now c.args.shared.now.layout c.args.seat.now.me
    c.end_in_turn.new.seat.me c.args.self.now _ _ c.args.reporter.now.kept c.end_in_turn.new.reporter.kept c.requires.opener.own.layout
    c.requires.opener.opening
    (c.requires.at_end.merges by.entries (subst (λ (logs : List (List Entry)). IsPermutation (entries_in logs) by.entries) c.as_slice.ensures.value by.same) by.ordered)
    (record {
      entries_are = on.entries_are;
      round = on.round;
      era = on.era;
      last_era = on.last_era;
      base = on.base;
      remaining = on.remaining;
    })
    (λ t idle. c.in_ok-grow.ensures.idle t (subst (λ (states : List (Option ThreadState)). IsIdle c.args.limits.now t states) (sym crew) idle))
    (subst (λ (states : List (Option ThreadState)). EndsInTurn (is_met (g.S.Suppressions.rule_met c.args.reporter.now.rules)) c.args.image.now
    c.args.limits.now states (awaited_in c.args.made.pending) c.args.made.starved c.go_on.new.self.remaining c.args.reporter.now.kept
    c.end_in_turn.new.reporter.kept c.args.seat.now.me c.end_in_turn.new.seat.me c.in_ok-reading.reading) same c.in_ok-reading.ensures.ended)
