use Rattle.std.proofs.Common.{◌≡◌, ◌+◌, ◌++◌, List, length, ◌∙◌, subst}
use Rattle.std.specs.Prelude.{OnOk}
use Rattle.run_record.specs.declared.entry.Entry.{Entry}
use Rattle.run_record.specs.Between.{entries_between}
use Rattle.thread_turns.specs.Pushed.{made_turn}
use Rattle.thread_turns.proofs.PushedLaws.{first_head, pushed_are}
use Rattle.thread_turns.proofs.entries.push_turn.Goals as goal

pub returns-clause-ok : goal.returns-clause-ok
returns-clause-ok c =
    let before = c.args.entries.now in
    let part = c.args.part.now in
    let turn = made_turn c.args.round c.args.era c.args.tid part in
    let same = (λ i. entries_between (record (first_head (length before) turn) { stamp = c.len.ensures i + 1 }) part.attached (c.as_slice.ensures i)
    (c.as_slice-2.ensures i) part.spent) ∙ pushed_are (length before) turn in
    subst (λ (more : List Entry). OnOk c.push_between.result (c.push_between.new.self ≡ before ++ more)) same c.push_between.ensures.ok
