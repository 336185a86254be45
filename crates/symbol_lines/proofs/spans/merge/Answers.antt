use Rattle.std.proofs.Common.{None, get_or}
use Rattle.std.proofs.lemmas.List.{get_or_default}
use Rattle.symbol_lines.specs.declared.spans.Step.{Step}
use Rattle.symbol_lines.proofs.Tables.{first_taken, second_taken}
use Rattle.symbol_lines.proofs.spans.merge.Goals as goal
use Rattle.symbol_lines.proofs.spans.merge.Goals.{then-is_first_next, else-is_first_next}

pub loop-i-preserved : goal.loop-i-preserved
loop-i-preserved c =
    let first = c.args.first.now in
    let second = c.args.second.now in
    let d : Step = record { from = 0; owner = None } in
    let was = c.loop-i.invariant in
    elim c.if-is_first_next.branch [
      | then-is_first_next w ↦
          let next = w.if-is_first_next.ensures.first in
          rw (c.in_ok-push.ensures.items, c.better.ensures, w.i-is, w.j-is, w.place-is, w.first_owner-is, w.second_owner-is)
          (first_taken first second c.loop-i.steps.items c.loop-i.i c.loop-i.j c.loop-i.place c.loop-i.first_owner c.loop-i.second_owner (get_or first c.loop-i.i d) was c.requires.first
          (get_or_default first c.loop-i.i d (get_or first c.loop-i.i d) next.in_range) next)
      | else-is_first_next w ↦
          let next = w.if-is_first_next.ensures.second in
          rw (c.in_ok-push.ensures.items, c.better.ensures, w.i-is, w.j-is, w.place-is, w.first_owner-is, w.second_owner-is)
          (second_taken first second c.loop-i.steps.items c.loop-i.i c.loop-i.j c.loop-i.place c.loop-i.first_owner c.loop-i.second_owner (get_or second c.loop-i.j d) was c.requires.second
          (get_or_default second c.loop-i.j d (get_or second c.loop-i.j d) next.in_range) next)
    ]
