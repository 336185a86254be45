use Rattle.trace_parts.proofs.ExampleLaws.{is_found}
use Rattle.trace_parts.proofs.trace.tests.restores_with_stack_and_locks.Goals as goal

pub restore-requires : goal.restore-requires
restore-requires g c =
    λ _. is_found c.label.result c.taken.result c.write_at.result c.in_ok-trace.trace c.room.new.self c.push.new.self c.push-2.new.self c.push-3.new.self c.push-4.new.self c.label.ensures c.taken.ensures c.write_at.ensures c.in_ok-trace.ensures.part_words c.in_ok-trace.ensures.parts c.in_ok-trace.ensures.held c.in_ok-room.ensures.ok c.push.ensures.pushed c.push-2.ensures.pushed c.push-3.ensures.pushed c.push-4.ensures.pushed
