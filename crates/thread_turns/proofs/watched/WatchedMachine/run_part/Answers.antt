use Rattle.std.proofs.Common.{arith, inl, inr}
use Rattle.thread_turns.proofs.PartLaws.{partly_start, begins_of_code, part_begins, after_plain, few_plain, part_turn, part_more, part_steps, part_stop, part_stop_steps, part_ends, at_false, from_false, smaller_step, smaller_stop, smaller_plain}
use Rattle.thread_turns.proofs.watched.WatchedMachine.run_part.Goals.{then-part-via-then-part, then-part-via-else-part+then-part-most-2}
use Rattle.thread_turns.proofs.watched.WatchedMachine.run_part.Goals as goal

pub steps-init : goal.steps-init
steps-init c = partly_start _ _ _ _ _

pub run_plain-requires-clause-turn : goal.run_plain-requires-clause-turn
run_plain-requires-clause-turn c = begins_of_code _ _ _ _ _ _ c.requires.code (part_begins _ _ _ _ _ _ _ c.requires.turn (at_false _ _ _ _ _ _ _ _ c.steps-test.true c.steps.invariant))

pub advance-requires-clause-turn : goal.advance-requires-clause-turn
advance-requires-clause-turn c = part_turn c.args.image.now c.args.tid c.args.most c.args.part.now c.run_plain.new.part c.args.self.now c.run_plain.new.self c.requires.turn (after_plain _ _ _ _ _ _ _ _ _ _ _ c.requires.turn c.steps-test.true c.steps.invariant c.requires.code c.run_plain.ensures) (let z = (few_plain _ _ _ _ _ _ _ _ _ _ _ c.requires.turn c.steps-test.true c.steps.invariant c.requires.code c.run_plain.ensures) in let y = c.if-part-most-2.false in omega arith)

pub steps-smaller-then-part : goal.steps-smaller-then-part
steps-smaller-then-part c = elim c.then-part.branch [
  | then-part-via-then-part w ↦ smaller_plain _ _ _ _ c.if-part-most.true ((few_plain _ _ _ _ _ _ _ _ _ _ _ c.requires.turn c.steps-test.true c.steps.invariant c.requires.code c.run_plain.ensures).2 w.if-part.true)
  | then-part-via-else-part+then-part-most-2 w ↦ smaller_plain _ _ _ _ c.if-part-most.true (let z = w.if-part-most-2.true in let y = c.if-part-most.true in omega arith)
]

pub steps-preserved-then-part : goal.steps-preserved-then-part
steps-preserved-then-part c = from_false _ _ _ _ _ _ _ _ c.steps-test.true (after_plain _ _ _ _ _ _ _ _ _ _ _ c.requires.turn c.steps-test.true c.steps.invariant c.requires.code c.run_plain.ensures)

pub steps-smaller : goal.steps-smaller
steps-smaller c = smaller_step _ _ _ _ _ c.steps-test.true (few_plain _ _ _ _ _ _ _ _ _ _ _ c.requires.turn c.steps-test.true c.steps.invariant c.requires.code c.run_plain.ensures).0 (part_steps c.args.image.now c.args.tid c.args.most c.args.part.now c.run_plain.new.part c.args.self.now c.run_plain.new.self c.requires.turn (after_plain _ _ _ _ _ _ _ _ _ _ _ c.requires.turn c.steps-test.true c.steps.invariant c.requires.code c.run_plain.ensures) c.in_ok-advance.field-0 c.advance.new.part c.advance.new.self c.if-not-branch.false (let z = (few_plain _ _ _ _ _ _ _ _ _ _ _ c.requires.turn c.steps-test.true c.steps.invariant c.requires.code c.run_plain.ensures) in let y = c.if-part-most-2.false in omega arith) c.in_ok-advance.ensures) (let z = (few_plain _ _ _ _ _ _ _ _ _ _ _ c.requires.turn c.steps-test.true c.steps.invariant c.requires.code c.run_plain.ensures) in let y = c.if-part-most-2.false in omega arith)

pub steps-preserved : goal.steps-preserved
steps-preserved c = from_false _ _ _ _ _ _ _ _ c.steps-test.true (part_more c.args.image.now c.args.tid c.args.most c.args.part.now c.run_plain.new.part c.args.self.now c.run_plain.new.self c.requires.turn (after_plain _ _ _ _ _ _ _ _ _ _ _ c.requires.turn c.steps-test.true c.steps.invariant c.requires.code c.run_plain.ensures) c.in_ok-advance.field-0 c.advance.new.part c.advance.new.self c.if-not-branch.false (let z = (few_plain _ _ _ _ _ _ _ _ _ _ _ c.requires.turn c.steps-test.true c.steps.invariant c.requires.code c.run_plain.ensures) in let y = c.if-part-most-2.false in omega arith) c.in_ok-advance.ensures)

pub steps-preserved-then-not-branch : goal.steps-preserved-then-not-branch
steps-preserved-then-not-branch c = part_stop c.args.image.now c.args.tid c.args.most c.args.part.now c.run_plain.new.part c.args.self.now c.run_plain.new.self c.requires.turn (after_plain _ _ _ _ _ _ _ _ _ _ _ c.requires.turn c.steps-test.true c.steps.invariant c.requires.code c.run_plain.ensures) c.in_ok-advance.field-0 c.advance.new.part c.advance.new.self c.if-not-branch.true (let z = (few_plain _ _ _ _ _ _ _ _ _ _ _ c.requires.turn c.steps-test.true c.steps.invariant c.requires.code c.run_plain.ensures) in let y = c.if-part-most-2.false in omega arith) c.if-part.false c.in_ok-advance.ensures

pub steps-smaller-then-not-branch : goal.steps-smaller-then-not-branch
steps-smaller-then-not-branch c = smaller_stop _ _ _ _ _ c.steps-test.true (few_plain _ _ _ _ _ _ _ _ _ _ _ c.requires.turn c.steps-test.true c.steps.invariant c.requires.code c.run_plain.ensures).0 (part_stop_steps c.args.image.now c.args.tid c.args.most c.args.part.now c.run_plain.new.part c.args.self.now c.run_plain.new.self c.requires.turn (after_plain _ _ _ _ _ _ _ _ _ _ _ c.requires.turn c.steps-test.true c.steps.invariant c.requires.code c.run_plain.ensures) c.in_ok-advance.field-0 c.advance.new.part c.advance.new.self c.if-not-branch.true (let z = (few_plain _ _ _ _ _ _ _ _ _ _ _ c.requires.turn c.steps-test.true c.steps.invariant c.requires.code c.run_plain.ensures) in let y = c.if-part-most-2.false in omega arith) c.in_ok-advance.ensures)

pub returns-else-part-most : goal.returns-else-part-most
returns-else-part-most c = part_ends _ _ _ _ _ _ _ _ c.requires.some c.steps.invariant (inr (inr (let z = c.if-part-most.false in omega arith)))

pub returns-else-not-part : goal.returns-else-not-part
returns-else-not-part c = part_ends _ _ _ _ _ _ _ _ c.requires.some c.steps.invariant (inr (inl c.if-not-part.false))

pub returns-after-steps : goal.returns-after-steps
returns-after-steps c = part_ends _ _ _ _ _ _ _ _ c.requires.some c.steps.invariant (inl c.steps-test.false)
