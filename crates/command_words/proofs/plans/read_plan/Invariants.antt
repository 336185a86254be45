use Rattle.std.proofs.Common.{map}
use Rattle.command_words.proofs.PlanLaws.{ReadsTo}
use Rattle.command_words.proofs.plans.read_plan.Given as goal

abbrev pub invariant-loop-piece : goal.invariant-loop-piece
invariant-loop-piece l = ReadsTo (map (λ piece. piece.now) l.piece-items) l.piece-index l.turns
