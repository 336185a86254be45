use Rattle.std.proofs.Common.{◌∙◌, ℕ, sym, ap}
use Rattle.entry_calls.specs.declared.call.Call.TheVariants.{Join}
use Rattle.place_turns.specs.Turns.{returns as returned}
use Rattle.hart_steps.specs.Harts.{local_of}
use Rattle.hart_steps.proofs.hart.Hart.join.Goals as goal

pub returns : goal.returns
returns c d =
    ap (λ (n : ℕ). returned (local_of c.args.self.now) c.args.self.now.thread (Join c.args.of) n d) (sym c.join_answer.ensures.value) ∙ c.answer.ensures d
