use Rattle.std.proofs.Common.{◌≡◌, ◌∙◌, Bool, List, Option, sym, ap}
use Rattle.entry_calls.specs.declared.call.Call.TheVariants.{Join}
use Rattle.bare_machine.proofs.StepLemmas.{on_ok}
use Rattle.bare_machine.specs.declared.request.Request.TheVariants as kinds
use Rattle.place_turns.specs.Turns.{returns, join_answer, put_turn}
use Rattle.hart_steps.specs.Harts.{local_of, leaves}
use Rattle.hart_steps.specs.Desks.{desk_with, desk_value}
use Rattle.hart_steps.proofs.DeskLemmas.{Serves, serves}
use Rattle.hart_steps.proofs.hart.Hart.serve_at_desk.Goals as goal

pub returns-in-Put-clause-ok : goal.returns-in-Put-clause-ok
returns-in-Put-clause-ok c =
    on_ok c.put.result
    ((lives : List Bool) → put_turn (local_of c.args.self.now) (desk_with c.args.desk.now lives) c.args.self.now.thread c.in-Put.value c.in-Put.count ≡ leaves c.put.new.self (desk_value c.put.new.desk lives) c.put.new.events)
    (Serves c.args.tid c.args.harts c.args.self.now c.args.desk.now c.args.living c.args.joined c.put.new.self c.put.new.desk c.put.new.events c.args.request.now)
    (λ made. serves c.args.tid c.args.harts c.args.self.now c.args.desk.now c.args.living c.args.joined c.put.new.self c.put.new.desk c.put.new.events c.args.request.now
    (kinds.Put c.in-Put.value c.in-Put.count) c.in-Put.is (λ lives told. made lives))
    c.put.ensures.ok

pub returns-in-Join-clause-ok : goal.returns-in-Join-clause-ok
returns-in-Join-clause-ok c =
    serves c.args.tid c.args.harts c.args.self.now c.args.desk.now c.args.living c.args.joined c.join.new.self c.args.desk.now c.join.new.events c.args.request.now
    (kinds.Join c.in-Join.of) c.in-Join.is
    (λ lives told.
    ap (λ (o : Option Bool). returns (local_of c.args.self.now) c.args.self.now.thread (Join c.in-Join.of) (join_answer o) (desk_with c.args.desk.now lives)) (sym told.joined_is)
    ∙ c.join.ensures (desk_with c.args.desk.now lives))
