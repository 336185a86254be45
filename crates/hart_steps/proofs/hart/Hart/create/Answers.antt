use Rattle.std.proofs.Common.{◌≡◌, ◌∙◌, ℕ, Bool, true, List, [], ◌∷◌, ◌++◌, cond, sym, ap, subst}
use Rattle.entry_calls.specs.declared.call.Call.TheVariants.{Create}
use Rattle.bare_machine.specs.declared.thread.Thread.{Thread}
use Rattle.bare_machine.specs.World.{new_thread}
use Rattle.place_turns.specs.Places.{Desk}
use Rattle.place_turns.specs.Turns.{returns, create_turn}
use Rattle.hart_steps.specs.Harts.{local_of, leaves}
use Rattle.hart_steps.specs.Desks.{desk_with, desk_value}
use Rattle.hart_steps.proofs.hart.Hart.create.Goals as goal

pub returns-then-full-clause-ok : goal.returns-then-full-clause-ok
returns-then-full-clause-ok c lives =
    let d = c.args.desk.now in
    subst (λ (full : Bool). create_turn (local_of c.args.self.now) (desk_with d lives) c.args.self.now.thread c.args.pc c.args.argument c.args.stack full ≡ leaves c.answer.new.self (desk_value d (cond full lives (lives ++ true ∷ []))) c.answer.new.events)
    (sym c.if-full.true)
    (ap (λ (n : ℕ). returns (local_of c.args.self.now) c.args.self.now.thread (Create c.args.pc c.args.argument c.args.stack) n (desk_with d lives)) (sym c.minus.ensures) ∙ c.answer.ensures (desk_with d lives))

pub returns-clause-ok : goal.returns-clause-ok
returns-clause-ok c lives =
    let d = c.args.desk.now in
    let after : Desk = record { made = c.push.new.self; lives = lives ++ true ∷ []; output = d.output; ended = d.ended } in
    subst (λ (full : Bool). create_turn (local_of c.args.self.now) (desk_with d lives) c.args.self.now.thread c.args.pc c.args.argument c.args.stack full ≡ leaves c.answer-2.new.self (desk_value (record { made = c.push.new.self; output = d.output; ended = d.ended }) (cond full lives (lives ++ true ∷ []))) c.answer-2.new.events)
    (sym c.if-full.false)
    (ap (λ (n : ℕ). returns (local_of c.args.self.now) c.args.self.now.thread (Create c.args.pc c.args.argument c.args.stack) n (record { made = d.made ++ (new_thread c.args.pc c.args.argument c.args.stack) ∷ []; lives = lives ++ true ∷ []; output = d.output; ended = d.ended })) (sym c.len-number.ensures)
    ∙ (ap (λ (made : List Thread). returns (local_of c.args.self.now) c.args.self.now.thread (Create c.args.pc c.args.argument c.args.stack) c.len-number.result (record { made = made; lives = lives ++ true ∷ []; output = d.output; ended = d.ended }))
    (ap (λ (x : Thread). d.made ++ x ∷ []) (sym c.new_thread.ensures) ∙ sym c.in_ok-push.ensures.ok)
    ∙ c.answer-2.ensures after))
