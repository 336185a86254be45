use Rattle.std.proofs.Common.{◌≡◌, ◌∙◌, ℕ, List, ◌++◌, take, rules, ap}
use Rattle.std.specs.Int.{w64, to_le_bytes}
use Rattle.entry_calls.specs.declared.call.Call.TheVariants.{Put}
use Rattle.place_turns.specs.Places.{Desk}
use Rattle.place_turns.specs.Turns.{returns}
use Rattle.hart_steps.specs.Harts.{local_of}
use Rattle.hart_steps.proofs.hart.Hart.put.Goals as goal

pub returns-clause-ok : goal.returns-clause-ok
returns-clause-ok c lives =
    let d = c.args.desk.now in
    let out : d.output ++ take c.args.count (to_le_bytes w64 c.args.value) ≡ c.extend_from_slice.new.self = search rules in
    let with : List ℕ → Desk = λ o. record { made = d.made; lives = lives; output = o; ended = d.ended } in
    ap (λ (o : List ℕ). returns (local_of c.args.self.now) c.args.self.now.thread (Put c.args.value c.args.count) 0 (record { made = d.made; lives = lives; output = o; ended = d.ended })) out ∙ c.answer.ensures (with c.extend_from_slice.new.self)
