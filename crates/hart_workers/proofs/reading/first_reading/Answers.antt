use Rattle.std.proofs.Common.{◌≡◌, ◌++◌, ◌∷◌, [], min, ℕ, List, refl, ap, ◌∙◌, arith}
use Rattle.hart_workers.proofs.Readings.{div_one, first_read}
use Rattle.hart_workers.proofs.reading.first_reading.Goals as goal

pub returns : goal.returns
returns c = λ d new runs one.
    let live : c.push.new.self.items ≡ 0 ∷ [] = c.in_ok-push.ensures.items ∙ ap (λ (ts : List ℕ). ts ++ 0 ∷ []) c.new-live.ensures.items in
    let given = c.share_of.ensures (omega arith) ∙ ap (min c.args.limits.now.quantum) (div_one c.args.limits.now.steps) in
    first_read c.args.limits.now d _ c.requires.some_quantum c.requires.some_steps new runs one live refl given refl
