-- For callers: from a take to its give.
use Rattle.std.proofs.Common.{◌≡◌, ℕ, refl, ap, ◌∙◌}
use Rattle.shared_table.specs.declared.object.Object.{Object}
use Rattle.shared_table.specs.declared.view.Item.{Item}
use Rattle.shared_table.specs.Steps.{Mine, logged, holding}
use Rattle.shared_table.specs.Seats.{IsFree, Holds, Took, Gave}

pub took_holds : (k : ℕ) (me : Mine) (y : Object) (me' : Mine) → Took k me y me' → Holds me' k
took_holds k me y me' t = (holding k t.done y, ap (λ (m : Mine). m.0.held) t.log, refl, ap (λ (m : Mine). m.1) t.log)

-- a load or a store keeps what is held
pub still_holds : (k : ℕ) (m m' : Mine) (x : Item) → m' ≡ (logged m.0 x m.0.held, m.1) → Holds m k → Holds m' k
still_holds k m m' x e h = (h.0, ap (λ (z : Mine). z.0.held) e ∙ h.1, h.2, ap (λ (z : Mine). z.1) e ∙ h.3)

pub gave_up : (k : ℕ) (m m' : Mine) (y : Object) → Holds m k → Gave m y m' → IsFree m' × (m'.0.number ≡ m.0.number)
gave_up k m m' y h g = let e = g h.0 h.1 in ((ap (λ (z : Mine). z.0.held) e, ap (λ (z : Mine). z.1) e), ap (λ (z : Mine). z.0.number) e)

-- after the give the seat holds nothing
pub gave_free : (k : ℕ) (me : Mine) (y z : Object) (m1 m2 : Mine) → Took k me y m1 → Gave m1 z m2 → IsFree m2 × (m2.0.number ≡ me.0.number)
gave_free k me y z m1 m2 t g =
    let e = g (holding k t.done y) (ap (λ (m : Mine). m.0.held) t.log) in
    ((ap (λ (m : Mine). m.0.held) e, ap (λ (m : Mine). m.1) e), ap (λ (m : Mine). m.0.number) e ∙ ap (λ (m : Mine). m.0.number) t.log)
