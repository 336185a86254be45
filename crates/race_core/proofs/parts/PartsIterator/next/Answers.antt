use Rattle.std.proofs.Common.{ℕ, ◌+◌, ◌-◌, List, ◌∷◌, length, sym, ap, ◌∙◌, arith}
use Rattle.std.specs.Prelude.{false}
use Rattle.elf_image.specs.File.{granule_of}
use Rattle.race_core.specs.Walk.{access}
use Rattle.race_core.proofs.WalkLaws.{parts_from, past_no_bytes, past_no_granule, first_part}
use Rattle.race_core.proofs.parts.PartsIterator.next.Goals as goal

pub returns-in-Some-clause-steps : goal.returns-in-Some-clause-steps
returns-in-Some-clause-steps c =
    let p = c.loop-self.self in
    let e = c.mask_in-mask.ensures 0 false false in
    sym c.loop-self.invariant
    ∙ first_part (granule_of p.image.now) (access 0 p.addr p.size false false) p.next p.end c.in-Some.granule c.loop-self-test.true (λ z. c.if-mask-ne0.true (e ∙ z)) (sym c.granule_of.ensures ∙ c.in-Some.is)
    ∙ ap (λ (mask : ℕ). (c.in-Some.granule, mask) ∷ parts_from (granule_of p.image.now) (access 0 p.addr p.size false false) (p.next + 1) (p.end - (p.next + 1))) (sym e)

pub returns-in-Some-clause-goes : goal.returns-in-Some-clause-goes
returns-in-Some-clause-goes c =
    let e = returns-in-Some-clause-steps c in
    let n = ap (λ (xs : List (ℕ × ℕ)). length xs) e in
    record { on = λ _. (tt, tt, omega (arith, n)); keeps = tt; rests = λ _. tt }

pub loop-self-preserved-in_default : goal.loop-self-preserved-in_default
loop-self-preserved-in_default c =
    let p = c.loop-self.self in
    sym (past_no_granule (granule_of p.image.now) (access 0 p.addr p.size false false) p.next p.end c.loop-self-test.true (sym c.granule_of.ensures ∙ c.in_default.is)) ∙ c.loop-self.invariant

pub loop-self-preserved : goal.loop-self-preserved
loop-self-preserved c =
    let p = c.loop-self.self in
    sym (past_no_bytes (granule_of p.image.now) (access 0 p.addr p.size false false) p.next p.end c.loop-self-test.true (sym (c.mask_in-mask.ensures 0 false false) ∙ c.if-mask-ne0.false)) ∙ c.loop-self.invariant
