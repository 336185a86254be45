use Rattle.std.proofs.Common.{Bool, not, sym, ap, ◌∙◌}
use Rattle.std.proofs.lemmas.Bool.{eq-eqb}
use Rattle.trace_parts.specs.Sought.{access}
use Rattle.trace_parts.proofs.SoughtLaws.{left_some, left_none}
use Rattle.trace_parts.proofs.restored.Sought.is_left_by.Goals as goal

pub returns-then-mask-ne0 : goal.returns-then-mask-ne0
returns-then-mask-ne0 c =
    λ place.
    let s = c.args.self.now in
    let a = c.args.announced.now in
    left_some s.label s.granule_address s.word c.mask_at-mask.result c.args.under (access place a.addr a.size a.read a.atomic) c.has_word.result (c.mask_at-mask.ensures.value place a.read a.atomic) c.if-not-under.false c.if-mask-ne0.true c.has_word.ensures

pub returns-else-mask-ne0 : goal.returns-else-mask-ne0
returns-else-mask-ne0 c =
    λ place.
    let s = c.args.self.now in
    let a = c.args.announced.now in
    ap (λ (b : Bool). not b) (eq-eqb c.mask_at-mask.result 0 c.if-mask-ne0.false)
    ∙ left_none s.label s.granule_address s.word c.mask_at-mask.result c.args.under (access place a.addr a.size a.read a.atomic) (c.mask_at-mask.ensures.value place a.read a.atomic) c.if-not-under.false c.if-mask-ne0.false
