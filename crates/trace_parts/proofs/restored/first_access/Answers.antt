use Rattle.std.proofs.Common.{◌<◌, sym, ◌∙◌, arith}
use Rattle.std.proofs.lemmas.Nat.{one_shl}
use Rattle.trace_parts.proofs.ReadBack.{short-by_kind, long-by_kind}
use Rattle.trace_parts.proofs.restored.first_access.Goals as goal

pub returns-then-bits-eq2-clause-fields : goal.returns-then-bits-eq2-clause-fields
returns-then-bits-eq2-clause-fields c =
    λ e h. rw (c.bits-then-bits-eq2.ensures.value, c.bits-read.ensures.value, c.bits-atomic.ensures.value) (long-by_kind c.args.previous c.args.words.now e (sym c.bits.ensures.value ∙ c.if-bits-eq2.true) h)

pub returns-clause-fields : goal.returns-clause-fields
returns-clause-fields c =
    λ e h.
    let small : c.bits-2.result < 32 = omega (arith, c.bits-2.ensures.small) in
    rw (one_shl c.bits-2.result 32 small, c.bits-2.ensures.value, c.short_place.ensures, c.bits-read.ensures.value, c.bits-atomic.ensures.value)
    (short-by_kind c.args.previous c.args.words.now e c.requires.kind (λ two. c.if-bits-eq2.false (c.bits.ensures.value ∙ two)) h)
