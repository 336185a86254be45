use Rattle.std.proofs.Common.{None, Some, refl}
use Rattle.std.specs.Prelude.{slice_index_or}
use Rattle.offline_audit.proofs.FirstLaw.{none, chain_take, merged_or}
use Rattle.offline_audit.proofs.earliest.apart_at.Goals as goal

pub returns-in-Some : goal.returns-in-Some
returns-in-Some c = λ h entries order chain other merged next.
    let xs = c.args.xs.now in
    let ys = c.args.ys.now in
    let i = c.args.i in
    let j = c.args.j in
    merged_or h entries xs ys i j c.requires.within c.requires.passed chain other merged next (slice_index_or xs i none) refl (Some c.in-Some.earlier)
    (c.in-Some.ensures h entries order (chain_take h entries j ys c.requires.passed other) (chain.events i none c.requires.within))

pub returns-in-None : goal.returns-in-None
returns-in-None c = λ h entries order chain other merged next.
    let xs = c.args.xs.now in
    let ys = c.args.ys.now in
    let i = c.args.i in
    let j = c.args.j in
    merged_or h entries xs ys i j c.requires.within c.requires.passed chain other merged next (slice_index_or xs i none) refl None
    (c.in-None.ensures h entries order (chain_take h entries j ys c.requires.passed other) (chain.events i none c.requires.within))
