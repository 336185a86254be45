use Rattle.std.proofs.Common.{◌<◌, ◌+◌, length, arith}
use Rattle.offline_audit.proofs.FirstLaw.{merged-swap, first-swap, all_merged, none_merged}
use Rattle.offline_audit.proofs.earliest.first_apart.Goals as goal

pub returns-in-Some : goal.returns-in-Some
returns-in-Some c = λ h entries order chain other apart.
    c.in-Some.ensures h entries order chain other (c.passage.invariant.2 h entries order chain other apart) (c.if-is_next.ensures.yes.1 h entries chain other)

pub passage-preserved-in-None : goal.passage-preserved-in-None
passage-preserved-in-None c =
    let l = c.if-is_next.ensures.yes.0 in (
      omega arith,
      c.passage.invariant.1,
      λ h entries order chain other apart.
          c.in-None.ensures h entries order chain other (c.passage.invariant.2 h entries order chain other apart) (c.if-is_next.ensures.yes.1 h entries chain other),
    )

pub returns-in-Some-apart_at : goal.returns-in-Some-apart_at
returns-in-Some-apart_at c = λ h entries order chain other apart.
    let xs = c.args.xs.now in
    let ys = c.args.ys.now in
    let merged = merged-swap h entries xs ys c.passage.i c.passage.j (c.passage.invariant.2 h entries order chain other apart) in
    first-swap h entries xs ys c.in-Some-apart_at.apart
    (c.in-Some-apart_at.ensures h entries order other chain merged (c.if-is_next.ensures.no.1 h entries chain other apart))

pub passage-preserved : goal.passage-preserved
passage-preserved c =
    let l = c.if-is_next.ensures.no.0 in (
      c.passage.invariant.0,
      omega arith,
      λ h entries order chain other apart.
          let xs = c.args.xs.now in
          let ys = c.args.ys.now in
          let merged = merged-swap h entries xs ys c.passage.i c.passage.j (c.passage.invariant.2 h entries order chain other apart) in
          merged-swap h entries ys xs (c.passage.j + 1) c.passage.i
          (c.in-None-apart_at.ensures h entries order other chain merged (c.if-is_next.ensures.no.1 h entries chain other apart)),
    )

pub returns : goal.returns
returns c = λ h entries order chain other apart.
    all_merged h entries c.args.xs.now c.args.ys.now c.passage.i c.passage.j (let f = c.if-i-xs.false in omega arith) (let f = c.if-j-ys.false in omega arith)
    (c.passage.invariant.2 h entries order chain other apart)
