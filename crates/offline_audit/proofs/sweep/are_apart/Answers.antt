use Rattle.std.proofs.Common.{◌<◌, length, get_or, arith}
use Rattle.std.proofs.lemmas.List.Elements.{Contains-get_or}
use Rattle.run_laws.specs.HappensBefore.{Then}
use Rattle.offline_audit.specs.declared.order.EventName.{EventName}
use Rattle.offline_audit.specs.Chains.{ComesBefore}
use Rattle.offline_audit.proofs.PassageLaw.{pass_other, pass_one}
use Rattle.offline_audit.proofs.sweep.are_apart.Goals as goal

abbrev none : EventName
none = record { entry = 0; event = 0 }

pub passage-preserved-then-precedes : goal.passage-preserved-then-precedes
passage-preserved-then-precedes c =
    let xs = c.args.xs.now in
    let ys = c.args.ys.now in
    let i = c.passage.i in
    let j = c.passage.j in
    let l : i < length xs = c.passage-test.true in
    let m : j < length ys = c.if-j-ys.true in (
      c.passage.invariant.0,
      omega arith,
      λ h entries order p q.
          pass_other (ComesBefore h entries) (λ x y z r s. Then r s) xs ys i j none none l m (c.passage.invariant.2 h entries order p q) p.follow
          ((c.precedes.ensures h entries order (q.events j none m) (p.events i none l)).0 c.if-precedes.true),
    )

pub passage-preserved : goal.passage-preserved
passage-preserved c =
    let xs = c.args.xs.now in
    let ys = c.args.ys.now in
    let i = c.passage.i in
    let j = c.passage.j in
    let l : i < length xs = c.passage-test.true in
    let m : j < length ys = c.if-j-ys.true in (
      omega arith,
      c.passage.invariant.1,
      λ h entries order p q.
          pass_one (ComesBefore h entries) (λ x y z r s. Then r s) xs ys i j none none l m (c.passage.invariant.2 h entries order p q) q.follow
          ((c.precedes-else-precedes.ensures h entries order (p.events i none l) (q.events j none m)).0 c.if-precedes-2.true),
    )

pub returns-else-precedes-2-clause-apart : goal.returns-else-precedes-2-clause-apart
returns-else-precedes-2-clause-apart c =
    let xs = c.args.xs.now in
    let ys = c.args.ys.now in
    let i = c.passage.i in
    let j = c.passage.j in
    let l : i < length xs = c.passage-test.true in
    let m : j < length ys = c.if-j-ys.true in
    λ h entries order p q. record {
      x = get_or xs i none;
      y = get_or ys j none;
      x_in = Contains-get_or xs i none l;
      y_in = Contains-get_or ys j none m;
      not_before = λ r.
          let t = (c.precedes-else-precedes.ensures h entries order (p.events i none l) (q.events j none m)).1 r in
          let f = c.if-precedes-2.false in
          cc;
      not_after = λ r.
          let t = (c.precedes.ensures h entries order (q.events j none m) (p.events i none l)).1 r in
          let f = c.if-precedes.false in
          cc;
    }
