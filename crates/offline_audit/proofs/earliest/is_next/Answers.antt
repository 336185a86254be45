use Rattle.std.proofs.Common.{◌<◌, ◌≡◌, length, arith}
use Rattle.std.proofs.lemmas.Bool.{OnTrue_from, OnFalse_from}
use Rattle.offline_audit.proofs.FirstLaw.{none, next_from, turned_less}
use Rattle.offline_audit.proofs.earliest.is_next.Goals as goal

pub returns-clause-yes : goal.returns-clause-yes
returns-clause-yes c =
    let xs = c.args.xs.now in
    let ys = c.args.ys.now in
    let i = c.args.i in
    let j = c.args.j in
    let l : i < length xs = let f = c.if-i-xs.false in omega arith in
    let m : j < length ys = let f = c.if-j-ys.false in omega arith in
    OnTrue_from c.is_earlier.result _ (λ t. (
      l,
      λ h entries cx cy. next_from h entries xs ys i j none none cy l m ((c.is_earlier.ensures h entries (cx.events i none l) (cy.events j none m)).0 t),
    ))

pub returns-clause-no : goal.returns-clause-no
returns-clause-no c =
    let xs = c.args.xs.now in
    let ys = c.args.ys.now in
    let i = c.args.i in
    let j = c.args.j in
    let l : i < length xs = let f = c.if-i-xs.false in omega arith in
    let m : j < length ys = let f = c.if-j-ys.false in omega arith in
    OnFalse_from c.is_earlier.result _ (λ f. (
      m,
      λ h entries cx cy apart. next_from h entries ys xs j i none none cx m l
          (turned_less entries xs ys i j apart l m (λ b. let t = (c.is_earlier.ensures h entries (cx.events i none l) (cy.events j none m)).1 b in cc)),
    ))
