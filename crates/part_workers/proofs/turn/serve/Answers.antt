use Rattle.std.proofs.Common.{◌≤◌, arith}
use Rattle.bare_machine.specs.Step.{desk}
use Rattle.part_workers.specs.Makes.{Alone, AtObject}
use Rattle.part_workers.proofs.AtDesk.{ok_map}
use Rattle.part_workers.proofs.turn.serve.Goals as goal

pub returns-in-Nowhere-clause-served : goal.returns-in-Nowhere-clause-served
returns-in-Nowhere-clause-served g c = Alone c.in_ok-make_gathered-in-Nowhere.ensures.made

pub returns-in-Desk-clause-served : goal.returns-in-Desk-clause-served
returns-in-Desk-clause-served g c =
    ok_map _ _ c.make_in_desk.result (λ spent x. AtObject desk spent (let l : 64 ≤ 64 = omega arith in l) x) c.make_in_desk.ensures.made

pub returns-clause-served : goal.returns-clause-served
returns-clause-served g c =
    ok_map _ _ c.make_in_stripe.result (λ spent x. AtObject c.in-Stripe.number spent c.if-number-gt-DESK.false x) c.make_in_stripe.ensures.made
