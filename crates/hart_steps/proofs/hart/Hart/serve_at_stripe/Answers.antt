use Rattle.std.proofs.Common.{◌≡◌}
use Rattle.bare_machine.proofs.StepLemmas.{on_ok}
use Rattle.hart_steps.specs.Stripes.{Left, touches}
use Rattle.hart_steps.proofs.StripeLemmas.{Serves, touch_serves, operate_serves}
use Rattle.hart_steps.proofs.hart.Hart.serve_at_stripe.Goals as goal

pub returns-in-Touch-clause-ok : goal.returns-in-Touch-clause-ok
returns-in-Touch-clause-ok c =
    let left : Left = record { hart = c.touch.new.self; words = c.touch.new.words; reservations = c.touch.new.reserved; events = c.touch.new.events } in
    on_ok c.touch.result
    (touches c.args.tid c.args.self.now c.args.words.now c.args.reserved.now c.args.index c.in-Touch.request ≡ left)
    (Serves c.args.tid c.args.self.now c.args.words.now c.args.reserved.now c.args.index left c.args.request.now)
    (λ made. touch_serves c.args.tid c.args.self.now c.args.words.now c.args.reserved.now c.args.index left c.args.request.now c.in-Touch.request c.in-Touch.is made)
    c.touch.ensures.ok

pub returns-in-Operate-clause-ok : goal.returns-in-Operate-clause-ok
returns-in-Operate-clause-ok c =
    operate_serves c.args.tid c.args.self.now c.args.words.now c.args.reserved.now c.args.index
    (record { hart = c.operate.new.self; words = c.operate.new.words; reservations = c.operate.new.reserved; events = c.operate.new.events })
    c.args.request.now c.in-Operate.request c.in-Operate.is c.operate.ensures.value
