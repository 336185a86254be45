use Rattle.std.proofs.Common.{◌≡◌, Some, None, sym, subst, slice_get}
use Rattle.std.specs.Result.{OnOk}
use Rattle.bare_machine.specs.declared.thread.Thread.{Thread}
use Rattle.bare_machine.specs.declared.request.Request.{Request}
use Rattle.bare_machine.specs.Asked.{asked, IsShallow}
use Rattle.bare_machine.specs.Requests.{object_of}
use Rattle.bare_machine.specs.Step.{serve}
use Rattle.bare_machine.proofs.machine.Machine.serve.Goals as goal

pub return_call-requires-clause-shallow : goal.return_call-requires-clause-shallow
return_call-requires-clause-shallow c t is = subst (λ (r : Request). IsShallow r t.depth) c.in-Return.is (c.requires.shallow t is)

pub returns-in-Done-clause-ok : goal.returns-in-Done-clause-ok
returns-in-Done-clause-ok c t is =
    subst (λ (r : Request). serve c.args.self.now c.args.tid t (asked t.regs r) ≡ record { world = c.done.new.self; events = c.done.new.events; object = object_of (asked t.regs r) }) (sym c.in-Done.is) (c.done.ensures.step None t is)

pub returns-in-Create-clause-ok : goal.returns-in-Create-clause-ok
returns-in-Create-clause-ok c =
    subst (λ (r : Request). OnOk c.create.result ((t : Thread) → slice_get c.args.self.now.threads c.args.tid ≡ Some t → serve c.args.self.now c.args.tid t (asked t.regs r) ≡ record { world = c.create.new.self; events = c.create.new.events; object = object_of (asked t.regs r) }))
    (sym c.in-Create.is) c.create.ensures.ok
