use Rattle.std.proofs.Common.{sym, ◌∙◌}
use Rattle.thread_events.proofs.Notes.{slotless, nothing_stands, attached_stands, left_stands}
use Rattle.thread_events.proofs.note_law.Goals as goal

pub returns-clause-nothing : goal.returns-clause-nothing
returns-clause-nothing c limits keeper leaving h m x t s made = nothing_stands limits keeper leaving h m x t s made

pub returns-clause-attach : goal.returns-clause-attach
returns-clause-attach c limits keeper leaving h m x t label s made present a = attached_stands limits keeper leaving h m x t s label made a present

pub returns-clause-leave : goal.returns-clause-leave
returns-clause-leave c limits keeper leaving h m x t label s made present lost holds = left_stands limits keeper leaving h m x t s label made holds (slotless limits.epochs h t (sym ((s.watchers t).label present) ∙ lost))
