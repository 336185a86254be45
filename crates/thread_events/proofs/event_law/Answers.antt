use Rattle.thread_events.proofs.All.{event_stands, put_stands}
use Rattle.thread_events.proofs.event_law.Goals as goal

pub returns-clause-put : goal.returns-clause-put
returns-clause-put c limits keeper leaving h m x t value count s made = put_stands limits keeper leaving h m x t value count s made

pub returns-clause-event : goal.returns-clause-event
returns-clause-event c limits keeper leaving h m x k t given e set s going made is at granted changed = event_stands limits keeper leaving h m x k t given set s going e made is at granted changed
