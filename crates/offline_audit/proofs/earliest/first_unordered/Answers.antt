use Rattle.offline_audit.proofs.FirstLaw.{all_before, last_event}
use Rattle.offline_audit.proofs.earliest.first_unordered.Goals as goal

pub returns-then-precedes : goal.returns-then-precedes
returns-then-precedes c = λ h entries order chain event k d l.
    let names = c.args.names.now in
    let last = c.in-Some.last.now in
    let is = c.in-Some.ensures.value in
    all_before h entries names last c.args.name is chain
    ((c.precedes.ensures h entries order (last_event h entries names last is chain) event).0 c.if-precedes.true) k d l
