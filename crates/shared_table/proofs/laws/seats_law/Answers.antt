use Rattle.std.proofs.Common.{None}
use Rattle.shared_table.specs.Past.{logs_of}
use Rattle.shared_table.proofs.Pasts.{some_below}
use Rattle.shared_table.proofs.PastLaws.{splits_are, joins_are}
use Rattle.shared_table.proofs.laws.seats_law.Goals as goal

pub returns-clause-out : goal.returns-clause-out
returns-clause-out c lay s r j v at live = (r.seats j v at live).out

pub returns-clause-present : goal.returns-clause-present
returns-clause-present c lay s r n out = r.present n out

pub returns-clause-apart : goal.returns-clause-apart
returns-clause-apart c lay s i j v w r at there live alive same = r.apart i j v w at there live alive same

pub returns-clause-logs : goal.returns-clause-logs
returns-clause-logs c lay s r j v at live = (r.seats j v at live).log

pub returns-clause-opening : goal.returns-clause-opening
returns-clause-opening c lay s r j v at live first = (r.seats j v at live).logs first

pub returns-clause-below : goal.returns-clause-below
returns-clause-below c past n out = some_below (logs_of past) n None out

pub returns-clause-splits : goal.returns-clause-splits
returns-clause-splits c lay past h = splits_are lay past h

pub returns-clause-joined : goal.returns-clause-joined
returns-clause-joined c lay past m l h here = (joins_are lay past m h).once l here

pub returns-clause-not_joined : goal.returns-clause-not_joined
returns-clause-not_joined c lay past m h none = (joins_are lay past m h).never none
