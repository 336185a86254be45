use Rattle.placed_detector.proofs.Slots.{begins_stands, taken_slot_stands, left_slot_stands}
use Rattle.placed_detector.proofs.note_law.Goals as goal

pub returns-clause-nothing : goal.returns-clause-nothing
returns-clause-nothing c file limits cs m w h mom t k ok s is none = begins_stands file limits ok cs m w h s t mom none k is

pub returns-clause-attach : goal.returns-clause-attach
returns-clause-attach c file limits cs m w h mom t label hand held ok s is none takes = taken_slot_stands file limits ok cs m w h s t mom none label is hand held takes

pub returns-clause-leave : goal.returns-clause-leave
returns-clause-leave c file limits cs m w h mom t label held ok s is none leaves = left_slot_stands file limits ok cs m w h s t mom none label is held leaves
