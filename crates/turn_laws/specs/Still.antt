-- Moments that change nothing that stands.
use Rattle.std.specs.Prelude.{◌≡◌, Bool, true, false, [], All}
use Rattle.run_record.specs.declared.event.Event.{Event}
use Rattle.run_record.specs.declared.event.Event.TheVariants.{Put}
use Rattle.run_record.specs.declared.entry.DeskNote.TheVariants.{Nothing, Attach, Leave}
use Rattle.run_laws.specs.Moments.{Item, Does, Notes, NewEra, Past, Moment}
use Rattle.turn_laws.specs.Turns.{Turn}

-- the event puts bytes on the output
abbrev pub is_put : Event → Bool
is_put (Put value count) = true
is_put _ = false

-- an entry begins that takes no label, or bytes are put on the output
abbrev pub is_still : Item → Bool
is_still (Does t e) = is_put e
is_still (Notes t Nothing) = true
is_still (Notes t (Attach l)) = false
is_still (Notes t (Leave l)) = true
is_still NewEra = false
is_still Past = true

-- nothing that stands changes at the moment
pub record IsStill (m : Moment) : Type 0 where
  pub item : is_still m.item ≡ true
  pub checks : m.checks ≡ []

-- the turn's instructions so far only put bytes on the output, so that they need no label
pub record OnlyPuts (turn : Turn) : Type 0 where
  pub events : All (λ (e : Event). is_put e ≡ true) turn.events
  pub checks : turn.checks ≡ []
