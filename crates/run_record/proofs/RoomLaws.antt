-- How much room is left.
use Rattle.std.proofs.Common.{ℕ, ◌+◌, arith}
use Rattle.run_record.specs.declared.flat.Flat.{Flat}
use Rattle.run_record.specs.Flat.{HasRoom, KeepsRoom}

-- an entry without events and checks takes room for one entry
pub room_after_note : (f g : Flat) → KeepsRoom f g 0 0 → (n es cs : ℕ) → HasRoom f (n + 1) es cs → HasRoom g n es cs
room_after_note f g keeps n es cs r = keeps n es cs
    (record { rows = r.rows; notes = r.notes; events = omega (arith, r.events); checks = omega (arith, r.checks); words = omega (arith, r.words) })

-- where there is room for two entries, there is for one
pub room_for_one : (f : Flat) (es cs : ℕ) → HasRoom f 2 es cs → HasRoom f 1 es cs
room_for_one f es cs r = record { rows = omega (arith, r.rows); notes = omega (arith, r.notes); events = r.events; checks = r.checks; words = r.words }

-- of room for two entries one takes its own, and leaves it for one without events and checks
pub room_after_entry : (f g : Flat) (es cs : ℕ) → KeepsRoom f g es cs → HasRoom f 2 es cs → HasRoom g 1 0 0
room_after_entry f g es cs keeps r = keeps 1 0 0
    (record { rows = r.rows; notes = r.notes; events = omega (arith, r.events); checks = omega (arith, r.checks); words = omega (arith, r.words) })
