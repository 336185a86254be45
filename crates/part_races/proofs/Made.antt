-- A history that goes on by a deed collects what the deed awaits.
use Rattle.std.proofs.Common.{◌≡◌, ◌≤◌, ◌+◌, ◌-◌, ℕ, List, [], ◌++◌, length, length-append, sym, subst, arith}
use Rattle.std.specs.Prelude.{Ok}
use Rattle.std.proofs.Math.Seq.{get_or-append_right}
use Rattle.std.proofs.lemmas.Slice.Zip.{AllZip-long}
use Rattle.run_record.specs.declared.entry.Entry.{Entry}
use Rattle.run_record.specs.declared.limits.Limits.{Limits}
use Rattle.elf_image.specs.File.{image_of}
use Rattle.run_laws.specs.Moments.{Past, Moment, moment_at, entry_moments}
use Rattle.report_laws.specs.Awaited.{Awaited, Collects}
use Rattle.report_laws.proofs.CollectedLaw.{collects_stay}
use Rattle.bare_machine.specs.World.{World}
use Rattle.turn_orders.specs.Machine.{State, many}
use Rattle.joint_turns.specs.Joint.{Value}
use Rattle.watched_turns.specs.Turns.{Local, Act, watched_turn}
use Rattle.watched_turns.specs.Along.{all_of}
use Rattle.turn_histories.specs.Entries.{IsTold}
use Rattle.race_core.specs.History.{era_now}
use Rattle.placed_detector.specs.Standing.{Hand, Held, Standing}
use Rattle.deed_histories.specs.Deeds.{IsDeed}
use Rattle.deed_histories.proofs.Entries.{followed}
use Rattle.part_races.specs.Awaits.{AwaitsIn}
use Rattle.part_races.proofs.Deeds.{stand_behind, deed_told, told_right}
use Rattle.part_races.proofs.Collecting.{IsQuiet, quiet_at, quiet_entry, collects_told}

-- the moments of an entry behind a history
quiet_behind : (h : List Moment) (e : Entry) (i : ℕ) → length h ≤ i → IsQuiet (moment_at (h ++ entry_moments 0 e) i)
quiet_behind h e i l = subst IsQuiet (sym (get_or-append_right h (entry_moments 0 e) i (record { entry = 0; round = 0; item = Past; checks = [] }) l))
    (quiet_at (entry_moments 0 e) (quiet_entry e) (i - length h))

pub deed_collects : (file : List ℕ) (limits : Limits) (c : State Hand Held) (m : State Local Value) (w : World) (h : List Moment) (t k : ℕ) (hand : Hand)
    (held : Held) (e : Entry) (acts : List Act) (from : ℕ) (waiting awaited : List Awaited) → image_of file ≡ Ok file → Standing file limits c m w h →
    IsDeed file limits (era_now limits.epochs h) t k (c.local t) hand (c.value k) held e acts →
    AwaitsIn file limits (era_now limits.epochs h) t k (c.local t) hand (c.value k) held e awaited →
    Collects limits.epochs h from (length h) waiting →
    Collects limits.epochs (h ++ entry_moments 0 e) from (length (h ++ entry_moments 0 e)) (waiting ++ awaited)
deed_collects file limits c m w h t k hand held e acts from waiting awaited ok s d a before =
    let g = limits.epochs in
    let then = h ++ entry_moments 0 e in
    let f = followed file limits ok c m w h s t hand held e k acts d in
    let told = all_of (many (watched_turn file limits.harts g) t acts (m.local t) (m.value k)).told in
    let stay = collects_stay g h (entry_moments 0 e) from (length h) waiting (omega arith) before in
    let long : length told ≡ length (entry_moments 0 e) = AllZip-long IsTold (entry_moments 0 e) told f.told in
    let end : length h + length told ≡ length then = omega (arith, long, length-append h (entry_moments 0 e)) in
    let there = collects_told file g then (length h) (quiet_behind h e) from (length h) told waiting (omega arith) stay
    (stand_behind h (entry_moments 0 e) told f.told) (told_right file limits ok c m w h s t k hand held e acts f) in
    subst (λ (xs : List Awaited). Collects g then from (length then) (waiting ++ xs)) (deed_told file limits ok c m w h s t k hand held e acts awaited f a)
    (subst (λ (i : ℕ). Collects g then from i (waiting ++ Rattle.part_races.proofs.Spans.told_awaits told)) end there)
