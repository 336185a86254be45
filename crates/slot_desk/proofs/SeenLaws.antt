-- What a desk is seen as after a call.
use Rattle.std.proofs.Common.{◌≡◌, ◌==◌, ◌++◌, ◌∷◌, [], ℕ, Bool, false, if◌then◌else◌, Some, List, length, get_or, set, map, replicate, slice_index, refl}
use Rattle.run_laws.specs.Numbers.{up_from}
use Rattle.slot_desk.specs.declared.thread.ThreadState.{ThreadState}
use Rattle.slot_desk.specs.Desks.{SlotContents, no_slot, fresh_slot, held_from}
use Rattle.slot_desk.specs.Steps.{attached_slot, after_attach, ended_slot, after_end, after_reset, forgotten}
use Rattle.slot_desk.specs.Threads.{shown}
use Rattle.slot_desk.specs.Kept.{contents}

pub seen_attach :
    (harts greatest made era : ℕ) (threads later : List ThreadState) (slots : List SlotContents) (queue rest : List ℕ) (tid sid : ℕ) (s : SlotContents) →
    queue ≡ sid ∷ rest → s ≡ attached_slot tid (get_or slots sid no_slot) → map (shown era) later ≡ map (shown era) threads →
    contents harts greatest made era later (set slots sid s) rest ≡ after_attach (contents harts greatest made era threads slots queue) tid
seen_attach harts greatest made era threads later slots queue rest tid sid s q e m = rw (m, e, q) refl

pub seen_end :
    (harts greatest made era : ℕ) (threads : List ThreadState) (t : ThreadState) (slots : List SlotContents) (queue rest : List ℕ) (tid sid since epoch : ℕ) (is_last : Bool) (clock : List ℕ) (s : SlotContents) →
    held_from 0 tid slots ≡ Some (sid, since) → slice_index clock sid ≡ epoch → (epoch == greatest) ≡ is_last → rest ≡ (if is_last then queue else queue ++ sid ∷ []) → s ≡ ended_slot epoch is_last clock (get_or slots sid no_slot) →
    map (shown era) (set threads tid t) ≡ set (map (shown era) threads) tid (record { lives = false; told = Some clock }) →
    contents harts greatest made era (set threads tid t) (set slots sid s) rest ≡ after_end (contents harts greatest made era threads slots queue) tid clock
seen_end harts greatest made era threads t slots queue rest tid sid since epoch is_last clock s h i l q e m = rw (m, e, q, h, i, l) refl

pub seen_reset :
    (harts greatest made era after : ℕ) (threads later : List ThreadState) (slots fresh : List SlotContents) (queue full : List ℕ) →
    map (shown after) later ≡ map forgotten (map (shown era) threads) → fresh ≡ replicate (length slots) (fresh_slot (length slots)) → full ≡ up_from 0 (length slots) →
    contents harts greatest made after later fresh full ≡ after_reset (contents harts greatest made era threads slots queue)
seen_reset harts greatest made era after threads later slots fresh queue full m e q = rw (m, e, q) refl
