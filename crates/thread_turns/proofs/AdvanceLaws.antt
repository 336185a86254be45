-- An instruction for which a label may have to be taken.
use Rattle.std.proofs.Common.{◌≡◌, ℕ, ◌+◌, Bool, true, false, Option, None, List, [], refl, ap, sym, subst, ◌∙◌, arith}
use Rattle.std.specs.Prelude.{is_some, IfSome, IfNone}
use Rattle.run_record.specs.declared.entry.Label.{Label}
use Rattle.bare_machine.specs.Preview.{needs_slot}
use Rattle.detector.specs.Detected.{Detected, watcher_of, Room, after_room, Takes}
use Rattle.thread_turns.specs.declared.part.Part.{Part}
use Rattle.thread_turns.specs.declared.watched.WatchedMachine.{WatchedMachine}
use Rattle.thread_turns.specs.Turned.{IsTurnOf, IsNext, LacksLabel, TriesNext, AdvancesAll}
use Rattle.thread_turns.proofs.ReadyLaws.{ReadiesAll, AsksAttach, goes, asks_of, readies_of}
use Rattle.thread_turns.proofs.InstructionLaws.{unlabelled}

-- a thread in its turn may try
pub next_of : (file : List ℕ) (tid : ℕ) (p : Part) (v : WatchedMachine) → p.used ≡ false → IsTurnOf file tid p v → IsNext file tid p v
next_of file tid p v unused turn = record { setting = turn.setting; file_is = turn.file_is; tid_is = turn.tid_is; going_on = goes turn.setting p v turn.going_on unused; room = turn.room }

-- it made the instruction as it was
pub advances_at_once : (file : List ℕ) (tid : ℕ) (b : Bool) (p q : Part) (v w : WatchedMachine) → b ≡ true → p.used ≡ false → TriesNext file tid b p q v w → AdvancesAll file tid true p q v w
advances_at_once file tid true p q v w is unused tries s f t on room = tries s f t (goes s p v on unused) room
advances_at_once file tid false p q v w is unused tries s f t on room = absurd cc

pub lacks_of : (file : List ℕ) (tid : ℕ) (b : Bool) (p q : Part) (v w : WatchedMachine) → b ≡ false → TriesNext file tid b p q v w → TriesNext file tid false p q v w
lacks_of file tid true p q v w is tries = absurd cc
lacks_of file tid false p q v w is tries = tries

-- no slot was free
pub advances_never : (file : List ℕ) (tid : ℕ) (b : Bool) (p q : Part) (v w : WatchedMachine) → b ≡ false → ReadiesAll file tid b p q v w → AdvancesAll file tid false p q v w
advances_never file tid true p q v w is readies s f t on room = absurd cc
advances_never file tid false p q v w is readies s f t on room =
    let ready = readies s f t on in
    let there = ready.stops refl in
    record { going_on = there.0; stopped = there.1; steps = ready.steps; used = ready.used }

-- it took a label
pub ready_true : (file : List ℕ) (tid : ℕ) (b : Bool) (p q : Part) (v w : WatchedMachine) → b ≡ true → ReadiesAll file tid b p q v w → ReadiesAll file tid true p q v w
ready_true file tid true p q v w is readies = readies
ready_true file tid false p q v w is readies = absurd cc

pub next_after : (file : List ℕ) (tid : ℕ) (p q : Part) (v w : WatchedMachine) → IsTurnOf file tid p v → ReadiesAll file tid true p q v w → IsNext file tid q w
next_after file tid p q v w turn readies =
    let ready = readies turn.setting turn.file_is turn.tid_is turn.going_on in
    record { setting = turn.setting; file_is = turn.file_is; tid_is = turn.tid_is; going_on = (ready.goes_on refl).0; room = let x = turn.room in let y = ready.steps in omega arith }

pub unused_after : (file : List ℕ) (tid : ℕ) (p q : Part) (v w : WatchedMachine) → IsTurnOf file tid p v → p.used ≡ false → ReadiesAll file tid true p q v w → q.used ≡ false
unused_after file tid p q v w turn unused readies = (readies turn.setting turn.file_is turn.tid_is turn.going_on).used ∙ unused

pub advances_after : (file : List ℕ) (tid : ℕ) (b : Bool) (p q r : Part) (v w x : WatchedMachine) → p.used ≡ false → ReadiesAll file tid true p q v w → TriesNext file tid b q r w x → AdvancesAll file tid b p r v x
advances_after file tid true p q r v w x unused readies tries s f t on room =
    let ready = readies s f t on in
    let made = tries s f t (ready.goes_on refl).0 (let y = ready.steps in omega arith) in
    (made.0, made.1 ∙ ap (λ (n : ℕ). n + 1) ready.steps)
advances_after file tid false p q r v w x unused readies lacks s f t on room =
    let ready = readies s f t on in
    let there = ready.goes_on refl in
    let none : is_some (watcher_of w.detector s.tid).label ≡ false = ap is_some (ap (λ (u : ℕ). (watcher_of w.detector u).label) t ∙ lacks.unlabelled) in
    let needless = (unlabelled s q w there.0 (ready.used ∙ unused) (let y = ready.steps in omega arith) there.1 none).1 in
    let needy : needs_slot s.file w.machine s.tid ≡ true = ap (λ (g : List ℕ). needs_slot g w.machine s.tid) f ∙ (ap (needs_slot file w.machine) t ∙ lacks.needy) in
    absurd (let z = sym needless ∙ needy in cc)

-- ---- as the calls tell it

pub asks_after : (file : List ℕ) (tid : ℕ) (p q : Part) (w v : WatchedMachine) (new : Detected) (spare : Room) → p.used ≡ false → IsTurnOf file tid p w → LacksLabel file tid p q w v → new ≡ after_room v.detector tid spare → AsksAttach tid new
asks_after file tid p q w v new spare unused turn lacks at =
    asks_of file tid p w None new spare unused turn (sym lacks.unlabelled) refl (at ∙ ap (λ (x : WatchedMachine). after_room x.detector tid spare) lacks.stays)

pub readies_after :
    (file : List ℕ) (tid : ℕ) (p q : Part) (w v : WatchedMachine) (roomy new : Detected) (spare : Room) (taken : Option Label) (can : Bool) → p.used ≡ false → LacksLabel file tid p q w v →
    roomy ≡ after_room v.detector tid spare → IfNone taken ((roomy.desk.queue ≡ []) × (new ≡ roomy)) → IfSome taken (Takes roomy new tid) → can ≡ is_some taken →
    ReadiesAll file tid can p (record q { attached = taken }) w (record { machine = v.machine; detector = new })
readies_after file tid p q w v roomy new spare taken can unused lacks at if_none if_some can_is =
    subst (λ (x : Part). ReadiesAll file tid can p (record x { attached = taken }) w (record { machine = v.machine; detector = new })) (sym lacks.part_stays)
    (subst (λ (x : WatchedMachine). ReadiesAll file tid can p (record p { attached = taken }) w (record { machine = x.machine; detector = new })) (sym lacks.stays)
    (readies_of file tid p w None roomy new spare taken can unused (sym lacks.unlabelled) refl lacks.needy (at ∙ ap (λ (x : WatchedMachine). after_room x.detector tid spare) lacks.stays) if_none if_some can_is))
