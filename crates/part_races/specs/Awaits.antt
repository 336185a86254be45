-- What a worker tells of the races of a deed: the accesses that loaded a word which races by their thread's clock, in their order.
use Rattle.std.specs.Prelude.{◌≡◌, ℕ, List, [], ◌∷◌, ◌++◌, slice_index, Option, Some, None}
use Rattle.run_record.specs.declared.event.Event.{Event}
use Rattle.run_record.specs.declared.entry.Check.{Check}
use Rattle.run_record.specs.declared.entry.Entry.{Entry}
use Rattle.run_record.specs.declared.limits.Limits.{Limits}
use Rattle.run_record.specs.declared.report.Side.{Side}
use Rattle.run_laws.specs.Accesses.{Access, access_of}
use Rattle.report_laws.specs.Awaited.{Awaited}
use Rattle.report_laws.specs.Sound.{first_race_in}
use Rattle.race_core.specs.Watched.{Watched, side_of}
use Rattle.placed_detector.specs.Standing.{Hand, Held}
use Rattle.placed_detector.specs.Instructions.{Beside, beside, HearsEvent, MakesInstruction}
use Rattle.deed_histories.specs.Deeds.{Made, TellsMade}
use Rattle.deed_histories.specs.Lines.{HandDeed}

-- ---- one event

-- the access on that side awaits the end of its round where a word races, and else nothing does
abbrev pub awaited_of : Side → Option (Check × ℕ) → List Awaited
awaited_of side None = []
awaited_of side (Some l) = record { mine = side; granule = l.0.granule; word = l.1 } ∷ []

-- What awaits of an event with these checks, where the watcher before it is w: of an access the first of the words that its checks
-- loaded which races by the watcher's clock, if there is one.
abbrev pub awaits_at : Watched → Option Access → List Check → List Awaited
awaits_at w None checks = []
awaits_at w (Some a) checks = awaited_of (side_of w a) (first_race_in (slice_index w.clock) checks)

-- ---- the events of an instruction

-- The events are heard one after another, each with its checks, and these accesses among them await.
abbrev pub AwaitsEvents : ℕ → ℕ → List Event → List (List Check) → Beside → Beside → List Awaited → Type 0
AwaitsEvents k t [] [] old new awaited = (old ≡ new) × (awaited ≡ [])
AwaitsEvents k t (e ∷ es) (checks ∷ rest) old new awaited =
    (next : Beside) × (later : List Awaited) × HearsEvent k t e old next × AwaitsEvents k t es rest next new later
    × (awaited ≡ awaits_at old.watched (access_of e) checks ++ later)
AwaitsEvents k t _ _ old new awaited = ⊥

-- ---- the instructions of a deed

-- An instruction is made, and these of its accesses await.
pub record AwaitsInstruction (file : List ℕ) (harts era t k : ℕ) (x : Made) (found left : Hand)
    (place_found place_left : Held) (awaited : List Awaited) : Type 0 where
  pub makes : MakesInstruction file harts era t k x.loads x.events x.checks found left place_found place_left
  pub awaits : AwaitsEvents k t x.events x.checks (beside found place_found) (beside left place_left) awaited

-- Instructions are made one after another, and these of their accesses await.
abbrev pub AwaitsMade : List ℕ → ℕ → ℕ → ℕ → ℕ → List Made → Hand → Hand → Held → Held → List Awaited → Type 0
AwaitsMade file harts era t k [] found left place_found place_left awaited =
    (found ≡ left) × (place_found ≡ place_left) × (awaited ≡ [])
AwaitsMade file harts era t k (x ∷ xs) found left place_found place_left awaited =
    (hand : Hand) × (held : Held) × (first : List Awaited) × (later : List Awaited)
    × AwaitsInstruction file harts era t k x found hand place_found held first
    × AwaitsMade file harts era t k xs hand left held place_left later × (awaited ≡ first ++ later)

-- Instructions that use no object, one after another: whatever place the thread is at and whatever this has, these of their accesses
-- await.
abbrev pub AwaitsGathered : List ℕ → ℕ → ℕ → ℕ → List Made → Hand → Hand → List Awaited → Type 0
AwaitsGathered file harts era t [] found left awaited = (found ≡ left) × (awaited ≡ [])
AwaitsGathered file harts era t (x ∷ xs) found left awaited =
    (hand : Hand) × (first : List Awaited) × (later : List Awaited)
    × ((k : ℕ) (held : Held) → AwaitsInstruction file harts era t k x found hand held held first)
    × AwaitsGathered file harts era t xs hand left later × (awaited ≡ first ++ later)

-- ---- a deed

-- What a deed of thread t at place k that left this entry awaits: nothing where the entry has no events, and else what its
-- instructions await.
pub data AwaitsIn (file : List ℕ) (limits : Limits) (era t k : ℕ) (found left : Hand)
    (place_found place_left : Held) (e : Entry) : List Awaited → Type 0 where
  Quiet : e.events ≡ [] → AwaitsIn file limits era t k found left place_found place_left e []
  Makes : (xs : List Made) (awaited : List Awaited) →
      AwaitsMade file limits.harts era t k xs found left place_found place_left awaited → TellsMade t xs e →
      AwaitsIn file limits era t k found left place_found place_left e awaited

-- the same of a deed with stamps
abbrev pub DeedAwaits : List ℕ → Limits → ℕ → HandDeed → List Awaited → Type 0
DeedAwaits file limits era d awaited = AwaitsIn file limits era d.call.thread d.call.place d.local_found.state d.local_left.state
    d.found.state d.left.state d.told.entry awaited
