-- One event more, and one instruction more.
use Rattle.std.proofs.Common.{ℕ, List, [], ◌∷◌, ◌++◌, append_assoc, append-nil, refl, sym, ap, subst, ◌∙◌}
use Rattle.run_record.specs.declared.event.Event.{Event}
use Rattle.run_record.specs.declared.entry.Check.{Check}
use Rattle.run_laws.specs.Accesses.{access_of}
use Rattle.report_laws.specs.Awaited.{Awaited}
use Rattle.placed_detector.specs.Standing.{Hand, Held}
use Rattle.placed_detector.specs.Instructions.{Beside, HearsEvent}
use Rattle.deed_histories.specs.Deeds.{Made}
use Rattle.part_races.specs.Awaits.{awaits_at, AwaitsEvents, AwaitsInstruction, AwaitsMade, AwaitsGathered}

-- an event is heard behind the others
pub one_more_event : (k t : ℕ) (es : List Event) (css : List (List Check)) (old mid new : Beside) (ws : List Awaited) (e : Event) (checks : List Check) →
    AwaitsEvents k t es css old mid ws → HearsEvent k t e mid new →
    AwaitsEvents k t (es ++ e ∷ []) (css ++ checks ∷ []) old new (ws ++ awaits_at mid.watched (access_of e) checks)
one_more_event k t [] [] old mid new ws e checks a h = (
  new,
  [],
  subst (λ (b : Beside). HearsEvent k t e b new) (sym a.0) h,
  (refl, refl),
  ap (λ (xs : List Awaited). xs ++ awaits_at mid.watched (access_of e) checks) a.1
      ∙ (ap (λ (b : Beside). awaits_at b.watched (access_of e) checks) (sym a.0) ∙ sym (append-nil (awaits_at old.watched (access_of e) checks))),
)
one_more_event k t (f ∷ es) (cs ∷ css) old mid new ws e checks a h = (
  a.0,
  a.1 ++ awaits_at mid.watched (access_of e) checks,
  a.2,
  one_more_event k t es css a.0 mid new a.1 e checks a.3 h,
  ap (λ (xs : List Awaited). xs ++ awaits_at mid.watched (access_of e) checks) a.4
      ∙ append_assoc (awaits_at old.watched (access_of f) cs) a.1 (awaits_at mid.watched (access_of e) checks),
)
one_more_event k t [] (cs ∷ css) old mid new ws e checks a h = absurd a
one_more_event k t (f ∷ es) [] old mid new ws e checks a h = absurd a

-- an instruction is made behind the others
pub one_more_made : (file : List ℕ) (harts era t k : ℕ) (xs : List Made) (x : Made) (found hand left : Hand) (place_found held place_left : Held)
    (ws later : List Awaited) → AwaitsMade file harts era t k xs found hand place_found held ws →
    AwaitsInstruction file harts era t k x hand left held place_left later →
    AwaitsMade file harts era t k (xs ++ x ∷ []) found left place_found place_left (ws ++ later)
one_more_made file harts era t k [] x found hand left pf held pl ws later a i = (
  left,
  pl,
  later,
  [],
  subst (λ (l : Hand). AwaitsInstruction file harts era t k x l left pf pl later) (sym a.0)
      (subst (λ (v : Held). AwaitsInstruction file harts era t k x hand left v pl later) (sym a.1) i),
  (refl, refl, refl),
  ap (λ (xs : List Awaited). xs ++ later) a.2 ∙ sym (append-nil later),
)
one_more_made file harts era t k (y ∷ xs) x found hand left pf held pl ws later a i = (
  a.0,
  a.1,
  a.2,
  a.3 ++ later,
  a.4,
  one_more_made file harts era t k xs x a.0 hand left a.1 held pl a.3 later a.5 i,
  ap (λ (xs : List Awaited). xs ++ later) a.6 ∙ append_assoc a.2 a.3 later,
)

-- an instruction without an object is made behind the others
pub one_more_gathered : (file : List ℕ) (harts era t : ℕ) (xs : List Made) (x : Made) (found hand left : Hand) (ws later : List Awaited) →
    AwaitsGathered file harts era t xs found hand ws →
    ((k : ℕ) (held : Held) → AwaitsInstruction file harts era t k x hand left held held later) →
    AwaitsGathered file harts era t (xs ++ x ∷ []) found left (ws ++ later)
one_more_gathered file harts era t [] x found hand left ws later a i = (
  left,
  later,
  [],
  (λ k held. subst (λ (l : Hand). AwaitsInstruction file harts era t k x l left held held later) (sym a.0) (i k held)),
  (refl, refl),
  ap (λ (xs : List Awaited). xs ++ later) a.1 ∙ sym (append-nil later),
)
one_more_gathered file harts era t (y ∷ xs) x found hand left ws later a i = (
  a.0,
  a.1,
  a.2 ++ later,
  a.3,
  one_more_gathered file harts era t xs x a.0 hand left a.2 later a.4 i,
  ap (λ (xs : List Awaited). xs ++ later) a.5 ∙ append_assoc a.1 a.2 later,
)

-- what was gathered was made at any place
pub gathered_there : (file : List ℕ) (harts era t k : ℕ) (xs : List Made) (found left : Hand) (held : Held) (ws : List Awaited) →
    AwaitsGathered file harts era t xs found left ws → AwaitsMade file harts era t k xs found left held held ws
gathered_there file harts era t k [] found left held ws a = (a.0, refl, a.1)
gathered_there file harts era t k (x ∷ xs) found left held ws a = (
  a.0,
  held,
  a.1,
  a.2,
  a.3 k held,
  gathered_there file harts era t k xs a.0 left held a.2 a.4,
  a.5,
)
