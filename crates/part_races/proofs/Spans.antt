-- What the accesses of a stretch of a history await, by the clocks, stacks and locks of the history; and what the watched machine tells of it.
use Rattle.std.proofs.Common.{◌≡◌, ◌<◌, ◌≤◌, ◌+◌, ℕ, suc, Option, Some, None, List, [], ◌∷◌, ◌++◌, length, append_assoc, refl, sym, ap, ap₂, ◌∙◌, arith}
use Rattle.std.specs.Prelude.{option_map}
use Rattle.std.specs.List.{AllZip}
use Rattle.run_record.specs.declared.entry.Check.{Check}
use Rattle.run_laws.specs.Moments.{Item, Does, Notes, NewEra, Past, Moment, items}
use Rattle.run_laws.specs.Accesses.{Access, access_of}
use Rattle.run_laws.specs.Clocks.{Clocks}
use Rattle.run_laws.specs.Reports.{told_side}
use Rattle.run_laws.proofs.PresentLaw.{clocks_stay}
use Rattle.report_laws.specs.Awaited.{Awaited}
use Rattle.report_laws.specs.Sound.{first_race_in, first_race}
use Rattle.report_laws.proofs.AgreeLaw.{moments-append}
use Rattle.report_laws.proofs.GrownLaw.{told_stays}
use Rattle.watched_turns.specs.Turns.{Raced, Told}
use Rattle.watched_turns.specs.Along.{StandFrom, IsRight, AreRight, race_by_clock, raced_at}
use Rattle.part_races.specs.Awaits.{awaited_of}

-- ---- by the history

-- what thread t's event at position n awaits, by the history
abbrev pub awaits_there : ℕ → List Moment → ℕ → ℕ → Option Access → List Awaited
awaits_there g h n t None = []
awaits_there g h n t (Some a) = awaited_of (told_side h n t a) (first_race g h n t)

abbrev pub awaits_item : ℕ → List Moment → ℕ → Item → List Awaited
awaits_item g h n (Does t e) = awaits_there g h n t (access_of e)
awaits_item g h n _ = []

abbrev pub here : ℕ → List Moment → ℕ → List Awaited
here g h n = awaits_item g h n (items h n)

-- what as many positions from n on await as the list is long
abbrev pub span : {X : Type 0} → ℕ → List Moment → ℕ → List X → List Awaited
span g h n [] = []
span g h n (x ∷ xs) = here g h n ++ span g h (suc n) xs

-- ---- in a longer history

pub race_stays : (g : ℕ) (h later : List Moment) (n t : ℕ) → n < length h → first_race g (h ++ later) n t ≡ first_race g h n t
race_stays g h later n t l = ap₂ (λ (k : Clocks) (m : Moment). first_race_in (k.thread t) m.checks)
    (clocks_stay g h later n (omega arith)) (moments-append h later n l)

there_stays : (g : ℕ) (h later : List Moment) (n t : ℕ) (o : Option Access) → n < length h →
    awaits_there g (h ++ later) n t o ≡ awaits_there g h n t o
there_stays g h later n t None l = refl
there_stays g h later n t (Some a) l = ap₂ awaited_of (told_stays h later n t a (omega arith)) (race_stays g h later n t l)

item_stays : (g : ℕ) (h later : List Moment) (n : ℕ) (i : Item) → n < length h → awaits_item g (h ++ later) n i ≡ awaits_item g h n i
item_stays g h later n (Does t e) l = there_stays g h later n t (access_of e) l
item_stays g h later n (Notes t note) l = refl
item_stays g h later n NewEra l = refl
item_stays g h later n Past l = refl

here_stays : (g : ℕ) (h later : List Moment) (n : ℕ) → n < length h → here g (h ++ later) n ≡ here g h n
here_stays g h later n l = ap (λ (m : Moment). awaits_item g (h ++ later) n m.item) (moments-append h later n l) ∙ item_stays g h later n (items h n) l

pub span_stays : {X : Type 0} (g : ℕ) (h later : List Moment) (n : ℕ) (xs : List X) → n + length xs ≤ length h →
    span g (h ++ later) n xs ≡ span g h n xs
span_stays g h later n [] l = refl
span_stays g h later n (x ∷ xs) l = ap₂ (λ (a b : List Awaited). a ++ b) (here_stays g h later n (omega (arith, l)))
    (span_stays g h later (suc n) xs (omega (arith, l)))

-- ---- lists behind one another

pub span_append : {X : Type 0} (g : ℕ) (h : List Moment) (n : ℕ) (xs ys : List X) →
    span g h n (xs ++ ys) ≡ span g h n xs ++ span g h (n + length xs) ys
span_append g h n [] ys = let e : n ≡ n + 0 = omega arith in ap (λ (i : ℕ). span g h i ys) e
span_append g h n (x ∷ xs) ys =
    let e : suc n + length xs ≡ n + suc (length xs) = omega arith in
    ap (λ (zs : List Awaited). here g h n ++ zs) (span_append g h (suc n) xs ys)
    ∙ (sym (append_assoc (here g h n) (span g h (suc n) xs) (span g h (suc n + length xs) ys))
    ∙ ap (λ (i : ℕ). (here g h n ++ span g h (suc n) xs) ++ span g h i ys) e)

-- lists of the same length
pub span_zip : {X Y : Type 0} (R : X → Y → Type 0) (g : ℕ) (h : List Moment) (n : ℕ) (xs : List X) (ys : List Y) → AllZip R xs ys →
    span g h n xs ≡ span g h n ys
span_zip R g h n [] [] z = refl
span_zip R g h n [] (y ∷ ys) z = absurd z
span_zip R g h n (x ∷ xs) [] z = absurd z
span_zip R g h n (x ∷ xs) (y ∷ ys) z = ap (λ (zs : List Awaited). here g h n ++ zs) (span_zip R g h (suc n) xs ys z.1)

-- ---- by what is told

abbrev pub told_there : ℕ → Option Access → Option Raced → List Awaited
told_there t None race = []
told_there t (Some a) None = []
told_there t (Some a) (Some r) = record {
  mine = record { tid = t; read = a.read; atomic = a.atomic; addr = a.addr; size = a.size; stack = Some (a.place ∷ r.frames); locks = r.locks };
  granule = r.check.granule;
  word = r.word;
} ∷ []

abbrev pub told_item : Item → Option Raced → List Awaited
told_item (Does t e) race = told_there t (access_of e) race
told_item _ race = []

-- what awaits, by what the watched machine tells
abbrev pub told_awaits : List Told → List Awaited
told_awaits [] = []
told_awaits (x ∷ xs) = told_item x.item x.race ++ told_awaits xs

pub told_append : (xs ys : List Told) → told_awaits (xs ++ ys) ≡ told_awaits xs ++ told_awaits ys
told_append [] ys = refl
told_append (x ∷ xs) ys = ap (λ (zs : List Awaited). told_item x.item x.race ++ zs) (told_append xs ys)
    ∙ sym (append_assoc (told_item x.item x.race) (told_awaits xs) (told_awaits ys))

module _ (file : List ℕ) (g : ℕ) (h : List Moment) where
  there_right : (n t : ℕ) (o : Option Access) (race : Option Raced) → race ≡ option_map (raced_at h n t) (race_by_clock g h n t) →
      told_there t o race ≡ awaits_there g h n t o
  there_right n t None race q = refl
  there_right n t (Some a) race q = ap (told_there t (Some a)) q ∙ go (first_race g h n t)
    where
      go : (l : Option (Check × ℕ)) → told_there t (Some a) (option_map (raced_at h n t) l) ≡ awaited_of (told_side h n t a) l
      go None = refl
      go (Some l) = refl

  pub item_right : (n : ℕ) (i : Item) (race : Option Raced) → IsRight file g h n i race → told_item i race ≡ awaits_item g h n i
  item_right n (Does t e) race right = there_right n t (access_of e) race right.race_is
  item_right n (Notes t note) race right = refl
  item_right n NewEra race right = refl
  item_right n Past race right = refl

  -- what is told and right is what the history says
  pub told_span : (n : ℕ) (xs : List Told) → StandFrom h n xs → AreRight file g h n xs → told_awaits xs ≡ span g h n xs
  told_span n [] stand right = refl
  told_span n (x ∷ xs) stand right = ap₂ (λ (a b : List Awaited). a ++ b)
      (item_right n x.item x.race right.0 ∙ ap (awaits_item g h n) (sym stand.0.item)) (told_span (suc n) xs stand.1 right.1)
