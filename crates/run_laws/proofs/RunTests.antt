-- Tests that compute: whether a history that is written out is that of a whole run on a bare machine.
use Rattle.std.proofs.Common.{◌≡◌, ◌≢◌, ℕ, zero, suc, ◌+◌, ◌-◌, ◌<◌, ◌==◌, ◌&&◌, ◌||◌, ◌⊎◌, not, if◌then◌else◌, Bool, true, false, nat_lt, Option, Some, None, is_none, is_some, List, [], ◌∷◌, map, take, slice_get, refl, sym, ap, subst, ◌∙◌, arith, inl, inr, eqb-true, eq-eqb, lt-ltb}
use Rattle.std.specs.Prelude.{All, AllPairs, fold}
use Rattle.std.specs.List.{list_all}
use Rattle.std.proofs.lemmas.Bool.{and_parts, ltb-true}
use Rattle.std.proofs.lemmas.List.Kept.{AllPairs-cons}
use Rattle.std.proofs.lemmas.List.Elements.{All-nil, All-cons}
use Rattle.run_record.specs.declared.event.Event.{Event}
use Rattle.run_record.specs.declared.entry.DeskNote.{DeskNote}
use Rattle.run_record.specs.declared.entry.DeskNote.TheVariants.{Nothing, Attach, Leave}
use Rattle.run_record.specs.declared.entry.Check.{Check}
use Rattle.run_record.specs.declared.entry.Entry.{Entry}
use Rattle.run_laws.specs.Numbers.{up_from}
use Rattle.run_laws.specs.Faithful.{Bare, after, events_made, state_before, object_of, Precedes, IsOneTurn, Mode, OneByOne, AtOnce, stamp_seen, IsStamped, IsFaithful}
use Rattle.run_laws.proofs.ConflictLaw.{all_up}

-- entries
abbrev pub precedes_test : Entry → Entry → Bool
precedes_test d e = nat_lt d.stamp e.stamp || ((d.stamp == e.stamp) && nat_lt d.tid e.tid)

abbrev pub pairs_test : (Entry → Entry → Bool) → List Entry → Bool
pairs_test p [] = true
pairs_test p (x ∷ xs) = list_all (p x) xs && pairs_test p xs

abbrev pub is_nothing : DeskNote → Bool
is_nothing Nothing = true
is_nothing (Attach l) = false
is_nothing (Leave l) = false

abbrev pub no_events : List Event → Bool
no_events [] = true
no_events (e ∷ es) = false

abbrev pub no_checks : List Check → Bool
no_checks [] = true
no_checks (e ∷ es) = false

abbrev pub ends_part_test : ℕ → ℕ → Entry → List Entry → Bool
ends_part_test i k e [] = true
ends_part_test i k e (f ∷ fs) = (not (nat_lt i k) || not (f.tid == e.tid) || not (f.round == e.round) || (f.steps == 0)) && ends_part_test i (suc k) e fs

abbrev pub alive_test : {S : Type 0} → Bare S → S → Entry → Bool
alive_test bare s e = list_all (λ (k : ℕ). bare.lives (after bare s e.tid k) e.tid) (up_from 0 e.steps)

abbrev pub apart_test : {S : Type 0} → Bare S → S → Entry → Bool
apart_test bare s e = list_all (λ (k : ℕ). is_none (bare.step (after bare s e.tid k) e.tid).object) (up_from 0 (e.steps - 1))

abbrev pub entry_test : {S : Type 0} → Bare S → List Entry → ℕ → Entry → Bool
entry_test bare entries i e =
    let s = state_before bare entries i in
    if e.steps == 0
    then not (is_nothing e.note) && no_events e.events && no_checks e.checks
    else alive_test bare s e && apart_test bare s e && (is_some (object_of bare s e) || ends_part_test i 0 e entries) && is_nothing e.note

abbrev pub each_test : (ℕ → Entry → Bool) → ℕ → List Entry → Bool
each_test p i [] = true
each_test p i (e ∷ es) = p i e && each_test p (suc i) es

abbrev pub stamp_test : {S : Type 0} → Mode → Bare S → List Entry → ℕ → Entry → Bool
stamp_test OneByOne bare entries i e = e.stamp == i + 1
stamp_test AtOnce bare entries i e = e.stamp == stamp_seen bare entries i e + 1

abbrev pub own_events : List Entry → List (List Event)
own_events entries = map (λ (e : Entry). e.events) entries

-- the events that the machine makes in the entries' steps, from state s on
abbrev pub made_events : {S : Type 0} → Bare S → S → List Entry → List (List Event)
made_events bare s [] = []
made_events bare s (e ∷ es) = events_made bare s e.tid e.steps ∷ made_events bare (after bare s e.tid e.steps) es

abbrev pub faithful_test : {S : Type 0} → Mode → Bare S → List Entry → Bool
faithful_test mode bare entries = pairs_test precedes_test entries && each_test (λ (i : ℕ) (e : Entry). entry_test bare entries i e && stamp_test mode bare entries i e) 0 entries

-- what these tests say
or_cases : (b c : Bool) → (b || c) ≡ true → (b ≡ true) ⊎ (c ≡ true)
or_cases true c e = inl refl
or_cases false c e = inr e

precedes-true : (d e : Entry) → precedes_test d e ≡ true → Precedes d e
precedes-true d e t = elim (or_cases (nat_lt d.stamp e.stamp) ((d.stamp == e.stamp) && nat_lt d.tid e.tid) t) [
  | inl a ↦ inl (ltb-true d.stamp e.stamp a)
  | inr a ↦ let p = and_parts (d.stamp == e.stamp) (nat_lt d.tid e.tid) a in inr (eqb-true d.stamp e.stamp p.0, ltb-true d.tid e.tid p.1)
]

pub all-true : {X : Type 0} (R : X → Type 0) (p : X → Bool) → ((x : X) → p x ≡ true → R x) → (xs : List X) → list_all p xs ≡ true → All R xs
all-true R p s [] e = All-nil R
all-true R p s (x ∷ xs) e = let q = and_parts (p x) (list_all p xs) e in All-cons R x xs (s x q.0) (all-true R p s xs q.1)

pairs-true : (R : Entry → Entry → Type 0) (p : Entry → Entry → Bool) → ((d e : Entry) → p d e ≡ true → R d e) → (xs : List Entry) → pairs_test p xs ≡ true → AllPairs R xs
pairs-true R p s [] e = λ i j d l m. absurd (omega arith)
pairs-true R p s (x ∷ xs) e = let q = and_parts (list_all (p x) xs) (pairs_test p xs) e in AllPairs-cons R x xs (all-true (R x) (p x) (s x) xs q.0) (pairs-true R p s xs q.1)

each-true : (p : ℕ → Entry → Bool) (k : ℕ) (es : List Entry) → each_test p k es ≡ true → (i : ℕ) (e : Entry) → slice_get es i ≡ Some e → p (k + i) e ≡ true
each-true p k [] t i e q = absurd (cc)
each-true p k (f ∷ fs) t zero e q =
    let z : f ≡ e = cc in
    let y : k + 0 ≡ k = omega arith in
    subst (λ x. p x e ≡ true) (sym y) (subst (λ x. p k x ≡ true) z (and_parts (p k f) (each_test p (suc k) fs) t).0)
each-true p k (f ∷ fs) t (suc i) e q =
    let y : suc k + i ≡ k + suc i = omega arith in
    subst (λ x. p x e ≡ true) y (each-true p (suc k) fs (and_parts (p k f) (each_test p (suc k) fs) t).1 i e q)

is_nothing-true : (note : DeskNote) → is_nothing note ≡ true → note ≡ Nothing
is_nothing-true Nothing e = refl
is_nothing-true (Attach l) e = absurd (cc)
is_nothing-true (Leave l) e = absurd (cc)

is_nothing-false : (note : DeskNote) → not (is_nothing note) ≡ true → note ≢ Nothing
is_nothing-false Nothing e = absurd (cc)
is_nothing-false (Attach l) e = λ z. cc
is_nothing-false (Leave l) e = λ z. cc

no_events-true : (es : List Event) → no_events es ≡ true → es ≡ []
no_events-true [] e = refl
no_events-true (x ∷ es) e = absurd (cc)

no_checks-true : (es : List Check) → no_checks es ≡ true → es ≡ []
no_checks-true [] e = refl
no_checks-true (x ∷ es) e = absurd (cc)

not-true : (b : Bool) → not b ≡ true → b ≡ true → ⊥
not-true true e f = cc
not-true false e f = cc

ends_part-true : (i k : ℕ) (e : Entry) (es : List Entry) → ends_part_test i k e es ≡ true → (j : ℕ) (f : Entry) → i < k + j → slice_get es j ≡ Some f → f.tid ≡ e.tid → f.round ≡ e.round → f.steps ≡ 0
ends_part-true i k e [] t j f l q a b = absurd (cc)
ends_part-true i k e (x ∷ es) t zero f l q a b =
    let z : x ≡ f = cc in
    let p = and_parts (not (nat_lt i k) || not (x.tid == e.tid) || not (x.round == e.round) || (x.steps == 0)) (ends_part_test i (suc k) e es) t in
    subst (λ (y : Entry). y.steps ≡ 0) z
    (elim (or_cases (not (nat_lt i k) || not (x.tid == e.tid) || not (x.round == e.round)) (x.steps == 0) p.0) [
      | inr r ↦ eqb-true x.steps 0 r
      | inl r ↦ elim (or_cases (not (nat_lt i k) || not (x.tid == e.tid)) (not (x.round == e.round)) r) [
        | inr r ↦ absurd (not-true (x.round == e.round) r (eq-eqb x.round e.round (ap (λ (y : Entry). y.round) z ∙ b)))
        | inl r ↦ elim (or_cases (not (nat_lt i k)) (not (x.tid == e.tid)) r) [
          | inr r ↦ absurd (not-true (x.tid == e.tid) r (eq-eqb x.tid e.tid (ap (λ (y : Entry). y.tid) z ∙ a)))
          | inl r ↦ absurd (not-true (nat_lt i k) r (lt-ltb i k (omega arith)))
        ]
      ]
    ])
ends_part-true i k e (x ∷ es) t (suc j) f l q a b =
    ends_part-true i (suc k) e es (and_parts (not (nat_lt i k) || not (x.tid == e.tid) || not (x.round == e.round) || (x.steps == 0)) (ends_part_test i (suc k) e es) t).1 j f (omega arith) q a b

is_some-true : {X : Type 0} (o : Option X) → is_some o ≡ true → o ≢ None
is_some-true None e = absurd (cc)
is_some-true (Some x) e = λ z. cc

is_none-true : {X : Type 0} (o : Option X) → is_none o ≡ true → o ≡ None
is_none-true None e = refl
is_none-true (Some x) e = absurd (cc)

-- an entry with steps, and one without
record PassesEntry {S : Type 0} (bare : Bare S) (entries : List Entry) (i : ℕ) (e : Entry) : Type 0 where
  alive : (k : ℕ) → k < e.steps → bare.lives (after bare (state_before bare entries i) e.tid k) e.tid ≡ true
  turn : IsOneTurn bare entries i e

entry-true : {S : Type 0} (bare : Bare S) (entries : List Entry) (i : ℕ) (e : Entry) → entry_test bare entries i e ≡ true → PassesEntry bare entries i e
entry-true bare entries i e t = go (e.steps == 0) refl t
  where
    none : (e.steps == 0) ≡ true → (not (is_nothing e.note) && no_events e.events && no_checks e.checks) ≡ true → PassesEntry bare entries i e
    none q t =
        let z : e.steps ≡ 0 = eqb-true e.steps 0 q in
        let p2 = and_parts (not (is_nothing e.note) && no_events e.events) (no_checks e.checks) t in
        let p1 = and_parts (not (is_nothing e.note)) (no_events e.events) p2.0 in
        record {
          alive = λ k l. absurd (omega arith);
          turn = record { apart = λ k l. absurd (omega arith); last = λ l. absurd (omega arith); noted = λ y. (is_nothing-false e.note p1.0, no_events-true e.events p1.1, no_checks-true e.checks p2.1); unnoted = λ l. absurd (omega arith) };
        }

    some : (e.steps == 0) ≡ false → (alive_test bare (state_before bare entries i) e && apart_test bare (state_before bare entries i) e && (is_some (object_of bare (state_before bare entries i) e) || ends_part_test i 0 e entries) && is_nothing e.note) ≡ true → PassesEntry bare entries i e
    some q t =
        let s = state_before bare entries i in
        let a = alive_test bare s e in
        let b = apart_test bare s e in
        let c = is_some (object_of bare s e) || ends_part_test i 0 e entries in
        let p3 = and_parts (a && b && c) (is_nothing e.note) t in
        let p2 = and_parts (a && b) c p3.0 in
        let p1 = and_parts a b p2.0 in
        record {
          alive = λ k l. all_up (λ (k : ℕ). bare.lives (after bare s e.tid k) e.tid) 0 e.steps p1.0 k (omega arith) (omega arith);
          turn = record {
            apart = λ k l. is_none-true (bare.step (after bare s e.tid k) e.tid).object (all_up (λ (k : ℕ). is_none (bare.step (after bare s e.tid k) e.tid).object) 0 (e.steps - 1) p1.1 k (omega arith) (omega arith));
            last = λ l. elim (or_cases (is_some (object_of bare s e)) (ends_part_test i 0 e entries) p2.1) [
              | inl r ↦ inl (is_some-true (object_of bare s e) r)
              | inr r ↦ inr (λ j f l g a b. ends_part-true i 0 e entries r j f (omega arith) g a b)
            ];
            noted = λ z. absurd (let y = sym q ∙ eq-eqb e.steps 0 z in cc);
            unnoted = λ l. is_nothing-true e.note p3.1;
          };
        }

    go :
        (b : Bool) → (e.steps == 0) ≡ b →
        (if b then not (is_nothing e.note) && no_events e.events && no_checks e.checks else (alive_test bare (state_before bare entries i) e && apart_test bare (state_before bare entries i) e && (is_some (object_of bare (state_before bare entries i) e) || ends_part_test i 0 e entries) && is_nothing e.note)) ≡ true →
        PassesEntry bare entries i e
    go true q t = none q t
    go false q t = some q t

stamp-true : {S : Type 0} (mode : Mode) (bare : Bare S) (entries : List Entry) (i : ℕ) (e : Entry) → stamp_test mode bare entries i e ≡ true → IsStamped mode bare entries i e
stamp-true OneByOne bare entries i e t = eqb-true e.stamp (i + 1) t
stamp-true AtOnce bare entries i e t = eqb-true e.stamp (stamp_seen bare entries i e + 1) t

cons_parts : {X : Type 0} (x y : X) (xs ys : List X) → x ∷ xs ≡ y ∷ ys → (x ≡ y) × (xs ≡ ys)
cons_parts x y xs ys e = (cc, cc)

state_from : {S : Type 0} → Bare S → S → List Entry → S
state_from {S} bare s entries = fold (λ (s : S) (e : Entry). after bare s e.tid e.steps) s entries

made-true : {S : Type 0} (bare : Bare S) (s : S) (entries : List Entry) → own_events entries ≡ made_events bare s entries → (i : ℕ) (e : Entry) → slice_get entries i ≡ Some e → e.events ≡ events_made bare (state_from bare s (take i entries)) e.tid e.steps
unfolding state_from
made-true bare s [] q i e f = absurd (cc)
made-true bare s (x ∷ xs) q zero e f =
    let z : x ≡ e = cc in
    subst (λ (y : Entry). y.events ≡ events_made bare s y.tid y.steps) z (cons_parts x.events (events_made bare s x.tid x.steps) (own_events xs) (made_events bare (after bare s x.tid x.steps) xs) q).0
made-true bare s (x ∷ xs) q (suc i) e f =
    made-true bare (after bare s x.tid x.steps) xs (cons_parts x.events (events_made bare s x.tid x.steps) (own_events xs) (made_events bare (after bare s x.tid x.steps) xs) q).1 i e f

pub faithful-true : {S : Type 0} (mode : Mode) (bare : Bare S) (entries : List Entry) → faithful_test mode bare entries ≡ true → own_events entries ≡ made_events bare bare.start entries → IsFaithful mode bare entries
unfolding state_from
faithful-true mode bare entries t q =
    let p = and_parts (pairs_test precedes_test entries) (each_test (λ (i : ℕ) (e : Entry). entry_test bare entries i e && stamp_test mode bare entries i e) 0 entries) t in
    let each = λ (i : ℕ) (e : Entry) (g : slice_get entries i ≡ Some e). and_parts (entry_test bare entries i e) (stamp_test mode bare entries i e) (let z : 0 + i ≡ i = omega arith in subst (λ k. (entry_test bare entries k e && stamp_test mode bare entries k e) ≡ true) z (each-true (λ (i : ℕ) (e : Entry). entry_test bare entries i e && stamp_test mode bare entries i e) 0 entries p.1 i e g)) in
    record {
      ordered = pairs-true Precedes precedes_test precedes-true entries p.0;
      made = λ i e g. record { alive = (entry-true bare entries i e (each i e g).0).alive; events_are = made-true bare bare.start entries q i e g };
      turns = λ i e g. (entry-true bare entries i e (each i e g).0).turn;
      stamped = λ i e g. stamp-true mode bare entries i e (each i e g).1;
    }
