-- Rounds never fall along a history, nor along its moments.
use Rattle.std.proofs.Common.{◌≡◌, Bool, true, false, if◌then◌else◌, ℕ, zero, suc, ◌+◌, ◌-◌, ◌<◌, ◌≤◌, List, [], ◌∷◌, ◌++◌, length, map, refl, subst, inl, inr, arith}
use Rattle.std.specs.Prelude.{All, AllPairs, replicate}
use Rattle.std.specs.List.{enumerate_from, list_any}
use Rattle.std.proofs.lemmas.Bool.{cases_eq}
use Rattle.std.proofs.lemmas.List.Kept.{AllPairs-cons}
use Rattle.std.proofs.lemmas.List.Elements.{All-nil, All-cons, All-append, All-head, All-tail}
use Rattle.run_record.specs.declared.event.Event.{Event}
use Rattle.run_record.specs.declared.entry.Entry.{Entry}
use Rattle.run_record.specs.declared.limits.Limits.{Limits}
use Rattle.run_record.specs.declared.plan.Turn.{Turn}
use Rattle.run_laws.specs.Moments.{Notes, NewEra, Past, Moment, moment_at, moments, moments_from, era_moments, entry_moments, event_moment, RoundsNeverFall, ErasNeverFall}
use Rattle.run_laws.specs.Faithful.{Bare, Mode}
use Rattle.run_laws.specs.Rounds.{Progress, is_starved, dues, after_round, Reaches, Start, Round}

pub pairs_head : {X : Type 0} (R : X → X → Type 0) (x : X) (xs : List X) → AllPairs R (x ∷ xs) → All (R x) xs
pairs_head R x xs p i d l = p 0 (suc i) d (omega arith) (omega arith)

pub pairs_tail : {X : Type 0} (R : X → X → Type 0) (x : X) (xs : List X) → AllPairs R (x ∷ xs) → AllPairs R xs
pairs_tail R x xs p i j d l m = p (suc i) (suc j) d (omega arith) (omega arith)

pairs-append : {X : Type 0} (R : X → X → Type 0) (xs ys : List X) → AllPairs R xs → AllPairs R ys → All (λ x. All (R x) ys) xs → AllPairs R (xs ++ ys)
pairs-append R [] ys p q a = q
pairs-append R (x ∷ xs) ys p q a =
    AllPairs-cons R x (xs ++ ys) (All-append (R x) xs ys (pairs_head R x xs p) (All-head (λ x. All (R x) ys) x xs a))
    (pairs-append R xs ys (pairs_tail R x xs p) q (All-tail (λ x. All (R x) ys) x xs a))

pairs_of_same : (r : ℕ) (ms : List Moment) → All (λ (m : Moment). m.round ≡ r) ms → AllPairs (λ (m n : Moment). m.round ≤ n.round) ms
pairs_of_same r ms a i j d l m = let x = a i d (omega arith) in let y = a j d m in omega arith

eras_round : (n i r : ℕ) → All (λ (m : Moment). m.round ≡ r) (replicate n (record { entry = i; round = r; item = NewEra; checks = [] }))
eras_round zero i r = All-nil (λ (m : Moment). m.round ≡ r)
eras_round (suc n) i r = All-cons (λ (m : Moment). m.round ≡ r) (record { entry = i; round = r; item = NewEra; checks = [] }) (replicate n (record { entry = i; round = r; item = NewEra; checks = [] })) refl (eras_round n i r)

events_round : (i : ℕ) (e : Entry) (n : ℕ) (es : List Event) → All (λ (m : Moment). m.round ≡ e.round) (map (event_moment i e) (enumerate_from n es))
events_round i e n [] = All-nil (λ (m : Moment). m.round ≡ e.round)
events_round i e n (x ∷ es) = All-cons (λ (m : Moment). m.round ≡ e.round) (event_moment i e (n, x)) (map (event_moment i e) (enumerate_from (n + 1) es)) refl (events_round i e (n + 1) es)

entry_round : (i : ℕ) (e : Entry) → All (λ (m : Moment). m.round ≡ e.round) (entry_moments i e)
entry_round i e = All-cons (λ (m : Moment). m.round ≡ e.round) (record { entry = i; round = e.round; item = Notes e.tid e.note; checks = [] }) (map (event_moment i e) (enumerate_from 0 e.events)) refl (events_round i e 0 e.events)

own_round : (era i : ℕ) (e : Entry) → All (λ (m : Moment). m.round ≡ e.round) (era_moments era i e.round e.era ++ entry_moments i e)
own_round era i e = All-append (λ (m : Moment). m.round ≡ e.round) (era_moments era i e.round e.era) (entry_moments i e) (eras_round (e.era - era) i e.round) (entry_round i e)

weaker : (r k : ℕ) (ms : List Moment) → r ≤ k → All (λ (m : Moment). m.round ≡ k) ms → All (λ (m : Moment). r ≤ m.round) ms
weaker r k ms l a i d m = let z = a i d m in omega arith

-- no moment is of an earlier round than the first entry
least_round : (r era i : ℕ) (es : List Entry) → All (λ (e : Entry). r ≤ e.round) es → All (λ (m : Moment). r ≤ m.round) (moments_from era i es)
least_round r era i [] a = All-nil (λ (m : Moment). r ≤ m.round)
least_round r era i (e ∷ es) a =
    let l = All-head (λ (e : Entry). r ≤ e.round) e es a in
    All-append (λ (m : Moment). r ≤ m.round) (era_moments era i e.round e.era) (entry_moments i e ++ moments_from e.era (i + 1) es) (weaker r e.round (era_moments era i e.round e.era) l (eras_round (e.era - era) i e.round))
    (All-append (λ (m : Moment). r ≤ m.round) (entry_moments i e) (moments_from e.era (i + 1) es) (weaker r e.round (entry_moments i e) l (entry_round i e))
    (least_round r e.era (i + 1) es (All-tail (λ (e : Entry). r ≤ e.round) e es a)))

rising : (era i : ℕ) (es : List Entry) → RoundsNeverFall es → AllPairs (λ (m n : Moment). m.round ≤ n.round) (moments_from era i es)
rising era i [] p = λ i j d l m. absurd (omega arith)
rising era i (e ∷ es) p =
    pairs-append R news (entry_moments i e ++ rest) (pairs_of_same e.round news (eras_round (e.era - era) i e.round))
    (pairs-append R (entry_moments i e) rest (pairs_of_same e.round (entry_moments i e) (entry_round i e)) (rising e.era (i + 1) es (pairs_tail (λ (d e : Entry). d.round ≤ e.round) e es p)) (below (entry_moments i e) rest (entry_round i e) later))
    (below news (entry_moments i e ++ rest) (eras_round (e.era - era) i e.round) (All-append (λ (m : Moment). e.round ≤ m.round) (entry_moments i e) rest (weaker e.round e.round (entry_moments i e) (omega arith) (entry_round i e)) later))
  where
    R : Moment → Moment → Type 0
    R m n = m.round ≤ n.round

    news : List Moment
    news = era_moments era i e.round e.era

    rest : List Moment
    rest = moments_from e.era (i + 1) es

    later : All (λ (m : Moment). e.round ≤ m.round) rest
    later = least_round e.round e.era (i + 1) es (pairs_head (λ (d e : Entry). d.round ≤ e.round) e es p)

    below : (xs ys : List Moment) → All (λ (m : Moment). m.round ≡ e.round) xs → All (λ (m : Moment). e.round ≤ m.round) ys → All (λ (x : Moment). All (R x) ys) xs
    below xs ys a b j d l k c m = let x = a j d l in let y = b k c m in omega arith

-- the moment at a position is of no later round than the one at a later position of the history
pub round_rises : (entries : List Entry) → RoundsNeverFall entries → (i j : ℕ) → i ≤ j → j < length (moments entries) → (moment_at (moments entries) i).round ≤ (moment_at (moments entries) j).round
round_rises entries p i j l m = elim (cases_eq i j) [
  | inl e ↦ subst (λ z. (moment_at (moments entries) i).round ≤ (moment_at (moments entries) z).round) e (omega arith)
  | inr d ↦ rising 0 0 entries p i j (record { entry = 0; round = 0; item = Past; checks = [] }) (omega arith) m
]

-- the history of a run in rounds: no entry is of a round or an era to come, and neither rounds nor eras fall
record InOrder (p : Progress) : Type 0 where
  past : All (λ (e : Entry). e.round < p.round) p.entries
  rise : RoundsNeverFall p.entries
  eras_past : All (λ (e : Entry). e.era ≤ p.era) p.entries
  eras_rise : ErasNeverFall p.entries

next_era : (b : Bool) (era : ℕ) → era ≤ (if b then era + 1 else era)
next_era true era = omega arith
next_era false era = omega arith

in_order : {S : Type 0} (mode : Mode) (limits : Limits) (bare : Bare S) (plan : List Turn) (p : Progress) → Reaches mode limits bare plan p → InOrder p
in_order mode limits bare plan _ Start = record { past = All-nil (λ (e : Entry). e.round < 0); rise = λ i j d l m. absurd (omega arith); eras_past = All-nil (λ (e : Entry). e.era ≤ 0); eras_rise = λ i j d l m. absurd (omega arith) }
in_order mode limits bare plan _ (Round p part r going given round) =
    let o = in_order mode limits bare plan p r in
    record {
      past = All-append (λ (e : Entry). e.round < p.round + 1) p.entries part (λ i d l. let z = o.past i d l in omega arith) (λ i d l. let z = (round.entries i d l).round in omega arith);
      rise = pairs-append (λ (d e : Entry). d.round ≤ e.round) p.entries part o.rise (λ i j d l m. let x = (round.entries i d (omega arith)).round in let y = (round.entries j d m).round in omega arith) (λ i d l k c m. let x = o.past i d l in let y = (round.entries k c m).round in omega arith);
      eras_past =
          let more = next_era (list_any (is_starved limits bare p part) (dues mode limits bare p)) p.era in
          All-append (λ (e : Entry). e.era ≤ (after_round mode limits bare p part).era) p.entries part (λ i d l. let z = o.eras_past i d l in omega arith) (λ i d l. let z = (round.entries i d l).era in omega arith);
      eras_rise = pairs-append (λ (d e : Entry). d.era ≤ e.era) p.entries part o.eras_rise (λ i j d l m. let x = (round.entries i d (omega arith)).era in let y = (round.entries j d m).era in omega arith) (λ i d l k c m. let x = o.eras_past i d l in let y = (round.entries k c m).era in omega arith);
    }

pub rounds_rise : {S : Type 0} (mode : Mode) (limits : Limits) (bare : Bare S) (plan : List Turn) (p : Progress) → Reaches mode limits bare plan p → RoundsNeverFall p.entries
rounds_rise mode limits bare plan p r = (in_order mode limits bare plan p r).rise

pub eras_rise : {S : Type 0} (mode : Mode) (limits : Limits) (bare : Bare S) (plan : List Turn) (p : Progress) → Reaches mode limits bare plan p → ErasNeverFall p.entries
eras_rise mode limits bare plan p r = (in_order mode limits bare plan p r).eras_rise
