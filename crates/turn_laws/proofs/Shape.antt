-- The moments of one more entry, and which moments neither begin an entry nor make an event.
use Rattle.std.proofs.Common.{◌≡◌, ℕ, zero, suc, ◌+◌, ◌-◌, ◌<◌, ◌≤◌, Option, Some, None, List, [], ◌∷◌, ◌++◌, length, map, length-append, refl, sym, ap, subst, ◌∙◌, arith, ◌⊎◌, inl, inr}
use Rattle.std.specs.Prelude.{replicate, option_map, option_to_list}
use Rattle.std.specs.List.{enumerate_from}
use Rattle.std.proofs.lemmas.Bool.{cases_lt}
use Rattle.std.proofs.lemmas.List.{append-nil, get_or-replicate, length-replicate}
use Rattle.std.proofs.lemmas.List.Sums.{fold-append}
use Rattle.std.proofs.Math.Seq.{get_or-append_right}
use Rattle.run_record.specs.declared.event.Event.{Event}
use Rattle.run_record.specs.declared.entry.DeskNote.{DeskNote}
use Rattle.run_record.specs.declared.entry.Label.{Label}
use Rattle.run_record.specs.declared.entry.Entry.{Entry}
use Rattle.run_laws.specs.Moments.{Does, Notes, NewEra, Moment, moment_at, moments, moments_in, last_era, era_moments, entry_moments, event_moment}
use Rattle.run_laws.proofs.MomentsLaw.{moments-push}
use Rattle.turn_laws.proofs.Carry.{past, at_end}

pub moments_in-push : (xs : List Entry) (x : Entry) → moments_in x.round x.era (xs ++ x ∷ []) ≡ moments_in x.round x.era xs ++ entry_moments (length xs) x
moments_in-push xs x =
    let e : last_era (xs ++ x ∷ []) ≡ x.era = fold-append (λ (era : ℕ) (e : Entry). e.era) 0 xs (x ∷ []) in
    let z : x.era - x.era ≡ 0 = omega arith in
    ap (λ c. moments (xs ++ x ∷ []) ++ era_moments c (length (xs ++ x ∷ [])) x.round x.era) e
    ∙ (ap (λ n. moments (xs ++ x ∷ []) ++ replicate n (record { entry = length (xs ++ x ∷ []); round = x.round; item = NewEra; checks = [] })) z
    ∙ (append-nil (moments (xs ++ x ∷ [])) ∙ moments-push xs x))

-- the moment neither begins an entry nor is an event
pub record IsQuiet (m : Moment) : Type 0 where
  pub no_event : (t : ℕ) (e : Event) → m.item ≡ Does t e → ⊥
  pub no_note : (t : ℕ) (note : DeskNote) → m.item ≡ Notes t note → ⊥
  pub no_checks : m.checks ≡ []

pub quiet_past : IsQuiet past
quiet_past = record { no_event = λ t e q. absurd cc; no_note = λ t e q. absurd cc; no_checks = refl }

pub quiet_news : (xs : List Moment) (before i round era n : ℕ) → length xs ≤ n → IsQuiet (moment_at (xs ++ era_moments before i round era) n)
quiet_news xs before i round era n l =
    subst IsQuiet (sym (get_or-append_right xs (era_moments before i round era) n past l)) (elim (cases_lt (n - length xs) (era - before)) [
      | inl a ↦ subst IsQuiet (sym (get_or-replicate (era - before) (n - length xs) news past a)) (record { no_event = λ t e q. absurd cc; no_note = λ t e q. absurd cc; no_checks = refl })
      | inr a ↦ subst IsQuiet (sym (at_end (era_moments before i round era) (n - length xs) (omega (arith, length-replicate (era - before) news)))) quiet_past
    ])
  where
    news : Moment
    news = record { entry = i; round = round; item = NewEra; checks = [] }

-- an event of the entry's thread in its round
pub record IsEventOf (e : Entry) (m : Moment) : Type 0 where
  pub event : Event
  pub made : m.item ≡ Does e.tid event
  pub in_round : m.round ≡ e.round

events_or_past : (i : ℕ) (e : Entry) (n : ℕ) (es : List Event) (k : ℕ) → (moment_at (map (event_moment i e) (enumerate_from n es)) k ≡ past) ⊎ IsEventOf e (moment_at (map (event_moment i e) (enumerate_from n es)) k)
events_or_past i e n [] k = inl refl
events_or_past i e n (x ∷ es) zero = inr (record { event = x; made = refl; in_round = refl })
events_or_past i e n (x ∷ es) (suc k) = events_or_past i e (n + 1) es k

-- after its beginning an entry has events
pub entry_or_past : (i : ℕ) (e : Entry) (k : ℕ) → 0 < k → (moment_at (entry_moments i e) k ≡ past) ⊎ IsEventOf e (moment_at (entry_moments i e) k)
entry_or_past i e zero l = absurd (omega arith)
entry_or_past i e (suc k) l = events_or_past i e 0 e.events k

-- a position past the first moments is one of those that follow
pub at_right : (xs ys : List Moment) (n : ℕ) → length xs ≤ n → moment_at (xs ++ ys) n ≡ moment_at ys (n - length xs)
at_right xs ys n l = get_or-append_right xs ys n past l

-- where one moment or none follows, a position there is that one's
pub at_one : (xs : List Moment) (f : Label → Moment) (o : Option Label) (n : ℕ) → length xs ≤ n → n < length (xs ++ option_to_list (option_map f o)) → (l : Label) × (o ≡ Some l) × (n ≡ length xs) × (moment_at (xs ++ option_to_list (option_map f o)) n ≡ f l)
at_one xs f None n l m = absurd (omega (arith, length-append xs []))
at_one xs f (Some x) n l m =
    let z : n ≡ length xs = omega (arith, length-append xs (f x ∷ [])) in
    let y : n - length xs ≡ 0 = omega arith in
    (x, refl, z, at_right xs (f x ∷ []) n l ∙ ap (moment_at (f x ∷ [])) y)
