-- What stands in a history after one item more.
use Rattle.std.proofs.Common.{◌≡◌, ◌≤◌, inl, inr, ℕ, suc, List, [], ◌∷◌, ◌++◌, length, take, Option, Some, None, refl, sym, ap, ◌∙◌, arith}
use Rattle.std.specs.Prelude.{fold, filter_map, option_to_list}
use Rattle.std.specs.List.{cons_option}
use Rattle.std.proofs.lemmas.Bool.{cases_lt}
use Rattle.std.proofs.lemmas.List.{take_all}
use Rattle.std.proofs.lemmas.List.Sums.{fold-append}
use Rattle.std.proofs.lemmas.List.Elements.{filter_map-append}
use Rattle.std.proofs.Math.Seq.{take-suc}
use Rattle.std.proofs.Math.ListN.{get_or-eq_default}
use Rattle.run_record.specs.declared.event.Event.{Event}
use Rattle.run_laws.specs.Moments.{Past, Moment, moment_at, items}
use Rattle.run_laws.specs.Stacks.{event_by, events_before, frames, frames_after, kept_locks, locks_after}

past : Moment
past = record { entry = 0; round = 0; item = Past; checks = [] }

one_event : (t : ℕ) (m : Moment) → filter_map (λ (m : Moment). event_by t m.item) (m ∷ []) ≡ option_to_list (event_by t m.item)
one_event t m = go (event_by t m.item)
  where
    go : (o : Option Event) → cons_option o [] ≡ option_to_list o
    go None = refl
    go (Some e) = refl

pub append_nil : {X : Type 0} (xs : List X) → xs ++ [] ≡ xs
append_nil [] = refl
append_nil (x ∷ xs) = ap (λ ys. x ∷ ys) (append_nil xs)

module _ (h : List Moment) (n t : ℕ) where
  -- past the end there is no event
  none_past : length h ≤ n → option_to_list (event_by t (items h n)) ≡ []
  unfolding past
  none_past l = ap (λ (m : Moment). option_to_list (event_by t m.item)) (get_or-eq_default h past l)

  events_next : events_before h (suc n) t ≡ events_before h n t ++ option_to_list (event_by t (items h n))
  unfolding past
  events_next = elim (cases_lt n (length h)) [
    | inl l ↦ ap (filter_map (λ (m : Moment). event_by t m.item)) (take-suc h n past l)
        ∙ (filter_map-append (λ (m : Moment). event_by t m.item) (take n h) (moment_at h n ∷ [])
        ∙ ap (λ (es : List Event). events_before h n t ++ es) (one_event t (moment_at h n)))
    | inr l ↦ ap (filter_map (λ (m : Moment). event_by t m.item)) (take_all (suc n) h (omega arith) ∙ sym (take_all n h l))
        ∙ (sym (append_nil (events_before h n t)) ∙ ap (λ (es : List Event). events_before h n t ++ es) (sym (none_past l)))
  ]

  pub frames_next : frames h (suc n) t ≡ fold frames_after (frames h n t) (option_to_list (event_by t (items h n)))
  frames_next = ap (fold frames_after []) events_next ∙ fold-append frames_after [] (events_before h n t) (option_to_list (event_by t (items h n)))

  pub locks_next : kept_locks h (suc n) t ≡ fold locks_after (kept_locks h n t) (option_to_list (event_by t (items h n)))
  locks_next = ap (fold locks_after []) events_next ∙ fold-append locks_after [] (events_before h n t) (option_to_list (event_by t (items h n)))
