-- A round's entries of turns: their instructions, and that they are of the round.
use Rattle.std.proofs.Common.{◌≡◌, ℕ, ◌+◌, ◌==◌, true, Option, Some, None, List, [], ◌∷◌, ◌++◌, length, refl, ap, ◌∙◌, arith, eq-eqb, zero-add}
use Rattle.std.specs.Prelude.{All, filter, option_map, option_to_list}
use Rattle.std.specs.List.{list_any}
use Rattle.std.proofs.lemmas.List.Elements.{All-nil, All-cons, All-head, All-tail, All-append, filter-append}
use Rattle.std.proofs.lemmas.List.Sums.{sum_by-append}
use Rattle.run_record.specs.declared.entry.Entry.{Entry}
use Rattle.run_record.specs.declared.entry.Label.{Label}
use Rattle.run_laws.specs.Rounds.{Progress, Due, IsInRound, steps_in, steps_by}
use Rattle.turn_laws.specs.Turns.{Turn, attach_entry, instructions_entry, leave_entry, attach_entries, leave_entries, entries_of}

pub steps_more : (part more : List Entry) → steps_in (part ++ more) ≡ steps_in part + steps_in more
steps_more part more = sum_by-append (λ (e : Entry). e.steps) part more

pub steps_by_more : (t : ℕ) (part more : List Entry) → steps_by t (part ++ more) ≡ steps_by t part + steps_by t more
steps_by_more t part more = ap steps_in (filter-append (λ (e : Entry). e.tid == t) part more) ∙ steps_more (filter (λ (e : Entry). e.tid == t) part) (filter (λ (e : Entry). e.tid == t) more)

module _ (n : ℕ) (turn : Turn) where
  k : ℕ
  k = n + length (attach_entries n turn)

  taken_none : (o : Option Label) → steps_in (option_to_list (option_map (attach_entry (n + 1) turn) o)) ≡ 0
  taken_none None = refl
  taken_none (Some l) = refl

  left_none : (o : Option Label) → steps_in (option_to_list (option_map (leave_entry (k + 1 + 1) turn) o)) ≡ 0
  left_none None = refl
  left_none (Some l) = refl

  pub turn_steps : steps_in (entries_of n turn) ≡ turn.steps
  unfolding k
  turn_steps =
      let a = taken_none turn.attached in
      let b = left_none turn.left in
      let c : steps_in (instructions_entry (k + 1) turn ∷ leave_entries (k + 1) turn) ≡ turn.steps + steps_in (leave_entries (k + 1) turn) = steps_more (instructions_entry (k + 1) turn ∷ []) (leave_entries (k + 1) turn) ∙ ap (λ n. n + steps_in (leave_entries (k + 1) turn)) (zero-add turn.steps) in
      steps_more (attach_entries n turn) (instructions_entry (k + 1) turn ∷ leave_entries (k + 1) turn) ∙ omega arith

  -- each of the turn's entries
  all_of : (P : Entry → Type 0) → ((stamp : ℕ) (l : Label) → P (attach_entry stamp turn l)) → ((stamp : ℕ) → P (instructions_entry stamp turn)) → ((stamp : ℕ) (l : Label) → P (leave_entry stamp turn l)) → All P (entries_of n turn)
  unfolding k
  all_of P taken made left = All-append P (attach_entries n turn) (instructions_entry (k + 1) turn ∷ leave_entries (k + 1) turn) (first turn.attached) (All-cons P (instructions_entry (k + 1) turn) (leave_entries (k + 1) turn) (made (k + 1)) (last turn.left))
    where
      first : (o : Option Label) → All P (option_to_list (option_map (attach_entry (n + 1) turn) o))
      first None = All-nil P
      first (Some l) = All-cons P (attach_entry (n + 1) turn l) [] (taken (n + 1) l) (All-nil P)

      last : (o : Option Label) → All P (option_to_list (option_map (leave_entry (k + 1 + 1) turn) o))
      last None = All-nil P
      last (Some l) = All-cons P (leave_entry (k + 1 + 1) turn l) [] (left (k + 1 + 1) l) (All-nil P)

  pub turn_in_round : (p : Progress) (ds : List Due) → turn.round ≡ p.round → turn.era ≡ p.era → list_any (λ (d : Due). d.tid == turn.tid) ds ≡ true → All (IsInRound p ds) (entries_of n turn)
  turn_in_round p ds r e d =
      all_of (IsInRound p ds) (λ s l. record { round = r; era = e; due = d }) (λ s. record { round = r; era = e; due = d }) (λ s l. record { round = r; era = e; due = d })

  pub turn_steps_by : steps_by turn.tid (entries_of n turn) ≡ turn.steps
  turn_steps_by = ap steps_in (kept (entries_of n turn) (all_of (λ (e : Entry). e.tid ≡ turn.tid) (λ s l. refl) (λ s. refl) (λ s l. refl))) ∙ turn_steps
    where
      kept : (es : List Entry) → All (λ (e : Entry). e.tid ≡ turn.tid) es → filter (λ (e : Entry). e.tid == turn.tid) es ≡ es
      kept [] a = refl
      kept (e ∷ es) a = rw (eq-eqb e.tid turn.tid (All-head (λ (e : Entry). e.tid ≡ turn.tid) e es a)) (ap (λ (xs : List Entry). e ∷ xs) (kept es (All-tail (λ (e : Entry). e.tid ≡ turn.tid) e es a)))
