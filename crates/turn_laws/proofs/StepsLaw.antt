-- What a turn is made of, and what stands after it.
use Rattle.std.proofs.Common.{◌≡◌, ◌≢◌, ℕ, ◌+◌, ◌-◌, ◌<◌, ◌≤◌, ◌||◌, Bool, true, false, Option, Some, None, List, [], ◌∷◌, ◌++◌, append_assoc, length, length-append, refl, sym, ap, subst, ◌∙◌, arith, inl, inr, add-one, zero-add, ne_eqb}
use Rattle.std.specs.Prelude.{All, option_map, option_to_list}
use Rattle.std.specs.List.{list_any}
use Rattle.std.proofs.lemmas.List.{append-nil}
use Rattle.std.proofs.lemmas.List.Elements.{All-nil, All-cons, All-append}
use Rattle.std.proofs.lemmas.List.Sums.{fold-append}
use Rattle.std.proofs.lemmas.Bool.{cases_eq}
use Rattle.std.proofs.lemmas.Option.{slice_get_within, get_or_from_slice_get}
use Rattle.run_record.specs.declared.event.Event.{Event}
use Rattle.run_record.specs.declared.entry.DeskNote.TheVariants.{Nothing, Attach, Leave}
use Rattle.run_record.specs.declared.entry.Entry.{Entry}
use Rattle.run_record.specs.declared.entry.Label.{Label}
use Rattle.run_record.specs.declared.entry.Check.{Check}
use Rattle.run_laws.specs.Numbers.{up_from}
use Rattle.run_laws.specs.Moments.{Does, Moment, moments_in, entry_moments}
use Rattle.run_laws.specs.Faithful.{Bare, IsMade, after, events_made, has_needy, object_of, state_after}
use Rattle.run_laws.proofs.EntryLaw.{entry_moments-push}
use Rattle.turn_laws.specs.Going.{AreOfEvents}
use Rattle.turn_laws.specs.Turns.{Turn, GoesOn, attach_entry, instructions_entry, leave_entry, attach_entries, leave_entries, entries_before, main_entry, entries_of, moments_before, moments_up_to, note_moment, attach_moments, leave_moments, turn_with_event, with_instruction}
use Rattle.turn_laws.proofs.Growth.{state_stay, state_last, state_quiet, old_or_last}
use Rattle.turn_laws.proofs.Shape.{moments_in-push}
use Rattle.turn_laws.proofs.GroupedLaw.{up_from-push}
use Rattle.turn_laws.proofs.TurnLaw.{before_shape, leaving, new_is}

pub before_is : (entries : List Entry) (turn : Turn) → moments_before entries turn ≡ moments_in turn.round turn.era entries ++ attach_moments (length entries) turn
before_is entries turn = before_shape entries turn turn.attached

pub begin_is : (entries : List Entry) (turn : Turn) → turn.events ≡ [] → moments_up_to entries turn ≡ moments_before entries turn ++ note_moment (length (entries_before entries turn)) turn Nothing ∷ []
begin_is entries turn none = ap (λ (es : List Event). moments_before entries turn ++ entry_moments (length (entries_before entries turn)) (record (main_entry entries turn) { events = es })) none

pub event_is :
    (entries : List Entry) (turn : Turn) (event : Event) (checks : List Check) → AreOfEvents (main_entry entries turn) → All (λ (c : Check). c.event ≡ length turn.events) checks →
    moments_up_to entries (turn_with_event turn event checks) ≡ moments_up_to entries turn ++ record { entry = length (entries_before entries turn); round = turn.round; item = Does turn.tid event; checks = checks } ∷ []
event_is entries turn event checks old new =
    ap (λ (ms : List Moment). moments_before entries turn ++ ms) (entry_moments-push (length (entries_before entries turn)) (main_entry entries turn) event checks old new)
    ∙ sym (append_assoc (moments_before entries turn) (entry_moments (length (entries_before entries turn)) (main_entry entries turn)) (record { entry = length (entries_before entries turn); round = turn.round; item = Does turn.tid event; checks = checks } ∷ []))

pub end_is : (entries : List Entry) (turn : Turn) → moments_in turn.round turn.era (entries ++ entries_of (length entries) turn) ≡ moments_up_to entries turn ++ leave_moments (length (entries_before entries turn) + 1) turn
end_is entries turn = ap (moments_in turn.round turn.era) (new_is entries turn) ∙ go turn.left
  where
    before : List Entry
    before = entries_before entries turn

    main : Entry
    main = main_entry entries turn

    go : (o : Option Label) → moments_in turn.round turn.era ((before ++ main ∷ []) ++ leaving (length before + 1) turn o) ≡ moments_up_to entries turn ++ option_to_list (option_map (λ (l : Label). note_moment (length before + 1) turn (Leave l)) o)
    go None =
        ap (moments_in turn.round turn.era) (append-nil (before ++ main ∷ []))
        ∙ (moments_in-push before main ∙ sym (append-nil (moments_up_to entries turn)))
    go (Some l) =
        let long : length (before ++ main ∷ []) ≡ length before + 1 = omega (arith, length-append before (main ∷ [])) in
        moments_in-push (before ++ main ∷ []) (leave_entry (length before + 1 + 1) turn l)
        ∙ (ap (λ (ms : List Moment). ms ++ entry_moments (length (before ++ main ∷ [])) (leave_entry (length before + 1 + 1) turn l)) (moments_in-push before main)
        ∙ ap (λ k. moments_up_to entries turn ++ entry_moments k (leave_entry (length before + 1 + 1) turn l)) long)

any-append : (p : ℕ → Bool) (xs ys : List ℕ) → list_any p (xs ++ ys) ≡ (list_any p xs || list_any p ys)
any-append p [] ys = refl
any-append p (x ∷ xs) ys = ap (λ b. p x || b) (any-append p xs ys) ∙ either (p x) (list_any p xs) (list_any p ys)
  where
    either : (a b c : Bool) → (a || (b || c)) ≡ ((a || b) || c)
    either true b c = refl
    either false b c = refl

module _ {S : Type 0} (bare : Bare S) where
  pub state_next : (s : S) (t n : ℕ) → after bare s t (n + 1) ≡ (bare.step (after bare s t n) t).state
  state_next s t n = ap (after bare s t) (add-one n)

  pub made_next : (s : S) (e : Entry) → IsMade bare s e → bare.lives (after bare s e.tid e.steps) e.tid ≡ true → IsMade bare s (with_instruction bare s e)
  made_next s e made alive = record {
    alive = λ k l. elim (cases_eq k e.steps) [
      | inl z ↦ ap (λ n. bare.lives (after bare s e.tid n) e.tid) z ∙ alive
      | inr d ↦ made.alive k (omega arith)
    ];
    events_are = ap (λ (es : List Event). es ++ (bare.step (after bare s e.tid e.steps) e.tid).events) made.events_are ∙ ap (events_made bare s e.tid) (sym (add-one e.steps));
  }

  pub needs_next : (s : S) (e : Entry) → has_needy bare s (with_instruction bare s e) ≡ (has_needy bare s e || bare.needs_slot (after bare s e.tid e.steps) e.tid)
  needs_next s e =
      ap (list_any p) (ap (up_from 0) (add-one e.steps) ∙ (up_from-push 0 e.steps ∙ ap (λ n. up_from 0 e.steps ++ n ∷ []) (zero-add e.steps)))
      ∙ (any-append p (up_from 0 e.steps) (e.steps ∷ []) ∙ ap (λ b. list_any p (up_from 0 e.steps) || b) (last (p e.steps)))
    where
      p : ℕ → Bool
      p k = bare.needs_slot (after bare s e.tid k) e.tid

      last : (b : Bool) → (b || false) ≡ b
      last true = refl
      last false = refl

  -- a label that is taken leaves the state
  pub before_state : (entries : List Entry) (turn : Turn) (o : Option Label) → state_after bare (entries ++ option_to_list (option_map (attach_entry (length entries + 1) turn) o)) ≡ state_after bare entries
  before_state entries turn None = ap (state_after bare) (append-nil entries)
  before_state entries turn (Some l) = state_quiet bare entries (attach_entry (length entries + 1) turn l) refl

  pub state_after_turn : (entries : List Entry) (turn : Turn) → state_after bare (entries ++ entries_of (length entries) turn) ≡ after bare (state_after bare entries) turn.tid turn.steps
  state_after_turn entries turn =
      ap (state_after bare) (new_is entries turn)
      ∙ (left turn.left
      ∙ (fold-append (λ (s : S) (e : Entry). after bare s e.tid e.steps) bare.start (entries_before entries turn) (main_entry entries turn ∷ [])
      ∙ ap (λ (s : S). after bare s turn.tid turn.steps) (before_state entries turn turn.attached)))
    where
      left : (o : Option Label) → state_after bare ((entries_before entries turn ++ main_entry entries turn ∷ []) ++ leaving (length (entries_before entries turn) + 1) turn o) ≡ state_after bare (entries_before entries turn ++ main_entry entries turn ∷ [])
      left None = ap (state_after bare) (append-nil (entries_before entries turn ++ main_entry entries turn ∷ []))
      left (Some l) = state_quiet bare (entries_before entries turn ++ main_entry entries turn ∷ []) (leave_entry (length (entries_before entries turn) + 1 + 1) turn l) refl

  pub first_goes_on : (entries : List Entry) (t round : ℕ) → All (λ (e : Entry). e.round < round) entries → GoesOn bare entries t round
  first_goes_on entries t round earlier i f q thread same some =
      absurd (let l = earlier i f (slice_get_within entries i f q) in let z = ap (λ (e : Entry). e.round) (get_or_from_slice_get entries i f f q) in omega arith)

  -- the thread goes on past an entry of its own that ends in an instruction with an object, and past one without instructions
  goes_on-push :
      (xs : List Entry) (x : Entry) (t round : ℕ) → GoesOn bare xs t round →
      (0 < x.steps → object_of bare (state_after bare xs) x ≢ None) → GoesOn bare (xs ++ x ∷ []) t round
  goes_on-push xs x t round on last i f q thread same some = elim (old_or_last xs x i f q) [
    | inl o ↦ rw (state_stay bare xs (x ∷ []) i (let z = o.0 in omega arith)) (on i f o.1 thread same some)
    | inr o ↦
        rw (o.0, state_last bare xs (x ∷ []))
        (subst (λ (f : Entry). object_of bare (state_after bare xs) f ≢ None) o.1 (last (let z = ap (λ (e : Entry). e.steps) o.1 in omega arith)))
  ]

  pub turn_goes_on :
      (entries : List Entry) (turn : Turn) → GoesOn bare entries turn.tid turn.round →
      (bare.step (after bare (state_after bare entries) turn.tid (turn.steps - 1)) turn.tid).object ≢ None →
      GoesOn bare (entries ++ entries_of (length entries) turn) turn.tid turn.round
  turn_goes_on entries turn on object =
      subst (λ (xs : List Entry). GoesOn bare xs turn.tid turn.round) (sym (new_is entries turn))
      (left turn.left (goes_on-push (entries_before entries turn) (main_entry entries turn) turn.tid turn.round (taken turn.attached) uses))
    where
      taken : (o : Option Label) → GoesOn bare (entries ++ option_to_list (option_map (attach_entry (length entries + 1) turn) o)) turn.tid turn.round
      taken None = subst (λ (xs : List Entry). GoesOn bare xs turn.tid turn.round) (sym (append-nil entries)) on
      taken (Some l) = goes_on-push entries (attach_entry (length entries + 1) turn l) turn.tid turn.round on (λ some. absurd (omega arith))

      uses : 0 < turn.steps → object_of bare (state_after bare (entries_before entries turn)) (main_entry entries turn) ≢ None
      uses some = rw (ne_eqb turn.steps 0 (λ z. omega arith), before_state entries turn turn.attached) object

      left :
          (o : Option Label) → GoesOn bare (entries_before entries turn ++ main_entry entries turn ∷ []) turn.tid turn.round →
          GoesOn bare ((entries_before entries turn ++ main_entry entries turn ∷ []) ++ leaving (length (entries_before entries turn) + 1) turn o) turn.tid turn.round
      left None on = subst (λ (xs : List Entry). GoesOn bare xs turn.tid turn.round) (sym (append-nil (entries_before entries turn ++ main_entry entries turn ∷ []))) on
      left (Some l) on = goes_on-push (entries_before entries turn ++ main_entry entries turn ∷ []) (leave_entry (length (entries_before entries turn) + 1 + 1) turn l) turn.tid turn.round on (λ some. absurd (omega arith))

-- what holds of the entries so far and of each of the turn's
all_after : (P : Entry → Type 0) (entries : List Entry) (turn : Turn) → All P entries → ((stamp : ℕ) (l : Label) → P (attach_entry stamp turn l)) → ((stamp : ℕ) → P (instructions_entry stamp turn)) → ((stamp : ℕ) (l : Label) → P (leave_entry stamp turn l)) → All P (entries ++ entries_of (length entries) turn)
all_after P entries turn a taken made left =
    All-append P entries (entries_of (length entries) turn) a
    (All-append P (attach_entries (length entries) turn) (instructions_entry (k + 1) turn ∷ leave_entries (k + 1) turn) (first turn.attached)
    (All-cons P (instructions_entry (k + 1) turn) (leave_entries (k + 1) turn) (made (k + 1)) (last turn.left)))
  where
    k : ℕ
    k = length entries + length (attach_entries (length entries) turn)

    first : (o : Option Label) → All P (option_to_list (option_map (attach_entry (length entries + 1) turn) o))
    first None = All-nil P
    first (Some l) = All-cons P (attach_entry (length entries + 1) turn l) [] (taken (length entries + 1) l) (All-nil P)

    last : (o : Option Label) → All P (option_to_list (option_map (leave_entry (k + 1 + 1) turn) o))
    last None = All-nil P
    last (Some l) = All-cons P (leave_entry (k + 1 + 1) turn l) [] (left (k + 1 + 1) l) (All-nil P)

pub rounds_after : (entries : List Entry) (turn : Turn) (round : ℕ) → All (λ (e : Entry). e.round ≤ round) entries → turn.round ≤ round → All (λ (e : Entry). e.round ≤ round) (entries ++ entries_of (length entries) turn)
rounds_after entries turn round a l = all_after (λ (e : Entry). e.round ≤ round) entries turn a (λ s x. l) (λ s. l) (λ s x. l)

pub eras_after : (entries : List Entry) (turn : Turn) (era : ℕ) → All (λ (e : Entry). e.era ≤ era) entries → turn.era ≤ era → All (λ (e : Entry). e.era ≤ era) (entries ++ entries_of (length entries) turn)
eras_after entries turn era a l = all_after (λ (e : Entry). e.era ≤ era) entries turn a (λ s x. l) (λ s. l) (λ s x. l)

-- the same, by whether a label is taken
pub before_without : (entries : List Entry) (turn : Turn) → turn.attached ≡ None → moments_before entries turn ≡ moments_in turn.round turn.era entries
before_without entries turn none =
    before_is entries turn
    ∙ (ap (λ o. moments_in turn.round turn.era entries ++ option_to_list (option_map (λ (l : Label). note_moment (length entries) turn (Attach l)) o)) none
    ∙ append-nil (moments_in turn.round turn.era entries))

pub before_with : (entries : List Entry) (turn : Turn) (l : Label) → turn.attached ≡ Some l → moments_before entries turn ≡ moments_in turn.round turn.era entries ++ note_moment (length entries) turn (Attach l) ∷ []
before_with entries turn l some =
    before_is entries turn
    ∙ ap (λ o. moments_in turn.round turn.era entries ++ option_to_list (option_map (λ (l : Label). note_moment (length entries) turn (Attach l)) o)) some

pub count_without : (entries : List Entry) (turn : Turn) → turn.attached ≡ None → length (entries_before entries turn) ≡ length entries
count_without entries turn none =
    let z : length (attach_entries (length entries) turn) ≡ 0 = ap (λ o. length (option_to_list (option_map (attach_entry (length entries + 1) turn) o))) none in
    omega (arith, length-append entries (attach_entries (length entries) turn))

pub count_with : (entries : List Entry) (turn : Turn) (l : Label) → turn.attached ≡ Some l → length (entries_before entries turn) ≡ length entries + 1
count_with entries turn l some =
    let z : length (attach_entries (length entries) turn) ≡ 1 = ap (λ o. length (option_to_list (option_map (attach_entry (length entries + 1) turn) o))) some in
    omega (arith, length-append entries (attach_entries (length entries) turn))
