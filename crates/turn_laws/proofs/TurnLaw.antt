-- A history that is lawful so far stays so with one more turn.
use Rattle.std.proofs.Common.{◌≡◌, ◌≢◌, ℕ, ◌+◌, ◌<◌, ◌≤◌, true, Option, Some, None, List, [], ◌∷◌, ◌++◌, append_assoc, length, length-append, refl, sym, ap, subst, ◌∙◌, arith, inl, inr}
use Rattle.std.specs.Prelude.{All, option_map, option_to_list, slice_get}
use Rattle.std.proofs.lemmas.List.{append-nil}
use Rattle.std.proofs.lemmas.List.Elements.{All-nil, All-cons, All-append}
use Rattle.run_record.specs.declared.entry.DeskNote.TheVariants.{Attach, Leave}
use Rattle.run_record.specs.declared.entry.Label.{Label}
use Rattle.run_record.specs.declared.entry.Entry.{Entry}
use Rattle.run_record.specs.declared.limits.Limits.{Limits}
use Rattle.run_laws.specs.Moments.{Moment, moments, moments_in, last_era, era_moments, entry_moments}
use Rattle.run_laws.specs.DeskNotes.{AreNotes}
use Rattle.run_laws.specs.Faithful.{Bare, state_after, state_before, object_of, has_needy, needs_slot, IsMade}
use Rattle.run_laws.specs.Present.{label_now}
use Rattle.run_laws.proofs.MomentsLaw.{moments-push}
use Rattle.turn_laws.specs.SoFar.{IsLawfulSoFar}
use Rattle.turn_laws.specs.Going.{HasSpent}
use Rattle.turn_laws.specs.Turns.{Turn, attach_entry, leave_entry, instructions_entry, attach_entries, leave_entries, entries_before, main_entry, entries_of, note_moment, IsTurn}
use Rattle.turn_laws.proofs.Growth.{MayFollow, state_stay, state_quiet, needs_grow, needs_last, old_or_last}
use Rattle.turn_laws.proofs.Shape.{moments_in-push, quiet_news}
use Rattle.turn_laws.proofs.ButNotes.{IsLawfulButNotes, but_notes-push}
use Rattle.turn_laws.proofs.TurnNotes.{taken_moments, left_moments, TakesNow, notes_stand, labelled_then}
use Rattle.turn_laws.proofs.NoteEntry.{note_right, note_grouped, note_follows}

-- the entries with the one that takes the label
abbrev with_attach : List Entry → Turn → Option Label → List Entry
with_attach entries turn o = entries ++ option_to_list (option_map (attach_entry (length entries + 1) turn) o)

-- and their moments before the next entry
pub before_shape : (entries : List Entry) (turn : Turn) (o : Option Label) → moments_in turn.round turn.era (with_attach entries turn o) ≡ moments_in turn.round turn.era entries ++ taken_moments (length entries) turn o
before_shape entries turn None = rw (append-nil entries) (sym (append-nil (moments_in turn.round turn.era entries)))
before_shape entries turn (Some l) = moments_in-push entries (attach_entry (length entries + 1) turn l)

-- the entry that leaves the label, after n entries
abbrev pub leaving : ℕ → Turn → Option Label → List Entry
leaving n turn o = option_to_list (option_map (leave_entry (n + 1) turn) o)

-- the moments of some entries, an entry of the turn, and one that leaves a label
whole_shape : (xs : List Entry) (turn : Turn) (x : Entry) (n : ℕ) (o : Option Label) → x.round ≡ turn.round → x.era ≡ turn.era → moments ((xs ++ x ∷ []) ++ leaving n turn o) ≡ (moments_in turn.round turn.era xs ++ entry_moments (length xs) x) ++ left_moments (length (xs ++ x ∷ [])) turn o
whole_shape xs turn x n None r e =
    ap moments (append-nil (xs ++ x ∷ []))
    ∙ (moments-push xs x
    ∙ (ap (λ r. moments_in r x.era xs ++ entry_moments (length xs) x) r
    ∙ (ap (λ e. moments_in turn.round e xs ++ entry_moments (length xs) x) e
    ∙ sym (append-nil (moments_in turn.round turn.era xs ++ entry_moments (length xs) x)))))
whole_shape xs turn x n (Some l) r e =
    moments-push (xs ++ x ∷ []) (leave_entry (n + 1) turn l)
    ∙ ap (λ (ms : List Moment). ms ++ entry_moments (length (xs ++ x ∷ [])) (leave_entry (n + 1) turn l))
    (ap (λ r. moments_in r turn.era (xs ++ x ∷ [])) (sym r)
    ∙ (ap (λ e. moments_in x.round e (xs ++ x ∷ [])) (sym e)
    ∙ (moments_in-push xs x
    ∙ (ap (λ r. moments_in r x.era xs ++ entry_moments (length xs) x) r
    ∙ ap (λ e. moments_in turn.round e xs ++ entry_moments (length xs) x) e))))

-- the entries of the turn after those that stand
pub new_is : (entries : List Entry) (turn : Turn) → entries ++ entries_of (length entries) turn ≡ (entries_before entries turn ++ main_entry entries turn ∷ []) ++ leaving (length (entries_before entries turn) + 1) turn turn.left
new_is entries turn =
    let z : length entries + length (attach_entries (length entries) turn) ≡ length (entries_before entries turn) = sym (length-append entries (attach_entries (length entries) turn)) in
    ap (λ k. entries ++ (attach_entries (length entries) turn ++ (instructions_entry (k + 1) turn ∷ leave_entries (k + 1) turn))) z
    ∙ (sym (append_assoc entries (attach_entries (length entries) turn) (main_entry entries turn ∷ leaving (length (entries_before entries turn) + 1) turn turn.left))
    ∙ sym (append_assoc (entries_before entries turn) (main_entry entries turn ∷ []) (leaving (length (entries_before entries turn) + 1) turn turn.left)))

module _ {S : Type 0} (limits : Limits) (bare : Bare S) (granule_of : ℕ → Option ℕ) (entries : List Entry) (turn : Turn) (old : IsLawfulSoFar limits bare granule_of entries) (can : IsTurn limits bare granule_of entries turn) where
  abbrev before : List Entry
  before = entries_before entries turn

  abbrev main : Entry
  main = main_entry entries turn

  abbrev h : List Moment
  h = moments_in turn.round turn.era entries

  without_notes : IsLawfulButNotes limits bare granule_of entries
  without_notes = record { faithful = old.faithful; labelled = old.labelled; checks = old.checks; stores = old.stores; loads = old.loads; rounds = old.rounds; eras = old.eras }

  before_lawful : (o : Option Label) → IsLawfulButNotes limits bare granule_of (with_attach entries turn o)
  before_lawful None = subst (IsLawfulButNotes limits bare granule_of) (sym (append-nil entries)) without_notes
  before_lawful (Some l) =
      but_notes-push limits bare granule_of entries (attach_entry (length entries + 1) turn l) without_notes
      (note_follows bare entries (length entries + 1) turn (Attach l) (λ q. absurd cc) refl) (λ n. absurd cc) (note_grouped (length entries + 1) turn (Attach l))
      (note_right limits.epochs granule_of h (length entries) (length entries + 1) turn (Attach l)) can.rounds_so_far can.eras_so_far

  same_state : (o : Option Label) → state_after bare (with_attach entries turn o) ≡ state_after bare entries
  same_state None = ap (state_after bare) (append-nil entries)
  same_state (Some l) = state_quiet bare entries (attach_entry (length entries + 1) turn l) refl

  -- the thread's instructions of the round ended in one that uses an object
  GoesOn : List Entry → Type 0
  GoesOn xs = (i : ℕ) (f : Entry) → slice_get xs i ≡ Some f → f.tid ≡ turn.tid → f.round ≡ turn.round → 0 < f.steps → object_of bare (state_before bare xs i) f ≢ None

  goes_on : (o : Option Label) → GoesOn (with_attach entries turn o)
  unfolding GoesOn
  goes_on None = subst GoesOn (sym (append-nil entries)) can.goes_on
  goes_on (Some l) = λ i f q t r s. elim (old_or_last entries (attach_entry (length entries + 1) turn l) i f q) [
    | inl o ↦ rw (state_stay bare entries (attach_entry (length entries + 1) turn l ∷ []) i (let z = o.0 in omega arith)) (can.goes_on i f o.1 t r s)
    | inr o ↦ absurd (let z = ap (λ (x : Entry). x.steps) o.1 in omega arith)
  ]

  all_before : (P : Entry → Type 0) → All P entries → ((l : Label) → P (attach_entry (length entries + 1) turn l)) → (o : Option Label) → All P (with_attach entries turn o)
  all_before P a f None = subst (All P) (sym (append-nil entries)) a
  all_before P a f (Some l) = All-append P entries (attach_entry (length entries + 1) turn l ∷ []) a (All-cons P (attach_entry (length entries + 1) turn l) [] (f l) (All-nil P))

  rounds : All (λ (e : Entry). e.round ≤ turn.round) before
  rounds = all_before (λ (e : Entry). e.round ≤ turn.round) can.rounds_so_far (λ l. omega arith) turn.attached

  eras : All (λ (e : Entry). e.era ≤ turn.era) before
  eras = all_before (λ (e : Entry). e.era ≤ turn.era) can.eras_so_far (λ l. omega arith) turn.attached

  takes : (l : Label) → turn.attached ≡ Some l → TakesNow limits h turn.tid l
  takes l a = let may = can.taken l a in record { unlabelled = may.unlabelled; rest = may.rest; front = may.front; new_epoch = may.new_epoch; present_era = may.present_era }

  labelled : (o : Option Label) → turn.attached ≡ o → has_needy bare (state_after bare entries) main ≡ true → label_now limits.epochs (h ++ taken_moments (length entries) turn o) turn.tid ≢ None
  labelled None a n = subst (λ (ms : List Moment). label_now limits.epochs ms turn.tid ≢ None) (sym (append-nil h)) (can.labelled a n)
  labelled (Some l) a n =
      labelled_then limits (needs_slot bare entries) (moments entries) (era_moments (last_era entries) (length entries) turn.round turn.era)
      (quiet_news (moments entries) (last_era entries) (length entries) turn.round turn.era) old.notes
      (note_moment (length entries) turn (Attach l)) turn.tid l refl (takes l a)

  main_follows : MayFollow bare before main
  main_follows =
      let some = can.some_steps in
      record {
        made = subst (λ (s : S). IsMade bare s main) (sym (same_state turn.attached)) can.made;
        apart = rw (same_state turn.attached) can.apart;
        noted = λ z. absurd (omega arith);
        unnoted = λ l. refl;
        numbered = refl;
        goes_on = λ l. unfold GoesOn in goes_on turn.attached;
      }

  main_lawful : IsLawfulButNotes limits bare granule_of (before ++ main ∷ [])
  main_lawful =
      but_notes-push limits bare granule_of before main (before_lawful turn.attached) main_follows
      (λ n. subst (λ (ms : List Moment). label_now limits.epochs ms turn.tid ≢ None) (sym (before_shape entries turn turn.attached)) (labelled turn.attached refl (ap (λ (s : S). has_needy bare s main) (sym (same_state turn.attached)) ∙ n)))
      can.grouped can.right rounds eras

  abbrev new : List Entry
  new = (before ++ main ∷ []) ++ leaving (length before + 1) turn turn.left

  leave_lawful : (o : Option Label) → IsLawfulButNotes limits bare granule_of ((before ++ main ∷ []) ++ leaving (length before + 1) turn o)
  leave_lawful None = subst (IsLawfulButNotes limits bare granule_of) (sym (append-nil (before ++ main ∷ []))) main_lawful
  leave_lawful (Some l) =
      let k : length before + 1 + 1 ≡ length (before ++ main ∷ []) + 1 = omega (arith, length-append before (main ∷ [])) in
      but_notes-push limits bare granule_of (before ++ main ∷ []) (leave_entry (length before + 1 + 1) turn l) main_lawful
      (note_follows bare (before ++ main ∷ []) (length before + 1 + 1) turn (Leave l) (λ q. absurd cc) k) (λ n. absurd cc) (note_grouped (length before + 1 + 1) turn (Leave l))
      (note_right limits.epochs granule_of (moments_in turn.round turn.era (before ++ main ∷ [])) (length (before ++ main ∷ [])) (length before + 1 + 1) turn (Leave l))
      (All-append (λ (e : Entry). e.round ≤ turn.round) before (main ∷ []) rounds (All-cons (λ (e : Entry). e.round ≤ turn.round) main [] (omega arith) (All-nil (λ (e : Entry). e.round ≤ turn.round))))
      (All-append (λ (e : Entry). e.era ≤ turn.era) before (main ∷ []) eras (All-cons (λ (e : Entry). e.era ≤ turn.era) main [] (omega arith) (All-nil (λ (e : Entry). e.era ≤ turn.era))))

  grows : (i : ℕ) → needs_slot bare entries i ≡ true → needs_slot bare new i ≡ true
  grows i n = ap (λ (xs : List Entry). needs_slot bare xs i) (sym (new_is entries turn)) ∙ needs_grow bare entries (entries_of (length entries) turn) i n

  main_needs : has_needy bare (state_after bare entries) main ≡ true → needs_slot bare new (length before) ≡ true
  main_needs n =
      ap (λ (xs : List Entry). needs_slot bare xs (length before)) (append_assoc before (main ∷ []) (leaving (length before + 1) turn turn.left))
      ∙ (needs_last bare before main (leaving (length before + 1) turn turn.left)
      ∙ (ap (λ (s : S). has_needy bare s main) (same_state turn.attached) ∙ n))

  notes : AreNotes limits (needs_slot bare new) (moments new)
  notes =
      subst (AreNotes limits (needs_slot bare new)) (sym (whole_shape before turn main (length before + 1) turn.left refl refl))
      (subst (λ (ms : List Moment). AreNotes limits (needs_slot bare new) ((ms ++ entry_moments (length before) main) ++ left_moments (length (before ++ main ∷ [])) turn turn.left)) (sym (before_shape entries turn turn.attached))
      (notes_stand turn (moments entries) (era_moments (last_era entries) (length entries) turn.round turn.era) (length entries) (length before) (length (before ++ main ∷ [])) main
      (quiet_news (moments entries) (last_era entries) (length entries) turn.round turn.era) refl refl refl
      limits (needs_slot bare entries) (needs_slot bare new) grows old.notes
      (λ l a. (takes l a, main_needs (can.taken l a).needed))
      (subst (λ (ms : List Moment). HasSpent limits (ms ++ entry_moments (length before) main) (length ms) turn.tid turn.left) (before_shape entries turn turn.attached) can.spent)))

  pub lawful-turn : IsLawfulSoFar limits bare granule_of (entries ++ entries_of (length entries) turn)
  lawful-turn =
      let all = leave_lawful turn.left in
      subst (IsLawfulSoFar limits bare granule_of) (sym (new_is entries turn))
      (record { faithful = all.faithful; labelled = all.labelled; notes = notes; checks = all.checks; stores = all.stores; loads = all.loads; rounds = all.rounds; eras = all.eras })
