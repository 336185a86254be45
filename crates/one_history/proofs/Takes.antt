-- What a history tells where a label is taken.
use Rattle.std.proofs.Common.{◌≡◌, ◌≢◌, ℕ, zero, suc, ◌+◌, ◌-◌, ◌<◌, true, Option, None, List, [], ◌∷◌, ◌++◌, append_assoc, length, length-append, map, refl, sym, ap, ap₂, subst, ◌∙◌, arith}
use Rattle.std.specs.Prelude.{All}
use Rattle.std.specs.List.{enumerate_from}
use Rattle.std.proofs.Math.Seq.{get_or-append_seam}
use Rattle.std.proofs.lemmas.List.Elements.{All-head, All-tail}
use Rattle.run_record.specs.declared.event.Event.{Event}
use Rattle.run_record.specs.declared.entry.DeskNote.{DeskNote}
use Rattle.run_record.specs.declared.entry.DeskNote.TheVariants.{Nothing, Attach}
use Rattle.run_record.specs.declared.entry.Label.{Label}
use Rattle.run_record.specs.declared.entry.Entry.{Entry}
use Rattle.run_record.specs.declared.limits.Limits.{Limits}
use Rattle.run_laws.specs.Moments.{Notes, Moment, moment_at, items, moments, moments_in, event_moment}
use Rattle.run_laws.specs.Labels.{Labels, labels, queue}
use Rattle.run_laws.specs.DeskNotes.{IsNextEntry, IsRightAttach}
use Rattle.run_laws.specs.Faithful.{Bare, after, state_after, has_needy, needs_slot}
use Rattle.run_laws.specs.Present.{labels_now, queue_now}
use Rattle.run_laws.proofs.MomentsLaw.{moments-push}
use Rattle.run_laws.proofs.PresentLaw.{labels_stay, queue_stay}
use Rattle.turn_laws.proofs.Carry.{past}
use Rattle.turn_laws.proofs.Growth.{state_quiet, needs_last}
use Rattle.one_history.proofs.Split.{rest_from, moments-split, any_found, IsOf, Side, Told, begins, told, step-side}
use Rattle.one_history.proofs.Next.{IsHead, next_in}

-- An entry takes the label l of a free slot: what the desk was like before it, and that the thread's next entry, which
-- has an instruction that needs a slot, is the next of the part.
pub record Takes {S : Type 0} (limits : Limits) (bare : Bare S) (round era t : ℕ) (xs : List Entry) (x : Entry) (part : List Entry) (l : Label) : Type 0 where
  pub steps : x.steps ≡ 0
  pub unlabelled : (labels_now limits.epochs (moments_in round era xs)).slot_of t ≡ None
  pub others : List ℕ
  pub front : queue_now limits.epochs limits.slots (moments_in round era xs) ≡ l.sid ∷ others
  pub new_epoch : l.epoch ≡ (labels_now limits.epochs (moments_in round era xs)).epoch l.sid + 1
  pub present_era : l.era ≡ (labels_now limits.epochs (moments_in round era xs)).era
  pub same_state : state_after bare (xs ++ x ∷ []) ≡ state_after bare xs
  pub next : Entry
  pub rest : List Entry
  pub part_is : part ≡ next ∷ rest
  pub place : ℕ
  pub within : place < next.steps
  pub needs : bare.needs_slot (after bare (state_after bare xs) t place) t ≡ true

module _ {S : Type 0} (limits : Limits) (bare : Bare S) (granule_of : ℕ → Option ℕ) where
  -- an entry with a note has no steps
  no_steps : (note : DeskNote) (steps : ℕ) → (0 < steps → note ≡ Nothing) → note ≢ Nothing → steps ≡ 0
  no_steps note zero u d = refl
  no_steps note (suc n) u d = absurd (d (u (omega arith)))

  module _ (round era t n : ℕ) (xs : List Entry) (x : Entry) (part tail : List Entry) (l : Label) (side : Side limits bare granule_of round era t n xs (x ∷ part) tail) (note : x.note ≡ Attach l) where
    abbrev all : List Entry
    all = xs ++ x ∷ (part ++ tail)

    abbrev upto : List Entry
    upto = xs ++ x ∷ []

    abbrev h : List Moment
    h = moments_in x.round x.era xs

    abbrev here : List Moment
    here = moments_in round era xs

    abbrev begin : Moment
    begin = record { entry = length xs; round = x.round; item = Notes x.tid x.note; checks = [] }

    same : upto ++ (part ++ tail) ≡ all
    same = append_assoc xs (x ∷ []) (part ++ tail)

    known : Told limits bare granule_of round era t xs x part
    known = told limits bare granule_of round era t n xs x part tail side

    none : x.steps ≡ 0
    none = no_steps x.note x.steps known.unnoted (λ q. let y = sym note ∙ q in cc)

    right : IsRightAttach limits (needs_slot bare all) (moments all) (length h) t l
    right =
        subst (λ u. IsRightAttach limits (needs_slot bare all) (moments all) (length h) u l) known.is_of.by
        (side.lawful.notes.attached (length h) x.tid l (ap (λ (m : Moment). m.item) (begins limits bare granule_of xs x (part ++ tail)) ∙ ap (Notes x.tid) note))

    there : h ≡ here
    there = ap₂ (λ (r e : ℕ). moments_in r e xs) known.is_of.in_round known.is_of.in_era

    labels_are : labels limits.epochs (items (moments all)) (length h) ≡ labels_now limits.epochs here
    labels_are =
        ap (λ (ms : List Moment). labels limits.epochs (items ms) (length h)) (moments-split xs x (part ++ tail))
        ∙ (labels_stay limits.epochs h (rest_from xs x (part ++ tail)) (length h) (omega arith) ∙ ap (labels_now limits.epochs) there)

    queue_is : queue limits.epochs limits.slots (items (moments all)) (length h) ≡ queue_now limits.epochs limits.slots here
    queue_is =
        ap (λ (ms : List Moment). queue limits.epochs limits.slots (items ms) (length h)) (moments-split xs x (part ++ tail))
        ∙ (queue_stay limits.epochs limits.slots h (rest_from xs x (part ++ tail)) (length h) (omega arith) ∙ ap (queue_now limits.epochs limits.slots) there)

    -- the entry has one moment
    one : moments upto ≡ h ++ begin ∷ []
    one = moments-push xs x ∙ ap (λ (es : List Event). h ++ begin ∷ map (event_moment (length xs) x) (enumerate_from 0 es)) (known.noted none).1

    long : length (moments upto) ≡ length h + 1
    long = ap length one ∙ length-append h (begin ∷ [])

    state : state_after bare upto ≡ state_after bare xs
    state = state_quiet bare xs x none

    head : IsHead upto part right.note (moment_at (moments (upto ++ (part ++ tail))) right.next)
    head =
        let length_is = long in
        next_in limits bare granule_of round era t (n - x.steps) upto part tail (step-side limits bare granule_of round era t n xs x part tail side) (length h) right.next right.note
        (omega arith)
        (ap (λ (ms : List Moment). (moment_at ms (length h)).round) one ∙ (ap (λ (m : Moment). m.round) (get_or-append_seam h begin [] past) ∙ known.is_of.in_round))
        (λ j other late early q. omega arith)
        (subst (λ (es : List Entry). IsNextEntry (moments es) (length h) t right.next right.note) (sym same) right.next_entry)

    number : (moment_at (moments all) right.next).entry ≡ length upto
    number = ap (λ (es : List Entry). (moment_at (moments es) right.next).entry) (sym same) ∙ head.number

    whole : all ≡ upto ++ head.entry ∷ (head.rest ++ tail)
    whole = sym same ∙ ap (λ (es : List Entry). upto ++ (es ++ tail)) head.part_is

    thread : head.entry.tid ≡ t
    thread = (All-head (IsOf round era t) head.entry head.rest (subst (All (IsOf round era t)) head.part_is (All-tail (IsOf round era t) x part side.here))).by

    needy : has_needy bare (state_after bare xs) head.entry ≡ true
    needy =
        ap (λ (s : S). has_needy bare s head.entry) (sym state)
        ∙ (sym (needs_last bare upto head.entry (head.rest ++ tail))
        ∙ (ap (λ (es : List Entry). needs_slot bare es (length upto)) (sym whole)
        ∙ (ap (needs_slot bare all) (sym number) ∙ right.needed)))

    pub takes : Takes limits bare round era t xs x part l
    takes =
        let found = any_found (λ (k : ℕ). bare.needs_slot (after bare (state_after bare xs) head.entry.tid k) head.entry.tid) 0 head.entry.steps needy in
        let within = found.1 in
        record {
          steps = none;
          unlabelled = ap (λ (l : Labels). l.slot_of t) (sym labels_are) ∙ right.unlabelled;
          others = right.rest;
          front = sym queue_is ∙ right.front;
          new_epoch = right.new_epoch ∙ ap (λ (ls : Labels). ls.epoch l.sid + 1) labels_are;
          present_era = right.present_era ∙ ap (λ (ls : Labels). ls.era) labels_are;
          same_state = state;
          next = head.entry;
          rest = head.rest;
          part_is = head.part_is;
          place = found.0;
          within = omega arith;
          needs = subst (λ u. bare.needs_slot (after bare (state_after bare xs) u found.0) u ≡ true) thread found.2;
        }
