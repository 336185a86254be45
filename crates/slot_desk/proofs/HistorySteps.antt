-- A desk goes with its history, step by step.
use Rattle.std.proofs.Common.{◌≡◌, ◌<◌, ◌≤◌, ◌+◌, ◌==◌, ◌⊎◌, ℕ, Bool, true, false, nat_lt, Option, Some, None, List, [], ◌∷◌, ◌++◌, length, get_or, slice_index, set, refl, sym, ap, ◌∙◌, inl, inr, arith, eq-eqb, ne_eqb}
use Rattle.std.specs.Prelude.{count_by}
use Rattle.std.proofs.Math.ListN.{get_or-eq_default}
use Rattle.std.proofs.lemmas.Bool.{cases_eq, cases_lt, cases_Bool, lt-ltb, le-ltb}
use Rattle.run_record.specs.declared.event.Event.{Event}
use Rattle.run_record.specs.declared.event.Event.TheVariants.{Create, End}
use Rattle.run_record.specs.declared.entry.Label.{Label}
use Rattle.run_record.specs.declared.entry.DeskNote.TheVariants.{Nothing, Attach, Leave}
use Rattle.run_record.specs.declared.limits.Limits.{Limits}
use Rattle.run_laws.specs.Numbers.{up_from}
use Rattle.run_laws.specs.Moments.{Does, Notes, NewEra}
use Rattle.run_laws.specs.Labels.{Labels, is_end, can_attach, new_era, next_labels, next_queue}
use Rattle.run_laws.specs.Clocks.{Clocks, attach_clocks, event_clocks, no_clocks, next_clocks}
use Rattle.slot_desk.specs.declared.slot.Attachment.{Attachment}
use Rattle.slot_desk.specs.declared.answers.Created.TheVariants.{Thread}
use Rattle.slot_desk.specs.Desks.{SlotContents, DeskContents, no_slot, slot_of, thread_of, live_of, held_of, held_from}
use Rattle.slot_desk.specs.Steps.{attached_slot, spent_slot, after_attach, after_detach, is_full, created, after_create, after_end, after_reset, new_desk}
use Rattle.slot_desk.specs.History.{Tells, IsDesk, slot_at}
use Rattle.slot_desk.proofs.Holders.{held_of-some, none_from-held_from, held_from-only}
use Rattle.slot_desk.proofs.KeptLaws.{given_back_last, given_back_more}
use Rattle.slot_desk.proofs.HistorySlots.{quiet_slots, front_is_free, attach_slots, detach_slots, end_slots, fresh_slots_are}
use Rattle.slot_desk.proofs.HistoryClocks.{given_stays, ended_stays, left_stays, told_same, left_same, left_kept, told_create, told_end, left_end, left_fresh, told_fresh, told_first}

-- an item that changes nothing
pub step_nothing : (g n : ℕ) (l : Labels) (k : Clocks) (q : List ℕ) (d : DeskContents) (t : ℕ) → IsDesk g n l k q d → IsDesk g n (next_labels g l (Notes t Nothing)) (next_clocks g l k (Notes t Nothing)) (next_queue g n l (Notes t Nothing) q) d
step_nothing g n l k q d t b = b

-- an event that is neither a Create nor an End
pub step_event : (g n : ℕ) (l : Labels) (k : Clocks) (q : List ℕ) (d : DeskContents) (t : ℕ) (w : Event) → is_end w ≡ false → ((u : ℕ) → w ≡ Create u → ⊥) → IsDesk g n l k q d →
    IsDesk g n (next_labels g l (Does t w)) (next_clocks g l k (Does t w)) (next_queue g n l (Does t w) q) d
step_event g n l k q d t w quiet other b =
    record {
      greatest = b.greatest;
      same_queue = b.same_queue ∙ rw quiet refl;
      slots = quiet_slots g n l d.queue d.slots t w quiet b.slots;
      left = left_same n k (event_clocks g l k t w) d.slots (λ s r. left_stays g l k t w s r quiet) b.left;
      told = told_same n k (event_clocks g l k t w) d.made d.threads (λ u r. given_stays g l k t w u r (other u)) (λ u r. ended_stays g l k t w u r (λ e z. absurd (let y = rw e at quiet in cc))) b.told;
    }

-- a thread that holds no slot has no label
pub unlabelled : (g n : ℕ) (l : Labels) (k : Clocks) (q : List ℕ) (d : DeskContents) (t : ℕ) → IsDesk g n l k q d → held_of d t ≡ None → l.slot_of t ≡ None
unlabelled g n l k q d t b none = go (l.slot_of t) refl
  where
    go : (o : Option ℕ) → l.slot_of t ≡ o → l.slot_of t ≡ None
    go None e = e
    go (Some s) e = absurd (let p = b.slots.holds t s e in none_from-held_from 0 t d.slots none s p.0 p.1 p.2)

-- What is known where the thread takes slot s.
pub record Attaches (g n : ℕ) (l : Labels) (k : Clocks) (d : DeskContents) (t s : ℕ) : Type 0 where
  pub can : can_attach l t s ≡ true
  pub within : s < n
  pub epoch : l.epoch s ≡ (slot_of d s).last

pub attaches : (g n : ℕ) (l : Labels) (k : Clocks) (q rest : List ℕ) (d : DeskContents) (t s : ℕ) → IsDesk g n l k q d → held_of d t ≡ None → q ≡ s ∷ rest → Attaches g n l k d t s
attaches g n l k q rest d t s b none e =
    let front = front_is_free d.queue rest d.slots s b.slots.queued (b.same_queue ∙ e) in
    let free = b.slots.free s front.0 in
    record {
      can = rw (unlabelled g n l k q d t b none, free.0) refl;
      within = (let a = b.slots.all_slots in let m = front.2 in omega arith);
      epoch = free.1;
    }

pub step_attach : (g n : ℕ) (l : Labels) (k : Clocks) (q rest : List ℕ) (d : DeskContents) (t : ℕ) (label : Label) → IsDesk g n l k q d → held_of d t ≡ None → q ≡ label.sid ∷ rest →
    IsDesk g n (next_labels g l (Notes t (Attach label))) (next_clocks g l k (Notes t (Attach label))) (next_queue g n l (Notes t (Attach label)) q) (after_attach d t)
step_attach g n l k q rest d t label b none e =
    rw (a.can, b.same_queue ∙ e, e)
    (record {
      greatest = b.greatest;
      same_queue = refl;
      slots = attach_slots g n l d.queue rest d.slots t label.sid b.slots (b.same_queue ∙ e) (none_from-held_from 0 t d.slots none);
      left = left_same n k (attach_clocks l k t label.sid) (set d.slots label.sid (attached_slot t (slot_at d.slots label.sid))) (λ s r. refl) (left_kept n k d.slots label.sid (attached_slot t (slot_at d.slots label.sid)) within refl b.left);
      told = told_same n k (attach_clocks l k t label.sid) d.made d.threads (λ u r. refl) (λ u r. refl) b.told;
    })
  where
    a : Attaches g n l k d t label.sid
    a = attaches g n l k q rest d t label.sid b none e

    within : label.sid < length d.slots
    within = let m = a.within in let z = b.slots.all_slots in omega arith

-- the Leave of a thread that has lost its label
pub step_detach : (g n : ℕ) (l : Labels) (k : Clocks) (q : List ℕ) (d : DeskContents) (t : ℕ) (label : Label) (s since : ℕ) → IsDesk g n l k q d → held_of d t ≡ Some (s, since) → l.slot_of t ≡ None →
    IsDesk g n (next_labels g l (Notes t (Leave label))) (next_clocks g l k (Notes t (Leave label))) (next_queue g n l (Notes t (Leave label)) q) (after_detach d t)
step_detach g n l k q d t label s since b held lost =
    rw held
    (record {
      greatest = b.greatest;
      same_queue = b.same_queue;
      slots = detach_slots g n l d.queue d.slots t s since b.slots held lost;
      left = left_kept n k d.slots s (spent_slot (slot_at d.slots s)) (held_of-some d.slots t s since held).0 refl b.left;
      told = b.told;
    })

pub step_create : (g n : ℕ) (l : Labels) (k : Clocks) (q : List ℕ) (d : DeskContents) (t : ℕ) (clock : List ℕ) → IsDesk g n l k q d → created d ≡ Thread d.made → length clock ≡ n → Tells n clock (k.thread t) →
    IsDesk g n (next_labels g l (Does t (Create d.made))) (next_clocks g l k (Does t (Create d.made))) (next_queue g n l (Does t (Create d.made)) q) (after_create d clock)
step_create g n l k q d t clock b made long tells =
    rw room
    (record {
      greatest = b.greatest;
      same_queue = b.same_queue;
      slots = quiet_slots g n l d.queue d.slots t (Create d.made) refl b.slots;
      left = left_same n k (event_clocks g l k t (Create d.made)) d.slots (λ s r. left_stays g l k t (Create d.made) s r refl) b.left;
      told = told_create g n l k d.made d.threads t clock b.told more long tells;
    })
  where
    room : is_full d ≡ false
    room = elim (cases_Bool (is_full d)) [ inr e ↦ e | inl e ↦ absurd (let z = rw e at made in cc) ]

    more : d.made ≡ 1024 → ⊥
    more e = go (live_of d == d.harts) refl
      where
        go : (c : Bool) → (live_of d == d.harts) ≡ c → ⊥
        go true z = let y = rw z at room in cc
        go false z = let y = rw (z, eq-eqb d.made 1024 e) at room in cc

-- the only slot that a thread owns is the one that it holds
pub held_only : (slots : List SlotContents) (t s : ℕ) (a : Attachment) → s < length slots → (get_or slots s no_slot).owner ≡ Some a → a.tid ≡ t → ((r : ℕ) (c : Attachment) → (get_or slots r no_slot).owner ≡ Some c → c.tid ≡ t → r ≡ s) → held_from 0 t slots ≡ Some (s, a.epoch)
held_only slots t s a within o e one = held_from-only 0 t s slots within one ∙ (let z : 0 + s ≡ s = omega arith in rw (z, o, eq-eqb a.tid t e) refl)

owner_within : (slots : List SlotContents) (s : ℕ) (a : Attachment) → (get_or slots s no_slot).owner ≡ Some a → s < length slots
owner_within slots s a o = elim (cases_lt s (length slots)) [ inl m ↦ m | inr m ↦ absurd (let z = rw (get_or-eq_default slots no_slot {n = s} m) at o in cc) ]

-- a thread with a label holds its slot
pub labelled_holds : (g n : ℕ) (l : Labels) (k : Clocks) (q : List ℕ) (d : DeskContents) (t s : ℕ) → IsDesk g n l k q d → l.slot_of t ≡ Some s → (s < n) × ((since : ℕ) × (held_of d t ≡ Some (s, since)) × (since ≤ l.epoch s))
labelled_holds g n l k q d t s b e =
    let p = b.slots.holds t s e in
    let within = owner_within d.slots s p.0 p.1 in
    let all = b.slots.all_slots in
    let o = b.slots.owned s p.0 p.1 in
    (omega arith, (p.0.epoch, held_only d.slots t s p.0 within p.1 p.2 (λ r c x y. b.slots.one_slot r s c p.0 x p.1 (y ∙ sym p.2)), o.1))

pub step_end : (g n : ℕ) (l : Labels) (k : Clocks) (q : List ℕ) (d : DeskContents) (t s : ℕ) (clock : List ℕ) → IsDesk g n l k q d → (thread_of d t).lives ≡ true → l.slot_of t ≡ Some s → slice_index clock s ≡ l.epoch s → l.epoch s ≤ g → length clock ≡ n → Tells n clock (k.thread t) →
    IsDesk g n (next_labels g l (Does t End)) (next_clocks g l k (Does t End)) (next_queue g n l (Does t End) q) (after_end d t clock)
step_end g n l k q d t s clock b alive e own most long tells = go (cases_eq (l.epoch s) g)
  where
    held : (s < n) × ((since : ℕ) × (held_of d t ≡ Some (s, since)) × (since ≤ l.epoch s))
    held = labelled_holds g n l k q d t s b e

    within : s < length d.slots
    within = let m = held.0 in let z = b.slots.all_slots in omega arith

    alone : count_by (λ x. x == s) d.queue ≡ 0
    alone = let p = b.slots.holds t s e in b.slots.queued s ∙ rw p.1 refl

    go : ((l.epoch s ≡ g) ⊎ (l.epoch s ≡ g → ⊥)) → IsDesk g n (next_labels g l (Does t End)) (next_clocks g l k (Does t End)) (next_queue g n l (Does t End) q) (after_end d t clock)
    go (inl z) =
        let last : (l.epoch s == d.greatest) ≡ true = eq-eqb (l.epoch s) d.greatest (z ∙ sym b.greatest) in
        let full : nat_lt (l.epoch s) g ≡ false = le-ltb (l.epoch s) g (omega arith) in
        rw (held.1.1, own, last)
        (record {
          greatest = b.greatest;
          same_queue = b.same_queue ∙ rw (e, full) refl;
          slots = end_slots g n l d.queue d.queue d.slots t s true clock b.slots e within full (given_back_last g (l.epoch s) s d.queue alone);
          left = left_end g n l k d.slots t s (l.epoch s) true clock b.left e within long tells;
          told = told_end g n l k d.made d.threads t clock b.told alive long tells;
        })
    go (inr z) =
        let last : (l.epoch s == d.greatest) ≡ false = ne_eqb (l.epoch s) d.greatest (λ y. z (y ∙ b.greatest)) in
        let below : l.epoch s < g = omega arith in
        let room : nat_lt (l.epoch s) g ≡ true = lt-ltb (l.epoch s) g below in
        rw (held.1.1, own, last)
        (record {
          greatest = b.greatest;
          same_queue = rw (e, room) (ap (λ x. x ++ s ∷ []) b.same_queue);
          slots = end_slots g n l d.queue (d.queue ++ s ∷ []) d.slots t s false clock b.slots e within room (given_back_more g (l.epoch s) s d.queue alone below);
          left = left_end g n l k d.slots t s (l.epoch s) false clock b.left e within long tells;
          told = told_end g n l k d.made d.threads t clock b.told alive long tells;
        })

pub step_era : (g n : ℕ) (l : Labels) (k : Clocks) (q : List ℕ) (d : DeskContents) → IsDesk g n l k q d → IsDesk g n (next_labels g l NewEra) (next_clocks g l k NewEra) (next_queue g n l NewEra q) (after_reset d)
step_era g n l k q d b =
    rw b.slots.all_slots
    (record {
      greatest = b.greatest;
      same_queue = refl;
      slots = fresh_slots_are g n (l.era + 1);
      left = left_fresh n;
      told = told_fresh n k d.made d.threads b.told;
    })

pub step_first : (limits : Limits) → IsDesk limits.epochs limits.slots (new_era 0) no_clocks (up_from 0 limits.slots) (new_desk limits)
step_first limits =
    record {
      greatest = refl;
      same_queue = refl;
      slots = fresh_slots_are limits.epochs limits.slots 0;
      left = left_fresh limits.slots;
      told = told_first limits.slots 1023 refl;
    }
