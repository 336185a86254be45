-- What holds of a desk's memory stays so.
use Rattle.std.proofs.Common.{◌≡◌, ◌<◌, ◌≤◌, ◌+◌, ◌-◌, ◌==◌, ℕ, zero, suc, Bool, true, false, cond, if◌then◌else◌, not, Some, None, List, [], ◌∷◌, ◌++◌, length, get_or, set, map, replicate, refl, sym, ap, subst, ◌∙◌, inl, inr, arith, zero-add, eq-eqb, ne_eqb}
use Rattle.std.specs.Prelude.{sum_by, count_by, All}
use Rattle.std.proofs.Math.ListN.{length-set, length-map, length-replicate, get_or-eq_default}
use Rattle.std.proofs.lemmas.Bool.{cases_eq, cases_lt, cases_Bool}
use Rattle.std.proofs.lemmas.List.{get_or-set_same, get_or-set_other, map-set, set-get_or, get_or-map, get_or-replicate, length_push}
use Rattle.std.proofs.lemmas.List.Elements.{All-set, All-replicate, All-cons}
use Rattle.std.proofs.lemmas.List.Sums.{sum_by-set, sum_by-cons}
use Rattle.run_laws.specs.Numbers.{up_from}
use Rattle.slot_desk.specs.declared.slot.Attachment.{Attachment}
use Rattle.slot_desk.specs.declared.thread.ThreadState.{ThreadState}
use Rattle.slot_desk.specs.Desks.{SlotContents, ThreadContents, is_free, no_slot, no_thread, fresh_slot, held_from, held_or}
use Rattle.slot_desk.specs.Steps.{attachment, attached_slot, spent_slot, ended_slot, forgotten, is_full}
use Rattle.slot_desk.specs.Threads.{shown, blank_thread, untold}
use Rattle.slot_desk.specs.Kept.{IsKept, IsKeptThread, contents, slot_taken, attachments}
use Rattle.slot_desk.proofs.DeskLists.{times, at_each_set, read_at, sum_by_at, sum_by-replicate_zero, sum_by-replicate_one, length-up_from, times-up_from, times-cons_same, times-cons_other, times_push_same, times_push_other}
use Rattle.slot_desk.proofs.Holders.{none_from-held_from, held_of-some, held_from-only, held_from-none}

-- What a call that changes one slot, one thread and the queue has to show of them.
pub record IsChange (harts greatest made live after era : ℕ) (threads : List ThreadState) (slots : List SlotContents) (queue rest : List ℕ) (tid : ℕ) (t : ThreadState) (sid : ℕ) (s : SlotContents) : Type 0 where
  pub within : sid < length slots
  pub made_before : tid < made
  pub thread : IsKeptThread (length slots) era t
  pub left : length s.left ≡ length slots
  pub epochs : is_free s ≡ true → s.last < greatest
  pub owner : (a : Attachment) → s.owner ≡ Some a → (a.tid ≡ tid) × (t.slot ≡ sid)
  pub others : (r : ℕ) (a : Attachment) → (r ≡ sid → ⊥) → (get_or slots r no_slot).owner ≡ Some a → a.tid ≡ tid → t.slot ≡ r
  pub queued : times sid rest ≡ (if is_free s then 1 else 0)
  pub queued_others : (r : ℕ) → (r ≡ sid → ⊥) → times r rest ≡ times r queue
  pub queue_long : length rest + cond (is_free (get_or slots sid no_slot)) 1 0 ≡ length queue + cond (is_free s) 1 0
  pub counted : after + cond (get_or (map (shown era) threads) tid no_thread).lives 1 0 ≡ live + cond t.lives 1 0
  pub few_live : after ≤ harts
  pub live_made : after ≤ made
  pub room : attachments s + length rest + after ≤ attachments (get_or slots sid no_slot) + length queue + live

pub kept_change :
    (harts greatest made live after era : ℕ) (threads : List ThreadState) (slots : List SlotContents) (queue rest : List ℕ) (tid : ℕ) (t : ThreadState) (sid : ℕ) (s : SlotContents) →
    IsKept live era threads (contents harts greatest made era threads slots queue) →
    IsChange harts greatest made live after era threads slots queue rest tid t sid s →
    IsKept after era (set threads tid t) (contents harts greatest made era (set threads tid t) (set slots sid s) rest)
kept_change harts greatest made live after era threads slots queue rest tid t sid s k c =
    record {
      some_slots = rw length-set k.some_slots;
      few_slots = rw length-set k.few_slots;
      all_threads = rw length-set k.all_threads;
      few_made = k.few_made;
      told = rw (length-set slots sid s) (All-set (IsKeptThread (length slots) era) threads tid t c.thread k.told);
      unmade = λ r l. let e = k.unmade r l in let n : r ≡ tid → ⊥ = (λ q. let m = c.made_before in omega arith) in rw (map-set (shown era) threads tid t, get_or-set_other (map (shown era) threads) tid r (shown era t) no_thread n) e;
      counted = counted;
      few_live = c.few_live;
      live_made = c.live_made;
      some_epochs = k.some_epochs;
      few_epochs = k.few_epochs;
      left = λ i e l. rw (length-set slots sid s) (All-set (λ (x : SlotContents). length x.left ≡ length slots) slots sid s c.left k.left i e l);
      epochs = at_each_set (λ r x. is_free x ≡ true → x.last < greatest) slots sid s no_slot c.within c.epochs (λ r n. k.epochs r);
      owners = at_each_set (λ r x. (a : Attachment) → x.owner ≡ Some a → (a.tid < 1024) × (slot_taken (set threads tid t) a.tid ≡ r)) slots sid s no_slot c.within here there;
      queued = at_each_set (λ r x. times r rest ≡ (if is_free x then 1 else 0)) slots sid s no_slot c.within c.queued (λ r n. c.queued_others r n ∙ k.queued r);
      queue_long = long;
      room = room;
    }
  where
    small : tid < 1024
    small = let a = k.few_made in let b = c.made_before in omega arith

    in_threads : tid < length threads
    in_threads = let a = small in let b = k.all_threads in omega arith

    now : slot_taken (set threads tid t) tid ≡ t.slot
    now = ap (λ (x : ThreadState). x.slot) (get_or-set_same threads tid t (blank_thread 0) in_threads)

    here : (a : Attachment) → s.owner ≡ Some a → (a.tid < 1024) × (slot_taken (set threads tid t) a.tid ≡ sid)
    here a o =
        let p = c.owner a o in
        let l = small in
        let q = p.0 in
        (omega arith, subst (λ x. slot_taken (set threads tid t) x ≡ sid) (sym q) (now ∙ p.1))

    there : (r : ℕ) → (r ≡ sid → ⊥) → (a : Attachment) → (get_or slots r no_slot).owner ≡ Some a → (a.tid < 1024) × (slot_taken (set threads tid t) a.tid ≡ r)
    there r n a o =
        let p = k.owners r a o in
        elim (cases_eq a.tid tid) [
          | inl q ↦ (p.0, subst (λ x. slot_taken (set threads tid t) x ≡ r) (sym q) (now ∙ c.others r a n o q))
          | inr d ↦ (p.0, ap (λ (x : ThreadState). x.slot) (get_or-set_other threads tid a.tid t (blank_thread 0) d) ∙ p.1)
        ]

    counted : after ≡ count_by (λ (x : ThreadContents). x.lives) (map (shown era) (set threads tid t))
    counted =
        let l : tid < length (map (shown era) threads) = (let a = in_threads in rw length-map a) in
        let e = sum_by-set (λ (x : ThreadContents). cond x.lives 1 0) (map (shown era) threads) tid (shown era t) no_thread l in
        let a = k.counted in
        let b = c.counted in
        rw (map-set (shown era) threads tid t) (omega arith)

    long : length rest ≡ count_by is_free (set slots sid s)
    long =
        let e = sum_by-set (λ (x : SlotContents). cond (is_free x) 1 0) slots sid s no_slot c.within in
        let a = k.queue_long in
        let b = c.queue_long in
        omega arith

    room : sum_by attachments (set slots sid s) + length rest + after ≤ length (set slots sid s) + made
    room =
        let e = sum_by-set attachments slots sid s no_slot c.within in
        let a = k.room in
        let b = c.room in
        rw (length-set slots sid s) (omega arith)

-- what is seen of a thread
pub shown_at : (era : ℕ) (threads : List ThreadState) (tid : ℕ) → tid < length threads → get_or (map (shown era) threads) tid no_thread ≡ shown era (get_or threads tid (blank_thread 0))
shown_at era threads tid l = get_or-map (shown era) threads tid (blank_thread 0) no_thread l

-- a thread that lives was made
pub made_alive : (harts greatest made live era : ℕ) (threads : List ThreadState) (slots : List SlotContents) (queue : List ℕ) (tid : ℕ) →
    IsKept live era threads (contents harts greatest made era threads slots queue) → (get_or (map (shown era) threads) tid no_thread).lives ≡ true → (tid < made) × (tid < length threads) × (1 ≤ live)
made_alive harts greatest made live era threads slots queue tid k e =
    let before : tid < made = elim (cases_lt tid made) [ inl l ↦ l | inr l ↦ absurd (let u = k.unmade tid l in cc) ] in
    let few = k.few_made in
    let all = k.all_threads in
    let inside : tid < length threads = omega arith in
    let counted = k.counted in
    let seen : tid < length (map (shown era) threads) = rw length-map inside in
    let one = sum_by_at (λ (t : ThreadContents). cond t.lives 1 0) (map (shown era) threads) tid no_thread seen in
    let full : 1 ≤ sum_by (λ (t : ThreadContents). cond t.lives 1 0) (map (shown era) threads) = rw e at one in
    (before, inside, omega arith)

-- The slot is the queue's front: it is free, and stands nowhere else in the queue.
pub record IsFront (greatest : ℕ) (slots : List SlotContents) (sid : ℕ) (rest : List ℕ) : Type 0 where
  pub within : sid < length slots
  pub free : is_free (get_or slots sid no_slot) ≡ true
  pub below : (get_or slots sid no_slot).last < greatest
  pub alone : times sid rest ≡ 0
  pub journal : length (get_or slots sid no_slot).journal < 1279

pub kept_front :
    (harts greatest made live era : ℕ) (threads : List ThreadState) (slots : List SlotContents) (queue rest : List ℕ) (sid : ℕ) →
    IsKept live era threads (contents harts greatest made era threads slots queue) → queue ≡ sid ∷ rest → IsFront greatest slots sid rest
kept_front harts greatest made live era threads slots queue rest sid k q =
    record { within = within; free = free; below = k.epochs sid free; alone = alone; journal = journal }
  where
    counts : 1 + times sid rest ≡ cond (is_free (get_or slots sid no_slot)) 1 0
    counts = sym (times-cons_same sid rest) ∙ (ap (times sid) (sym q) ∙ k.queued sid)

    free : is_free (get_or slots sid no_slot) ≡ true
    free = elim (cases_Bool (is_free (get_or slots sid no_slot))) [ inl e ↦ e | inr e ↦ absurd (let z = rw e at counts in omega arith) ]

    alone : times sid rest ≡ 0
    alone = let z = rw free at counts in omega arith

    within : sid < length slots
    within = elim (cases_lt sid (length slots)) [ inl l ↦ l | inr l ↦ absurd (let z = rw (get_or-eq_default slots no_slot {n = sid} l) at free in cc) ]

    journal : length (get_or slots sid no_slot).journal < 1279
    journal =
        let a = k.room in
        let b = k.few_slots in
        let d = k.few_made in
        let e = sum_by_at attachments slots sid no_slot within in
        let f = ap length q in
        omega arith

pub kept_attach :
    (harts greatest made live era : ℕ) (threads : List ThreadState) (slots : List SlotContents) (queue rest : List ℕ) (tid : ℕ) (t : ThreadState) (sid : ℕ) (s : SlotContents) →
    IsKept live era threads (contents harts greatest made era threads slots queue) → queue ≡ sid ∷ rest → held_from 0 tid slots ≡ None → (get_or (map (shown era) threads) tid no_thread).lives ≡ true →
    t ≡ get_or threads tid (blank_thread 0) → s ≡ attached_slot tid (get_or slots sid no_slot) →
    IsKept live era (set threads tid (record t { slot = sid })) (contents harts greatest made era (set threads tid (record t { slot = sid })) (set slots sid s) rest)
kept_attach harts greatest made live era threads slots queue rest tid t sid s k q none alive old new =
    kept_change harts greatest made live live era threads slots queue rest tid (record t { slot = sid }) sid s k
    (subst (λ x. IsChange harts greatest made live live era threads slots queue rest tid (record t { slot = sid }) sid x) (sym new) change)
  where
    front : IsFront greatest slots sid rest
    front = kept_front harts greatest made live era threads slots queue rest sid k q

    before : (tid < made) × (tid < length threads) × (1 ≤ live)
    before = made_alive harts greatest made live era threads slots queue tid k alive

    told : IsKeptThread (length slots) era t
    told = subst (IsKeptThread (length slots) era) (sym old) (k.told tid (blank_thread 0) before.1)

    seen : (get_or (map (shown era) threads) tid no_thread).lives ≡ t.lives
    seen = ap (λ (x : ThreadContents). x.lives) (shown_at era threads tid before.1) ∙ ap (λ (x : ThreadState). x.lives) (sym old)

    here : (a : Attachment) → Some (attachment tid (get_or slots sid no_slot)) ≡ Some a → (a.tid ≡ tid) × (sid ≡ sid)
    here a e = let z : attachment tid (get_or slots sid no_slot) ≡ a = cc in (ap (λ (x : Attachment). x.tid) (sym z), refl)

    change : IsChange harts greatest made live live era threads slots queue rest tid (record t { slot = sid }) sid (attached_slot tid (get_or slots sid no_slot))
    change =
        record {
          within = front.within;
          made_before = before.0;
          thread = record { told = told.told; told_in = told.told_in; slot = front.within };
          left = k.left sid no_slot front.within;
          epochs = λ e. absurd (cc);
          owner = here;
          others = λ r a n o z. absurd (none_from-held_from 0 tid slots none r a o z);
          queued = front.alone;
          queued_others = λ r n. sym (times-cons_other r sid rest (λ z. n (sym z))) ∙ ap (times r) (sym q);
          queue_long = rw (front.free, q) (omega arith);
          counted = ap (λ b. live + cond b 1 0) seen;
          few_live = k.few_live;
          live_made = k.live_made;
          room = let a = ap length q in let b = length_push (get_or slots sid no_slot).journal (attachment tid (get_or slots sid no_slot)) in omega arith;
        }

-- a slot that is owned isn't queued
pub owned_alone :
    (harts greatest made live era : ℕ) (threads : List ThreadState) (slots : List SlotContents) (queue : List ℕ) (sid : ℕ) (a : Attachment) →
    IsKept live era threads (contents harts greatest made era threads slots queue) → (get_or slots sid no_slot).owner ≡ Some a → (is_free (get_or slots sid no_slot) ≡ false) × (times sid queue ≡ 0)
owned_alone harts greatest made live era threads slots queue sid a k o =
    let free : is_free (get_or slots sid no_slot) ≡ false = rw o refl in
    (free, k.queued sid ∙ rw free refl)

pub kept_detach :
    (harts greatest made live era : ℕ) (threads : List ThreadState) (slots : List SlotContents) (queue : List ℕ) (tid sid epoch : ℕ) (s : SlotContents) →
    IsKept live era threads (contents harts greatest made era threads slots queue) → (get_or (map (shown era) threads) tid no_thread).lives ≡ true →
    held_from 0 tid slots ≡ Some (sid, epoch) → s ≡ spent_slot (get_or slots sid no_slot) →
    IsKept live era threads (contents harts greatest made era threads (set slots sid s) queue)
kept_detach harts greatest made live era threads slots queue tid sid epoch s k alive holds new =
    subst (λ x. IsKept live era x (contents harts greatest made era x (set slots sid s) queue)) (set-get_or threads tid (blank_thread 0))
    (kept_change harts greatest made live live era threads slots queue queue tid (get_or threads tid (blank_thread 0)) sid s k
    (subst (λ x. IsChange harts greatest made live live era threads slots queue queue tid (get_or threads tid (blank_thread 0)) sid x) (sym new) change))
  where
    held : (sid < length slots) × ((a : Attachment) × ((get_or slots sid no_slot).owner ≡ Some a) × (a.tid ≡ tid) × (a.epoch ≡ epoch))
    held = held_of-some slots tid sid epoch holds

    before : (tid < made) × (tid < length threads) × (1 ≤ live)
    before = made_alive harts greatest made live era threads slots queue tid k alive

    alone : (is_free (get_or slots sid no_slot) ≡ false) × (times sid queue ≡ 0)
    alone = owned_alone harts greatest made live era threads slots queue sid held.1.0 k held.1.1

    change : IsChange harts greatest made live live era threads slots queue queue tid (get_or threads tid (blank_thread 0)) sid (spent_slot (get_or slots sid no_slot))
    change =
        record {
          within = held.0;
          made_before = before.0;
          thread = k.told tid (blank_thread 0) before.1;
          left = k.left sid no_slot held.0;
          epochs = λ e. absurd (cc);
          owner = λ a e. absurd (cc);
          others = λ r a n o z. subst (λ x. slot_taken threads x ≡ r) z (k.owners r a o).1;
          queued = alone.1;
          queued_others = λ r n. refl;
          queue_long = rw alone.0 refl;
          counted = ap (λ (x : ThreadContents). live + cond x.lives 1 0) (shown_at era threads tid before.1);
          few_live = k.few_live;
          live_made = k.live_made;
          room = omega arith;
        }

-- The queue after the thread's end: the slot joins it, unless its epoch is the last.
pub record IsGivenBack (greatest epoch sid : ℕ) (is_last : Bool) (queue rest : List ℕ) : Type 0 where
  pub here : times sid rest ≡ cond (not is_last) 1 0
  pub others : (r : ℕ) → (r ≡ sid → ⊥) → times r rest ≡ times r queue
  pub long : length rest ≡ length queue + cond (not is_last) 1 0
  pub below : not is_last ≡ true → epoch < greatest

pub given_back_last : (greatest epoch sid : ℕ) (queue : List ℕ) → times sid queue ≡ 0 → IsGivenBack greatest epoch sid true queue queue
given_back_last greatest epoch sid queue z = record { here = z; others = λ r n. refl; long = omega arith; below = λ e. absurd (cc) }

pub given_back_more : (greatest epoch sid : ℕ) (queue : List ℕ) → times sid queue ≡ 0 → epoch < greatest → IsGivenBack greatest epoch sid false queue (queue ++ sid ∷ [])
given_back_more greatest epoch sid queue z l =
    record {
      here = let e = times_push_same sid queue in omega arith;
      others = λ r n. times_push_other r sid queue (λ q. n (sym q));
      long = length_push queue sid;
      below = λ e. l;
    }

pub kept_end :
    (harts greatest made live era : ℕ) (threads : List ThreadState) (slots : List SlotContents) (queue rest : List ℕ) (tid : ℕ) (t : ThreadState) (sid since epoch : ℕ) (is_last : Bool) (clock : List ℕ) (s : SlotContents) →
    IsKept live era threads (contents harts greatest made era threads slots queue) → (get_or (map (shown era) threads) tid no_thread).lives ≡ true →
    held_from 0 tid slots ≡ Some (sid, since) → length clock ≡ length slots → IsGivenBack greatest epoch sid is_last queue rest →
    t ≡ record (get_or threads tid (blank_thread 0)) { lives = false; told = clock; told_in = era } → s ≡ ended_slot epoch is_last clock (get_or slots sid no_slot) →
    IsKept (live - 1) era (set threads tid t) (contents harts greatest made era (set threads tid t) (set slots sid s) rest)
kept_end harts greatest made live era threads slots queue rest tid t sid since epoch is_last clock s k alive holds long back ended new =
    kept_change harts greatest made live (live - 1) era threads slots queue rest tid t sid s k
    (subst (λ x. IsChange harts greatest made live (live - 1) era threads slots queue rest tid t sid x) (sym new)
    (subst (λ x. IsChange harts greatest made live (live - 1) era threads slots queue rest tid x sid (ended_slot epoch is_last clock (get_or slots sid no_slot))) (sym ended) change))
  where
    old : ThreadState
    old = get_or threads tid (blank_thread 0)

    held : (sid < length slots) × ((a : Attachment) × ((get_or slots sid no_slot).owner ≡ Some a) × (a.tid ≡ tid) × (a.epoch ≡ since))
    held = held_of-some slots tid sid since holds

    before : (tid < made) × (tid < length threads) × (1 ≤ live)
    before = made_alive harts greatest made live era threads slots queue tid k alive

    told : IsKeptThread (length slots) era (get_or threads tid (blank_thread 0))
    told = k.told tid (blank_thread 0) before.1

    owned : is_free (get_or slots sid no_slot) ≡ false
    owned = rw held.1.1 refl

    change : IsChange harts greatest made live (live - 1) era threads slots queue rest tid (record (get_or threads tid (blank_thread 0)) { lives = false; told = clock; told_in = era }) sid (ended_slot epoch is_last clock (get_or slots sid no_slot))
    change =
        record {
          within = held.0;
          made_before = before.0;
          thread = record { told = long; told_in = omega arith; slot = told.slot };
          left = long;
          epochs = λ e. back.below e;
          owner = λ a e. absurd (cc);
          others = λ r a n o z. subst (λ x. slot_taken threads x ≡ r) z (k.owners r a o).1;
          queued = back.here;
          queued_others = back.others;
          queue_long = rw owned (let e = back.long in omega arith);
          counted = rw alive (let l = before.2 in omega arith);
          few_live = let a = k.few_live in omega arith;
          live_made = let a = k.live_made in omega arith;
          room = let l = before.2 in let e = back.long in let m = at_most (not is_last) in omega arith;
        }
      where
        at_most : (b : Bool) → cond b 1 0 ≤ 1
        at_most true = omega arith
        at_most false = omega arith

pub kept_create :
    (harts greatest made live era : ℕ) (threads : List ThreadState) (slots : List SlotContents) (queue : List ℕ) (t : ThreadState) (clock : List ℕ) →
    IsKept live era threads (contents harts greatest made era threads slots queue) → (live ≡ harts → ⊥) → (made ≡ 1024 → ⊥) → length clock ≡ length slots →
    t ≡ record (get_or threads made (blank_thread 0)) { lives = true; told = clock; told_in = era } →
    IsKept (live + 1) era (set threads made t) (contents harts greatest (made + 1) era (set threads made t) slots queue)
kept_create harts greatest made live era threads slots queue t clock k some more long new =
    subst (λ x. IsKept (live + 1) era (set threads made x) (contents harts greatest (made + 1) era (set threads made x) slots queue)) (sym new) kept
  where
    fresh : ThreadState
    fresh = record (get_or threads made (blank_thread 0)) { lives = true; told = clock; told_in = era }

    inside : made < length threads
    inside = let a = k.few_made in let b = k.all_threads in omega arith

    told : IsKeptThread (length slots) era (get_or threads made (blank_thread 0))
    told = k.told made (blank_thread 0) inside

    slot_as_before : (tid : ℕ) → slot_taken (set threads made (record (get_or threads made (blank_thread 0)) { lives = true; told = clock; told_in = era })) tid ≡ slot_taken threads tid
    slot_as_before = at_each_set (λ tid (x : ThreadState). x.slot ≡ slot_taken threads tid) threads made (record (get_or threads made (blank_thread 0)) { lives = true; told = clock; told_in = era }) (blank_thread 0) inside refl (λ r n. refl)

    kept : IsKept (live + 1) era (set threads made (record (get_or threads made (blank_thread 0)) { lives = true; told = clock; told_in = era })) (contents harts greatest (made + 1) era (set threads made (record (get_or threads made (blank_thread 0)) { lives = true; told = clock; told_in = era })) slots queue)
    kept =
        record {
          some_slots = k.some_slots;
          few_slots = k.few_slots;
          all_threads = rw length-set k.all_threads;
          few_made = let a = k.few_made in omega arith;
          told = All-set (IsKeptThread (length slots) era) threads made (record (get_or threads made (blank_thread 0)) { lives = true; told = clock; told_in = era }) (record { told = long; told_in = omega arith; slot = told.slot }) k.told;
          unmade = λ r l. let n : r ≡ made → ⊥ = (λ q. omega arith) in let e = k.unmade r (omega arith) in rw (map-set (shown era) threads made (record (get_or threads made (blank_thread 0)) { lives = true; told = clock; told_in = era }), get_or-set_other (map (shown era) threads) made r (shown era (record (get_or threads made (blank_thread 0)) { lives = true; told = clock; told_in = era })) no_thread n) e;
          counted = counted;
          few_live = let a = k.few_live in omega arith;
          live_made = let a = k.live_made in omega arith;
          some_epochs = k.some_epochs;
          few_epochs = k.few_epochs;
          left = k.left;
          epochs = k.epochs;
          owners = λ sid a o. ((k.owners sid a o).0, slot_as_before a.tid ∙ (k.owners sid a o).1);
          queued = k.queued;
          queue_long = k.queue_long;
          room = let a = k.room in omega arith;
        }
      where
        counted : live + 1 ≡ count_by (λ (x : ThreadContents). x.lives) (map (shown era) (set threads made (record (get_or threads made (blank_thread 0)) { lives = true; told = clock; told_in = era })))
        counted =
            let l : made < length (map (shown era) threads) = (let a = inside in rw length-map a) in
            let e = sum_by-set (λ (x : ThreadContents). cond x.lives 1 0) (map (shown era) threads) made (shown era (record (get_or threads made (blank_thread 0)) { lives = true; told = clock; told_in = era })) no_thread l in
            let f = rw (k.unmade made (omega arith)) at e in
            let a = k.counted in
            rw (map-set (shown era) threads made (record (get_or threads made (blank_thread 0)) { lives = true; told = clock; told_in = era })) (omega arith)

-- the test of a full desk counts
pub not_full : (harts greatest made live era : ℕ) (threads : List ThreadState) (slots : List SlotContents) (queue : List ℕ) →
    IsKept live era threads (contents harts greatest made era threads slots queue) → (live ≡ harts → ⊥) → (made ≡ 1024 → ⊥) → is_full (contents harts greatest made era threads slots queue) ≡ false
not_full harts greatest made live era threads slots queue k some more =
    let few : (count_by (λ (x : ThreadContents). x.lives) (map (shown era) threads) == harts) ≡ false = ne_eqb (count_by (λ (x : ThreadContents). x.lives) (map (shown era) threads)) harts (λ q. some (k.counted ∙ q)) in
    rw (few, ne_eqb made 1024 more) refl

-- slots in a new era
fresh_at : (n sid : ℕ) → sid < n → get_or (replicate n (fresh_slot n)) sid no_slot ≡ fresh_slot n
fresh_at n sid l = get_or-replicate n sid (fresh_slot n) no_slot l

beyond_fresh : (n sid : ℕ) → n ≤ sid → get_or (replicate n (fresh_slot n)) sid no_slot ≡ no_slot
beyond_fresh n sid l = get_or-eq_default (replicate n (fresh_slot n)) no_slot {n = sid} (rw length-replicate l)

-- a desk whose slots are all free
pub kept_fresh :
    (n harts greatest made live era : ℕ) (threads : List ThreadState) →
    1 ≤ n → n ≤ 255 → 1 ≤ greatest → greatest ≤ 16383 → made ≤ 1024 → live ≤ harts → live ≤ made → length threads ≡ 1024 → All (IsKeptThread n era) threads →
    ((tid : ℕ) → made ≤ tid → (get_or (map (shown era) threads) tid no_thread).lives ≡ false) → live ≡ count_by (λ (x : ThreadContents). x.lives) (map (shown era) threads) →
    IsKept live era threads (contents harts greatest made era threads (replicate n (fresh_slot n)) (up_from 0 n))
kept_fresh n harts greatest made live era threads some few epochs few_epochs few_made few_live live_made all told unmade counted =
    record {
      some_slots = rw length-replicate some;
      few_slots = rw length-replicate few;
      all_threads = all;
      few_made = few_made;
      told = rw (length-replicate n (fresh_slot n)) told;
      unmade = unmade;
      counted = counted;
      few_live = few_live;
      live_made = live_made;
      some_epochs = epochs;
      few_epochs = few_epochs;
      left = λ i d l. rw (length-replicate n (fresh_slot n)) (All-replicate (λ (x : SlotContents). length x.left ≡ n) n (fresh_slot n) (length-replicate n 0) i d l);
      epochs = λ sid e. elim (cases_lt sid n) [ inl l ↦ rw (fresh_at n sid l) (omega arith) | inr l ↦ absurd (let z = rw (beyond_fresh n sid l) at e in cc) ];
      owners = λ sid a e. absurd (elim (cases_lt sid n) [ inl l ↦ let z = rw (fresh_at n sid l) at e in cc | inr l ↦ let z = rw (beyond_fresh n sid l) at e in cc ]);
      queued = λ sid. elim (cases_lt sid n) [ inl l ↦ rw (fresh_at n sid l) ((times-up_from sid 0 n).1 (omega arith) (omega arith)) | inr l ↦ rw (beyond_fresh n sid l) ((times-up_from sid 0 n).2 (omega arith)) ];
      queue_long = length-up_from 0 n ∙ sym (sum_by-replicate_one (λ (x : SlotContents). cond (is_free x) 1 0) n (fresh_slot n) refl);
      room = let a = sum_by-replicate_zero attachments n (fresh_slot n) refl in let b = length-up_from 0 n in rw (length-replicate n (fresh_slot n)) (omega arith);
    }

-- in a later era nothing was told
pub forgotten_later : (era : ℕ) (n : ℕ) (threads : List ThreadState) → All (IsKeptThread n era) threads → map (shown (era + 1)) threads ≡ map forgotten (map (shown era) threads)
forgotten_later era n [] k = refl
forgotten_later era n (t ∷ threads) k =
    let now = k zero t (omega arith) in
    let old = now.told_in in
    let e : (t.told_in == (era + 1)) ≡ false = ne_eqb t.told_in (era + 1) (λ q. omega arith) in
    let here : shown (era + 1) t ≡ forgotten (shown era t) = rw e refl in
    let rest = forgotten_later era n threads (λ i d l. k (suc i) d (omega arith)) in
    rw (here, rest) refl

pub forgotten_untold : (era : ℕ) (threads : List ThreadState) → map (shown 1) (map untold threads) ≡ map forgotten (map (shown era) threads)
forgotten_untold era [] = refl
forgotten_untold era (t ∷ threads) = ap (λ xs. forgotten (shown era t) ∷ xs) (forgotten_untold era threads)

pub kept_untold : (n era : ℕ) (threads : List ThreadState) → All (IsKeptThread n era) threads → All (IsKeptThread n 1) (map untold threads)
kept_untold n era [] k = λ i d l. absurd (omega arith)
kept_untold n era (t ∷ threads) k =
    let now = k zero t (omega arith) in
    All-cons (IsKeptThread n 1) (untold t) (map untold threads) (record { told = now.told; told_in = omega arith; slot = now.slot }) (kept_untold n era threads (λ i d l. k (suc i) d (omega arith)))

pub kept_later : (n era : ℕ) (threads : List ThreadState) → All (IsKeptThread n era) threads → All (IsKeptThread n (era + 1)) threads
kept_later n era threads k = λ i d l. let now = k i d l in let a = now.told_in in record { told = now.told; told_in = omega arith; slot = now.slot }

counted_forgotten : (threads : List ThreadContents) → count_by (λ (x : ThreadContents). x.lives) (map forgotten threads) ≡ count_by (λ (x : ThreadContents). x.lives) threads
counted_forgotten [] = refl
counted_forgotten (t ∷ threads) =
    let f : ThreadContents → ℕ = λ x. cond x.lives 1 0 in
    sum_by-cons f (forgotten t) (map forgotten threads) ∙ (ap (λ n. cond t.lives 1 0 + n) (counted_forgotten threads) ∙ sym (sum_by-cons f t threads))

lives_forgotten : (threads : List ThreadContents) (tid : ℕ) → (get_or (map forgotten threads) tid no_thread).lives ≡ (get_or threads tid no_thread).lives
lives_forgotten [] tid = refl
lives_forgotten (t ∷ threads) zero = refl
lives_forgotten (t ∷ threads) (suc tid) = lives_forgotten threads tid

-- an era begins
pub kept_reset :
    (harts greatest made live era after : ℕ) (threads later : List ThreadState) (slots : List SlotContents) (queue : List ℕ) →
    IsKept live era threads (contents harts greatest made era threads slots queue) → length later ≡ length threads → All (IsKeptThread (length slots) after) later → map (shown after) later ≡ map forgotten (map (shown era) threads) →
    IsKept live after later (contents harts greatest made after later (replicate (length slots) (fresh_slot (length slots))) (up_from 0 (length slots)))
kept_reset harts greatest made live era after threads later slots queue k long told same =
    kept_fresh (length slots) harts greatest made live after later k.some_slots k.few_slots k.some_epochs k.few_epochs k.few_made k.few_live k.live_made (long ∙ k.all_threads) told
    (λ tid l. rw same (lives_forgotten (map (shown era) threads) tid ∙ k.unmade tid l))
    (rw same (k.counted ∙ sym (counted_forgotten (map (shown era) threads))))

-- a thread holds the slot that it took last, where it is that slot's owner
pub held_hint :
    (harts greatest made live era : ℕ) (threads : List ThreadState) (slots : List SlotContents) (queue : List ℕ) (tid : ℕ) (t : ThreadState) (s : SlotContents) →
    IsKept live era threads (contents harts greatest made era threads slots queue) → tid < length threads → t ≡ get_or threads tid t → s ≡ get_or slots t.slot s →
    held_from 0 tid slots ≡ held_or t.slot tid s.owner None
held_hint harts greatest made live era threads slots queue tid t s k l e f =
    let old : t ≡ get_or threads tid (blank_thread 0) = read_at threads tid t (blank_thread 0) l e in
    let fits : IsKeptThread (length slots) era t = subst (IsKeptThread (length slots) era) (sym old) (k.told tid (blank_thread 0) l) in
    let taken : slot_taken threads tid ≡ t.slot = ap (λ (x : ThreadState). x.slot) (sym old) in
    let one = held_from-only 0 tid t.slot slots fits.slot (λ i a o q. sym (subst (λ x. slot_taken threads x ≡ i) q (k.owners i a o).1) ∙ taken) in
    let here : s ≡ get_or slots t.slot no_slot = read_at slots t.slot s no_slot fits.slot f in
    one ∙ (ap (λ x. held_or x tid (get_or slots t.slot no_slot).owner None) (zero-add t.slot) ∙ ap (λ (x : SlotContents). held_or t.slot tid x.owner None) (sym here))

pub hint_within :
    (harts greatest made live era : ℕ) (threads : List ThreadState) (slots : List SlotContents) (queue : List ℕ) (tid : ℕ) (t : ThreadState) →
    IsKept live era threads (contents harts greatest made era threads slots queue) → tid < length threads → t ≡ get_or threads tid t → t.slot < length slots
hint_within harts greatest made live era threads slots queue tid t k l e =
    let old : t ≡ get_or threads tid (blank_thread 0) = read_at threads tid t (blank_thread 0) l e in
    (subst (IsKeptThread (length slots) era) (sym old) (k.told tid (blank_thread 0) l)).slot

-- a thread that can't be made holds no slot
pub held_beyond :
    (harts greatest made live era : ℕ) (threads : List ThreadState) (slots : List SlotContents) (queue : List ℕ) (tid : ℕ) →
    IsKept live era threads (contents harts greatest made era threads slots queue) → length threads ≤ tid → held_from 0 tid slots ≡ None
held_beyond harts greatest made live era threads slots queue tid k l =
    held_from-none 0 tid slots (λ i a o q. let p = (k.owners i a o).0 in let all = k.all_threads in omega arith)

-- what is seen of a thread that was told something
pub shown_told : (era : ℕ) (lives : Bool) (clock : List ℕ) (t : ThreadState) → shown era (record t { lives = lives; told = clock; told_in = era }) ≡ record { lives = lives; told = Some clock }
shown_told era lives clock t = rw (eq-eqb era era refl) refl

-- the main thread alone was made
pub first_made : (m : ℕ) (t b : ThreadState) (threads : List ThreadState) → threads ≡ replicate (suc m) b → set threads 0 t ≡ t ∷ replicate m b
first_made m t b threads e = rw e refl

pub first_blank : (m : ℕ) (b d : ThreadState) (threads : List ThreadState) → threads ≡ replicate (suc m) b → get_or threads 0 d ≡ b
first_blank m b d threads e = rw e refl

pub shown_replicate : (era m : ℕ) (b : ThreadState) → map (shown era) (replicate m b) ≡ replicate m (shown era b)
shown_replicate era zero b = refl
shown_replicate era (suc m) b = ap (λ xs. shown era b ∷ xs) (shown_replicate era m b)

pub kept_new :
    (n harts greatest m : ℕ) (t : ThreadState) → m ≡ 1023 → 1 ≤ n → n ≤ 255 → 1 ≤ harts → 1 ≤ greatest → greatest ≤ 16383 → t ≡ record (blank_thread n) { lives = true } →
    IsKept 1 1 (t ∷ replicate m (blank_thread n)) (contents harts greatest 1 1 (t ∷ replicate m (blank_thread n)) (replicate n (fresh_slot n)) (up_from 0 n))
kept_new n harts greatest m t all some few some_harts epochs few_epochs new =
    subst (λ x. IsKept 1 1 (x ∷ replicate m (blank_thread n)) (contents harts greatest 1 1 (x ∷ replicate m (blank_thread n)) (replicate n (fresh_slot n)) (up_from 0 n))) (sym new)
    (kept_fresh n harts greatest 1 1 1 (record (blank_thread n) { lives = true } ∷ replicate m (blank_thread n)) some few epochs few_epochs (omega arith) some_harts (omega arith)
    (let l = length-replicate m (blank_thread n) in omega arith)
    (All-cons (IsKeptThread n 1) (record (blank_thread n) { lives = true }) (replicate m (blank_thread n)) one (All-replicate (IsKeptThread n 1) m (blank_thread n) blank))
    unmade counted)
  where
    blank : IsKeptThread n 1 (blank_thread n)
    blank = record { told = length-replicate n 0; told_in = omega arith; slot = omega arith }

    one : IsKeptThread n 1 (record (blank_thread n) { lives = true })
    one = record { told = length-replicate n 0; told_in = omega arith; slot = omega arith }

    dead : (m tid : ℕ) → (get_or (map (shown 1) (replicate m (blank_thread n))) tid no_thread).lives ≡ false
    dead zero tid = refl
    dead (suc m) zero = refl
    dead (suc m) (suc tid) = dead m tid

    unmade : (tid : ℕ) → 1 ≤ tid → (get_or (map (shown 1) (record (blank_thread n) { lives = true } ∷ replicate m (blank_thread n))) tid no_thread).lives ≡ false
    unmade zero l = absurd (omega arith)
    unmade (suc tid) l = dead m tid

    counted : 1 ≡ count_by (λ (x : ThreadContents). x.lives) (map (shown 1) (record (blank_thread n) { lives = true } ∷ replicate m (blank_thread n)))
    counted =
        let f : ThreadContents → ℕ = λ x. cond x.lives 1 0 in
        let a = sum_by-cons f (shown 1 (record (blank_thread n) { lives = true })) (map (shown 1) (replicate m (blank_thread n))) in
        let b = sum_by-replicate_zero f m (shown 1 (blank_thread n)) refl in
        rw (shown_replicate 1 m (blank_thread n)) (sym (sum_by-cons f (shown 1 (record (blank_thread n) { lives = true })) (replicate m (shown 1 (blank_thread n))) ∙ ap (λ k. 1 + k) b))
