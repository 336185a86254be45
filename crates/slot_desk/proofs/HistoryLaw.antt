-- A desk goes with its history, at each position.
use Rattle.std.proofs.Common.{◌≡◌, ◌<◌, ◌≤◌, ◌+◌, ◌==◌, ℕ, zero, suc, max, Bool, true, false, if◌then◌else◌, nat_lt, Option, Some, None, List, ◌∷◌, length, slice_index, set, refl, sym, ap, subst, ◌∙◌, inl, inr, arith}
use Rattle.std.proofs.lemmas.Bool.{cases_eq}
use Rattle.std.proofs.lemmas.List.{get_or-set_same, get_or-set_other}
use Rattle.run_record.specs.declared.event.Event.{Event}
use Rattle.run_record.specs.declared.event.Event.TheVariants.{Create, End}
use Rattle.run_record.specs.declared.entry.Label.{Label}
use Rattle.run_record.specs.declared.entry.DeskNote.TheVariants.{Nothing, Attach, Leave}
use Rattle.run_record.specs.declared.limits.Limits.{Limits}
use Rattle.run_laws.specs.Moments.{Item, Does, Notes, NewEra}
use Rattle.run_laws.specs.Labels.{labels, queue, is_end, attach_labels, next_labels, next_queue}
use Rattle.run_laws.specs.Clocks.{clocks, Given, Ended, Of, next_clocks, attach_clocks}
use Rattle.run_laws.proofs.SlotSteps.{attach_slot_here, attach_epoch_here, attach_thread_here, attach_thread_joined}
use Rattle.run_laws.proofs.PresentLaw.{labels_agree, clocks_agree, queue_agree}
use Rattle.vector_clock.specs.Clocks.{joined}
use Rattle.vector_clock.proofs.ClockLaws.{get_or-joined, length-joined}
use Rattle.slot_desk.specs.declared.slot.Attachment.{Attachment}
use Rattle.slot_desk.specs.declared.answers.Attached.TheVariants.{Slot}
use Rattle.slot_desk.specs.declared.answers.Created.TheVariants.{Thread}
use Rattle.slot_desk.specs.declared.answers.Joined.TheVariants.{Done}
use Rattle.slot_desk.specs.Desks.{SlotContents, DeskContents, no_slot, slot_of, thread_of, held_of}
use Rattle.slot_desk.specs.Steps.{spent_slot, ended_slot, attached, after_attach, clock_after_attach, after_detach, joined_told, is_full, created, after_create, after_end, join_answer, clock_after_join, after_reset, new_desk}
use Rattle.slot_desk.specs.History.{Tells, IsDesk, AreJournals, IsDeskAt, slot_at}
use Rattle.slot_desk.proofs.DeskLists.{at_each_set}
use Rattle.slot_desk.proofs.Holders.{held_of-some}
use Rattle.slot_desk.proofs.HistorySteps.{step_event, step_attach, Attaches, attaches, step_detach, step_create, labelled_holds, step_end, step_era, step_first}
use Rattle.slot_desk.proofs.HistoryJournals.{journals_same, journals_attach, journals_fresh, journals_first}

module _ (g n : ℕ) (h : ℕ → Item) where
  labels_next : (i : ℕ) → labels g h (suc i) ≡ next_labels g (labels g h i) (h i)
  unfolding labels
  labels_next i = refl

  clocks_next : (i : ℕ) → clocks g h (suc i) ≡ next_clocks g (labels g h i) (clocks g h i) (h i)
  unfolding clocks
  clocks_next i = refl

  queue_next : (i : ℕ) → queue g n h (suc i) ≡ next_queue g n (labels g h i) (h i) (queue g n h i)
  unfolding queue
  queue_next i = refl

  -- what stands after an item
  stands : (i : ℕ) (it : Item) (d : DeskContents) → h i ≡ it → IsDesk g n (next_labels g (labels g h i) it) (next_clocks g (labels g h i) (clocks g h i) it) (next_queue g n (labels g h i) it (queue g n h i)) d → IsDesk g n (labels g h (suc i)) (clocks g h (suc i)) (queue g n h (suc i)) d
  stands i it d e b = rw (labels_next i, clocks_next i, queue_next i, e) b

  era_after : (i : ℕ) (it : Item) (m : ℕ) → h i ≡ it → (next_labels g (labels g h i) it).era ≡ m → (labels g h (suc i)).era ≡ m
  era_after i it m e f = rw (labels_next i, e) f

  pub at_attach : (i : ℕ) (d : DeskContents) (t : ℕ) (label : Label) (rest : List ℕ) → IsDeskAt g n h i d → h i ≡ Notes t (Attach label) → held_of d t ≡ None → d.queue ≡ label.sid ∷ rest → IsDeskAt g n h (suc i) (after_attach d t)
  at_attach i d t label rest b e none q =
      let front = sym b.desk.same_queue ∙ q in
      let a = attaches g n (labels g h i) (clocks g h i) (queue g n h i) rest d t label.sid b.desk none front in
      let same : (next_labels g (labels g h i) (Notes t (Attach label))).era ≡ (labels g h i).era = rw a.can refl in
      let within : label.sid < length d.slots = (let m = a.within in let z = b.desk.slots.all_slots in omega arith) in
      record {
        desk = stands i (Notes t (Attach label)) (after_attach d t) e (step_attach g n (labels g h i) (clocks g h i) (queue g n h i) rest d t label b.desk none front);
        journals = rw q (journals_attach g n h i d.slots t label.sid b.journals within a.epoch (λ u w f. let z = sym e ∙ f in cc) (era_after i (Notes t (Attach label)) (labels g h i).era e same));
      }

  -- the label and the clock of the thread after it
  pub label_attached : (i : ℕ) (d : DeskContents) (t : ℕ) (label : Label) (rest : List ℕ) → IsDeskAt g n h i d → h i ≡ Notes t (Attach label) → held_of d t ≡ None → d.queue ≡ label.sid ∷ rest →
      ((labels g h (suc i)).slot_of t ≡ Some label.sid) × (attached d ≡ Slot label.sid ((labels g h (suc i)).epoch label.sid))
  label_attached i d t label rest b e none q =
      let front = sym b.desk.same_queue ∙ q in
      let a = attaches g n (labels g h i) (clocks g h i) (queue g n h i) rest d t label.sid b.desk none front in
      let next : labels g h (suc i) ≡ attach_labels (labels g h i) t label.sid = rw (labels_next i, e, a.can) refl in
      let epoch : (attach_labels (labels g h i) t label.sid).epoch label.sid ≡ (slot_of d label.sid).last + 1 = attach_epoch_here (labels g h i) t label.sid ∙ ap (λ m. m + 1) a.epoch in
      (rw next (attach_slot_here (labels g h i) t label.sid), rw (next, epoch, q) refl)

  pub clock_attached : (i : ℕ) (d : DeskContents) (t : ℕ) (label : Label) (rest clock : List ℕ) → IsDeskAt g n h i d → h i ≡ Notes t (Attach label) → held_of d t ≡ None → d.queue ≡ label.sid ∷ rest →
      length clock ≡ n → Tells n clock ((clocks g h i).thread t) → Tells n (clock_after_attach d clock) ((clocks g h (suc i)).thread t)
  clock_attached i d t label rest clock b e none q long tells r l =
      rw (next, q) (elim (cases_eq r label.sid) [ inl z ↦ subst (λ x. (attach_clocks (labels g h i) (clocks g h i) t label.sid).thread t x ≡ slice_index (set (joined clock (slot_of d label.sid).left) label.sid ((slot_of d label.sid).last + 1)) x) (sym z) here | inr z ↦ there z ])
    where
      a : Attaches g n (labels g h i) (clocks g h i) d t label.sid
      a = attaches g n (labels g h i) (clocks g h i) (queue g n h i) rest d t label.sid b.desk none (sym b.desk.same_queue ∙ q)

      next : clocks g h (suc i) ≡ attach_clocks (labels g h i) (clocks g h i) t label.sid
      next = rw (clocks_next i, e, a.can) refl

      same : length clock ≡ length (slot_of d label.sid).left
      same = long ∙ sym (b.desk.left.long label.sid a.within)

      wide : label.sid < length (joined clock (slot_of d label.sid).left)
      wide = let z = length-joined clock (slot_of d label.sid).left same in let m = a.within in omega arith

      here : (attach_clocks (labels g h i) (clocks g h i) t label.sid).thread t label.sid ≡ slice_index (set (joined clock (slot_of d label.sid).left) label.sid ((slot_of d label.sid).last + 1)) label.sid
      here = attach_thread_here (labels g h i) (clocks g h i) t label.sid ∙ (ap (λ m. m + 1) a.epoch ∙ sym (get_or-set_same (joined clock (slot_of d label.sid).left) label.sid ((slot_of d label.sid).last + 1) 0 wide))

      there : (r ≡ label.sid → ⊥) → (attach_clocks (labels g h i) (clocks g h i) t label.sid).thread t r ≡ slice_index (set (joined clock (slot_of d label.sid).left) label.sid ((slot_of d label.sid).last + 1)) r
      there z =
          let known = b.desk.left.known label.sid a.within r l in
          let own = tells r l in
          let join = get_or-joined clock (slot_of d label.sid).left r same in
          attach_thread_joined (labels g h i) (clocks g h i) t label.sid r z ∙ ((rw (own, known) (sym join)) ∙ sym (get_or-set_other (joined clock (slot_of d label.sid).left) label.sid r ((slot_of d label.sid).last + 1) 0 z))

  pub at_leave : (i : ℕ) (d : DeskContents) (t : ℕ) (label : Label) → IsDeskAt g n h i d → h i ≡ Notes t (Leave label) → (labels g h i).slot_of t ≡ None → IsDeskAt g n h (suc i) (after_detach d t)
  at_leave i d t label b e lost = go (held_of d t) refl
    where
      go : (o : Option (ℕ × ℕ)) → held_of d t ≡ o → IsDeskAt g n h (suc i) (after_detach d t)
      go None f =
          rw f (record {
            desk = stands i (Notes t (Leave label)) d e b.desk;
            journals = journals_same g n h i d.queue d.slots d.slots b.desk.slots b.journals (λ s. refl) (λ s a o. o) (era_after i (Notes t (Leave label)) (labels g h i).era e refl);
          })
      go (Some (s, since)) f =
          let within = (held_of-some d.slots t s since f).0 in
          record {
            desk = stands i (Notes t (Leave label)) (after_detach d t) e (step_detach g n (labels g h i) (clocks g h i) (queue g n h i) d t label s since b.desk f lost);
            journals = rw f (journals_same g n h i d.queue d.slots (set d.slots s (spent_slot (slot_at d.slots s))) b.desk.slots b.journals
                (at_each_set (λ r (x : SlotContents). x.journal ≡ (slot_at d.slots r).journal) d.slots s (spent_slot (slot_at d.slots s)) no_slot within refl (λ r z. refl))
                (at_each_set (λ r (x : SlotContents). (a : Attachment) → x.owner ≡ Some a → (slot_at d.slots r).owner ≡ Some a) d.slots s (spent_slot (slot_at d.slots s)) no_slot within (λ a o. absurd (cc)) (λ r z a o. o))
                (era_after i (Notes t (Leave label)) (labels g h i).era e refl));
          }

  pub at_nothing : (i : ℕ) (d : DeskContents) (t : ℕ) → IsDeskAt g n h i d → h i ≡ Notes t Nothing → IsDeskAt g n h (suc i) d
  at_nothing i d t b e =
      record {
        desk = stands i (Notes t Nothing) d e b.desk;
        journals = journals_same g n h i d.queue d.slots d.slots b.desk.slots b.journals (λ s. refl) (λ s a o. o) (era_after i (Notes t Nothing) (labels g h i).era e refl);
      }

  pub at_event : (i : ℕ) (d : DeskContents) (t : ℕ) (w : Event) → IsDeskAt g n h i d → h i ≡ Does t w → (w ≡ End → ⊥) → ((u : ℕ) → w ≡ Create u → ⊥) → IsDeskAt g n h (suc i) d
  at_event i d t w b e no_end no_create =
      record {
        desk = stands i (Does t w) d e (step_event g n (labels g h i) (clocks g h i) (queue g n h i) d t w (quiet w no_end) no_create b.desk);
        journals = journals_same g n h i d.queue d.slots d.slots b.desk.slots b.journals (λ s. refl) (λ s a o. o) (era_after i (Does t w) (labels g h i).era e refl);
      }
    where
      quiet : (w : Event) → (w ≡ End → ⊥) → is_end w ≡ false
      quiet End f = absurd (f refl)
      quiet _ f = refl

  pub at_create : (i : ℕ) (d : DeskContents) (t : ℕ) (clock : List ℕ) → IsDeskAt g n h i d → h i ≡ Does t (Create d.made) → created d ≡ Thread d.made → length clock ≡ n → Tells n clock ((clocks g h i).thread t) → IsDeskAt g n h (suc i) (after_create d clock)
  at_create i d t clock b e made long tells =
      record {
        desk = stands i (Does t (Create d.made)) (after_create d clock) e (step_create g n (labels g h i) (clocks g h i) (queue g n h i) d t clock b.desk made long tells);
        journals = subst (λ (x : List SlotContents). AreJournals g h (suc i) x) (same (is_full d))
            (journals_same g n h i d.queue d.slots d.slots b.desk.slots b.journals (λ s. refl) (λ s a o. o) (era_after i (Does t (Create d.made)) (labels g h i).era e refl));
      }
    where
      same : (c : Bool) → d.slots ≡ (if c then d else record d { made = d.made + 1; threads = set d.threads d.made (record { lives = true; told = Some clock }) }).slots
      same true = refl
      same false = refl

  pub at_end : (i : ℕ) (d : DeskContents) (t s : ℕ) (clock : List ℕ) → IsDeskAt g n h i d → h i ≡ Does t End → (thread_of d t).lives ≡ true → (labels g h i).slot_of t ≡ Some s → slice_index clock s ≡ (labels g h i).epoch s → (labels g h i).epoch s ≤ g →
      length clock ≡ n → Tells n clock ((clocks g h i).thread t) → IsDeskAt g n h (suc i) (after_end d t clock)
  at_end i d t s clock b e alive label own most long tells =
      let held = labelled_holds g n (labels g h i) (clocks g h i) (queue g n h i) d t s b.desk label in
      let within : s < length d.slots = (let m = held.0 in let z = b.desk.slots.all_slots in omega arith) in
      let x = ended_slot (slice_index clock s) (slice_index clock s == d.greatest) clock (slot_at d.slots s) in
      record {
        desk = stands i (Does t End) (after_end d t clock) e (step_end g n (labels g h i) (clocks g h i) (queue g n h i) d t s clock b.desk alive label own most long tells);
        journals = rw held.1.1 (journals_same g n h i d.queue d.slots (set d.slots s x) b.desk.slots b.journals
            (at_each_set (λ r (y : SlotContents). y.journal ≡ (slot_at d.slots r).journal) d.slots s x no_slot within refl (λ r z. refl))
            (at_each_set (λ r (y : SlotContents). (a : Attachment) → y.owner ≡ Some a → (slot_at d.slots r).owner ≡ Some a) d.slots s x no_slot within (λ a o. absurd (cc)) (λ r z a o. o))
            (era_after i (Does t End) (labels g h i).era e refl));
      }

  pub at_era : (i : ℕ) (d : DeskContents) → IsDeskAt g n h i d → h i ≡ NewEra → IsDeskAt g n h (suc i) (after_reset d)
  at_era i d b e =
      record {
        desk = stands i NewEra (after_reset d) e (step_era g n (labels g h i) (clocks g h i) (queue g n h i) d b.desk);
        journals = journals_fresh g (length d.slots) h i (era_after i NewEra ((labels g h i).era + 1) e refl);
      }

  -- what a thread takes in by begin and by join_thread
  pub clock_begun : (i : ℕ) (d : DeskContents) (t : ℕ) (clock : List ℕ) (known : ℕ → ℕ) → IsDeskAt g n h i d → (thread_of d t).lives ≡ true → length clock ≡ n → Tells n clock known →
      Tells n (joined_told clock (thread_of d t).told) (λ r. max (known r) ((clocks g h i).spot (Of (Given t)) r))
  clock_begun i d t clock known b alive long tells r l = go (thread_of d t).told refl
    where
      go : (o : Option (List ℕ)) → (thread_of d t).told ≡ o → max (known r) ((clocks g h i).spot (Of (Given t)) r) ≡ slice_index (joined_told clock (thread_of d t).told) r
      go None f = let own = tells r l in let given = rw f at (b.desk.told.given t r l alive) in rw f (omega arith)
      go (Some c) f =
          let own = tells r l in
          let given = rw f at (b.desk.told.given t r l alive) in
          let join = get_or-joined clock c r (long ∙ sym (b.desk.told.long t c f)) in
          rw f (rw (own, given) (sym join))

  pub clock_joined : (i : ℕ) (d : DeskContents) (u : ℕ) (clock : List ℕ) (known : ℕ → ℕ) → IsDeskAt g n h i d → join_answer d u ≡ Done → length clock ≡ n → Tells n clock known →
      Tells n (clock_after_join d u clock) (λ r. max (known r) ((clocks g h i).spot (Of (Ended u)) r))
  clock_joined i d u clock known b done long tells r l = made (nat_lt u d.made) refl
    where
      told : (o : Option (List ℕ)) → (thread_of d u).told ≡ o → (thread_of d u).lives ≡ false → max (known r) ((clocks g h i).spot (Of (Ended u)) r) ≡ slice_index (joined_told clock (thread_of d u).told) r
      told None f dead = let own = tells r l in let end = rw f at (b.desk.told.ended u r l dead) in rw f (omega arith)
      told (Some c) f dead =
          let own = tells r l in
          let end = rw f at (b.desk.told.ended u r l dead) in
          let join = get_or-joined clock c r (long ∙ sym (b.desk.told.long u c f)) in
          rw f (rw (own, end) (sym join))

      lives : (o : Bool) → nat_lt u d.made ≡ true → (thread_of d u).lives ≡ o → max (known r) ((clocks g h i).spot (Of (Ended u)) r) ≡ slice_index (clock_after_join d u clock) r
      lives true m f = absurd (let z = rw (m, f) at done in cc)
      lives false m f = rw (m, f) (told (thread_of d u).told refl f)

      made : (o : Bool) → nat_lt u d.made ≡ o → max (known r) ((clocks g h i).spot (Of (Ended u)) r) ≡ slice_index (clock_after_join d u clock) r
      made true m = lives (thread_of d u).lives m refl
      made false m = absurd (let z = rw m at done in cc)

pub at_first : (limits : Limits) (h : ℕ → Item) → IsDeskAt limits.epochs limits.slots h zero (new_desk limits)
unfolding labels clocks queue
at_first limits h = record { desk = step_first limits; journals = journals_first limits.epochs limits.slots h }

-- what is told of a position depends on the items before it alone
pub at_agrees : (g n : ℕ) (h k : ℕ → Item) (i : ℕ) (d : DeskContents) → ((j : ℕ) → j < i → h j ≡ k j) → IsDeskAt g n h i d → IsDeskAt g n k i d
at_agrees g n h k i d same b =
    let l = labels_agree g h k i same in
    let c = clocks_agree g h k i same in
    let q = queue_agree g n h k i same in
    record {
      desk = rw (← l, ← c, ← q) b.desk;
      journals = record {
        last = b.journals.last;
        named = λ j t s w m e u r.
            let here = labels_agree g h k j (λ x y. same x (omega arith)) in
            rw (← here) (b.journals.named j t s w m (same j m ∙ e) (rw (← here) at u) (rw (← here, ← l) at r));
      };
    }
