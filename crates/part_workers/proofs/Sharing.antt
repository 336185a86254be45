-- A worker's thread midway in its part, and where it stops.
use Rattle.std.proofs.Common.{◌≡◌, ◌≤◌, ◌<◌, ◌-◌, ◌+◌, ℕ, Bool, true, false, List, [], Option, Some, None, append-nil, inl, inr, refl, ap, sym, subst, ◌∙◌, arith}
use Rattle.std.specs.Prelude.{is_some, sum_by}
use Rattle.run_record.specs.declared.entry.Entry.{Entry}
use Rattle.run_record.specs.declared.limits.Limits.{Limits}
use Rattle.bare_machine.specs.declared.thread.Thread.{Thread}
use Rattle.turn_orders.specs.LineUp.{Stamped, with_stamp}
use Rattle.place_turns.specs.Places.{Local}
use Rattle.race_core.specs.Watched.{Watched}
use Rattle.shared_table.specs.Past.{Log}
use Rattle.placed_detector.specs.Standing.{Hand}
use Rattle.hart_parts.specs.Parts.{HasEnded, WantsSlot}
use Rattle.hart_steps.specs.declared.hart.Hart.{Hart}
use Rattle.part_growth.specs.Growth.{Gathered, nothing, leave_of, SoFar, Starves, with_bare, gathered_more}
use Rattle.part_growth.proofs.Plain.{plain_grow, plain_locals}
use Rattle.hart_turns.specs.declared.slots.ThreadState.{ThreadState}
use Rattle.hart_turns.specs.Slots.{hand_of, local_in}
use Rattle.hart_turns.specs.Makes.{hand_at}
use Rattle.part_workers.specs.declared.part.Post.{Post}
use Rattle.part_workers.specs.declared.part.PartSoFar.{PartSoFar}
use Rattle.part_workers.specs.Parts.{gathered_in}
use Rattle.part_workers.specs.Makes.{GathersPlain}
use Rattle.part_workers.specs.Needs.{IsLiving, Goes, NeedsOne, FindsNoSlot}
use Rattle.part_workers.specs.Shares.{GoesAlong, IsMidway, HasStopped}
use Rattle.part_workers.specs.Standing.{Stands, IsOfPart, steps_in}
use Rattle.part_workers.specs.Works.{IsUntold}
use Rattle.part_workers.proofs.Keeping.{first_stands}

-- ---- instructions that are gathered many at once

-- none
pub goes_none : (file : List ℕ) (s : ThreadState) (p : PartSoFar) → GoesAlong file s s p p 0
goes_none file s p limits post before log of_part a = (a, of_part, let e : steps_in p ≡ steps_in p + 0 = omega arith in e)

module _ (file : List ℕ) (h y : Hart) (w : Watched) (p : PartSoFar) (n : ℕ) (lives : h.thread.lives ≡ true) where
  abbrev more : PartSoFar
  more = record p { steps = p.steps + n }

  plain_stands : GathersPlain file h y p more n → (limits : Limits) (post : Post) (before : Stamped Hand) (log : Log) → w.era ≡ post.era →
      Stands file limits post before log (hand_at h w None) p nothing → Stands file limits post before log (hand_at y w None) more nothing
  plain_stands g limits post before log era a =
      let l : Hand = hand_at h w None in
      let bare : Local = record { thread = Some y.thread; reserved = h.reserved } in
      let same : with_bare l bare ≡ hand_at y w None = ap (λ (o : Option ℕ). with_bare l (record { thread = Some y.thread; reserved = o })) (sym g.reserved) in
      let grown = plain_grow file limits post.era post.tid before log a.told a.found l p.last (gathered_in p) nothing n bare a.so_far era
      (λ k e. absurd (let z : nothing ≡ leave_of k = e in cc)) (plain_locals file limits.harts post.tid n h.thread y.thread h.reserved lives g.made) in
      record {
        told = a.told;
        found = a.found;
        so_far = subst (λ (z : Hand). SoFar file limits post.era post.tid before log a.told a.found z p.last (gathered_more (gathered_in p) n) nothing) same grown;
        keeps = record { entries = a.keeps.entries; waiting = a.keeps.waiting; inside = a.keeps.inside };
      }

-- many
pub goes_plain : (file : List ℕ) (h y : Hart) (s : ThreadState) (p q : PartSoFar) (n : ℕ) → s.hart ≡ Some h → h.thread.lives ≡ true →
    GathersPlain file h y p q n → GoesAlong file s (record { hart = Some y; watcher = s.watcher }) p q n
goes_plain file h y s p q n is lives g limits post before log of_part a =
    let now = subst (λ (o : Option Hart). Stands file limits post before log (hand_of (record { hart = o; watcher = s.watcher }) None) p nothing) is a in
    let g' = subst (λ (z : PartSoFar). GathersPlain file h y p z n) g.told g in (
      subst (λ (z : PartSoFar). Stands file limits post before log (hand_at y s.watcher None) z nothing) (sym g.told)
          (plain_stands file h y s.watcher p n lives g' limits post before log of_part.era now),
      record {
        era = of_part.era;
        greatest = of_part.greatest;
        began = λ z e.
            let same : y ≡ z = let f : Some y ≡ Some z = e in cc in
            subst (λ (x : Hart). x.thread.began ≡ true) same (ap (λ (t : Thread). t.began) g.made.thread ∙ of_part.began h is);
      },
      let e = ap steps_in g.told in omega (arith, e),
    )

-- ---- midway

module _ (file : List ℕ) (limits : Limits) (post : Post) (given : ℕ) (before : Stamped Hand) where
  abbrev Midway : Log → ThreadState → PartSoFar → ℕ → Type 0
  Midway log s p left = IsMidway file limits post given before log s p left

  -- with some that were gathered
  pub midway_along : (log : Log) (s t : ThreadState) (p q : PartSoFar) (left n : ℕ) → n ≤ left → GoesAlong file s t p q n → Midway log s p left →
      Midway log t q (left - n)
  midway_along log s t p q left n few g m =
      let r = g limits post before log m.of_part m.stands in
      record {
        stands = r.0;
        of_part = r.1;
        count = let e = r.2 in let c = m.count in omega (arith, e, c, few);
      }

  -- by the code of the file
  pub midway_more : (code : List ℕ) (log : Log) (s t : ThreadState) (p q : PartSoFar) (left n : ℕ) → code ≡ file → n ≤ left → GoesAlong code s t p q n →
      Midway log s p left → Midway log t q (left - n)
  midway_more code log s t p q left n same few g m = midway_along log s t p q left n few (subst (λ (l : List ℕ). GoesAlong l s t p q n) same g) m

  -- with the next one
  pub midway_next : (log new : Log) (s t : ThreadState) (p q : PartSoFar) (left : ℕ) → 0 < left → IsLiving s.hart → Goes file limits post s t p q log new →
      Midway log s p left → Midway new t q (left - 1)
  midway_next log new s t p q left some living g m =
      let r = g before living m.of_part m.stands in
      let x = r.2 in
      record {
        stands = subst (λ (o : Option Hart). Stands file limits post before new (hand_of (record { hart = o; watcher = t.watcher }) None) q nothing) (sym r.1) x.stands;
        of_part = record {
          era = x.era;
          greatest = x.greatest;
          began = λ h e.
              let same : r.0 ≡ h = let f : Some r.0 ≡ Some h = sym r.1 ∙ e in cc in
              subst (λ (z : Hart). z.thread.began ≡ true) same x.began;
        };
        count = let e = x.steps in let c = m.count in omega (arith, e, c, some);
      }

  -- ---- where it stops

  abbrev Stopped : Log → ThreadState → PartSoFar → Bool → Type 0
  Stopped log s p starved = HasStopped file limits post given before log s p starved

  -- it tried nothing in vain
  stopped : (log : Log) (s : ThreadState) (p : PartSoFar) (left : ℕ) → Midway log s p left → (steps_in p < given → HasEnded (local_in s.hart).thread) →
      Stopped log s p false
  stopped log s p left m ended = record {
    made = log;
    tried = None;
    log_is = sym (append-nil log);
    stands = m.stands;
    of_part = m.of_part;
    stops = record {
      no_more = let c = m.count in omega (arith, c);
      fewer = λ fewer. inl (ended fewer);
      tried_only = λ x e. absurd (let z : None ≡ Some x = e in cc);
    };
    starved_is = refl;
  }

  -- its share is made
  pub share_made : (log : Log) (s : ThreadState) (p : PartSoFar) (left : ℕ) → left ≡ 0 → Midway log s p left → Stopped log s p false
  share_made log s p left none m = stopped log s p left m (λ fewer. absurd (let c = m.count in omega (arith, c, none, fewer)))

  -- it ended
  pub thread_ended : (log : Log) (s : ThreadState) (p : PartSoFar) (left : ℕ) → HasEnded (local_in s.hart).thread → Midway log s p left → Stopped log s p false
  thread_ended log s p left ended m = stopped log s p left m (λ fewer. ended)

  -- ---- starved

  wants : (o : Option Hart) → IsLiving o → NeedsOne file post.tid o → WantsSlot file post.tid (local_in o).thread
  wants None living needs = tt
  wants (Some h) living needs = (living, needs)

  same_began : (o z : Option Hart) → local_in o ≡ local_in z → ((h : Hart) → z ≡ Some h → h.thread.began ≡ true) → (h : Hart) → o ≡ Some h →
      h.thread.began ≡ true
  same_began o None same began h e =
      absurd (let f : Some h.thread ≡ None = ap (λ (l : Local). l.thread) (ap local_in (sym e) ∙ same) in cc)
  same_began o (Some x) same began h e =
      let f : Some h.thread ≡ Some x.thread = ap (λ (l : Local). l.thread) (ap local_in (sym e) ∙ same) in
      let g : h.thread ≡ x.thread = let z = f in cc in
      ap (λ (t : Thread). t.began) g ∙ began x refl

  pub is_starved : (log new : Log) (s t : ThreadState) (p q : PartSoFar) (left : ℕ) → 0 < left → IsLiving s.hart → FindsNoSlot file limits post s t p q log new →
      Midway log s p left → Stopped new t q true
  is_starved log new s t p q left some living x m =
      let same : hand_of t None ≡ hand_of s None = x.tries.hand None in
      let bare : local_in t.hart ≡ local_in s.hart = ap (λ (l : Hand). l.bare) same in
      let told : q ≡ p = x.tries.told in
      let few : steps_in q < given = let c = m.count in let e = ap steps_in told in omega (arith, c, e, some) in
      let starves : Starves file limits post.tid (hand_of t None) (Some x.tries.tried) = record {
        unlabelled = ap (λ (l : Hand). l.watched.label) same ∙ x.unlabelled;
        wants = subst (λ (l : Local). WantsSlot file post.tid l.thread) (sym bare) (wants s.hart living x.needs);
        try_ = x.tries.tried;
        tried_is = refl;
        none_free = x.tries.none_free;
      } in
      record {
        made = log;
        tried = Some x.tries.tried;
        log_is = x.tries.log_is;
        stands = subst (λ (l : Hand). Stands file limits post before log l q nothing) (sym same)
            (subst (λ (z : PartSoFar). Stands file limits post before log (hand_of s None) z nothing) (sym told) m.stands);
        of_part = record {
          era = ap (λ (l : Hand). l.watched.era) same ∙ m.of_part.era;
          greatest = ap (λ (l : Hand). l.watched.greatest) same ∙ m.of_part.greatest;
          began = same_began t.hart s.hart bare m.of_part.began;
        };
        stops = record {
          no_more = omega (arith, few);
          fewer = λ f. inr starves;
          tried_only = λ y e. (few, starves);
        };
        starved_is = refl;
      }

-- ---- the beginning

pub begins_midway : (file : List ℕ) (limits : Limits) (post : Post) (given : ℕ) (log : Log) (s : ThreadState) (p : PartSoFar) → log ≡ [] →
    IsOfPart limits post s → IsUntold p → IsMidway file limits post given (with_stamp (hand_of s None) p.last) log s p given
begins_midway file limits post given log s p none of_part untold = record {
  stands = subst (λ (l : Log). Stands file limits post (with_stamp (hand_of s None) p.last) l (hand_of s None) p nothing) (sym none)
      (first_stands file limits post (with_stamp (hand_of s None) p.last) p untold.entries untold.waiting untold.gathered refl);
  of_part = of_part;
  count =
      let e = ap (sum_by (λ (x : Entry). x.steps)) untold.entries in
      let g = ap (λ (x : Gathered). x.steps) untold.gathered in
      omega (arith, e, g);
}

-- ---- whether a thread has arrived

pub absent_of : (o : Option Hart) → is_some o ≡ false → o ≡ None
absent_of None e = refl
absent_of (Some h) e = absurd (let z : true ≡ false = e in cc)

pub present_of : (o : Option Hart) → is_some o ≡ true → o ≡ None → ⊥
present_of None e n = absurd (let z : false ≡ true = e in cc)
present_of (Some h) e n = absurd (let z : Some h ≡ None = n in cc)
