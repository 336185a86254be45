-- A thread that goes on, with the slot that it needs.
use Rattle.std.proofs.Common.{◌≡◌, ◌≢◌, ◌≤◌, ℕ, Bool, true, false, List, [], Option, Some, None, refl, ap, sym, subst, ◌∙◌, arith}
use Rattle.run_record.specs.declared.entry.Label.{Label}
use Rattle.run_record.specs.declared.entry.DeskNote.TheVariants.{Attach}
use Rattle.run_record.specs.declared.limits.Limits.{Limits}
use Rattle.bare_machine.specs.declared.request.Request.{Request}
use Rattle.bare_machine.specs.declared.request.Request.TheVariants as kinds
use Rattle.bare_machine.specs.declared.thread.Thread.{Thread}
use Rattle.bare_machine.specs.Asked.{IsUndone, Keeps}
use Rattle.bare_machine.specs.Preview.{thread_needs}
use Rattle.bare_machine.specs.Step.{desk}
use Rattle.turn_orders.specs.LineUp.{Stamped}
use Rattle.place_turns.specs.Places.{Local, desk_in}
use Rattle.place_turns.specs.Turns.{arrived}
use Rattle.race_core.specs.Watched.{Watched, IsLabel}
use Rattle.shared_table.specs.Past.{Log}
use Rattle.placed_detector.specs.Standing.{Hand}
use Rattle.hart_steps.specs.declared.hart.Hart.{Hart}
use Rattle.hart_steps.specs.Asked.{Asks}
use Rattle.part_growth.specs.Growth.{nothing, needy, place_in}
use Rattle.hart_turns.specs.declared.slots.ThreadState.{ThreadState}
use Rattle.hart_turns.specs.Slots.{hand_of, local_in}
use Rattle.hart_turns.specs.Makes.{hand_at}
use Rattle.part_workers.specs.declared.part.Post.{Post}
use Rattle.part_workers.specs.declared.part.PartSoFar.{PartSoFar}
use Rattle.part_workers.specs.Parts.{note_entry}
use Rattle.part_workers.specs.Turns.{TakesAtDesk, TriesAtDesk, IsGivenIn}
use Rattle.part_workers.specs.Needs.{HasSlot, Had, Took, Lacks, GoesOn, IsLiving, Goes, NeedsOne, FindsNoSlot}
use Rattle.part_workers.specs.Standing.{Stands, IsGivenTo, MayMake, MadeTurn, MakesTurn}
use Rattle.part_workers.proofs.Keeping.{steps_more}
use Rattle.part_workers.proofs.Taking.{taken}

-- ---- a thread that has asked, and isn't done

same_hart : (a b : Hart) → a.thread ≡ b.thread → a.reserved ≡ b.reserved → a ≡ b
same_hart a b p q = λ i. record { thread = p i; reserved = q i }

kept_thread : (r : Request) (a b : Thread) → IsUndone r → Keeps r a b → b ≡ a
kept_thread kinds.Done a b u k = absurd u
kept_thread (kinds.Return q) a b u k = k
kept_thread (kinds.Touch q) a b u k = k
kept_thread (kinds.Operate q) a b u k = k
kept_thread (kinds.Put word count) a b u k = k
kept_thread (kinds.Create pc argument stack) a b u k = k
kept_thread (kinds.Join of) a b u k = k
kept_thread (kinds.Stop end) a b u k = k

-- is as it was
pub undone_same : (file : List ℕ) (t : ℕ) (h asked : Hart) (r : Request) → IsUndone r → Asks file t h asked r → asked ≡ h
undone_same file t h asked r u asks = same_hart asked h (kept_thread r h.thread asked.thread u asks.kept) (ap (λ (x : Hart). x.reserved) asks.hart)

-- a thread that takes a slot stays as it is, where it has arrived
took_bare : (limits : Limits) (post : Post) (s t : ThreadState) (p q : PartSoFar) (clock : List ℕ) (log new : Log) (a : Hart) →
    TakesAtDesk limits post s t p q clock log new → s.hart ≡ Some a → local_in t.hart ≡ local_in (Some a)
took_bare limits post s t p q clock log new a x old =
    let m = x.takes [] in
    ap (λ (l : Hand). l.bare) m.hand
    ∙ ap (λ (o : Option Hart). arrived post.tid (local_in o) (desk_in (place_in [] limits desk x.found).bare) (local_in o).thread) old

pub took_same : (limits : Limits) (post : Post) (s t : ThreadState) (p q : PartSoFar) (clock : List ℕ) (log new : Log) (a b : Hart) →
    TakesAtDesk limits post s t p q clock log new → s.hart ≡ Some a → t.hart ≡ Some b → b ≡ a
took_same limits post s t p q clock log new a b x old left =
    let g : local_in (Some b) ≡ local_in (Some a) = ap local_in (sym left) ∙ took_bare limits post s t p q clock log new a x old in
    same_hart b a (let z : Some b.thread ≡ Some a.thread = ap (λ (l : Local). l.thread) g in cc) (ap (λ (l : Local). l.reserved) g)

nothing_given : (limits : Limits) (clock : List ℕ) → IsGivenIn limits None clock
nothing_given limits clock told e = absurd (let z : None ≡ Some told = e in cc)

none_to : (b : Bool) → b ≡ true → IsGivenTo b None
none_to true e = refl
none_to false e = absurd (let z : false ≡ true = e in cc)

module _ (file : List ℕ) (limits : Limits) (post : Post) (before : Stamped Hand) (h asked y : Hart) (w w3 : Watched) (r : Request) (needs : Bool)
    (p p3 : PartSoFar) (log log3 : Log) (asks : Asks file post.tid h asked r) (needs_is : needs ≡ thread_needs file post.tid (Some h.thread))
    (undone : needs ≡ true → IsUndone r) (lives : h.thread.lives ≡ true) (began : h.thread.began ≡ true) (era : w.era ≡ post.era)
    (greatest : w.greatest ≡ limits.epochs) (a : Stands file limits post before log (hand_at h w None) p nothing) where
  abbrev asked_state : ThreadState
  asked_state = record { hart = Some asked; watcher = w }

  -- the thread that is to make the instruction may make it
  may_make : (clock : List ℕ) (v : Watched) → (thread_needs file post.tid (Some h.thread) ≡ true → v.label ≢ None) → v.era ≡ w.era → v.greatest ≡ w.greatest →
      ((l : Label) → v.label ≡ Some l → l.epoch ≤ limits.epochs) → MayMake file limits post h v clock None
  may_make clock v label same_era same_greatest epochs = record {
    lives = lives;
    label = label;
    era = same_era ∙ era;
    greatest = same_greatest ∙ greatest;
    epochs = epochs;
    given_in = nothing_given limits clock;
    given_to = none_to h.thread.began began;
  }

  went : (s2 : ThreadState) (p2 : PartSoFar) (log2 : Log) (clock : List ℕ) (h2 : Hart) → HasSlot limits post needs asked_state p log s2 p2 log2 clock →
      s2.hart ≡ Some h2 → ((l : Label) → s2.watcher.label ≡ Some l → IsLabel s2.watcher.greatest l) →
      MakesTurn file limits post clock r h2 y s2.watcher w3 p2 p3 log2 log3 → MadeTurn file limits post before log3 y w3 p p3
  went s2 p2 log2 clock h2 (Had _ has) left labels turn =
      let same : asked ≡ h2 = let z : Some asked ≡ Some h2 = left in cc in
      turn h None before nothing a (subst (λ (x : Hart). Asks file post.tid h x r) same asks)
      (may_make clock w (λ n. has (needs_is ∙ n)) refl refl (λ l e. subst (λ (n : ℕ). l.epoch ≤ n) greatest (labels l e).2)) tt
  went s2 p2 log2 clock h2 (Took _ _ _ _ needed unlabelled x) left labels turn =
      let m = x.takes file in
      let was : asked ≡ h = undone_same file post.tid h asked r (undone needed) asks in
      let same : h2 ≡ asked = took_same limits post asked_state s2 p p2 clock log log2 asked h2 x refl left in
      let owed = taken file limits post before log log2 asked_state s2 p p2 clock era
      (subst (λ (z : Hart). Stands file limits post before log (hand_at z w None) p nothing) (sym was) a) x in
      let now : hand_of s2 x.given ≡ hand_at h s2.watcher None =
      ap (λ (g : Option (Option (List ℕ))). hand_of s2 g) x.given_first
      ∙ ap (λ (o : Option Hart). hand_of (record { hart = o; watcher = s2.watcher }) None) (left ∙ ap Some (same ∙ was)) in
      let taken_now = subst (λ (l : Hand). Stands file limits post before log2 l p2 needy) now owed in
      let label = ap (λ (l : Hand). l.watched.label) m.hand in
      let made = turn h None before needy taken_now (subst (λ (z : Hart). Asks file post.tid h z r) (sym same) asks)
      (may_make clock s2.watcher (λ n e. absurd (let z : Some x.label ≡ None = sym label ∙ e in cc))
      (ap (λ (l : Hand). l.watched.era) m.hand) (ap (λ (l : Hand). l.watched.greatest) m.hand)
      (λ l e. subst (λ (n : ℕ). l.epoch ≤ n) (ap (λ (z : Hand). z.watched.greatest) m.hand ∙ greatest) (labels l e).2)) (sym needs_is ∙ needed) in
      record {
        stands = made.stands;
        era = made.era;
        greatest = made.greatest;
        began = made.began;
        steps =
            let s = steps_more p p2 (note_entry post (Attach x.label) p2.last) (ap (λ (z : PartSoFar). z.entries) x.told) in
            let e = ap (λ (z : PartSoFar). z.steps) x.told in
            let t = made.steps in
            omega (arith, s, e, t);
      }

-- in terms of the thread's state
pub went_on : (file : List ℕ) (limits : Limits) (post : Post) (asked y h0 : Hart) (s s2 : ThreadState) (w3 : Watched) (r : Request) (needs : Bool)
    (p p2 p3 : PartSoFar) (log log2 log3 : Log) (clock : List ℕ) (h2 : Hart) → s.hart ≡ Some h0 → Asks file post.tid h0 asked r →
    needs ≡ thread_needs file post.tid (Some h0.thread) → (needs ≡ true → IsUndone r) →
    HasSlot limits post needs (record { hart = Some asked; watcher = s.watcher }) p log s2 p2 log2 clock → s2.hart ≡ Some h2 →
    ((l : Label) → s2.watcher.label ≡ Some l → IsLabel s2.watcher.greatest l) →
    MakesTurn file limits post clock r h2 y s2.watcher w3 p2 p3 log2 log3 →
    GoesOn file limits post s (record { hart = Some y; watcher = w3 }) p p3 log log3
went_on file limits post asked y h0 s s2 w3 r needs p p2 p3 log log2 log3 clock h2 is asks needs_is undone has left labels turn h before old lives of_part a =
    let same : h0 ≡ h = let z : Some h0 ≡ Some h = sym is ∙ old in cc in
    let alive = subst (λ (x : Hart). x.thread.lives ≡ true) (sym same) lives in
    let stands = subst (λ (o : Option Hart). Stands file limits post before log (hand_of (record { hart = o; watcher = s.watcher }) None) p nothing) is a in (
      y,
      refl,
      went file limits post before h0 asked y s.watcher w3 r needs p p3 log log3 asks needs_is undone alive (of_part.began h0 is) of_part.era
          of_part.greatest stands s2 p2 log2 clock h2 has left labels turn,
    )

-- the thread is the one that asked
pub slot_same : (limits : Limits) (post : Post) (needs : Bool) (asked h2 : Hart) (w : Watched) (p p2 : PartSoFar) (log log2 : Log) (s2 : ThreadState)
    (clock : List ℕ) → HasSlot limits post needs (record { hart = Some asked; watcher = w }) p log s2 p2 log2 clock → s2.hart ≡ Some h2 → h2 ≡ asked
slot_same limits post needs asked h2 w p p2 log log2 s2 clock (Had _ has) left = let z : Some asked ≡ Some h2 = left in cc
slot_same limits post needs asked h2 w p p2 log log2 s2 clock (Took _ _ _ _ needed unlabelled x) left =
    took_same limits post (record { hart = Some asked; watcher = w }) s2 p p2 clock log log2 asked h2 x refl left

-- a thread that has arrived goes on, where it lives
pub goes_arrived : (file : List ℕ) (limits : Limits) (post : Post) (s t : ThreadState) (p q : PartSoFar) (log new : Log) (o : Option Hart) → s.hart ≡ o →
    (o ≡ None → ⊥) → GoesOn file limits post s t p q log new → Goes file limits post s t p q log new
goes_arrived file limits post s t p q log new None is arrived g before living of_part a = absurd (arrived refl)
goes_arrived file limits post s t p q log new (Some h) is arrived g before living of_part a = g h before is (subst IsLiving is living) of_part a

-- the desk had no free slot, and the thread is the one that asked
pub found_none : (file : List ℕ) (limits : Limits) (post : Post) (asked h : Hart) (s t : ThreadState) (r : Request) (needs : Bool) (p q : PartSoFar)
    (log new : Log) → s.hart ≡ Some h → Asks file post.tid h asked r → needs ≡ thread_needs file post.tid (Some h.thread) → (needs ≡ true → IsUndone r) →
    Lacks limits needs (record { hart = Some asked; watcher = s.watcher }) t p q log new → FindsNoSlot file limits post s t p q log new
found_none file limits post asked h s t r needs p q log new is asks needs_is undone x =
    let was : asked ≡ h = undone_same file post.tid h asked r (undone x.needed) asks in
    let same : Some asked ≡ s.hart = ap Some was ∙ sym is in
    record {
      needs = subst (NeedsOne file post.tid) (sym is) (sym needs_is ∙ x.needed);
      unlabelled = x.unlabelled;
      tries = subst (λ (o : Option Hart). TriesAtDesk limits (record { hart = o; watcher = s.watcher }) t p q log new) same x.tries;
    }
