-- The first instruction of a thread that arrives with the slot that it took.
use Rattle.std.proofs.Common.{◌≡◌, ◌||◌, not, ◌≤◌, ℕ, Bool, true, false, List, Option, Some, None, refl, ap, sym, subst, ◌∙◌, arith}
use Rattle.run_record.specs.declared.entry.Label.{Label}
use Rattle.run_record.specs.declared.entry.DeskNote.TheVariants.{Attach}
use Rattle.run_record.specs.declared.limits.Limits.{Limits}
use Rattle.bare_machine.specs.declared.request.Request.{Request}
use Rattle.bare_machine.specs.Requests.{request, needs}
use Rattle.race_core.specs.Watched.{Watched, IsLabel}
use Rattle.shared_table.specs.Past.{Log}
use Rattle.placed_detector.specs.Standing.{Hand}
use Rattle.hart_steps.specs.declared.hart.Hart.{Hart}
use Rattle.hart_steps.specs.Asked.{Asks}
use Rattle.part_growth.specs.Growth.{needy}
use Rattle.hart_turns.specs.declared.slots.ThreadState.{ThreadState}
use Rattle.hart_turns.specs.Slots.{hand_of}
use Rattle.hart_turns.specs.Makes.{hand_at}
use Rattle.part_workers.specs.declared.part.Post.{Post}
use Rattle.part_workers.specs.declared.part.PartSoFar.{PartSoFar}
use Rattle.part_workers.specs.Parts.{note_entry}
use Rattle.part_workers.specs.Turns.{TakesAtDesk, IsGivenFirst}
use Rattle.part_workers.specs.Needs.{HasSlot, Had, Took, Lacks, Goes, NeedsOne, FindsNoSlot}
use Rattle.part_workers.specs.Standing.{Stands, IsGivenTo, MayMake, MakesTurn}
use Rattle.part_workers.proofs.Keeping.{steps_more}
use Rattle.part_workers.proofs.Taking.{taken}

-- a thread that hasn't begun needs a slot
first_needs : (began more : Bool) → began ≡ false → (not began || more) ≡ true
first_needs false more e = refl
first_needs true more e = absurd (let z : true ≡ false = e in cc)

-- what was left for a thread that arrives is given to one that hasn't begun
first_given : (o : Option Hart) (began : Bool) (given : Option (Option (List ℕ))) → o ≡ None → began ≡ false → IsGivenFirst o given → IsGivenTo began given
first_given None false given e b g = g
first_given None true given e b g = absurd (let z : true ≡ false = b in cc)
first_given (Some h) began given e b g = absurd (let z : Some h ≡ None = e in cc)

module _ (file : List ℕ) (limits : Limits) (post : Post) (s s2 : ThreadState) (asked y h : Hart) (v : Watched) (r : Request)
    (p p2 p3 : PartSoFar) (log log2 log3 : Log) (clock : List ℕ) (absent : s.hart ≡ None) (left : s2.hart ≡ Some h)
    (labels : (l : Label) → s2.watcher.label ≡ Some l → IsLabel s2.watcher.greatest l) (lives : h.thread.lives ≡ true) (began : h.thread.began ≡ false)
    (asks : Asks file post.tid h asked r) (turn : MakesTurn file limits post clock r asked y s2.watcher v p2 p3 log2 log3) where
  abbrev after : ThreadState
  after = record { hart = Some y; watcher = v }

  -- with the slot that it took
  first_made : TakesAtDesk limits post s s2 p p2 clock log log2 → Goes file limits post s after p p3 log log3
  first_made x before living of_part a =
      let m = x.takes file in
      let now : hand_of s2 x.given ≡ hand_at h s2.watcher x.given =
      ap (λ (o : Option Hart). hand_of (record { hart = o; watcher = s2.watcher }) x.given) left in
      let owed = subst (λ (l : Hand). Stands file limits post before log2 l p2 needy) now
      (taken file limits post before log log2 s s2 p p2 clock of_part.era a x) in
      let label = ap (λ (l : Hand). l.watched.label) m.hand in
      let may : MayMake file limits post h s2.watcher clock x.given = record {
        lives = lives;
        label = λ n e. absurd (let z : Some x.label ≡ None = sym label ∙ e in cc);
        era = ap (λ (l : Hand). l.watched.era) m.hand ∙ of_part.era;
        greatest = ap (λ (l : Hand). l.watched.greatest) m.hand ∙ of_part.greatest;
        epochs = λ l e. subst (λ (n : ℕ). l.epoch ≤ n) (ap (λ (z : Hand). z.watched.greatest) m.hand ∙ of_part.greatest) (labels l e).2;
        given_in = x.given_in;
        given_to = first_given s.hart h.thread.began x.given absent began x.given_first;
      } in
      let made = turn h x.given before needy owed asks may (first_needs h.thread.began (needs (request file post.tid h.thread)) began) in (
        y,
        refl,
        record {
          stands = made.stands;
          era = made.era;
          greatest = made.greatest;
          began = made.began;
          steps =
              let n = steps_more p p2 (note_entry post (Attach x.label) p2.last) (ap (λ (z : PartSoFar). z.entries) x.told) in
              let e = ap (λ (z : PartSoFar). z.steps) x.told in
              let t = made.steps in
              omega (arith, n, e, t);
        },
      )

pub went_first : (file : List ℕ) (limits : Limits) (post : Post) (s s2 : ThreadState) (asked y h : Hart) (v : Watched) (r : Request)
    (p p2 p3 : PartSoFar) (log log2 log3 : Log) (clock : List ℕ) → s.hart ≡ None → s2.hart ≡ Some h →
    ((l : Label) → s2.watcher.label ≡ Some l → IsLabel s2.watcher.greatest l) → h.thread.lives ≡ true → h.thread.began ≡ false →
    Asks file post.tid h asked r → MakesTurn file limits post clock r asked y s2.watcher v p2 p3 log2 log3 →
    HasSlot limits post true s p log s2 p2 log2 clock → Goes file limits post s (record { hart = Some y; watcher = v }) p p3 log log3
went_first file limits post s _ asked y h v r p _ p3 log _ log3 _ absent left labels lives began asks turn (Had _ has) =
    absurd (let z : None ≡ Some h = sym absent ∙ left in cc)
went_first file limits post s s2 asked y h v r p p2 p3 log log2 log3 clock absent left labels lives began asks turn (Took _ _ _ _ needed unlabelled x) =
    first_made file limits post s s2 asked y h v r p p2 p3 log log2 log3 clock absent left labels lives began asks turn x

-- and a thread that hasn't arrived finds no slot
pub none_first : (file : List ℕ) (limits : Limits) (post : Post) (s t : ThreadState) (p q : PartSoFar) (log new : Log) → s.hart ≡ None →
    Lacks limits true s t p q log new → FindsNoSlot file limits post s t p q log new
none_first file limits post s t p q log new absent x = record {
  needs = subst (NeedsOne file post.tid) (sym absent) tt;
  unlabelled = x.unlabelled;
  tries = x.tries;
}
