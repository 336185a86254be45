-- Rounds, one after another.
use Rattle.std.proofs.Common.{◌≡◌, ℕ, zero, suc, ◌+◌, ◌-◌, ◌*◌, ◌<◌, ◌≤◌, ◌==◌, ◌&&◌, if◌then◌else◌, Bool, true, false, Option, Some, Ok, List, [], ◌∷◌, ◌++◌, length, drop, refl, ap, ◌∙◌, sym, subst, arith, inl, inr, length-append, append_assoc, eq-eqb, None, ◌||◌}
use Rattle.std.specs.Prelude.{All, slice_get, nat_lt, is_none}
use Rattle.std.specs.List.{list_any}
use Rattle.std.proofs.lemmas.List.{append-nil, length-replicate}
use Rattle.std.proofs.Math.Seq.{take-length}
use Rattle.std.proofs.lemmas.List.Elements.{All-nil, All-cons, All-append, All-weaker, All-get_or}
use Rattle.std.proofs.lemmas.Option.{slice_get_within, get_or_from_slice_get}
use Rattle.std.proofs.lemmas.Bool.{cases_lt, ltb-true, lt-ltb}
use Rattle.run_record.specs.declared.entry.Entry.{Entry}
use Rattle.run_record.specs.declared.limits.Limits.{Limits}
use Rattle.run_record.specs.declared.plan.Turn.{Turn}
use Rattle.elf_image.specs.File.{image_of}
use Rattle.bare_machine.specs.World.{World, lives}
use Rattle.bare_machine.specs.Preview.{needs_slot}
use Rattle.run_laws.specs.Moments.{moments, moments_in, era_moments, last_era as last_era_of, NewEra}
use Rattle.run_laws.specs.Numbers.{up_from}
use Rattle.run_laws.specs.Present.{label_now, queue_now}
use Rattle.run_laws.specs.Faithful.{OneByOne, state_after}
use Rattle.run_laws.specs.Reports.{Kept}
use Rattle.run_laws.specs.Rounds.{Progress, Due, IsInRound, IsRound, MakesDue, is_starved, after_round, turns_after, last_due, dues, steps_in, steps_by}
use Rattle.turn_laws.specs.Turns.{GoesOn}
use Rattle.turn_laws.proofs.PartLaw.{steps_more, steps_by_more}
use Rattle.machine_laws.specs.Machine.{bare_of}
use Rattle.detector.specs.Detected.{Detected, after_era}
use Rattle.detector.specs.Told.{TellsAll}
use Rattle.report_text.specs.Offers.{offers}
use Rattle.thread_turns.specs.declared.watched.WatchedMachine.{WatchedMachine}
use Rattle.thread_turns.specs.declared.watched.TurnEnd.{TurnEnd}
use Rattle.thread_turns.specs.Follows.{Follows, moments_by, IsStarved, TakesTurn}
use Rattle.whole_runs.specs.Told.{Told}
use Rattle.step_engine.specs.declared.engine.Engine.{Engine}
use Rattle.step_engine.specs.declared.engine.Due as chosen
use Rattle.step_engine.specs.Rounds.{IsBetween, IsAtEnd}
use Rattle.step_engine.specs.Progress.{progress, due_of, CanRound, none_free, IsReady, MakesTurns, MakesRound}
use Rattle.step_engine.proofs.RoundLaws.{at_begin, told_all, next_round, next_era}

-- ---- the turns of a round

-- the round so far
pub record Turned (file : List ℕ) (limits : Limits) (old : Engine) (d : chosen.Due) (entries : List Entry) (w : WatchedMachine) (made : ℕ) (starved : Bool) : Type 0 where
  pub part : List Entry
  pub entries_are : entries ≡ old.entries ++ part
  pub at_end : IsAtEnd file limits old.round old.entries part old.watched w
  pub in_round :
      (p : Progress) (ds : List Due) → p.round ≡ old.round → p.era ≡ old.watched.detector.era →
      list_any (λ (due : Due). due.tid == d.tid) ds ≡ true → All (IsInRound p ds) part
  pub steps_are : steps_in part ≡ made
  pub steps_by_it : steps_by d.tid part ≡ made
  pub no_more : made ≤ d.given
  pub goes_on : starved ≡ false → made < d.given → GoesOn (bare_of file limits.harts) entries d.tid old.round
  pub starved_is : starved ≡ true → IsStarved file limits old.round d.tid entries w
  pub none_made : made ≡ 0 → starved ≡ false → w ≡ old.watched
  pub none_free_before : made ≡ 0 → starved ≡ true → old.watched.detector.desk.queue ≡ []
  pub grown : length (moments_by old.round entries w) ≤ length (moments_by old.round old.entries old.watched) + 7 * made

all_at : {X : Type 0} (P : X → Type 0) (xs : List X) (i : ℕ) (x : X) → All P xs → slice_get xs i ≡ Some x → P x
all_at P xs i x a e = subst P (get_or_from_slice_get xs i x x e) (All-get_or P xs i x (slice_get_within xs i x e) a)

pub turned-start : (file : List ℕ) (limits : Limits) (old : Engine) (d : chosen.Due) → IsReady file limits old → Turned file limits old d old.entries old.watched 0 false
turned-start file limits old d r = record {
  part = [];
  entries_are = rw append-nil refl;
  at_end = at_begin file limits old.round old.entries old.watched r.between;
  in_round = λ p ds a b c. All-nil (IsInRound p ds);
  steps_are = refl;
  steps_by_it = refl;
  no_more = omega arith;
  goes_on = λ e less i f at tid round some. absurd (let earlier : f.round < old.round = all_at (λ (e : Entry). e.round < old.round) old.entries i f r.between.before at in omega arith);
  starved_is = λ e. absurd cc;
  none_made = λ a b. refl;
  none_free_before = λ a e. absurd cc;
  grown = omega arith;
}

-- where a thread is starved before it makes an instruction, no slot was free
none_free_at_first : (file : List ℕ) (limits : Limits) (from round tid most : ℕ) (before after : List Entry) (old new : WatchedMachine) (end : TurnEnd) →
    TakesTurn file round tid most before after old new end → Follows file limits from round before old → end.steps ≡ 0 → end.starved ≡ true → old.detector.desk.queue ≡ []
none_free_at_first file limits from round tid most before after old new end t f none starved =
    let same : after ≡ before = t.entries_are ∙ (ap (λ (es : List Entry). before ++ es) (t.none_added none) ∙ append-nil before) in
    let empty : queue_now limits.epochs limits.slots (moments_by round after new) ≡ [] =
    subst (λ (l : Limits). queue_now l.epochs l.slots (moments_by round after new) ≡ []) f.stands.limits_are (t.starved starved).empty in
    f.stands.desk.desk.same_queue
    ∙ subst (λ (es : List Entry). queue_now limits.epochs limits.slots (moments_in round old.detector.era es) ≡ []) same
    (subst (λ (era : ℕ). queue_now limits.epochs limits.slots (moments_in round era after) ≡ []) t.era_stays empty)

-- a round of which only its number and era matter
abbrev this_round : ℕ → ℕ → Progress
this_round round era = record { round = round; era = era; last_era = 0; remaining = 0; turns = []; last = None; entries = [] }

abbrev this_due : ℕ → Due
this_due t = record { tid = t; given = 0 }

is_due : (t : ℕ) → list_any (λ (due : Due). due.tid == t) (this_due t ∷ []) ≡ true
is_due t = rw (eq-eqb t t refl) refl

pub turned-more :
    (file : List ℕ) (limits : Limits) (old : Engine) (d : chosen.Due) (before after : List Entry) (w new : WatchedMachine) (made : ℕ) (end : TurnEnd) →
    Turned file limits old d before w made false → made < d.given → TakesTurn file old.round d.tid (d.given - made) before after w new end →
    Turned file limits old d after new (made + end.steps) end.starved
turned-more file limits old d before after w new made end s below t =
    let limits_is : w.detector.limits ≡ limits = s.at_end.follows.stands.limits_are in
    let entries_are : after ≡ old.entries ++ (s.part ++ t.added) = t.entries_are ∙ ap (λ (es : List Entry). es ++ t.added) s.entries_are ∙ append_assoc old.entries s.part t.added in
    let era_is : w.detector.era ≡ old.watched.detector.era = s.at_end.era in
    let from = length (moments_by old.round old.entries old.watched) in
    let followed : Follows file limits from old.round before w = subst (λ (es : List Entry). Follows file limits from old.round es w) (sym s.entries_are) s.at_end.follows in
    let follows : Follows file limits from old.round after new = t.follows limits from followed in
    let few : made ≤ d.given = s.no_more in
    let more : end.steps ≤ d.given - made = t.no_more in
    let grown : length (moments_by old.round after new) ≤ length (moments_by old.round before w) + 7 * end.steps = t.grown in
    let grew : length (moments_by old.round before w) ≤ length (moments_by old.round old.entries old.watched) + 7 * made = s.grown in
    record {
      part = s.part ++ t.added;
      entries_are = entries_are;
      at_end = record {
        follows = subst (λ (es : List Entry). Follows file limits from old.round es new) entries_are follows;
        before = s.at_end.before;
        now = All-append (λ (e : Entry). (e.round ≡ old.round) × (e.era ≡ old.watched.detector.era)) s.part t.added s.at_end.now
            (All-weaker (IsInRound (this_round old.round old.watched.detector.era) (this_due d.tid ∷ [])) (λ (e : Entry). (e.round ≡ old.round) × (e.era ≡ old.watched.detector.era)) (λ e i. (i.round, i.era)) t.added
            (t.in_round (this_round old.round old.watched.detector.era) (this_due d.tid ∷ []) refl (sym era_is) (is_due d.tid)));
        era = t.era_stays ∙ era_is;
      };
      in_round = λ p ds a b c. All-append (IsInRound p ds) s.part t.added (s.in_round p ds a b c) (t.in_round p ds a (b ∙ sym era_is) c);
      steps_are = steps_more s.part t.added ∙ (let x = s.steps_are in let y = t.steps_are in omega arith);
      steps_by_it = steps_by_more d.tid s.part t.added ∙ (let x = s.steps_by_it in let y = t.steps_by_it in omega arith);
      no_more = omega arith;
      goes_on = λ e less. subst (λ (l : Limits). GoesOn (bare_of file l.harts) after d.tid old.round) limits_is (t.goes_on e (omega arith));
      starved_is = λ e. subst (λ (l : Limits). IsStarved file l old.round d.tid after new) limits_is (t.starved e);
      none_made = λ none e. absurd (let some : 1 ≤ end.steps = t.some e in omega arith);
      none_free_before = λ none e.
          let made_none : made ≡ 0 = omega arith in
          let same : w ≡ old.watched = s.none_made made_none refl in
          ap (λ (v : WatchedMachine). v.detector.desk.queue) (sym same) ∙ none_free_at_first file limits from old.round d.tid (d.given - made) before after w new end t followed (omega arith) e;
      grown = omega arith;
    }

-- the round's turns are over: as many instructions as given were made, or the thread was starved or has ended
pub makes_turns :
    (file : List ℕ) (limits : Limits) (old new : Engine) (d : chosen.Due) (made : ℕ) (starved : Bool) (end : TurnEnd) →
    CanRound old d → 0 < d.given → Turned file limits old d new.entries new.watched made starved →
    new ≡ record old { watched = new.watched; part = new.part; entries = new.entries } →
    ((made < d.given) → starved ≡ false → lives new.watched.machine d.tid ≡ false) →
    end.steps ≡ made → ((end.starved ≡ true) → (starved ≡ true) × (made < d.given)) → (starved ≡ true → made < d.given → end.starved ≡ true) →
    MakesTurns file limits old new d end
makes_turns file limits old new d made starved end can given t rest why steps_is only starves =
    let none_free : made ≡ 0 → (starved ≡ true) × (old.watched.detector.desk.queue ≡ []) = λ none. by_case starved refl none in
    record {
      part = t.part;
      at_end = t.at_end;
      rest = rest ∙ ap (λ (es : List Entry). record old { watched = new.watched; part = new.part; entries = es }) t.entries_are;
      in_round = t.in_round;
      steps_are = t.steps_are ∙ sym steps_is;
      steps_by_it = t.steps_by_it ∙ sym steps_is;
      no_more = let few : made ≤ d.given = t.no_more in omega arith;
      fewer = λ few alive. starves (live starved refl (omega arith) alive) (omega arith);
      starved = λ e. (let few = (only e).1 in omega arith, subst (λ (es : List Entry). IsStarved file limits old.round d.tid es new.watched) t.entries_are (t.starved_is (only e).0));
      none_free_before = λ none. let q = none_free (sym steps_is ∙ none) in (starves q.0 (omega arith), q.1);
      grown = subst (λ (es : List Entry). length (moments_by old.round es new.watched) ≤ length (moments_by old.round old.entries old.watched) + 7 * end.steps) t.entries_are (let g = t.grown in omega arith);
    }
  where
    live : (b : Bool) → starved ≡ b → made < d.given → lives new.watched.machine d.tid ≡ true → starved ≡ true
    live true e few alive = e
    live false e few alive = absurd (let dead = why few e in cc)

    by_case : (b : Bool) → starved ≡ b → made ≡ 0 → (starved ≡ true) × (old.watched.detector.desk.queue ≡ [])
    by_case true e none = (e, t.none_free_before none e)
    by_case false e none =
        let same : new.watched ≡ old.watched = t.none_made none e in
        let dead : lives new.watched.machine d.tid ≡ false = why (omega arith) e in
        let alive : lives new.watched.machine d.tid ≡ true = subst (λ (w : WatchedMachine). lives w.machine d.tid ≡ true) (sym same) can.lives_now in
        absurd cc

-- ---- what bounds say

pub offers_fit : (file : List ℕ) (limits : Limits) (old mid : Engine) (d : chosen.Due) (end : TurnEnd) (kept : Kept) (n : ℕ) →
    IsReady file limits old → CanRound old d → (t : MakesTurns file limits old mid d end) →
    offers kept + n ≤ length (moments_by old.round (old.entries ++ t.part) mid.watched) → offers kept + n < 4294967295
offers_fit file limits old mid d end kept n r can t few =
    let a : length (moments_by old.round old.entries old.watched) + 7 * old.remaining ≤ 56000000 + old.round = r.bounded.moments in
    let b : old.round + (2 * old.remaining + none_free old.watched.detector.desk.queue) ≤ 16000001 = r.bounded.rounds in
    let g : length (moments_by old.round (old.entries ++ t.part) mid.watched) ≤ length (moments_by old.round old.entries old.watched) + 7 * end.steps = t.grown in
    let x : end.steps ≤ d.given = t.no_more in
    let y : d.given ≤ old.remaining = can.within in
    omega arith

-- ---- the end of a round

pub length_in : (round era : ℕ) (es : List Entry) → length (moments_in round era es) ≡ length (moments es) + (era - last_era_of es)
length_in round era es =
    length-append (moments es) (era_moments (last_era_of es) (length es) round era)
    ∙ ap (λ (n : ℕ). length (moments es) + n) (length-replicate (era - last_era_of es) (record { entry = length es; round = round; item = NewEra; checks = [] }))

pub at_most_one : (queue : List ℕ) → none_free queue ≤ 1
at_most_one [] = omega arith
at_most_one (sid ∷ rest) = omega arith

none_free_filled : (n : ℕ) → 1 ≤ n → none_free (up_from 0 n) ≡ 0
none_free_filled zero some = absurd (omega arith)
none_free_filled (suc n) some = refl

all_four : (a b c e : Bool) → a ≡ true → b ≡ true → c ≡ true → e ≡ true → (a && b && c && e) ≡ true
all_four a b c e p q r s = rw (p, q, r, s) refl

first_two : (a b c e : Bool) → (a && b && c && e) ≡ true → (a ≡ true) × (b ≡ true)
first_two false b c e p = absurd cc
first_two true false c e p = absurd cc
first_two true true c e p = (refl, refl)

same_truth : (b s : Bool) → (b ≡ true → s ≡ true) → (s ≡ true → b ≡ true) → b ≡ s
same_truth true true f g = refl
same_truth true false f g = absurd (let e : false ≡ true = f refl in cc)
same_truth false true f g = absurd (let e : false ≡ true = g refl in cc)
same_truth false false f g = refl

or_none : (b : Bool) → (b || false) ≡ b
or_none true = refl
or_none false = refl

raised_by_one : (b : Bool) (era next : ℕ) → next ≡ (if b then era + 1 else era) → next ≤ era + 1
raised_by_one true era next e = omega arith
raised_by_one false era next e = omega arith

module _ (file : List ℕ) (limits : Limits) (old mid : Engine) (d : chosen.Due) (end : TurnEnd) (plan : List Turn) (t : MakesTurns file limits old mid d end) where
  alive_now : (b : Bool) → lives (state_after (bare_of file limits.harts) (old.entries ++ t.part)) d.tid ≡ b → lives mid.watched.machine d.tid ≡ b
  alive_now b e = subst (λ (s : World). lives s d.tid ≡ b) (sym t.at_end.follows.machine) e

  starved_so : end.starved ≡ true → is_starved limits (bare_of file limits.harts) (progress old plan) t.part (due_of d) ≡ true
  starved_so e =
      let st = (t.starved e).1 in
      let few : steps_by d.tid t.part < d.given = (let a = (t.starved e).0 in let b = t.steps_by_it in omega arith) in
      all_four (nat_lt (steps_by d.tid t.part) d.given) (lives (state_after (bare_of file limits.harts) (old.entries ++ t.part)) d.tid)
      (needs_slot file (state_after (bare_of file limits.harts) (old.entries ++ t.part)) d.tid)
      (is_none (label_now limits.epochs (moments_in old.round old.watched.detector.era (old.entries ++ t.part)) d.tid))
      (lt-ltb _ _ few)
      (subst (λ (s : World). lives s d.tid ≡ true) t.at_end.follows.machine st.alive)
      (subst (λ (s : World). needs_slot file s d.tid ≡ true) t.at_end.follows.machine st.needy)
      (subst (λ (era : ℕ). is_none (label_now limits.epochs (moments_in old.round era (old.entries ++ t.part)) d.tid) ≡ true) t.at_end.era (rw st.unlabelled refl))

  starved_only : is_starved limits (bare_of file limits.harts) (progress old plan) t.part (due_of d) ≡ true → end.starved ≡ true
  starved_only e =
      let both =
      first_two (nat_lt (steps_by d.tid t.part) d.given) (lives (state_after (bare_of file limits.harts) (old.entries ++ t.part)) d.tid)
      (needs_slot file (state_after (bare_of file limits.harts) (old.entries ++ t.part)) d.tid)
      (is_none (label_now limits.epochs (moments_in old.round old.watched.detector.era (old.entries ++ t.part)) d.tid)) e
      in
      let few : steps_by d.tid t.part < d.given = ltb-true _ _ both.0 in
      t.fewer (let b = t.steps_by_it in omega arith) (alive_now true both.1)

  starved_is : is_starved limits (bare_of file limits.harts) (progress old plan) t.part (due_of d) ≡ end.starved
  starved_is = same_truth (is_starved limits (bare_of file limits.harts) (progress old plan) t.part (due_of d)) end.starved starved_only starved_so

  makes_due : MakesDue OneByOne limits (bare_of file limits.harts) (progress old plan) t.part (due_of d)
  makes_due = record {
    no_more = let a = t.no_more in let b = t.steps_by_it in omega arith;
    fewer = λ few alive.
        let s : end.starved ≡ true = t.fewer (let b = t.steps_by_it in omega arith) (alive_now true alive) in (
          starved_so s,
          subst (λ (es : List Entry). queue_now limits.epochs limits.slots (moments_in old.round old.watched.detector.era (old.entries ++ es)) ≡ []) (sym (take-length t.part))
              (subst (λ (era : ℕ). queue_now limits.epochs limits.slots (moments_in old.round era (old.entries ++ t.part)) ≡ []) t.at_end.era (t.starved s).1.empty),
        );
  }

  pub makes_is_round : dues OneByOne limits (bare_of file limits.harts) (progress old plan) ≡ due_of d ∷ [] → IsRound OneByOne limits (bare_of file limits.harts) (progress old plan) t.part
  makes_is_round e = record {
    entries = t.in_round (progress old plan) (dues OneByOne limits (bare_of file limits.harts) (progress old plan)) refl refl
        (subst (λ (ds : List Due). list_any (λ (due : Due). due.tid == d.tid) ds ≡ true) (sym e) (rw (eq-eqb d.tid d.tid refl) refl));
    made = subst (λ (ds : List Due). All (MakesDue OneByOne limits (bare_of file limits.harts) (progress old plan) t.part) ds) (sym e)
        (All-cons (MakesDue OneByOne limits (bare_of file limits.harts) (progress old plan) t.part) (due_of d) [] makes_due (All-nil (MakesDue OneByOne limits (bare_of file limits.harts) (progress old plan) t.part)));
  }

  any_starved : dues OneByOne limits (bare_of file limits.harts) (progress old plan) ≡ due_of d ∷ [] → list_any (is_starved limits (bare_of file limits.harts) (progress old plan) t.part) (dues OneByOne limits (bare_of file limits.harts) (progress old plan)) ≡ end.starved
  any_starved e =
      ap (λ (ds : List Due). list_any (is_starved limits (bare_of file limits.harts) (progress old plan) t.part) ds) e
      ∙ or_none (is_starved limits (bare_of file limits.harts) (progress old plan) t.part (due_of d)) ∙ starved_is

  pub makes_after :
      (last_era era : ℕ) → last_era ≡ old.watched.detector.era → era ≡ (if end.starved then old.watched.detector.era + 1 else old.watched.detector.era) →
      dues OneByOne limits (bare_of file limits.harts) (progress old plan) ≡ due_of d ∷ [] → drop d.turn plan ≡ turns_after (bare_of file limits.harts) (progress old plan) →
      record { round = old.round + 1; era = era; last_era = last_era; remaining = old.remaining - end.steps; turns = drop d.turn plan; last = Some d.tid; entries = old.entries ++ t.part }
      ≡ after_round OneByOne limits (bare_of file limits.harts) (progress old plan) t.part
  makes_after last_era era l r e turns =
      let era_is : era ≡ (if list_any (is_starved limits (bare_of file limits.harts) (progress old plan) t.part) (dues OneByOne limits (bare_of file limits.harts) (progress old plan)) then old.watched.detector.era + 1 else old.watched.detector.era) =
      r ∙ ap (λ (b : Bool). if b then old.watched.detector.era + 1 else old.watched.detector.era) (sym (any_starved e)) in
      let left_is : old.remaining - end.steps ≡ old.remaining - steps_in t.part = ap (λ (n : ℕ). old.remaining - n) (sym t.steps_are) in
      let last_is : Some d.tid ≡ last_due (dues OneByOne limits (bare_of file limits.harts) (progress old plan)) = ap last_due (sym e) in
      λ i. record { round = old.round + 1; era = era_is i; last_era = l i; remaining = left_is i; turns = turns i; last = last_is i; entries = old.entries ++ t.part }

-- the round is over, and the next one may begin with that detector
pub made_round :
    (file : List ℕ) (limits : Limits) (old mid : Engine) (d : chosen.Due) (end : TurnEnd) (next : Detected) (last_era : ℕ) →
    CanRound old d → 0 < d.given → IsReady file limits old → (t : MakesTurns file limits old mid d end) →
    IsBetween file limits (old.round + 1) (old.entries ++ t.part) (record { machine = mid.watched.machine; detector = next }) →
    last_era ≡ old.watched.detector.era → next.era ≡ (if end.starved then old.watched.detector.era + 1 else old.watched.detector.era) →
    (end.starved ≡ true → none_free next.desk.queue ≡ 0) →
    MakesRound file limits old
    (record {
      watched = record { machine = mid.watched.machine; detector = next };
      entries = old.entries ++ t.part;
      part = mid.part;
      turn = d.turn;
      last = Some d.tid;
      round = old.round + 1;
      last_era = last_era;
      remaining = old.remaining - end.steps;
    }) d
made_round file limits old mid d end next last_era can given r t between l era_is filled =
    let some_left : d.given ≤ old.remaining = can.within in
    let few : end.steps ≤ d.given = t.no_more in
    let raised : next.era ≤ old.watched.detector.era + 1 = raised_by_one end.starved old.watched.detector.era next.era era_is in
    let one : none_free next.desk.queue ≤ 1 = at_most_one next.desk.queue in
    let left : 2 * (old.remaining - end.steps) + none_free next.desk.queue < 2 * old.remaining + none_free old.watched.detector.desk.queue =
    elim (cases_lt 0 end.steps) [
      | inl some ↦ omega arith
      | inr none ↦
          let none_made : end.steps ≡ 0 = omega arith in
          let before = t.none_free_before none_made in
          let empty : none_free old.watched.detector.desk.queue ≡ 1 = ap none_free before.1 in
          let full : none_free next.desk.queue ≡ 0 = filled before.0 in
          omega arith
    ] in
    let a : length (moments_by old.round old.entries old.watched) + 7 * old.remaining ≤ 56000000 + old.round = r.bounded.moments in
    let b : old.round + (2 * old.remaining + none_free old.watched.detector.desk.queue) ≤ 16000001 = r.bounded.rounds in
    let e : old.watched.detector.era ≤ old.round = r.bounded.eras in
    let g : length (moments_by old.round (old.entries ++ t.part) mid.watched) ≤ length (moments_by old.round old.entries old.watched) + 7 * end.steps = t.grown in
    let same : mid.watched.detector.era ≡ old.watched.detector.era = t.at_end.era in
    let here : length (moments_in old.round mid.watched.detector.era (old.entries ++ t.part)) ≡ length (moments (old.entries ++ t.part)) + (mid.watched.detector.era - last_era_of (old.entries ++ t.part)) = length_in old.round mid.watched.detector.era (old.entries ++ t.part) in
    let there : length (moments_in (old.round + 1) next.era (old.entries ++ t.part)) ≡ length (moments (old.entries ++ t.part)) + (next.era - last_era_of (old.entries ++ t.part)) = length_in (old.round + 1) next.era (old.entries ++ t.part) in
    record {
      part = t.part;
      entries_are = refl;
      is_round = λ plan. makes_is_round file limits old mid d end plan t;
      after = λ plan. makes_after file limits old mid d end plan t last_era next.era l era_is;
      turn = refl;
      ready = record {
        between = between;
        bounded = record { rounds = omega arith; eras = omega arith; moments = omega arith };
      };
      fewer_left = left;
    }

-- what a detector that has told its reports keeps
told_era : (meets : Option (List ℕ) → Option (List ℕ) → Bool) (file : List ℕ) (old new : Detected) (before after : Kept) → TellsAll meets file old new before after → new.era ≡ old.era
told_era meets file old new before after t = ap (λ (x : Detected). x.era) t.none_waits

pub told_slots : (meets : Option (List ℕ) → Option (List ℕ) → Bool) (file : List ℕ) (old new : Detected) (before after : Kept) → TellsAll meets file old new before after → length new.desk.slots ≡ length old.desk.slots
told_slots meets file old new before after t = ap (λ (x : Detected). length x.desk.slots) t.none_waits

module _ (meets : Option (List ℕ) → Option (List ℕ) → Bool) (file : List ℕ) (limits : Limits) (old mid : Engine) (d : chosen.Due) (end : TurnEnd) (det : Detected) (last_era : ℕ) (before reporter : Kept)
    (can : CanRound old d) (given : 0 < d.given) (r : IsReady file limits old) (t : MakesTurns file limits old mid d end)
    (tells : TellsAll meets file mid.watched.detector det before reporter) (last_is : last_era ≡ det.era) where
  era_is : det.era ≡ old.watched.detector.era
  era_is = told_era meets file mid.watched.detector det before reporter tells ∙ t.at_end.era

  abbrev Makes : Detected → Engine → Type 0
  Makes next m = MakesRound file limits old
      (record {
        watched = record { machine = mid.watched.machine; detector = next };
        entries = m.entries;
        part = mid.part;
        turn = d.turn;
        last = Some d.tid;
        round = m.round + 1;
        last_era = last_era;
        remaining = m.remaining - end.steps;
      }) d

  pub round-starved : (next : Detected) → end.starved ≡ true → next ≡ after_era det → Makes next mid
  round-starved next e n =
      subst (λ (x : Detected). Makes x mid) (sym n) (subst (Makes (after_era det)) (sym t.rest)
      (made_round file limits old mid d end (after_era det) last_era can given r t
      (next_era meets file limits old.round old.entries t.part old.watched mid.watched det before reporter t.at_end tells)
      (last_is ∙ era_is) (ap (λ (x : ℕ). x + 1) era_is ∙ rw e refl)
      (λ s. none_free_filled (length det.desk.slots) filled)))
    where
      filled : 1 ≤ length det.desk.slots
      filled =
          let a : length mid.watched.detector.desk.slots ≡ limits.slots = t.at_end.follows.stands.desk.desk.slots.all_slots in
          let b : length det.desk.slots ≡ length mid.watched.detector.desk.slots = told_slots meets file mid.watched.detector det before reporter tells in
          let x = t.at_end.follows.limits_are.some_harts in
          let y = t.at_end.follows.limits_are.harts_have_slots in
          omega arith

  pub round-whole : end.starved ≡ false → Makes det mid
  round-whole e =
      subst (Makes det) (sym t.rest)
      (made_round file limits old mid d end det last_era can given r t
      (next_round meets file limits old.round old.entries t.part old.watched mid.watched det before reporter t.at_end tells)
      (last_is ∙ era_is) (era_is ∙ rw e refl) (λ s. absurd cc))

  -- the reports of the round were told after those of the earlier rounds
  pub round_told : image_of file ≡ Ok file → Told meets file limits old.entries before → Told meets file limits mid.entries reporter
  round_told accepted earlier =
      subst (λ (es : List Entry). Told meets file limits es reporter) (sym (ap (λ (e : Engine). e.entries) t.rest))
      (told_all meets file limits old.round old.entries t.part old.watched mid.watched det before reporter accepted earlier t.at_end tells)
