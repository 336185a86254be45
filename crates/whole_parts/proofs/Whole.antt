-- Rounds of parts that are due are a whole run of threads that run at once.
use Rattle.std.proofs.Common.{◌≡◌, ℕ, ◌+◌, min, Bool, cond, List, [], ◌∷◌, ◌++◌, length, Some, inl, inr, refl, sym, ap, subst, ◌∙◌, arith}
use Rattle.std.specs.Prelude.{◌/◌, Ok}
use Rattle.std.specs.List.{list_any}
use Rattle.std.proofs.lemmas.List.{append_assoc, append-nil}
use Rattle.run_record.specs.declared.entry.Entry.{Entry}
use Rattle.run_record.specs.declared.limits.Limits.{Limits}
use Rattle.run_record.specs.declared.finished.GuestEnd.{GuestEnd}
use Rattle.run_record.specs.declared.finished.LastState.{LastState}
use Rattle.run_record.specs.declared.plan.Turn.{Turn}
use Rattle.elf_image.specs.File.{image_of}
use Rattle.run_laws.specs.Faithful.{AtOnce, state_after}
use Rattle.run_laws.specs.Rounds.{Progress, at_start, dues, live_in, is_starved, after_round, Reaches, Start, Round, Ends}
use Rattle.run_laws.specs.Lawful.{IsWholeRun}
use Rattle.bare_machine.specs.Step.{desk}
use Rattle.turn_histories.specs.Rounds.{all_entries}
use Rattle.shared_table.specs.declared.object.DeskState.{DeskState}
use Rattle.shared_table.specs.declared.view.Layout.{Layout}
use Rattle.race_core.specs.Watched.{AreWatcherLimits}
use Rattle.table_deeds.specs.Objects.{part_in, held_at, AreFirstObjects}
use Rattle.table_deeds.specs.Rounds.{made_in, last_stamp}
use Rattle.hart_parts.proofs.Rounds.{round_is}
use Rattle.woven_turns.specs.Following.{left_after}
use Rattle.table_deeds.proofs.First.{first_kept}
use Rattle.hart_parts.specs.Rounds.{PartRound, table_round, ArePartRounds}
use Rattle.whole_parts.specs.Dues.{AreDueRounds, entries_by_part_round, state_after_rounds, remaining_after, era_of_last, IsEnd, IsOver}
use Rattle.whole_parts.proofs.Standing.{bare, Stood, first_stood}
use Rattle.whole_parts.proofs.Listed.{Objects, at_next}
use Rattle.whole_parts.proofs.Desks.{TellsOf, tells_of}
use Rattle.whole_parts.proofs.New.{AreNew, next_new, first_new}
use Rattle.whole_parts.proofs.Dues.{is_round, ends_same, new_then, goes_on, gives, gives_none, end_none, end_all, end_first}

module _ (file : List ℕ) (limits : Limits) (ok : image_of file ≡ Ok file) (lay : Layout) (plan : List Turn) where
  -- how far the rounds come from there on
  pub record Comes (m : Objects file limits) (p : Progress) (rs : List PartRound) : Type 0 where
    pub progress : Progress
    pub reached : Reaches AtOnce limits (bare file limits) plan progress
    pub stood : Stood file limits (held_at file limits (state_after_rounds m rs)) progress.round progress.era progress.entries
    pub entries : progress.entries ≡ p.entries ++ all_entries (entries_by_part_round rs)
    pub remaining : progress.remaining ≡ remaining_after p.remaining rs
    pub round : progress.round ≡ p.round + length rs
    pub last_era : progress.last_era ≡ era_of_last p.last_era p.era rs

  pub comes : (rs : List PartRound) (p : Progress) (base : ℕ) (m : Objects file limits) → Reaches AtOnce limits (bare file limits) plan p →
      Stood file limits (held_at file limits m) p.round p.era p.entries → AreNew (part_in file desk (m.value desk)) →
      ArePartRounds file limits lay p.round p.era base m rs →
      AreDueRounds limits p.remaining m rs → Comes m p rs
  comes [] p base m reached s new are all = record {
    progress = p;
    reached = reached;
    stood = s;
    entries = sym (append-nil p.entries);
    remaining = refl;
    round = omega arith;
    last_era = refl;
  }
  comes (r ∷ rs) p base m reached s new are all =
      let table = round_is file limits lay p.round p.era m r are.1 in
      let t = table_round m r in
      let part = r.entries in
      let starved = list_any (is_starved limits (bare file limits) p part) (dues AtOnce limits (bare file limits) p) in
      let same : starved ≡ r.ends = ends_same file limits ok lay p m r are.1 s new all.0 in
      let one : Progress = after_round AtOnce limits (bare file limits) p part in
      let reached_one : Reaches AtOnce limits (bare file limits) plan one =
      Round p part reached (goes_on file limits ok lay p m r are.1 s new all.0) (gives file limits ok lay p m r are.1 s new all.0)
      (is_round file limits ok lay p m r are.1 s new all.0) in
      let at_end = at_next file limits lay p.round p.era m t table ok p.entries s in
      let stood_one = subst (λ (b : Bool). Stood file limits (held_at file limits r.next) (p.round + 1) (cond b (p.era + 1) p.era) (p.entries ++ part))
      (sym same) at_end in
      let new_one = next_new file limits r.ends ((left_after m (made_in t)).value desk) (r.next.value desk) table.onward.desk_is
      (new_then file limits ok lay p m r are.1 s new all.0) in
      let are_one = subst (λ (b : Bool). ArePartRounds file limits lay (p.round + 1) (cond b (p.era + 1) p.era) (last_stamp t) r.next rs) (sym same) are.2 in
      let rest = comes rs one (last_stamp t) r.next reached_one stood_one new_one are_one all.1 in
      record {
        progress = rest.progress;
        reached = rest.reached;
        stood = rest.stood;
        entries = rest.entries ∙ append_assoc p.entries part (all_entries (entries_by_part_round rs));
        remaining = rest.remaining;
        round = (let q = rest.round in omega (arith, q));
        last_era = rest.last_era ∙ ap (λ (b : Bool). era_of_last p.era (cond b (p.era + 1) p.era) rs) same;
      }

  -- ---- the end

  -- the run ends where the desk says so
  ends : (p : Progress) (d : DeskState) (end : GuestEnd) → TellsOf file limits d (state_after (bare file limits) p.entries) → IsEnd limits p.remaining d end →
      Ends AtOnce limits (bare file limits) p end
  ends p d end tells (inl q) = inl (end_first file limits (state_after (bare file limits) p.entries) end (sym tells.ended_is ∙ q))
  ends p d end tells (inr (inl q)) =
      inl (end_all file limits (state_after (bare file limits) p.entries) (sym tells.ended_is ∙ q.0) (tells.live_are ∙ q.1) ∙ ap Some (sym q.2))
  ends p d end tells (inr (inr q)) =
      let w = state_after (bare file limits) p.entries in
      let live = live_in (bare file limits) w in
      let given : min limits.quantum (p.remaining / length live) ≡ 0 = ap (λ (n : ℕ). min limits.quantum (p.remaining / n)) tells.live_are ∙ q.2 in
      inr (
        end_none file limits w (sym tells.ended_is ∙ q.0) (let a = q.1 in let b = tells.live_are in omega (arith, a, b)),
        gives_none file limits (min limits.quantum (p.remaining / length live)) live given,
        q.3,
      )

  module _ (m : Objects file limits) (rs : List PartRound) (ranges : AreWatcherLimits limits) (first : AreFirstObjects file limits m)
      (are : ArePartRounds file limits lay 0 0 0 m rs)
      (are_due : AreDueRounds limits limits.steps m rs) where
    all : Comes m (at_start limits plan) rs
    all = comes rs (at_start limits plan) 0 m Start (first_stood file limits (held_at file limits m) ranges (first_kept file limits m first))
        (first_new file limits (m.value desk) first.desk_is) are are_due

    abbrev pub entries_made : List Entry
    entries_made = all_entries (entries_by_part_round rs)

    module _ (closed : DeskState) (last : LastState) (over : IsOver limits m rs closed last) where
      -- the last desk says what the world after all entries has
      tells : TellsOf file limits closed (state_after (bare file limits) all.progress.entries)
      tells = tells_of file limits (state_after_rounds m rs) all.progress.round all.progress.era all.progress.entries all.stood closed over.at_desk

      -- and the rounds are a whole run
      pub whole : IsWholeRun AtOnce limits plan (bare file limits) entries_made last
      whole = record {
        progress = all.progress;
        reached = all.reached;
        history_is = sym all.entries;
        ends = ends all.progress closed last.end tells (subst (λ (n : ℕ). IsEnd limits n closed last.end) (sym all.remaining) over.end_is);
        threads_are = over.threads_are ∙ (tells.made_are ∙ ap (λ (es : List Entry). length (state_after (bare file limits) es).threads) all.entries);
        rounds_are = (let a = over.rounds_are in let b = all.round in omega (arith, a, b));
        era_is = over.era_is ∙ sym all.last_era;
      }
