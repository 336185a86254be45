-- From a round's end over the turn of the desk to the next round.
use Rattle.std.proofs.Common.{◌≡◌, ◌+◌, ◌-◌, max, ℕ, Bool, if◌then◌else◌, List, [], ◌∷◌, ◌++◌, Some, None, refl, sym, ap, ap₂, subst, ◌∙◌}
use Rattle.std.specs.Prelude.{Option, All, fold}
use Rattle.run_record.specs.declared.entry.Entry.{Entry}
use Rattle.run_record.specs.declared.limits.Limits.{Limits}
use Rattle.run_laws.specs.Moments.{moments}
use Rattle.run_laws.specs.Reports.{Kept, kept_after, kept_of}
use Rattle.run_laws.specs.Rounds.{steps_in}
use Rattle.bare_machine.specs.Step.{desk}
use Rattle.shared_table.specs.declared.object.DeskState.{DeskState}
use Rattle.shared_table.specs.declared.object.Object.{Object}
use Rattle.shared_table.specs.declared.object.Object.TheVariants.{Stripe, Desk}
use Rattle.shared_table.specs.declared.view.Layout.{Layout}
use Rattle.shared_table.specs.declared.view.View.{View}
use Rattle.shared_table.specs.Past.{Log, logs_of}
use Rattle.shared_table.specs.Steps.{Mine, holding, took, gave, IfOpening, Told}
use Rattle.shared_table.specs.Seats.{Took, Gave}
use Rattle.table_deeds.specs.Rounds.{greatest_in, IsNextDesk}
use Rattle.whole_parts.specs.Dues.{HasDesk}
use Rattle.part_races.specs.Sorting.{awaited_in}
use Rattle.part_runs.specs.Told.{RoundReports, AwaitRoundEnd, IsToldRound, all_told}
use Rattle.part_runs.specs.Ends.{IsTellable}
use Rattle.part_runs.proofs.Found.{kept_then}
use Rattle.made_rounds.specs.Made.{MadeRound, Stand, first_stand, stand_after, entries_of_made}
use Rattle.made_rounds.specs.Logs.{HaveLogs, HaveRoundLogs}
use Rattle.made_rounds.specs.Known.{IsAtRoundEnd, at_round_end}
use Rattle.made_rounds.proofs.More.{stand_then, entries_more, made_more, races_more, told_more, logs_taken, logs_given}
use Rattle.made_rounds.proofs.Told.{awaits_end, tells_end}
use Rattle.hart_workers.specs.Tells.{TellsReports}
use Rattle.hart_turns.specs.declared.slots.ThreadState.{ThreadState}
use Rattle.hart_workers.specs.Crews.{IsIdle}
use Rattle.hart_workers.specs.declared.rounds.Rounds.{Rounds}
use Rattle.hart_workers.specs.Reading.{HasRead}
use Rattle.hart_workers.specs.Standing.{SoFar, stand_in, StandsAs, IsKnown, IsBetween, round_with, IsOneMore, MergedRound, IsMergedEnd}
use Rattle.hart_workers.specs.Closing.{CanTellBy, EndsIn, EndsInTurn, GoesOn}

module _ (meets : Option (List ℕ) → Option (List ℕ) → Bool) (file : List ℕ) (limits : Limits) (me within : Mine) (r : Rounds) (made : MergedRound)
    (kept : Kept) (at_end : IsMergedEnd meets file limits me.0.layout me.0 r made kept) (opens : me.0.number ≡ 0) (found : Object)
    (turn : Took desk me found within) where
  abbrev x : SoFar
  x = at_end.so_far

  abbrev s : Stand
  s = stand_in limits x

  abbrev states : List (Option ThreadState)
  states = r.crew.states.items

  -- the view while the desk is out
  abbrev out : View
  out = took me.0 desk turn.done found

  -- the round, whatever the turn of the desk left
  abbrev round : Object → MadeRound
  round left = round_with at_end.merged (turn.done + 1) found left

  more : (left : Object) → IsOneMore file limits x me.0 made.pending states (round left)
  more left = at_end.more (turn.done + 1) found left

  -- ---- when the desk was taken

  told : Told out
  told = subst (λ (m : Mine). IfOpening m.0) turn.log turn.told opens

  logs_out : (left : Object) → HaveRoundLogs out.logs out.log (first_stand limits x.first) x.rounds (round left) (Some (turn.done + 1))
  logs_out left = logs_taken (first_stand limits x.first) x.rounds (round left) me.0 (more left).logs

  -- the round's end, in the past that is told
  there : (d : DeskState) → HasDesk found d → IsAtRoundEnd file limits me.0.layout told.0 x.first x.rounds (round found) d
  there d at = record {
    before = record { set_up = at_end.known.set_up; made = at_end.known.made; lawful = told.1 };
    round = (more found).made;
    logs =
        subst (λ (own : Log). HaveRoundLogs (logs_of told.0) own (first_stand limits x.first) x.rounds (round found) (Some (turn.done + 1))) told.3
        (subst (λ (logs : List (Option Log)). HaveRoundLogs logs out.log (first_stand limits x.first) x.rounds (round found) (Some (turn.done + 1))) told.2
        (logs_out found));
    found = told.4;
    at_desk = at;
  }

  awaits : (d : DeskState) → HasDesk found d → AwaitRoundEnd limits (entries_of_made x.rounds) at_end.merged.entries (awaited_in made.pending)
  awaits d at = awaits_end file limits me.0.layout told.0 x.first x.rounds (round found) d (there d at) x.keys made.pending at_end.known.races
      (more found).races

  tellable : (d : DeskState) → HasDesk found d →
      All (IsTellable file limits (moments (entries_of_made x.rounds ++ at_end.merged.entries)) (at_round_end s (round found)) d.desk)
      (awaited_in made.pending)
  tellable d at = tells_end file limits me.0.layout told.0 x.first x.rounds (round found) d (there d at) (awaited_in made.pending) (awaits d at)

  -- each access that waits can be told then
  pub can_tell : CanTellBy file states found (awaited_in made.pending)
  can_tell d at = record {
    limits = limits;
    h = moments (entries_of_made x.rounds ++ at_end.merged.entries);
    ends = at_round_end s (round found);
    traces = (more found).traces;
    tellable = tellable d at;
  }

  -- ---- when it was given back

  module _ (me2 : Mine) (left : Object) (d e : DeskState) (at : HasDesk found d) (left_at : HasDesk left e) (gives : Gave within left me2) (after : Kept)
      (tells : TellsReports meets file states d.desk (awaited_in made.pending) kept after) (next : IsNextDesk made.starved found left)
      (q : Rounds) (onward : GoesOn made.entries made.starved r q) (reads : HasRead limits q.remaining e q.reading)
      (same : (t : Stand) → IsIdle limits t states → IsIdle limits t q.crew.states.items) where
    abbrev one : RoundReports
    one = record { awaited = awaited_in made.pending; told = tells.told }

    abbrev z : SoFar
    z = record { first = x.first; rounds = x.rounds ++ round left ∷ []; keys = x.keys ++ made.pending ∷ []; told = x.told ++ one ∷ [] }

    is_told : IsToldRound file limits (entries_of_made x.rounds) at_end.merged.entries one
    is_told = record {
      awaits = awaits d at;
      tells = tells.tells limits (moments (entries_of_made x.rounds ++ at_end.merged.entries)) (at_round_end s (round found)) (more found).traces
          (tellable d at);
    }

    known : IsKnown file limits me.0.layout z
    known = record {
      set_up = at_end.known.set_up;
      made = made_more file limits (first_stand limits x.first) x.rounds (round left) at_end.known.made (more left).made
          (subst (λ (b : Bool). IsNextDesk b found left) at_end.starved next);
      races = races_more file limits (first_stand limits x.first) x.rounds x.keys (round left) made.pending at_end.known.races (more left).races;
      told = told_more file limits x.rounds x.told (round left) one [] at_end.known.told is_told;
    }

    stand_is : stand_in limits z ≡ stand_after s (round left)
    stand_is = stand_then (first_stand limits x.first) x.rounds (round left)

    back : stand_after s (round left) ≡ stand_in limits z
    back = sym stand_is

    -- the seat's view behind the turn
    view_is : me2.0 ≡ gave out (holding desk turn.done found) left
    view_is =
        ap (λ (m : Mine). m.0) (gives (holding desk turn.done found) (ap (λ (m : Mine). m.0.held) turn.log))
        ∙ ap (λ (m : Mine). gave m.0 (holding desk turn.done found) left) turn.log

    logs : HaveLogs me2.0.logs me2.0.log (first_stand limits x.first) z.rounds None
    logs =
        subst (λ (v : View). HaveLogs v.logs v.log (first_stand limits x.first) z.rounds None) (sym view_is)
        (logs_given (first_stand limits x.first) x.rounds (round left) out (logs_out left))

    kept_is : after ≡ kept_of meets (all_told z.told)
    kept_is = tells.kept ∙ (ap (λ (k : Kept). fold (kept_after meets) k tells.told) at_end.kept_is ∙ sym (kept_then meets x.told one))

    left_over : q.remaining ≡ (stand_in limits z).remaining
    left_over =
        onward.remaining ∙ (ap₂ (λ (n : ℕ) (es : List Entry). n - steps_in es) at_end.stands.remaining at_end.entries
        ∙ ap (λ (t : Stand). t.remaining) back)

    stands : StandsAs limits z q
    stands = record {
      round = onward.round ∙ (ap (λ (n : ℕ). n + 1) at_end.stands.round ∙ ap (λ (t : Stand). t.round) back);
      era = onward.era ∙ (ap₂ (λ (b : Bool) (n : ℕ). if b then n + 1 else n) at_end.starved at_end.stands.era ∙ ap (λ (t : Stand). t.era) back);
      last_era = onward.last_era ∙ (at_end.stands.era ∙ ap (λ (t : Stand). t.last_era) back);
      base =
          onward.base ∙ (ap₂ (λ (n : ℕ) (es : List Entry). max n (greatest_in es)) at_end.stands.base at_end.entries
          ∙ ap (λ (t : Stand). t.base) back);
      remaining = left_over;
      entries =
          onward.entries_are ∙ (ap₂ (λ (es fs : List Entry). es ++ fs) at_end.stands.entries at_end.entries
          ∙ sym (entries_more x.rounds (round left)));
    }

    pub between : IsBetween meets file limits me.0.layout me2.0 q after
    between = record {
      so_far = z;
      known = known;
      logs = logs;
      kept_is = kept_is;
      stands = stands;
      idle =
          subst (λ (t : Stand). IsIdle limits t q.crew.states.items) back
          (same (stand_after s (round left)) (more left).idle);
      reading = record {
        desk_state = e;
        at_desk = subst (λ (t : Stand). HasDesk t.desk e) back left_at;
        read = subst (λ (n : ℕ). HasRead limits n e q.reading) left_over reads;
      };
    }

-- ---- over a turn

-- The seat's turn ended the round: all is as it is between rounds again.
pub closed : (meets : Option (List ℕ) → Option (List ℕ) → Bool) (file : List ℕ) (limits : Limits) (lay : Layout) (me me2 : Mine) (r q : Rounds)
    (made : MergedRound) (before after : Kept) → me.0.layout ≡ lay → me.0.number ≡ 0 → IsMergedEnd meets file limits lay me.0 r made before →
    GoesOn made.entries made.starved r q →
    ((t : Stand) → IsIdle limits t r.crew.states.items → IsIdle limits t q.crew.states.items) →
    EndsInTurn meets file limits r.crew.states.items (awaited_in made.pending) made.starved q.remaining before after me me2 q.reading →
    IsBetween meets file limits lay me2.0 q after
closed meets file limits lay me me2 r q made before after laid opens at_end onward same t =
    subst (λ (l : Layout). IsBetween meets file limits l me2.0 q after) laid (over t.found t.left t.took t.gave t.ended)
  where
    at : IsMergedEnd meets file limits me.0.layout me.0 r made before
    at = subst (λ (l : Layout). IsMergedEnd meets file limits l me.0 r made before) (sym laid) at_end

    over : (found left : Object) → Took desk me found t.within → Gave t.within left me2 →
        EndsIn meets file limits r.crew.states.items (awaited_in made.pending) made.starved q.remaining before after found left q.reading →
        IsBetween meets file limits me.0.layout me2.0 q after
    over (Desk d) (Desk e) takes gives ends = between meets file limits me t.within r made before at opens (Desk d) takes me2 (Desk e) d.value e.value refl
        refl gives after ends.tells ends.next q onward ends.read same
    over (Desk d) (Stripe e) takes gives ends = absurd ends
    over (Stripe d) left takes gives ends = absurd ends

-- whatever is found at the desk, each access that waits can be told by it
pub can_be_told : (meets : Option (List ℕ) → Option (List ℕ) → Bool) (file : List ℕ) (limits : Limits) (lay : Layout) (me within : Mine) (r : Rounds)
    (made : MergedRound) (kept : Kept) (found : Object) → me.0.layout ≡ lay → me.0.number ≡ 0 → IsMergedEnd meets file limits lay me.0 r made kept →
    Took desk me found within → CanTellBy file r.crew.states.items found (awaited_in made.pending)
can_be_told meets file limits lay me within r made kept found laid opens at_end turn =
    can_tell meets file limits me within r made kept (subst (λ (l : Layout). IsMergedEnd meets file limits l me.0 r made kept) (sym laid) at_end) opens found
    turn
