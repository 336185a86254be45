-- Rounds as the one who starts them has them: what is known of each without any past of the table, and what the next one begins with.
use Rattle.std.specs.Prelude.{◌≡◌, ◌↔◌, ◌<◌, ◌+◌, ◌-◌, ◌==◌, max, ℕ, Bool, if◌then◌else◌, IsPermutation, List, [], ◌∷◌, length, map, None, is_some}
use Rattle.std.specs.List.{list_any}
use Rattle.run_record.specs.declared.entry.Entry.{Entry}
use Rattle.run_record.specs.declared.limits.Limits.{Limits}
use Rattle.run_record.specs.Order.{AreOrdered, entries_in}
use Rattle.run_laws.specs.Rounds.{steps_in}
use Rattle.turn_orders.specs.Lists.{Each, In}
use Rattle.turn_orders.specs.LineUp.{Stamped, with_stamp}
use Rattle.turn_histories.specs.Rounds.{IsIn, all_entries}
use Rattle.slot_desk.specs.Desks.{live_of}
use Rattle.shared_table.specs.declared.object.DeskState.{DeskState}
use Rattle.shared_table.specs.declared.object.Object.{Object}
use Rattle.placed_detector.specs.Standing.{Hand}
use Rattle.placed_detector.specs.First.{first_hand}
use Rattle.table_deeds.specs.Listing.{AreApart}
use Rattle.table_deeds.specs.Rounds.{greatest_in, next_hand, IsNextDesk}
use Rattle.hart_parts.specs.Parts.{Part, left_in, part_entries, IsPart}
use Rattle.whole_parts.specs.Dues.{HasDesk, LivesBy, share}

-- A round: the parts that its workers made, of which the first has the seat of that number, the second the next one, and so on; the
-- entries as the parts' logs are merged; whether an era begins after it; and the opening seat's turn of the desk behind it, with the
-- turn's number and the desk as the turn found and left it.
pub record MadeRound : Type 0 where
  pub parts : List Part
  pub first_seat : ℕ
  pub entries : List Entry
  pub ends : Bool
  pub turn : ℕ
  pub found : Object
  pub left : Object

-- What the next round begins with: what each thread has, the desk, the numbers of the round and of its era, the era of the round
-- before it (0 before the first), the greatest stamp so far, the number of the next seat, and what is left of the budget.
pub record Stand : Type 0 where
  pub locals : ℕ → Stamped Hand
  pub desk : Object
  pub round : ℕ
  pub era : ℕ
  pub last_era : ℕ
  pub base : ℕ
  pub seat : ℕ
  pub remaining : ℕ

-- before the first round, where the table has that desk
abbrev pub first_stand : Limits → Object → Stand
first_stand limits first = record {
  locals = λ t. with_stamp (first_hand limits t) 0;
  desk = first;
  round = 0;
  era = 0;
  last_era = 0;
  base = 0;
  seat = 1;
  remaining = limits.steps;
}

-- what a thread has after these parts: what its own part left, or what it had
abbrev pub after_parts : List Part → (ℕ → Stamped Hand) → ℕ → Stamped Hand
after_parts [] locals t = locals t
after_parts (p ∷ ps) locals t = if p.thread == t then left_in p else after_parts ps locals t

-- the greatest stamp up to the round's end
abbrev pub base_after : Stand → MadeRound → ℕ
base_after s x = max s.base (greatest_in x.entries)

abbrev pub stand_after : Stand → MadeRound → Stand
stand_after s x = record {
  locals = λ t. with_stamp (next_hand s.era x.ends (after_parts x.parts s.locals t).state) (base_after s x);
  desk = x.left;
  round = s.round + 1;
  era = if x.ends then s.era + 1 else s.era;
  last_era = s.era;
  base = base_after s x;
  seat = s.seat + length x.parts;
  remaining = s.remaining - steps_in x.entries;
}

-- what comes after all these rounds
abbrev pub stand_of : Stand → List MadeRound → Stand
stand_of s [] = s
stand_of s (x ∷ xs) = stand_of (stand_after s x) xs

-- The workers made a round from there on, which was due. Each part was made from what its thread had, by a thread that the desk has
-- made. As the round began the run hadn't ended, and some thread lived. Each thread that lived made a part, and no other did. Each
-- was given its share, which was some. An era begins after the round where a thread tried in vain to get a slot, and only there.
pub record IsMade (file : List ℕ) (limits : Limits) (s : Stand) (x : MadeRound) : Type 0 where
  pub seats : x.first_seat ≡ s.seat
  pub parts : Each (IsPart file limits s.era) x.parts
  pub before : Each (λ (p : Part). p.before ≡ s.locals p.thread) x.parts
  pub apart : AreApart (map (λ (p : Part). p.thread) x.parts)
  pub merged : IsPermutation (entries_in (map (part_entries file limits) x.parts)) x.entries
  pub ordered : AreOrdered x.entries
  pub inside : Each (IsIn s.round s.era) x.entries
  pub opened : DeskState
  pub at_desk : HasDesk s.desk opened
  pub goes_on : opened.machine.ended ≡ None
  pub some_live : 0 < live_of opened.desk
  pub threads : (t : ℕ) → In t (map (λ (p : Part). p.thread) x.parts) ↔ LivesBy opened t
  pub born : Each (λ (p : Part). p.thread < opened.desk.made) x.parts
  pub shares : Each (λ (p : Part). p.given ≡ share limits s.remaining opened) x.parts
  pub some_given : 0 < share limits s.remaining opened
  pub ends_is : x.ends ≡ list_any (λ (p : Part). is_some p.tried) x.parts

-- Each round was made from where the one before left all, and the turn of the desk behind it left the desk as the next one finds it.
abbrev pub AreMade : List ℕ → Limits → Stand → List MadeRound → Type 0
AreMade file limits s [] = Unit {0}
AreMade file limits s (x ∷ xs) =
    IsMade file limits s x × IsNextDesk x.ends x.found x.left × AreMade file limits (stand_after s x) xs

-- the entries of rounds, round after round
abbrev pub entries_of_made : List MadeRound → List Entry
entries_of_made xs = all_entries (map (λ (x : MadeRound). x.entries) xs)
