-- What a worker has told of its part of a round so far.
use Rattle.std.specs.Prelude.{◌≡◌, ◌+◌, ℕ, List, [], ◌∷◌, ◌++◌, map}
use Rattle.run_record.specs.declared.entry.DeskNote.{DeskNote}
use Rattle.run_record.specs.declared.entry.DeskNote.TheVariants.{Nothing}
use Rattle.run_record.specs.declared.entry.Entry.{Entry}
use Rattle.run_record.specs.declared.event.Event.{Event}
use Rattle.run_record.specs.declared.flat.Head.{Head}
use Rattle.run_record.specs.Flat.{entry_of}
use Rattle.turn_orders.specs.Lists.{Each}
use Rattle.turn_histories.specs.Rounds.{IsIn}
use Rattle.race_core.specs.declared.watcher.Candidate.{Candidate}
use Rattle.detector.specs.Stands.{awaited}
use Rattle.part_races.specs.Rounds.{Tagged, entries_tagged}
use Rattle.part_races.specs.Sorting.{Keyed, all_keyed}
use Rattle.part_growth.specs.Growth.{Gathered, nothing_gathered}
use Rattle.part_workers.specs.declared.part.Post.{Post}
use Rattle.part_workers.specs.declared.part.Waiting.{Waiting}
use Rattle.part_workers.specs.declared.part.PartSoFar.{PartSoFar}

-- what was gathered since the last entry, as the laws of parts have it
abbrev pub gathered_in : PartSoFar → Gathered
gathered_in p = record { steps = p.steps; events = p.events; checks = p.found.checks; awaits = map awaited p.found.waiting.items }

-- one more instruction, with these events
abbrev pub gathered_also : PartSoFar → List Event → PartSoFar
gathered_also p es = record p { steps = p.steps + 1; events = p.events ++ es }

-- ---- entries

abbrev pub head_of : Post → ℕ → ℕ → Head
head_of post stamp steps = record { round = post.round; era = post.era; stamp = stamp; tid = post.tid; steps = steps }

-- the entry of a slot that is taken or left
abbrev pub note_entry : Post → DeskNote → ℕ → Entry
note_entry post note stamp = entry_of (head_of post stamp 0) note [] []

-- the entry of what was gathered
abbrev pub gathered_entry : Post → ℕ → PartSoFar → Entry
gathered_entry post stamp p = entry_of (head_of post stamp p.steps) Nothing p.events p.found.checks

-- ---- accesses that wait

-- these wait, each with that stamp
abbrev pub waits_at : ℕ → List Candidate → List Waiting
waits_at stamp candidates = map (λ (c : Candidate). record { stamp = stamp; candidate = c }) candidates

-- an access that waits, as the laws of races have it
abbrev pub keyed_in : ℕ → Waiting → Keyed
keyed_in t w = record { stamp = w.stamp; thread = t; awaited = awaited w.candidate }

-- What was gathered is told in one entry with that stamp, and its accesses that await wait with it. Nothing is gathered any more.
pub record TellsGathered (post : Post) (stamp : ℕ) (old new : PartSoFar) : Type 0 where
  pub entries : new.entries ≡ old.entries ++ gathered_entry post stamp old ∷ []
  pub waiting : new.waiting.items ≡ old.waiting.items ++ waits_at stamp old.found.waiting.items
  pub last : new.last ≡ stamp
  pub gathered : gathered_in new ≡ nothing_gathered

-- The worker keeps what it told: the entries, all of that round and era, and the accesses that await, by stamp and thread.
pub record KeepsTold (post : Post) (told : List Tagged) (p : PartSoFar) : Type 0 where
  pub entries : p.entries ≡ entries_tagged told
  pub waiting : map (keyed_in post.tid) p.waiting.items ≡ all_keyed told
  pub inside : Each (IsIn post.round post.era) p.entries
