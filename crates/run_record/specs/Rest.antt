-- What is left of a log.
use Rattle.std.specs.Prelude.{◌≡◌, ◌+◌, ◌<◌, ◌^◌, List, length}
use Rattle.run_record.specs.declared.entry.Entry.{Entry}
use Rattle.run_record.specs.declared.rest.Rest.{Rest}
use Rattle.run_record.specs.Marks.{AreUsed}
use Rattle.run_record.specs.Flat.{checks_of, entries_of, event_count, check_count}

-- the entries for which it stands
abbrev pub rest_entries : Rest → List Entry
rest_entries r = entries_of r.entry r.rows.now r.notes.now r.events.now (checks_of r.check r.checks.now r.words.now)

-- The counts of the rows add up, and the marks are of entries and checks that are there.
pub record IsRest (r : Rest) : Type 0 where
  pub events_are : event_count r.rows.now ≡ length r.events.now
  pub checks_are : check_count r.rows.now ≡ length r.checks.now
  pub notes_are : AreUsed r.entry (length r.rows.now) r.notes.now
  pub words_are : AreUsed r.check (length r.checks.now) r.words.now
  pub few_entries : r.entry + length r.rows.now < 2 ^ 64
  pub few_checks : r.check + length r.checks.now < 2 ^ 64
