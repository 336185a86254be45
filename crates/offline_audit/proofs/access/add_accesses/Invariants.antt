use Rattle.std.proofs.Common.{◌≡◌}
use Rattle.run_record.specs.declared.entry.Entry.{Entry}
use Rattle.offline_audit.proofs.AccessLaw.{AreWith}
use Rattle.offline_audit.proofs.access.add_accesses.Given as goal

-- those of the events so far are appended
abbrev pub invariant-loop-n : goal.invariant-loop-n
invariant-loop-n l = (entry : Entry) → entry.tid ≡ l.tid → entry.events ≡ l.events → AreWith l.number entry l.n l.initial.made.items l.made.items
