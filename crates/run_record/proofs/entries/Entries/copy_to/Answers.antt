use Rattle.std.proofs.Common.{List, length, sym, ap, ◌∙◌}
use Rattle.run_record.specs.declared.entry.Check.{Check}
use Rattle.run_record.specs.declared.flat.Row.{Row}
use Rattle.run_record.specs.declared.flat.KeptCheck.{KeptCheck}
use Rattle.run_record.specs.Flat.{check_count}
use Rattle.run_record.proofs.FlatLaws.{length-checks_of}
use Rattle.run_record.proofs.entries.Entries.copy_to.Goals as goal

pub put_entries-requires-clause-checks : goal.put_entries-requires-clause-checks
put_entries-requires-clause-checks c =
    ap (λ (rows : List Row). check_count rows) c.deref-3.ensures.value
    ∙ c.self.invariant.checks_are
    ∙ sym (ap (λ (kept : List KeptCheck). length kept) c.deref.ensures.value)
    ∙ sym (length-checks_of 0 c.deref.result.now c.deref-2.result.now)
    ∙ sym (ap (λ (checks : List Check). length checks) (c.deref-6.ensures.value ∙ c.in_ok-checks.ensures))
