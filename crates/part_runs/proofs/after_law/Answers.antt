use Rattle.std.proofs.Common.{[]}
use Rattle.part_runs.proofs.Firsts.{entries_then}
use Rattle.part_runs.proofs.Found.{kept_then}
use Rattle.part_runs.proofs.Next.{state_then, past_then, era_then, last_then, base_then, remaining_then}
use Rattle.part_runs.proofs.after_law.Goals as goal

pub returns-clause-state : goal.returns-clause-state
returns-clause-state c = state_then

pub returns-clause-past : goal.returns-clause-past
returns-clause-past c = past_then []

pub returns-clause-entries : goal.returns-clause-entries
returns-clause-entries c = entries_then

pub returns-clause-era : goal.returns-clause-era
returns-clause-era c = era_then 0

pub returns-clause-last_era : goal.returns-clause-last_era
returns-clause-last_era c = last_then 0 0

pub returns-clause-base : goal.returns-clause-base
returns-clause-base c = base_then 0

pub returns-clause-remaining : goal.returns-clause-remaining
returns-clause-remaining c limits = remaining_then limits.steps

pub returns-clause-kept : goal.returns-clause-kept
returns-clause-kept c = kept_then
