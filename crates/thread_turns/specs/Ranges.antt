-- The ranges of a run's limits.
use Rattle.std.specs.Prelude.{◌≤◌}
use Rattle.run_record.specs.declared.limits.Limits.{Limits}

-- the limits are in their ranges
pub record AreLimits (limits : Limits) : Type 0 where
  pub some_harts : 1 ≤ limits.harts
  pub few_harts : limits.harts ≤ 64
  pub harts_have_slots : limits.harts ≤ limits.slots
  pub few_slots : limits.slots ≤ 255
  pub some_epochs : 2 ≤ limits.epochs
  pub few_epochs : limits.epochs ≤ 16383
  pub some_steps : 1 ≤ limits.steps
  pub few_steps : limits.steps ≤ 8000000
  pub some_quantum : 1 ≤ limits.quantum
  pub few_quantum : limits.quantum ≤ 10000
  pub least_parts : 2 ≤ limits.parts
  pub most_parts : limits.parts ≤ 64
  pub least_words : 64 ≤ limits.part_words
  pub most_words : limits.part_words ≤ 4096
