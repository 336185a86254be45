-- The empty history is lawful so far; and a history that is so and that of a whole run is lawful.
use Rattle.std.proofs.Common.{ℕ, Option, List, [], arith}
use Rattle.std.proofs.lemmas.List.Elements.{All-nil}
use Rattle.run_record.specs.declared.entry.Entry.{Entry}
use Rattle.run_record.specs.declared.limits.Limits.{Limits}
use Rattle.run_record.specs.declared.finished.LastState.{LastState}
use Rattle.run_record.specs.declared.plan.Turn.{Turn}
use Rattle.run_laws.specs.Checks.{IsGrouped}
use Rattle.run_laws.specs.Faithful.{Bare, OneByOne}
use Rattle.run_laws.specs.Lawful.{IsWholeRun, IsLawful}
use Rattle.run_laws.proofs.LastLoads.{last_loads}
use Rattle.turn_laws.specs.SoFar.{IsLawfulSoFar}

pub lawful-start : {S : Type 0} (limits : Limits) (bare : Bare S) (granule_of : ℕ → Option ℕ) → IsLawfulSoFar limits bare granule_of []
lawful-start limits bare granule_of = record {
  faithful = record { ordered = λ i j d l m. absurd (omega arith); made = λ i e q. absurd cc; turns = λ i e q. absurd cc; stamped = λ i e q. absurd cc };
  labelled = λ n t note q s. absurd cc;
  notes = record { attached = λ n t l q. absurd cc; left = λ n t l s. absurd (let q = s.made in cc); left_only = λ m t l q. absurd cc };
  checks = record { of_events = λ n t e q. absurd cc; grouped = All-nil IsGrouped };
  stores = λ n c b. absurd (let l = b.1 in omega arith);
  loads = λ a c b cell word q. absurd (let l = b.1 in omega arith);
  rounds = λ i j d l m. absurd (omega arith);
  eras = λ i j d l m. absurd (omega arith);
}

pub lawful-whole : {S : Type 0} (limits : Limits) (plan : List Turn) (bare : Bare S) (granule_of : ℕ → Option ℕ) (entries : List Entry) (last : LastState) → IsLawfulSoFar limits bare granule_of entries → IsWholeRun OneByOne limits plan bare entries last → IsLawful OneByOne limits plan bare granule_of entries
lawful-whole limits plan bare granule_of entries last so_far whole = record {
  faithful = so_far.faithful;
  last = last;
  rounds = whole;
  labelled = so_far.labelled;
  notes = so_far.notes;
  checks = so_far.checks;
  stores = so_far.stores;
  loads = last_loads limits.epochs granule_of entries so_far.checks so_far.stores so_far.rounds so_far.loads;
  loads_last = λ m. so_far.loads;
}
