use Rattle.hart_steps.proofs.StripeLemmas as lemmas
use Rattle.hart_steps.proofs.laws.stripe_law.Goals as goal

pub returns-clause-inside : goal.returns-clause-inside
returns-clause-inside c file words n index below is = lemmas.inside file words n index below is

pub returns-clause-first : goal.returns-clause-first
returns-clause-first c file words k h = lemmas.first_is file words k h
