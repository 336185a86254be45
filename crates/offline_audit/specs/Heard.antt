-- What a thread heard of another one, step by step.
use Rattle.std.specs.Prelude.{ℕ, ◌<◌, ◌≤◌, ◌-◌, nat_lt, if◌then◌else◌, List, [], ◌∷◌, ◌++◌, length, slice_index_or, unwrap_or}
use Rattle.std.specs.List.{Contains, AllPairs}
use Rattle.std.specs.Ordering.{nat_cmp}
use Rattle.std.specs.BTreeMap.{BTreeMap, get}
use Rattle.offline_audit.specs.declared.heard.Step.{Step}

-- how many of the thread's events the clock tells of, by the number that follows the last one's
abbrev pub known_of : BTreeMap ℕ ℕ → ℕ → ℕ
known_of clock tid = unwrap_or (get nat_cmp clock tid) 0

-- what the last step tells, 0 where there is none
abbrev pub latest : List Step → ℕ
latest steps = (slice_index_or steps (length steps - 1) (record { at = 0; known = 0 })).known

-- the steps that were made by the event with that number: a further one, where it tells of more
abbrev pub steps_after : ℕ → ℕ → List Step → List Step
steps_after at known steps = if nat_lt (latest steps) known then steps ++ record { at = at; known = known } ∷ [] else steps

-- the steps of that thread
abbrev pub steps_of : BTreeMap ℕ (List Step) → ℕ → List Step
steps_of heard tid = unwrap_or (get nat_cmp heard tid) []

-- some step tells of the event with the number x
abbrev pub Tell : List Step → ℕ → Type 0
Tell steps x = (s : Step) × Contains steps s × (x < s.known)

-- some step that was made by then, by the event with the number `at` or before, tells of the event with the number x
abbrev pub TellBy : List Step → ℕ → ℕ → Type 0
TellBy steps at x = (s : Step) × Contains steps s × (s.at ≤ at) × (x < s.known)

-- no step is earlier or tells less than the ones before it
abbrev pub AreRising : List Step → Type 0
AreRising steps = AllPairs (λ (a b : Step). (a.at ≤ b.at) × (a.known ≤ b.known)) steps
