-- How the pasts of rounds stand in the past of the table.
use Rattle.std.specs.Prelude.{◌≡◌, ◌<◌, ℕ, List, [], ◌∷◌, ◌++◌}
use mathlib.Core.Option.{some}
use lib.ListN.{get_elem?}
use Rattle.run_record.specs.declared.limits.Limits.{Limits}
use Rattle.bare_machine.specs.Step.{desk}
use Rattle.turn_orders.specs.Lists.{Each}
use Rattle.turn_orders.specs.Machine.{State}
use Rattle.turn_orders.specs.LineUp.{Stamped}
use Rattle.shared_table.specs.declared.object.Object.{Object}
use Rattle.shared_table.specs.declared.view.Item.{Item}
use Rattle.shared_table.specs.declared.view.Item.TheVariants.{Split, Join, Take, Give, Load, Store}
use Rattle.shared_table.specs.Past.{Past, log_of}
use Rattle.placed_detector.specs.Standing.{Hand}
use Rattle.table_deeds.specs.Objects.{slots_in}
use Rattle.hart_parts.specs.Parts.{Part}
use Rattle.hart_parts.specs.Rounds.{PartRound, IsSeatOfPart}

-- the step is at no cell
abbrev pub TouchesNone : Item → Type 0
TouchesNone (Load c w) = ⊥
TouchesNone (Store c w) = ⊥
TouchesNone (Split m) = Unit {0}
TouchesNone (Join m) = Unit {0}
TouchesNone (Take k i) = Unit {0}
TouchesNone (Give k i found left) = Unit {0}

-- no step of the past is at a cell
abbrev pub AreQuiet : Past → Type 0
AreQuiet past = Each (λ (x : ℕ × Item). TouchesNone x.1) past

-- how many threads the desk has made
abbrev pub made_in : Limits → Object → ℕ
made_in limits x = (slots_in limits x).made

-- The round goes on from that past, after steps of which none is at a cell. In the round only seats of its parts make
-- steps at cells; and the threads of its parts were made before it.
pub record GoesOn (limits : Limits) (before : Past) (m : State (Stamped Hand) Object) (r : PartRound) : Type 0 where
  pub between : Past
  pub quiet : AreQuiet between
  pub early : r.early ≡ between ++ before
  pub others : (n j : ℕ) (x : Item) → (IsSeatOfPart r n → ⊥) → get_elem? (log_of n r.late) j ≡ some x → TouchesNone x
  pub born : Each (λ (p : Part). p.thread < made_in limits (m.value desk)) r.parts

-- the rounds go on one from another, the first from that past and state; after the last there is no step at a cell
abbrev pub ArePasts : Limits → Past → Past → State (Stamped Hand) Object → List PartRound → Type 0
ArePasts limits past before m [] = (between : Past) × AreQuiet between × (past ≡ between ++ before)
ArePasts limits past before m (r ∷ rs) = GoesOn limits before m r × ArePasts limits past (r.late ++ r.early) r.next rs
