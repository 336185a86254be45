-- What is written of a cycle.
use Rattle.std.specs.Prelude.{◌≡◌, ℕ, ◌++◌, List, length, codes}
use Rattle.std.specs.List.{flat_map}
use Rattle.std.specs.Fmt.{decimal}
use Rattle.run_laws.specs.Moments.{Moment}
use Rattle.report_text.specs.Texts.{address, who}
use Rattle.lock_order.specs.declared.edge.Edge.{Edge}
use Rattle.lock_order.specs.declared.cycle.Cycle.{Cycle}
use Rattle.lock_order.specs.Edges.{AreEdges}
use Rattle.lock_order.specs.Cycles.{AreCycles}

-- the line of an edge: who took the second mutex while it kept the first
abbrev pub edge_line : Edge → List ℕ
edge_line e = codes "  " ++ (address e.from ++ (codes " then " ++ (address e.to ++ (codes " by " ++ (who e.tid ++ codes "\n")))))

-- the line of the cycle's addresses in order, then a line for each edge
abbrev pub cycle_lines : List Edge → List ℕ
cycle_lines es = codes "lock cycle:" ++ (flat_map (λ (e : Edge). codes " " ++ address e.from) es ++ (codes "\n" ++ flat_map edge_line es))

-- the line that counts the cycles
abbrev pub count_line : ℕ → List ℕ
count_line n = codes "locks: " ++ (decimal n ++ codes " cycles\n")

-- The text tells of the cycles of the history's edges, and so many they are.
pub record IsLockText (h : List Moment) (count : ℕ) (text : List ℕ) : Type 0 where
  pub edges : List Edge
  pub cycles : List Cycle
  pub are_edges : AreEdges h edges
  pub are_cycles : AreCycles edges cycles
  pub count_is : count ≡ length cycles
  pub text_is : text ≡ flat_map (λ (c : Cycle). cycle_lines c.edges) cycles ++ count_line (length cycles)
