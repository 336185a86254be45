-- A past cut in two along the opening seat's log, as at the end of a round.
use Rattle.std.specs.Prelude.{◌≡◌, ℕ, ◌≤◌, [], ◌++◌, length}
use Rattle.shared_table.specs.declared.view.Item.TheVariants.{Join}
use Rattle.shared_table.specs.Past.{Past, logs_of, log_of}
use Rattle.turn_orders.specs.Lists.{In}

-- The part `early` has the first m items of the opening seat. Each seat's log is cut with the past. A seat that was joined in
-- the early part makes nothing in the late one, and a seat that was not made by then made nothing in the early one.
pub record CutAt (past : Past) (m : ℕ) : Type 0 where
  pub early : Past
  pub late : Past
  pub whole : past ≡ late ++ early
  pub items : length (log_of 0 early) ≡ m
  pub logs : (n : ℕ) → log_of n past ≡ log_of n early ++ log_of n late
  pub over : (n : ℕ) → In (Join n) (log_of 0 early) → log_of n late ≡ []
  pub fresh : (n : ℕ) → length (logs_of early) ≤ n → log_of n early ≡ []
