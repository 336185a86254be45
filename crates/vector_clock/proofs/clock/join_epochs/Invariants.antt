use Rattle.std.proofs.Common.{◌≡◌, ◌<◌, ◌≤◌, ℕ, max, slice_index}
use Rattle.vector_clock.proofs.clock.join_epochs.Given as goal

-- the slots before `sid` are joined, and the others are as they were
abbrev pub invariant-loop-sid : goal.invariant-loop-sid
invariant-loop-sid l =
    ((k : ℕ) → k < l.sid → slice_index l.mine k ≡ max (slice_index l.fn.mine k) (slice_index l.other k)) × ((k : ℕ) → l.sid ≤ k → slice_index l.mine k ≡ slice_index l.fn.mine k)
