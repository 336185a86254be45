-- Powers of 2 as shifts give them.
use Rattle.std.proofs.Common.{ℕ, ◌*◌, ◌%◌, ◌^◌, ◌≤◌, arith}
use Rattle.std.proofs.lemmas.Nat.{one_shl}
use Rattle.std.proofs.Math.Nat.{pow-le-pow_right}

pub shift_le : (a b : ℕ) → a ≤ b → b ≤ 8 → (1 * 2 ^ a) % 2 ^ 64 ≤ (1 * 2 ^ b) % 2 ^ 64
shift_le a b ab b8 = rw (one_shl a 64 (omega arith), one_shl b 64 (omega arith)) (pow-le-pow_right (omega arith) ab)
