-- How long the type of a text is.
use Rattle.std.proofs.Common.{◌≡◌, ℕ}
use Rattle.std.specs.Prelude.{max}
use Rattle.std.proofs.Math.Nat.{max_comm}

pub at_least_one : (n : ℕ) → max n 1 ≡ max 1 n
at_least_one n = max_comm n 1
