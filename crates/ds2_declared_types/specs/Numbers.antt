-- Numbers, digit by digit.
use Rattle.std.specs.Prelude.{ℕ, ◌+◌, ◌-◌, ◌*◌, List, fold}

-- the number that digits behind another number write
abbrev pub with_digits : ℕ → List ℕ → ℕ
with_digits before digits = fold (λ n c. n * 10 + (c - 48)) before digits
