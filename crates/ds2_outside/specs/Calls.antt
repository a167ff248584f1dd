-- Calls that are to fail: a store or a log in memory counts its calls from 1, and fails at those of chosen numbers.
use Rattle.std.specs.Prelude.{ℕ, ◌+◌, ◌-◌, ◌^◌, ◌==◌, min, Bool, List}
use Rattle.std.specs.List.{list_any}

-- one more, as far as a count goes
abbrev pub next_call : ℕ → ℕ
next_call n = min (n + 1) (2 ^ 64 - 1)

-- whether the next call, after so many, is among those that are to fail
abbrev pub is_to_fail : ℕ → List ℕ → Bool
is_to_fail calls failing = list_any (λ number. number == next_call calls) failing
