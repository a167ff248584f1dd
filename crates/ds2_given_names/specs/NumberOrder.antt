-- Which of two spelled numbers is the greater one, digit by digit.
use Rattle.std.specs.Prelude.{◌≡◌, ◌≤◌, ◌⊎◌, ℕ, ◌+◌, ◌-◌, ◌*◌, nat_le, if◌then◌else◌, fold, List}

-- a number with one digit more
abbrev pub with_digit : ℕ → ℕ → ℕ
with_digit n c = n * 10 + (c - 48)

-- the number that digits behind others spell
abbrev pub spelled_behind : ℕ → List ℕ → ℕ
spelled_behind n digits = fold with_digit n digits

-- a balance of two numbers: 24 where they are equal, by their difference from 24 where that is small; at 0 the first is greater
-- whatever digits follow, at 48 the second is
abbrev pub Balances : ℕ → ℕ → ℕ → Type 0
Balances e a b = ((e ≡ 0) × (b + 24 ≤ a)) ⊎ (((e ≡ 48) × (a + 24 ≤ b)) ⊎ ((b + 24 ≡ a + e) × (e ≤ 48)))

-- a balance of so much against so much, which is 0 or 48 where it lies outside
abbrev pub clamped_balance : ℕ → ℕ → ℕ
clamped_balance up down = if nat_le up down then 0 else if nat_le 48 (up - down) then 48 else (up - down)
