use Rattle.std.proofs.Common.{◌≡◌, ◌≤◌, ℕ, drop}
use Rattle.ds2_given_names.specs.NumberOrder.{spelled_behind, Balances}
use Rattle.ds2_given_names.proofs.number_order.weigh_both.Given as goal

abbrev pub invariant-digits : goal.invariant-digits
invariant-digits l =
    (l.now ≤ 48)
    × ((m n : ℕ) → Balances l.fn.balance m n
    → (p q : ℕ) × Balances l.now p q × (spelled_behind p (drop l.i l.a) ≡ spelled_behind m l.a) × (spelled_behind q (drop l.i l.b) ≡ spelled_behind n l.b))
