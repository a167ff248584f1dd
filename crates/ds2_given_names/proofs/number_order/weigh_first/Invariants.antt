use Rattle.std.proofs.Common.{◌≡◌, ◌≤◌, ℕ, drop}
use Rattle.ds2_given_names.specs.NumberOrder.{spelled_behind, Balances}
use Rattle.ds2_given_names.proofs.number_order.weigh_first.Given as goal

abbrev pub invariant-digits : goal.invariant-digits
invariant-digits l = (l.now ≤ 48) × ((m : ℕ) → Balances l.fn.balance m 0 → (n : ℕ) × Balances l.now n 0 × (spelled_behind n (drop l.digit-index l.digits) ≡ spelled_behind m l.digits))
