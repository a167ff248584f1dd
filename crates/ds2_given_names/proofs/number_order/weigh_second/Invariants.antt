use Rattle.std.proofs.Common.{◌≡◌, ◌≤◌, ℕ, drop}
use Rattle.ds2_given_names.specs.NumberOrder.{spelled_behind, Balances}
use Rattle.ds2_given_names.proofs.number_order.weigh_second.Given as goal

abbrev pub invariant-digits : goal.invariant-digits
invariant-digits l = (l.now ≤ 48) × ((m : ℕ) → Balances l.fn.balance 0 m → (n : ℕ) × Balances l.now 0 n × (spelled_behind n (drop l.digit-index l.digits) ≡ spelled_behind m l.digits))
