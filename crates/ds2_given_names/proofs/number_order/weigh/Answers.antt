use Rattle.std.proofs.Common.{◌≡◌, ◌+◌, ◌-◌, ◌*◌, subst, sym, arith}
use Rattle.std.proofs.lemmas.Grind.{common_steps}
use Rattle.ds2_given_names.specs.NumberOrder.{with_digit, clamped_balance, Balances}
use Rattle.ds2_given_names.proofs.NumberLemmas.{weighed}
use Rattle.ds2_given_names.proofs.number_order.weigh.Goals as goal

pub returns-clause-balances : goal.returns-clause-balances
returns-clause-balances c = λ m n h.
    let a = c.args.a in
    let b = c.args.b in
    let r : c.clamped.result ≡ clamped_balance (10 * c.args.balance + (b - 48)) (216 + (a - 48)) = grind (arith, common_steps) in
    subst (λ x. Balances x (with_digit m a) (with_digit n b)) (sym r) (weighed c.args.balance a b m n c.requires (omega (arith, c.ranges.a)) (omega (arith, c.ranges.b)) h)
