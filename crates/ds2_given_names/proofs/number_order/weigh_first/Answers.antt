use Rattle.std.proofs.Common.{◌≡◌, ◌+◌, ℕ, drop, subst, refl, sym, ap, ◌∙◌, arith}
use Rattle.std.proofs.lemmas.Grind.{common_steps}
use Rattle.std.proofs.Math.ListN.{drop_of_length-le}
use Rattle.ds2_given_names.specs.NumberOrder.{with_digit, spelled_behind, Balances}
use Rattle.ds2_given_names.proofs.number_order.weigh_first.Goals as goal

pub digits-init : goal.digits-init
digits-init c = (c.requires, λ m h. (m, h, refl))

pub digits-preserved : goal.digits-preserved
digits-preserved c = (
  c.weigh-now.ensures.small,
  λ m h.
      let lead = c.digits.invariant.1 m h in
      let l = lead.2 in (_, c.weigh-now.ensures.balances lead.0 0 lead.1, grind (arith, common_steps, l)),
)

pub returns-clause-balances : goal.returns-clause-balances
returns-clause-balances c = λ m h.
    let lead = c.digits.invariant.1 m h in
    subst (λ x. Balances c.digits.now x 0) (sym (ap (spelled_behind lead.0) (drop_of_length-le c.args.digits.now c.digits-test.false)) ∙ lead.2) lead.1
