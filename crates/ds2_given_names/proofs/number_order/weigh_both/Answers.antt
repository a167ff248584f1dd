use Rattle.std.proofs.Common.{◌≡◌, ◌+◌, ℕ, drop, subst, refl, sym, ap, ◌∙◌, arith}
use Rattle.std.proofs.lemmas.Grind.{common_steps}
use Rattle.std.proofs.Math.ListN.{drop_of_length-le}
use Rattle.ds2_given_names.specs.NumberOrder.{with_digit, spelled_behind, Balances}
use Rattle.ds2_given_names.proofs.number_order.weigh_both.Goals as goal

pub digits-init : goal.digits-init
digits-init c = (c.requires.small, λ m n h. (m, n, h, refl, refl))

pub digits-preserved : goal.digits-preserved
digits-preserved c = (
  c.weigh-now.ensures.small,
  λ m n h.
      let lead = c.digits.invariant.1 m n h in
      let l = lead.3 in
      let r = lead.4 in (_, _, c.weigh-now.ensures.balances lead.0 lead.1 lead.2, grind (arith, common_steps, l), grind (arith, common_steps, r)),
)

pub returns-clause-balances : goal.returns-clause-balances
returns-clause-balances c = λ m n h.
    let lead = c.digits.invariant.1 m n h in
    let first = sym (ap (spelled_behind lead.0) (drop_of_length-le c.args.a.now c.digits-test.false)) ∙ lead.3 in
    let second = sym (ap (spelled_behind lead.1) (drop_of_length-le c.args.b.now (omega (arith, c.requires.same, c.digits-test.false)))) ∙ lead.4 in
    subst (λ x. Balances c.digits.now x (spelled_behind n c.args.b.now)) first (subst (λ x. Balances c.digits.now lead.0 x) second lead.2)
