use Rattle.std.proofs.Common.{◌≡◌, ◌<◌, ◌≤◌, ◌-◌, suc, None, sym, ap, subst, ◌∙◌, arith}
use Rattle.ds2_deeds.specs.NamedLocations.{locations_named}
use Rattle.ds2_locality.specs.Verdict.{coarsest, ground_at}
use Rattle.ds2_local.specs.RunGrounds.{ground_of_read}
use Rattle.ds2_local.proofs.FinestLemmas.{coarsest_few, fails_at, finest_at, holds_at}
use Rattle.ds2_local.proofs.verdict.finest_grain.Goals as goal

pub grains-init : goal.grains-init
grains-init c =
    let e = c.coarsest_grain-grain.ensures in
    record {
      some = subst (λ n. coarsest c.args.count ≤ n) (sym e) (omega arith);
      below = subst (λ n. n ≤ c.args.count) (sym e) (coarsest_few c.args.count);
      few = omega arith;
      holds = λ t held h. ap (λ n. ground_at t n) e ∙ h;
      fails = λ t held less. absurd (omega (arith, less));
    }

pub grains-preserved-then-is_some : goal.grains-preserved-then-is_some
grains-preserved-then-is_some c =
    let finer = c.halfway-finer.result in
    let above = c.halfway-finer.ensures.finer in
    let within = c.halfway-finer.ensures.within in
    let few = c.grains.invariant.few in
    let next : suc (finer - 1) ≡ finer = omega (arith, above) in
    record {
      some = c.grains.invariant.some;
      below = omega (arith, above);
      few = omega (arith, within, few);
      holds = c.grains.invariant.holds;
      fails = λ t held less none.
          let found = c.in_ok-failing_at_grain.ensures t held in
          fails_at (ground_at t) finer (ground_of_read (locations_named c.args.bodies.now.numbers.locations.now) c.in_ok-failing_at_grain.field-0) found.is (found.there ∙ sym c.is_some.ensures ∙ c.if-is_some.true)
          (ap (λ n. ground_at t n) (sym next) ∙ none);
    }

pub returns : goal.returns
returns c = λ t held h.
    let over = c.grains-test.false in
    let below = c.grains.invariant.below in
    let top : c.grains.finest ≡ c.grains.grain = omega (arith, over, below) in
    let few = subst (λ n. n ≤ c.args.count) top c.grains.invariant.few in
    let fails = subst (λ n. n < c.args.count → ground_at t (suc n) ≡ None → ⊥) top (c.grains.invariant.fails t held) in
    finest_at (ground_at t) (λ p q. c.coarser_holds.ensures t p q) c.args.count c.grains.grain c.grains.invariant.some few (c.grains.invariant.holds t held h) fails
