use Rattle.std.proofs.Common.{◌+◌, ◌&&◌, drop, refl, sym, ◌∙◌, arith}
use Rattle.ds2_unit.specs.GivenScales.{have_given_scales}
use Rattle.ds2_unit.proofs.GivenScales.{given_end, given_step, first_fits, first_fails, given_scales}
use Rattle.ds2_unit.proofs.given.are_given_scaled.Goals as goal

pub given-init : goal.given-init
given-init c = refl

pub given-preserved : goal.given-preserved
given-preserved c =
    let slots = c.args.slots.now in
    let step = given_step slots c.args.numbers.now c.args.given.now c.given.n 0 c.index-given-n.result (omega (arith, c.given-test.true, c.min-count.ensures)) (omega (arith, c.given-test.true, c.min-count.ensures)) c.index-given-n.is in
    first_fits c.fits_slot.result (have_given_scales slots (drop (c.given.n + 1) c.args.numbers.now) (drop (c.given.n + 1) c.args.given.now)) _ _ c.given.invariant
    (step ∙ λ i. sym c.fits_slot.ensures i && have_given_scales slots (drop (c.given.n + 1) c.args.numbers.now) (drop (c.given.n + 1) c.args.given.now)) c.if-not-fits_slot.false

whole : goal.returns-clause-exact
whole c = sym (given_end c.args.slots.now c.args.numbers.now c.args.given.now c.given.n (omega (arith, c.given-test.false, c.min-count.ensures))) ∙ c.given.invariant

pub returns-clause-exact : goal.returns-clause-exact
returns-clause-exact c = whole c

pub returns-clause-scaled : goal.returns-clause-scaled
returns-clause-scaled c = given_scales c.args.slots.now c.args.numbers.now c.args.given.now (sym (whole c))
