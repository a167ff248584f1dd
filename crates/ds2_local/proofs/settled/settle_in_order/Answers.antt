use Rattle.std.proofs.Common.{◌≡◌, length, sym, subst, add-one, arith}
use Rattle.ds2_local.specs.SettledEffects.{IsSettledTo}
use Rattle.ds2_local.proofs.settled.settle_in_order.Goals as goal

pub turns-init : goal.turns-init
turns-init c = λ t holds before. before

pub turns-preserved : goal.turns-preserved
turns-preserved c = λ t holds before.
    subst (λ d. IsSettledTo t c.args.bodies.now c.args.known.now c.settle_one.new.settled c.settle_one.new.effects d) (sym (add-one c.turns.turn)) (c.in_ok-settle_one.ensures t c.turns.turn holds (c.turns.invariant t holds before))

pub returns : goal.returns
returns c = λ t holds before.
    let over = c.turns-test.false in
    let few = c.turns.auto.turn-end in
    let end' : c.turns.turn ≡ length c.args.bodies.now.deeds.now = omega (arith, over, few) in
    subst (λ d. IsSettledTo t c.args.bodies.now c.args.known.now c.turns.settled c.turns.effects d) end' (c.turns.invariant t holds before)
