use Rattle.ds2_locality.specs.Verdict.{JudgedThread}
use Rattle.ds2_local.specs.JudgedBodies.{HoldsJudged}
use Rattle.ds2_local.specs.SettledEffects.{IsSettledTo}
use Rattle.ds2_local.proofs.settled.settle_in_order.Given as goal

abbrev pub invariant-turns : goal.invariant-turns
invariant-turns l =
    (t : JudgedThread) → HoldsJudged t l.bodies → IsSettledTo t l.bodies l.known l.fn.settled l.fn.effects 0 → IsSettledTo t l.bodies l.known l.settled l.effects l.turn
