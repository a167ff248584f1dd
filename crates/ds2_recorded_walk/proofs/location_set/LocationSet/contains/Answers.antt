use Rattle.std.proofs.Common.{◌<◌, ◌≤◌, not, ap, ◌∙◌, arith}
use Rattle.ds2_recorded_walk.proofs.SetLemmas.{in_set, past_set}
use Rattle.ds2_recorded_walk.proofs.location_set.LocationSet.contains.Goals as goal

pub returns-then-number-self : goal.returns-then-number-self
returns-then-number-self c =
    let test = c.if-number-self.true in
    let lt : c.args.number < c.self.inside.count = omega (arith, test) in
    ap not c.contains.ensures ∙ in_set c.self.inside.count c.self.inside.out c.args.self.now c.self.view_is c.args.number lt

pub returns-else-number-self : goal.returns-else-number-self
returns-else-number-self c =
    let test = c.if-number-self.false in
    let le : c.self.inside.count ≤ c.args.number = omega (arith, test) in
    past_set c.self.inside.count c.self.inside.out c.args.self.now c.self.view_is c.args.number le
