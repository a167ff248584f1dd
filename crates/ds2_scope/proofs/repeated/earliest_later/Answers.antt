use Rattle.std.proofs.Common.{arith}
use Rattle.std.proofs.lemmas.Grind.{common_steps}
use Rattle.ds2_scope.proofs.NamedLemmas.{later_parts}
use Rattle.ds2_scope.proofs.repeated.earliest_later.Goals as goal

pub returns : goal.returns
returns c =
    let k = later_parts c.args.names.now c.args.names.now in
    grind (arith, common_steps, k)
