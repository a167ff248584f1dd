use Rattle.std.proofs.Common.{arith}
use Rattle.std.proofs.lemmas.Grind.{common_steps}
use Rattle.ds2_scope.proofs.NamedLemmas.{behind_first}
use Rattle.ds2_scope.proofs.repeated.place_if_before.Goals as goal

pub returns : goal.returns
returns c =
    let all = c.args.all.now in
    let n = c.args.n.now in
    let k = behind_first all n.name n.place in
    let known = c.requires n.name in
    grind (arith, common_steps, k, known)
