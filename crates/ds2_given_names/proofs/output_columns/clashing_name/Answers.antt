use Rattle.std.proofs.Common.{arith}
use Rattle.std.proofs.lemmas.Grind.{common_steps}
use Rattle.ds2_given_names.proofs.OutputLemmas.{clash_at}
use Rattle.ds2_given_names.proofs.output_columns.clashing_name.Goals as goal

pub returns-in-Some : goal.returns-in-Some
returns-in-Some c =
    let n = c.args.n.now in
    let k = clash_at c.args.all.now n c.in-Some.place in
    let known = c.requires n.name in
    grind (arith, common_steps, k, known)
