use Rattle.std.proofs.Common.{◌+◌, drop, arith}
use Rattle.std.proofs.lemmas.Grind.{common_steps}
use Rattle.ds2_name_uses.specs.ListedParts.{lacking_column}
use Rattle.ds2_scope.proofs.CollectedLemmas.{one_more_item}
use Rattle.ds2_scope.proofs.SetLemmas.{has_column_is}
use Rattle.ds2_name_uses.proofs.listed_names.lacking.Goals as goal

pub bys-preserved : goal.bys-preserved
bys-preserved c =
    let b = c.b-item.result in
    let k = one_more_item (lacking_column c.args.columns.now) c.bys.found b (drop (c.bys.b-index + 1) c.args.bys.now) in
    let listed = has_column_is c.args.columns.now b.name in
    let known = c.requires b.name in
    grind (arith, common_steps, k, listed, known, c.bys.invariant)
