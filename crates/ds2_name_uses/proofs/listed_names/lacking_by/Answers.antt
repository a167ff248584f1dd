use Rattle.std.proofs.Common.{◌+◌, drop, arith}
use Rattle.std.proofs.lemmas.Grind.{common_steps}
use Rattle.ds2_names.specs.SourceUnit.{columns_stored}
use Rattle.ds2_name_uses.proofs.BrokenLemmas.{one_more_input, no_table}
use Rattle.ds2_scope.proofs.EarliestLemmas.{none_right}
use Rattle.ds2_name_uses.proofs.listed_names.lacking_by.Goals as goal

pub inputs-preserved : goal.inputs-preserved
inputs-preserved c =
    let k = one_more_input (columns_stored c.args.tables.now) c.inputs.found c.input-item.result (drop (c.inputs.input-index + 1) c.args.inputs.now) c.args.bys.now in
    grind (arith, common_steps, k, c.inputs.invariant)

pub returns : goal.returns
returns c =
    let k = no_table (columns_stored c.args.tables.now) c.args.bys.now in
    let n = none_right c.inputs.found in
    grind (arith, common_steps, k, n, c.inputs.invariant)
