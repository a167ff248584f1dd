use Rattle.std.proofs.Common.{◌+◌, drop, arith}
use Rattle.std.proofs.lemmas.Grind.{common_steps}
use Rattle.ds2_names.specs.NameRules.{clashing_name}
use Rattle.ds2_scope.proofs.CollectedLemmas.{one_more_item}
use Rattle.ds2_given_names.proofs.output_columns.earliest_of_clashes.Goals as goal

pub all-preserved : goal.all-preserved
all-preserved c =
    let k = one_more_item (clashing_name c.args.all.now) c.all.found c.n-item.result (drop (c.all.n-index + 1) c.args.all.now) in
    grind (arith, common_steps, k, c.all.invariant)
