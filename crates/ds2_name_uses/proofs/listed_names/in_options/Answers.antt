use Rattle.std.proofs.Common.{◌+◌, drop, arith}
use Rattle.std.proofs.lemmas.Grind.{common_steps}
use Rattle.ds2_name_uses.specs.ListedParts.{unknown_in_option}
use Rattle.ds2_name_uses.specs.ScopeTables.{tests_by}
use Rattle.ds2_scope.proofs.CollectedLemmas.{one_more_item}
use Rattle.ds2_name_uses.proofs.listed_names.in_options.Goals as goal

pub options-preserved : goal.options-preserved
options-preserved c =
    let k = one_more_item (unknown_in_option (tests_by c.args.scope.now)) c.options.found c.option-item.result (drop (c.options.option-index + 1) c.args.options.now) in
    grind (arith, common_steps, k, c.options.invariant)
