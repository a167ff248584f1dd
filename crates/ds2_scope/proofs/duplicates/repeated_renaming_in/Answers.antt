use Rattle.std.proofs.Common.{◌+◌, drop, arith}
use Rattle.std.proofs.lemmas.Grind.{common_steps}
use Rattle.ds2_scope.specs.Collected.{repeated_renamings}
use Rattle.ds2_scope.proofs.CollectedLemmas.{one_more_item}
use Rattle.ds2_scope.proofs.duplicates.repeated_renaming_in.Goals as goal

pub options-preserved : goal.options-preserved
options-preserved c =
    let k = one_more_item repeated_renamings c.options.found c.option-item.result (drop (c.options.option-index + 1) c.args.options.now) in
    grind (arith, common_steps, k, c.in_ok-names.ensures, c.in_ok-earliest_later.ensures, c.earlier_of-found.ensures, c.options.invariant)
