use Rattle.std.proofs.Common.{◌+◌, drop, arith}
use Rattle.std.proofs.lemmas.Grind.{common_steps}
use Rattle.ds2_misplaced.specs.MisplacedParts.{repeated_options}
use Rattle.ds2_scope.proofs.CollectedLemmas.{one_more_item}
use Rattle.ds2_misplaced.proofs.methods_and_outputs.repeated_option.Goals as goal

pub outputs-preserved : goal.outputs-preserved
outputs-preserved c =
    let k = one_more_item repeated_options c.outputs.found c.o-item.result (drop (c.outputs.o-index + 1) c.args.outputs.now) in
    grind (arith, common_steps, k, c.in_ok-repeated_option_of.ensures, c.earlier_of-found.ensures, c.outputs.invariant)
