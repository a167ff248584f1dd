use Rattle.std.proofs.Common.{◌+◌, drop, arith}
use Rattle.std.proofs.lemmas.Grind.{common_steps}
use Rattle.ds2_names.specs.NameRules.{renamed_twice}
use Rattle.ds2_scope.proofs.CollectedLemmas.{one_more_item}
use Rattle.ds2_scope.proofs.duplicates.repeated_renaming.Goals as goal

pub outputs-preserved : goal.outputs-preserved
outputs-preserved c =
    let k = one_more_item renamed_twice c.outputs.found c.o-item.result (drop (c.outputs.o-index + 1) c.args.outputs.now) in
    grind (arith, common_steps, k, c.in_ok-renamed_twice.ensures, c.earlier_of-found.ensures, c.outputs.invariant)
