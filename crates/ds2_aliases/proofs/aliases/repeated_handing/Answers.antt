use Rattle.std.proofs.Common.{◌+◌, drop, arith}
use Rattle.std.proofs.lemmas.Grind.{common_steps}
use Rattle.ds2_scope.proofs.CollectedLemmas.{one_more_item}
use Rattle.ds2_aliases.specs.HandedGlobals.{repeated_in_method}
use Rattle.ds2_aliases.proofs.aliases.repeated_handing.Goals as goal

pub methods-preserved : goal.methods-preserved
methods-preserved c =
    let k = one_more_item repeated_in_method c.methods.found c.m-item.result (drop (c.methods.m-index + 1) c.args.methods.now) in
    grind (arith, common_steps, k, c.methods.invariant)
