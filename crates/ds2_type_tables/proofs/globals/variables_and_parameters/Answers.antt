use Rattle.std.proofs.Common.{◌+◌, drop, arith}
use Rattle.std.proofs.lemmas.Grind.{common_steps}
use Rattle.std.specs.Prelude.{nat_eq}
use Rattle.std.specs.Cmp.Lexicographic.{pointwise}
use Rattle.std.specs.HashMap.{get}
use Rattle.ds2_type_tables.proofs.TableLemmas.{none_behind, one_more_parameter}
use Rattle.ds2_type_tables.proofs.globals.variables_and_parameters.Goals as goal

pub parameters-preserved : goal.parameters-preserved
parameters-preserved c = λ name.
    let k = one_more_parameter (get (pointwise nat_eq) c.parameters.names name) c.v-item.result (drop (c.parameters.v-index + 1) c.args.parameters.now) name in
    let more = c.in_ok-add.ensures name in
    let before = c.parameters.invariant name in
    grind (arith, common_steps, k, more, before)

pub returns : goal.returns
returns c = λ name.
    let k = none_behind (get (pointwise nat_eq) c.parameters.names name) in
    let before = c.parameters.invariant name in
    grind (arith, common_steps, k, before)
