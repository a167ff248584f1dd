use Rattle.std.proofs.Common.{◌+◌, drop, arith}
use Rattle.std.proofs.lemmas.Grind.{common_steps}
use Rattle.std.specs.Prelude.{nat_eq}
use Rattle.std.specs.Cmp.Lexicographic.{pointwise}
use Rattle.std.specs.HashMap.{get}
use Rattle.ds2_type_tables.proofs.TableLemmas.{one_more_column}
use Rattle.ds2_type_tables.proofs.globals.columns.Goals as goal

pub variables-preserved : goal.variables-preserved
variables-preserved c = λ name.
    let unjoined = c.args.unjoined.now in
    let k = one_more_column unjoined (get (pointwise nat_eq) c.variables.names name) c.v-item.result (drop (c.variables.v-index + 1) c.args.variables.now) name in
    let own = c.in_ok-known.ensures unjoined c.in_ok-table.ensures in
    let more = c.in_ok-add.ensures name in
    let before = c.variables.invariant name in
    grind (arith, common_steps, k, own, more, before)
