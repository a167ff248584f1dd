use Rattle.std.proofs.Common.{arith}
use Rattle.std.proofs.lemmas.Grind.{common_steps}
use Rattle.ds2_type_tables.proofs.ClashLemmas.{one_more_clash}
use Rattle.ds2_type_tables.proofs.clashes.clash_table.Goals as goal

pub columns-preserved : goal.columns-preserved
columns-preserved c = λ name.
    let k = one_more_clash name c.args.columns.now c.columns.c-index c.c-item.result (omega arith) c.c-item.is in
    let more = c.in_ok-note.ensures name in
    let before = c.columns.invariant name in
    grind (arith, common_steps, k, more, before)
