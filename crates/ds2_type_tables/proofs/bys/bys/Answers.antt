use Rattle.std.proofs.Common.{◌+◌, drop, arith}
use Rattle.std.proofs.lemmas.Grind.{common_steps}
use Rattle.std.specs.Prelude.{nat_eq}
use Rattle.std.specs.Cmp.Lexicographic.{pointwise}
use Rattle.std.specs.HashMap.{get}
use Rattle.ds2_scope.proofs.TableLemmas.{or_none}
use Rattle.ds2_type_tables.proofs.CallableLemmas.{one_more_by}
use Rattle.ds2_type_tables.proofs.bys.bys.Goals as goal

pub names-preserved : goal.names-preserved
names-preserved c = λ name.
    let k = one_more_by (get (pointwise nat_eq) c.names.table name) c.by-item.result (drop (c.names.by-index + 1) c.args.names.now) name in
    let noted = c.in_ok-note.ensures name in
    let before = c.names.invariant name in
    grind (arith, common_steps, k, noted, before)

pub returns : goal.returns
returns c = λ name.
    let k = or_none (get (pointwise nat_eq) c.names.table name) in
    let before = c.names.invariant name in
    grind (arith, common_steps, k, before)
