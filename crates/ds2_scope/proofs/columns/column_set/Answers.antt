use Rattle.std.proofs.Common.{◌+◌, drop, arith}
use Rattle.std.proofs.lemmas.Grind.{common_steps}
use Rattle.std.specs.Prelude.{nat_eq, bytes_eq}
use Rattle.std.specs.Cmp.Lexicographic.{pointwise}
use Rattle.std.specs.HashSet.{contains}
use Rattle.ds2_meaning.specs.ProgramTree.{is_listed}
use Rattle.ds2_scope.specs.NameSets.{column_names}
use Rattle.ds2_scope.proofs.SetLemmas.{either_moved, or_false}
use Rattle.ds2_scope.proofs.columns.column_set.Goals as goal

pub columns-preserved : goal.columns-preserved
columns-preserved c = λ name.
    let k = either_moved (bytes_eq c.column-item.result.name name) (contains (pointwise nat_eq) c.columns.set name) (is_listed (column_names (drop (c.columns.column-index + 1) c.args.columns.now)) name) in
    let added = c.in_ok-add_name.ensures.names name in
    let before = c.columns.invariant name in
    grind (arith, common_steps, k, added, before)

pub returns : goal.returns
returns c = λ name.
    let k = or_false (contains (pointwise nat_eq) c.columns.set name) in
    let before = c.columns.invariant name in
    grind (arith, common_steps, k, before)
