use Rattle.std.proofs.Common.{◌+◌, drop, nat_eq, bytes_eq, arith}
use Rattle.std.proofs.lemmas.Grind.{common_steps}
use Rattle.std.specs.Cmp.Lexicographic.{pointwise}
use Rattle.std.specs.HashSet.{contains}
use Rattle.ds2_names.specs.SourceUnit.{is_named}
use Rattle.ds2_scope.proofs.SetLemmas.{either_moved, or_false}
use Rattle.ds2_name_uses.proofs.unit_tables.add_names.Goals as goal

pub names-preserved : goal.names-preserved
names-preserved c = λ name.
    let k = either_moved (bytes_eq c.n-item.result.name name) (contains (pointwise nat_eq) c.names.set name) (is_named (drop (c.names.n-index + 1) c.args.names.now) name) in
    let added = c.in_ok-add_name.ensures.names name in
    let before = c.names.invariant name in
    grind (arith, common_steps, k, added, before)

pub returns : goal.returns
returns c = λ name.
    let k = or_false (contains (pointwise nat_eq) c.names.set name) in
    let before = c.names.invariant name in
    grind (arith, common_steps, k, before)
