use Rattle.std.proofs.Common.{◌≡◌, true, nat_eq, arith}
use Rattle.std.proofs.lemmas.Grind.{common_steps}
use Rattle.std.specs.Cmp.Lexicographic.{pointwise}
use Rattle.std.specs.HashSet.{contains}
use Rattle.ds2_scope.proofs.SetLemmas.{old_column}
use Rattle.ds2_scope.proofs.columns.push_column.Goals as goal

pub returns-else-branch : goal.returns-else-branch
returns-else-branch c = λ k h.
    let column = c.args.column.now in
    let there : contains (pointwise nat_eq) c.args.known.now column.name ≡ true = grind (arith, common_steps) in
    old_column k c.args.place column c.args.names.now c.args.known.now c.add_name.new.set h there (λ other. let added = c.in_ok-add_name.ensures.names other in grind (arith, common_steps, added))
