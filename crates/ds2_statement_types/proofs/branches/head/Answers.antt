use Rattle.std.proofs.Common.{◌≡◌, Box, Global}
use Rattle.ds2_meaning.specs.declared.statements.Statement.{Statement}
use Rattle.ds2_types.proofs.Outcomes.{IsTree}
use Rattle.ds2_simple_statement_types.specs.StatementOutcomes.{boxed_tree}
use Rattle.ds2_simple_statement_types.proofs.PartOutcomes.{both_stand}
use Rattle.ds2_statement_types.proofs.branches.head.Goals as goal

pub returns : goal.returns
returns c = λ xs ys test node h k.
    both_stand (IsTree test) (λ (b : Box Statement Global). boxed_tree b ≡ node) xs ys c.args.condition c.args.first c.of_both.result h k c.of_both.ensures
