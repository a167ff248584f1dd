use Rattle.std.proofs.Common.{◌≡◌, ◌++◌, List, map, Option, Box, Global}
use Rattle.std.specs.Option.{option_map}
use Rattle.ds2_meaning.specs.declared.statements.Arm.{Arm}
use Rattle.ds2_meaning.specs.declared.statements.Statement.{Statement}
use Rattle.ds2_simple_statement_types.specs.StatementOutcomes.{boxed_tree}
use Rattle.ds2_statement_types.specs.StatementParts.{arm_of}
use Rattle.ds2_simple_statement_types.proofs.PartOutcomes.{both_stand}
use Rattle.ds2_statement_types.proofs.branches.chained_if.Goals as goal

pub returns : goal.returns
returns c = λ xs ys zs test node parts last h k l.
    c.if_statement.ensures xs (ys ++ zs) test node parts last h
    (both_stand (λ (as' : List Arm). map arm_of as' ≡ parts) (λ (o : Option (Box Statement Global)). option_map boxed_tree o ≡ last) ys zs c.args.others c.args.otherwise c.of_both.result k l
    c.of_both.ensures)
