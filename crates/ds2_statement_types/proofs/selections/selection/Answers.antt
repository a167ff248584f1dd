use Rattle.std.proofs.Common.{◌≡◌, ◌++◌, List, map, Option, Box, Global}
use Rattle.std.specs.Option.{option_map}
use Rattle.ds2_meaning.specs.declared.statements.Statement.{Statement}
use Rattle.ds2_meaning.specs.declared.statements.When.{When}
use Rattle.ds2_simple_statement_types.specs.StatementOutcomes.{boxed_tree}
use Rattle.ds2_statement_types.specs.StatementParts.{when_of}
use Rattle.ds2_simple_statement_types.proofs.PartOutcomes.{both_stand}
use Rattle.ds2_statement_types.proofs.selections.selection.Goals as goal

pub returns : goal.returns
returns c = λ xs ys zs value forms last h k l.
    c.select_statement.ensures xs (ys ++ zs) value forms last h
    (both_stand (λ (ws : List When). map when_of ws ≡ forms) (λ (o : Option (Box Statement Global)). option_map boxed_tree o ≡ last) ys zs c.args.whens c.args.otherwise c.of_both.result k l
    c.of_both.ensures)
