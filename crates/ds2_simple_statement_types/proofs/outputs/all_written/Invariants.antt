use Rattle.std.proofs.Common.{take}
use Rattle.ds2_elaboration.specs.ExpressionTypes.{TypeScope}
use Rattle.ds2_elaboration.specs.StatementTypes.{written_refusals}
use Rattle.ds2_simple_statement_types.specs.MethodScopes.{IsMethodScope}
use Rattle.ds2_simple_statement_types.specs.ReturnedAndWritten.{as_it_is, output_number}
use Rattle.ds2_simple_statement_types.proofs.PartLists.{AreParts}
use Rattle.ds2_simple_statement_types.proofs.outputs.all_written.Given as goal

abbrev pub invariant-tables : goal.invariant-tables
invariant-tables l =
    (types : TypeScope) → IsMethodScope types l.scope → AreParts as_it_is (written_refusals types) (output_number types.outputs) (take l.table-index l.tables) l.all
