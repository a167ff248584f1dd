use Rattle.std.proofs.Common.{arith}
use Rattle.ds2_elaboration.specs.StatementTypes.{written_refusals}
use Rattle.ds2_simple_statement_types.specs.ReturnedAndWritten.{as_it_is, output_number}
use Rattle.ds2_simple_statement_types.proofs.PartLists.{no_part, one_part, all_parts}
use Rattle.ds2_simple_statement_types.proofs.outputs.all_written.Goals as goal

pub tables-init : goal.tables-init
tables-init c = λ types s. no_part as_it_is (written_refusals types) (output_number types.outputs) c.args.tables.now c.new.result c.new.ensures

pub tables-preserved : goal.tables-preserved
tables-preserved c = λ types s.
    one_part as_it_is (written_refusals types) (output_number types.outputs) c.args.tables.now c.tables.table-index c.table-item.result c.tables.all c.in_ok-all.all c.in_ok-one.one (omega arith) c.table-item.is
    (c.tables.invariant types s) (c.in_ok-one.ensures types s) c.in_ok-all.ensures

pub returns : goal.returns
returns c = λ types s.
    all_parts as_it_is (written_refusals types) (output_number types.outputs) c.args.tables.now c.tables.table-index c.tables.all (omega arith) (c.tables.invariant types s)
