use Rattle.std.proofs.Common.{[], map, arith}
use Rattle.std.proofs.lemmas.Grind.{common_steps}
use Rattle.ds2_names.specs.NameRules.{from_each}
use Rattle.ds2_elaboration.specs.StatementTypes.{written_refusals}
use Rattle.ds2_simple_statement_types.specs.ReturnedAndWritten.{output_number}
use Rattle.ds2_simple_statement_types.proofs.OutputForms.{every_output, named_outputs}
use Rattle.ds2_simple_statement_types.proofs.outputs.output.Goals as goal

pub returns-then-is_empty : goal.returns-then-is_empty
returns-then-is_empty c = λ types s.
    every_output types c.args.place c.args.tables.now c.args.scope.now.output_count c.output_to_all.result (grind (arith, common_steps)) s.count c.output_to_all.ensures

pub returns : goal.returns
returns c = λ types s.
    named_outputs types c.args.place c.args.tables.now c.output_to.result (λ e. grind (arith, common_steps))
    (c.output_to.ensures (from_each (written_refusals types) c.args.tables.now) (map (output_number types.outputs) c.args.tables.now) (c.in_ok-all.ensures types s))
