use Rattle.std.proofs.Common.{ap}
use Rattle.std.specs.Option.{option_copied}
use Rattle.ds2_simple_statement_types.proofs.OutputForms.{not_written, is_written}
use Rattle.ds2_simple_statement_types.proofs.outputs.written.Goals as goal

pub returns-in-None : goal.returns-in-None
returns-in-None c = λ types s.
    not_written types c.args.scope.now c.args.table.now c.in_ok-name.name (option_copied c.output.result) s c.in_ok-name.ensures c.output.ensures c.refusal.result
    (ap option_copied c.in-None.is) c.refusal.ensures

pub returns : goal.returns
returns c = λ types s.
    is_written types c.args.scope.now c.args.table.now c.in_ok-name.name (option_copied c.output.result) s c.in_ok-name.ensures c.output.ensures c.in-Some.number.now
    (ap option_copied c.in-Some.is)
