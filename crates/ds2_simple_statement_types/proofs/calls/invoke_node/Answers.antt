use Rattle.std.proofs.Common.{ap, ◌∙◌}
use Rattle.ds2_meaning.specs.TypedStatement.{Invoke}
use Rattle.ds2_meaning.specs.View.{CallTree}
use Rattle.ds2_simple_statement_types.proofs.SimpleViews.{invoke_typed}
use Rattle.ds2_simple_statement_types.proofs.calls.invoke_node.Goals as goal

pub returns : goal.returns
returns c =
    invoke_typed c.args.place c.method_call-call.result ∙ ap (λ (k : CallTree). Invoke c.args.place k.instance k.method k.arguments) c.method_call-call.ensures
