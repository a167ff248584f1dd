use Rattle.ds2_simple_statement_types.proofs.SimpleViews.{set_typed}
use Rattle.ds2_simple_statement_types.proofs.object_calls.set_node.Goals as goal

pub returns : goal.returns
returns c = set_typed c.args.place c.args.instance c.args.values
