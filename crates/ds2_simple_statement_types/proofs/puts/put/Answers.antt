use Rattle.std.proofs.Common.{map}
use Rattle.ds2_names.specs.NameRules.{from_each}
use Rattle.ds2_elaboration.specs.StatementTypes.{item_refusals, item_node}
use Rattle.ds2_simple_statement_types.proofs.puts.put.Goals as goal

pub returns : goal.returns
returns c = λ types s.
    c.put_items.ensures (from_each (item_refusals types) c.args.shown.now) (map (item_node types) c.args.shown.now) (c.in_ok-all.ensures types s)
