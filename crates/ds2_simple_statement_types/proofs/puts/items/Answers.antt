use Rattle.std.proofs.Common.{arith}
use Rattle.ds2_meaning.specs.View.{item_tree}
use Rattle.ds2_elaboration.specs.StatementTypes.{item_refusals, item_node}
use Rattle.ds2_simple_statement_types.proofs.PartLists.{no_part, one_part, all_parts}
use Rattle.ds2_simple_statement_types.proofs.puts.items.Goals as goal

pub items-init : goal.items-init
items-init c = λ types s. no_part item_tree (item_refusals types) (item_node types) c.args.items.now c.new.result c.new.ensures

pub items-preserved : goal.items-preserved
items-preserved c = λ types s.
    one_part item_tree (item_refusals types) (item_node types) c.args.items.now c.items.x-index c.x-item.result c.items.all c.in_ok-all.all c.in_ok-one.one (omega arith) c.x-item.is
    (c.items.invariant types s) (c.in_ok-one.ensures types s) c.in_ok-all.ensures

pub returns : goal.returns
returns c = λ types s.
    all_parts item_tree (item_refusals types) (item_node types) c.args.items.now c.items.x-index c.items.all (omega arith) (c.items.invariant types s)
