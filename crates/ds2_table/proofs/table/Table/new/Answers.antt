use Rattle.ds2_table.proofs.Across.{holds_none}
use Rattle.ds2_table.proofs.table.Table.new.Goals as goal

pub invariant_of-result : goal.invariant_of-result
invariant_of-result c = holds_none c.args.schema c.new.result.items c.new.ensures.items
