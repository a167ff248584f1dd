use Rattle.std.proofs.Common.{arith}
use Rattle.ds2_loads.proofs.CursorSteps.{start_grows}
use Rattle.ds2_loads.proofs.load_cursor.set_group.Goals as goal

pub overflow_sub-result : goal.overflow_sub-result
overflow_sub-result c = omega (arith, c.group_start-end.ensures, c.group_start-start.ensures, start_grows c.args.cursor.now c.args.g c.requires)

pub returns : goal.returns
returns c = omega (arith, c.group_start-end.ensures, c.group_start-start.ensures, start_grows c.args.cursor.now c.args.g c.requires)
