use Rattle.ds2_expression_walk.proofs.ArgumentForms.{of_so_many, of_other_count}
use Rattle.ds2_expression_walk.proofs.named_functions.counted.Goals as goal

pub returns-then-takes_so_many : goal.returns-then-takes_so_many
returns-then-takes_so_many c = λ xs h.
    of_so_many c.args.row c.args.name xs c.args.arguments c.len.result c.takes_so_many.result h c.len.ensures c.takes_so_many.ensures c.form.result c.if-takes_so_many.true (c.form.ensures xs h)

pub returns-else-takes_so_many : goal.returns-else-takes_so_many
returns-else-takes_so_many c = λ xs h.
    of_other_count c.args.row c.args.name xs c.args.arguments c.len.result c.takes_so_many.result h c.len.ensures c.takes_so_many.ensures c.nameless.result c.if-takes_so_many.false c.nameless.ensures
