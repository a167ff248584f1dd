use Rattle.ds2_parse_statements.proofs.StatementTreeSteps.{if_tree}
use Rattle.ds2_parse_statements.proofs.trees.conditional.Goals as goal

pub returns : goal.returns
returns c =
    let a = c.args.first in let p = c.args.parts in
    if_tree a.keyword a.condition a.then_keyword a.then p.others p.last
