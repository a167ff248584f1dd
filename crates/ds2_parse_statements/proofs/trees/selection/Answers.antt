use Rattle.ds2_parse_statements.proofs.StatementTreeSteps.{select_built}
use Rattle.ds2_parse_statements.proofs.trees.selection.Goals as goal

pub returns : goal.returns
returns c = select_built c.args.keyword c.args.selector c.args.semicolon c.args.body.whens c.args.body.last c.args.body.end_keyword c.args.body.end
