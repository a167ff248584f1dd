use Rattle.ds2_parse_statements.proofs.StatementTreeSteps.{do_built}
use Rattle.ds2_parse_statements.proofs.trees.block_or_loop.Goals as goal

pub returns : goal.returns
returns c = do_built c.args.keyword c.args.control c.args.semicolon c.args.body c.args.end_keyword c.args.end
