use Rattle.ds2_statement_types.proofs.StatementForms.{body_whole}
use Rattle.ds2_statement_types.proofs.walk.method_body.Goals as goal

pub returns : goal.returns
returns c = λ types s. body_whole types c.args.body.now c.statements.result (c.statements.ensures types s)
