use Rattle.ds2_meaning.proofs.Tables.{tables_mentioned_decide}
use Rattle.ds2_meaning.proofs.laws.tables_mentioned_decide.Goals as goal

pub returns : goal.returns
returns c = tables_mentioned_decide
