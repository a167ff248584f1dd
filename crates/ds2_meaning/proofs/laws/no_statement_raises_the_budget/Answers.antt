use Rattle.ds2_meaning.proofs.Loops.{no_statement_raises_the_budget}
use Rattle.ds2_meaning.proofs.laws.no_statement_raises_the_budget.Goals as goal

pub returns : goal.returns
returns c = no_statement_raises_the_budget
