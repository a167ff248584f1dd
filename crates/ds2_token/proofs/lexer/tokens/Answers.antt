use Rattle.ds2_token.proofs.LexerSteps.{accepts_of, refuses_of, read_along}
use Rattle.ds2_token.proofs.lexer.tokens.Goals as goal

pub returns-clause-accepts : goal.returns-clause-accepts
returns-clause-accepts c = accepts_of c.args.text.now c.read.result (read_along _ _ c.read.result c.as_str.ensures c.read.ensures)

pub returns-clause-refuses : goal.returns-clause-refuses
returns-clause-refuses c = refuses_of c.args.text.now c.read.result (read_along _ _ c.read.result c.as_str.ensures c.read.ensures)
