use Rattle.ds2_program_code.proofs.StatementOperands.{statements_have_types}
use Rattle.ds2_program_code.proofs.operand_laws.statements_have_types.Goals as goal

pub returns : goal.returns
returns c = statements_have_types
