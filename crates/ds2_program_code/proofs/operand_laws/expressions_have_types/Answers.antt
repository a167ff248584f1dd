use Rattle.ds2_program_code.proofs.OperandLeads.{expressions_have_types}
use Rattle.ds2_program_code.proofs.operand_laws.expressions_have_types.Goals as goal

pub returns : goal.returns
returns c = expressions_have_types
