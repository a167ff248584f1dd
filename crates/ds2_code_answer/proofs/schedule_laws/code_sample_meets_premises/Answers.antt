use Rattle.ds2_code_answer.proofs.CodeSample.{code_sample_meets_premises}
use Rattle.ds2_code_answer.proofs.schedule_laws.code_sample_meets_premises.Goals as goal

pub returns : goal.returns
returns c = code_sample_meets_premises
