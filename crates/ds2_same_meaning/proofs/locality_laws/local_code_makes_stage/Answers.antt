use Rattle.ds2_same_meaning.proofs.CodeStage.{local_code_makes_stage}
use Rattle.ds2_same_meaning.proofs.locality_laws.local_code_makes_stage.Goals as goal

pub returns : goal.returns
returns c = local_code_makes_stage c.local_code_is_independent.ensures
