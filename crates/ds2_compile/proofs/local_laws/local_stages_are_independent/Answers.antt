use Rattle.ds2_compile.proofs.JudgedStages.{local_stages_are_independent}
use Rattle.ds2_compile.proofs.local_laws.local_stages_are_independent.Goals as goal

pub returns : goal.returns
returns c =
    local_stages_are_independent c.programs_have_verdicts.ensures c.local_code_has_independent_groups.ensures
