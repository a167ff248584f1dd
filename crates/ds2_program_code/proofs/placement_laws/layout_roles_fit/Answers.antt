use Rattle.ds2_program_code.proofs.Roles.{layout_roles_fit}
use Rattle.ds2_program_code.proofs.placement_laws.layout_roles_fit.Goals as goal

pub returns : goal.returns
returns c = layout_roles_fit
