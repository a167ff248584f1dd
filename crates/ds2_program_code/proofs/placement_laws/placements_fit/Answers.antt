use Rattle.ds2_program_code.proofs.Placements.{placements_fit}
use Rattle.ds2_program_code.proofs.placement_laws.placements_fit.Goals as goal

pub returns : goal.returns
returns c = placements_fit
