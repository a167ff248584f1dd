use Rattle.ds2_schedule.proofs.Runs.{some_cuts}
use Rattle.ds2_schedule.proofs.dealing_laws.some_cuts.Goals as goal

pub returns : goal.returns
returns c = some_cuts
