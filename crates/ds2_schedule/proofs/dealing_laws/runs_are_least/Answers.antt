use Rattle.ds2_schedule.proofs.Runs.{runs_are_least}
use Rattle.ds2_schedule.proofs.dealing_laws.runs_are_least.Goals as goal

pub returns : goal.returns
returns c = runs_are_least
