use Rattle.ds2_schedule.proofs.Sums.{fault_is_least}
use Rattle.ds2_schedule.proofs.dealing_laws.fault_is_least.Goals as goal

pub returns : goal.returns
returns c = fault_is_least
