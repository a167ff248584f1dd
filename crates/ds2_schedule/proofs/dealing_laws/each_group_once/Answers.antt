use Rattle.ds2_schedule.proofs.Steps.{each_group_once}
use Rattle.ds2_schedule.proofs.dealing_laws.each_group_once.Goals as goal

pub returns : goal.returns
returns c = each_group_once
