use Rattle.ds2_schedule.proofs.Sample.{sample_meets_premises}
use Rattle.ds2_schedule.proofs.laws.sample_meets_premises.Goals as goal

pub returns : goal.returns
returns c = sample_meets_premises
