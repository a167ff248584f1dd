use Rattle.ds2_schedule.proofs.Bags.{whole_bags}
use Rattle.ds2_schedule.proofs.laws.whole_bags_have_all.Goals as goal

pub returns : goal.returns
returns c = whole_bags
