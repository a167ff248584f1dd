use Rattle.ds2_group_job.proofs.IndependentGroups.{independent_groups}
use Rattle.ds2_group_job.proofs.laws.independent_groups_give_whatever_ran.Goals as goal

pub returns : goal.returns
returns c start = independent_groups c.row.Location.Denot c.row.Content.Denot
