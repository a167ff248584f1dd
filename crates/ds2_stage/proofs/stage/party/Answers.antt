use Rattle.ds2_stage.proofs.Worked.{ended_bag}
use Rattle.ds2_stage.proofs.stage.party.Goals as goal

pub returns : goal.returns
returns g c = (ended_bag _ _ _ _ _ _ c.requires.pass.parts c.work.ensures.worked, c.work.ensures.of, c.work.ensures.worked.number)
