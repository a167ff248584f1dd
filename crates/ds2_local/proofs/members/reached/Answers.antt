use Rattle.ds2_local.proofs.ReachLemmas.{none_reached}
use Rattle.ds2_local.proofs.members.reached.Goals as goal

pub methods-init : goal.methods-init
methods-init c = none_reached c.args.all.now c.in_ok-marks.marks _ c.in_ok-marks.ensures

pub methods-preserved : goal.methods-preserved
methods-preserved c = c.mark_reached.ensures c.methods.invariant
