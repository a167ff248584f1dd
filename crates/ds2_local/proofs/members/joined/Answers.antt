use Rattle.std.proofs.Common.{sym, subst}
use Rattle.ds2_local.specs.CallParts.{AreReached}
use Rattle.ds2_local.proofs.ReachLemmas.{none_joined}
use Rattle.ds2_local.proofs.members.joined.Goals as goal

pub methods-init : goal.methods-init
methods-init c = none_joined c.args.all.now c.in_ok-marks.marks _ c.in_ok-marks.ensures

pub methods-preserved : goal.methods-preserved
methods-preserved c = c.mark_way.ensures (subst (λ l. AreReached c.args.all.now l) (sym c.as_slice-known.ensures) c.in_ok-from.ensures) c.methods.invariant
