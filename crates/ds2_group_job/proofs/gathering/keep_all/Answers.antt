use Rattle.std.proofs.Common.{refl}
use Rattle.ds2_unit.specs.declared.units_end.UnitsEnd.{UnitsEnd}
use Rattle.ds2_group_job.proofs.KeptGroups.{kept_more}
use Rattle.ds2_group_job.proofs.gathering.keep_all.Goals as goal

pub given-preserved : goal.given-preserved
given-preserved c =
    let end : UnitsEnd = record { ending = c.in_ok-end.end.ending; executed = c.in_ok-executed.executed } in
    kept_more c.args.written.now c.given.written c.keep_end.new.written c.given.yielded c.in-Some.one c.given.all c.in_ok-end.end end c.given.invariant c.in_ok-end.ensures refl c.in_ok-executed.ensures
