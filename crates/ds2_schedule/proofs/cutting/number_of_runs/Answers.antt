use Rattle.std.proofs.Common.{◌∙◌, ap, sym, arith, ℕ}
use Rattle.ds2_schedule.specs.Runs.{run_count}
use Rattle.ds2_schedule.proofs.Runs.{no_runs, more_runs}
use Rattle.ds2_schedule.proofs.cutting.number_of_runs.Goals as goal

pub returns-then-groups-eq0 : goal.returns-then-groups-eq0
returns-then-groups-eq0 c = no_runs c.args.length c.requires ∙ ap (λ (m : ℕ). run_count m c.args.length) (sym c.if-groups-eq0.true)

pub returns-else-groups-eq0 : goal.returns-else-groups-eq0
returns-else-groups-eq0 c = more_runs c.args.groups c.args.length (omega (arith, c.if-groups-eq0.false)) c.requires
