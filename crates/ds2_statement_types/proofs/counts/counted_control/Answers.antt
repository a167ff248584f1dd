use Rattle.std.proofs.Common.{subst}
use Rattle.ds2_types.specs.Judgements.{IsOutcome}
use Rattle.ds2_statement_types.specs.Controls.{IsCount}
use Rattle.ds2_statement_types.proofs.counts.counted_control.Goals as goal

pub returns-in-Ok : goal.returns-in-Ok
returns-in-Ok c = λ types k refusals h. subst (IsOutcome (IsCount types k) refusals) c.in-Ok.is h

pub returns-in-Err : goal.returns-in-Err
returns-in-Err c = λ types k refusals h. subst (IsOutcome (IsCount types k) refusals) c.in-Err.is h
