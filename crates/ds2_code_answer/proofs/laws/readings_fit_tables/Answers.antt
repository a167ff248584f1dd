use Rattle.ds2_code_answer.proofs.FittingReadings.{readings_fit}
use Rattle.ds2_code_answer.proofs.laws.readings_fit_tables.Goals as goal

pub returns : goal.returns
returns c = readings_fit
