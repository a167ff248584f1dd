use Rattle.ds2_meaning.proofs.Opening.{given_parameters_fit}
use Rattle.ds2_meaning.proofs.laws.given_parameters_fit.Goals as goal

pub returns : goal.returns
returns c = given_parameters_fit
