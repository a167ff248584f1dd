use Rattle.ds2_elaboration.proofs.Choices.{every_form_is_typed}
use Rattle.ds2_elaboration.proofs.laws.every_form_is_typed.Goals as goal

pub returns : goal.returns
returns c = every_form_is_typed
