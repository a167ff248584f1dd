use Rattle.ds2_reference_types.proofs.KnownNames.{unjoined_value}
use Rattle.ds2_reference_types.proofs.variables.known_value.Goals as goal

pub returns-in-Some : goal.returns-in-Some
returns-in-Some c = λ v h. unjoined_value c.args.known.now v _ c.refusal.result h c.in-Some.is c.refusal.ensures

pub returns-in-None : goal.returns-in-None
returns-in-None c = λ v h. c.joined_value.ensures v h c.in-None.is
