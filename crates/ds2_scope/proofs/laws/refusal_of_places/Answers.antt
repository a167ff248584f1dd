use Rattle.ds2_scope.proofs.LesserLemmas.{refusal_of_places}
use Rattle.ds2_scope.proofs.laws.refusal_of_places.Goals as goal

pub returns : goal.returns
returns c = refusal_of_places
