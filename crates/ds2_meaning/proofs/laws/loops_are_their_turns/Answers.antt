use Rattle.ds2_meaning.proofs.Loops.{loops_are_their_turns}
use Rattle.ds2_meaning.proofs.laws.loops_are_their_turns.Goals as goal

pub returns : goal.returns
returns c = loops_are_their_turns
