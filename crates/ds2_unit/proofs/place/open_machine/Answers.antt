use Rattle.std.proofs.Common.{ℕ, List, subst}
use Rattle.std.proofs.lemmas.Bool.{OnTrue_at}
use Rattle.ds2_code.specs.Scales.{AreGivenScaled}
use Rattle.ds2_unit.proofs.place.open_machine.Goals as goal

pub machine_with-requires-clause-given : goal.machine_with-requires-clause-given
machine_with-requires-clause-given c =
    let P : List ℕ → Type 0 = λ numbers. AreGivenScaled c.args.place.now.program.now.slots numbers c.args.given.now in
    subst P c.as_slice-numbers.ensures (OnTrue_at c.if-are_given_scaled.true c.are_given_scaled.ensures.scaled)
