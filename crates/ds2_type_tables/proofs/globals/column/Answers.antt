use Rattle.std.proofs.Common.{arith}
use Rattle.std.proofs.lemmas.Grind.{common_steps}
use Rattle.ds2_type_tables.proofs.globals.column.Goals as goal

pub returns : goal.returns
returns c = λ columns h.
    let told = h c.in_ok-key.key in
    grind (arith, common_steps, told)
