use Rattle.std.proofs.Common.{◌≡◌, sym, subst}
use Rattle.std.specs.Prelude.{IfOk}
use Rattle.ds2_elaboration.specs.ProgramTypes.{read_statement}
use Rattle.ds2_meaning.specs.declared.readings.Reading.{Reading}
use Rattle.ds2_program_types.specs.UnitsAtHand.{columns_at_hand}
use Rattle.ds2_program_types.proofs.parts.program_reading.Goals as goal

pub returns : goal.returns
returns c = λ before m h.
    subst (λ (x : Reading). IfOk c.read_statement.result (λ r. r ≡ x)) (λ i. read_statement (columns_at_hand c.args.unit) (sym m i) (h.reads.rows i) (c.in_ok-source.ensures i)) c.read_statement.ensures
