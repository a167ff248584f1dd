use Rattle.std.proofs.Common.{◌++◌, ◌∙◌}
use Rattle.ds2_program_types.specs.UnitsAtHand.{source_at_hand}
use Rattle.ds2_program_types.proofs.unit_tables.vector_variables.Goals as goal

pub returns : goal.returns
returns c = λ before h. c.in_ok-append_list.ensures.ok ∙ (λ i. c.in_ok-variables.ensures i ++ c.in_ok-more.ensures before (source_at_hand c.args.unit) h.reads h.columns i)
