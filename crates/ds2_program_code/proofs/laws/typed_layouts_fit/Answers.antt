use Rattle.ds2_program_code.proofs.Layouts.{typed_layouts_fit}
use Rattle.ds2_program_code.proofs.laws.typed_layouts_fit.Goals as goal

pub returns : goal.returns
returns c = typed_layouts_fit c.each_value_has_type.ensures
