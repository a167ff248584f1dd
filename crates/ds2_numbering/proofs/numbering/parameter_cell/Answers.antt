use Rattle.std.proofs.Common.{option_map, sym, ap, ◌∙◌}
use Rattle.ds2_gen.specs.CodeCells.{ParameterCell}
use Rattle.ds2_numbering.proofs.numbering.parameter_cell.Goals as goal

pub returns-in-None : goal.returns-in-None
returns-in-None c = ap (λ m. option_map ParameterCell m) (sym c.in-None.is ∙ c.in_ok-find_parameter.ensures)

pub returns-in-Some : goal.returns-in-Some
returns-in-Some c = ap (λ m. option_map ParameterCell m) (sym c.in-Some.is ∙ c.in_ok-find_parameter.ensures)
