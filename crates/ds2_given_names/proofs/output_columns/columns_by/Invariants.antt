use Rattle.std.proofs.Common.{◌≡◌, ◌++◌, drop}
use Rattle.ds2_given_names.specs.OutputParts.{columns_by}
use Rattle.ds2_given_names.proofs.output_columns.columns_by.Given as goal

abbrev pub invariant-variables : goal.invariant-variables
invariant-variables l = l.columns ++ columns_by l.statements l.options l.news (drop l.n-index l.variables) ≡ columns_by l.statements l.options l.news l.variables
