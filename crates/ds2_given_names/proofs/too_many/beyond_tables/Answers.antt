use Rattle.std.proofs.Common.{ap, ◌∙◌}
use Rattle.std.specs.Prelude.{map}
use Rattle.ds2_names.specs.SourceUnit.{tables_of_reading}
use Rattle.ds2_names.specs.UnitRules.{beyond}
use Rattle.ds2_scope.specs.Earliest.{earliest}
use Rattle.ds2_given_names.specs.TooMany.{input_place}
use Rattle.ds2_given_names.proofs.too_many.beyond_tables.Goals as goal

pub returns : goal.returns
returns c = c.in_ok-place.ensures ∙ ap (λ is. earliest (beyond 16 (map input_place is))) (c.tables_of.ensures ∙ ap tables_of_reading c.in_ok-reading.ensures)
