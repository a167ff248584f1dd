use Rattle.std.proofs.Common.{◌≡◌, map, drop, Some}
use Rattle.ds2_meaning.specs.declared.globals.OutputColumn.{OutputColumn}
use Rattle.ds2_locality.specs.Deeds.{Mention, columns_at}
use Rattle.ds2_deeds.specs.NamedLocations.{code_home}
use Rattle.ds2_deeds.specs.NumberedDeeds.{numbers_of, with_deeds}
use Rattle.ds2_deeds.proofs.object_deeds.add_columns.Given as goal

abbrev pub invariant-columns : goal.invariant-columns
invariant-columns l =
    with_deeds (numbers_of l.numbers) (map Mention (columns_at (code_home l.home) (Some (map (λ (c : OutputColumn). c.source) (drop l.column-index l.columns))))) l.deeds
    ≡ with_deeds (numbers_of l.numbers) (map Mention (columns_at (code_home l.home) (Some (map (λ (c : OutputColumn). c.source) l.columns)))) l.fn.deeds
