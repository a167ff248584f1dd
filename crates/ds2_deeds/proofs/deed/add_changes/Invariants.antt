use Rattle.std.proofs.Common.{◌≡◌, map, drop}
use Rattle.ds2_locality.specs.Deeds.{Change, variables_at}
use Rattle.ds2_deeds.specs.NamedLocations.{code_home}
use Rattle.ds2_deeds.specs.NumberedDeeds.{numbers_of, with_deeds}
use Rattle.ds2_deeds.proofs.deed.add_changes.Given as goal

abbrev pub invariant-variables : goal.invariant-variables
invariant-variables l =
    with_deeds (numbers_of l.numbers) (map Change (variables_at (code_home l.home) (drop l.variable-index l.variables))) l.deeds
    ≡ with_deeds (numbers_of l.numbers) (map Change (variables_at (code_home l.home) l.variables)) l.fn.deeds
