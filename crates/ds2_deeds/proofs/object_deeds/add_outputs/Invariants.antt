use Rattle.std.proofs.Common.{◌≡◌, map, drop}
use Rattle.ds2_locality.specs.Deeds.{Mention, columns_written}
use Rattle.ds2_deeds.specs.CodeTrees.{scope_of}
use Rattle.ds2_deeds.specs.NumberedDeeds.{numbers_of, with_deeds}
use Rattle.ds2_deeds.proofs.object_deeds.add_outputs.Given as goal

abbrev pub invariant-outputs : goal.invariant-outputs
invariant-outputs l =
    with_deeds (numbers_of l.numbers) (map Mention (columns_written (scope_of l.scope) (drop l.number-index l.outputs))) l.deeds
    ≡ with_deeds (numbers_of l.numbers) (map Mention (columns_written (scope_of l.scope) l.outputs)) l.fn.deeds
