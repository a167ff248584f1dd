use Rattle.std.proofs.Common.{length, map}
use Rattle.std.specs.List.{AllByRecursion}
use Rattle.ds2_tree.specs.UnitViews.{part_tree, source_tree}
use Rattle.ds2_names.specs.SourceUnit.{columns_stored}
use Rattle.ds2_elaboration.specs.TypedPrograms.{StandsInSource}
use Rattle.ds2_compile.specs.TypedSoFar.{BecomesWithRest, StandsBehindSome}
use Rattle.ds2_compile.proofs.programs.typed_source.Given as goal

abbrev pub invariant-parts : goal.invariant-parts
invariant-parts l = record {
  leads : BecomesWithRest (columns_stored l.schemas.tables) (source_tree l.source) l.so_far (map part_tree l.rest);
  stands : AllByRecursion StandsInSource (map part_tree l.rest);
  behind : StandsBehindSome l.so_far;
}

abbrev pub decreases-parts : goal.decreases-parts
decreases-parts l = length l.rest
