use Rattle.std.proofs.Common.{◌+◌, drop, arith}
use Rattle.std.proofs.lemmas.Grind.{common_steps}
use Rattle.ds2_scope.specs.CodeUnits.{names_bracketed}
use Rattle.ds2_scope.proofs.CollectedLemmas.{one_more_item}
use Rattle.ds2_misplaced.specs.InstanceTables.{tests_in_tables}
use Rattle.ds2_misplaced.specs.InstanceTests.{place_unless_named}
use Rattle.ds2_misplaced.proofs.tables.InstanceScope.unknown_variable.Goals as goal

pub names-preserved : goal.names-preserved
names-preserved c =
    let k = one_more_item (place_unless_named (tests_in_tables c.args.self.now).is_global) c.names.found c.n-item.result.name (names_bracketed (drop (c.names.n-index + 1) c.args.names.now)) in
    grind (arith, common_steps, k, c.names.invariant)
