use Rattle.std.proofs.Common.{◌≡◌, drop}
use Rattle.ds2_declared_types.specs.Joins.{column_typing_of}
use Rattle.ds2_declared_types.proofs.ColumnForms.{clashes_behind}
use Rattle.ds2_declared_types.proofs.columns.clashing_table.Given as goal

abbrev pub invariant-inputs : goal.invariant-inputs
invariant-inputs l =
    clashes_behind l.declared l.name (column_typing_of l.typing) (drop l.input-index l.inputs) ≡ clashes_behind l.declared l.name (column_typing_of l.fn.begun) l.inputs
