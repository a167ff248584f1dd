use Rattle.std.proofs.Common.{◌≡◌, drop}
use Rattle.ds2_declared_types.specs.Joins.{column_typing_of}
use Rattle.ds2_declared_types.proofs.ColumnForms.{joined_behind}
use Rattle.ds2_declared_types.proofs.columns.joined_over.Given as goal

abbrev pub invariant-inputs : goal.invariant-inputs
invariant-inputs l =
    joined_behind l.declared l.name (column_typing_of l.typing) (drop l.input-index l.inputs) ≡ joined_behind l.declared l.name (column_typing_of l.fn.begun) l.inputs
