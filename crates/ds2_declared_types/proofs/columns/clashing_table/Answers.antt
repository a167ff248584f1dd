use Rattle.std.proofs.Common.{◌+◌, drop, refl, sym, ap, ◌∙◌, arith}
use Rattle.ds2_elaboration.specs.SourceTypes.{with_table}
use Rattle.ds2_declared_types.specs.Joins.{column_typing_of}
use Rattle.ds2_declared_types.proofs.ColumnForms.{no_clash, clash_at, no_clash_left}
use Rattle.ds2_declared_types.proofs.columns.clashing_table.Goals as goal

pub inputs-init : goal.inputs-init
inputs-init c = refl

pub inputs-preserved : goal.inputs-preserved
inputs-preserved c =
    let t = c.input-item.result in
    no_clash c.args.declared c.args.name.now c.args.inputs.now c.inputs.input-index t (column_typing_of c.inputs.typing) (column_typing_of c.with_table-behind.result)
    c.clashes_here-clashes.result (omega arith) c.input-item.is
    (c.with_table-behind.ensures ∙ ap (with_table c.args.declared (column_typing_of c.inputs.typing)) c.type_of-own.ensures) (c.clashes_here-clashes.ensures t.place) c.if-clashes.false
    ∙ c.inputs.invariant

pub returns-then-clashes : goal.returns-then-clashes
returns-then-clashes c =
    let t = c.input-item.result in
    sym
    (clash_at c.args.declared c.args.name.now c.args.inputs.now c.inputs.input-index t (column_typing_of c.inputs.typing) (column_typing_of c.with_table-behind.result)
    c.clashes_here-clashes.result (omega arith) c.input-item.is
    (c.with_table-behind.ensures ∙ ap (with_table c.args.declared (column_typing_of c.inputs.typing)) c.type_of-own.ensures) (c.clashes_here-clashes.ensures t.place) c.if-clashes.true)
    ∙ c.inputs.invariant

pub returns : goal.returns
returns c = sym (no_clash_left c.args.declared c.args.name.now c.args.inputs.now c.inputs.input-index (column_typing_of c.inputs.typing) (omega arith)) ∙ c.inputs.invariant
