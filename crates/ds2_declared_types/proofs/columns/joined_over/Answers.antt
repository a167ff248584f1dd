use Rattle.std.proofs.Common.{◌+◌, drop, refl, sym, ap, ◌∙◌, arith}
use Rattle.ds2_elaboration.specs.SourceTypes.{ColumnTyping, with_table}
use Rattle.ds2_declared_types.specs.Joins.{column_typing_of}
use Rattle.ds2_declared_types.proofs.ColumnForms.{joined_behind, one_table, no_table_left}
use Rattle.ds2_declared_types.proofs.columns.joined_over.Goals as goal

pub inputs-init : goal.inputs-init
inputs-init c = refl

pub inputs-preserved : goal.inputs-preserved
inputs-preserved c =
    let all = c.args.inputs.now in
    let k = c.inputs.input-index in
    ap (λ (t : ColumnTyping). joined_behind c.args.declared c.args.name.now t (drop (k + 1) all))
    (c.with_table-typing.ensures ∙ ap (with_table c.args.declared (column_typing_of c.inputs.typing)) c.type_of-own.ensures)
    ∙ one_table c.args.declared c.args.name.now all k c.input-item.result (column_typing_of c.inputs.typing) (omega arith) c.input-item.is ∙ c.inputs.invariant

pub returns : goal.returns
returns c = sym (no_table_left c.args.declared c.args.name.now c.args.inputs.now c.inputs.input-index (column_typing_of c.inputs.typing) (omega arith)) ∙ c.inputs.invariant
