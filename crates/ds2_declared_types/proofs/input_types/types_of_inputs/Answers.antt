use Rattle.std.proofs.Common.{◌+◌, ◌++◌, List, drop, sym, ap, ◌∙◌, arith}
use Rattle.std.specs.Prelude.{map}
use Rattle.std.proofs.lemmas.List.{append-nil, at_drop_all}
use Rattle.ds2_names.specs.SourceUnit.{columns_stored}
use Rattle.ds2_tree.specs.declared.readings.Input.{Input}
use Rattle.ds2_declared_types.specs.InputColumns.{column_at, column_found}
use Rattle.ds2_declared_types.specs.declared.input_types.InputTypes.{InputTypes}
use Rattle.ds2_declared_types.proofs.InputForms.{one_more_found}
use Rattle.ds2_declared_types.proofs.input_types.types_of_inputs.Goals as goal

pub inputs-init : goal.inputs-init
inputs-init c = λ name.
    ap (λ (l : List InputTypes). map (column_found name) l ++ map (column_at (columns_stored c.args.tables.now) name) c.args.inputs.now) c.new-found.ensures

pub inputs-preserved : goal.inputs-preserved
inputs-preserved c = λ name.
    let tables = columns_stored c.args.tables.now in
    let all = c.args.inputs.now in
    let k = c.inputs.input-index in
    ap (λ (l : List InputTypes). map (column_found name) l ++ map (column_at tables name) (drop (k + 1) all)) c.in_ok-push.ensures.ok
    ∙ one_more_found tables name c.inputs.found c.in_ok-own.own all k c.input-item.result (omega arith) c.input-item.is (c.in_ok-own.ensures name) ∙ c.inputs.invariant name

pub returns : goal.returns
returns c = λ name.
    let tables = columns_stored c.args.tables.now in
    sym
    (at_drop_all (λ (l : List Input). map (column_found name) c.inputs.found ++ map (column_at tables name) l) c.args.inputs.now c.inputs.input-index (omega arith)
    ∙ append-nil (map (column_found name) c.inputs.found))
    ∙ c.inputs.invariant name
