use Rattle.std.proofs.Common.{◌≡◌, ◌+◌, List, drop, subst, arith}
use Rattle.std.proofs.lemmas.Grind.{common_steps}
use Rattle.ds2_tree.specs.declared.readings.Input as source_input
use Rattle.ds2_names.specs.SourceUnit.{spelled_name, columns_stored}
use Rattle.ds2_value.specs.Row.{Columns}
use Rattle.ds2_scope.specs.NameSets.{AddsColumns}
use Rattle.std.proofs.Math.ListN.{drop_of_length-le}
use Rattle.ds2_scope.proofs.SetLemmas.{item_first, LeadsToInputs, inputs_begin, inputs_go_on, inputs_end}
use Rattle.ds2_scope.proofs.columns.push_inputs.Goals as goal

pub inputs-init : goal.inputs-init
inputs-init c = λ k h. inputs_begin (columns_stored c.args.tables.now) k c.args.inputs.now c.args.names.now c.args.known.now h

pub inputs-preserved : goal.inputs-preserved
inputs-preserved c = λ k h.
    let inputs = c.args.inputs.now in
    let i = c.inputs.input-index in
    let lead = subst (λ (is : List source_input.Input). LeadsToInputs (columns_stored c.args.tables.now) k inputs c.args.names.now is c.inputs.names c.inputs.known)
    (item_first inputs i c.input-item.result c.input-item.is c.inputs-test.true) (c.inputs.invariant k h) in
    let stored : c.columns_of-columns.result.now ≡ columns_stored c.args.tables.now (spelled_name c.input-item.result.table) = grind (arith, common_steps) in
    inputs_go_on (columns_stored c.args.tables.now) k inputs c.args.names.now c.input-item.result (drop (i + 1) inputs) c.inputs.names c.push_columns.new.names c.inputs.known c.push_columns.new.known
    lead
    (λ b g. subst (λ (cs : Columns). AddsColumns b c.input-item.result.table.place cs c.inputs.names c.push_columns.new.names c.push_columns.new.known) stored (c.in_ok-push_columns.ensures b g))

pub returns : goal.returns
returns c = λ k h.
    let inputs = c.args.inputs.now in
    let tables = columns_stored c.args.tables.now in
    let lead = subst (λ (is : List source_input.Input). LeadsToInputs tables k inputs c.args.names.now is c.inputs.names c.inputs.known) (drop_of_length-le inputs c.inputs-test.false) (c.inputs.invariant k h) in
    inputs_end tables k inputs c.args.names.now c.inputs.names c.inputs.known lead
