use Rattle.std.proofs.Common.{◌≡◌, Bool, if◌then◌else◌, bytes_eq, codes, ap, ◌∙◌, subst}
use Rattle.std.specs.Prelude.{IfOk}
use Rattle.ds2_elaboration.specs.ProgramTypes.{scope_of_method}
use Rattle.ds2_elaboration.specs.SourceTypes.{unit_names}
use Rattle.ds2_elaboration.specs.StatementTypes.{statements_refusals, statements_node}
use Rattle.ds2_meaning.specs.View.{typed_statements}
use Rattle.ds2_names.specs.SourceUnit.{is_package, spelled_name}
use Rattle.ds2_tree.specs.StatementViews.{statements_of}
use Rattle.ds2_tree.specs.UnitViews.{method_tree}
use Rattle.ds2_types.specs.Judgements.{IsOutcome}
use Rattle.ds2_type_tables.specs.Tables.{HasLocals}
use Rattle.ds2_type_tables.proofs.CallableLemmas.{scope_of_tables}
use Rattle.ds2_program_types.proofs.ObjectForms.{objects_told}
use Rattle.ds2_program_types.proofs.bodies.body.Goals as goal

pub returns : goal.returns
returns c = λ tables before u t.
    let m = method_tree c.args.m.now in
    let own = c.args.unit.now in
    let types = scope_of_method tables before u m in
    let locals = subst (HasLocals c.in_ok-locals.locals) (c.as_slice.ensures ∙ c.in_ok-variables.ensures) c.in_ok-locals.ensures in
    let chosen = c.objects_for.ensures ∙ ap (λ (b : Bool). if b then own.init_objects else own.objects) c.in_ok-in_init.ensures in
    let objects = objects_told before (unit_names tables before u).instances (is_package u.kind) (bytes_eq (spelled_name m.name) (codes "init")) c.objects_for.result.now own.objects own.init_objects chosen t.objects t.init_objects in
    subst (λ l. IfOk c.method_body.result (IsOutcome (λ b. typed_statements b ≡ statements_node types (statements_of l)) (statements_refusals types (statements_of l)))) c.as_slice-2.ensures
    (c.method_body.ensures types (record {
      names = scope_of_tables types _ locals t.globals t.bys t.methods objects;
      outputs = t.outputs;
      count = t.count;
      returns = c.in_ok-returns.ensures;
    }))
