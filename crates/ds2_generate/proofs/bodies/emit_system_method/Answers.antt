use Rattle.std.proofs.Common.{List, sym, ap, ◌∙◌}
use Rattle.ds2_meaning.specs.declared.globals.Variable.{Variable}
use Rattle.ds2_meaning.specs.declared.statements.Statement.{Statement}
use Rattle.ds2_meaning.specs.View.{init_tree, system_tree}
use Rattle.ds2_numbering.specs.FrameNumbers.{body_in}
use Rattle.ds2_generate.specs.UnitBodies.{tree_of_unit}
use Rattle.ds2_generate.proofs.UnitLemmas.{system_emitted}
use Rattle.ds2_generate.proofs.bodies.emit_system_method.Goals as goal

pub returns-in-None : goal.returns-in-None
returns-in-None c =
    system_emitted (tree_of_unit c.args.unit.now) c.args.first c.args.written.now c.args.code.now _ c.emit_body.result _ _
    (sym (ap (λ m. init_tree c.args.instances.now (system_tree m)) c.in-None.is)) c.emit_body.ensures

pub returns-in-Some : goal.returns-in-Some
returns-in-Some c =
    let instances = c.args.instances.now in
    let m = c.in-Some.method in
    system_emitted (tree_of_unit c.args.unit.now) c.args.first c.args.written.now c.args.code.now _ c.emit_body-in-Some.result _ _
    (ap (λ (l : List Variable). body_in l instances c.as_slice-body.result.now) c.as_slice-locals.ensures
    ∙ ap (λ (l : List Statement). body_in m.locals instances l) c.as_slice-body.ensures
    ∙ sym (ap (λ o. init_tree instances (system_tree o)) c.in-Some.is))
    c.emit_body-in-Some.ensures
