use Rattle.std.proofs.Common.{Ok, ap}
use Rattle.ds2_tree.specs.Globals.{Declared, Listed, Defined}
use Rattle.ds2_tree.specs.UnitViews.{global_tree, method_tree}
use Rattle.ds2_elaboration.specs.ProgramTypes.{method_refusals}
use Rattle.ds2_program_types.specs.PackageMethods.{AreTyped}
use Rattle.ds2_program_types.proofs.MethodForms.{method_behind}
use Rattle.ds2_program_types.proofs.MethodLists.{nothing_typed, told_part}
use Rattle.ds2_program_types.proofs.package_methods.further_global.Goals as goal

pub returns-in_ok-method-in-Method : goal.returns-in_ok-method-in-Method
returns-in_ok-method-in-Method c = λ tables before u methods xs t h.
    let m = method_tree c.in-Method.m in
    told_part (AreTyped tables before u) global_tree tables before u (global_tree c.args.global.now) (Defined m) methods xs c.with_one.result (ap global_tree c.in-Method.is)
    (method_behind tables before u m methods xs (method_refusals tables before u m) c.args.so_far c.in_ok-method-in-Method.method c.with_one.result h (c.in_ok-method-in-Method.ensures tables before u t) c.with_one.ensures)

pub returns-in-Listed : goal.returns-in-Listed
returns-in-Listed c = λ tables before u methods xs t h.
    told_part (AreTyped tables before u) global_tree tables before u (global_tree c.args.global.now) (Listed _ _ _) methods xs (Ok c.args.so_far) (ap global_tree c.in-Listed.is)
    (nothing_typed (AreTyped tables before u) global_tree tables before u methods xs c.args.so_far h)

pub returns-in-Declaration : goal.returns-in-Declaration
returns-in-Declaration c = λ tables before u methods xs t h.
    told_part (AreTyped tables before u) global_tree tables before u (global_tree c.args.global.now) (Declared _) methods xs (Ok c.args.so_far) (ap global_tree c.in-Declaration.is)
    (nothing_typed (AreTyped tables before u) global_tree tables before u methods xs c.args.so_far h)
