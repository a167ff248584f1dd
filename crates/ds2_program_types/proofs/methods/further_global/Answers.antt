use Rattle.std.proofs.Common.{Ok, ap}
use Rattle.ds2_tree.specs.Globals.{Declared, Listed, Defined}
use Rattle.ds2_tree.specs.UnitViews.{global_tree, method_tree}
use Rattle.ds2_program_types.proofs.MethodLists.{nothing_typed, told_part}
use Rattle.ds2_program_types.specs.TypedMethodLists.{AreMethodsOf}
use Rattle.ds2_program_types.proofs.methods.further_global.Goals as goal

pub returns-in-Method : goal.returns-in-Method
returns-in-Method c = λ tables before u methods xs t h.
    told_part (AreMethodsOf tables before u) global_tree tables before u (global_tree c.args.global.now) (Defined (method_tree c.in-Method.m)) methods xs c.further_method.result (ap global_tree c.in-Method.is)
    (c.further_method.ensures tables before u methods xs t h)

pub returns-in-Listed : goal.returns-in-Listed
returns-in-Listed c = λ tables before u methods xs t h.
    told_part (AreMethodsOf tables before u) global_tree tables before u (global_tree c.args.global.now) (Listed _ _ _) methods xs (Ok c.args.so_far) (ap global_tree c.in-Listed.is)
    (nothing_typed (AreMethodsOf tables before u) global_tree tables before u methods xs c.args.so_far h)

pub returns-in-Declaration : goal.returns-in-Declaration
returns-in-Declaration c = λ tables before u methods xs t h.
    told_part (AreMethodsOf tables before u) global_tree tables before u (global_tree c.args.global.now) (Declared _) methods xs (Ok c.args.so_far) (ap global_tree c.in-Declaration.is)
    (nothing_typed (AreMethodsOf tables before u) global_tree tables before u methods xs c.args.so_far h)
