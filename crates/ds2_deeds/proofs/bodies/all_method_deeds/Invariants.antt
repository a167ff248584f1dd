use Rattle.std.proofs.Common.{◌≡◌, ◌++◌, map, drop}
use Rattle.ds2_locality.specs.Deeds.{MethodAt, method_deeds}
use Rattle.ds2_deeds.specs.CodeTrees.{nameless_tree}
use Rattle.ds2_deeds.specs.NamedMethods.{methods_named}
use Rattle.ds2_deeds.specs.NumberedDeeds.{numbers_of, numbered_deeds}
use Rattle.ds2_deeds.proofs.bodies.all_method_deeds.Given as goal

abbrev pub invariant-methods : goal.invariant-methods
invariant-methods l =
    l.all ++ map (λ (m : MethodAt). numbered_deeds (numbers_of l.numbers) (method_deeds (nameless_tree l.program) m)) (methods_named (drop l.method-index l.numbers.methods.now))
    ≡ map (λ (m : MethodAt). numbered_deeds (numbers_of l.numbers) (method_deeds (nameless_tree l.program) m)) (methods_named l.numbers.methods.now)
