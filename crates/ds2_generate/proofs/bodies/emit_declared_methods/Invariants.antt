use Rattle.std.proofs.Common.{◌≡◌, ◌++◌, List, length, map, drop}
use Rattle.ds2_meaning.specs.View.{typed_method}
use Rattle.ds2_program_code.specs.CodeMethods.{CodeMethod, methods_at}
use Rattle.ds2_numbering.specs.SoughtLocations.{home_of_name}
use Rattle.ds2_generate.specs.UnitBodies.{tree_of_unit, with_declared, with_method_parts}
use Rattle.ds2_generate.proofs.bodies.emit_declared_methods.Given as goal

abbrev pub invariant-methods : goal.invariant-methods
invariant-methods l = record {
  code : (rest : List CodeMethod)
      → with_declared (tree_of_unit l.unit) (methods_at (home_of_name l.home) (map typed_method (drop l.method-index l.methods)) ++ rest) l.code
      ≡ with_declared (tree_of_unit l.unit) (methods_at (home_of_name l.home) (map typed_method l.methods) ++ rest) l.fn.code;
  parts : (rest : List CodeMethod)
      → with_method_parts (tree_of_unit l.unit) (length l.code) (methods_at (home_of_name l.home) (map typed_method (drop l.method-index l.methods)) ++ rest) l.parts
      ≡ with_method_parts (tree_of_unit l.unit) (length l.fn.code) (methods_at (home_of_name l.home) (map typed_method l.methods) ++ rest) l.fn.parts;
}
