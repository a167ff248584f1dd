-- The constants of methods, home by home.
use Rattle.std.specs.Prelude.{List, flat_map}
use Rattle.ds2_meaning.specs.Method.{MethodTree}
use Rattle.ds2_meaning.specs.ProgramTree.{InstanceTree}
use Rattle.ds2_program_code.specs.UsedConstants.{UsedConstant, constants_of_body}

-- those of methods in order
abbrev pub constants_of_methods : List MethodTree → List UsedConstant
constants_of_methods methods = flat_map (λ (m : MethodTree). constants_of_body m.body) methods

-- those of the methods of an instance
abbrev pub constants_of_instance : InstanceTree → List UsedConstant
constants_of_instance i = constants_of_methods i.methods
