-- The code of a typed program, without that of the thread program that it reads from.
use Rattle.std.specs.Prelude.{ℕ, ◌+◌, List, [], ◌∷◌, ◌++◌, length, map, flat_map, None}
use Rattle.ds2_meaning.specs.declared.globals.Variable.{Variable}
use Rattle.ds2_meaning.specs.declared.location.Global.TheVariants.{Parameter}
use Rattle.ds2_meaning.specs.Location.{Home}
use Rattle.ds2_meaning.specs.Method.{MethodTree}
use Rattle.ds2_meaning.specs.ProgramTree.{BodyTree, UnitTree, objects_of, output_sources}
use Rattle.ds2_code.specs.declared.parts.MethodPart.{MethodPart}
use Rattle.ds2_code.specs.declared.parts.ProgramParts.{ProgramParts}
use Rattle.ds2_gen.specs.BodyCode.{CodeBody, OfSystem, OfMethod, code_of_body, bodies_code}
use Rattle.ds2_gen.specs.CodeCells.{Placement}
use Rattle.ds2_gen.specs.ExpressionCode.{CodeNumbers}
use Rattle.ds2_gen.specs.MethodCode.{parameter_part, method_code}
use Rattle.ds2_gen.specs.UnitCode.{implicit_outputs}
use Rattle.ds2_program_code.specs.KeptTypes.{all_types_kept}
use Rattle.ds2_program_code.specs.PlacedProgram.{layout_size, first_of_run, first_of_term, system_placement, method_placement}
use Rattle.ds2_program_code.specs.UsedConstants.{UsedConstant, constants_of_body}
use Rattle.ds2_program_code.specs.CodeConstants.{each_constant_once, constant_number, constant_part}
use Rattle.ds2_program_code.specs.CodeMethods.{CodeMethod, code_methods, callee_of}
use Rattle.ds2_program_code.specs.CodeParts.{slot_of_global, code_slots, hash_parts, iterator_parts, reading_part, output_part}

-- ---- numbers

-- the constants that the code of a program pushes, in the order of its bodies: `init`, `run`, `term` and the declared methods
abbrev pub constants_of_program : UnitTree → List UsedConstant
constants_of_program p =
    constants_of_body p.init.statements
    ++ (constants_of_body p.run.statements ++ (constants_of_body p.term.statements ++ flat_map (λ (m : CodeMethod). constants_of_body m.method.body) (code_methods p)))

-- the constants of its code
abbrev pub code_constants : UnitTree → List UsedConstant
code_constants p = each_constant_once (constants_of_program p)

-- what the code of a body of a home finds fixed, with these outputs and this placement
abbrev pub body_numbers : UnitTree → Home → List (List (List ℕ)) → Placement → CodeNumbers
body_numbers p home outputs placement = record {
  home = home;
  objects = objects_of p home;
  outputs = outputs;
  placement = placement;
  constant = constant_number (code_constants p);
  callee = callee_of p;
}

-- what that of a system method finds fixed whose own slots begin at a number
abbrev pub system_numbers : UnitTree → ℕ → BodyTree → CodeNumbers
system_numbers p first body = body_numbers p None (output_sources p) (system_placement p first body)

-- what that of `init` finds fixed, whose own slots stand behind the layout's
abbrev pub init_numbers : UnitTree → CodeNumbers
init_numbers p = system_numbers p (layout_size p) p.init

-- what that of `run` finds fixed, whose own slots stand behind those of `init`
abbrev pub run_numbers : UnitTree → CodeNumbers
run_numbers p = system_numbers p (first_of_run p) p.run

-- what that of `term` finds fixed, whose own slots stand behind those of `run`
abbrev pub term_numbers : UnitTree → CodeNumbers
term_numbers p = system_numbers p (first_of_term p) p.term

-- what that of a declared method finds fixed
abbrev pub method_numbers : UnitTree → CodeMethod → CodeNumbers
method_numbers p m = body_numbers p m.home [] (method_placement p m.method)

-- ---- instructions

-- the body of `init`
abbrev pub init_body : UnitTree → CodeBody
init_body p = OfSystem (init_numbers p) p.init []

-- the body of `run`, which writes to the outputs at its end where no statement of the program does
abbrev pub run_body : UnitTree → CodeBody
run_body p = OfSystem (run_numbers p) p.run (implicit_outputs p)

-- the body of `term`
abbrev pub term_body : UnitTree → CodeBody
term_body p = OfSystem (term_numbers p) p.term []

-- the body of a declared method
abbrev pub method_body : UnitTree → CodeMethod → CodeBody
method_body p m = OfMethod (method_numbers p m) m.method

-- the bodies of a program in the order of their code
abbrev pub code_bodies : UnitTree → List CodeBody
code_bodies p = init_body p ∷ run_body p ∷ term_body p ∷ map (method_body p) (code_methods p)

-- ---- entries

-- where the code of `run` begins, behind that of `init`
abbrev pub run_entry : UnitTree → ℕ
run_entry p = length (code_of_body 0 (init_body p))

-- where that of `term` begins
abbrev pub term_entry : UnitTree → ℕ
term_entry p = run_entry p + length (code_of_body (run_entry p) (run_body p))

-- where that of the first declared method begins
abbrev pub methods_entry : UnitTree → ℕ
methods_entry p = term_entry p + length (code_of_body (term_entry p) (term_body p))

-- a declared method in code: its parameters, and its locals with the values that its code keeps behind them
abbrev pub method_part : ℕ → MethodTree → MethodPart
method_part entry method = record {
  entry = entry;
  parameters = map parameter_part method.parameters;
  locals = map (λ (v : Variable). v.ty) method.locals ++ all_types_kept method.body;
  returns = method.returns;
}

-- declared methods in code, the first of which begins at a number
abbrev pub method_parts : UnitTree → ℕ → List CodeMethod → List MethodPart
method_parts p at [] = []
method_parts p at (m ∷ methods) = method_part at m.method ∷ method_parts p (at + length (method_code (method_numbers p m) at m.method)) methods

-- ---- programs

-- the code of a program
abbrev pub program_code : UnitTree → ProgramParts
program_code p = record {
  name = p.thread;
  slots = code_slots p;
  constants = map constant_part (code_constants p);
  hashes = hash_parts p;
  iterators = iterator_parts p;
  parameters = map (λ (v : Variable). slot_of_global p None (Parameter v.name)) p.parameters;
  methods = method_parts p (methods_entry p) (code_methods p);
  reading = reading_part p p.reading;
  outputs = map (output_part p) p.outputs;
  init = 0;
  run = run_entry p;
  term = term_entry p;
  instrs = bodies_code 0 (code_bodies p);
}
