-- The methods of a program, as the code holds them while they are typed.
use Rattle.std.specs.Prelude.{◌≡◌, ℕ, codes, List, map, Option, Some}
use Rattle.std.specs.Option.{option_map}
use Rattle.ds2_elaboration.specs.UnitsBefore.{UnitsBefore}
use Rattle.ds2_base.specs.declared.place.Place.{Place}
use Rattle.ds2_tree.specs.Globals.{Method}
use Rattle.ds2_meaning.specs.View.{typed_method, system_tree}
use Rattle.ds2_meaning.specs.declared.methods.SystemMethod.{SystemMethod}
use Rattle.ds2_names.specs.SourceUnit.{TableColumns, UnitSource, source_methods}
use Rattle.ds2_names.specs.Uses.{method_named}
use Rattle.ds2_elaboration.specs.ExpressionTypes.{callable_methods}
use Rattle.ds2_elaboration.specs.ProgramTypes.{method_tree_of, body_of_method, scope_of_declarations}
use Rattle.ds2_elaboration.specs.SourceTypes.{unit_names}
use Rattle.ds2_instance_types.specs.TypedInstanceLists.{AreInstancesOf}
use Rattle.ds2_instance_types.specs.declared.instances.TypedInstances.{TypedInstances}
use Rattle.ds2_simple_statement_types.specs.declared.parts.Both.{Both}
use Rattle.ds2_program_types.specs.declared.methods.TypedMethods.{TypedMethods}

-- the place that a system method keeps, where there is one
abbrev pub kept_place : Option SystemMethod → Option Place
kept_place m = option_map (λ (s : SystemMethod). s.place) m

-- the place of the name of a method, where there is one
abbrev pub place_of_name : Option Method → Option Place
place_of_name m = option_map (λ (own : Method). own.name.place) m

-- a system method is this one, typed: it keeps the place of its name, and its statements are typed
abbrev pub IsSystemOf : TableColumns → UnitsBefore → UnitSource → Method → SystemMethod → Type 0
IsSystemOf tables before u own m = (m.place ≡ own.name.place) × (system_tree (Some m) ≡ body_of_method tables before u (Some own))

-- a system method of these methods, or none where there is none of this name
pub record IsSystem (tables : TableColumns) (before : UnitsBefore) (u : UnitSource) (methods : List Method) (name : List ℕ) (m : Option SystemMethod) : Type 0 where
  pub place : kept_place m ≡ place_of_name (method_named methods name)
  pub body : system_tree m ≡ body_of_method tables before u (method_named methods name)

-- these methods, typed
pub record AreMethodsOf (tables : TableColumns) (before : UnitsBefore) (u : UnitSource) (methods : List Method) (t : TypedMethods) : Type 0 where
  pub callable : map typed_method t.methods ≡ map (method_tree_of tables before u) (callable_methods methods)
  pub init : IsSystem tables before u methods (codes "init") t.init
  pub run : IsSystem tables before u methods (codes "run") t.run
  pub term : IsSystem tables before u methods (codes "term") t.term

-- the instances of a program, and its methods, typed
abbrev pub AreInstancesAndMethods : TableColumns → UnitsBefore → UnitSource → Both TypedInstances TypedMethods → Type 0
AreInstancesAndMethods tables before u both =
    AreInstancesOf tables before (scope_of_declarations tables before u) (unit_names tables before u).instances both.first
    × AreMethodsOf tables before u (source_methods u.globals) both.second
