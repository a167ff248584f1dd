-- The methods of a package, as the code holds them while they are typed.
use Rattle.std.specs.Prelude.{◌≡◌, List, map}
use Rattle.ds2_elaboration.specs.ProgramTypes.{method_tree_of, scope_of_declarations}
use Rattle.ds2_elaboration.specs.SourceTypes.{unit_names}
use Rattle.ds2_elaboration.specs.UnitsBefore.{UnitsBefore}
use Rattle.ds2_meaning.specs.View.{typed_method}
use Rattle.ds2_meaning.specs.declared.methods.Method as typed
use Rattle.ds2_names.specs.SourceUnit.{TableColumns, UnitSource, source_methods}
use Rattle.ds2_tree.specs.Globals.{Method}
use Rattle.ds2_instance_types.specs.TypedInstanceLists.{AreInstancesOf}
use Rattle.ds2_instance_types.specs.declared.instances.TypedInstances.{TypedInstances}
use Rattle.ds2_simple_statement_types.specs.declared.parts.Both.{Both}

-- these methods, typed, all of which can be called
abbrev pub AreTyped : TableColumns → UnitsBefore → UnitSource → List Method → List typed.Method → Type 0
AreTyped tables before u methods ms = map typed_method ms ≡ map (method_tree_of tables before u) methods

-- the instances of a package, and all its methods, typed
abbrev pub AreInstancesAndCalled : TableColumns → UnitsBefore → UnitSource → Both TypedInstances (List typed.Method) → Type 0
AreInstancesAndCalled tables before u both =
    AreInstancesOf tables before (scope_of_declarations tables before u) (unit_names tables before u).instances both.first
    × AreTyped tables before u (source_methods u.globals) both.second
