-- The objects of a unit, as a table tells them.
use Rattle.std.specs.Prelude.{ℕ, Bool, nat_eq, bytes_eq, List, filter, map, Option}
use Rattle.std.specs.List.{find}
use Rattle.std.specs.Option.{option_map}
use Rattle.std.specs.Cmp.Lexicographic.{pointwise}
use Rattle.std.specs.HashMap.{HashMap, get}
use Rattle.ds2_names.specs.SourceUnit.{SourceInstance}
use Rattle.ds2_elaboration.specs.ExpressionTypes.{ObjectCalls, ObjectInScope}
use Rattle.ds2_elaboration.specs.ProgramTypes.{may_call_on, object_of_instance}
use Rattle.ds2_elaboration.specs.UnitsBefore.{UnitsBefore}
use Rattle.ds2_reference_types.specs.Scopes.{IsObjectAs}
use Rattle.ds2_reference_types.specs.declared.scopes.KnownObject.{KnownObject}

-- the first of these objects of a name
abbrev pub object_named : List ObjectInScope → List ℕ → Option ObjectCalls
object_named objects name = option_map (λ (o : ObjectInScope). o.calls) (find (λ (o : ObjectInScope). bytes_eq o.name name) objects)

-- a table tells of each name the first of these objects that has it
abbrev pub HasObjects : {S : Type 0} → HashMap (List ℕ) KnownObject S → List ObjectInScope → Type 0
HasObjects table objects = (name : List ℕ) → IsObjectAs name (get (pointwise nat_eq) table name) (object_named objects name)

-- those of these instances on which a method, `init` or another one, may call something
abbrev pub objects_called : UnitsBefore → Bool → List SourceInstance → List ObjectInScope
objects_called before in_init instances = map (object_of_instance before) (filter (λ (i : SourceInstance). may_call_on in_init i.sort) instances)
