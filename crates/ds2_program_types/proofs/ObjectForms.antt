-- The objects that a method may call something on: of `init` of a program, and of another method.
use Rattle.std.proofs.Common.{◌≡◌, ℕ, Bool, true, false, ◌&&◌, if◌then◌else◌, List, sym, subst}
use Rattle.std.specs.Prelude.{not}
use Rattle.std.specs.HashMap.{HashMap}
use Rattle.ds2_elaboration.specs.UnitsBefore.{UnitsBefore}
use Rattle.ds2_reference_types.specs.declared.scopes.KnownObject.{KnownObject}
use Rattle.ds2_names.specs.SourceUnit.{SourceInstance}
use Rattle.ds2_type_tables.specs.Objects.{HasObjects, objects_called}

-- the table that is chosen by whether the method is named `init`
pub objects_told : {S : Type 0} (before : UnitsBefore) (instances : List SourceInstance) (in_package named : Bool) (chosen plain init : HashMap (List ℕ) KnownObject S)
    → chosen ≡ (if named then init else plain) → HasObjects plain (objects_called before false instances) → HasObjects init (objects_called before (not in_package) instances)
    → HasObjects chosen (objects_called before (not in_package && named) instances)
objects_told {S} before instances in_package named chosen plain init e h k =
    subst (λ (t : HashMap (List ℕ) KnownObject S). HasObjects t (objects_called before (not in_package && named) instances)) (sym e) (by in_package named h k)
  where
    by : (p n : Bool) → HasObjects plain (objects_called before false instances) → HasObjects init (objects_called before (not p) instances)
        → HasObjects (if n then init else plain) (objects_called before (not p && n) instances)
    by true true h k = k
    by true false h k = h
    by false true h k = k
    by false false h k = h
