-- The tables of a unit, from those of its parts.
use Rattle.std.proofs.Common.{◌≡◌, ℕ, List, Result, subst}
use Rattle.std.specs.Prelude.{IfOk}
use Rattle.std.specs.HashMap.{HashMap}
use Rattle.ds2_base.specs.declared.stop.OutOfMemory.{OutOfMemory}
use Rattle.ds2_meaning.specs.declared.globals.Variable.{Variable}
use Rattle.ds2_names.specs.SourceUnit.{PlacedName}
use Rattle.ds2_reference_types.specs.declared.scopes.KnownName.{KnownName}
use Rattle.ds2_type_tables.specs.Globals.{HasGlobals}

-- the table of the variables of a unit
pub globals_told : {S : Type 0} (u v : List PlacedName) (x y p q : List Variable) (f g : List (List ℕ)) (result : Result (HashMap (List ℕ) KnownName S) OutOfMemory) → u ≡ v → x ≡ y → p ≡ q → f ≡ g
    → IfOk result (λ n. HasGlobals n u x p f) → IfOk result (λ n. HasGlobals n v y q g)
globals_told {S} u v x y p q f g result a b c d h =
    subst (λ (l : List (List ℕ)). IfOk result (λ (n : HashMap (List ℕ) KnownName S). HasGlobals n v y q l)) d
    (subst (λ (l : List Variable). IfOk result (λ (n : HashMap (List ℕ) KnownName S). HasGlobals n v y l f)) c
    (subst (λ (l : List Variable). IfOk result (λ (n : HashMap (List ℕ) KnownName S). HasGlobals n v l p f)) b
    (subst (λ (l : List PlacedName). IfOk result (λ (n : HashMap (List ℕ) KnownName S). HasGlobals n l x p f)) a h)))
