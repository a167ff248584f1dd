-- Parameters, one by one.
use Rattle.std.proofs.Common.{◌≡◌, ◌≤◌, false, List, [], ◌∷◌, length, get_or, Some, ap, refl, arith}
use Rattle.std.specs.Prelude.{is_none}
use Rattle.ds2_meaning.specs.declared.methods.Parameter.{Parameter}
use Rattle.ds2_reference_types.specs.Parameters.{front_of}

pub front_is : (ps : List Parameter) (p : Parameter) → 1 ≤ length ps → p ≡ get_or ps 0 p → Some p ≡ front_of ps
front_is [] p h e = absurd (omega arith)
front_is (q ∷ ps) p h e = ap (λ (x : Parameter). Some x) e

pub front_there : (ps : List Parameter) → 1 ≤ length ps → is_none (front_of ps) ≡ false
front_there [] h = absurd (omega arith)
front_there (p ∷ ps) h = refl
