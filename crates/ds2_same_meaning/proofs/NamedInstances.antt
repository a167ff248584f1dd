-- Instances of thread programs have names, which are not empty.
use Rattle.std.proofs.Common.{◌≡◌, ℕ, false, List, [], ◌∷◌, bytes_eq, Some, None, refl, ap, ◌∙◌, if◌then◌else◌}
use Rattle.ds2_base.specs.Name.{IsOwnName}
use Rattle.ds2_meaning.specs.declared.hashes.ThreadInstance.{ThreadInstance}
use Rattle.ds2_meaning.specs.IsTyped.{thread_parameters}

not_empty : (name : List ℕ) → IsOwnName name → bytes_eq name [] ≡ false
not_empty [] own = absurd (cc own)
not_empty (c ∷ name) own = refl

pub named_first : (t : ThreadInstance) (instances : List ThreadInstance) → IsOwnName t.name → thread_parameters instances [] ≡ None → thread_parameters (t ∷ instances) [] ≡ None
named_first t instances own rest = ap (λ b. if b then Some t.parameters else thread_parameters instances []) (not_empty t.name own) ∙ rest
