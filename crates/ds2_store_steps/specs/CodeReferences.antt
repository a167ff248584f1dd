-- What is known of table names behind references.
use Rattle.std.specs.Prelude.{◌≡◌, ℕ, ◌==◌, Bool, true, false, List, [], ◌∷◌}
use Rattle.ds2_code.specs.declared.parts.TableReference.{TableReference}
use Rattle.ds2_answer.specs.ObjectPlans.{known_too}

-- the names that are known behind references
abbrev pub known_behind_references : (known : List ℕ → Bool) → List TableReference → (List ℕ → Bool)
known_behind_references known [] = known
known_behind_references known (r ∷ references) = known_behind_references (known_too r known) references

-- a reference to a table that a program makes is to one of these names
abbrev pub IsKeptName : (kept : List ℕ → Bool) → TableReference → Type 0
IsKeptName kept r = (r.maker == 0) ≡ false → kept r.name ≡ true
