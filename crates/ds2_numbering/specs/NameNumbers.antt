-- The numbers of names in a hashed table.
use Rattle.std.specs.Prelude.{◌≡◌, ℕ, bytes_eq, List, Option}
use Rattle.std.specs.Borrow.{Bor}
use Rattle.std.specs.HashMap.{HashMap, get_by}
use Rattle.ds2_program_code.specs.PlacedProgram.{number_of_name}

-- the number that a name has
abbrev pub number_under : {S : Type 0} → HashMap (Bor (List ℕ)) ℕ S → List ℕ → Option ℕ
number_under numbers name = get_by (λ k. bytes_eq name k.now) numbers

-- each name has the number of the first of these that it is
abbrev pub AreNamed : {S : Type 0} → List (List ℕ) → HashMap (Bor (List ℕ)) ℕ S → Type 0
AreNamed names numbers = (name : List ℕ) → number_under numbers name ≡ number_of_name names name
