-- Torn writes: of a chosen call the first bytes are left.
use Rattle.std.specs.Prelude.{ℕ, ◌==◌, List, [], ◌∷◌, Option, Some, None, if◌then◌else◌}
use Rattle.ds2_outside.specs.declared.tear.Tear.{Tear}

-- how many bytes the first tear of this call keeps, where it has one
unfoldable pub kept_at : ℕ → List Tear → Option ℕ
kept_at call [] = None
kept_at call (tear ∷ tears) = if tear.call == call then Some tear.keep else kept_at call tears
