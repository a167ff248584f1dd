-- The names that a part of a program retains.
use Rattle.std.specs.Prelude.{ℕ, codes, List, [], map, if◌then◌else◌}
use Rattle.ds2_names.specs.SourceUnit.{spelled_name}
use Rattle.ds2_token.specs.Words.{is_word}
use Rattle.ds2_tree.specs.Globals.{GlobalItem, Listed}

-- the names of a `retain`; other parts of a program retain none
abbrev pub retained_in : GlobalItem → List (List ℕ)
retained_in (Listed keyword names end) = if is_word (codes "retain") keyword then map spelled_name names else []
retained_in _ = []
