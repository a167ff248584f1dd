-- The names that `retain` lists, part by part.
use Rattle.std.proofs.Common.{◌≡◌, codes, List, ◌∷◌, ◌++◌, refl}
use Rattle.ds2_tree.specs.Globals.{GlobalItem, Declared, Listed, Defined}
use Rattle.ds2_names.specs.NameRules.{listed_in_statements}
use Rattle.ds2_unit_parts.specs.RetainedNames.{retained_in}

pub retained_item : (g : GlobalItem) (gs : List GlobalItem) → listed_in_statements (codes "retain") (g ∷ gs) ≡ retained_in g ++ listed_in_statements (codes "retain") gs
retained_item (Declared d) gs = refl
retained_item (Listed keyword names end) gs = refl
retained_item (Defined m) gs = refl
