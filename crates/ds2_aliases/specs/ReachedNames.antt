-- The links of the methods of a unit, and the names whose methods were looked for.
use Rattle.std.specs.Prelude.{◌≡◌, ℕ, nat_eq, length, List, Option, Some, None}
use Rattle.std.specs.Cmp.Lexicographic.{pointwise}
use Rattle.std.specs.HashMap.{HashMap, get}
use Rattle.std.specs.HashSet.{HashSet, contains}
use Rattle.ds2_aliases.specs.declared.links.LinkKind.TheVariants as kind
use Rattle.ds2_aliases.specs.declared.parts.UnitParts.{UnitParts}
use Rattle.ds2_aliases.specs.declared.reach.Links.{Links}
use Rattle.ds2_aliases.specs.MethodLinks.{HasLinks}
use Rattle.ds2_aliases.specs.ReachingMethods.{reaches}

-- links tell for each name which methods mention it, which call it and which use the instance of it, which instances have a variable of
-- it, and how many methods there are
pub record AreLinks (links : Links) (unit : UnitParts) : Type 0 where
  pub mentioners : HasLinks links.mentioners kind.Mentions unit.methods
  pub callers : HasLinks links.callers kind.Calls unit.methods
  pub users : HasLinks links.users kind.Uses unit.methods
  pub holders : HasLinks links.holders kind.Mentions unit.objects
  pub depth : links.depth ≡ length unit.methods

-- a set, where there is one, has the methods that reach a name
abbrev pub HasReaching : {S : Type 0} → UnitParts → List ℕ → Option (HashSet (List ℕ) S) → Type 0
HasReaching unit name None = Unit {0}
HasReaching unit name (Some set) = (method : List ℕ) → contains (pointwise nat_eq) set method ≡ reaches unit name (length unit.methods) method

-- a table has for names the methods that reach each
abbrev pub HasReached : {S T : Type 0} → HashMap (List ℕ) (HashSet (List ℕ) T) S → UnitParts → Type 0
HasReached table unit = (name : List ℕ) → HasReaching unit name (get (pointwise nat_eq) table name)
