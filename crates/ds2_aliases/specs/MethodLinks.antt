-- Tables from a name to the methods that mention it, that call it, or that use the instance of it.
use Rattle.std.specs.Prelude.{◌≡◌, ℕ, nat_eq, List, [], unwrap_or, Option, Some, None}
use Rattle.std.specs.Cmp.Lexicographic.{pointwise}
use Rattle.std.specs.HashMap.{HashMap, get}
use Rattle.ds2_meaning.specs.ProgramTree.{is_listed}
use Rattle.ds2_aliases.specs.declared.links.LinkKind.{LinkKind}
use Rattle.ds2_aliases.specs.declared.links.LinkKind.TheVariants as kind
use Rattle.ds2_aliases.specs.declared.parts.MethodParts.{MethodParts}
use Rattle.ds2_aliases.specs.ReachingMethods.{part_named, globals_mentioned, names_called, objects_used}

-- the methods that a table links to a name
abbrev pub linked : {S : Type 0} → HashMap (List ℕ) (List (List ℕ)) S → List ℕ → List (List ℕ)
linked table name = unwrap_or (get (pointwise nat_eq) table name) []

-- the names that a method is linked to
abbrev pub links_of_method : LinkKind → MethodParts → List (List ℕ)
links_of_method kind.Mentions m = globals_mentioned m
links_of_method kind.Calls m = names_called m
links_of_method kind.Uses m = objects_used m

-- the names that a method is linked to; none where there is no method
abbrev pub links_if_any : LinkKind → Option MethodParts → List (List ℕ)
links_if_any k None = []
links_if_any k (Some m) = links_of_method k m

-- a table links to each name the methods that are linked to it, of which the first of each name counts
abbrev pub HasLinks : {S : Type 0} → HashMap (List ℕ) (List (List ℕ)) S → LinkKind → List MethodParts → Type 0
HasLinks table k methods = (name method : List ℕ) → is_listed (linked table name) method ≡ is_listed (links_if_any k (part_named methods method)) name
