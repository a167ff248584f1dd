-- Which methods of a unit reach a name.
use Rattle.std.specs.Prelude.{ℕ, zero, suc, Bool, false, ◌||◌, bytes_eq, if◌then◌else◌, List, [], ◌∷◌, Option, Some, None}
use Rattle.std.specs.List.{find, list_any}
use Rattle.ds2_meaning.specs.ProgramTree.{is_listed}
use Rattle.ds2_names.specs.NameRules.{from_each}
use Rattle.ds2_names.specs.SourceUnit.{is_named}
use Rattle.ds2_aliases.specs.declared.mentions.Mention.{Mention}
use Rattle.ds2_aliases.specs.declared.mentions.Mention.TheVariants as mention
use Rattle.ds2_aliases.specs.declared.parts.MethodParts.{MethodParts}
use Rattle.ds2_aliases.specs.declared.parts.UnitParts.{UnitParts}

-- the first method of a name
abbrev pub part_named : List MethodParts → List ℕ → Option MethodParts
part_named methods name = find (λ (m : MethodParts). bytes_eq m.name name) methods

-- the name in a mention, where nothing hides it
abbrev pub unhidden_name : (List ℕ → Bool) → Mention → List (List ℕ)
unhidden_name hidden (mention.Name n) = if hidden n then [] else n ∷ []
unhidden_name hidden (mention.Call n handed) = []
unhidden_name hidden (mention.Object n handed) = []

-- what a mention calls
abbrev pub called_in : Mention → List (List ℕ)
called_in (mention.Name n) = []
called_in (mention.Call n handed) = n ∷ []
called_in (mention.Object n handed) = []

-- the instance in a mention, where nothing hides it
abbrev pub unhidden_object : (List ℕ → Bool) → Mention → List (List ℕ)
unhidden_object hidden (mention.Name n) = []
unhidden_object hidden (mention.Call n handed) = []
unhidden_object hidden (mention.Object n handed) = if hidden n then [] else n ∷ []

-- the globals that a method mentions itself
abbrev pub globals_mentioned : MethodParts → List (List ℕ)
globals_mentioned m = from_each (unhidden_name (is_named m.locals)) m.mentions

-- what a method calls
abbrev pub names_called : MethodParts → List (List ℕ)
names_called m = from_each called_in m.mentions

-- the instances that a method uses
abbrev pub objects_used : MethodParts → List (List ℕ)
objects_used m = from_each (unhidden_object (is_named m.locals)) m.mentions

-- an instance, where there is one, has a variable of this name
abbrev pub has_variable_of : List ℕ → Option MethodParts → Bool
has_variable_of name None = false
has_variable_of name (Some object) = is_listed (globals_mentioned object) name

-- the instance of a name has a variable of another one
abbrev pub holds : List MethodParts → List ℕ → List ℕ → Bool
holds objects name object = has_variable_of name (part_named objects object)

-- a method mentions a name itself: as a global, or by an instance that has a variable of this name
abbrev pub mentions_itself : List MethodParts → List ℕ → MethodParts → Bool
mentions_itself objects name m = is_listed (globals_mentioned m) name || list_any (holds objects name) (objects_used m)

-- a method, where there is one, mentions a name itself or calls one that reaches it
abbrev pub mentions_or_calls : (List ℕ → Bool) → List MethodParts → List ℕ → Option MethodParts → Bool
mentions_or_calls does_reach objects name None = false
mentions_or_calls does_reach objects name (Some m) = mentions_itself objects name m || list_any does_reach (names_called m)

-- the method of a name reaches another name: it mentions it, itself or through methods that it calls, so many calls deep
abbrev pub reaches : UnitParts → List ℕ → ℕ → List ℕ → Bool
reaches unit name zero method = false
reaches unit name (suc depth) method = mentions_or_calls (λ called. reaches unit name depth called) unit.objects name (part_named unit.methods method)
