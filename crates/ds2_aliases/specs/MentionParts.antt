-- What uses of names mention: plain names, calls with the names that they hand over, and instances.
use Rattle.std.specs.Prelude.{ℕ, Bool, if◌then◌else◌, List, [], ◌∷◌, map, Option, Some, None}
use Rattle.ds2_token.specs.declared.token.Token.{Token}
use Rattle.ds2_tree.specs.Expressions.{Arguments}
use Rattle.ds2_tree.specs.declared.expressions.Callee.{Callee}
use Rattle.ds2_tree.specs.declared.expressions.Callee.TheVariants as callee
use Rattle.ds2_tree.specs.declared.statements.PutItem.{PutItem}
use Rattle.ds2_tree.specs.declared.statements.PutItem.TheVariants as item
use Rattle.ds2_calls.specs.SortCalls.{flags_by_names}
use Rattle.ds2_calls.specs.UnitsCalls.{calls_by_tables}
use Rattle.ds2_calls.specs.declared.unit_calls.Calls.{Calls}
use Rattle.ds2_names.specs.NameRules.{from_each, is_flag_word, handed_names}
use Rattle.ds2_names.specs.SourceUnit.{PlacedName, placed_name, spelled_name}
use Rattle.ds2_names.specs.Uses.{NameUse, Values, Members, HandsOver, CallsOn, Sets, WritesTo}
use Rattle.ds2_calls.specs.UseParts.{InOutFlags}
use Rattle.ds2_aliases.specs.declared.mentions.Mention.{Mention}
use Rattle.ds2_aliases.specs.declared.mentions.Mention.TheVariants as mention

-- which parameters of what is called are in_out, as hashed tables tell
abbrev pub flags_by_calls : Calls → InOutFlags
flags_by_calls c = flags_by_names (calls_by_tables c)

-- a name at its place, where there is one
abbrev pub placed_if_any : Option Token → List PlacedName
placed_if_any None = []
placed_if_any (Some t) = placed_name t ∷ []

-- what a call mentions: a method, a function or an instance, with the names that are handed to in_out parameters
abbrev pub mentions_in_call : Callee → List Bool → Arguments → List Mention
mentions_in_call (callee.Function t) in_out arguments = mention.Call (spelled_name t) (handed_names in_out arguments) ∷ []
mentions_in_call (callee.Null keyword) in_out arguments = []
mentions_in_call (callee.Method object dot method) in_out arguments = mention.Object (spelled_name object) (handed_names in_out arguments) ∷ []

-- what `x.y` without an argument list mentions: an instance, where x is no flag's word
abbrev pub mentions_in_member : Token → List Mention
mentions_in_member object = if is_flag_word object then [] else mention.Object (spelled_name object) [] ∷ []

-- what a use mentions
abbrev pub mentions_in_use : InOutFlags → NameUse → List Mention
mentions_in_use flags (Values t) = mention.Name (spelled_name t) ∷ []
mentions_in_use flags (Members object member) = mentions_in_member object
mentions_in_use flags (HandsOver t) = mention.Name (spelled_name t) ∷ []
mentions_in_use flags (CallsOn f arguments) = mentions_in_call f (flags f) arguments
mentions_in_use flags (Sets t) = mention.Name (spelled_name t) ∷ []
mentions_in_use flags (WritesTo t) = []

-- what uses mention, in order
abbrev pub mentions_in_uses : InOutFlags → List NameUse → List Mention
mentions_in_uses flags used = from_each (mentions_in_use flags) used

-- what an item of `put` mentions
abbrev pub mentions_in_item : PutItem → List Mention
mentions_in_item (item.Text t) = []
mentions_in_item (item.Variable name sign) = mention.Name (spelled_name name) ∷ []
mentions_in_item (item.Member object dot member) = mentions_in_member object

-- variables, as mentions
abbrev pub variable_mentions : List (List ℕ) → List Mention
variable_mentions variables = map (λ (name : List ℕ). mention.Name name) variables
