-- How many tokens a package of some parts has.
use Rattle.std.specs.Prelude.{ℕ, List, length, map}
use Rattle.ds2_base.specs.declared.place.Place.{Place}
use Rattle.ds2_token.specs.declared.token.Token.{Token}
use Rattle.ds2_tree.specs.declared.globals.GlobalItem as code
use Rattle.ds2_tree.specs.Units.{package_spelling}
use Rattle.ds2_tree.specs.GlobalViews.{global_tree}

-- how many tokens a package of these parts has, from `package` to the `;` behind `endpackage`
abbrev pub package_tokens : (keyword name : Token) (semicolon : Place) → List code.GlobalItem → (end_keyword : Token) (end : Place) → ℕ
package_tokens keyword name semicolon globals end_keyword end =
    length (package_spelling (record { keyword = keyword; name = name; semicolon = semicolon; globals = map global_tree globals; end_keyword = end_keyword; end = end }))
