-- The trees of the bodies of units that the code holds.
use Rattle.std.specs.Prelude.{map}
use Rattle.ds2_tree.specs.UnitViews.{global_tree}
use Rattle.ds2_source.specs.declared.units.UnitBody as code
use Rattle.ds2_parse_rules.specs.UnitGrammar.{UnitBody}

-- what stands behind the first `;` of a unit
abbrev pub unit_body_parts : code.UnitBody → UnitBody
unit_body_parts b = (map global_tree b.globals, (b.end_keyword, b.end))
