-- The trees of the bodies of methods that the code holds.
use Rattle.std.specs.Prelude.{map}
use Rattle.ds2_tree.specs.StatementViews.{statement_tree}
use Rattle.ds2_source.specs.declared.globals.MethodBody.{MethodBody}
use Rattle.ds2_parse_rules.specs.GlobalGrammar.{BodyRead}

-- what stands behind the first `;` of a method
abbrev pub method_body_parts : MethodBody → BodyRead
method_body_parts b = (b.locals, (b.reading, (map statement_tree b.statements, (b.end_keyword, b.end))))
