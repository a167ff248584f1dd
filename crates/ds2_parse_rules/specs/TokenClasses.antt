-- The classes of tokens that the code asks for, as the grammar tests them.
use Rattle.std.specs.Prelude.{Bool}
use Rattle.ds2_token.specs.declared.token.Token.{Token}
use Rattle.ds2_token.specs.Words.{is_any_word, is_name_token, is_package_name, is_table, is_text, is_integer, spells_table}
use Rattle.ds2_tree.specs.Globals.{is_dcl, is_list_keyword, is_decimal_keyword, is_text_keyword}
use Rattle.ds2_tree.specs.Units.{is_kept_or_dropped, is_answer}
use Rattle.ds2_parse_rules.specs.declared.front_words.TokenClass.{TokenClass}
use Rattle.ds2_parse_rules.specs.declared.front_words.TokenClass.TheVariants as class
use Rattle.ds2_parse_rules.specs.ExpressionGrammar.{begins_expression}
use Rattle.ds2_parse_rules.specs.StatementGrammar.{begins_item, begins_statement}
use Rattle.ds2_parse_rules.specs.ReadingGrammar.{begins_by_variable, begins_reading}
use Rattle.ds2_parse_rules.specs.GlobalGrammar.{is_number_constant, is_unsigned_constant, begins_constant, begins_bracketed_name, begins_parameter, begins_global}
use Rattle.ds2_parse_rules.specs.UnitGrammar.{begins_option, begins_part}

-- the token is of the class
abbrev pub is_in_class : TokenClass → Token → Bool
is_in_class class.AnyWord = is_any_word
is_in_class class.Table = is_table
is_in_class class.Name = is_name_token
is_in_class class.PackageName = is_package_name
is_in_class class.Integer = is_integer
is_in_class class.Text = is_text
is_in_class class.TableText = spells_table
is_in_class class.Number = is_number_constant
is_in_class class.UnsignedConstant = is_unsigned_constant
is_in_class class.Declare = is_dcl
is_in_class class.ListKeyword = is_list_keyword
is_in_class class.DecimalKeyword = is_decimal_keyword
is_in_class class.TextKeyword = is_text_keyword
is_in_class class.KeptOrDropped = is_kept_or_dropped
is_in_class class.Answer = is_answer
is_in_class class.Expression = begins_expression
is_in_class class.PutItem = begins_item
is_in_class class.Statement = begins_statement
is_in_class class.ByVariable = begins_by_variable
is_in_class class.Constant = begins_constant
is_in_class class.BracketedName = begins_bracketed_name
is_in_class class.Parameter = begins_parameter
is_in_class class.Reading = begins_reading
is_in_class class.OutputOption = begins_option
is_in_class class.GlobalItem = begins_global
is_in_class class.SourcePart = begins_part
