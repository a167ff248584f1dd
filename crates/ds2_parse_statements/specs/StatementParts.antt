-- What is read within a statement. m bounds the turns of each list, n the levels.
use Rattle.std.specs.Prelude.{ℕ, zero, suc, codes, List, Option}
use Rattle.std.specs.Option.{option_map}
use Rattle.ds2_token.specs.declared.token.Token.{Token}
use Rattle.ds2_tree.specs.Parsers.{Parser, Two, choose_by, seq, many_of, optional, closed}
use Rattle.ds2_tree.specs.Expressions.{Expression}
use Rattle.ds2_tree.specs.Statements.{Statement, Select, Do, Whens, NoWhen, When}
use Rattle.ds2_tree.specs.ExpressionViews as view_expression
use Rattle.ds2_tree.specs.StatementViews as view
use Rattle.ds2_base.specs.declared.place.Place.{Place}
use Rattle.ds2_tree.specs.declared.statements.Selector as code_selector
use Rattle.ds2_tree.specs.declared.statements.Step as code_step
use Rattle.ds2_tree.specs.declared.statements.Otherwise as code_otherwise
use Rattle.ds2_tree.specs.declared.statements.ElseIf as code_else_if
use Rattle.ds2_parse_statements.specs.declared.trees.Arm as code_arm
use Rattle.ds2_parse_statements.specs.declared.trees.FirstArm as code_first
use Rattle.ds2_parse_statements.specs.declared.trees.SelectionBody as code_body
use Rattle.ds2_parse_rules.specs.GrammarTokens.{mark_rule, word_rule, starts}
use Rattle.ds2_parse_rules.specs.StatementGrammar.{begins_statement, if_rule, when_rule, statement_rule, WhenTree, listed_whens, SelectTree, selector_of, otherwise_of, DoTree, listed_statements, Last7, statement_of_kind}

-- a statement within one, which opens a level
abbrev pub within_rule : ℕ → ℕ → Parser Statement
within_rule m zero = closed begins_statement
within_rule m (suc n) = statement_rule m n

-- "if" expr "then" stmt, as it is read
abbrev pub ArmTree : Type 0
ArmTree = Token × (Expression × (Token × Statement))

-- "if" expr "then" stmt
abbrev pub arm_rule : Parser Expression → Parser Statement → Parser ArmTree
arm_rule e inner = seq (word_rule (codes "if")) (seq e (seq (word_rule (codes "then")) inner))

-- [ "else" stmt ], where an `if` goes on with at most j parts chained to it
abbrev pub else_rule : ℕ → Parser Expression → Parser Statement → Parser (Option (Token × Statement))
else_rule j e inner = optional (starts (codes "else")) (seq (word_rule (codes "else")) (choose_by (starts (codes "if")) (if_rule j e inner) inner))

-- [ "otherwise" stmt ]
abbrev pub otherwise_rule : Parser Statement → Parser (Option (Token × Statement))
otherwise_rule inner = optional (starts (codes "otherwise")) (seq (word_rule (codes "otherwise")) inner)

-- what stands behind the first `;` of a selection, as it is read
abbrev pub SelectionBodyRead : Type 0
SelectionBodyRead = List WhenTree × (Option (Token × Statement) × (Token × Place))

-- { when } [ "otherwise" stmt ] "end" ";"
abbrev pub selection_body_rule : ℕ → Parser Expression → Parser Statement → Parser SelectionBodyRead
selection_body_rule m e inner = seq (many_of m (starts (codes "when")) (when_rule m e inner)) (seq (otherwise_rule inner) (seq (word_rule (codes "end")) (mark_rule (codes ";"))))

-- [ "by" expr ]
abbrev pub step_rule : Parser Expression → Parser (Option (Token × Expression))
step_rule e = optional (starts (codes "by")) (seq (word_rule (codes "by")) e)

-- "=" expr "to" expr [ "by" expr ]
abbrev pub behind_variable : Parser Expression → Parser (Place × (Expression × (Token × (Expression × Option (Token × Expression)))))
behind_variable e = seq (mark_rule (codes "=")) (seq e (seq (word_rule (codes "to")) (seq e (step_rule e))))

-- ---- trees of what the code holds

-- what stands in parentheses behind `select`
abbrev pub selector_parts : code_selector.Selector → Place × (Expression × Place)
selector_parts s = (s.opening, (view_expression.expression_tree s.value.value, s.closing))

-- the step of a count
abbrev pub step_parts : code_step.Step → Token × Expression
step_parts s = (s.keyword, view_expression.expression_tree s.value)

-- a last part
abbrev pub last_parts : code_otherwise.Otherwise → Token × Statement
last_parts o = (o.keyword, view.statement_tree o.statement.value)

-- an arm behind its `else`
abbrev pub else_if_of : Token → code_arm.Arm → code_else_if.ElseIf
else_if_of else_keyword a = record { else_keyword = else_keyword; keyword = a.keyword; condition = a.condition; then_keyword = a.then_keyword; then = a.then }

-- the parts of an arm that the code holds
abbrev pub arm_parts : code_arm.Arm → ArmTree
arm_parts a = (a.keyword, (view_expression.expression_tree a.condition, (a.then_keyword, view.statement_tree a.then)))

-- the parts of an arm whose statement is in a box
abbrev pub first_arm_parts : code_first.FirstArm → ArmTree
first_arm_parts a = (a.keyword, (view_expression.expression_tree a.condition, (a.then_keyword, view.statement_tree a.then.value)))

-- the statement of what begins with one of the later words
abbrev pub later_statement : Last7 → Statement
later_statement x = statement_of_kind (Two (Two (Two (Two (Two x)))))

-- the selection of its parts
abbrev pub selection_of : SelectTree → Statement
selection_of x = Select x.0 (selector_of x.1.0) x.1.1.0 (listed_whens x.1.1.1.0) (otherwise_of x.1.1.1.1.0) x.1.1.1.1.1.0 x.1.1.1.1.1.1

-- what stands behind the first `;` of a selection, its `when` parts as a tree
abbrev pub ListedBody : Type 0
ListedBody = Whens × (Option (Token × Statement) × (Token × Place))

-- the `when` parts that were read, as a tree
abbrev pub listed_body : SelectionBodyRead → ListedBody
listed_body x = (listed_whens x.0, x.1)

-- what stands behind the first `;` of a selection that the code holds
abbrev pub selection_body_tree : code_body.SelectionBody → ListedBody
selection_body_tree b = (view.whens_of b.whens, (option_map last_parts b.last, (b.end_keyword, b.end)))

-- the block or loop of its parts
abbrev pub do_of : DoTree → Statement
do_of x = Do x.0 x.1.0 x.1.1.0 (listed_statements x.1.1.1.0) x.1.1.1.1.0 x.1.1.1.1.1

-- `when` parts, and further ones behind them
abbrev pub and_whens : Whens → List WhenTree → Whens
and_whens NoWhen l = listed_whens l
and_whens (When keyword p xs q s rest) l = When keyword p xs q s (and_whens rest l)
