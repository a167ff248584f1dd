-- The trees of the statements that the code holds.
use Rattle.std.specs.Prelude.{List, [], ◌∷◌, ◌++◌, Option, Some, None}
use Rattle.std.specs.Option.{option_map}
use Rattle.ds2_token.specs.declared.token.Token.{Token}
use Rattle.ds2_tree.specs.declared.statements.ElseIf as code_else_if
use Rattle.ds2_tree.specs.declared.statements.When as code_when
use Rattle.ds2_tree.specs.declared.statements.Otherwise as code_otherwise
use Rattle.ds2_tree.specs.declared.statements.Selector as code_selector
use Rattle.ds2_tree.specs.declared.statements.Step as code_step
use Rattle.ds2_tree.specs.declared.statements.CountedControl as code_counted
use Rattle.ds2_tree.specs.declared.statements.TestedControl as code_tested
use Rattle.ds2_tree.specs.declared.statements.DoControl as code_control
use Rattle.ds2_tree.specs.declared.statements.DoControl.TheVariants as control
use Rattle.ds2_tree.specs.declared.statements.Statement as code
use Rattle.ds2_tree.specs.declared.statements.Statement.{Row_of-Statement, end_of-Statement, more_of-Statement, Row_of-ElseIf, end_of-ElseIf, more_of-ElseIf, Row_of-When, end_of-When, more_of-When, None', Some'}
use Rattle.ds2_tree.specs.declared.statements.Statement.TheVariants as statement
use Rattle.ds2_tree.specs.Expressions.{Expression, expression_spelling}
use Rattle.ds2_tree.specs.ExpressionViews.{expression_tree, arguments_of}
use Rattle.ds2_tree.specs.Statements.{Selector, Step, DoControl, Block, Counted, Tested, Statement, Empty, Assignment, Call, Leave, Continue, Return, Output, Put, If, IfElse, Select, Do, Statements, NoStatement, Then, Whens, NoWhen, When, Otherwise, NoOtherwise, Otherwise', statement_spelling}

-- the tree of what stands in parentheses behind `select`
abbrev pub selector_tree : code_selector.Selector → Selector
selector_tree s = record { opening = s.opening; value = expression_tree s.value.value; closing = s.closing }

-- the tree of a step
abbrev pub step_tree : code_step.Step → Step
step_tree s = record { keyword = s.keyword; value = expression_tree s.value }

-- the tree of a count
abbrev pub counted_tree : code_counted.CountedControl → DoControl
counted_tree c = Counted c.variable c.equals (expression_tree c.start) c.to_keyword (expression_tree c.stop) (option_map step_tree c.step)

-- the tree of a tested condition
abbrev pub tested_tree : code_tested.TestedControl → DoControl
tested_tree c = Tested c.keyword c.opening (expression_tree c.condition) c.closing

-- the tree of what stands between `do` and its `;`
abbrev pub control_tree : code_control.DoControl → DoControl
control_tree control.Block = Block
control_tree (control.Counted c) = counted_tree c.value
control_tree (control.Tested c) = tested_tree c.value

-- an `if` with what stands behind its `else`, where it has one
abbrev pub if_else : Token → Expression → Token → Statement → Otherwise → Statement
if_else keyword e then_keyword s NoOtherwise = If keyword e then_keyword s
if_else keyword e then_keyword s (Otherwise' else_keyword o) = IfElse keyword e then_keyword s else_keyword o

abbrev mutual
  -- the tree of a statement
  pub statement_tree : code.Statement → Statement
  statement_tree (statement.Empty end) = Empty end
  statement_tree (statement.Assignment target p e end) = Assignment target p (expression_tree e) end
  statement_tree (statement.Call callee p xs q end) = Call callee p (arguments_of xs) q end
  statement_tree (statement.Leave keyword end) = Leave keyword end
  statement_tree (statement.Continue keyword end) = Continue keyword end
  statement_tree (statement.Return keyword e end) = Return keyword (option_map expression_tree e) end
  statement_tree (statement.Output keyword tables end) = Output keyword tables end
  statement_tree (statement.Put keyword items end) = Put keyword items end
  statement_tree (statement.If' keyword e then_keyword p s n row None') = if_else keyword (expression_tree e) then_keyword (statement_tree s) (others_row row NoOtherwise)
  statement_tree (statement.If' keyword e then_keyword p s n row (Some' k q o)) = if_else keyword (expression_tree e) then_keyword (statement_tree s) (others_row row (Otherwise' k (statement_tree o)))
  statement_tree (statement.Select' keyword selector p n row None' end_keyword end) = Select keyword (option_map selector_tree selector) p (whens_row row) NoOtherwise end_keyword end
  statement_tree (statement.Select' keyword selector p n row (Some' k q o) end_keyword end) = Select keyword (option_map selector_tree selector) p (whens_row row) (Otherwise' k (statement_tree o)) end_keyword end
  statement_tree (statement.Do' keyword do_control p n row end_keyword end) = Do keyword (control_tree do_control) p (statements_row row) end_keyword end

  -- what chained `else if` parts make of the last part
  pub others_row : {m : _} → Row_of-ElseIf m → Otherwise → Otherwise
  others_row end_of-ElseIf o = o
  others_row (more_of-ElseIf else_keyword keyword e then_keyword s rest) o = Otherwise' else_keyword (if_else keyword (expression_tree e) then_keyword (statement_tree s) (others_row rest o))

  -- the statements of a `do`, in the row that it holds
  pub statements_row : {m : _} → Row_of-Statement m → Statements
  statements_row end_of-Statement = NoStatement
  statements_row (more_of-Statement s rest) = Then (statement_tree s) (statements_row rest)

  -- the `when` parts of a `select`, in the row that it holds
  pub whens_row : {m : _} → Row_of-When m → Whens
  whens_row end_of-When = NoWhen
  whens_row (more_of-When keyword p xs q s rest) = When keyword p (arguments_of xs) q (statement_tree s) (whens_row rest)

-- statements that the code holds in a list
abbrev pub statements_of : List code.Statement → Statements
statements_of [] = NoStatement
statements_of (s ∷ ss) = Then (statement_tree s) (statements_of ss)

-- what chained `else if` parts that the code holds in a list make of the last part
abbrev pub others_of : List code_else_if.ElseIf → Otherwise → Otherwise
others_of [] o = o
others_of (x ∷ xs) o = Otherwise' x.else_keyword (if_else x.keyword (expression_tree x.condition) x.then_keyword (statement_tree x.then) (others_of xs o))

-- "else" "if" expr "then" stmt
abbrev pub else_if_spelling : code_else_if.ElseIf → List Token
else_if_spelling x = x.else_keyword ∷ (x.keyword ∷ (expression_spelling (expression_tree x.condition) ++ (x.then_keyword ∷ statement_spelling (statement_tree x.then))))

-- `when` parts that the code holds in a list
abbrev pub whens_of : List code_when.When → Whens
whens_of [] = NoWhen
whens_of (w ∷ ws) = When w.keyword w.opening (arguments_of w.values) w.closing (statement_tree w.statement) (whens_of ws)

-- the tree of a last part, where there is one
abbrev pub otherwise_tree : Option code_otherwise.Otherwise → Otherwise
otherwise_tree None = NoOtherwise
otherwise_tree (Some o) = Otherwise' o.keyword (statement_tree o.statement.value)
