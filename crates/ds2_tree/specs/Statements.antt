-- Statements: their trees, spellings and levels of nesting.
use Rattle.std.specs.Prelude.{ℕ, Bool, true, false, ◌≡◌, codes, List, [], ◌∷◌, ◌++◌, Option, Some, None}
use Rattle.ds2_base.specs.declared.place.Place.{Place}
use Rattle.ds2_token.specs.declared.token.Token.{Token}
use Rattle.ds2_tree.specs.declared.expressions.Callee.{Callee}
use Rattle.ds2_tree.specs.declared.statements.PutItem.{PutItem}
use Rattle.ds2_tree.specs.declared.statements.PutItem.TheVariants as item
use Rattle.ds2_token.specs.Words.{is_any_word, is_text, is_word, is_one_of, is_name_token, is_table}
use Rattle.ds2_tree.specs.Marks.{open_mark, close_mark, equals_mark, dot_mark, semicolon_mark}
use Rattle.ds2_tree.specs.Lists.{one_token, if_any, all_spelled, Is, IfAny, Each}
use Rattle.ds2_tree.specs.Levels.{first_opened, one_in}
use Rattle.ds2_tree.specs.Expressions.{Expression, expression_spelling, IsExpression, expression_opens, Arguments, NoArgument, Argument, arguments_spelling, AreArguments, arguments_opens, call_spelling, IsCallee, argument_list_opens}

-- `(` expression `)` behind `select`
pub record Selector : Type 0 where
  pub opening : Place
  pub value : Expression
  pub closing : Place

-- `by` expression
pub record Step : Type 0 where
  pub keyword : Token
  pub value : Expression

-- what stands between `do` and its `;`
pub data DoControl : Type 0 where
  Block : DoControl
  Counted : (variable : Token) → (equals : Place) → (start : Expression) → (to_keyword : Token) → (stop : Expression) → Option Step → DoControl
  Tested : (keyword : Token) → (opening : Place) → (condition : Expression) → (closing : Place) → DoControl

-- A statement, ended by the `;` at `end`. A chained `else if` is an `if` in the else part.
mutual
  pub data Statement : Type 0 where
    Empty : (end : Place) → Statement
    Assignment : (target : Token) → (equals : Place) → (value : Expression) → (end : Place) → Statement
    Call : Callee → (opening : Place) → Arguments → (closing : Place) → (end : Place) → Statement
    Leave : (keyword : Token) → (end : Place) → Statement
    Continue : (keyword : Token) → (end : Place) → Statement
    Return : (keyword : Token) → Option Expression → (end : Place) → Statement
    Output : (keyword : Token) → (tables : List Token) → (end : Place) → Statement
    Put : (keyword : Token) → (items : List PutItem) → (end : Place) → Statement
    If : (keyword : Token) → (condition : Expression) → (then_keyword : Token) → (then_part : Statement) → Statement
    IfElse : (keyword : Token) → (condition : Expression) → (then_keyword : Token) → (then_part : Statement) → (else_keyword : Token) → (else_part : Statement) → Statement
    Select : (keyword : Token) → Option Selector → (semicolon : Place) → Whens → Otherwise → (end_keyword : Token) → (end : Place) → Statement
    Do : (keyword : Token) → DoControl → (semicolon : Place) → (body : Statements) → (end_keyword : Token) → (end : Place) → Statement

  -- statements, one behind the other
  pub data Statements : Type 0 where
    NoStatement : Statements
    Then : (first : Statement) → (rest : Statements) → Statements

  -- `when` parts, each with its values and its statement
  pub data Whens : Type 0 where
    NoWhen : Whens
    When : (keyword : Token) → (opening : Place) → Arguments → (closing : Place) → Statement → (rest : Whens) → Whens

  -- the last part, behind its word, where there is one
  pub data Otherwise : Type 0 where
    NoOtherwise : Otherwise
    Otherwise' : (keyword : Token) → Statement → Otherwise

-- ---- spellings

-- text | name ["="] | name "." word
abbrev pub item_spelling : PutItem → List Token
item_spelling (item.Text t) = one_token t
item_spelling (item.Variable name sign) = name ∷ if_any (λ p. one_token (equals_mark p)) sign
item_spelling (item.Member object p member) = object ∷ (dot_mark p ∷ (member ∷ []))

-- "(" expr ")"
abbrev pub selector_spelling : Selector → List Token
selector_spelling s = open_mark s.opening ∷ (expression_spelling s.value ++ (close_mark s.closing ∷ []))

-- "by" expr
abbrev pub step_spelling : Step → List Token
step_spelling s = s.keyword ∷ expression_spelling s.value

-- [ name "=" expr "to" expr ["by" expr] | ("while" | "until") "(" expr ")" ]
abbrev pub control_spelling : DoControl → List Token
control_spelling Block = []
control_spelling (Counted variable p start to_keyword stop step) =
    variable ∷ (equals_mark p ∷ (expression_spelling start ++ (to_keyword ∷ (expression_spelling stop ++ if_any step_spelling step))))
control_spelling (Tested keyword p condition q) = keyword ∷ (open_mark p ∷ (expression_spelling condition ++ (close_mark q ∷ [])))

abbrev mutual
  -- the tokens of a statement
  pub statement_spelling : Statement → List Token
  -- ";"
  statement_spelling (Empty end) = semicolon_mark end ∷ []
  -- name "=" expr ";"
  statement_spelling (Assignment target p e end) = target ∷ (equals_mark p ∷ (expression_spelling e ++ (semicolon_mark end ∷ [])))
  -- call ";"
  statement_spelling (Call callee p xs q end) = call_spelling callee p xs q ++ (semicolon_mark end ∷ [])
  -- "leave" ";" and "continue" ";"
  statement_spelling (Leave keyword end) = keyword ∷ (semicolon_mark end ∷ [])
  statement_spelling (Continue keyword end) = keyword ∷ (semicolon_mark end ∷ [])
  -- "return" [expr] ";"
  statement_spelling (Return keyword e end) = keyword ∷ (if_any expression_spelling e ++ (semicolon_mark end ∷ []))
  -- "output" { table } ";"
  statement_spelling (Output keyword tables end) = keyword ∷ (all_spelled one_token tables ++ (semicolon_mark end ∷ []))
  -- "put" { item } ";"
  statement_spelling (Put keyword items end) = keyword ∷ (all_spelled item_spelling items ++ (semicolon_mark end ∷ []))
  -- "if" expr "then" stmt [ "else" stmt ]
  statement_spelling (If keyword e then_keyword then_part) = keyword ∷ (expression_spelling e ++ (then_keyword ∷ statement_spelling then_part))
  statement_spelling (IfElse keyword e then_keyword then_part else_keyword else_part) =
      keyword ∷ (expression_spelling e ++ (then_keyword ∷ (statement_spelling then_part ++ (else_keyword ∷ statement_spelling else_part))))
  -- "select" [ "(" expr ")" ] ";" { "when" .. } [ "otherwise" stmt ] "end" ";"
  statement_spelling (Select keyword selector p whens otherwise end_keyword end) =
      keyword ∷ (if_any selector_spelling selector ++ (semicolon_mark p ∷ (whens_spelling whens ++ (otherwise_spelling otherwise ++ (end_keyword ∷ (semicolon_mark end ∷ []))))))
  -- "do" [ .. ] ";" { stmt } "end" ";"
  statement_spelling (Do keyword control p body end_keyword end) =
      keyword ∷ (control_spelling control ++ (semicolon_mark p ∷ (statements_spelling body ++ (end_keyword ∷ (semicolon_mark end ∷ [])))))

  -- the tokens of statements, one behind the other
  pub statements_spelling : Statements → List Token
  statements_spelling NoStatement = []
  statements_spelling (Then s rest) = statement_spelling s ++ statements_spelling rest

  -- { "when" "(" expr { "," expr } ")" stmt }
  pub whens_spelling : Whens → List Token
  whens_spelling NoWhen = []
  whens_spelling (When keyword p xs q s rest) = keyword ∷ (open_mark p ∷ (arguments_spelling xs ++ (close_mark q ∷ (statement_spelling s ++ whens_spelling rest))))

  -- [ "otherwise" stmt ]
  pub otherwise_spelling : Otherwise → List Token
  otherwise_spelling NoOtherwise = []
  otherwise_spelling (Otherwise' keyword s) = keyword ∷ statement_spelling s

-- ---- which trees are of the grammar

-- a text, a name, or a name and the word of its member
abbrev pub IsItem : PutItem → Type 0
IsItem (item.Text t) = Is is_text t
IsItem (item.Variable name sign) = Is is_name_token name
IsItem (item.Member object p member) = Is is_name_token object × Is is_any_word member

-- the word before a tested condition: "while" | "until"
abbrev pub is_while_or_until : Token → Bool
is_while_or_until t = is_one_of (codes "while" ∷ codes "until" ∷ []) [] t

-- the word `by` and an expression of the grammar
abbrev pub IsStep : Step → Type 0
IsStep s = Is (is_word (codes "by")) s.keyword × IsExpression s.value

-- nothing, or the words, the name and the expressions of a count or of a tested condition
abbrev pub IsControl : DoControl → Type 0
IsControl Block = Unit {0}
IsControl (Counted variable p start to_keyword stop step) =
    Is is_name_token variable × IsExpression start × Is (is_word (codes "to")) to_keyword × IsExpression stop × IfAny IsStep step
IsControl (Tested keyword p condition q) = Is is_while_or_until keyword × IsExpression condition

-- there is one argument at least
abbrev pub HasArgument : Arguments → Type 0
HasArgument NoArgument = ⊥
HasArgument (Argument c e rest) = Unit {0}

-- it is an `if`, with an else part or without
abbrev pub begins_if : Statement → Bool
begins_if (If keyword e then_keyword then_part) = true
begins_if (IfElse keyword e then_keyword then_part else_keyword else_part) = true
begins_if _ = false

-- it ends in an `if` without an else part, so that an `else` behind it would belong to that
abbrev pub ends_open : Statement → Bool
ends_open (If keyword e then_keyword then_part) = true
ends_open (IfElse keyword e then_keyword then_part else_keyword else_part) = ends_open else_part
ends_open _ = false

-- its tokens are those of the grammar, and each `else` belongs to the nearest `if` that has none
abbrev mutual
  pub IsStatement : Statement → Type 0
  IsStatement (Empty end) = Unit {0}
  IsStatement (Assignment target p e end) = Is is_name_token target × IsExpression e
  IsStatement (Call callee p xs q end) = IsCallee callee × AreArguments xs
  IsStatement (Leave keyword end) = Is (is_word (codes "leave")) keyword
  IsStatement (Continue keyword end) = Is (is_word (codes "continue")) keyword
  IsStatement (Return keyword e end) = Is (is_word (codes "return")) keyword × IfAny IsExpression e
  IsStatement (Output keyword tables end) = Is (is_word (codes "output")) keyword × Each (Is is_table) tables
  IsStatement (Put keyword items end) = Is (is_word (codes "put")) keyword × Each IsItem items
  IsStatement (If keyword e then_keyword then_part) = Is (is_word (codes "if")) keyword × IsExpression e × Is (is_word (codes "then")) then_keyword × IsStatement then_part
  IsStatement (IfElse keyword e then_keyword then_part else_keyword else_part) =
      Is (is_word (codes "if")) keyword × IsExpression e × Is (is_word (codes "then")) then_keyword × IsStatement then_part × (ends_open then_part ≡ false)
      × Is (is_word (codes "else")) else_keyword × IsStatement else_part
  IsStatement (Select keyword selector p whens otherwise end_keyword end) =
      Is (is_word (codes "select")) keyword × IfAny (λ s. IsExpression s.value) selector × AreWhens whens × IsOtherwise otherwise × Is (is_word (codes "end")) end_keyword
  IsStatement (Do keyword control p body end_keyword end) =
      Is (is_word (codes "do")) keyword × IsControl control × AreStatements body × Is (is_word (codes "end")) end_keyword

  -- each statement is of the grammar
  pub AreStatements : Statements → Type 0
  AreStatements NoStatement = Unit {0}
  AreStatements (Then s rest) = IsStatement s × AreStatements rest

  -- each part has the word `when`, one value at least, and a statement of the grammar
  pub AreWhens : Whens → Type 0
  AreWhens NoWhen = Unit {0}
  AreWhens (When keyword p xs q s rest) = Is (is_word (codes "when")) keyword × (AreArguments xs × HasArgument xs) × IsStatement s × AreWhens rest

  -- nothing, or the word `otherwise` and a statement of the grammar
  pub IsOtherwise : Otherwise → Type 0
  IsOtherwise NoOtherwise = Unit {0}
  IsOtherwise (Otherwise' keyword s) = Is (is_word (codes "otherwise")) keyword × IsStatement s

-- ---- levels of nesting: a statement within a statement opens one; an `if` that is the else part of an `if` stays on its level

-- the tokens of what stands in parentheses behind `select` from the first one on that opens more than n levels
abbrev pub selector_opens : Selector → ℕ → Option (List Token)
selector_opens s n = first_opened (expression_opens s.value n) (close_mark s.closing ∷ []) None

-- the tokens of a step from the first one on that opens more than n levels, where there is a step
abbrev pub step_opens : Option Step → ℕ → Option (List Token)
step_opens None n = None
step_opens (Some s) n = expression_opens s.value n

-- the tokens of what stands between `do` and its `;` from the first one on that opens more than n levels
abbrev pub control_opens : DoControl → ℕ → Option (List Token)
control_opens Block n = None
control_opens (Counted variable p start to_keyword stop step) n =
    first_opened (expression_opens start n) (to_keyword ∷ (expression_spelling stop ++ if_any step_spelling step))
    (first_opened (expression_opens stop n) (if_any step_spelling step) (step_opens step n))
control_opens (Tested keyword p condition q) n = first_opened (expression_opens condition n) (close_mark q ∷ []) None

-- the tokens of a value from the first one on that opens more than n levels, where there is a value
abbrev pub value_opens : Option Expression → ℕ → Option (List Token)
value_opens None n = None
value_opens (Some e) n = expression_opens e n

-- the same of what stands in parentheses behind `select`, where there is something
abbrev pub maybe_selector_opens : Option Selector → ℕ → Option (List Token)
maybe_selector_opens None n = None
maybe_selector_opens (Some s) n = selector_opens s n

-- an else part: an `if` stays on its level, and any other statement opens one with its first token
abbrev pub in_else : Bool → List Token → (ℕ → Option (List Token)) → ℕ → Option (List Token)
in_else true spelling opens n = opens n
in_else false spelling opens n = one_in spelling opens n

abbrev mutual
  -- the tokens of a statement from the first one on that opens more than n levels
  pub statement_opens : Statement → ℕ → Option (List Token)
  statement_opens (Empty end) n = None
  statement_opens (Assignment target p e end) n = first_opened (expression_opens e n) (semicolon_mark end ∷ []) None
  statement_opens (Call callee p xs q end) n = first_opened (argument_list_opens p xs q n) (semicolon_mark end ∷ []) None
  statement_opens (Leave keyword end) n = None
  statement_opens (Continue keyword end) n = None
  statement_opens (Return keyword e end) n = first_opened (value_opens e n) (semicolon_mark end ∷ []) None
  statement_opens (Output keyword tables end) n = None
  statement_opens (Put keyword items end) n = None
  statement_opens (If keyword e then_keyword then_part) n =
      first_opened (expression_opens e n) (then_keyword ∷ statement_spelling then_part) (one_in (statement_spelling then_part) (statement_opens then_part) n)
  statement_opens (IfElse keyword e then_keyword then_part else_keyword else_part) n =
      first_opened (expression_opens e n) (then_keyword ∷ (statement_spelling then_part ++ (else_keyword ∷ statement_spelling else_part)))
      (first_opened (one_in (statement_spelling then_part) (statement_opens then_part) n) (else_keyword ∷ statement_spelling else_part)
      (in_else (begins_if else_part) (statement_spelling else_part) (statement_opens else_part) n))
  statement_opens (Select keyword selector p whens otherwise end_keyword end) n =
      first_opened (maybe_selector_opens selector n) (semicolon_mark p ∷ (whens_spelling whens ++ (otherwise_spelling otherwise ++ (end_keyword ∷ (semicolon_mark end ∷ [])))))
      (first_opened (whens_opens whens n) (otherwise_spelling otherwise ++ (end_keyword ∷ (semicolon_mark end ∷ [])))
      (first_opened (otherwise_opens otherwise n) (end_keyword ∷ (semicolon_mark end ∷ [])) None))
  statement_opens (Do keyword control p body end_keyword end) n =
      first_opened (control_opens control n) (semicolon_mark p ∷ (statements_spelling body ++ (end_keyword ∷ (semicolon_mark end ∷ []))))
      (first_opened (inner_opens body n) (end_keyword ∷ (semicolon_mark end ∷ [])) None)

  -- the tokens of statements within a statement from the first one on that opens more than n levels, where each of them opens one
  pub inner_opens : Statements → ℕ → Option (List Token)
  inner_opens NoStatement n = None
  inner_opens (Then s rest) n = first_opened (one_in (statement_spelling s) (statement_opens s) n) (statements_spelling rest) (inner_opens rest n)

  -- the tokens of `when` parts from the first one on that opens more than n levels
  pub whens_opens : Whens → ℕ → Option (List Token)
  whens_opens NoWhen n = None
  whens_opens (When keyword p xs q s rest) n =
      first_opened (arguments_opens xs n) (close_mark q ∷ (statement_spelling s ++ whens_spelling rest))
      (first_opened (one_in (statement_spelling s) (statement_opens s) n) (whens_spelling rest) (whens_opens rest n))

  -- the tokens of the last part from the first one on that opens more than n levels, which its statement does
  pub otherwise_opens : Otherwise → ℕ → Option (List Token)
  otherwise_opens NoOtherwise n = None
  otherwise_opens (Otherwise' keyword s) n = one_in (statement_spelling s) (statement_opens s) n

-- the tokens of statements from the first one on that opens more than n levels, where those that stand directly in a method open none
abbrev pub statements_opens : Statements → ℕ → Option (List Token)
statements_opens NoStatement n = None
statements_opens (Then s rest) n = first_opened (statement_opens s n) (statements_spelling rest) (statements_opens rest n)
