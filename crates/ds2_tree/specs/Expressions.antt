-- Expressions and calls: their trees, spellings, operator levels and levels of nesting.
use Rattle.std.specs.Prelude.{ℕ, Bool, ◌||◌, nat_lt, codes, IsTrue, List, [], ◌∷◌, ◌++◌, Option, None}
use Rattle.ds2_base.specs.declared.place.Place.{Place}
use Rattle.ds2_token.specs.declared.token.Token.{Token}
use Rattle.ds2_tree.specs.declared.expressions.ChainKind.{ChainKind}
use Rattle.ds2_tree.specs.declared.expressions.ChainKind.TheVariants.{Or, And, Concatenation, Sum, Product}
use Rattle.ds2_tree.specs.declared.expressions.Callee.{Callee}
use Rattle.ds2_tree.specs.declared.expressions.Callee.TheVariants as callee
use Rattle.ds2_tree.specs.declared.expressions.Callee.TheVariants.{Function, Method}
use Rattle.ds2_token.specs.Words.{is_any_word, is_text, is_integer, is_decimal, is_word, is_one_of, is_name_token}
use Rattle.ds2_tree.specs.Marks.{open_mark, close_mark, dot_mark}
use Rattle.ds2_tree.specs.Lists.{one_token, comma_spelling, Is, HasComma, HasNoComma}
use Rattle.ds2_tree.specs.Levels.{first_opened, one_in}

-- An expression. Places are those of `(`, `)` and `.`.
mutual
  pub data Expression : Type 0 where
    Constant : Token → Expression
    Null : (keyword : Token) → Expression
    Variable : (name : Token) → Expression
    Member : (object : Token) → Place → (member : Token) → Expression
    Call : Callee → Place → Arguments → Place → Expression
    Parenthesis : Place → Expression → Place → Expression
    Sign : (operator : Token) → (operand : Expression) → Expression
    Chain : ChainKind → (first : Expression) → (rest : Operands) → Expression
    Comparison : (left : Expression) → (operator : Token) → (right : Expression) → Expression
    Not : (operator : Token) → (operand : Expression) → Expression

  -- the operands of a chain behind the first, each behind its operator
  pub data Operands : Type 0 where
    NoOperand : Operands
    Operand : (operator : Token) → (value : Expression) → (rest : Operands) → Operands

  -- expressions, each behind its comma where it has one
  pub data Arguments : Type 0 where
    NoArgument : Arguments
    Argument : (comma : Option Place) → (value : Expression) → (rest : Arguments) → Arguments

-- ---- spellings

-- (name | "null") or name "." word
abbrev pub callee_spelling : Callee → List Token
callee_spelling (Function name) = one_token name
callee_spelling (callee.Null keyword) = one_token keyword
callee_spelling (Method object p method) = object ∷ (dot_mark p ∷ (method ∷ []))

abbrev mutual
  -- the tokens of an expression
  pub expression_spelling : Expression → List Token
  -- integer | decimal | text
  expression_spelling (Constant t) = one_token t
  -- "null"
  expression_spelling (Null t) = one_token t
  -- name
  expression_spelling (Variable name) = one_token name
  -- name "." word
  expression_spelling (Member object p member) = object ∷ (dot_mark p ∷ (member ∷ []))
  -- callee "(" [args] ")"
  expression_spelling (Call f p xs q) = callee_spelling f ++ (open_mark p ∷ (arguments_spelling xs ++ (close_mark q ∷ [])))
  -- "(" expr ")"
  expression_spelling (Parenthesis p e q) = open_mark p ∷ (expression_spelling e ++ (close_mark q ∷ []))
  -- ("-" | "+") unary
  expression_spelling (Sign o e) = o ∷ expression_spelling e
  -- operand { operator operand }
  expression_spelling (Chain kind e rest) = expression_spelling e ++ operands_spelling rest
  -- cat cmp cat
  expression_spelling (Comparison a o b) = expression_spelling a ++ (o ∷ expression_spelling b)
  -- ("not" | "^" | "~") neg
  expression_spelling (Not o e) = o ∷ expression_spelling e

  -- the tokens of the operands behind the first, each behind its operator
  pub operands_spelling : Operands → List Token
  operands_spelling NoOperand = []
  operands_spelling (Operand o e rest) = o ∷ (expression_spelling e ++ operands_spelling rest)

  -- [ expr { "," expr } ]
  pub arguments_spelling : Arguments → List Token
  arguments_spelling NoArgument = []
  arguments_spelling (Argument c e rest) = comma_spelling c ++ (expression_spelling e ++ arguments_spelling rest)

-- "(" [args] ")"
abbrev pub argument_list_spelling : Place → Arguments → Place → List Token
argument_list_spelling p xs q = open_mark p ∷ (arguments_spelling xs ++ (close_mark q ∷ []))

-- callee "(" [args] ")"
abbrev pub call_spelling : Callee → Place → Arguments → Place → List Token
call_spelling f p xs q = callee_spelling f ++ argument_list_spelling p xs q

-- ---- operator levels

-- how tightly the operators of a chain bind
abbrev pub chain_level : ChainKind → ℕ
chain_level Or = 0
chain_level And = 1
chain_level Concatenation = 4
chain_level Sum = 5
chain_level Product = 6

-- how tightly an expression binds: `not` is 2, a comparison 3, a sign 7, and a primary binds as tightly as can be
abbrev pub operator_level : Expression → ℕ
operator_level (Chain kind e rest) = chain_level kind
operator_level (Not o e) = 2
operator_level (Comparison a o b) = 3
operator_level (Sign o e) = 7
operator_level _ = 8

-- it binds tighter than this level
abbrev pub IsTighter : ℕ → Expression → Type 0
IsTighter level e = IsTrue (nat_lt level (operator_level e))

-- "or" | "|", "and" | "&", "||", "+" | "-", "*" | "/"
abbrev pub is_operator : ChainKind → Token → Bool
is_operator Or t = is_one_of (codes "or" ∷ []) (codes "|" ∷ []) t
is_operator And t = is_one_of (codes "and" ∷ []) (codes "&" ∷ []) t
is_operator Concatenation t = is_one_of [] (codes "||" ∷ []) t
is_operator Sum t = is_one_of [] (codes "+" ∷ codes "-" ∷ []) t
is_operator Product t = is_one_of [] (codes "*" ∷ codes "/" ∷ []) t

-- a sign before an operand: "-" | "+"
abbrev pub is_sign : Token → Bool
is_sign t = is_one_of [] (codes "-" ∷ codes "+" ∷ []) t

-- a negation: "not" | "^" | "~"
abbrev pub is_not : Token → Bool
is_not t = is_one_of (codes "not" ∷ []) (codes "^" ∷ codes "~" ∷ []) t

-- "=" | "eq" | "^=" | "~=" | "ne" | "<" | "lt" | "<=" | "le" | ">" | "gt" | ">=" | "ge"
abbrev pub is_comparison : Token → Bool
is_comparison t =
    is_one_of (codes "eq" ∷ codes "ne" ∷ codes "lt" ∷ codes "le" ∷ codes "gt" ∷ codes "ge" ∷ [])
    (codes "=" ∷ codes "^=" ∷ codes "~=" ∷ codes "<" ∷ codes "<=" ∷ codes ">" ∷ codes ">=" ∷ []) t

-- ---- which trees are of the grammar

-- the word `null`
abbrev pub is_null_word : Token → Bool
is_null_word t = is_word (codes "null") t

-- an integer, a decimal or a text
abbrev pub is_constant : Token → Bool
is_constant t = is_integer t || is_decimal t || is_text t

-- a name, the word `null`, or a name and the word of its method
abbrev pub IsCallee : Callee → Type 0
IsCallee (Function name) = Is is_name_token name
IsCallee (callee.Null keyword) = Is is_null_word keyword
IsCallee (Method object p method) = Is is_name_token object × Is is_any_word method

-- there is one operand at least
abbrev pub HasOperand : Operands → Type 0
HasOperand NoOperand = ⊥
HasOperand (Operand o e rest) = Unit {0}

-- its tokens are those of the grammar, and each operand binds tighter than what it stands in
abbrev mutual
  pub IsExpression : Expression → Type 0
  IsExpression (Constant t) = Is is_constant t
  IsExpression (Null t) = Is is_null_word t
  IsExpression (Variable name) = Is is_name_token name
  IsExpression (Member object p member) = Is is_name_token object × Is is_any_word member
  IsExpression (Call f p xs q) = IsCallee f × AreArguments xs
  IsExpression (Parenthesis p e q) = IsExpression e
  IsExpression (Sign o e) = Is is_sign o × (IsExpression e × IsTighter 6 e)
  IsExpression (Chain kind e rest) = (IsExpression e × IsTighter (chain_level kind) e) × (AreOperands kind rest × HasOperand rest)
  IsExpression (Comparison a o b) = (IsExpression a × IsTighter 3 a) × Is is_comparison o × (IsExpression b × IsTighter 3 b)
  IsExpression (Not o e) = Is is_not o × (IsExpression e × IsTighter 1 e)

  -- each operator is of this kind, and each operand is of the grammar and binds tighter than the chain
  pub AreOperands : ChainKind → Operands → Type 0
  AreOperands kind NoOperand = Unit {0}
  AreOperands kind (Operand o e rest) = Is (is_operator kind) o × (IsExpression e × IsTighter (chain_level kind) e) × AreOperands kind rest

  -- the first has no comma before it, and each other one has
  pub AreArguments : Arguments → Type 0
  AreArguments NoArgument = Unit {0}
  AreArguments (Argument c e rest) = HasNoComma c × IsExpression e × AreFurther rest

  -- arguments behind another: each has a comma before it and is of the grammar
  pub AreFurther : Arguments → Type 0
  AreFurther NoArgument = Unit {0}
  AreFurther (Argument c e rest) = HasComma c × IsExpression e × AreFurther rest

-- ---- levels of nesting: a parenthesis, an argument list and a prefix operator each open one

abbrev mutual
  -- the tokens of an expression from the first one on that opens more than n levels
  pub expression_opens : Expression → ℕ → Option (List Token)
  expression_opens (Constant t) n = None
  expression_opens (Null t) n = None
  expression_opens (Variable name) n = None
  expression_opens (Member object p member) n = None
  expression_opens (Call f p xs q) n = one_in (argument_list_spelling p xs q) (λ m. first_opened (arguments_opens xs m) (close_mark q ∷ []) None) n
  expression_opens (Parenthesis p e q) n = one_in (expression_spelling (Parenthesis p e q)) (λ m. first_opened (expression_opens e m) (close_mark q ∷ []) None) n
  expression_opens (Sign o e) n = one_in (expression_spelling (Sign o e)) (expression_opens e) n
  expression_opens (Chain kind e rest) n = first_opened (expression_opens e n) (operands_spelling rest) (operands_opens rest n)
  expression_opens (Comparison a o b) n = first_opened (expression_opens a n) (o ∷ expression_spelling b) (expression_opens b n)
  expression_opens (Not o e) n = one_in (expression_spelling (Not o e)) (expression_opens e) n

  -- the tokens of the operands behind the first from the first one on that opens more than n levels
  pub operands_opens : Operands → ℕ → Option (List Token)
  operands_opens NoOperand n = None
  operands_opens (Operand o e rest) n = first_opened (expression_opens e n) (operands_spelling rest) (operands_opens rest n)

  -- the tokens of arguments from the first one on that opens more than n levels
  pub arguments_opens : Arguments → ℕ → Option (List Token)
  arguments_opens NoArgument n = None
  arguments_opens (Argument c e rest) n = first_opened (expression_opens e n) (arguments_spelling rest) (arguments_opens rest n)

-- an argument list opens a level at its `(`, also an empty one
abbrev pub argument_list_opens : Place → Arguments → Place → ℕ → Option (List Token)
argument_list_opens p xs q n = one_in (argument_list_spelling p xs q) (λ m. first_opened (arguments_opens xs m) (close_mark q ∷ []) None) n
