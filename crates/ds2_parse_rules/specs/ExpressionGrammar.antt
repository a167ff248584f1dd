-- The grammar of expressions, as parsers on lists. m bounds the turns of each list, n the levels.
use Rattle.std.specs.Prelude.{◌≡◌, ℕ, zero, suc, Bool, ◌||◌, codes, List, [], ◌∷◌, Option, Some, None}
use Rattle.ds2_base.specs.declared.place.Place.{Place}
use Rattle.ds2_token.specs.declared.token.Token.{Token}
use Rattle.ds2_tree.specs.Parsers.{Parser, Either, One, Two, kept, choose_by, to, seq, optional, chain, closed}
use Rattle.ds2_tree.specs.declared.expressions.ChainKind.{ChainKind}
use Rattle.ds2_tree.specs.declared.expressions.ChainKind.TheVariants.{Or, And, Concatenation, Sum, Product}
use Rattle.ds2_tree.specs.declared.expressions.Callee.TheVariants as callee
use Rattle.ds2_token.specs.Words.{is_any_word, is_one_of, is_name_token}
use Rattle.ds2_tree.specs.Expressions.{Expression, Constant, Null, Variable, Member, Call, Parenthesis, Sign, Chain, Comparison, Not, Operands, NoOperand, Operand, Arguments, NoArgument, Argument, is_constant, is_null_word, is_sign, is_not, is_comparison, is_operator, IsExpression, expression_spelling}
use Rattle.ds2_parse_rules.specs.GrammarTokens.{mark_rule, is_open_mark, is_comma_mark}

-- "(" [args] ")"
abbrev pub ArgumentList : Type 0
ArgumentList = Place × (Arguments × Place)

-- what may stand behind a name: an argument list, or "." word with one or without
abbrev pub Tail : Type 0
Tail = Option (Either ArgumentList (Place × (Token × Option ArgumentList)))

-- ---- trees of what is read

-- the operands behind the first, each behind its operator
abbrev pub operands : List (Token × Expression) → Operands
operands [] = NoOperand
operands (x ∷ l) = Operand x.0 x.1 (operands l)

-- a chain of operators of one kind, or the operand alone where no operator stands behind it
abbrev pub chain_of : ChainKind → Expression → List (Token × Expression) → Expression
chain_of kind e [] = e
chain_of kind e (x ∷ l) = Chain kind e (operands (x ∷ l))

-- a comparison, or the operand alone where no operator stands behind it
abbrev pub comparison_of : Expression → Option (Token × Expression) → Expression
comparison_of a None = a
comparison_of a (Some x) = Comparison a x.0 x.1

-- arguments behind another, each behind its comma
abbrev pub listed_further : List (Place × Expression) → Arguments
listed_further [] = NoArgument
listed_further (x ∷ l) = Argument (Some x.0) x.1 (listed_further l)

-- the arguments between the parentheses of a call
abbrev pub listed_arguments : Option (Expression × List (Place × Expression)) → Arguments
listed_arguments None = NoArgument
listed_arguments (Some x) = Argument None x.0 (listed_further x.1)

-- the word `null`: a call where an argument list stands behind it, or else the constant
abbrev pub null_of : Token → Option ArgumentList → Expression
null_of t None = Null t
null_of t (Some a) = Call (callee.Null t) a.0 a.1.0 a.1.1

-- a name, `.` and a word: a call where an argument list stands behind them, or else a member
abbrev pub member_of : Token → Place → Token → Option ArgumentList → Expression
member_of object p w None = Member object p w
member_of object p w (Some a) = Call (callee.Method object p w) a.0 a.1.0 a.1.1

-- what begins with a name, by what stands behind it
abbrev pub named_of : Token → Tail → Expression
named_of name None = Variable name
named_of name (Some (One a)) = Call (callee.Function name) a.0 a.1.0 a.1.1
named_of name (Some (Two x)) = member_of name x.0 x.1.0 x.1.1

-- a constant, the word `null`, what begins with a name, or a parenthesis
abbrev pub Primary : Type 0
Primary = Either Token (Either (Token × Option ArgumentList) (Either (Token × Tail) (Place × (Expression × Place))))

-- the expression of what stands where no operator does
abbrev pub primary_of : Primary → Expression
primary_of (One t) = Constant t
primary_of (Two (One x)) = null_of x.0 x.1
primary_of (Two (Two (One x))) = named_of x.0 x.1
primary_of (Two (Two (Two x))) = Parenthesis x.0 x.1.0 x.1.1

-- a sign and its operand, or an expression without a sign
abbrev pub unary_of : Either (Token × Expression) Expression → Expression
unary_of (One x) = Sign x.0 x.1
unary_of (Two e) = e

-- a negation and its operand, or an expression without one
abbrev pub negation_of : Either (Token × Expression) Expression → Expression
negation_of (One x) = Not x.0 x.1
negation_of (Two e) = e

-- ---- rules: `args`, `paren`, `sign` and `negation` read what opens a level

-- the tokens with which an expression begins
abbrev pub begins_expression : Token → Bool
begins_expression t = is_constant t || is_name_token t || is_one_of (codes "null" ∷ codes "not" ∷ []) (codes "(" ∷ codes "-" ∷ codes "+" ∷ codes "^" ∷ codes "~" ∷ []) t

-- what may stand behind a name within an expression: `(` or `.`
abbrev pub is_open_or_dot : Token → Bool
is_open_or_dot t = is_one_of [] (codes "(" ∷ codes "." ∷ []) t

-- "." word [ "(" [args] ")" ]
abbrev pub member_tail : Parser ArgumentList → Parser (Place × (Token × Option ArgumentList))
member_tail args = seq (mark_rule (codes ".")) (seq (kept is_any_word) (optional is_open_mark args))

-- [ args | "." word [ args ] ]
abbrev pub name_tail : Parser ArgumentList → Parser Tail
name_tail args = optional is_open_or_dot (choose_by is_open_mark (to One args) (to Two (member_tail args)))

-- integer | decimal | text | "null" | name | name "." word | call | "(" expr ")"
abbrev pub primary : Parser ArgumentList → Parser (Place × (Expression × Place)) → Parser Expression
primary args paren =
    to primary_of (choose_by is_constant (to One (kept is_constant)) (to Two
    (choose_by is_null_word (to One (seq (kept is_null_word) (optional is_open_mark args))) (to Two
    (choose_by is_name_token (to One (seq (kept is_name_token) (name_tail args))) (to Two paren))))))

-- operand { operator operand }, all operators of one kind
abbrev pub operators : ℕ → ChainKind → Parser Expression → Parser Expression
operators m kind operand = to (λ x. chain_of kind x.0 x.1) (chain m (is_operator kind) (kept (is_operator kind)) operand)

-- cat [cmp cat]
abbrev pub comparison_rule : Parser Expression → Parser Expression
comparison_rule operand = to (λ x. comparison_of x.0 x.1) (seq operand (optional is_comparison (seq (kept is_comparison) operand)))

-- ("-"|"+") unary | prim
abbrev pub unary_with : Parser (Token × Expression) → Parser Expression → Parser Expression
unary_with sign prim = to unary_of (choose_by is_sign (to One sign) (to Two prim))

-- comp = cat [cmp cat], cat = sum { "||" sum }, sum = prod { ("+"|"-") prod }, prod = unary { ("*"|"/") unary }
abbrev pub comparison_with : ℕ → Parser Expression → Parser Expression
comparison_with m unary = comparison_rule (operators m Concatenation (operators m Sum (operators m Product unary)))

-- ("not"|"^"|"~") neg | comp
abbrev pub negation_with : ℕ → Parser (Token × Expression) → Parser Expression → Parser Expression
negation_with m negation unary = to negation_of (choose_by is_not (to One negation) (to Two (comparison_with m unary)))

-- expr = conj { ("or"|"|") conj }, conj = neg { ("and"|"&") neg }
abbrev pub expression_with : ℕ → Parser Expression → Parser Expression
expression_with m neg = operators m Or (operators m And neg)

-- "(" [ expr { "," expr } ] ")"
abbrev pub args_with : ℕ → Parser Expression → Parser ArgumentList
args_with m e = seq (mark_rule (codes "(")) (seq (to listed_arguments (optional begins_expression (chain m is_comma_mark (mark_rule (codes ",")) e))) (mark_rule (codes ")")))

-- "(" expr ")"
abbrev pub paren_with : Parser Expression → Parser (Place × (Expression × Place))
paren_with e = seq (mark_rule (codes "(")) (seq e (mark_rule (codes ")")))

-- an operand of a sign, an operand of `not`, and an expression, within n levels
abbrev pub unary_at : Parser ArgumentList → Parser (Place × (Expression × Place)) → Parser (Token × Expression) → Parser Expression
unary_at args paren sign = unary_with sign (primary args paren)

-- the rules of an operand of a sign, of an operand of `not`, and of an expression, within n levels; m bounds the turns
abbrev pub three : ℕ → ℕ → Parser Expression × (Parser Expression × Parser Expression)
three m zero =
    let u = unary_at (closed is_open_mark) (closed is_open_mark) (closed is_sign) in
    let g = negation_with m (closed is_not) u in
    (u, (g, expression_with m g))
three m (suc n) =
    let u = unary_at (args_with m (three m n).1.1) (paren_with (three m n).1.1) (seq (kept is_sign) (three m n).0) in
    let g = negation_with m (seq (kept is_not) (three m n).1.0) u in
    (u, (g, expression_with m g))

-- an expression, within n levels
abbrev pub expression : ℕ → ℕ → Parser Expression
expression m n = (three m n).1.1

-- an argument list, within n levels
abbrev pub argument_list : ℕ → ℕ → Parser ArgumentList
argument_list m zero = closed is_open_mark
argument_list m (suc n) = args_with m (expression m n)

-- two expressions of the grammar with one spelling are one
abbrev pub ExpressionsHaveOneTree : Type 0
ExpressionsHaveOneTree = (x y : Expression) → IsExpression x → IsExpression y → expression_spelling x ≡ expression_spelling y → x ≡ y
