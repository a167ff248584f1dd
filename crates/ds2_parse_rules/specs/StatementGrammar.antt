-- The grammar of statements, as parsers on lists. m bounds the turns of each list, n the levels; `inner` reads a statement within one.
use Rattle.std.specs.Prelude.{◌≡◌, ℕ, zero, suc, Bool, ◌||◌, codes, List, [], ◌∷◌, Option, Some, None}
use Rattle.ds2_base.specs.declared.place.Place.{Place}
use Rattle.ds2_token.specs.declared.token.Token.{Token}
use Rattle.ds2_tree.specs.Parsers.{Parser, Either, One, Two, Spent, kept, choose_by, to, seq, many_of, optional, chain, closed}
use Rattle.ds2_tree.specs.declared.expressions.Callee.TheVariants as callee
use Rattle.ds2_tree.specs.declared.statements.PutItem.{PutItem}
use Rattle.ds2_tree.specs.declared.statements.PutItem.TheVariants as item
use Rattle.ds2_token.specs.Words.{is_any_word, is_text, is_one_of, is_name_token, is_table}
use Rattle.ds2_tree.specs.Expressions.{Expression, Argument}
use Rattle.ds2_tree.specs.Statements.{Selector, Step, DoControl, Block, Counted, Tested, Statement, Empty, Assignment, Call, Leave, Continue, Return, Output, Put, If, IfElse, Select, Do, Statements, NoStatement, Then, Whens, NoWhen, When, Otherwise, NoOtherwise, Otherwise', is_while_or_until, IsStatement, statement_spelling}
use Rattle.ds2_parse_rules.specs.GrammarTokens.{mark_rule, word_rule, is_open_mark, is_comma_mark, starts, enclosed}
use Rattle.ds2_parse_rules.specs.ExpressionGrammar.{ArgumentList, listed_further, begins_expression, expression, argument_list}

-- ---- tests on the next token

-- the mark `;`
abbrev pub is_semicolon_mark : Token → Bool
is_semicolon_mark t = is_one_of [] (codes ";" ∷ []) t

-- the mark `=`
abbrev pub is_equals_mark : Token → Bool
is_equals_mark t = is_one_of [] (codes "=" ∷ []) t

-- what may stand behind a name within an item: `=` or `.`
abbrev pub is_equals_or_dot : Token → Bool
is_equals_or_dot t = is_one_of [] (codes "=" ∷ codes "." ∷ []) t

-- the tokens with which an item begins: a text or a name
abbrev pub begins_item : Token → Bool
begins_item t = is_text t || is_name_token t

-- the tokens with which something begins between `do` and its `;`: a name, `while` or `until`
abbrev pub begins_control : Token → Bool
begins_control t = is_name_token t || is_while_or_until t

-- the words with which a statement begins
abbrev pub statement_words : List (List ℕ)
statement_words =
    codes "null" ∷ codes "leave" ∷ codes "continue" ∷ codes "return" ∷ codes "output" ∷ codes "put" ∷ codes "if" ∷ codes "select" ∷ codes "do" ∷ []

-- the tokens with which a statement begins
abbrev pub begins_statement : Token → Bool
begins_statement t = is_name_token t || is_one_of statement_words (codes ";" ∷ []) t

-- ---- items of `put`

-- what may stand behind the name of an item: `=`, or `.` and a word
abbrev pub ItemTail : Type 0
ItemTail = Option (Either Place (Place × Token))

-- an item that begins with a name, by what stands behind it
abbrev pub named_item : Token → ItemTail → PutItem
named_item name None = item.Variable name None
named_item name (Some (One p)) = item.Variable name (Some p)
named_item name (Some (Two x)) = item.Member name x.0 x.1

-- a text, or an item that begins with a name
abbrev pub item_of : Either Token (Token × ItemTail) → PutItem
item_of (One t) = item.Text t
item_of (Two x) = named_item x.0 x.1

-- text | name ["="] | name "." word
abbrev pub item_tail : Parser ItemTail
item_tail = optional is_equals_or_dot (choose_by is_equals_mark (to One (mark_rule (codes "="))) (to Two (seq (mark_rule (codes ".")) (kept is_any_word))))

-- text | name ["="] | name "." word
abbrev pub item_rule : Parser PutItem
item_rule = to item_of (choose_by is_text (to One (kept is_text)) (to Two (seq (kept is_name_token) item_tail)))

-- ---- what stands between `do` and its `;`

-- the parts of a counted loop, as they are read
abbrev pub CountedTree : Type 0
CountedTree = Token × (Place × (Expression × (Token × (Expression × Option (Token × Expression)))))

-- the step of a counted loop, where it has one
abbrev pub step_of : Option (Token × Expression) → Option Step
step_of None = None
step_of (Some x) = Some (record { keyword = x.0; value = x.1 })

-- what stands between `do` and its `;`: nothing, a count, or a tested condition
abbrev pub control_of : Option (Either CountedTree (Token × (Place × (Expression × Place)))) → DoControl
control_of None = Block
control_of (Some (One x)) = Counted x.0 x.1.0 x.1.1.0 x.1.1.1.0 x.1.1.1.1.0 (step_of x.1.1.1.1.1)
control_of (Some (Two x)) = Tested x.0 x.1.0 x.1.1.0 x.1.1.1

-- name "=" expr "to" expr ["by" expr]
abbrev pub counted_rule : Parser Expression → Parser CountedTree
counted_rule e = seq (kept is_name_token) (seq (mark_rule (codes "=")) (seq e (seq (word_rule (codes "to")) (seq e (optional (starts (codes "by")) (seq (word_rule (codes "by")) e))))))

-- [ counted | ("while"|"until") "(" expr ")" ]
abbrev pub control_rule : Parser Expression → Parser DoControl
control_rule e = to control_of (optional begins_control (choose_by is_name_token (to One (counted_rule e)) (to Two (seq (kept is_while_or_until) (enclosed e)))))

-- ---- an `if`: one that is an else part goes on with the same rule; at most j of them

-- an `if`, with an else part where one was read
abbrev pub if_else_of : Token → Expression → Token → Statement → Option (Token × Statement) → Statement
if_else_of k e t s None = If k e t s
if_else_of k e t s (Some x) = IfElse k e t s x.0 x.1

-- "if" expr "then" stmt [ "else" stmt ]
abbrev pub if_rule : ℕ → Parser Expression → Parser Statement → Parser Statement
if_rule zero e inner = λ ts. Spent
if_rule (suc j) e inner =
    to (λ x. if_else_of x.0 x.1.0 x.1.1.0 x.1.1.1.0 x.1.1.1.1)
    (seq (word_rule (codes "if")) (seq e (seq (word_rule (codes "then")) (seq inner
    (optional (starts (codes "else")) (seq (word_rule (codes "else")) (choose_by (starts (codes "if")) (if_rule j e inner) inner)))))))

-- ---- a selection

-- the parts of one `when`, as they are read
abbrev pub WhenTree : Type 0
WhenTree = Token × (Place × ((Expression × List (Place × Expression)) × (Place × Statement)))

-- the `when` parts of a selection, one behind the other
abbrev pub listed_whens : List WhenTree → Whens
listed_whens [] = NoWhen
listed_whens (x ∷ l) = When x.0 x.1.0 (Argument None x.1.1.0.0 (listed_further x.1.1.0.1)) x.1.1.1.0 x.1.1.1.1 (listed_whens l)

-- what stands in parentheses behind `select`, where there is something
abbrev pub selector_of : Option (Place × (Expression × Place)) → Option Selector
selector_of None = None
selector_of (Some x) = Some (record { opening = x.0; value = x.1.0; closing = x.1.1 })

-- the last part of a selection, where it has one
abbrev pub otherwise_of : Option (Token × Statement) → Otherwise
otherwise_of None = NoOtherwise
otherwise_of (Some x) = Otherwise' x.0 x.1

-- the parts of a selection, as they are read
abbrev pub SelectTree : Type 0
SelectTree = Token × (Option (Place × (Expression × Place)) × (Place × (List WhenTree × (Option (Token × Statement) × (Token × Place)))))

-- "when" "(" expr { "," expr } ")" stmt
abbrev pub when_rule : ℕ → Parser Expression → Parser Statement → Parser WhenTree
when_rule m e inner = seq (word_rule (codes "when")) (seq (mark_rule (codes "(")) (seq (chain m is_comma_mark (mark_rule (codes ",")) e) (seq (mark_rule (codes ")")) inner)))

-- "select" [ "(" expr ")" ] ";" { when } [ "otherwise" stmt ] "end" ";"
abbrev pub select_rule : ℕ → Parser Expression → Parser Statement → Parser SelectTree
select_rule m e inner =
    seq (word_rule (codes "select")) (seq (optional is_open_mark (enclosed e)) (seq (mark_rule (codes ";"))
    (seq (many_of m (starts (codes "when")) (when_rule m e inner)) (seq (optional (starts (codes "otherwise")) (seq (word_rule (codes "otherwise")) inner)) (seq (word_rule (codes "end")) (mark_rule (codes ";")))))))

-- ---- a block or a loop

-- statements, one behind the other
abbrev pub listed_statements : List Statement → Statements
listed_statements [] = NoStatement
listed_statements (s ∷ l) = Then s (listed_statements l)

-- the parts of a block or a loop, as they are read
abbrev pub DoTree : Type 0
DoTree = Token × (DoControl × (Place × (List Statement × (Token × Place))))

-- "do" control ";" { stmt } "end" ";"
abbrev pub do_rule : ℕ → Parser Expression → Parser Statement → Parser DoTree
do_rule m e inner =
    seq (word_rule (codes "do")) (seq (control_rule e) (seq (mark_rule (codes ";")) (seq (many_of m begins_statement inner) (seq (word_rule (codes "end")) (mark_rule (codes ";"))))))

-- ---- a statement that begins with a name, or with `null`

-- an argument list and the `;` behind it
abbrev pub Ended : Type 0
Ended = ArgumentList × Place

-- what stands behind the name of a statement: an assignment, a call, or the call of a method of an instance
abbrev pub NamedTail : Type 0
NamedTail = Either (Place × (Expression × Place)) (Either Ended (Place × (Token × Ended)))

-- "=" expr ";" | args ";" | "." word args ";"
abbrev pub named_tail : Parser Expression → Parser ArgumentList → Parser NamedTail
named_tail e args =
    choose_by is_equals_mark (to One (seq (mark_rule (codes "=")) (seq e (mark_rule (codes ";"))))) (to Two
    (choose_by is_open_mark (to One (seq args (mark_rule (codes ";")))) (to Two (seq (mark_rule (codes ".")) (seq (kept is_any_word) (seq args (mark_rule (codes ";"))))))))

-- a statement that begins with a name, by what stands behind it
abbrev pub named_statement : Token → NamedTail → Statement
named_statement name (One x) = Assignment name x.0 x.1.0 x.1.1
named_statement name (Two (One x)) = Call (callee.Function name) x.0.0 x.0.1.0 x.0.1.1 x.1
named_statement name (Two (Two x)) = Call (callee.Method name x.0 x.1.0) x.1.1.0.0 x.1.1.0.1.0 x.1.1.0.1.1 x.1.1.1

-- ---- all statements

-- a keyword and its `;`, as they are read
abbrev pub Plain : Type 0
Plain = Token × Place

-- a keyword and ";"
abbrev pub plain_rule : List ℕ → Parser Plain
plain_rule spelling = seq (word_rule spelling) (mark_rule (codes ";"))

-- an `if`, a selection, or a block or loop
abbrev pub Last4 : Type 0
Last4 = Either Statement (Either SelectTree DoTree)

-- `return`, `output`, `put`, or one of the last kinds
abbrev pub Last7 : Type 0
Last7 = Either (Token × (Option Expression × Place)) (Either (Token × (List Token × Place)) (Either (Token × (List PutItem × Place)) Last4))

-- a statement as it is read, by its kind
abbrev pub StatementTree : Type 0
StatementTree = Either Place (Either (Token × NamedTail) (Either (Token × Ended) (Either Plain (Either Plain Last7))))

-- the statement of what was read, by its kind
abbrev pub statement_of_kind : StatementTree → Statement
statement_of_kind (One p) = Empty p
statement_of_kind (Two (One x)) = named_statement x.0 x.1
statement_of_kind (Two (Two (One x))) = Call (callee.Null x.0) x.1.0.0 x.1.0.1.0 x.1.0.1.1 x.1.1
statement_of_kind (Two (Two (Two (One x)))) = Leave x.0 x.1
statement_of_kind (Two (Two (Two (Two (One x))))) = Continue x.0 x.1
statement_of_kind (Two (Two (Two (Two (Two (One x)))))) = Return x.0 x.1.0 x.1.1
statement_of_kind (Two (Two (Two (Two (Two (Two (One x))))))) = Output x.0 x.1.0 x.1.1
statement_of_kind (Two (Two (Two (Two (Two (Two (Two (One x)))))))) = Put x.0 x.1.0 x.1.1
statement_of_kind (Two (Two (Two (Two (Two (Two (Two (Two (One s))))))))) = s
statement_of_kind (Two (Two (Two (Two (Two (Two (Two (Two (Two (One x)))))))))) = Select x.0 (selector_of x.1.0) x.1.1.0 (listed_whens x.1.1.1.0) (otherwise_of x.1.1.1.1.0) x.1.1.1.1.1.0 x.1.1.1.1.1.1
statement_of_kind (Two (Two (Two (Two (Two (Two (Two (Two (Two (Two x)))))))))) = Do x.0 x.1.0 x.1.1.0 (listed_statements x.1.1.1.0) x.1.1.1.1.0 x.1.1.1.1.1

-- an `if`, a selection, or a block or loop, by its word
abbrev pub last4_rule : ℕ → Parser Expression → Parser Statement → Parser Last4
last4_rule m e inner = choose_by (starts (codes "if")) (to One (if_rule m e inner)) (to Two (choose_by (starts (codes "select")) (to One (select_rule m e inner)) (to Two (do_rule m e inner))))

-- `return`, `output`, `put`, or one of the last kinds, by its word
abbrev pub last7_rule : ℕ → Parser Expression → Parser Statement → Parser Last7
last7_rule m e inner =
    choose_by (starts (codes "return")) (to One (seq (word_rule (codes "return")) (seq (optional begins_expression e) (mark_rule (codes ";"))))) (to Two
    (choose_by (starts (codes "output")) (to One (seq (word_rule (codes "output")) (seq (many_of m is_table (kept is_table)) (mark_rule (codes ";"))))) (to Two
    (choose_by (starts (codes "put")) (to One (seq (word_rule (codes "put")) (seq (many_of m begins_item item_rule) (mark_rule (codes ";"))))) (to Two (last4_rule m e inner))))))

-- a statement, by its first token; `inner` reads a statement within one
abbrev pub statement_with : ℕ → Parser Expression → Parser ArgumentList → Parser Statement → Parser Statement
statement_with m e args inner =
    to statement_of_kind (choose_by is_semicolon_mark (to One (mark_rule (codes ";"))) (to Two
    (choose_by is_name_token (to One (seq (kept is_name_token) (named_tail e args))) (to Two
    (choose_by (starts (codes "null")) (to One (seq (word_rule (codes "null")) (seq args (mark_rule (codes ";"))))) (to Two
    (choose_by (starts (codes "leave")) (to One (plain_rule (codes "leave"))) (to Two
    (choose_by (starts (codes "continue")) (to One (plain_rule (codes "continue"))) (to Two (last7_rule m e inner)))))))))))

-- a statement, within n levels
abbrev pub statement_rule : ℕ → ℕ → Parser Statement
statement_rule m zero = statement_with m (expression m zero) (argument_list m zero) (closed begins_statement)
statement_rule m (suc n) = statement_with m (expression m (suc n)) (argument_list m (suc n)) (statement_rule m n)

-- two statements of the grammar with one spelling are one
abbrev pub StatementsHaveOneTree : Type 0
StatementsHaveOneTree = (x y : Statement) → IsStatement x → IsStatement y → statement_spelling x ≡ statement_spelling y → x ≡ y
