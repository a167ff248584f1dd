-- The laws of expressions.
use Rattle.std.proofs.Common.{◌≡◌, ℕ, zero, suc, nat_lt, ◌||◌, ap₂, true, false, codes, List, [], ◌∷◌, ◌++◌, length, ◌<◌, Option, Some, None, refl, sym, ap, ◌∙◌, arith, lit≤, ◌≤◌, append_assoc}
use Rattle.std.proofs.lemmas.List.{append-nil}
use Rattle.std.proofs.lemmas.Bool.Decides.{nat_tests}
use Rattle.ds2_base.specs.declared.place.Place.{Place}
use Rattle.ds2_token.specs.declared.token.Token.{Token}
use Rattle.ds2_tree.specs.Levels.{first_opened}
use Rattle.ds2_tree.specs.Parsers.{ParserOutcome, Read, Parser, Either, One, Two, first, kept, when, choose_by, to, seq, optional, chain, closed}
use Rattle.ds2_tree.proofs.Goes.{goes}
use Rattle.ds2_tree.proofs.Words.{Part, Law, Passes, kept_part, kept_law, then_part, then_less, token_then, to_law, choice_part, choice_law, optional_part, optional_law, flat, flat_opens, each, many_part, chain_law, pair_law, link_part, closed_law, narrow_part}
use Rattle.ds2_tree.specs.declared.expressions.ChainKind.{ChainKind}
use Rattle.ds2_tree.specs.declared.expressions.ChainKind.TheVariants.{Or, And, Concatenation, Sum, Product}
use Rattle.ds2_tree.specs.declared.expressions.Callee.TheVariants as callee
use Rattle.ds2_token.specs.Words.{integer_kind, decimal_kind, text_kind, is_any_word, is_mark, is_one_of, is_name_token, mark_at}
use Rattle.ds2_tree.specs.Marks.{open_mark, close_mark, comma_mark, dot_mark}
use Rattle.ds2_tree.specs.Expressions.{Expression, Constant, Null, Variable, Member, Call, Parenthesis, Sign, Chain, Comparison, Not, Operands, NoOperand, Operand, Arguments, NoArgument, Argument, is_constant, is_null_word, is_sign, is_not, is_comparison, is_operator, chain_level, operator_level, IsTighter, IsExpression, AreOperands, AreArguments, AreFurther, expression_spelling, operands_spelling, arguments_spelling, argument_list_spelling, expression_opens, operands_opens, arguments_opens, argument_list_opens}
use Rattle.ds2_parse_rules.specs.GrammarTokens.{mark_rule, is_open_mark, is_dot_mark, is_comma_mark}
use Rattle.ds2_parse_rules.specs.ExpressionGrammar.{ArgumentList, Tail, operands, chain_of, comparison_of, listed_further, listed_arguments, Primary, primary_of, unary_of, negation_of, begins_expression, is_open_or_dot, member_tail, name_tail, primary, operators, comparison_rule, unary_with, comparison_with, negation_with, expression_with, args_with, paren_with, unary_at, three, expression, argument_list}
use Rattle.ds2_parse_statements.proofs.Refine.{refined_law, enclosed_part, deeper_law}
use Rattle.ds2_parse_rules.proofs.GrammarTokenLaws.{never, only_mark, or_cases, or_false, word_kinded, word_value, others, among_more, constant_is_none, name_is_none, name_is_no_constant, place_part, mark_law, Behind, start, zero_token, word_token, or_last}

-- ---- what stands behind an expression, by how tightly it binds

abbrev pub NoTail : Option Token → Type 0
NoTail o = (when is_open_mark o ≡ false) × (when is_dot_mark o ≡ false)

abbrev pub AfterProduct : Option Token → Type 0
AfterProduct o = Behind (is_operator Product) NoTail o

abbrev pub AfterSum : Option Token → Type 0
AfterSum o = Behind (is_operator Sum) AfterProduct o

abbrev pub AfterConcatenation : Option Token → Type 0
AfterConcatenation o = Behind (is_operator Concatenation) AfterSum o

abbrev pub AfterComparison : Option Token → Type 0
AfterComparison o = Behind is_comparison AfterConcatenation o

abbrev pub AfterAnd : Option Token → Type 0
AfterAnd o = Behind (is_operator And) AfterComparison o

abbrev pub AfterExpression : Option Token → Type 0
AfterExpression o = Behind (is_operator Or) AfterAnd o

-- ---- the symbols, at n levels

-- expressions that bind tighter than a level
abbrev pub tight_part : ℕ → (Option Token → Type 0) → ℕ → Part Expression
tight_part level After n = record { spelling = expression_spelling; Fine = λ e. IsExpression e × IsTighter level e; opens = λ e. expression_opens e n; Next = λ e o. After o; Left = λ e o. Unit {0} }

abbrev pub expression_part : ℕ → Part Expression
expression_part n = record { spelling = expression_spelling; Fine = IsExpression; opens = λ e. expression_opens e n; Next = λ e o. AfterExpression o; Left = λ e o. Unit {0} }

abbrev pub list_spelling : ArgumentList → List Token
list_spelling a = argument_list_spelling a.0 a.1.0 a.1.1

abbrev pub list_part : ℕ → Part ArgumentList
list_part n = record { spelling = list_spelling; Fine = λ a. AreArguments a.1.0; opens = λ a. argument_list_opens a.0 a.1.0 a.1.1 n; Next = λ a o. Unit {0}; Left = λ a o. Unit {0} }

abbrev pub paren_part : ℕ → Part (Place × (Expression × Place))
paren_part n = record { spelling = λ x. expression_spelling (Parenthesis x.0 x.1.0 x.1.1); Fine = λ x. IsExpression x.1.0; opens = λ x. expression_opens (Parenthesis x.0 x.1.0 x.1.1) n; Next = λ a o. Unit {0}; Left = λ a o. Unit {0} }

abbrev pub sign_part : ℕ → Part (Token × Expression)
sign_part n = record { spelling = λ x. x.0 ∷ expression_spelling x.1; Fine = λ x. Passes is_sign x.0 × (IsExpression x.1 × IsTighter 6 x.1) × Unit {0}; opens = λ x. expression_opens (Sign x.0 x.1) n; Next = λ x o. NoTail o; Left = λ a o. Unit {0} }

abbrev pub not_part : ℕ → Part (Token × Expression)
not_part n = record { spelling = λ x. x.0 ∷ expression_spelling x.1; Fine = λ x. Passes is_not x.0 × (IsExpression x.1 × IsTighter 1 x.1) × Unit {0}; opens = λ x. expression_opens (Not x.0 x.1) n; Next = λ x o. AfterComparison o; Left = λ a o. Unit {0} }

pub first_of_nil : (o : Option (List Token)) → o ≡ first_opened o [] None
first_of_nil None = refl
first_of_nil (Some b) = ap Some (sym (append-nil b))

-- ---- a chain of operators of one kind

abbrev operand_list : Operands → List (Token × Expression)
operand_list NoOperand = []
operand_list (Operand o e rest) = (o, e) ∷ operand_list rest

operands_list : (os : Operands) → operands (operand_list os) ≡ os
operands_list NoOperand = refl
operands_list (Operand o e rest) = ap (Operand o e) (operands_list rest)

-- what binds tighter than the next looser level
abbrev pub Within : ChainKind → Expression → Type 0
Within Or e = Unit {0}
Within And e = IsTighter 0 e
Within Concatenation e = IsTighter 3 e
Within Sum e = IsTighter 4 e
Within Product e = IsTighter 5 e

abbrev pub chained_part : ChainKind → (Option Token → Type 0) → ℕ → Part Expression
chained_part kind After n = record { spelling = expression_spelling; Fine = λ e. IsExpression e × Within kind e; opens = λ e. expression_opens e n; Next = λ e o. Behind (is_operator kind) After o; Left = λ e o. Unit {0} }

abbrev unchain : ChainKind → Expression → Expression × List (Token × Expression)
unchain Or (Chain Or e rest) = (e, operand_list rest)
unchain And (Chain And e rest) = (e, operand_list rest)
unchain Concatenation (Chain Concatenation e rest) = (e, operand_list rest)
unchain Sum (Chain Sum e rest) = (e, operand_list rest)
unchain Product (Chain Product e rest) = (e, operand_list rest)
unchain kind e = (e, [])

rechained : (kind : ChainKind) (e : Expression) (rest : Operands) → IsExpression (Chain kind e rest) → chain_of kind e (operand_list rest) ≡ Chain kind e rest
rechained kind e NoOperand f = absurd f.1.1
rechained kind e (Operand o a rest) f = ap (λ os. Chain kind e (Operand o a os)) (operands_list rest)

unchained : (kind : ChainKind) (e : Expression) → IsExpression e → chain_of kind (unchain kind e).0 (unchain kind e).1 ≡ e
unchained Or (Chain Or e rest) f = rechained Or e rest f
unchained And (Chain And e rest) f = rechained And e rest f
unchained Concatenation (Chain Concatenation e rest) f = rechained Concatenation e rest f
unchained Sum (Chain Sum e rest) f = rechained Sum e rest f
unchained Product (Chain Product e rest) f = rechained Product e rest f
unchained kind e f = refl

-- ---- how tightly

pub weaker : (a b c : ℕ) → a ≤ b → nat_lt b c ≡ true → nat_lt a c ≡ true
weaker a b c le h = grind (arith, nat_tests)

looser : (kind : ChainKind) (e : Expression) → IsTighter (chain_level kind) e → Within kind e
looser Or e h = tt
looser And e h = weaker 0 1 (operator_level e) (lit≤ tt) h
looser Concatenation e h = weaker 3 4 (operator_level e) (lit≤ tt) h
looser Sum e h = weaker 4 5 (operator_level e) (lit≤ tt) h
looser Product e h = weaker 5 6 (operator_level e) (lit≤ tt) h

itself : (kind : ChainKind) (e : Expression) (rest : Operands) → Within kind (Chain kind e rest)
itself Or e rest = tt
itself And e rest = refl
itself Concatenation e rest = refl
itself Sum e rest = refl
itself Product e rest = refl

abbrev LinkFine : ChainKind → Token × Expression → Type 0
LinkFine kind x = Passes (is_operator kind) x.0 × (IsExpression x.1 × IsTighter (chain_level kind) x.1) × Unit {0}

abbrev PartsFine : ChainKind → Expression × List (Token × Expression) → Type 0
PartsFine kind x = (IsExpression x.0 × IsTighter (chain_level kind) x.0) × each (LinkFine kind) x.1 × Unit {0}

each_of : (kind : ChainKind) (os : Operands) → AreOperands kind os → each (LinkFine kind) (operand_list os)
each_of kind NoOperand h = tt
each_of kind (Operand o e rest) h = ((h.0, h.1, tt), each_of kind rest h.2)

parted : (kind : ChainKind) (e : Expression) → IsExpression e → Within kind e → PartsFine kind (unchain kind e)
parted Or (Chain Or e rest) f w = (f.0, each_of Or rest f.1.0, tt)
parted And (Chain And e rest) f w = (f.0, each_of And rest f.1.0, tt)
parted Concatenation (Chain Concatenation e rest) f w = (f.0, each_of Concatenation rest f.1.0, tt)
parted Sum (Chain Sum e rest) f w = (f.0, each_of Sum rest f.1.0, tt)
parted Product (Chain Product e rest) f w = (f.0, each_of Product rest f.1.0, tt)
parted Or e f w = ((f, refl), tt, tt)
parted kind e f w = ((f, w), tt, tt)

module _ (m n : ℕ) (kind : ChainKind) (After : Option Token → Type 0) (known : (t : Token) × Passes (is_operator kind) t)
    (goes_on : (o : Token) → Passes (is_operator kind) o → After (Some o)) (p : Parser Expression) (l : Law m n (tight_part (chain_level kind) After n) p) where
  abbrev inner : Part Expression
  inner = tight_part (chain_level kind) After n

  abbrev link : Part (Token × Expression)
  link = link_part (λ t. t) (Passes (is_operator kind)) inner

  abbrev Stop : Option Token → Type 0
  Stop o = Behind (is_operator kind) After o

  abbrev parts : Part (Expression × List (Token × Expression))
  parts = then_part inner (many_part Stop link)

  operands_flat : (l : List (Token × Expression)) → operands_spelling (operands l) ≡ flat link.spelling l
  operands_flat [] = refl
  operands_flat (x ∷ l) = ap (λ (y : List Token). x.0 ∷ (expression_spelling x.1 ++ y)) (operands_flat l)

  operands_open : (l : List (Token × Expression)) → operands_opens (operands l) n ≡ flat_opens link.spelling link.opens l
  operands_open [] = refl
  operands_open (x ∷ l) =
      ap (λ y. first_opened (expression_opens x.1 n) y (operands_opens (operands l) n)) (operands_flat l)
      ∙ ap (first_opened (expression_opens x.1 n) (flat link.spelling l)) (operands_open l)

  each_operand : (l : List (Token × Expression)) → each link.Fine l → AreOperands kind (operands l)
  each_operand [] h = tt
  each_operand (x ∷ l) h = (h.0.0, h.0.1, each_operand l h.1)

  spelled : (x : Expression × List (Token × Expression)) → expression_spelling (chain_of kind x.0 x.1) ≡ parts.spelling x
  spelled (e, []) = sym (append-nil (expression_spelling e))
  spelled (e, x ∷ l) = ap (λ (y : List Token). expression_spelling e ++ (x.0 ∷ (expression_spelling x.1 ++ y))) (operands_flat l)

  opened : (x : Expression × List (Token × Expression)) → expression_opens (chain_of kind x.0 x.1) n ≡ parts.opens x
  opened (e, []) = first_of_nil (expression_opens e n)
  opened (e, x ∷ l) =
      ap (λ (y : List Token). first_opened (expression_opens e n) (x.0 ∷ (expression_spelling x.1 ++ y)) (first_opened (expression_opens x.1 n) (operands_spelling (operands l)) (operands_opens (operands l) n))) (operands_flat l)
      ∙ ap (first_opened (expression_opens e n) (flat link.spelling (x ∷ l))) (operands_open (x ∷ l))

  fine : (x : Expression × List (Token × Expression)) → parts.Fine x → IsExpression (chain_of kind x.0 x.1) × Within kind (chain_of kind x.0 x.1)
  fine (e, []) f = (f.0.0, looser kind e f.0.1)
  fine (e, x ∷ l) f = ((f.0, (each_operand (x ∷ l) f.1, tt)), itself kind e (operands (x ∷ l)))

  pub operators_law : Law m n (chained_part kind After n) (operators m kind p)
  operators_law =
      to_law m n parts (chained_part kind After n) (chain m (is_operator kind) (kept (is_operator kind)) p)
      (chain_law m n inner p l (λ t. t) (Passes (is_operator kind)) (kept (is_operator kind)) (kept_law m n (is_operator kind) known) (is_operator kind) (λ o f. f) (λ a o f g. goes_on o g) Stop (λ o h. h.0) (λ a o f h. h.1))
      (λ x. chain_of kind x.0 x.1) (unchain kind) (λ e f. unchained kind e f.0) spelled opened fine (λ e f. parted kind e f.0 f.1) (λ x o f g. g) (λ x o f g. tt)

-- ---- tokens that are known, and what operators do not begin

abbrev pub mark_token : List ℕ → Token
mark_token m = mark_at m start

product_on : (o : Token) → Passes (is_operator Product) o → NoTail (Some o)
product_on o h =
    let no = others [] (codes "*" ∷ codes "/" ∷ []) in
    (no [] (codes "(" ∷ []) o h refl refl, no [] (codes "." ∷ []) o h refl refl)

sum_on : (o : Token) → Passes (is_operator Sum) o → AfterProduct (Some o)
sum_on o h =
    let no = others [] (codes "+" ∷ codes "-" ∷ []) in
    (no [] (codes "*" ∷ codes "/" ∷ []) o h refl refl, (no [] (codes "(" ∷ []) o h refl refl, no [] (codes "." ∷ []) o h refl refl))

concatenation_on : (o : Token) → Passes (is_operator Concatenation) o → AfterSum (Some o)
concatenation_on o h =
    let no = others [] (codes "||" ∷ []) in
    (no [] (codes "+" ∷ codes "-" ∷ []) o h refl refl, (no [] (codes "*" ∷ codes "/" ∷ []) o h refl refl, (no [] (codes "(" ∷ []) o h refl refl, no [] (codes "." ∷ []) o h refl refl)))

abbrev pub comparison_words : List (List ℕ)
comparison_words = codes "eq" ∷ codes "ne" ∷ codes "lt" ∷ codes "le" ∷ codes "gt" ∷ codes "ge" ∷ []

abbrev pub comparison_marks : List (List ℕ)
comparison_marks = codes "=" ∷ codes "^=" ∷ codes "~=" ∷ codes "<" ∷ codes "<=" ∷ codes ">" ∷ codes ">=" ∷ []

comparison_on : (o : Token) → Passes is_comparison o → AfterConcatenation (Some o)
comparison_on o h =
    let no = others comparison_words comparison_marks in
    (no [] (codes "||" ∷ []) o h refl refl, (no [] (codes "+" ∷ codes "-" ∷ []) o h refl refl, (no [] (codes "*" ∷ codes "/" ∷ []) o h refl refl, (no [] (codes "(" ∷ []) o h refl refl, no [] (codes "." ∷ []) o h refl refl))))

and_on : (o : Token) → Passes (is_operator And) o → AfterComparison (Some o)
and_on o h =
    let no = others (codes "and" ∷ []) (codes "&" ∷ []) in
    (no comparison_words comparison_marks o h refl refl, (no [] (codes "||" ∷ []) o h refl refl, (no [] (codes "+" ∷ codes "-" ∷ []) o h refl refl, (no [] (codes "*" ∷ codes "/" ∷ []) o h refl refl, (no [] (codes "(" ∷ []) o h refl refl, no [] (codes "." ∷ []) o h refl refl)))))

or_on : (o : Token) → Passes (is_operator Or) o → AfterAnd (Some o)
or_on o h =
    let no = others (codes "or" ∷ []) (codes "|" ∷ []) in
    (no (codes "and" ∷ []) (codes "&" ∷ []) o h refl refl, (no comparison_words comparison_marks o h refl refl, (no [] (codes "||" ∷ []) o h refl refl, (no [] (codes "+" ∷ codes "-" ∷ []) o h refl refl, (no [] (codes "*" ∷ codes "/" ∷ []) o h refl refl, (no [] (codes "(" ∷ []) o h refl refl, no [] (codes "." ∷ []) o h refl refl))))))

-- ---- comparisons

chain_at_three : (kind : ChainKind) → nat_lt 2 (chain_level kind) ≡ true → nat_lt 3 (chain_level kind) ≡ true
chain_at_three Or h = h
chain_at_three And h = h
chain_at_three Concatenation h = h
chain_at_three Sum h = h
chain_at_three Product h = h

chain_at_two : (kind : ChainKind) → nat_lt 1 (chain_level kind) ≡ true → nat_lt 2 (chain_level kind) ≡ true
chain_at_two Or h = h
chain_at_two And h = h
chain_at_two Concatenation h = h
chain_at_two Sum h = h
chain_at_two Product h = h

chain_at_seven : (kind : ChainKind) → nat_lt 6 (chain_level kind) ≡ true → nat_lt 7 (chain_level kind) ≡ true
chain_at_seven Or h = h
chain_at_seven And h = h
chain_at_seven Concatenation h = h
chain_at_seven Sum h = h
chain_at_seven Product h = h

no_chain : {A : Type 0} (kind : ChainKind) → nat_lt 7 (chain_level kind) ≡ true → A
no_chain Or h = never h
no_chain And h = never h
no_chain Concatenation h = never h
no_chain Sum h = never h
no_chain Product h = never h

abbrev uncompare : Expression → Expression × Option (Token × Expression)
uncompare (Comparison a o b) = (a, Some (o, b))
uncompare e = (e, None)

module _ (m n : ℕ) (p : Parser Expression) (l : Law m n (tight_part 3 AfterConcatenation n) p) where
  abbrev pair : Part (Expression × Option (Token × Expression))
  pair = then_part (tight_part 3 AfterConcatenation n) (narrow_part (λ x o. AfterComparison o) (optional_part is_comparison (link_part (λ t. t) (Passes is_comparison) (tight_part 3 AfterConcatenation n))))

  pub comparison_law : Law m n (tight_part 2 AfterComparison n) (comparison_rule p)
  comparison_law =
      to_law m n pair (tight_part 2 AfterComparison n) (seq p (optional is_comparison (seq (kept is_comparison) p)))
      (pair_law m n (tight_part 3 AfterConcatenation n) p l (λ t. t) (Passes is_comparison) (kept is_comparison) (kept_law m n is_comparison (mark_token (codes "<"), refl)) is_comparison (λ o f. f) (λ a o f g. comparison_on o g)
      AfterComparison (λ o h. h.0) (λ a o f h. h.1))
      (λ x. comparison_of x.0 x.1) uncompare back spelled' opened' fine'' parted' (λ x o f g. g) (λ x o f g. tt)
    where
      back : (e : Expression) → IsExpression e × IsTighter 2 e → comparison_of (uncompare e).0 (uncompare e).1 ≡ e
      back (Comparison a o b) f = refl
      back e f = refl

      spelled' : (x : Expression × Option (Token × Expression)) → expression_spelling (comparison_of x.0 x.1) ≡ pair.spelling x
      spelled' (a, None) = sym (append-nil (expression_spelling a))
      spelled' (a, Some x) = refl

      opened' : (x : Expression × Option (Token × Expression)) → expression_opens (comparison_of x.0 x.1) n ≡ pair.opens x
      opened' (a, None) = first_of_nil (expression_opens a n)
      opened' (a, Some x) = refl

      fine'' : (x : Expression × Option (Token × Expression)) → pair.Fine x → IsExpression (comparison_of x.0 x.1) × IsTighter 2 (comparison_of x.0 x.1)
      fine'' (a, None) f = (f.0.0, weaker 2 3 (operator_level a) (lit≤ tt) f.0.1)
      fine'' (a, Some x) f = ((f.0, f.1.0, f.1.1), refl)

      parted' : (e : Expression) → IsExpression e × IsTighter 2 e → pair.Fine (uncompare e)
      parted' (Comparison a o b) f = (f.0.0, (f.0.1, f.0.2, tt), tt)
      parted' (Chain kind a rest) f = ((f.0, chain_at_three kind f.1), tt, tt)
      parted' e f = ((f.0, f.1), tt, tt)

-- ---- `not` and what binds tighter

abbrev no_not : Token → Type 0
no_not t = is_not t ≡ false

no_not_chain : (kind : ChainKind) (e : Expression) → nat_lt 2 (chain_level kind) ≡ true → IsTighter (chain_level kind) e → IsTighter 2 e
no_not_chain Or e h g = never h
no_not_chain And e h g = never h
no_not_chain Concatenation e h g = weaker 2 4 (operator_level e) (lit≤ tt) g
no_not_chain Sum e h g = weaker 2 5 (operator_level e) (lit≤ tt) g
no_not_chain Product e h g = weaker 2 6 (operator_level e) (lit≤ tt) g

begins_no_not : (e : Expression) (rest : List Token) → IsExpression e → IsTighter 2 e → when is_not (first (expression_spelling e ++ rest)) ≡ false
begins_no_not (Constant t) rest f h = constant_is_none (codes "not" ∷ []) (codes "^" ∷ codes "~" ∷ []) t f
begins_no_not (Null t) rest f h = word_value (codes "null") t f (codes "not" ∷ []) (codes "^" ∷ codes "~" ∷ [])
begins_no_not (Variable t) rest f h = name_is_none (codes "not" ∷ []) (codes "^" ∷ codes "~" ∷ []) t refl f
begins_no_not (Member t p w) rest f h = name_is_none (codes "not" ∷ []) (codes "^" ∷ codes "~" ∷ []) t refl f.0
begins_no_not (Call (callee.Function t) p xs q) rest f h = name_is_none (codes "not" ∷ []) (codes "^" ∷ codes "~" ∷ []) t refl f.0
begins_no_not (Call (callee.Null t) p xs q) rest f h = word_value (codes "null") t f.0 (codes "not" ∷ []) (codes "^" ∷ codes "~" ∷ [])
begins_no_not (Call (callee.Method t d w) p xs q) rest f h = name_is_none (codes "not" ∷ []) (codes "^" ∷ codes "~" ∷ []) t refl f.0.0
begins_no_not (Parenthesis p e q) rest f h = refl
begins_no_not (Sign o e) rest f h = others [] (codes "-" ∷ codes "+" ∷ []) (codes "not" ∷ []) (codes "^" ∷ codes "~" ∷ []) o f.0 refl refl
begins_no_not (Chain kind e os) rest f h =
    ap (λ (ts : List Token). when is_not (first ts)) (append_assoc (expression_spelling e) (operands_spelling os) rest)
    ∙ begins_no_not e (operands_spelling os ++ rest) f.0.0 (no_not_chain kind e h f.0.1)
begins_no_not (Comparison a o b) rest f h =
    ap (λ (ts : List Token). when is_not (first ts)) (append_assoc (expression_spelling a) (o ∷ expression_spelling b) rest)
    ∙ begins_no_not a ((o ∷ expression_spelling b) ++ rest) f.0.0 (weaker 2 3 (operator_level a) (lit≤ tt) f.0.1)
begins_no_not (Not o e) rest f h = never h

abbrev negation_from : Expression → Either (Token × Expression) Expression
negation_from (Not o e) = One (o, e)
negation_from e = Two e

module _ (m n : ℕ) (pn : Parser (Token × Expression)) (pc : Parser Expression) (ln : Law m n (not_part n) pn) (lc : Law m n (tight_part 2 AfterComparison n) pc) where
  abbrev negations : Part (Either (Token × Expression) Expression)
  negations = choice_part (not_part n) (tight_part 2 AfterComparison n)

  pub negation_law : Law m n (tight_part 1 AfterComparison n) (to negation_of (choose_by is_not (to One pn) (to Two pc)))
  negation_law =
      to_law m n negations (tight_part 1 AfterComparison n) (choose_by is_not (to One pn) (to Two pc))
      (choice_law m n (not_part n) (tight_part 2 AfterComparison n) pn pc ln lc is_not (λ x rest f. f.0) (λ e rest f g. begins_no_not e rest f.0 f.1))
      negation_of negation_from back' spelled' opened' fine' parted' next' (λ x o f g. tt)
    where
      back' : (e : Expression) → IsExpression e × IsTighter 1 e → negation_of (negation_from e) ≡ e
      back' (Not o e) f = refl
      back' e f = refl

      spelled' : (x : Either (Token × Expression) Expression) → expression_spelling (negation_of x) ≡ negations.spelling x
      spelled' (One x) = refl
      spelled' (Two e) = refl

      opened' : (x : Either (Token × Expression) Expression) → expression_opens (negation_of x) n ≡ negations.opens x
      opened' (One x) = refl
      opened' (Two e) = refl

      fine' : (x : Either (Token × Expression) Expression) → negations.Fine x → IsExpression (negation_of x) × IsTighter 1 (negation_of x)
      fine' (One x) f = ((f.0, f.1), refl)
      fine' (Two e) f = (f.0, weaker 1 2 (operator_level e) (lit≤ tt) f.1)

      parted' : (e : Expression) → IsExpression e × IsTighter 1 e → negations.Fine (negation_from e)
      parted' (Not o e) f = (f.0.0, f.0.1, tt)
      parted' (Chain kind a rest) f = (f.0, chain_at_two kind f.1)
      parted' e f = (f.0, f.1)

      next' : (x : Either (Token × Expression) Expression) (o : Option Token) → negations.Fine x → AfterComparison o → negations.Next x o
      next' (One x) o f g = g
      next' (Two e) o f g = g

-- ---- signs and primaries

abbrev sign_words : List (List ℕ)
sign_words = []

begins_no_sign : (e : Expression) (rest : List Token) → IsExpression e → IsTighter 7 e → when is_sign (first (expression_spelling e ++ rest)) ≡ false
begins_no_sign (Constant t) rest f h = constant_is_none [] (codes "-" ∷ codes "+" ∷ []) t f
begins_no_sign (Null t) rest f h = word_value (codes "null") t f [] (codes "-" ∷ codes "+" ∷ [])
begins_no_sign (Variable t) rest f h = name_is_none [] (codes "-" ∷ codes "+" ∷ []) t refl f
begins_no_sign (Member t p w) rest f h = name_is_none [] (codes "-" ∷ codes "+" ∷ []) t refl f.0
begins_no_sign (Call (callee.Function t) p xs q) rest f h = name_is_none [] (codes "-" ∷ codes "+" ∷ []) t refl f.0
begins_no_sign (Call (callee.Null t) p xs q) rest f h = word_value (codes "null") t f.0 [] (codes "-" ∷ codes "+" ∷ [])
begins_no_sign (Call (callee.Method t d w) p xs q) rest f h = name_is_none [] (codes "-" ∷ codes "+" ∷ []) t refl f.0.0
begins_no_sign (Parenthesis p e q) rest f h = refl
begins_no_sign (Sign o e) rest f h = never h
begins_no_sign (Chain kind e os) rest f h = no_chain kind h
begins_no_sign (Comparison a o b) rest f h = never h
begins_no_sign (Not o e) rest f h = never h

abbrev unary_from : Expression → Either (Token × Expression) Expression
unary_from (Sign o e) = One (o, e)
unary_from e = Two e

module _ (m n : ℕ) (ps : Parser (Token × Expression)) (pp : Parser Expression) (ls : Law m n (sign_part n) ps) (lp : Law m n (tight_part 7 NoTail n) pp) where
  abbrev unaries : Part (Either (Token × Expression) Expression)
  unaries = choice_part (sign_part n) (tight_part 7 NoTail n)

  pub unary_law : Law m n (tight_part 6 NoTail n) (unary_with ps pp)
  unary_law =
      to_law m n unaries (tight_part 6 NoTail n) (choose_by is_sign (to One ps) (to Two pp))
      (choice_law m n (sign_part n) (tight_part 7 NoTail n) ps pp ls lp is_sign (λ x rest f. f.0) (λ e rest f g. begins_no_sign e rest f.0 f.1))
      unary_of unary_from back' spelled' opened' fine' parted' next' (λ x o f g. tt)
    where
      back' : (e : Expression) → IsExpression e × IsTighter 6 e → unary_of (unary_from e) ≡ e
      back' (Sign o e) f = refl
      back' e f = refl

      spelled' : (x : Either (Token × Expression) Expression) → expression_spelling (unary_of x) ≡ unaries.spelling x
      spelled' (One x) = refl
      spelled' (Two e) = refl

      opened' : (x : Either (Token × Expression) Expression) → expression_opens (unary_of x) n ≡ unaries.opens x
      opened' (One x) = refl
      opened' (Two e) = refl

      fine' : (x : Either (Token × Expression) Expression) → unaries.Fine x → IsExpression (unary_of x) × IsTighter 6 (unary_of x)
      fine' (One x) f = ((f.0, f.1), refl)
      fine' (Two e) f = (f.0, weaker 6 7 (operator_level e) (lit≤ tt) f.1)

      parted' : (e : Expression) → IsExpression e × IsTighter 6 e → unaries.Fine (unary_from e)
      parted' (Sign o e) f = (f.0.0, f.0.1, tt)
      parted' (Chain kind a rest) f = (f.0, chain_at_seven kind f.1)
      parted' e f = (f.0, f.1)

      next' : (x : Either (Token × Expression) Expression) (o : Option Token) → unaries.Fine x → NoTail o → unaries.Next x o
      next' (One x) o f g = g
      next' (Two e) o f g = g

-- neither `(` nor `.`
no_tail : (o : Option Token) → NoTail o → when is_open_or_dot o ≡ false
no_tail None g = refl
no_tail (Some t) g =
    ap₂ (λ a b. a || (b || false)) (or_false (is_mark (codes "(") t) false g.0).0 (or_false (is_mark (codes ".") t) false g.1).0

null_is_no_constant : (t : Token) → is_null_word t ≡ true → is_constant t ≡ false
null_is_no_constant t h = ap (λ k. integer_kind k || decimal_kind k || text_kind k) (word_kinded (codes "null") t h)

name_is_no_null : (t : Token) → is_name_token t ≡ true → is_null_word t ≡ false
name_is_no_null t h = (or_false (is_null_word t) false (or_false (is_null_word t || false) false (name_is_none (codes "null" ∷ []) [] t refl h)).0).0

module _ (n : ℕ) where
  abbrev pub member_part : Part (Place × (Token × Option ArgumentList))
  member_part = then_part (place_part (codes ".")) (then_part (kept_part is_any_word) (optional_part is_open_mark (list_part n)))

  abbrev pub tail_part : Part Tail
  tail_part = optional_part is_open_or_dot (choice_part (list_part n) member_part)

  abbrev null_part : Part (Token × Option ArgumentList)
  null_part = then_part (kept_part is_null_word) (optional_part is_open_mark (list_part n))

  abbrev named_part : Part (Token × Tail)
  named_part = then_part (kept_part is_name_token) tail_part

  abbrev last_part : Part (Either (Token × Tail) (Place × (Expression × Place)))
  last_part = choice_part named_part (paren_part n)

  abbrev rest_part : Part (Either (Token × Option ArgumentList) (Either (Token × Tail) (Place × (Expression × Place))))
  rest_part = choice_part null_part last_part

  abbrev primary_sum : Part Primary
  primary_sum = choice_part (kept_part is_constant) rest_part

abbrev primary_from : Expression → Primary
primary_from (Constant t) = One t
primary_from (Null t) = Two (One (t, None))
primary_from (Call (callee.Null t) p xs q) = Two (One (t, Some (p, (xs, q))))
primary_from (Variable t) = Two (Two (One (t, None)))
primary_from (Call (callee.Function t) p xs q) = Two (Two (One (t, Some (One (p, (xs, q))))))
primary_from (Member t p w) = Two (Two (One (t, Some (Two (p, (w, None))))))
primary_from (Call (callee.Method t d w) p xs q) = Two (Two (One (t, Some (Two (d, (w, Some (p, (xs, q))))))))
primary_from (Parenthesis p e q) = Two (Two (Two (p, (e, q))))
primary_from _ = One zero_token

module _ (m n : ℕ) (pa : Parser ArgumentList) (pp : Parser (Place × (Expression × Place))) (la : Law m n (list_part n) pa) (lp : Law m n (paren_part n) pp) where
  pub member_law : Law m n (member_part n) (member_tail pa)
  member_law =
      token_then m n (λ p. dot_mark p) (λ p. Unit {0}) (then_part (kept_part is_any_word) (optional_part is_open_mark (list_part n))) (mark_rule (codes ".")) (seq (kept is_any_word) (optional is_open_mark pa)) (mark_law m n (codes ".") refl)
      (token_then m n (λ t. t) (Passes is_any_word) (optional_part is_open_mark (list_part n)) (kept is_any_word) (optional is_open_mark pa) (kept_law m n is_any_word (word_token (codes "x"), refl))
      (optional_law m n (list_part n) pa la is_open_mark (λ a rest f. refl)))

  tail_starts : (x : Either ArgumentList (Place × (Token × Option ArgumentList))) (rest : List Token) → (choice_part (list_part n) (member_part n)).Fine x → when is_open_or_dot (first ((choice_part (list_part n) (member_part n)).spelling x ++ rest)) ≡ true
  tail_starts (One a) rest f = refl
  tail_starts (Two x) rest f = refl

  pub tail_law : Law m n (tail_part n) (name_tail pa)
  tail_law =
      optional_law m n (choice_part (list_part n) (member_part n)) (choose_by is_open_mark (to One pa) (to Two (member_tail pa)))
      (choice_law m n (list_part n) (member_part n) pa (member_tail pa) la member_law is_open_mark (λ a rest f. refl) (λ x rest f g. refl)) is_open_or_dot tail_starts

  last_law : Law m n (last_part n) (choose_by is_name_token (to One (seq (kept is_name_token) (name_tail pa))) (to Two pp))
  last_law =
      choice_law m n (named_part n) (paren_part n) (seq (kept is_name_token) (name_tail pa)) pp
      (token_then m n (λ t. t) (Passes is_name_token) (tail_part n) (kept is_name_token) (name_tail pa) (kept_law m n is_name_token (word_token (codes "x"), refl)) tail_law) lp is_name_token (λ x rest f. f.0) (λ x rest f g. refl)

  null_no : (x : Either (Token × Tail) (Place × (Expression × Place))) (rest : List Token) → (last_part n).Fine x → when is_null_word (first ((last_part n).spelling x ++ rest)) ≡ false
  null_no (One x) rest f = name_is_no_null x.0 f.0
  null_no (Two x) rest f = refl

  abbrev last_way : Parser (Either (Token × Tail) (Place × (Expression × Place)))
  last_way = choose_by is_name_token (to One (seq (kept is_name_token) (name_tail pa))) (to Two pp)

  rest_law : Law m n (rest_part n) (choose_by is_null_word (to One (seq (kept is_null_word) (optional is_open_mark pa))) (to Two last_way))
  rest_law =
      choice_law m n (null_part n) (last_part n) (seq (kept is_null_word) (optional is_open_mark pa)) last_way
      (token_then m n (λ t. t) (Passes is_null_word) (optional_part is_open_mark (list_part n)) (kept is_null_word) (optional is_open_mark pa) (kept_law m n is_null_word (word_token (codes "null"), refl)) (optional_law m n (list_part n) pa la is_open_mark (λ a rest f. refl)))
      last_law is_null_word (λ x rest f. f.0) (λ x rest f g. null_no x rest f)

  constant_no : (x : Either (Token × Option ArgumentList) (Either (Token × Tail) (Place × (Expression × Place)))) (rest : List Token) → (rest_part n).Fine x → when is_constant (first ((rest_part n).spelling x ++ rest)) ≡ false
  constant_no (One x) rest f = null_is_no_constant x.0 f.0
  constant_no (Two (One x)) rest f = name_is_no_constant x.0 f.0
  constant_no (Two (Two x)) rest f = refl

  abbrev rest_way : Parser (Either (Token × Option ArgumentList) (Either (Token × Tail) (Place × (Expression × Place))))
  rest_way = choose_by is_null_word (to One (seq (kept is_null_word) (optional is_open_mark pa))) (to Two last_way)

  pub primary_law : Law m n (tight_part 7 NoTail n) (primary pa pp)
  primary_law =
      to_law m n (primary_sum n) (tight_part 7 NoTail n) (choose_by is_constant (to One (kept is_constant)) (to Two rest_way))
      (choice_law m n (kept_part is_constant) (rest_part n) (kept is_constant) rest_way (kept_law m n is_constant (zero_token, refl)) rest_law is_constant (λ t rest f. f) (λ x rest f g. constant_no x rest f))
      primary_of primary_from back' spelled' opened' fine' parted' next' (λ x o f g. tt)
    where
      back' : (e : Expression) → IsExpression e × IsTighter 7 e → primary_of (primary_from e) ≡ e
      back' (Constant t) f = refl
      back' (Null t) f = refl
      back' (Call (callee.Null t) p xs q) f = refl
      back' (Variable t) f = refl
      back' (Call (callee.Function t) p xs q) f = refl
      back' (Member t p w) f = refl
      back' (Call (callee.Method t d w) p xs q) f = refl
      back' (Parenthesis p e q) f = refl
      back' (Chain kind e os) f = no_chain kind f.1
      back' (Sign o e) f = never f.1
      back' (Comparison a o b) f = never f.1
      back' (Not o e) f = never f.1

      spelled' : (x : Primary) → expression_spelling (primary_of x) ≡ (primary_sum n).spelling x
      spelled' (One t) = refl
      spelled' (Two (One (t, None))) = refl
      spelled' (Two (One (t, Some a))) = refl
      spelled' (Two (Two (One (t, None)))) = refl
      spelled' (Two (Two (One (t, Some (One a))))) = refl
      spelled' (Two (Two (One (t, Some (Two (p, (w, None))))))) = refl
      spelled' (Two (Two (One (t, Some (Two (p, (w, Some a))))))) = refl
      spelled' (Two (Two (Two x))) = refl

      opened' : (x : Primary) → expression_opens (primary_of x) n ≡ (primary_sum n).opens x
      opened' (One t) = refl
      opened' (Two (One (t, None))) = refl
      opened' (Two (One (t, Some a))) = refl
      opened' (Two (Two (One (t, None)))) = refl
      opened' (Two (Two (One (t, Some (One a))))) = refl
      opened' (Two (Two (One (t, Some (Two (p, (w, None))))))) = refl
      opened' (Two (Two (One (t, Some (Two (p, (w, Some a))))))) = refl
      opened' (Two (Two (Two x))) = refl

      fine' : (x : Primary) → (primary_sum n).Fine x → IsExpression (primary_of x) × IsTighter 7 (primary_of x)
      fine' (One t) f = (f, refl)
      fine' (Two (One (t, None))) f = (f.0, refl)
      fine' (Two (One (t, Some a))) f = ((f.0, f.1), refl)
      fine' (Two (Two (One (t, None)))) f = (f.0, refl)
      fine' (Two (Two (One (t, Some (One a))))) f = ((f.0, f.1), refl)
      fine' (Two (Two (One (t, Some (Two (p, (w, None))))))) f = ((f.0, f.1.1.0), refl)
      fine' (Two (Two (One (t, Some (Two (p, (w, Some a))))))) f = (((f.0, f.1.1.0), f.1.1.1), refl)
      fine' (Two (Two (Two x))) f = (f, refl)

      parted' : (e : Expression) → IsExpression e × IsTighter 7 e → (primary_sum n).Fine (primary_from e)
      parted' (Constant t) f = f.0
      parted' (Null t) f = (f.0, tt, tt)
      parted' (Call (callee.Null t) p xs q) f = (f.0.0, f.0.1, tt)
      parted' (Variable t) f = (f.0, tt, tt)
      parted' (Call (callee.Function t) p xs q) f = (f.0.0, f.0.1, tt)
      parted' (Member t p w) f = (f.0.0, (tt, (f.0.1, tt, tt), tt), tt)
      parted' (Call (callee.Method t d w) p xs q) f = (f.0.0.0, (tt, (f.0.0.1, f.0.1, tt), tt), tt)
      parted' (Parenthesis p e q) f = f.0
      parted' (Chain kind e os) f = no_chain kind f.1
      parted' (Sign o e) f = never f.1
      parted' (Comparison a o b) f = never f.1
      parted' (Not o e) f = never f.1

      next' : (x : Primary) (o : Option Token) → (primary_sum n).Fine x → NoTail o → (primary_sum n).Next x o
      next' (One t) o f g = tt
      next' (Two (One (t, None))) o f g = g.0
      next' (Two (One (t, Some a))) o f g = tt
      next' (Two (Two (One (t, None)))) o f g = no_tail o g
      next' (Two (Two (One (t, Some (One a))))) o f g = tt
      next' (Two (Two (One (t, Some (Two (p, (w, None))))))) o f g = g.0
      next' (Two (Two (One (t, Some (Two (p, (w, Some a))))))) o f g = tt
      next' (Two (Two (Two x))) o f g = tt

-- ---- arguments

abbrev begin_words : List (List ℕ)
begin_words = codes "null" ∷ codes "not" ∷ []

abbrev begin_marks : List (List ℕ)
begin_marks = codes "(" ∷ codes "-" ∷ codes "+" ∷ codes "^" ∷ codes "~" ∷ []

begins_word : (t : Token) → is_one_of begin_words begin_marks t ≡ true → begins_expression t ≡ true
begins_word t h = or_last (is_constant t || is_name_token t) (is_one_of begin_words begin_marks t) h

begins_name : (t : Token) → is_name_token t ≡ true → begins_expression t ≡ true
begins_name t h = ap₂ (λ a b. a || b || is_one_of begin_words begin_marks t) (name_is_no_constant t h) h

null_among : (t : Token) → is_null_word t ≡ true → is_one_of (codes "null" ∷ []) [] t ≡ true
null_among t h = word_value (codes "null") t h (codes "null" ∷ []) []

pub begins_any : (e : Expression) (rest : List Token) → IsExpression e → when begins_expression (first (expression_spelling e ++ rest)) ≡ true
begins_any (Constant t) rest f = ap (λ b. b || is_name_token t || is_one_of begin_words begin_marks t) f
begins_any (Null t) rest f = begins_word t (among_more (codes "null" ∷ []) [] begin_words begin_marks t (null_among t f) refl refl)
begins_any (Variable t) rest f = begins_name t f
begins_any (Member t p w) rest f = begins_name t f.0
begins_any (Call (callee.Function t) p xs q) rest f = begins_name t f.0
begins_any (Call (callee.Null t) p xs q) rest f = begins_word t (among_more (codes "null" ∷ []) [] begin_words begin_marks t (null_among t f.0) refl refl)
begins_any (Call (callee.Method t d w) p xs q) rest f = begins_name t f.0.0
begins_any (Parenthesis p e q) rest f = refl
begins_any (Sign o e) rest f = begins_word o (among_more [] (codes "-" ∷ codes "+" ∷ []) begin_words begin_marks o f.0 refl refl)
begins_any (Chain kind e os) rest f =
    ap (λ (ts : List Token). when begins_expression (first ts)) (append_assoc (expression_spelling e) (operands_spelling os) rest) ∙ begins_any e (operands_spelling os ++ rest) f.0.0
begins_any (Comparison a o b) rest f =
    ap (λ (ts : List Token). when begins_expression (first ts)) (append_assoc (expression_spelling a) (o ∷ expression_spelling b) rest) ∙ begins_any a ((o ∷ expression_spelling b) ++ rest) f.0.0
begins_any (Not o e) rest f = begins_word o (among_more (codes "not" ∷ []) (codes "^" ∷ codes "~" ∷ []) begin_words begin_marks o f.0 refl refl)

abbrev pub AfterItem : Option Token → Type 0
AfterItem o = Behind is_comma_mark AfterExpression o

abbrev pub arguments_part : ℕ → Part Arguments
arguments_part n = record { spelling = arguments_spelling; Fine = AreArguments; opens = λ xs. arguments_opens xs n; Next = λ xs o. (when begins_expression o ≡ false) × AfterItem o; Left = λ xs o. Unit {0} }

abbrev pub further_list : Arguments → List (Place × Expression)
further_list (Argument (Some p) e rest) = (p, e) ∷ further_list rest
further_list _ = []

abbrev items_of : Arguments → Option (Expression × List (Place × Expression))
items_of NoArgument = None
items_of (Argument c e rest) = Some (e, further_list rest)

pub further_back : (xs : Arguments) → AreFurther xs → listed_further (further_list xs) ≡ xs
further_back NoArgument f = refl
further_back (Argument (Some p) e rest) f = ap (Argument (Some p) e) (further_back rest f.2)
further_back (Argument None e rest) f = absurd f.0

-- a comma and the expression behind it
abbrev pub comma_link : ℕ → Part (Place × Expression)
comma_link n = link_part (λ p. comma_mark p) (λ p. Unit {0}) (expression_part n)

pub further_flat : (n : ℕ) (l : List (Place × Expression)) → arguments_spelling (listed_further l) ≡ flat (comma_link n).spelling l
further_flat n [] = refl
further_flat n (x ∷ l) = ap (λ (y : List Token). comma_mark x.0 ∷ (expression_spelling x.1 ++ y)) (further_flat n l)

pub further_open : (n : ℕ) (l : List (Place × Expression)) → arguments_opens (listed_further l) n ≡ flat_opens (comma_link n).spelling (comma_link n).opens l
further_open n [] = refl
further_open n (x ∷ l) =
    ap (λ y. first_opened (expression_opens x.1 n) y (arguments_opens (listed_further l) n)) (further_flat n l) ∙ ap (first_opened (expression_opens x.1 n) (flat (comma_link n).spelling l)) (further_open n l)

pub each_further : (n : ℕ) (l : List (Place × Expression)) → each (comma_link n).Fine l → AreFurther (listed_further l)
each_further n [] h = tt
each_further n (x ∷ l) h = (tt, h.0.1, each_further n l h.1)

pub further_each : (n : ℕ) (xs : Arguments) → AreFurther xs → each (comma_link n).Fine (further_list xs)
further_each n NoArgument h = tt
further_each n (Argument (Some p) e rest) h = ((tt, h.1, tt), further_each n rest h.2)
further_each n (Argument None e rest) h = absurd h.0

module _ (m n : ℕ) (p : Parser Expression) (l : Law m n (expression_part n) p) where
  abbrev pub listed : Part (Expression × List (Place × Expression))
  listed = then_part (expression_part n) (many_part AfterItem (comma_link n))

  pub separated_law : Law m n listed (chain m is_comma_mark (mark_rule (codes ",")) p)
  separated_law =
      chain_law m n (expression_part n) p l (λ q. comma_mark q) (λ q. Unit {0}) (mark_rule (codes ",")) (mark_law m n (codes ",") refl) is_comma_mark (λ q u. refl)
      (λ a q f u. (refl, (refl, (refl, (refl, (refl, (refl, (refl, refl)))))))) AfterItem (λ o h. h.0) (λ a o f h. h.1)

  abbrev items : Part (Option (Expression × List (Place × Expression)))
  items = optional_part begins_expression listed

  items_start : (x : Expression × List (Place × Expression)) (rest : List Token) → listed.Fine x → when begins_expression (first (listed.spelling x ++ rest)) ≡ true
  items_start x rest f =
      ap (λ (ts : List Token). when begins_expression (first ts)) (append_assoc (expression_spelling x.0) (flat (comma_link n).spelling x.1) rest) ∙ begins_any x.0 (flat (comma_link n).spelling x.1 ++ rest) f.0

  pub arguments_law : Law m n (arguments_part n) (to listed_arguments (optional begins_expression (chain m is_comma_mark (mark_rule (codes ",")) p)))
  arguments_law =
      to_law m n items (arguments_part n) (optional begins_expression (chain m is_comma_mark (mark_rule (codes ",")) p))
      (optional_law m n listed (chain m is_comma_mark (mark_rule (codes ",")) p) separated_law begins_expression items_start)
      listed_arguments items_of back' spelled' opened' fine' parted' next' (λ x o f g. tt)
    where
      back' : (xs : Arguments) → AreArguments xs → listed_arguments (items_of xs) ≡ xs
      back' NoArgument f = refl
      back' (Argument None e rest) f = ap (Argument None e) (further_back rest f.2)
      back' (Argument (Some c) e rest) f = absurd f.0

      spelled' : (x : Option (Expression × List (Place × Expression))) → arguments_spelling (listed_arguments x) ≡ items.spelling x
      spelled' None = refl
      spelled' (Some x) = ap (λ (y : List Token). expression_spelling x.0 ++ y) (further_flat n x.1)

      opened' : (x : Option (Expression × List (Place × Expression))) → arguments_opens (listed_arguments x) n ≡ items.opens x
      opened' None = refl
      opened' (Some x) =
          ap (λ (y : List Token). first_opened (expression_opens x.0 n) y (arguments_opens (listed_further x.1) n)) (further_flat n x.1)
          ∙ ap (first_opened (expression_opens x.0 n) (flat (comma_link n).spelling x.1)) (further_open n x.1)

      fine' : (x : Option (Expression × List (Place × Expression))) → items.Fine x → AreArguments (listed_arguments x)
      fine' None f = tt
      fine' (Some x) f = (tt, f.0, each_further n x.1 f.1)

      parted' : (xs : Arguments) → AreArguments xs → items.Fine (items_of xs)
      parted' NoArgument f = tt
      parted' (Argument c e rest) f = (f.1, further_each n rest f.2, tt)

      next' : (x : Option (Expression × List (Place × Expression))) (o : Option Token) → items.Fine x → (arguments_part n).Next (listed_arguments x) o → items.Next x o
      next' None o f g = g.0
      next' (Some x) o f g = g.1

  -- ---- what opens a level

  pub args_law : Law m (suc n) (list_part (suc n)) (args_with m p)
  args_law =
      refined_law m (suc n) (enclosed_part (arguments_part n)) (args_with m p) (λ a. AreArguments a.1.0) (λ a f. f.1.0) (λ a f. (tt, (f, tt, tt), tt))
      (deeper_law m n (arguments_part n) (to listed_arguments (optional begins_expression (chain m is_comma_mark (mark_rule (codes ",")) p))) arguments_law
      (λ xs q f. (refl, (refl, (refl, (refl, (refl, (refl, (refl, (refl, (refl, refl)))))))))))

  pub paren_law : Law m (suc n) (paren_part (suc n)) (paren_with p)
  paren_law =
      refined_law m (suc n) (enclosed_part (expression_part n)) (paren_with p) (λ x. IsExpression x.1.0) (λ a f. f.1.0) (λ a f. (tt, (f, tt, tt), tt))
      (deeper_law m n (expression_part n) p l (λ e q f. (refl, (refl, (refl, (refl, (refl, (refl, (refl, refl)))))))))

-- ---- where no level is left

open_is_mark : (t : Token) → is_open_mark t ≡ true → t ≡ open_mark t.place
open_is_mark t h = or_cases (is_mark (codes "(") t) false h (λ e. only_mark (codes "(") t e) (λ e. never e)

closed_list : (m : ℕ) → Law m 0 (list_part 0) (closed is_open_mark)
closed_list m = closed_law m (list_part 0) ((start, (NoArgument, start)), tt) is_open_mark (λ a rest f. refl)
    (λ t e. ((t.place, (NoArgument, start)), close_mark start ∷ [], tt, ap (λ (u : Token). u ∷ (close_mark start ∷ [])) (sym (open_is_mark t e))))

closed_paren : (m : ℕ) → Law m 0 (paren_part 0) (closed is_open_mark)
closed_paren m = closed_law m (paren_part 0) ((start, (Constant zero_token, start)), refl) is_open_mark (λ a rest f. refl)
    (λ t e. ((t.place, (Constant zero_token, start)), zero_token ∷ (close_mark start ∷ []), refl, ap (λ (u : Token). u ∷ (zero_token ∷ (close_mark start ∷ []))) (sym (open_is_mark t e))))

closed_sign : (m : ℕ) → Law m 0 (sign_part 0) (closed is_sign)
closed_sign m = closed_law m (sign_part 0) ((mark_token (codes "-"), Constant zero_token), (refl, (refl, refl), tt)) is_sign (λ x rest f. f.0)
    (λ t e. ((t, Constant zero_token), zero_token ∷ [], (e, (refl, refl), tt), refl))

closed_not : (m : ℕ) → Law m 0 (not_part 0) (closed is_not)
closed_not m = closed_law m (not_part 0) ((mark_token (codes "^"), Constant zero_token), (refl, (refl, refl), tt)) is_not (λ x rest f. f.0)
    (λ t e. ((t, Constant zero_token), zero_token ∷ [], (e, (refl, refl), tt), refl))

-- ---- all operator levels, over what opens a level

module _ (m n : ℕ) (pa : Parser ArgumentList) (pp : Parser (Place × (Expression × Place))) (ps pn : Parser (Token × Expression))
    (la : Law m n (list_part n) pa) (lp : Law m n (paren_part n) pp) (ls : Law m n (sign_part n) ps) (ln : Law m n (not_part n) pn) where
  abbrev pu : Parser Expression
  pu = unary_at pa pp ps

  pub unary_here : Law m n (tight_part 6 NoTail n) pu
  unary_here = unary_law m n ps (primary pa pp) ls (primary_law m n pa pp la lp)

  product_here : Law m n (chained_part Product NoTail n) (operators m Product pu)
  product_here = operators_law m n Product NoTail (mark_token (codes "*"), refl) product_on pu unary_here

  sum_here : Law m n (chained_part Sum AfterProduct n) (operators m Sum (operators m Product pu))
  sum_here = operators_law m n Sum AfterProduct (mark_token (codes "+"), refl) sum_on (operators m Product pu) product_here

  concatenation_here : Law m n (chained_part Concatenation AfterSum n) (operators m Concatenation (operators m Sum (operators m Product pu)))
  concatenation_here = operators_law m n Concatenation AfterSum (mark_token (codes "||"), refl) concatenation_on (operators m Sum (operators m Product pu)) sum_here

  comparison_here : Law m n (tight_part 2 AfterComparison n) (comparison_with m pu)
  comparison_here = comparison_law m n (operators m Concatenation (operators m Sum (operators m Product pu))) concatenation_here

  pub negation_here : Law m n (tight_part 1 AfterComparison n) (negation_with m pn pu)
  negation_here = negation_law m n pn (comparison_with m pu) ln comparison_here

  and_here : Law m n (chained_part And AfterComparison n) (operators m And (negation_with m pn pu))
  and_here = operators_law m n And AfterComparison (mark_token (codes "&"), refl) and_on (negation_with m pn pu) negation_here

  pub expression_here : Law m n (expression_part n) (expression_with m (negation_with m pn pu))
  expression_here =
      refined_law m n (chained_part Or AfterAnd n) (expression_with m (negation_with m pn pu)) IsExpression (λ e f. f.0) (λ e f. (f, tt))
      (operators_law m n Or AfterAnd (mark_token (codes "|"), refl) or_on (operators m And (negation_with m pn pu)) and_here)

sign_deeper : (m n : ℕ) (p : Parser Expression) → Law m n (tight_part 6 NoTail n) p → Law m (suc n) (sign_part (suc n)) (seq (kept is_sign) p)
sign_deeper m n p l =
    then_less m (suc n) m (suc n) m n (kept_part is_sign) (tight_part 6 NoTail n) (kept is_sign) p (kept_law m (suc n) is_sign (mark_token (codes "-"), refl)) l
    (omega arith) (omega arith) (λ u f. (omega arith, omega arith)) (λ u x rest f g h. tt)

not_deeper : (m n : ℕ) (p : Parser Expression) → Law m n (tight_part 1 AfterComparison n) p → Law m (suc n) (not_part (suc n)) (seq (kept is_not) p)
not_deeper m n p l =
    then_less m (suc n) m (suc n) m n (kept_part is_not) (tight_part 1 AfterComparison n) (kept is_not) p (kept_law m (suc n) is_not (mark_token (codes "^"), refl)) l
    (omega arith) (omega arith) (λ u f. (omega arith, omega arith)) (λ u x rest f g h. tt)

pub three_laws : (m n : ℕ) → Law m n (tight_part 6 NoTail n) (three m n).0 × (Law m n (tight_part 1 AfterComparison n) (three m n).1.0 × Law m n (expression_part n) (three m n).1.1)
three_laws m zero =
    let a = closed_list m in let p = closed_paren m in let s = closed_sign m in let g = closed_not m in (
      unary_here m 0 (closed is_open_mark) (closed is_open_mark) (closed is_sign) (closed is_not) a p s g,
      (
        negation_here m 0 (closed is_open_mark) (closed is_open_mark) (closed is_sign) (closed is_not) a p s g,
        expression_here m 0 (closed is_open_mark) (closed is_open_mark) (closed is_sign) (closed is_not) a p s g,
      ),
    )
three_laws m (suc n) =
    let h = three_laws m n in
    let pa = args_with m (three m n).1.1 in let pp = paren_with (three m n).1.1 in let ps = seq (kept is_sign) (three m n).0 in let pn = seq (kept is_not) (three m n).1.0 in
    let a = args_law m n (three m n).1.1 h.1.1 in let p = paren_law m n (three m n).1.1 h.1.1 in
    let s = sign_deeper m n (three m n).0 h.0 in let g = not_deeper m n (three m n).1.0 h.1.0 in (
      unary_here m (suc n) pa pp ps pn a p s g,
      (negation_here m (suc n) pa pp ps pn a p s g, expression_here m (suc n) pa pp ps pn a p s g),
    )

pub expression_law : (m n : ℕ) → Law m n (expression_part n) (expression m n)
expression_law m n = (three_laws m n).1.1

pub argument_list_law : (m n : ℕ) → Law m n (list_part n) (argument_list m n)
argument_list_law m zero = closed_list m
argument_list_law m (suc n) = args_law m n (expression m n) (expression_law m n)

-- ---- one spelling, one tree

abbrev tree_or : Expression → ParserOutcome Expression → Expression
tree_or d (Read x r) = x
tree_or d _ = d

read_back : (x : Expression) → IsExpression x → (k : ℕ) → length (expression_spelling x) < k → expression k k (expression_spelling x) ≡ Read x []
read_back x f k short =
    ap (expression k k) (sym (append-nil (expression_spelling x))) ∙ (expression_law k k).reads x f short [] (refl, (refl, (refl, (refl, (refl, (refl, (refl, refl)))))))
    ∙ ap (λ o. goes o [] (Read x [])) ((expression_law k k).enough x f short (omega (arith, short)))

pub one_expression : (x y : Expression) → IsExpression x → IsExpression y → expression_spelling x ≡ expression_spelling y → x ≡ y
one_expression x y f g e =
    let k = suc (length (expression_spelling x)) in
    ap (tree_or x) (sym (read_back x f k (omega arith)) ∙ ap (expression k k) e ∙ read_back y g k (omega (arith, ap length e)))
