-- Steps of the code of expressions against their rules.
use Rattle.std.proofs.Common.{◌≡◌, ℕ, zero, suc, ◌<◌, ◌||◌, Bool, true, false, codes, List, [], length, Option, Some, None, refl, sym, ap, ◌∙◌, subst}
use Rattle.ds2_base.specs.declared.place.Place.{Place}
use Rattle.ds2_base.specs.declared.place.Refusal.{Refusal}
use Rattle.ds2_base.specs.declared.stop.Stop.{Stop}
use Rattle.ds2_token.specs.declared.token.Token.{Token}
use Rattle.ds2_token.specs.Words.{is_any_word, is_mark, is_name_token}
use Rattle.ds2_tree.specs.declared.kind.ParseKind.{ParseKind}
use Rattle.ds2_tree.specs.Parsers.{ParserOutcome, Read, TooDeep, Parser, Either, One, Two, and_then, pure, first, kept, when, choose_by, to, seq, many_of, optional, chain, closed}
use Rattle.ds2_tree.specs.Promise.{Fails}
use Rattle.ds2_tree.specs.declared.expressions.ChainKind.{ChainKind}
use Rattle.ds2_tree.specs.declared.expressions.ChainKind.TheVariants.{Or}
use Rattle.ds2_tree.specs.declared.expressions.Callee.TheVariants as callee
use Rattle.ds2_tree.specs.Expressions.{Expression, Call, Parenthesis, Sign, Not, Arguments, Argument, is_constant, is_null_word, is_sign, is_not, is_comparison, is_operator}
use Rattle.ds2_parse_rules.specs.GrammarTokens.{mark_rule, enclosed, is_open_mark, is_comma_mark, Fronted}
use Rattle.ds2_parse_rules.specs.ExpressionGrammar.{ArgumentList, listed_further, listed_arguments, chain_of, comparison_of, null_of, member_of, named_of, Tail, primary_of, unary_of, negation_of, begins_expression, is_open_or_dot, member_tail, name_tail, primary, operators, comparison_rule, unary_with, comparison_with, negation_with, expression, argument_list}
use Rattle.ds2_parse_statements.specs.ExpressionParts.{unary_rule, negation_rule, operand_rule, signed_rule, negated_rule, parenthesis_rule}
use Rattle.ds2_parse_rules.proofs.RuleSteps.{Holds, held, taken, on_read, on_stop, on_last, on_last_stop, on_some, on_none, on_yes, on_no, plainly, plain_outcome, closed_deep, loop_ends}
use Rattle.ds2_parse_rules.proofs.FrontSteps.{kept_read, fronted_when, open_is, tail_is, mark_was}

-- ---- the rules, one in the other

pub expression_is : (m n : ℕ) → expression m n ≡ operators m Or (operand_rule m n Or)
expression_is m zero = refl
expression_is m (suc n) = refl

pub unary_is : (m n : ℕ) → unary_rule m n ≡ unary_with (signed_rule m n) (primary (argument_list m n) (parenthesis_rule m n))
unary_is m zero = refl
unary_is m (suc n) = refl

pub negation_is : (m n : ℕ) → negation_rule m n ≡ negation_with m (negated_rule m n) (unary_rule m n)
negation_is m zero = refl
negation_is m (suc n) = refl

pub expression_at : (m n : ℕ) (ts : List Token) → expression m n ts ≡ operators m Or (operand_rule m n Or) ts
expression_at m n ts = ap (λ (p : Parser Expression). p ts) (expression_is m n)

pub expression_stops : (m n : ℕ) (ts : List Token) (end : Place) (e : Stop (Refusal ParseKind)) → Fails end e (operators m Or (operand_rule m n Or) ts) → Fails end e (expression m n ts)
expression_stops m n ts end e h = subst (Fails end e) (sym (expression_at m n ts)) h

-- ---- a chain

module _ (m : ℕ) (kind : ChainKind) (p : Parser Expression) (ts : List Token) where
  abbrev links : Parser (List (Token × Expression))
  links = many_of m (is_operator kind) (seq (kept (is_operator kind)) p)

  abbrev chained : Expression × List (Token × Expression) → Expression
  chained x = chain_of kind x.0 x.1

  pub chain_further_stops : (end : Place) (e : Stop (Refusal ParseKind)) (a : Expression) (r : List Token) → p ts ≡ Read a r → Fails end e (links r) → Fails end e (operators m kind p ts)
  chain_further_stops end e a r is h = held (Fails end e) chained (seq p links) ts (on_read p links is (on_last_stop end e h))

  pub chain_read : (a : Expression) (r : List Token) (l : List (Token × Expression)) (z : List Token) → p ts ≡ Read a r → links r ≡ Read l z → operators m kind p ts ≡ Read (chain_of kind a l) z
  chain_read a r l z is h = held (λ o. o ≡ Read (chain_of kind a l) z) chained (seq p links) ts (on_read p links is (on_last h refl))

  -- no operator stands behind the operand
  pub chain_alone : (a : Expression) (r : List Token) → p ts ≡ Read a r → length r < m → when (is_operator kind) (first r) ≡ false → operators m kind p ts ≡ Read a r
  chain_alone a r is lt none =
      chain_read a r [] r is (loop_ends (is_operator kind) (seq (kept (is_operator kind)) p) (links r) (λ l. l) r m (sym (plain_outcome (links r))) lt none)

-- a token that is kept, and what is behind it
module _ {A : Type 0} (is : Token → Bool) (p : Parser A) (ts : List Token) (t : Token) (r : List Token) (there : Fronted is ts t r) where
  pub link_stops : (end : Place) (e : Stop (Refusal ParseKind)) → Fails end e (p r) → Fails end e (seq (kept is) p ts)
  link_stops end e h = plainly (Fails end e) (seq (kept is) p) ts (on_read (kept is) p (kept_read is ts t r there t refl) (on_last_stop end e h))

  pub link_read : (u : Token) → u ≡ t → (x : A) (z : List Token) → p r ≡ Read x z → seq (kept is) p ts ≡ Read (u, x) z
  link_read u same x z h = plainly (λ o. o ≡ Read (u, x) z) (seq (kept is) p) ts (on_read (kept is) p (kept_read is ts t r there u same) (on_last h refl))

-- ---- a comparison

module _ (p : Parser Expression) (ts : List Token) where
  abbrev operator_and : Parser (Token × Expression)
  operator_and = seq (kept is_comparison) p

  abbrev compare_with : Expression × Option (Token × Expression) → Expression
  compare_with x = comparison_of x.0 x.1

  -- behind the left operand
  pub compared_is : (a : Expression) (r : List Token) → p ts ≡ Read a r → comparison_rule p ts ≡ to (λ o. comparison_of a o) (optional is_comparison operator_and) r
  compared_is a r left = held (λ s. s ≡ to (λ o. comparison_of a o) (optional is_comparison operator_and) r) compare_with (seq p (optional is_comparison operator_and)) ts (on_read p (optional is_comparison operator_and) left (taken refl))

  module _ (f : Option (Token × Expression) → Expression) where
    module _ (t : Token) (z : List Token) (there : Fronted is_comparison ts t z) where
      pub right_stops : (end : Place) (e : Stop (Refusal ParseKind)) → Fails end e (p z) → Fails end e (to f (optional is_comparison operator_and) ts)
      right_stops end e h = held (Fails end e) f (optional is_comparison operator_and) ts
          (on_some is_comparison operator_and (fronted_when is_comparison ts t z there)
          (on_read (kept is_comparison) p (kept_read is_comparison ts t z there t refl) (on_last_stop end e h)))

      pub right_read : (u : Token) → u ≡ t → (b : Expression) (y : List Token) → p z ≡ Read b y → to f (optional is_comparison operator_and) ts ≡ Read (f (Some (u, b))) y
      right_read u same b y h = held (λ o. o ≡ Read (f (Some (u, b))) y) f (optional is_comparison operator_and) ts
          (on_some is_comparison operator_and (fronted_when is_comparison ts t z there)
          (on_read (kept is_comparison) p (kept_read is_comparison ts t z there u same) (on_last h refl)))

    pub not_compared : when is_comparison (first ts) ≡ false → to f (optional is_comparison operator_and) ts ≡ Read (f None) ts
    not_compared c = held (λ o. o ≡ Read (f None) ts) f (optional is_comparison operator_and) ts (on_none is_comparison operator_and c refl)

-- ---- a prefix operator: one rule behind it, which opens a level, and one without it

module _ (tree : Token → Expression → Expression) (is : Token → Bool) (rule : ℕ → Parser Expression) (behind : ℕ → Parser (Token × Expression)) (plain : ℕ → Parser Expression) (made : Either (Token × Expression) Expression → Expression)
    (rule_is : (n : ℕ) → rule n ≡ to made (choose_by is (to One (behind n)) (to Two (plain n)))) (zero_is : behind 0 ≡ closed is) (suc_is : (k : ℕ) → behind (suc k) ≡ seq (kept is) (rule k))
    (of_one : (x : Token × Expression) → made (One x) ≡ tree x.0 x.1) (of_two : (x : Expression) → made (Two x) ≡ x) (n : ℕ) (ts : List Token) where
  here : (P : ParserOutcome Expression → Type 0) → P (to made (choose_by is (to One (behind n)) (to Two (plain n))) ts) → P (rule n ts)
  here P h = subst (λ (p : Parser Expression). P (p ts)) (sym (rule_is n)) h

  pub without_prefix : when is (first ts) ≡ false → rule n ts ≡ plain n ts
  without_prefix c = here (λ o. o ≡ plain n ts) (held (λ o. o ≡ plain n ts) made (choose_by is (to One (behind n)) (to Two (plain n))) ts
      (on_no is One (behind n) Two (plain n) c (taken (ap (λ (f : Expression → Expression). and_then (plain n ts) (λ x. pure (f x))) (λ i x. of_two x i) ∙ plain_outcome (plain n ts)))))

  module _ (t : Token) (r : List Token) (there : Fronted is ts t r) where
    with_prefix : (P : ParserOutcome Expression → Type 0) → P (to (λ x. tree x.0 x.1) (behind n) ts) → P (rule n ts)
    with_prefix P h = here P (held P made (choose_by is (to One (behind n)) (to Two (plain n))) ts
        (on_yes is One (behind n) Two (plain n) (fronted_when is ts t r there) (taken (subst (λ (f : Token × Expression → Expression). P (to f (behind n) ts)) (λ i x. sym (of_one x) i) h))))

    pub prefix_deep : (end : Place) (e : Stop (Refusal ParseKind)) → n ≡ 0 → Fails {A = Unit {0}} end e (TooDeep ts) → Fails end e (rule n ts)
    prefix_deep end e none h = with_prefix (Fails end e)
        (subst (λ k. Fails end e (to (λ x. tree x.0 x.1) (behind k) ts)) (sym none) (subst (λ (p : Parser (Token × Expression)). Fails end e (to (λ x. tree x.0 x.1) p ts)) (sym zero_is)
        (closed_deep (λ (x : Token × Expression). tree x.0 x.1) is ts (fronted_when is ts t r there) end e h)))

    inside_prefix : (P : ParserOutcome Expression → Type 0) (k : ℕ) → n ≡ suc k → Holds P (λ (x : Token × Expression). tree x.0 x.1) (seq (kept is) (rule k)) ts → P (rule n ts)
    inside_prefix P k some h = with_prefix P
        (subst (λ k. P (to (λ x. tree x.0 x.1) (behind k) ts)) (sym some) (subst (λ (p : Parser (Token × Expression)). P (to (λ x. tree x.0 x.1) p ts)) (sym (suc_is k)) h.holds))

    pub prefix_stops : (k : ℕ) → n ≡ suc k → (end : Place) (e : Stop (Refusal ParseKind)) → Fails end e (rule k r) → Fails end e (rule n ts)
    prefix_stops k some end e h = inside_prefix (Fails end e) k some (on_read (kept is) (rule k) (kept_read is ts t r there t refl) (on_last_stop end e h))

    pub prefix_read : (k : ℕ) → n ≡ suc k → (u : Token) → u ≡ t → (x : Expression) (z : List Token) → rule k r ≡ Read x z → rule n ts ≡ Read (tree u x) z
    prefix_read k some u same x z h = inside_prefix (λ o. o ≡ Read (tree u x) z) k some (on_read (kept is) (rule k) (kept_read is ts t r there u same) (on_last h refl))

-- a sign
module _ (m n : ℕ) (ts : List Token) where
  pub unsigned : when is_sign (first ts) ≡ false → unary_rule m n ts ≡ primary (argument_list m n) (parenthesis_rule m n) ts
  unsigned = without_prefix Sign is_sign (unary_rule m) (signed_rule m) (λ n. primary (argument_list m n) (parenthesis_rule m n)) unary_of (unary_is m) refl (λ k. refl) (λ x. refl) (λ x. refl) n ts

  module _ (t : Token) (r : List Token) (there : Fronted is_sign ts t r) where
    pub sign_deep : (end : Place) (e : Stop (Refusal ParseKind)) → n ≡ 0 → Fails {A = Unit {0}} end e (TooDeep ts) → Fails end e (unary_rule m n ts)
    sign_deep = prefix_deep Sign is_sign (unary_rule m) (signed_rule m) (λ n. primary (argument_list m n) (parenthesis_rule m n)) unary_of (unary_is m) refl (λ k. refl) (λ x. refl) (λ x. refl) n ts t r there

    pub sign_stops : (k : ℕ) → n ≡ suc k → (end : Place) (e : Stop (Refusal ParseKind)) → Fails end e (unary_rule m k r) → Fails end e (unary_rule m n ts)
    sign_stops = prefix_stops Sign is_sign (unary_rule m) (signed_rule m) (λ n. primary (argument_list m n) (parenthesis_rule m n)) unary_of (unary_is m) refl (λ k. refl) (λ x. refl) (λ x. refl) n ts t r there

    pub sign_read : (k : ℕ) → n ≡ suc k → (u : Token) → u ≡ t → (x : Expression) (z : List Token) → unary_rule m k r ≡ Read x z → unary_rule m n ts ≡ Read (Sign u x) z
    sign_read = prefix_read Sign is_sign (unary_rule m) (signed_rule m) (λ n. primary (argument_list m n) (parenthesis_rule m n)) unary_of (unary_is m) refl (λ k. refl) (λ x. refl) (λ x. refl) n ts t r there

-- a negation
module _ (m n : ℕ) (ts : List Token) where
  pub affirmed : when is_not (first ts) ≡ false → negation_rule m n ts ≡ comparison_with m (unary_rule m n) ts
  affirmed = without_prefix Not is_not (negation_rule m) (negated_rule m) (λ n. comparison_with m (unary_rule m n)) negation_of (negation_is m) refl (λ k. refl) (λ x. refl) (λ x. refl) n ts

  module _ (t : Token) (r : List Token) (there : Fronted is_not ts t r) where
    pub not_deep : (end : Place) (e : Stop (Refusal ParseKind)) → n ≡ 0 → Fails {A = Unit {0}} end e (TooDeep ts) → Fails end e (negation_rule m n ts)
    not_deep = prefix_deep Not is_not (negation_rule m) (negated_rule m) (λ n. comparison_with m (unary_rule m n)) negation_of (negation_is m) refl (λ k. refl) (λ x. refl) (λ x. refl) n ts t r there

    pub not_stops : (k : ℕ) → n ≡ suc k → (end : Place) (e : Stop (Refusal ParseKind)) → Fails end e (negation_rule m k r) → Fails end e (negation_rule m n ts)
    not_stops = prefix_stops Not is_not (negation_rule m) (negated_rule m) (λ n. comparison_with m (unary_rule m n)) negation_of (negation_is m) refl (λ k. refl) (λ x. refl) (λ x. refl) n ts t r there

    pub not_read : (k : ℕ) → n ≡ suc k → (u : Token) → u ≡ t → (x : Expression) (z : List Token) → negation_rule m k r ≡ Read x z → negation_rule m n ts ≡ Read (Not u x) z
    not_read = prefix_read Not is_not (negation_rule m) (negated_rule m) (λ n. comparison_with m (unary_rule m n)) negation_of (negation_is m) refl (λ k. refl) (λ x. refl) (λ x. refl) n ts t r there

-- ---- what stands where no operator does

module _ (args : Parser ArgumentList) (paren : Parser (Place × (Expression × Place))) (ts : List Token) where
  abbrev named_part : Parser (Token × Tail)
  named_part = seq (kept is_name_token) (name_tail args)

  abbrev names_or : Parser (Either (Token × Tail) (Place × (Expression × Place)))
  names_or = choose_by is_name_token (to One named_part) (to Two paren)

  abbrev null_part : Parser (Token × Option ArgumentList)
  null_part = seq (kept is_null_word) (optional is_open_mark args)

  abbrev null_or : Parser (Either (Token × Option ArgumentList) (Either (Token × Tail) (Place × (Expression × Place))))
  null_or = choose_by is_null_word (to One null_part) (to Two names_or)

  abbrev all_of_it : Parser (Either Token (Either (Token × Option ArgumentList) (Either (Token × Tail) (Place × (Expression × Place)))))
  all_of_it = choose_by is_constant (to One (kept is_constant)) (to Two null_or)

  module _ (no_constant : when is_constant (first ts) ≡ false) where
    pub null_stops : (t : Token) (r : List Token) → Fronted is_null_word ts t r → (end : Place) (e : Stop (Refusal ParseKind)) → Fails end e (optional is_open_mark args r) → Fails end e (primary args paren ts)
    null_stops t r there end e h = held (Fails end e) primary_of all_of_it ts
        (on_no is_constant One (kept is_constant) Two null_or no_constant (on_yes is_null_word One null_part Two names_or (fronted_when is_null_word ts t r there)
        (on_read (kept is_null_word) (optional is_open_mark args) (kept_read is_null_word ts t r there t refl) (on_last_stop end e h))))

    pub null_read : (t : Token) (r : List Token) → Fronted is_null_word ts t r → (u : Token) → u ≡ t → (x : Option ArgumentList) (z : List Token) → optional is_open_mark args r ≡ Read x z → primary args paren ts ≡ Read (null_of u x) z
    null_read t r there u same x z h = held (λ o. o ≡ Read (null_of u x) z) primary_of all_of_it ts
        (on_no is_constant One (kept is_constant) Two null_or no_constant (on_yes is_null_word One null_part Two names_or (fronted_when is_null_word ts t r there)
        (on_read (kept is_null_word) (optional is_open_mark args) (kept_read is_null_word ts t r there u same) (on_last h refl))))

    module _ (no_null : when is_null_word (first ts) ≡ false) where
      pub name_read : (t : Token) (r : List Token) → Fronted is_name_token ts t r → (u : Token) → u ≡ t → primary args paren ts ≡ to (named_of u) (name_tail args) r
      name_read t r there u same = held (λ o. o ≡ to (named_of u) (name_tail args) r) primary_of all_of_it ts
          (on_no is_constant One (kept is_constant) Two null_or no_constant (on_no is_null_word One null_part Two names_or no_null
          (on_yes is_name_token One named_part Two paren (fronted_when is_name_token ts t r there)
          (on_read (kept is_name_token) (name_tail args) (kept_read is_name_token ts t r there u same) (taken refl)))))

      pub paren_read : when is_name_token (first ts) ≡ false → primary args paren ts ≡ to (λ x. Parenthesis x.0 x.1.0 x.1.1) paren ts
      paren_read no_name = held (λ o. o ≡ to (λ x. Parenthesis x.0 x.1.0 x.1.1) paren ts) primary_of all_of_it ts
          (on_no is_constant One (kept is_constant) Two null_or no_constant (on_no is_null_word One null_part Two names_or no_null
          (on_no is_name_token One named_part Two paren no_name (taken refl))))

-- ---- behind a name

either_true : (a b : Bool) → a ≡ true → (a || b) ≡ true
either_true a b e = ap (λ a. a || b) e

second_true : (a b : Bool) → a ≡ false → b ≡ true → (a || b) ≡ true
second_true a b e f = ap (λ a. a || b) e ∙ f

module _ (name : Token) (args : Parser ArgumentList) (ts : List Token) where
  abbrev dotted_part : Parser (Place × (Token × Option ArgumentList))
  dotted_part = member_tail args

  abbrev word_part : Parser (Token × Option ArgumentList)
  word_part = seq (kept is_any_word) (optional is_open_mark args)

  abbrev call_or : Parser (Either ArgumentList (Place × (Token × Option ArgumentList)))
  call_or = choose_by is_open_mark (to One args) (to Two dotted_part)

  module _ (there : when (is_mark (codes "(")) (first ts) ≡ true) where
    opens_tail : when is_open_mark (first ts) ≡ true
    opens_tail = open_is (first ts) ∙ there

    begins_tail : when is_open_or_dot (first ts) ≡ true
    begins_tail = tail_is (first ts) ∙ either_true (when (is_mark (codes "(")) (first ts)) (when (is_mark (codes ".")) (first ts)) there

    pub call_stops : (end : Place) (e : Stop (Refusal ParseKind)) → Fails end e (args ts) → Fails end e (to (named_of name) (name_tail args) ts)
    call_stops end e h = held (Fails end e) (named_of name) (name_tail args) ts (on_some is_open_or_dot call_or begins_tail (on_yes is_open_mark One args Two dotted_part opens_tail (on_last_stop end e h)))

    pub call_read : (a : ArgumentList) (z : List Token) → args ts ≡ Read a z → to (named_of name) (name_tail args) ts ≡ Read (Call (callee.Function name) a.0 a.1.0 a.1.1) z
    call_read a z h = held (λ o. o ≡ Read (Call (callee.Function name) a.0 a.1.0 a.1.1) z) (named_of name) (name_tail args) ts
        (on_some is_open_or_dot call_or begins_tail (on_yes is_open_mark One args Two dotted_part opens_tail (on_last h refl)))

  module _ (no_call : when (is_mark (codes "(")) (first ts) ≡ false) (p : Place) (r : List Token) (dot : mark_rule (codes ".") ts ≡ Read p r) where
    not_open : when is_open_mark (first ts) ≡ false
    not_open = open_is (first ts) ∙ no_call

    dotted : when is_open_or_dot (first ts) ≡ true
    dotted = tail_is (first ts) ∙ second_true (when (is_mark (codes "(")) (first ts)) (when (is_mark (codes ".")) (first ts)) no_call (mark_was (codes ".") ts p r dot)

    pub word_stops : (end : Place) (e : Stop (Refusal ParseKind)) → Fails end e (kept is_any_word r) → Fails end e (to (named_of name) (name_tail args) ts)
    word_stops end e h = held (Fails end e) (named_of name) (name_tail args) ts
        (on_some is_open_or_dot call_or dotted (on_no is_open_mark One args Two dotted_part not_open (on_read (mark_rule (codes ".")) word_part dot (on_stop (kept is_any_word) (optional is_open_mark args) end e h))))

    module _ (w : Token) (s : List Token) (word : kept is_any_word r ≡ Read w s) where
      pub member_stops : (end : Place) (e : Stop (Refusal ParseKind)) → Fails end e (optional is_open_mark args s) → Fails end e (to (named_of name) (name_tail args) ts)
      member_stops end e h = held (Fails end e) (named_of name) (name_tail args) ts
          (on_some is_open_or_dot call_or dotted (on_no is_open_mark One args Two dotted_part not_open (on_read (mark_rule (codes ".")) word_part dot
          (on_read (kept is_any_word) (optional is_open_mark args) word (on_last_stop end e h)))))

      pub member_read : (x : Option ArgumentList) (z : List Token) → optional is_open_mark args s ≡ Read x z → to (named_of name) (name_tail args) ts ≡ Read (member_of name p w x) z
      member_read x z h = held (λ o. o ≡ Read (member_of name p w x) z) (named_of name) (name_tail args) ts
          (on_some is_open_or_dot call_or dotted (on_no is_open_mark One args Two dotted_part not_open (on_read (mark_rule (codes ".")) word_part dot
          (on_read (kept is_any_word) (optional is_open_mark args) word (on_last h refl)))))

-- ---- a part in parentheses where one stands there

module _ {A : Type 0} (p : Parser A) (ts : List Token) (there : when (is_mark (codes "(")) (first ts) ≡ true) where
  pub there_stops : (end : Place) (e : Stop (Refusal ParseKind)) → Fails end e (p ts) → Fails end e (optional is_open_mark p ts)
  there_stops end e h = plainly (Fails end e) (optional is_open_mark p) ts (on_some is_open_mark p (open_is (first ts) ∙ there) (on_last_stop end e h))

-- ---- what a parenthesis opens

module _ {A C : Type 0} (f : Place × (A × Place) → C) (rule : ℕ → Parser (Place × (A × Place))) (inner : ℕ → Parser A)
    (suc_is : (k : ℕ) → rule (suc k) ≡ enclosed (inner k)) (n : ℕ) (ts : List Token)
    (p : Place) (r : List Token) (opened : mark_rule (codes "(") ts ≡ Read p r) (k : ℕ) (some : n ≡ suc k) where
  abbrev ended : Parser (A × Place)
  ended = seq (inner k) (mark_rule (codes ")"))

  within_level : (P : ParserOutcome C → Type 0) → Holds P f (enclosed (inner k)) ts → P (to f (rule n) ts)
  within_level P h = subst (λ j. P (to f (rule j) ts)) (sym some) (subst (λ (p : Parser (Place × (A × Place))). P (to f p ts)) (sym (suc_is k)) h.holds)

  pub inner_stops : (end : Place) (e : Stop (Refusal ParseKind)) → Fails end e (inner k r) → Fails end e (to f (rule n) ts)
  inner_stops end e h = within_level (Fails end e) (on_read (mark_rule (codes "(")) ended opened (on_stop (inner k) (mark_rule (codes ")")) end e h))

  module _ (x : A) (s : List Token) (read : inner k r ≡ Read x s) where
    pub closing_stops : (end : Place) (e : Stop (Refusal ParseKind)) → Fails end e (mark_rule (codes ")") s) → Fails end e (to f (rule n) ts)
    closing_stops end e h = within_level (Fails end e) (on_read (mark_rule (codes "(")) ended opened (on_read (inner k) (mark_rule (codes ")")) read (on_last_stop end e h)))

    pub closed_read : (q : Place) (z : List Token) → mark_rule (codes ")") s ≡ Read q z → to f (rule n) ts ≡ Read (f (p, (x, q))) z
    closed_read q z h = within_level (λ o. o ≡ Read (f (p, (x, q))) z) (on_read (mark_rule (codes "(")) ended opened (on_read (inner k) (mark_rule (codes ")")) read (on_last h refl)))

-- the arguments within an argument list
abbrev pub inner_arguments : ℕ → ℕ → Parser Arguments
inner_arguments m k = to listed_arguments (optional begins_expression (chain m is_comma_mark (mark_rule (codes ",")) (expression m k)))

-- an argument list as it is
pub list_stops : (m n : ℕ) (ts : List Token) (end : Place) (e : Stop (Refusal ParseKind)) → Fails end e (to (λ (x : ArgumentList). x) (argument_list m n) ts) → Fails end e (argument_list m n ts)
list_stops m n ts end e h = subst (Fails end e) (plain_outcome (argument_list m n ts)) h

pub list_read : (m n : ℕ) (ts : List Token) (x : ArgumentList) (z : List Token) → to (λ (x : ArgumentList). x) (argument_list m n) ts ≡ Read x z → argument_list m n ts ≡ Read x z
list_read m n ts x z h = sym (plain_outcome (argument_list m n ts)) ∙ h

-- ---- lists of expressions

-- further expressions, each behind its comma
abbrev pub commas : ℕ → Parser Expression → Parser (List (Place × Expression))
commas m e = many_of m is_comma_mark (seq (mark_rule (codes ",")) e)

-- expressions with commas between them
abbrev pub value_list : ℕ → Parser Expression → Parser Arguments
value_list m e = to (λ x. Argument None x.0 (listed_further x.1)) (chain m is_comma_mark (mark_rule (codes ",")) e)

module _ (m : ℕ) (e : Parser Expression) (ts : List Token) where
  pub first_stops : (end : Place) (y : Stop (Refusal ParseKind)) → Fails end y (e ts) → Fails end y (value_list m e ts)
  first_stops end y h = held (Fails end y) (λ (x : Expression × List (Place × Expression)). Argument None x.0 (listed_further x.1)) (seq e (commas m e)) ts (on_stop e (commas m e) end y h)

  pub first_read : (a : Expression) (r : List Token) → e ts ≡ Read a r → value_list m e ts ≡ and_then (commas m e r) (λ l. pure (Argument None a (listed_further l)))
  first_read a r h = held (λ o. o ≡ and_then (commas m e r) (λ l. pure (Argument None a (listed_further l)))) (λ (x : Expression × List (Place × Expression)). Argument None x.0 (listed_further x.1)) (seq e (commas m e)) ts (on_read e (commas m e) h (taken refl))

-- a further expression behind its comma
module _ (e : Parser Expression) (ts : List Token) (p : Place) (r : List Token) (comma : mark_rule (codes ",") ts ≡ Read p r) where
  pub further_stops : (end : Place) (y : Stop (Refusal ParseKind)) → Fails end y (e r) → Fails end y (seq (mark_rule (codes ",")) e ts)
  further_stops end y h = plainly (Fails end y) (seq (mark_rule (codes ",")) e) ts (on_read (mark_rule (codes ",")) e comma (on_last_stop end y h))

  pub further_read : (x : Expression) (z : List Token) → e r ≡ Read x z → seq (mark_rule (codes ",")) e ts ≡ Read (p, x) z
  further_read x z h = plainly (λ o. o ≡ Read (p, x) z) (seq (mark_rule (codes ",")) e) ts (on_read (mark_rule (codes ",")) e comma (on_last h refl))
