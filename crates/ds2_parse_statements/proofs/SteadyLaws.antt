-- What the rules read depends on the tokens up to the next one, and more levels or turns change nothing of it.
use Rattle.std.proofs.Common.{true≢false, ◌≡◌, ℕ, zero, suc, ◌≤◌, Bool, true, false, ◌||◌, codes, List, [], ◌∷◌, Option, Some, None, if◌then◌else◌, refl, sym, ap, ◌∙◌, arith}
use Rattle.std.specs.List.{list_any}
use Rattle.std.specs.Str.{bytes_eq}
use Rattle.ds2_base.specs.declared.place.Place.{Place}
use Rattle.ds2_token.specs.declared.token.Token.{Token}
use Rattle.ds2_token.specs.Words.{is_word, is_mark, is_one_of, is_name_token, is_any_word, is_table, is_text}
use Rattle.ds2_tree.specs.Parsers.{ParserOutcome, Unexpected, Parser, Either, One, Two, and_then, ◌>>>◌, pure, unexpected, too_deep, first, token_value, passing, kept, when, either, choose_by, to, seq, many_of, optional, chain, closed}
use Rattle.ds2_tree.proofs.Steady.{Moves, steady_no, steady_deep, steady_choose, Steadily, by_one, by_to, by_seq, by_choose, by_optional, by_many}
use Rattle.ds2_tree.specs.declared.expressions.ChainKind.{ChainKind}
use Rattle.ds2_tree.specs.declared.expressions.ChainKind.TheVariants.{Or, And, Concatenation, Sum, Product}
use Rattle.ds2_tree.specs.declared.statements.PutItem.{PutItem}
use Rattle.ds2_tree.specs.Expressions.{Expression, is_constant, is_null_word, is_sign, is_not, is_comparison, is_operator}
use Rattle.ds2_tree.specs.Statements.{Statement, is_while_or_until}
use Rattle.ds2_parse_rules.specs.GrammarTokens.{mark_place, mark_rule, word_rule, enclosed, is_open_mark, is_comma_mark, starts, one_or_more, behind_commas, comma_list}
use Rattle.ds2_parse_rules.specs.ExpressionGrammar.{ArgumentList, chain_of, comparison_of, listed_arguments, primary_of, unary_of, negation_of, begins_expression, is_open_or_dot, member_tail, name_tail, primary, operators, comparison_rule, negation_with, expression_with, args_with, paren_with, unary_at, three, expression, argument_list}
use Rattle.ds2_parse_rules.specs.StatementGrammar.{SelectTree, DoTree, Last4, Last7, Plain, Ended, NamedTail, StatementTree, is_semicolon_mark, is_equals_mark, is_equals_or_dot, begins_item, begins_control, statement_words, begins_statement, item_of, item_rule, control_of, control_rule, if_else_of, if_rule, when_rule, select_rule, do_rule, named_tail, plain_rule, statement_of_kind, last4_rule, last7_rule, statement_with, statement_rule}
use Rattle.ds2_parse_rules.proofs.GrammarTokenLaws.{or_false, word_value}

-- ---- tokens

module _ {Same : Type 0} where
  pub by_kept : (is : Token → Bool) → Steadily Same (kept is) (kept is)
  by_kept is = by_one (passing is)

  pub by_mark : (s : List ℕ) → Steadily Same (mark_rule s) (mark_rule s)
  by_mark s = by_one (mark_place s)

  pub by_word : (w : List ℕ) → Steadily Same (word_rule w) (word_rule w)
  by_word w = by_kept (is_word w)

  pub by_enclosed : {A : Type 0} {p p' : Parser A} → Steadily Same p p' → Steadily Same (enclosed p) (enclosed p')
  by_enclosed h = by_seq (by_mark (codes "(")) (by_seq h (by_mark (codes ")")))

  pub by_chain : {A O : Type 0} (m m' : ℕ) → m ≤ m' → (is : Token → Bool) {o o' : Parser O} {p p' : Parser A} → Steadily Same o o' → Steadily Same p p' → Steadily Same (chain m is o p) (chain m' is o' p')
  by_chain m m' le is o h = by_seq h (by_many m m' le is (by_seq o h))

  pub by_more : {A : Type 0} (m m' : ℕ) → m ≤ m' → (is : Token → Bool) {p p' : Parser A} → Steadily Same p p' → Steadily Same (one_or_more m is p) (one_or_more m' is p')
  by_more m m' le is h = by_to (λ x. x.0 ∷ x.1) (by_seq h (by_many m m' le is h))

  pub by_commas : {A X : Type 0} (m m' : ℕ) → m ≤ m' → (is : Token → Bool) (put : Option Place → X → A) {p p' : Parser X} → Steadily Same p p' → Steadily Same (comma_list m is put p) (comma_list m' is put p')
  by_commas m m' le is put h = by_to (behind_commas put) (by_optional is (by_chain m m' le is_comma_mark (by_mark (codes ",")) h))

  pub by_closed : {A : Type 0} (is : Token → Bool) → Steadily {A = A} Same (closed is) (closed is)
  by_closed is = record { holds = steady_choose Same is too_deep too_deep unexpected unexpected (steady_deep Same) (steady_no Same) }

  -- against a parser of more levels, which refuses the same tokens
  deeper : {A : Type 0} (is : Token → Bool) (p : Parser A) → (Same → ⊥) → ((q : List Token) → when is (first q) ≡ false → p q ≡ Unexpected q) → Steadily Same (closed is) p
  deeper {A} is p not refuses = record { holds = λ ts. at ts (when is (first ts)) refl }
    where
      at : (ts : List Token) (c : Bool) → when is (first ts) ≡ c → Moves Same p ts (either c too_deep unexpected ts)
      at ts true e = λ s. absurd (not s)
      at ts false e = ([], refl, λ q a. refuses q (ap (when is) (sym a) ∙ e))

-- ---- what is refused at its first token

kept_no : (is : Token → Bool) (q : List Token) → when is (first q) ≡ false → kept is q ≡ Unexpected q
kept_no is [] e = refl
kept_no is (t ∷ q) e = ap (λ b. token_value (if b then Some t else None) (t ∷ q)) e

mark_no : (s : List ℕ) (q : List Token) → when (is_one_of [] (s ∷ [])) (first q) ≡ false → mark_rule s q ≡ Unexpected q
mark_no s [] e = refl
mark_no s (t ∷ q) e = ap (λ b. token_value (if b then Some t.place else None) (t ∷ q)) (or_false (is_mark s t) false e).0

seq_no : {A B : Type 0} (p : Parser A) (r : Parser B) (q : List Token) → p q ≡ Unexpected q → seq p r q ≡ Unexpected q
seq_no {A} {B} p r q h = ap (λ (o : ParserOutcome A). and_then o (λ a. r >>> λ b. pure (a, b))) h

to_no : {A B : Type 0} (f : A → B) (p : Parser A) (q : List Token) → p q ≡ Unexpected q → to f p q ≡ Unexpected q
to_no {A} f p q h = ap (λ (o : ParserOutcome A). and_then o (λ a. pure (f a))) h

choose_no : {A B : Type 0} (is : Token → Bool) (p : Parser A) (p' : Parser B) (q : List Token) → when is (first q) ≡ false → p' q ≡ Unexpected q → choose_by is (to One p) (to Two p') q ≡ Unexpected q
choose_no is p p' q h g = ap (λ c. either c (to One p) (to Two p') q) h ∙ to_no Two p' q g

-- ---- expressions

module _ {Same : Type 0} (m m' : ℕ) (le : m ≤ m') where
  module _ {a a' : Parser ArgumentList} (ha : Steadily Same a a') where
    steady_member : Steadily Same (member_tail a) (member_tail a')
    steady_member = by_seq (by_mark (codes ".")) (by_seq (by_kept is_any_word) (by_optional is_open_mark ha))

    steady_name : Steadily Same (name_tail a) (name_tail a')
    steady_name = by_optional is_open_or_dot (by_choose is_open_mark (by_to One ha) (by_to Two steady_member))

    steady_primary : {p p' : Parser (Place × (Expression × Place))} → Steadily Same p p' → Steadily Same (primary a p) (primary a' p')
    steady_primary h =
        by_to primary_of (by_choose is_constant (by_to One (by_kept is_constant)) (by_to Two
        (by_choose is_null_word (by_to One (by_seq (by_kept is_null_word) (by_optional is_open_mark ha))) (by_to Two
        (by_choose is_name_token (by_to One (by_seq (by_kept is_name_token) steady_name)) (by_to Two h))))))

  steady_operators : (kind : ChainKind) {p p' : Parser Expression} → Steadily Same p p' → Steadily Same (operators m kind p) (operators m' kind p')
  steady_operators kind h = by_to (λ x. chain_of kind x.0 x.1) (by_chain m m' le (is_operator kind) (by_kept (is_operator kind)) h)

  steady_comparison : {p p' : Parser Expression} → Steadily Same p p' → Steadily Same (comparison_rule p) (comparison_rule p')
  steady_comparison h = by_to (λ x. comparison_of x.0 x.1) (by_seq h (by_optional is_comparison (by_seq (by_kept is_comparison) h)))

  steady_negation : {g g' : Parser (Token × Expression)} {u u' : Parser Expression} → Steadily Same g g' → Steadily Same u u' → Steadily Same (negation_with m g u) (negation_with m' g' u')
  steady_negation hg hu = by_to negation_of (by_choose is_not (by_to One hg) (by_to Two (steady_comparison (steady_operators Concatenation (steady_operators Sum (steady_operators Product hu))))))

  steady_whole : {p p' : Parser Expression} → Steadily Same p p' → Steadily Same (expression_with m p) (expression_with m' p')
  steady_whole h = steady_operators Or (steady_operators And h)

  steady_args_with : {p p' : Parser Expression} → Steadily Same p p' → Steadily Same (args_with m p) (args_with m' p')
  steady_args_with h = by_seq (by_mark (codes "(")) (by_seq (by_to listed_arguments (by_optional begins_expression (by_chain m m' le is_comma_mark (by_mark (codes ",")) h))) (by_mark (codes ")")))

  steady_unary : {a a' : Parser ArgumentList} {p p' : Parser (Place × (Expression × Place))} {s s' : Parser (Token × Expression)} → Steadily Same a a' → Steadily Same p p' → Steadily Same s s' → Steadily Same (unary_at a p s) (unary_at a' p' s')
  steady_unary ha hp hs = by_to unary_of (by_choose is_sign (by_to One hs) (by_to Two (steady_primary ha hp)))

args_no : (m : ℕ) (e : Parser Expression) (q : List Token) → when is_open_mark (first q) ≡ false → args_with m e q ≡ Unexpected q
args_no m e q h = seq_no (mark_rule (codes "(")) (seq (to listed_arguments (optional begins_expression (chain m is_comma_mark (mark_rule (codes ",")) e))) (mark_rule (codes ")"))) q (mark_no (codes "(") q h)

paren_no : (e : Parser Expression) (q : List Token) → when is_open_mark (first q) ≡ false → paren_with e q ≡ Unexpected q
paren_no e q h = seq_no (mark_rule (codes "(")) (seq e (mark_rule (codes ")"))) q (mark_no (codes "(") q h)

prefix_no : (is : Token → Bool) (e : Parser Expression) (q : List Token) → when is (first q) ≡ false → seq (kept is) e q ≡ Unexpected q
prefix_no is e q h = seq_no (kept is) e q (kept_no is q h)

abbrev Three : Type 0 → Parser Expression × (Parser Expression × Parser Expression) → Parser Expression × (Parser Expression × Parser Expression) → Type 0
Three Same x y = Steadily Same x.0 y.0 × (Steadily Same x.1.0 y.1.0 × Steadily Same x.1.1 y.1.1)

module _ {Same : Type 0} (m m' : ℕ) (le : m ≤ m') where
  pub level : (n n' : ℕ) → suc n ≤ suc n' → (Same → suc n ≡ suc n') → (n ≤ n') × (Same → n ≡ n')
  level n n' low is = (omega (arith, low), λ s. let e = is s in omega (arith, e))

  -- of the rules of what opens a level
  all_three : {a a' : Parser ArgumentList} {p p' : Parser (Place × (Expression × Place))} {s s' g g' : Parser (Token × Expression)} → Steadily Same a a' → Steadily Same p p' → Steadily Same s s' → Steadily Same g g'
      → Steadily Same (unary_at a p s) (unary_at a' p' s')
      × (Steadily Same (negation_with m g (unary_at a p s)) (negation_with m' g' (unary_at a' p' s'))
      × Steadily Same (expression_with m (negation_with m g (unary_at a p s))) (expression_with m' (negation_with m' g' (unary_at a' p' s'))))
  all_three ha hp hs hg = let u = steady_unary m m' le ha hp hs in let g = steady_negation m m' le hg u in (u, (g, steady_whole m m' le g))

  steady_three : (n n' : ℕ) → n ≤ n' → (Same → n ≡ n') → Three Same (three m n) (three m' n')
  steady_three zero zero low is = all_three (by_closed is_open_mark) (by_closed is_open_mark) (by_closed is_sign) (by_closed is_not)
  steady_three zero (suc n') low is =
      let never : Same → ⊥ = λ s. let e = is s in absurd (omega (arith, e)) in let e = (three m' n').1.1 in
      all_three (deeper is_open_mark (args_with m' e) never (args_no m' e)) (deeper is_open_mark (paren_with e) never (paren_no e))
      (deeper is_sign (seq (kept is_sign) (three m' n').0) never (prefix_no is_sign (three m' n').0)) (deeper is_not (seq (kept is_not) (three m' n').1.0) never (prefix_no is_not (three m' n').1.0))
  steady_three (suc n) zero low is = absurd (omega (arith, low))
  steady_three (suc n) (suc n') low is =
      let h = steady_three n n' (level n n' low is).0 (level n n' low is).1 in
      all_three (steady_args_with m m' le h.1.1) (by_enclosed h.1.1) (by_seq (by_kept is_sign) h.0) (by_seq (by_kept is_not) h.1.0)

  pub steady_expression : (n n' : ℕ) → n ≤ n' → (Same → n ≡ n') → Steadily Same (expression m n) (expression m' n')
  steady_expression n n' low is = (steady_three n n' low is).1.1

  pub steady_arguments : (n n' : ℕ) → n ≤ n' → (Same → n ≡ n') → Steadily Same (argument_list m n) (argument_list m' n')
  steady_arguments zero zero low is = by_closed is_open_mark
  steady_arguments zero (suc n') low is = deeper is_open_mark (args_with m' (expression m' n')) (λ s. let e = is s in absurd (omega (arith, e))) (args_no m' (expression m' n'))
  steady_arguments (suc n) zero low is = absurd (omega (arith, low))
  steady_arguments (suc n) (suc n') low is = steady_args_with m m' le (steady_expression n n' (level n n' low is).0 (level n n' low is).1)

-- ---- statements

module _ {Same : Type 0} (m m' : ℕ) (le : m ≤ m') {e e' : Parser Expression} (he : Steadily Same e e') where
  steady_control : Steadily Same (control_rule e) (control_rule e')
  steady_control =
      by_to control_of (by_optional begins_control (by_choose is_name_token
      (by_to One (by_seq (by_kept is_name_token) (by_seq (by_mark (codes "=")) (by_seq he (by_seq (by_word (codes "to")) (by_seq he (by_optional (starts (codes "by")) (by_seq (by_word (codes "by")) he))))))))
      (by_to Two (by_seq (by_kept is_while_or_until) (by_enclosed he)))))

  module _ {i i' : Parser Statement} (hi : Steadily Same i i') where
    steady_if : (j j' : ℕ) → j ≤ j' → Steadily Same (if_rule j e i) (if_rule j' e' i')
    steady_if zero j' low = record { holds = λ ts. tt }
    steady_if (suc j) zero low = absurd (omega (arith, low))
    steady_if (suc j) (suc j') low =
        by_to (λ x. if_else_of x.0 x.1.0 x.1.1.0 x.1.1.1.0 x.1.1.1.1) (by_seq (by_word (codes "if")) (by_seq he (by_seq (by_word (codes "then")) (by_seq hi
        (by_optional (starts (codes "else")) (by_seq (by_word (codes "else")) (by_choose (starts (codes "if")) (steady_if j j' (omega (arith, low))) hi)))))))

    steady_when : Steadily Same (when_rule m e i) (when_rule m' e' i')
    steady_when = by_seq (by_word (codes "when")) (by_seq (by_mark (codes "(")) (by_seq (by_chain m m' le is_comma_mark (by_mark (codes ",")) he) (by_seq (by_mark (codes ")")) hi)))

    steady_end : Steadily Same (seq (word_rule (codes "end")) (mark_rule (codes ";"))) (seq (word_rule (codes "end")) (mark_rule (codes ";")))
    steady_end = by_seq (by_word (codes "end")) (by_mark (codes ";"))

    steady_select : Steadily Same (select_rule m e i) (select_rule m' e' i')
    steady_select =
        by_seq (by_word (codes "select")) (by_seq (by_optional is_open_mark (by_enclosed he)) (by_seq (by_mark (codes ";"))
        (by_seq (by_many m m' le (starts (codes "when")) steady_when) (by_seq (by_optional (starts (codes "otherwise")) (by_seq (by_word (codes "otherwise")) hi)) steady_end))))

    steady_do : Steadily Same (do_rule m e i) (do_rule m' e' i')
    steady_do = by_seq (by_word (codes "do")) (by_seq steady_control (by_seq (by_mark (codes ";")) (by_seq (by_many m m' le begins_statement hi) steady_end)))

    steady_last4 : Steadily Same (last4_rule m e i) (last4_rule m' e' i')
    steady_last4 = by_choose (starts (codes "if")) (by_to One (steady_if m m' le)) (by_to Two (by_choose (starts (codes "select")) (by_to One steady_select) (by_to Two steady_do)))

    steady_item : Steadily Same item_rule item_rule
    steady_item = by_to item_of (by_choose is_text (by_to One (by_kept is_text)) (by_to Two (by_seq (by_kept is_name_token)
        (by_optional is_equals_or_dot (by_choose is_equals_mark (by_to One (by_mark (codes "="))) (by_to Two (by_seq (by_mark (codes ".")) (by_kept is_any_word))))))))

    steady_last7 : Steadily Same (last7_rule m e i) (last7_rule m' e' i')
    steady_last7 =
        by_choose (starts (codes "return")) (by_to One (by_seq (by_word (codes "return")) (by_seq (by_optional begins_expression he) (by_mark (codes ";"))))) (by_to Two
        (by_choose (starts (codes "output")) (by_to One (by_seq (by_word (codes "output")) (by_seq (by_many m m' le is_table (by_kept is_table)) (by_mark (codes ";"))))) (by_to Two
        (by_choose (starts (codes "put")) (by_to One (by_seq (by_word (codes "put")) (by_seq (by_many m m' le begins_item steady_item) (by_mark (codes ";"))))) (by_to Two steady_last4)))))

    module _ {a a' : Parser ArgumentList} (ha : Steadily Same a a') where
      steady_named : Steadily Same (named_tail e a) (named_tail e' a')
      steady_named =
          by_choose is_equals_mark (by_to One (by_seq (by_mark (codes "=")) (by_seq he (by_mark (codes ";"))))) (by_to Two
          (by_choose is_open_mark (by_to One (by_seq ha (by_mark (codes ";")))) (by_to Two (by_seq (by_mark (codes ".")) (by_seq (by_kept is_any_word) (by_seq ha (by_mark (codes ";"))))))))

      steady_plain : (w : List ℕ) → Steadily Same (plain_rule w) (plain_rule w)
      steady_plain w = by_seq (by_word w) (by_mark (codes ";"))

      steady_statement_with : Steadily Same (statement_with m e a i) (statement_with m' e' a' i')
      steady_statement_with =
          by_to statement_of_kind (by_choose is_semicolon_mark (by_to One (by_mark (codes ";"))) (by_to Two
          (by_choose is_name_token (by_to One (by_seq (by_kept is_name_token) steady_named)) (by_to Two
          (by_choose (starts (codes "null")) (by_to One (by_seq (by_word (codes "null")) (by_seq ha (by_mark (codes ";"))))) (by_to Two
          (by_choose (starts (codes "leave")) (by_to One (steady_plain (codes "leave"))) (by_to Two
          (by_choose (starts (codes "continue")) (by_to One (steady_plain (codes "continue"))) (by_to Two steady_last7))))))))))

-- no statement begins where its first token is none of theirs
among_false : (w : List ℕ) (o : Option Token) → list_any (λ v. bytes_eq w v) statement_words ≡ true → when (is_one_of statement_words (codes ";" ∷ [])) o ≡ false → when (starts w) o ≡ false
among_false w None a h = refl
among_false w (Some t) a h = other_than (is_word w t) (λ e. word_value w t e statement_words (codes ";" ∷ []) ∙ a) h
  where
    other_than : (b : Bool) → (b ≡ true → is_one_of statement_words (codes ";" ∷ []) t ≡ true) → is_one_of statement_words (codes ";" ∷ []) t ≡ false → ((b || false) || false) ≡ false
    other_than true f h = absurd (true≢false (sym (f refl) ∙ h))
    other_than false f h = refl

none_of : (o : Option Token) → when begins_statement o ≡ false → (when is_name_token o ≡ false) × (when (is_one_of statement_words (codes ";" ∷ [])) o ≡ false)
none_of None h = (refl, refl)
none_of (Some t) h = or_false (is_name_token t) (is_one_of statement_words (codes ";" ∷ []) t) h

no_semicolon : (o : Option Token) → when (is_one_of statement_words (codes ";" ∷ [])) o ≡ false → when is_semicolon_mark o ≡ false
no_semicolon None h = refl
no_semicolon (Some t) h = (or_false (list_any (λ w. is_word w t) statement_words) (is_mark (codes ";") t || false) h).1

word_no : (w : List ℕ) (q : List Token) → when (starts w) (first q) ≡ false → word_rule w q ≡ Unexpected q
word_no w q h = kept_no (is_word w) q (test (first q) h)
  where
    test : (o : Option Token) → when (starts w) o ≡ false → when (is_word w) o ≡ false
    test None h = refl
    test (Some t) h = (or_false (is_word w t) false (or_false (is_word w t || false) false h).0).0

statement_no : (m : ℕ) (e : Parser Expression) (a : Parser ArgumentList) (i : Parser Statement) (q : List Token) → when begins_statement (first q) ≡ false → statement_with m e a i q ≡ Unexpected q
statement_no m e a i q h =
    let both = none_of (first q) h in
    let no = λ (w : List ℕ) (x : list_any (λ v. bytes_eq w v) statement_words ≡ true). among_false w (first q) x both.1 in
    let by_do = do_rule m e i in
    let by_select : Parser (Either SelectTree DoTree) = choose_by (starts (codes "select")) (to One (select_rule m e i)) (to Two by_do) in
    let by_if : Parser Last4 = choose_by (starts (codes "if")) (to One (if_rule m e i)) (to Two by_select) in
    let puts = seq (word_rule (codes "put")) (seq (many_of m begins_item item_rule) (mark_rule (codes ";"))) in
    let by_put : Parser (Either (Token × (List PutItem × Place)) Last4) = choose_by (starts (codes "put")) (to One puts) (to Two by_if) in
    let outputs = seq (word_rule (codes "output")) (seq (many_of m is_table (kept is_table)) (mark_rule (codes ";"))) in
    let by_output : Parser (Either (Token × (List Token × Place)) (Either (Token × (List PutItem × Place)) Last4)) = choose_by (starts (codes "output")) (to One outputs) (to Two by_put) in
    let returns = seq (word_rule (codes "return")) (seq (optional begins_expression e) (mark_rule (codes ";"))) in
    let by_return : Parser Last7 = choose_by (starts (codes "return")) (to One returns) (to Two by_output) in
    let by_continue : Parser (Either Plain Last7) = choose_by (starts (codes "continue")) (to One (plain_rule (codes "continue"))) (to Two by_return) in
    let by_leave : Parser (Either Plain (Either Plain Last7)) = choose_by (starts (codes "leave")) (to One (plain_rule (codes "leave"))) (to Two by_continue) in
    let nulls = seq (word_rule (codes "null")) (seq a (mark_rule (codes ";"))) in
    let by_null : Parser (Either (Token × Ended) (Either Plain (Either Plain Last7))) = choose_by (starts (codes "null")) (to One nulls) (to Two by_leave) in
    let names = seq (kept is_name_token) (named_tail e a) in
    let by_name : Parser (Either (Token × NamedTail) (Either (Token × Ended) (Either Plain (Either Plain Last7)))) = choose_by is_name_token (to One names) (to Two by_null) in
    let by_all : Parser StatementTree = choose_by is_semicolon_mark (to One (mark_rule (codes ";"))) (to Two by_name) in
    let blocks = seq (control_rule e) (seq (mark_rule (codes ";")) (seq (many_of m begins_statement i) (seq (word_rule (codes "end")) (mark_rule (codes ";"))))) in
    to_no statement_of_kind by_all q
    (choose_no is_semicolon_mark (mark_rule (codes ";")) by_name q (no_semicolon (first q) both.1)
    (choose_no is_name_token names by_null q both.0
    (choose_no (starts (codes "null")) nulls by_leave q (no (codes "null") refl)
    (choose_no (starts (codes "leave")) (plain_rule (codes "leave")) by_continue q (no (codes "leave") refl)
    (choose_no (starts (codes "continue")) (plain_rule (codes "continue")) by_return q (no (codes "continue") refl)
    (choose_no (starts (codes "return")) returns by_output q (no (codes "return") refl)
    (choose_no (starts (codes "output")) outputs by_put q (no (codes "output") refl)
    (choose_no (starts (codes "put")) puts by_if q (no (codes "put") refl)
    (choose_no (starts (codes "if")) (if_rule m e i) by_select q (no (codes "if") refl)
    (choose_no (starts (codes "select")) (select_rule m e i) by_do q (no (codes "select") refl)
    (seq_no (word_rule (codes "do")) blocks q (word_no (codes "do") q (no (codes "do") refl)))))))))))))

statement_refuses : (m' n : ℕ) (q : List Token) → when begins_statement (first q) ≡ false → statement_rule m' n q ≡ Unexpected q
statement_refuses m' zero q h = statement_no m' (expression m' 0) (argument_list m' 0) (closed begins_statement) q h
statement_refuses m' (suc n) q h = statement_no m' (expression m' (suc n)) (argument_list m' (suc n)) (statement_rule m' n) q h

module _ {Same : Type 0} (m m' : ℕ) (le : m ≤ m') where
  pub steady_statement : (n n' : ℕ) → n ≤ n' → (Same → n ≡ n') → Steadily Same (statement_rule m n) (statement_rule m' n')
  steady_statement zero zero low is = steady_statement_with m m' le (steady_expression m m' le 0 0 low is) (by_closed begins_statement) (steady_arguments m m' le 0 0 low is)
  steady_statement zero (suc n') low is =
      let never : Same → ⊥ = λ s. let e = is s in absurd (omega (arith, e)) in
      steady_statement_with m m' le (steady_expression m m' le 0 (suc n') low is) (deeper begins_statement (statement_rule m' n') never (statement_refuses m' n')) (steady_arguments m m' le 0 (suc n') low is)
  steady_statement (suc n) zero low is = absurd (omega (arith, low))
  steady_statement (suc n) (suc n') low is =
      steady_statement_with m m' le (steady_expression m m' le (suc n) (suc n') low is) (steady_statement n n' (level m m' le n n' low is).0 (level m m' le n n' low is).1) (steady_arguments m m' le (suc n) (suc n') low is)
