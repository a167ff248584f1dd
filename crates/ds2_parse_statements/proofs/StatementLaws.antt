-- The laws of statements.
use Rattle.std.proofs.Common.{true≢false, ◌≡◌, ℕ, zero, suc, ◌+◌, ◌≤◌, ◌<◌, Bool, true, false, ◌||◌, codes, List, [], ◌∷◌, ◌++◌, length, Option, Some, None, refl, sym, ap, ◌∙◌, arith}
use Rattle.std.specs.List.{list_any}
use Rattle.std.specs.Str.{bytes_eq}
use Rattle.std.proofs.lemmas.List.{append-nil}
use Rattle.std.proofs.lemmas.Bool.{false_from_ne_true}
use Rattle.ds2_token.specs.declared.token.Token.{Token}
use Rattle.ds2_tree.specs.Levels.{first_opened, one_in}
use Rattle.ds2_tree.specs.Parsers.{ParserOutcome, Read, Unexpected, TooDeep, Spent, Parser, first, when, either, choose_by, seq, optional}
use Rattle.ds2_tree.proofs.Goes.{goes}
use Rattle.ds2_tree.proofs.Rules.{Rule}
use Rattle.ds2_tree.proofs.Words.{Part, sym as symbol, Law, Passes, fewer, kept_part, kept_law, seq_part, seq_law, then_part, then_less, then_law, token_then, to_law, optional_part, optional_law}
use Rattle.ds2_tree.specs.declared.expressions.Callee.TheVariants as callee
use Rattle.ds2_token.specs.Words.{is_word, is_one_of, is_name_token, reserved_words}
use Rattle.ds2_tree.specs.Expressions.{Expression, Constant, expression_spelling, expression_opens}
use Rattle.ds2_tree.specs.Statements.{Statement, Empty, Assignment, Call, Leave, Continue, Return, Output, Put, If, IfElse, Select, Do, begins_if, ends_open, IsStatement, statement_spelling, in_else, statement_opens}
use Rattle.ds2_parse_rules.specs.GrammarTokens.{word_rule, starts}
use Rattle.ds2_parse_rules.specs.StatementGrammar.{statement_words, begins_statement, if_else_of, if_rule}
use Rattle.ds2_parse_rules.proofs.GrammarTokenLaws.{never, or_cases, word_value, others, name_is_none, apart, within, zero_token, word_token, start, or_last}
use Rattle.ds2_parse_statements.proofs.ExpressionLaws.{AfterExpression, comparison_words, comparison_marks, expression_part, first_of_nil}

-- ---- words behind an expression

pub after_word : (w : List ℕ) (t : Token) → is_word w t ≡ true → list_any (λ v. bytes_eq w v) (codes "or" ∷ []) ≡ false → list_any (λ v. bytes_eq w v) (codes "and" ∷ []) ≡ false
    → list_any (λ v. bytes_eq w v) comparison_words ≡ false → AfterExpression (Some t)
after_word w t h o a c = (
  word_value w t h (codes "or" ∷ []) (codes "|" ∷ []) ∙ o,
  (
    word_value w t h (codes "and" ∷ []) (codes "&" ∷ []) ∙ a,
    (
      word_value w t h comparison_words comparison_marks ∙ c,
      (
        word_value w t h [] (codes "||" ∷ []),
        (
          word_value w t h [] (codes "+" ∷ codes "-" ∷ []),
          (
            word_value w t h [] (codes "*" ∷ codes "/" ∷ []),
            (word_value w t h [] (codes "(" ∷ []), word_value w t h [] (codes "." ∷ [])),
          ),
        ),
      ),
    ),
  ),
)

-- ---- how a statement begins

by_word : (w : List ℕ) (t : Token) → is_word w t ≡ true → list_any (λ v. bytes_eq w v) statement_words ≡ true → begins_statement t ≡ true
by_word w t h among = or_last (is_name_token t) (is_one_of statement_words (codes ";" ∷ []) t) (word_value w t h statement_words (codes ";" ∷ []) ∙ among)

by_name : (t : Token) → is_name_token t ≡ true → begins_statement t ≡ true
by_name t h = ap (λ b. b || is_one_of statement_words (codes ";" ∷ []) t) h

pub statement_starts : (s : Statement) (rest : List Token) → IsStatement s → when begins_statement (first (statement_spelling s ++ rest)) ≡ true
statement_starts (Empty end) rest f = refl
statement_starts (Assignment t p e end) rest f = by_name t f.0
statement_starts (Call (callee.Function t) p xs q end) rest f = by_name t f.0
statement_starts (Call (callee.Null t) p xs q end) rest f = by_word (codes "null") t f.0 refl
statement_starts (Call (callee.Method t d w) p xs q end) rest f = by_name t f.0.0
statement_starts (Leave k end) rest f = by_word (codes "leave") k f refl
statement_starts (Continue k end) rest f = by_word (codes "continue") k f refl
statement_starts (Return k e end) rest f = by_word (codes "return") k f.0 refl
statement_starts (Output k ts end) rest f = by_word (codes "output") k f.0 refl
statement_starts (Put k is end) rest f = by_word (codes "put") k f.0 refl
statement_starts (If k e t s) rest f = by_word (codes "if") k f.0 refl
statement_starts (IfElse k e t s w o) rest f = by_word (codes "if") k f.0 refl
statement_starts (Select k s p ws o e end) rest f = by_word (codes "select") k f.0 refl
statement_starts (Do k c p b e end) rest f = by_word (codes "do") k f.0 refl

-- a token with which a statement begins is none of these
pub begins_none : (vs ns : List (List ℕ)) (o : Option Token) → within vs reserved_words ≡ true → apart statement_words vs ≡ true → apart (codes ";" ∷ []) ns ≡ true → when begins_statement o ≡ true → when (is_one_of vs ns) o ≡ false
begins_none vs ns None r a b h = never h
begins_none vs ns (Some t) r a b h = or_cases (is_name_token t) (is_one_of statement_words (codes ";" ∷ []) t) h (λ e. name_is_none vs ns t r e) (λ e. others statement_words (codes ";" ∷ []) vs ns t e a b)

pub statement_closes : (s : Statement) (rest : List Token) → IsStatement s → when (starts (codes "else")) (first (statement_spelling s ++ rest)) ≡ false
statement_closes s rest f = begins_none (codes "else" ∷ []) [] (first (statement_spelling s ++ rest)) refl refl refl (statement_starts s rest f)

if_begins : (s : Statement) (r : List Token) → IsStatement s → when (starts (codes "if")) (first (statement_spelling s ++ r)) ≡ begins_if s
if_begins (Empty end) r f = refl
if_begins (Assignment t p e end) r f = name_is_none (codes "if" ∷ []) [] t refl f.0
if_begins (Call (callee.Function t) p xs q end) r f = name_is_none (codes "if" ∷ []) [] t refl f.0
if_begins (Call (callee.Null t) p xs q end) r f = word_value (codes "null") t f.0 (codes "if" ∷ []) []
if_begins (Call (callee.Method t d w) p xs q end) r f = name_is_none (codes "if" ∷ []) [] t refl f.0.0
if_begins (Leave k end) r f = word_value (codes "leave") k f (codes "if" ∷ []) []
if_begins (Continue k end) r f = word_value (codes "continue") k f (codes "if" ∷ []) []
if_begins (Return k e end) r f = word_value (codes "return") k f.0 (codes "if" ∷ []) []
if_begins (Output k ts end) r f = word_value (codes "output") k f.0 (codes "if" ∷ []) []
if_begins (Put k is end) r f = word_value (codes "put") k f.0 (codes "if" ∷ []) []
if_begins (If k e t s) r f = word_value (codes "if") k f.0 (codes "if" ∷ []) []
if_begins (IfElse k e t s w o) r f = word_value (codes "if") k f.0 (codes "if" ∷ []) []
if_begins (Select k s p ws o e end) r f = word_value (codes "select") k f.0 (codes "if" ∷ []) []
if_begins (Do k c p b e end) r f = word_value (codes "do") k f.0 (codes "if" ∷ []) []

-- ---- the symbols, at n levels

abbrev pub Closes : Statement → Option Token → Type 0
Closes s o = ends_open s ≡ true → when (starts (codes "else")) o ≡ false

abbrev pub statement_part : ℕ → Part Statement
statement_part n = record { spelling = statement_spelling; Fine = IsStatement; opens = λ s. statement_opens s n; Next = Closes; Left = Closes }

-- a statement within one
abbrev pub inner_part : ℕ → Part Statement
inner_part n = record { spelling = statement_spelling; Fine = IsStatement; opens = λ s. one_in (statement_spelling s) (statement_opens s) n; Next = Closes; Left = Closes }

abbrev else_part : ℕ → Part Statement
else_part n = record { spelling = statement_spelling; Fine = IsStatement; opens = λ s. in_else (begins_if s) (statement_spelling s) (statement_opens s) n; Next = Closes; Left = Closes }

abbrev pub if_part : ℕ → Part Statement
if_part n = record { spelling = statement_spelling; Fine = λ s. IsStatement s × (begins_if s ≡ true); opens = λ s. statement_opens s n; Next = Closes; Left = Closes }

abbrev is_if : Token → Bool
is_if t = starts (codes "if") t

abbrev is_else : Token → Bool
is_else t = starts (codes "else") t

-- ---- an else part: an `if` on the same level, or a statement within

module _ (m i n : ℕ) (pf pi : Parser Statement) (lf : Law m i (if_part n) pf) (li : Law m i (inner_part n) pi) where
  as_if : (s : Statement) → begins_if s ≡ true → in_else (begins_if s) (statement_spelling s) (statement_opens s) n ≡ statement_opens s n
  as_if s e = ap (λ b. in_else b (statement_spelling s) (statement_opens s) n) e

  as_inner : (s : Statement) → begins_if s ≡ false → in_else (begins_if s) (statement_spelling s) (statement_opens s) n ≡ one_in (statement_spelling s) (statement_opens s) n
  as_inner s e = ap (λ b. in_else b (statement_spelling s) (statement_opens s) n) e

  if_way : (ts : List Token) (o : ParserOutcome Statement) → Rule (symbol (if_part n)) m [] ts o → Rule (symbol (else_part n)) m [] ts o
  if_way ts (Read s r) (w, e, sp, good) = (w, e, sp, (good.0.0, as_if s good.0.1 ∙ good.1, good.2))
  if_way ts (Unexpected r) (w, e, (s, tail, f, sp)) = (w, e, (s, tail, f.0, sp))
  if_way ts (TooDeep r) (w, t, y, er, e, (s, tail, f, sp)) = (w, t, y, er, e, (s, tail, f.0, sp))
  if_way ts Spent h = h

  inner_way : (ts : List Token) → when is_if (first ts) ≡ false → (o : ParserOutcome Statement) → Rule (symbol (inner_part n)) m [] ts o → Rule (symbol (else_part n)) m [] ts o
  inner_way ts no_if (Read s r) (w, e, sp, good) =
      let same : begins_if s ≡ false = sym (if_begins s r good.0) ∙ ap (λ (l : List Token). when is_if (first (l ++ r))) sp ∙ ap (λ (l : List Token). when is_if (first l)) (sym e) ∙ no_if in
      (w, e, sp, (good.0, as_inner s same ∙ good.1, good.2))
  inner_way ts no_if (Unexpected r) h = h
  inner_way ts no_if (TooDeep r) h = h
  inner_way ts no_if Spent h = h

  else_at : (ts : List Token) (c : Bool) → when is_if (first ts) ≡ c → Rule (symbol (else_part n)) m [] ts (either c pf pi ts)
  else_at ts true e = if_way ts (pf ts) (lf.rule ts)
  else_at ts false e = inner_way ts e (pi ts) (li.rule ts)

  by_test : (s : Statement) (P : Type 0) → (begins_if s ≡ true → P) → (begins_if s ≡ false → P) → P
  by_test s P = at (begins_if s)
    where
      at : (c : Bool) → (c ≡ true → P) → (c ≡ false → P) → P
      at true f g = f refl
      at false f g = g refl

  else_reads : (s : Statement) → IsStatement s → length (statement_spelling s) < m → (rest : List Token) → Closes s (first rest)
      → choose_by is_if pf pi (statement_spelling s ++ rest) ≡ goes ((else_part n).opens s) rest (Read s rest)
  else_reads s f short rest next =
      let ts = statement_spelling s ++ rest in
      by_test s (choose_by is_if pf pi ts ≡ goes ((else_part n).opens s) rest (Read s rest))
      (λ e. ap (λ c. either c pf pi ts) (if_begins s rest f ∙ e) ∙ lf.reads s (f, e) short rest next ∙ ap (λ o. goes o rest (Read s rest)) (sym (as_if s e)))
      (λ e. ap (λ c. either c pf pi ts) (if_begins s rest f ∙ e) ∙ li.reads s f short rest next ∙ ap (λ o. goes o rest (Read s rest)) (sym (as_inner s e)))

  else_enough : (s : Statement) → IsStatement s → length (statement_spelling s) < m → length (statement_spelling s) ≤ i → (else_part n).opens s ≡ None
  else_enough s f short small = by_test s ((else_part n).opens s ≡ None) (λ e. as_if s e ∙ lf.enough s (f, e) short small) (λ e. as_inner s e ∙ li.enough s f short small)

  pub other_law : Law m i (else_part n) (choose_by is_if pf pi)
  other_law = record { some = li.some; reads = else_reads; rule = λ ts. else_at ts (when is_if (first ts)) refl; enough = else_enough }

-- ---- an `if`

abbrev BothIf : Statement → Option (Token × Statement) → Type 0
BothIf a None = Unit {0}
BothIf a (Some x) = Passes (is_word (codes "else")) x.0 → ends_open a ≡ false

abbrev else_item : ℕ → Part (Token × Statement)
else_item n = then_part (kept_part (is_word (codes "else"))) (else_part n)

abbrev else_opt : ℕ → Part (Option (Token × Statement))
else_opt n = optional_part is_else (else_item n)

abbrev then_rest : ℕ → Part (Statement × Option (Token × Statement))
then_rest n = seq_part (inner_part n) (else_opt n) BothIf

abbrev IfTree : Type 0
IfTree = Token × (Expression × (Token × (Statement × Option (Token × Statement))))

abbrev if_tree : ℕ → Part IfTree
if_tree n = then_part (kept_part (is_word (codes "if"))) (then_part (expression_part n) (then_part (kept_part (is_word (codes "then"))) (then_rest n)))

abbrev if_from : Statement → IfTree
if_from (If k c t a) = (k, (c, (t, (a, None))))
if_from (IfElse k c t a w b) = (k, (c, (t, (a, Some (w, b)))))
if_from _ = (zero_token, (Constant zero_token, (zero_token, (Empty start, None))))

abbrev if_of : IfTree → Statement
if_of x = if_else_of x.0 x.1.0 x.1.1.0 x.1.1.1.0 x.1.1.1.1

pub keyword_law : (m n : ℕ) (w : List ℕ) → is_word w (word_token w) ≡ true → Law m n (kept_part (is_word w)) (word_rule w)
keyword_law m n w h = kept_law m n (is_word w) (word_token w, h)

-- i is one less than n, or 0
module _ (m n i : ℕ) (near : n ≤ i + 1) (low : i ≤ n) (e : Parser Expression) (pi : Parser Statement) (le : Law m n (expression_part n) e) (li : Law m i (inner_part n) pi) where
  if_meets : (a : Statement) (x : Option (Token × Statement)) (rest : List Token) → IsStatement a → (else_opt n).Fine x → BothIf a x → (else_opt n).Next x (first rest) → Closes a (first ((else_opt n).spelling x ++ rest))
  if_meets a None rest f g both next = λ o. next
  if_meets a (Some x) rest f g both next = λ o. absurd (true≢false (sym o ∙ both g.0))

  if_both : (a : Statement) (x : Option (Token × Statement)) (rest : List Token) → Closes a (first ((else_opt n).spelling x ++ rest)) → BothIf a x
  if_both a None rest left = tt
  if_both a (Some x) rest left = λ h. false_from_ne_true (ends_open a) (λ o. true≢false (sym (word_value (codes "else") x.0 h (codes "else" ∷ []) []) ∙ left o))

  module _ (j : ℕ) (few : suc j ≤ m) (lf : Law j i (if_part n) (if_rule j e pi)) where
    abbrev else_way : Parser (Option (Token × Statement))
    else_way = optional is_else (seq (word_rule (codes "else")) (choose_by is_if (if_rule j e pi) pi))

    rest_law : Law j i (then_rest n) (seq pi else_way)
    rest_law = seq_law j i j i j i (inner_part n) (else_opt n) BothIf pi else_way
        (fewer (inner_part n) pi m i j i (omega (arith, few)) (omega arith) li)
        (optional_law j i (else_item n) (seq (word_rule (codes "else")) (choose_by is_if (if_rule j e pi) pi))
        (token_then j i (λ t. t) (Passes (is_word (codes "else"))) (else_part n) (word_rule (codes "else")) (choose_by is_if (if_rule j e pi) pi) (keyword_law j i (codes "else") refl)
        (other_law j i n (if_rule j e pi) pi lf (fewer (inner_part n) pi m i j i (omega (arith, few)) (omega arith) li)))
        is_else (λ x rest f. word_value (codes "else") x.0 f.0 (codes "else" ∷ []) []))
        (omega arith) (omega arith) (λ a f. (omega arith, omega arith)) if_meets if_both (λ a f. (None, tt, tt))

    abbrev then_way : Parser (Token × (Statement × Option (Token × Statement)))
    then_way = seq (word_rule (codes "then")) (seq pi else_way)

    tree_law : Law (suc j) n (if_tree n) (seq (word_rule (codes "if")) (seq e then_way))
    tree_law =
        then_less (suc j) n (suc j) n j i (kept_part (is_word (codes "if"))) (then_part (expression_part n) (then_part (kept_part (is_word (codes "then"))) (then_rest n))) (word_rule (codes "if")) (seq e then_way)
        (keyword_law (suc j) n (codes "if") refl)
        (then_law j i (expression_part n) (then_part (kept_part (is_word (codes "then"))) (then_rest n)) e then_way
        (fewer (expression_part n) e m n j i (omega (arith, few)) low le)
        (token_then j i (λ t. t) (Passes (is_word (codes "then"))) (then_rest n) (word_rule (codes "then")) (seq pi else_way) (keyword_law j i (codes "then") refl) rest_law)
        (λ c x rest f g h. after_word (codes "then") x.0 g.0 refl refl refl))
        (omega arith) (omega arith) (λ u f. (omega arith, omega (arith, near))) (λ u x rest f g h. tt)

    pub next_if : Law (suc j) n (if_part n) (if_rule (suc j) e pi)
    next_if =
        to_law (suc j) n (if_tree n) (if_part n) (seq (word_rule (codes "if")) (seq e then_way)) tree_law
        if_of if_from back spelled opened fine fine' next left
      where
        back : (s : Statement) → IsStatement s × (begins_if s ≡ true) → if_of (if_from s) ≡ s
        back (If k c t a) f = refl
        back (IfElse k c t a w b) f = refl
        back _ f = never f.1

        spelled : (x : IfTree) → statement_spelling (if_of x) ≡ (if_tree n).spelling x
        spelled (k, (c, (t, (a, None)))) = ap (λ (l : List Token). k ∷ (expression_spelling c ++ (t ∷ l))) (sym (append-nil (statement_spelling a)))
        spelled (k, (c, (t, (a, Some x)))) = refl

        opened : (x : IfTree) → statement_opens (if_of x) n ≡ (if_tree n).opens x
        opened (k, (c, (t, (a, None)))) =
            ap (λ (l : List Token). first_opened (expression_opens c n) (t ∷ l) (one_in (statement_spelling a) (statement_opens a) n)) (sym (append-nil (statement_spelling a)))
            ∙ ap (first_opened (expression_opens c n) (t ∷ (statement_spelling a ++ []))) (first_of_nil (one_in (statement_spelling a) (statement_opens a) n))
        opened (k, (c, (t, (a, Some x)))) = refl

        fine : (x : IfTree) → (if_tree n).Fine x → (if_part n).Fine (if_of x)
        fine (k, (c, (t, (a, None)))) f = ((f.0, f.1.0, f.1.1.0, f.1.1.1.0), refl)
        fine (k, (c, (t, (a, Some x)))) f = ((f.0, f.1.0, f.1.1.0, f.1.1.1.0, f.1.1.1.2 f.1.1.1.1.0, f.1.1.1.1.0, f.1.1.1.1.1), refl)

        fine' : (s : Statement) → (if_part n).Fine s → (if_tree n).Fine (if_from s)
        fine' (If k c t a) f = (f.0.0, (f.0.1, (f.0.2, (f.0.3, tt, tt), tt), tt), tt)
        fine' (IfElse k c t a w b) f = (f.0.0, (f.0.1, (f.0.2, (f.0.3, (f.0.5, f.0.6, tt), λ h. f.0.4), tt), tt), tt)
        fine' _ f = never f.1

        next : (x : IfTree) (o : Option Token) → (if_tree n).Fine x → Closes (if_of x) o → (if_tree n).Next x o
        next (k, (c, (t, (a, None)))) o f g = g refl
        next (k, (c, (t, (a, Some x)))) o f g = g

        left : (x : IfTree) (o : Option Token) → (if_tree n).Fine x → (if_tree n).Left x o → Closes (if_of x) o
        left (k, (c, (t, (a, None)))) o f g = λ h. g
        left (k, (c, (t, (a, Some x)))) o f g = g

  pub ifs_law : (j : ℕ) → j ≤ m → Law j n (if_part n) (if_rule j e pi)
  ifs_law zero few = record {
    some = (If (word_token (codes "if")) (Constant zero_token) (word_token (codes "then")) (Empty start), ((refl, refl, refl, tt), refl));
    reads = λ s f short rest next. absurd (omega (arith, short));
    rule = λ ts. omega arith;
    enough = λ s f short small. absurd (omega (arith, short));
  }
  ifs_law (suc j) few = next_if j few (fewer (if_part n) (if_rule j e pi) j n j i (omega arith) low (ifs_law j (omega (arith, few))))
