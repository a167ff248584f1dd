-- The laws of what statements are made of: items, the control of a loop, selections, blocks, and what stands behind a name.
use Rattle.std.proofs.Common.{true≢false, ◌≡◌, ℕ, ◌+◌, ◌≤◌, Bool, true, false, ◌||◌, codes, List, [], ◌∷◌, ◌++◌, Option, Some, None, refl, sym, ap, ap₂, ◌∙◌, arith}
use Rattle.ds2_base.specs.declared.place.Place.{Place}
use Rattle.ds2_token.specs.declared.kinds.TokenKind.TheVariants as TokenKind
use Rattle.ds2_token.specs.declared.token.Token.{Token}
use Rattle.ds2_tree.specs.Parsers.{Parser, Either, One, Two, first, kept, when, choose_by, to, seq, many_of, optional, chain}
use Rattle.ds2_tree.proofs.Words.{Part, Law, Passes, fewer, kept_part, kept_law, then_part, then_less, then_law, token_then, to_law, choice_part, choice_law, optional_part, optional_law, many_part, many_law, narrow_part, narrow_law}
use Rattle.ds2_tree.specs.declared.statements.PutItem.{PutItem}
use Rattle.ds2_tree.specs.declared.statements.PutItem.TheVariants as item
use Rattle.ds2_token.specs.Words.{mark_at, reserved_words, is_any_word, is_text, is_word, is_one_of, is_name_token, integer_kind, decimal_kind}
use Rattle.ds2_tree.specs.Expressions.{Expression, IsExpression, is_constant}
use Rattle.ds2_tree.specs.Statements.{item_spelling, IsItem, Step, DoControl, Block, Counted, Tested, control_spelling, IsControl, control_opens, is_while_or_until, Statement}
use Rattle.ds2_parse_rules.specs.GrammarTokens.{mark_rule, word_rule, is_open_mark, is_comma_mark, enclosed, starts}
use Rattle.ds2_parse_rules.specs.ExpressionGrammar.{ArgumentList}
use Rattle.ds2_parse_rules.specs.StatementGrammar.{is_equals_mark, is_equals_or_dot, begins_item, begins_control, statement_words, begins_statement, ItemTail, item_of, item_tail, item_rule, CountedTree, control_of, counted_rule, control_rule, WhenTree, when_rule, SelectTree, select_rule, DoTree, do_rule, Ended, NamedTail, named_tail}
use Rattle.ds2_parse_rules.proofs.GrammarTokenLaws.{apart, within, among_more, never, or_cases, or_false, word_value, others, name_is_none, constant_is_none, name_is_no_constant, reserved_is_no_name, place_part, mark_law, word_token, start, or_last}
use Rattle.ds2_parse_statements.proofs.Refine.{enclosed_part, level_law}
use Rattle.ds2_parse_statements.proofs.ExpressionLaws.{AfterExpression, expression_part, list_part, listed, separated_law}
use Rattle.ds2_parse_statements.proofs.StatementLaws.{after_word, statement_starts, statement_closes, inner_part, keyword_law}

-- ---- items of `put`

text_is_constant : (t : Token) → is_text t ≡ true → is_constant t ≡ true
text_is_constant t h = or_last (integer_kind t.kind || decimal_kind t.kind) (is_text t) h

abbrev pub item_part : Part PutItem
item_part = record { spelling = item_spelling; Fine = IsItem; opens = λ i. None; Next = λ i o. when is_equals_or_dot o ≡ false; Left = λ i o. Unit {0} }

abbrev item_tail_part : Part ItemTail
item_tail_part = optional_part is_equals_or_dot (choice_part (place_part (codes "=")) (then_part (place_part (codes ".")) (kept_part is_any_word)))

abbrev item_sum : Part (Either Token (Token × ItemTail))
item_sum = choice_part (kept_part is_text) (then_part (kept_part is_name_token) item_tail_part)

abbrev item_from : PutItem → Either Token (Token × ItemTail)
item_from (item.Text t) = One t
item_from (item.Variable t None) = Two (t, None)
item_from (item.Variable t (Some p)) = Two (t, Some (One p))
item_from (item.Member t p w) = Two (t, Some (Two (p, w)))

item_tail_starts : (x : Either Place (Place × Token)) (rest : List Token) → (choice_part (place_part (codes "=")) (then_part (place_part (codes ".")) (kept_part is_any_word))).Fine x
    → when is_equals_or_dot (first ((choice_part (place_part (codes "=")) (then_part (place_part (codes ".")) (kept_part is_any_word))).spelling x ++ rest)) ≡ true
item_tail_starts (One p) rest f = refl
item_tail_starts (Two x) rest f = refl

name_is_no_text : (t : Token) → is_name_token t ≡ true → is_text t ≡ false
name_is_no_text t h = (or_false (integer_kind t.kind || decimal_kind t.kind) (is_text t) (name_is_no_constant t h)).1

pub item_law : (m n : ℕ) → Law m n item_part item_rule
item_law m n =
    to_law m n item_sum item_part (choose_by is_text (to One (kept is_text)) (to Two (seq (kept is_name_token) item_tail)))
    (choice_law m n (kept_part is_text) (then_part (kept_part is_name_token) item_tail_part) (kept is_text) (seq (kept is_name_token) item_tail)
    (kept_law m n is_text (record { kind = TokenKind.Text; spelling = codes "''"; place = start }, refl))
    (token_then m n (λ t. t) (Passes is_name_token) item_tail_part (kept is_name_token) item_tail (kept_law m n is_name_token (word_token (codes "x"), refl))
    (optional_law m n (choice_part (place_part (codes "=")) (then_part (place_part (codes ".")) (kept_part is_any_word))) (choose_by is_equals_mark (to One (mark_rule (codes "="))) (to Two (seq (mark_rule (codes ".")) (kept is_any_word))))
    (choice_law m n (place_part (codes "=")) (then_part (place_part (codes ".")) (kept_part is_any_word)) (mark_rule (codes "=")) (seq (mark_rule (codes ".")) (kept is_any_word)) (mark_law m n (codes "=") refl)
    (then_law m n (place_part (codes ".")) (kept_part is_any_word) (mark_rule (codes ".")) (kept is_any_word) (mark_law m n (codes ".") refl) (kept_law m n is_any_word (word_token (codes "x"), refl)) (λ a b rest f g h. tt))
    is_equals_mark (λ p rest f. refl) (λ x rest f g. refl))
    is_equals_or_dot item_tail_starts))
    is_text (λ t rest f. f) (λ x rest f g. name_is_no_text x.0 f.0))
    item_of item_from back spelled opened fine fine' next (λ x o f g. tt)
  where
    back : (i : PutItem) → IsItem i → item_of (item_from i) ≡ i
    back (item.Text t) f = refl
    back (item.Variable t None) f = refl
    back (item.Variable t (Some p)) f = refl
    back (item.Member t p w) f = refl

    spelled : (x : Either Token (Token × ItemTail)) → item_spelling (item_of x) ≡ item_sum.spelling x
    spelled (One t) = refl
    spelled (Two (t, None)) = refl
    spelled (Two (t, Some (One p))) = refl
    spelled (Two (t, Some (Two x))) = refl

    opened : (x : Either Token (Token × ItemTail)) → None ≡ item_sum.opens x
    opened (One t) = refl
    opened (Two (t, None)) = refl
    opened (Two (t, Some (One p))) = refl
    opened (Two (t, Some (Two x))) = refl

    fine : (x : Either Token (Token × ItemTail)) → item_sum.Fine x → IsItem (item_of x)
    fine (One t) f = f
    fine (Two (t, None)) f = f.0
    fine (Two (t, Some (One p))) f = f.0
    fine (Two (t, Some (Two x))) f = (f.0, f.1.1)

    fine' : (i : PutItem) → IsItem i → item_sum.Fine (item_from i)
    fine' (item.Text t) f = f
    fine' (item.Variable t None) f = (f, tt, tt)
    fine' (item.Variable t (Some p)) f = (f, tt, tt)
    fine' (item.Member t p w) f = (f.0, (tt, f.1, tt), tt)

    next : (x : Either Token (Token × ItemTail)) (o : Option Token) → item_sum.Fine x → when is_equals_or_dot o ≡ false → item_sum.Next x o
    next (One t) o f g = tt
    next (Two (t, None)) o f g = g
    next (Two (t, Some (One p))) o f g = tt
    next (Two (t, Some (Two x))) o f g = tt

abbrev pub ItemStop : Option Token → Type 0
ItemStop o = (when begins_item o ≡ false) × (when is_equals_or_dot o ≡ false)

item_starts : (i : PutItem) (rest : List Token) → IsItem i → when begins_item (first (item_spelling i ++ rest)) ≡ true
item_starts (item.Text t) rest f = ap (λ b. b || is_name_token t) f
item_starts (item.Variable t None) rest f = or_last (is_text t) (is_name_token t) f
item_starts (item.Variable t (Some p)) rest f = or_last (is_text t) (is_name_token t) f
item_starts (item.Member t p w) rest f = or_last (is_text t) (is_name_token t) f.0

item_apart : (i : PutItem) (rest : List Token) → IsItem i → when is_equals_or_dot (first (item_spelling i ++ rest)) ≡ false
item_apart (item.Text t) rest f = constant_is_none [] (codes "=" ∷ codes "." ∷ []) t (text_is_constant t f)
item_apart (item.Variable t None) rest f = name_is_none [] (codes "=" ∷ codes "." ∷ []) t refl f
item_apart (item.Variable t (Some p)) rest f = name_is_none [] (codes "=" ∷ codes "." ∷ []) t refl f
item_apart (item.Member t p w) rest f = name_is_none [] (codes "=" ∷ codes "." ∷ []) t refl f.0

pub items_law : (m n : ℕ) → Law m n (many_part ItemStop item_part) (many_of m begins_item item_rule)
items_law m n = many_law m n item_part item_rule (item_law m n) begins_item item_starts ItemStop (λ o h. h.0) (λ i o f h. h.1) (λ a b rest f g. item_apart b rest g) m (omega arith)

-- ---- the control of a loop

-- expressions of n levels, read where k or more are left
module _ (m k n : ℕ) (e : Parser Expression) (le : Law m k (expression_part n) e) where
  abbrev by_part : Part (Option (Token × Expression))
  by_part = optional_part (starts (codes "by")) (then_part (kept_part (is_word (codes "by"))) (expression_part n))

  abbrev ByNext : Option (Token × Expression) → Option Token → Type 0
  ByNext x o = AfterExpression o × (when (starts (codes "by")) o ≡ false)

  by_narrow : (x : Option (Token × Expression)) (o : Option Token) → by_part.Fine x → ByNext x o → by_part.Next x o
  by_narrow None o f g = g.1
  by_narrow (Some x) o f g = g.0

  by_law : Law m k (narrow_part ByNext by_part) (optional (starts (codes "by")) (seq (word_rule (codes "by")) e))
  by_law = narrow_law m k by_part (optional (starts (codes "by")) (seq (word_rule (codes "by")) e)) ByNext by_narrow
      (optional_law m k (then_part (kept_part (is_word (codes "by"))) (expression_part n)) (seq (word_rule (codes "by")) e)
      (token_then m k (λ t. t) (Passes (is_word (codes "by"))) (expression_part n) (word_rule (codes "by")) e (keyword_law m k (codes "by") refl) le)
      (starts (codes "by")) (λ x rest f. word_value (codes "by") x.0 f.0 (codes "by" ∷ []) []))

  by_meets : (a : Expression) (x : Option (Token × Expression)) (rest : List Token) → IsExpression a → by_part.Fine x → ByNext x (first rest) → AfterExpression (first (by_part.spelling x ++ rest))
  by_meets a None rest f g h = h.0
  by_meets a (Some x) rest f g h = after_word (codes "by") x.0 g.0 refl refl refl

  abbrev stop_part : Part (Expression × Option (Token × Expression))
  stop_part = then_part (expression_part n) (narrow_part ByNext by_part)

  stop_law : Law m k stop_part (seq e (optional (starts (codes "by")) (seq (word_rule (codes "by")) e)))
  stop_law = then_law m k (expression_part n) (narrow_part ByNext by_part) e (optional (starts (codes "by")) (seq (word_rule (codes "by")) e)) le by_law by_meets

  abbrev to_part : Part (Token × (Expression × Option (Token × Expression)))
  to_part = then_part (kept_part (is_word (codes "to"))) stop_part

  abbrev to_way : Parser (Token × (Expression × Option (Token × Expression)))
  to_way = seq (word_rule (codes "to")) (seq e (optional (starts (codes "by")) (seq (word_rule (codes "by")) e)))

  to_keyword_law : Law m k to_part to_way
  to_keyword_law = token_then m k (λ t. t) (Passes (is_word (codes "to"))) stop_part (word_rule (codes "to")) (seq e (optional (starts (codes "by")) (seq (word_rule (codes "by")) e))) (keyword_law m k (codes "to") refl) stop_law

  abbrev counted_part : Part CountedTree
  counted_part = then_part (kept_part is_name_token) (then_part (place_part (codes "=")) (then_part (expression_part n) to_part))

  counted_law : Law m k counted_part (counted_rule e)
  counted_law =
      token_then m k (λ t. t) (Passes is_name_token) (then_part (place_part (codes "=")) (then_part (expression_part n) to_part)) (kept is_name_token) (seq (mark_rule (codes "=")) (seq e to_way)) (kept_law m k is_name_token (word_token (codes "x"), refl))
      (then_law m k (place_part (codes "=")) (then_part (expression_part n) to_part) (mark_rule (codes "=")) (seq e to_way) (mark_law m k (codes "=") refl)
      (then_law m k (expression_part n) to_part e to_way le to_keyword_law (λ a x rest f g h. after_word (codes "to") x.0 g.0 refl refl refl)) (λ a b rest f g h. tt))

  abbrev tested_part : Part (Token × (Place × (Expression × Place)))
  tested_part = then_part (kept_part is_while_or_until) (enclosed_part (expression_part n))

  tested_law : Law m k tested_part (seq (kept is_while_or_until) (enclosed e))
  tested_law =
      token_then m k (λ t. t) (Passes is_while_or_until) (enclosed_part (expression_part n)) (kept is_while_or_until) (enclosed e) (kept_law m k is_while_or_until (word_token (codes "while"), refl))
      (level_law m k (expression_part n) e le (λ a q f. (refl, (refl, (refl, (refl, (refl, (refl, (refl, refl)))))))))

  abbrev controls : Part (Option (Either CountedTree (Token × (Place × (Expression × Place)))))
  controls = optional_part begins_control (choice_part counted_part tested_part)

  abbrev pub control_part : Part DoControl
  control_part = record { spelling = control_spelling; Fine = IsControl; opens = λ c. control_opens c n; Next = λ c o. AfterExpression o × (when (starts (codes "by")) o ≡ false) × (when begins_control o ≡ false); Left = λ c o. Unit {0} }

  tested_no_name : (t : Token) → is_while_or_until t ≡ true → is_name_token t ≡ false
  tested_no_name t h = or_cases (is_word (codes "while") t || (is_word (codes "until") t || false)) false h
      (λ g. or_cases (is_word (codes "while") t) (is_word (codes "until") t || false) g (λ w. reserved_is_no_name (codes "while") t refl w)
      (λ u. or_cases (is_word (codes "until") t) false u (λ v. reserved_is_no_name (codes "until") t refl v) (λ v. never v)))
      (λ g. never g)

  control_starts : (x : Either CountedTree (Token × (Place × (Expression × Place)))) (rest : List Token) → (choice_part counted_part tested_part).Fine x → when begins_control (first ((choice_part counted_part tested_part).spelling x ++ rest)) ≡ true
  control_starts (One x) rest f = ap (λ b. b || is_while_or_until x.0) f.0
  control_starts (Two x) rest f = or_last (is_name_token x.0) (is_while_or_until x.0) f.0

  abbrev step_from : Option Step → Option (Token × Expression)
  step_from None = None
  step_from (Some s) = Some (s.keyword, s.value)

  abbrev control_from : DoControl → Option (Either CountedTree (Token × (Place × (Expression × Place))))
  control_from Block = None
  control_from (Counted v p a t b s) = Some (One (v, (p, (a, (t, (b, step_from s))))))
  control_from (Tested w p c q) = Some (Two (w, (p, (c, q))))

  pub control_law : Law m k control_part (control_rule e)
  control_law =
      to_law m k controls control_part (optional begins_control (choose_by is_name_token (to One (counted_rule e)) (to Two (seq (kept is_while_or_until) (enclosed e)))))
      (optional_law m k (choice_part counted_part tested_part) (choose_by is_name_token (to One (counted_rule e)) (to Two (seq (kept is_while_or_until) (enclosed e))))
      (choice_law m k counted_part tested_part (counted_rule e) (seq (kept is_while_or_until) (enclosed e)) counted_law tested_law is_name_token (λ x rest f. f.0) (λ x rest f g. tested_no_name x.0 f.0))
      begins_control control_starts)
      control_of control_from back spelled opened fine fine' next (λ x o f g. tt)
    where
      back : (c : DoControl) → IsControl c → control_of (control_from c) ≡ c
      back Block f = refl
      back (Counted v p a t b None) f = refl
      back (Counted v p a t b (Some s)) f = refl
      back (Tested w p c q) f = refl

      spelled : (x : Option (Either CountedTree (Token × (Place × (Expression × Place))))) → control_spelling (control_of x) ≡ controls.spelling x
      spelled None = refl
      spelled (Some (One (v, (p, (a, (t, (b, None))))))) = refl
      spelled (Some (One (v, (p, (a, (t, (b, Some s))))))) = refl
      spelled (Some (Two x)) = refl

      opened : (x : Option (Either CountedTree (Token × (Place × (Expression × Place))))) → control_opens (control_of x) n ≡ controls.opens x
      opened None = refl
      opened (Some (One (v, (p, (a, (t, (b, None))))))) = refl
      opened (Some (One (v, (p, (a, (t, (b, Some s))))))) = refl
      opened (Some (Two x)) = refl

      fine : (x : Option (Either CountedTree (Token × (Place × (Expression × Place))))) → controls.Fine x → IsControl (control_of x)
      fine None f = tt
      fine (Some (One (v, (p, (a, (t, (b, None))))))) f = (f.0, f.1.1.0, f.1.1.1.0, f.1.1.1.1.0, tt)
      fine (Some (One (v, (p, (a, (t, (b, Some s))))))) f = (f.0, f.1.1.0, f.1.1.1.0, f.1.1.1.1.0, (f.1.1.1.1.1.0, f.1.1.1.1.1.1))
      fine (Some (Two x)) f = (f.0, f.1.1.0)

      fine' : (c : DoControl) → IsControl c → controls.Fine (control_from c)
      fine' Block f = tt
      fine' (Counted v p a t b None) f = (f.0, (tt, (f.1, (f.2, (f.3, tt, tt), tt), tt), tt), tt)
      fine' (Counted v p a t b (Some s)) f = (f.0, (tt, (f.1, (f.2, (f.3, (f.4.0, f.4.1, tt), tt), tt), tt), tt), tt)
      fine' (Tested w p c q) f = (f.0, (tt, (f.1, tt, tt), tt), tt)

      next : (x : Option (Either CountedTree (Token × (Place × (Expression × Place))))) (o : Option Token) → controls.Fine x → control_part.Next (control_of x) o → controls.Next x o
      next None o f g = g.2
      next (Some (One x)) o f g = (g.0, g.1)
      next (Some (Two x)) o f g = tt

-- ---- words of a statement

-- one of these words is none of those words and marks
pub words_apart_when : (ws vs ns : List (List ℕ)) (o : Option Token) → apart ws vs ≡ true → when (is_one_of ws []) o ≡ true → when (is_one_of vs ns) o ≡ false
words_apart_when ws vs ns None a h = never h
words_apart_when ws vs ns (Some t) a h = others ws [] vs ns t h a refl

pub words_among_when : (ws vs : List (List ℕ)) (o : Option Token) → within ws vs ≡ true → when (is_one_of ws []) o ≡ true → when (is_one_of vs []) o ≡ true
words_among_when ws vs None a h = never h
words_among_when ws vs (Some t) a h = among_more ws [] vs [] t h a refl

name_false : (b : Bool) → (b ≡ true → ⊥) → b ≡ false
name_false true h = absurd (h refl)
name_false false h = refl

pub words_no_name : (ws : List (List ℕ)) (o : Option Token) → within ws reserved_words ≡ true → when (is_one_of ws []) o ≡ true → when is_name_token o ≡ false
words_no_name ws None r h = never h
words_no_name ws (Some t) r h = name_false (is_name_token t) (λ e. true≢false (sym h ∙ name_is_none ws [] t r e))

-- ---- a selection, a block or a loop: `inner` is read where i levels or more are left

module _ (m n i : ℕ) (near : n ≤ i + 1) (low : i ≤ n) (e : Parser Expression) (pi : Parser Statement) (le : Law m n (expression_part n) e) (li : Law m i (inner_part n) pi) where
  near_law : {A : Type 0} (w : List ℕ) (R : Part A) (p : Parser A) → is_word w (word_token w) ≡ true → Law m i R p → Law m n (then_part (kept_part (is_word w)) R) (seq (word_rule w) p)
  near_law w R p h lr = then_less m n m n m i (kept_part (is_word w)) R (word_rule w) p (keyword_law m n w h) lr (omega arith) (omega arith) (λ u f. (omega arith, omega (arith, near))) (λ u x rest f g h. tt)

  pub le_i : Law m i (expression_part n) e
  le_i = fewer (expression_part n) e m n m i (omega arith) low le

  abbrev end_part : Part (Token × Place)
  end_part = then_part (kept_part (is_word (codes "end"))) (place_part (codes ";"))

  abbrev end_way : Parser (Token × Place)
  end_way = seq (word_rule (codes "end")) (mark_rule (codes ";"))

  end_law : Law m i end_part end_way
  end_law = token_then m i (λ t. t) (Passes (is_word (codes "end"))) (place_part (codes ";")) (word_rule (codes "end")) (mark_rule (codes ";")) (keyword_law m i (codes "end") refl) (mark_law m i (codes ";") refl)

  -- ---- when

  abbrev pub when_part : Part WhenTree
  when_part = then_part (kept_part (is_word (codes "when"))) (then_part (place_part (codes "(")) (then_part (listed m n e le) (then_part (place_part (codes ")")) (inner_part n))))

  when_law : Law m i when_part (when_rule m e pi)
  when_law =
      token_then m i (λ t. t) (Passes (is_word (codes "when"))) (then_part (place_part (codes "(")) (then_part (listed m n e le) (then_part (place_part (codes ")")) (inner_part n))))
      (word_rule (codes "when")) (seq (mark_rule (codes "(")) (seq (chain m is_comma_mark (mark_rule (codes ",")) e) (seq (mark_rule (codes ")")) pi))) (keyword_law m i (codes "when") refl)
      (then_law m i (place_part (codes "(")) (then_part (listed m n e le) (then_part (place_part (codes ")")) (inner_part n))) (mark_rule (codes "(")) (seq (chain m is_comma_mark (mark_rule (codes ",")) e) (seq (mark_rule (codes ")")) pi)) (mark_law m i (codes "(") refl)
      (then_law m i (listed m n e le) (then_part (place_part (codes ")")) (inner_part n)) (chain m is_comma_mark (mark_rule (codes ",")) e) (seq (mark_rule (codes ")")) pi)
      (fewer (listed m n e le) (chain m is_comma_mark (mark_rule (codes ",")) e) m n m i (omega arith) low (separated_law m n e le))
      (then_law m i (place_part (codes ")")) (inner_part n) (mark_rule (codes ")")) pi (mark_law m i (codes ")") refl) li (λ a b rest f g h. tt))
      (λ a b rest f g h. (refl, (refl, (refl, (refl, (refl, (refl, (refl, (refl, refl))))))))))
      (λ a b rest f g h. tt))

  abbrev pub WhenStop : Option Token → Type 0
  WhenStop o = (when (starts (codes "when")) o ≡ false) × (when (starts (codes "else")) o ≡ false)

  whens_law : Law m i (many_part WhenStop when_part) (many_of m (starts (codes "when")) (when_rule m e pi))
  whens_law = many_law m i when_part (when_rule m e pi) when_law (starts (codes "when")) (λ x rest f. word_value (codes "when") x.0 f.0 (codes "when" ∷ []) [])
      WhenStop (λ o h. h.0) (λ x o f h. λ c. h.1) (λ a b rest f g. λ c. word_value (codes "when") b.0 g.0 (codes "else" ∷ []) []) m (omega arith)

  -- ---- select

  abbrev otherwise_item : Part (Token × Statement)
  otherwise_item = then_part (kept_part (is_word (codes "otherwise"))) (inner_part n)

  abbrev otherwise_opt : Part (Option (Token × Statement))
  otherwise_opt = optional_part (starts (codes "otherwise")) otherwise_item

  abbrev otherwise_way : Parser (Option (Token × Statement))
  otherwise_way = optional (starts (codes "otherwise")) (seq (word_rule (codes "otherwise")) pi)

  otherwise_law : Law m i otherwise_opt otherwise_way
  otherwise_law =
      optional_law m i otherwise_item (seq (word_rule (codes "otherwise")) pi)
      (token_then m i (λ t. t) (Passes (is_word (codes "otherwise"))) (inner_part n) (word_rule (codes "otherwise")) pi (keyword_law m i (codes "otherwise") refl) li)
      (starts (codes "otherwise")) (λ x rest f. word_value (codes "otherwise") x.0 f.0 (codes "otherwise" ∷ []) [])

  abbrev tail_of_select : Part (Option (Token × Statement) × (Token × Place))
  tail_of_select = then_part otherwise_opt end_part

  otherwise_meets : (x : Option (Token × Statement)) (y : Token × Place) (rest : List Token) → otherwise_opt.Fine x → end_part.Fine y → Unit {0} → otherwise_opt.Next x (first (end_part.spelling y ++ rest))
  otherwise_meets None y rest f g h = word_value (codes "end") y.0 g.0 (codes "otherwise" ∷ []) []
  otherwise_meets (Some x) y rest f g h = λ c. word_value (codes "end") y.0 g.0 (codes "else" ∷ []) []

  select_tail_law : Law m i tail_of_select (seq otherwise_way end_way)
  select_tail_law = then_law m i otherwise_opt end_part otherwise_way end_way otherwise_law end_law otherwise_meets

  whens_meet : (l : List WhenTree) (x : Option (Token × Statement) × (Token × Place)) (rest : List Token) → (many_part WhenStop when_part).Fine l → tail_of_select.Fine x → tail_of_select.Next x (first rest) → WhenStop (first (tail_of_select.spelling x ++ rest))
  whens_meet l (None, y) rest f g h = (word_value (codes "end") y.0 g.1.0 (codes "when" ∷ []) [], word_value (codes "end") y.0 g.1.0 (codes "else" ∷ []) [])
  whens_meet l (Some o, y) rest f g h = (word_value (codes "otherwise") o.0 g.0.0 (codes "when" ∷ []) [], word_value (codes "otherwise") o.0 g.0.0 (codes "else" ∷ []) [])

  abbrev selector_opt : Part (Option (Place × (Expression × Place)))
  selector_opt = optional_part is_open_mark (enclosed_part (expression_part n))

  selector_meets : (x : Option (Place × (Expression × Place))) (p : Place) → selector_opt.Next x (Some (mark_at (codes ";") p))
  selector_meets None p = refl
  selector_meets (Some x) p = tt

  abbrev whens_way : Parser (List WhenTree)
  whens_way = many_of m (starts (codes "when")) (when_rule m e pi)

  abbrev pub select_part : Part SelectTree
  select_part = then_part (kept_part (is_word (codes "select"))) (then_part selector_opt (then_part (place_part (codes ";")) (then_part (many_part WhenStop when_part) tail_of_select)))

  pub select_law : Law m n select_part (select_rule m e pi)
  select_law =
      near_law (codes "select") (then_part selector_opt (then_part (place_part (codes ";")) (then_part (many_part WhenStop when_part) tail_of_select)))
      (seq (optional is_open_mark (enclosed e)) (seq (mark_rule (codes ";")) (seq whens_way (seq otherwise_way end_way)))) refl
      (then_law m i selector_opt (then_part (place_part (codes ";")) (then_part (many_part WhenStop when_part) tail_of_select)) (optional is_open_mark (enclosed e)) (seq (mark_rule (codes ";")) (seq whens_way (seq otherwise_way end_way)))
      (optional_law m i (enclosed_part (expression_part n)) (enclosed e) (level_law m i (expression_part n) e le_i (λ a q f. (refl, (refl, (refl, (refl, (refl, (refl, (refl, refl))))))))) is_open_mark (λ a rest f. refl))
      (then_law m i (place_part (codes ";")) (then_part (many_part WhenStop when_part) tail_of_select) (mark_rule (codes ";")) (seq whens_way (seq otherwise_way end_way)) (mark_law m i (codes ";") refl)
      (then_law m i (many_part WhenStop when_part) tail_of_select whens_way (seq otherwise_way end_way) whens_law select_tail_law whens_meet)
      (λ a b rest f g h. tt))
      (λ a b rest f g h. selector_meets a b.0))

  -- ---- do

  abbrev pub BodyStop : Option Token → Type 0
  BodyStop o = (when begins_statement o ≡ false) × (when (starts (codes "else")) o ≡ false)

  pub end_stops : (t : Token) → is_word (codes "end") t ≡ true → BodyStop (Some t)
  end_stops t h = (ap₂ (λ a b. a || b) (reserved_is_no_name (codes "end") t refl h) (word_value (codes "end") t h statement_words (codes ";" ∷ [])), word_value (codes "end") t h (codes "else" ∷ []) [])

  body_law : Law m i (many_part BodyStop (inner_part n)) (many_of m begins_statement pi)
  body_law = many_law m i (inner_part n) pi li begins_statement (λ s rest f. statement_starts s rest f) BodyStop (λ o h. h.0) (λ s o f h. λ c. h.1) (λ a b rest f g. λ c. statement_closes b rest g) m (omega arith)

  abbrev pub do_part : Part DoTree
  do_part = then_part (kept_part (is_word (codes "do"))) (then_part (control_part m i n e le_i) (then_part (place_part (codes ";")) (then_part (many_part BodyStop (inner_part n)) end_part)))

  pub do_law : Law m n do_part (do_rule m e pi)
  do_law =
      near_law (codes "do") (then_part (control_part m i n e le_i) (then_part (place_part (codes ";")) (then_part (many_part BodyStop (inner_part n)) end_part)))
      (seq (control_rule e) (seq (mark_rule (codes ";")) (seq (many_of m begins_statement pi) end_way))) refl
      (then_law m i (control_part m i n e le_i) (then_part (place_part (codes ";")) (then_part (many_part BodyStop (inner_part n)) end_part)) (control_rule e) (seq (mark_rule (codes ";")) (seq (many_of m begins_statement pi) end_way))
      (control_law m i n e le_i)
      (then_law m i (place_part (codes ";")) (then_part (many_part BodyStop (inner_part n)) end_part) (mark_rule (codes ";")) (seq (many_of m begins_statement pi) end_way) (mark_law m i (codes ";") refl)
      (then_law m i (many_part BodyStop (inner_part n)) end_part (many_of m begins_statement pi) end_way body_law end_law (λ l y rest f g h. end_stops y.0 g.0)) (λ a b rest f g h. tt))
      (λ a b rest f g h. ((refl, (refl, (refl, (refl, (refl, (refl, (refl, refl))))))), refl, refl)))

-- ---- what stands behind a name

module _ (m n : ℕ) (e : Parser Expression) (args : Parser ArgumentList) (le : Law m n (expression_part n) e) (la : Law m n (list_part n) args) where
  abbrev assigned_part : Part (Place × (Expression × Place))
  assigned_part = then_part (place_part (codes "=")) (then_part (expression_part n) (place_part (codes ";")))

  abbrev pub ended_part : Part Ended
  ended_part = then_part (list_part n) (place_part (codes ";"))

  pub ended_law : Law m n ended_part (seq args (mark_rule (codes ";")))
  ended_law = then_law m n (list_part n) (place_part (codes ";")) args (mark_rule (codes ";")) la (mark_law m n (codes ";") refl) (λ a b rest f g h. tt)

  abbrev method_part : Part (Place × (Token × Ended))
  method_part = then_part (place_part (codes ".")) (then_part (kept_part is_any_word) ended_part)

  abbrev pub named_tail_part : Part NamedTail
  named_tail_part = choice_part assigned_part (choice_part ended_part method_part)

  pub named_tail_law : Law m n named_tail_part (named_tail e args)
  named_tail_law =
      choice_law m n assigned_part (choice_part ended_part method_part) (seq (mark_rule (codes "=")) (seq e (mark_rule (codes ";"))))
      (choose_by is_open_mark (to One (seq args (mark_rule (codes ";")))) (to Two (seq (mark_rule (codes ".")) (seq (kept is_any_word) (seq args (mark_rule (codes ";")))))))
      (then_law m n (place_part (codes "=")) (then_part (expression_part n) (place_part (codes ";"))) (mark_rule (codes "=")) (seq e (mark_rule (codes ";"))) (mark_law m n (codes "=") refl)
      (then_law m n (expression_part n) (place_part (codes ";")) e (mark_rule (codes ";")) le (mark_law m n (codes ";") refl) (λ a b rest f g h. (refl, (refl, (refl, (refl, (refl, (refl, (refl, refl)))))))))
      (λ a b rest f g h. tt))
      (choice_law m n ended_part method_part (seq args (mark_rule (codes ";"))) (seq (mark_rule (codes ".")) (seq (kept is_any_word) (seq args (mark_rule (codes ";"))))) ended_law
      (then_law m n (place_part (codes ".")) (then_part (kept_part is_any_word) ended_part) (mark_rule (codes ".")) (seq (kept is_any_word) (seq args (mark_rule (codes ";")))) (mark_law m n (codes ".") refl)
      (token_then m n (λ t. t) (Passes is_any_word) ended_part (kept is_any_word) (seq args (mark_rule (codes ";"))) (kept_law m n is_any_word (word_token (codes "x"), refl)) ended_law) (λ a b rest f g h. tt))
      is_open_mark (λ a rest f. refl) (λ x rest f g. refl))
      is_equals_mark (λ a rest f. refl) no_equals
    where
      no_equals : (x : Either Ended (Place × (Token × Ended))) (rest : List Token) → (choice_part ended_part method_part).Fine x → (choice_part ended_part method_part).Next x (first rest) → when is_equals_mark (first ((choice_part ended_part method_part).spelling x ++ rest)) ≡ false
      no_equals (One a) rest f g = refl
      no_equals (Two x) rest f g = refl
