-- The law of statements: all of them, at all levels.
use Rattle.std.proofs.Common.{◌≡◌, ℕ, zero, suc, ◌+◌, ◌≤◌, ◌<◌, true, false, ◌||◌, codes, List, [], ◌∷◌, ◌++◌, length, Option, Some, None, refl, sym, ap, ap₂, ◌∙◌, arith, append_assoc}
use Rattle.std.specs.List.{list_any}
use Rattle.std.specs.Str.{bytes_eq}
use Rattle.std.proofs.lemmas.List.{append-nil}
use Rattle.ds2_base.specs.declared.place.Place.{Place}
use Rattle.ds2_token.specs.declared.token.Token.{Token}
use Rattle.ds2_tree.specs.Levels.{first_opened, one_in}
use Rattle.ds2_tree.specs.Parsers.{ParserOutcome, Read, Parser, Either, One, Two, first, kept, when, choose_by, to, seq, many_of, optional, closed}
use Rattle.ds2_tree.proofs.Goes.{goes}
use Rattle.ds2_tree.proofs.Rules.{Goes}
use Rattle.ds2_tree.proofs.Words.{Part, sym as symbol, Law, Passes, kept_part, kept_law, then_part, then_law, token_then, to_law, choice_part, choice_law, optional_part, optional_law, flat, flat_opens, each, many_part, many_law, closed_law}
use Rattle.ds2_tree.specs.declared.expressions.Callee.TheVariants as callee
use Rattle.ds2_tree.specs.declared.statements.PutItem.{PutItem}
use Rattle.ds2_token.specs.Words.{is_word, is_mark, is_one_of, is_name_token, is_table, mark_at}
use Rattle.ds2_tree.specs.Marks.{semicolon_mark, close_mark, open_mark}
use Rattle.ds2_tree.specs.Expressions.{Expression, Constant, NoArgument, Argument, expression_spelling, expression_opens}
use Rattle.ds2_tree.specs.Statements.{Selector, Block, Statement, Empty, Assignment, Call, Leave, Continue, Return, Output, Put, If, IfElse, Select, Do, Statements, NoStatement, Then, Whens, NoWhen, When, Otherwise, NoOtherwise, Otherwise', item_spelling, begins_if, IsStatement, AreStatements, AreWhens, statement_spelling, statements_spelling, whens_spelling, selector_spelling, statement_opens, inner_opens, whens_opens, control_spelling, control_opens}
use Rattle.ds2_parse_rules.specs.GrammarTokens.{mark_rule, word_rule, starts}
use Rattle.ds2_parse_rules.specs.ExpressionGrammar.{ArgumentList, begins_expression, expression, argument_list}
use Rattle.ds2_parse_rules.specs.StatementGrammar.{is_semicolon_mark, statement_words, begins_statement, begins_item, item_rule, WhenTree, listed_whens, SelectTree, select_rule, listed_statements, DoTree, do_rule, Ended, NamedTail, named_tail, Plain, plain_rule, StatementTree, statement_of_kind, statement_with, statement_rule, if_rule}
use Rattle.ds2_parse_rules.proofs.GrammarTokenLaws.{never, or_cases, only_mark, word_value, name_is_none, place_part, mark_law, zero_token, word_token, start}
use Rattle.ds2_parse_statements.proofs.ExpressionLaws.{expression_part, list_part, further_list, further_back, further_flat, further_open, each_further, further_each, comma_link, begins_any, expression_law, argument_list_law}
use Rattle.ds2_parse_statements.proofs.StatementLaws.{Closes, statement_part, inner_part, if_part, ifs_law, keyword_law, statement_starts}
use Rattle.ds2_parse_statements.proofs.StatementPartLaws.{ItemStop, item_part, items_law, words_apart_when, words_among_when, words_no_name, when_part, select_part, select_law, do_part, do_law, ended_part, ended_law, named_tail_part, named_tail_law}

-- an `if` begins with its word
if_first : (s : Statement) (rest : List Token) → IsStatement s × (begins_if s ≡ true) → (vs : List (List ℕ)) → when (is_one_of vs []) (first (statement_spelling s ++ rest)) ≡ list_any (λ v. bytes_eq (codes "if") v) vs
if_first (If k e t s) rest f vs = word_value (codes "if") k f.0.0 vs []
if_first (IfElse k e t s w o) rest f vs = word_value (codes "if") k f.0.0 vs []
if_first _ rest f vs = never f.1

first_of_parts : (a b : Option (List Token)) (s r : List Token) (c : Option (List Token)) → first_opened (first_opened a s b) r c ≡ first_opened a (s ++ r) (first_opened b r c)
first_of_parts None b s r c = refl
first_of_parts (Some back) b s r c = ap Some (append_assoc back s r)

no_opens : (f : Token → List Token) (l : List Token) → flat_opens f (λ t. None) l ≡ None
no_opens f [] = refl
no_opens f (t ∷ l) = no_opens f l

no_item_opens : (l : List PutItem) → flat_opens item_spelling (λ i. None) l ≡ None
no_item_opens [] = refl
no_item_opens (i ∷ l) = no_item_opens l

-- ---- statements in a list

abbrev pub statement_list : Statements → List Statement
statement_list NoStatement = []
statement_list (Then s b) = s ∷ statement_list b

pub statements_list : (b : Statements) → listed_statements (statement_list b) ≡ b
statements_list NoStatement = refl
statements_list (Then s b) = ap (Then s) (statements_list b)

pub statements_flat : (l : List Statement) → statements_spelling (listed_statements l) ≡ flat statement_spelling l
statements_flat [] = refl
statements_flat (s ∷ l) = ap (λ (x : List Token). statement_spelling s ++ x) (statements_flat l)

statements_open : (n : ℕ) (l : List Statement) → inner_opens (listed_statements l) n ≡ flat_opens statement_spelling (inner_part n).opens l
statements_open n [] = refl
statements_open n (s ∷ l) = ap (λ x. first_opened ((inner_part n).opens s) x (inner_opens (listed_statements l) n)) (statements_flat l) ∙ ap (first_opened ((inner_part n).opens s) (flat statement_spelling l)) (statements_open n l)

pub each_statements : (l : List Statement) → each IsStatement l → AreStatements (listed_statements l)
each_statements [] h = tt
each_statements (s ∷ l) h = (h.0, each_statements l h.1)

pub statements_each : (b : Statements) → AreStatements b → each IsStatement (statement_list b)
statements_each NoStatement h = tt
statements_each (Then s b) h = (h.0, statements_each b h.1)

-- ---- all kinds of statements; `inner` is read where i levels or more are left

module _ (m n i : ℕ) (near : n ≤ i + 1) (low : i ≤ n) (e : Parser Expression) (args : Parser ArgumentList) (pi : Parser Statement)
    (le : Law m n (expression_part n) e) (la : Law m n (list_part n) args) (li : Law m i (inner_part n) pi) where
  abbrev a_when : Part WhenTree
  a_when = when_part m n i near low e pi le li

  whens_flat : (l : List WhenTree) → whens_spelling (listed_whens l) ≡ flat a_when.spelling l
  whens_flat [] = refl
  whens_flat (x ∷ l) =
      let es = x.1.1.0 in
      let es_spelling = expression_spelling es.0 ++ flat (comma_link n).spelling es.1 in
      let s = statement_spelling x.1.1.1.1 in
      ap₂ (λ (a b : List Token). x.0 ∷ (open_mark x.1.0 ∷ ((expression_spelling es.0 ++ a) ++ (close_mark x.1.1.1.0 ∷ (s ++ b))))) (further_flat n es.1) (whens_flat l)
      ∙ ap (λ (a : List Token). x.0 ∷ (open_mark x.1.0 ∷ a)) (sym (append_assoc es_spelling (close_mark x.1.1.1.0 ∷ s) (flat a_when.spelling l)))

  whens_open : (l : List WhenTree) → whens_opens (listed_whens l) n ≡ flat_opens a_when.spelling a_when.opens l
  whens_open [] = refl
  whens_open (x ∷ l) =
      let es = x.1.1.0 in
      let s = x.1.1.1.1 in
      let inner = one_in (statement_spelling s) (statement_opens s) n in
      let listed_opens = first_opened (expression_opens es.0 n) (flat (comma_link n).spelling es.1) (flat_opens (comma_link n).spelling (comma_link n).opens es.1) in
      ap₂ (λ (a : List Token) (b : Option (List Token)). first_opened (first_opened (expression_opens es.0 n) a b) (close_mark x.1.1.1.0 ∷ (statement_spelling s ++ whens_spelling (listed_whens l))) (first_opened inner (whens_spelling (listed_whens l)) (whens_opens (listed_whens l) n))) (further_flat n es.1) (further_open n es.1)
      ∙ ap₂ (λ (a : List Token) (b : Option (List Token)). first_opened listed_opens (close_mark x.1.1.1.0 ∷ (statement_spelling s ++ a)) (first_opened inner a b)) (whens_flat l) (whens_open l)
      ∙ sym (first_of_parts listed_opens inner (close_mark x.1.1.1.0 ∷ statement_spelling s) (flat a_when.spelling l) (flat_opens a_when.spelling a_when.opens l))

  each_whens : (l : List WhenTree) → each a_when.Fine l → AreWhens (listed_whens l)
  each_whens [] h = tt
  each_whens (x ∷ l) h = let f = h.0 in (f.0, ((tt, f.1.1.0.0, each_further n x.1.1.0.1 f.1.1.0.1), tt), f.1.1.1.1, each_whens l h.1)

  abbrev when_list : Whens → List WhenTree
  when_list (When k p (Argument c a rest) q s ws) = (k, (p, ((a, further_list rest), (q, s)))) ∷ when_list ws
  when_list _ = []

  whens_list : (ws : Whens) → AreWhens ws → listed_whens (when_list ws) ≡ ws
  whens_list NoWhen f = refl
  whens_list (When k p (Argument None a rest) q s ws) f = ap₂ (λ r w. When k p (Argument None a r) q s w) (further_back rest f.1.0.2) (whens_list ws f.3)
  whens_list (When k p (Argument (Some c) a rest) q s ws) f = absurd f.1.0.0
  whens_list (When k p NoArgument q s ws) f = absurd f.1.1

  whens_each : (ws : Whens) → AreWhens ws → each a_when.Fine (when_list ws)
  whens_each NoWhen f = tt
  whens_each (When k p (Argument c a rest) q s ws) f = ((f.0, (tt, ((f.1.0.1, further_each n rest f.1.0.2, tt), (tt, f.2, tt), tt), tt), tt), whens_each ws f.3)
  whens_each (When k p NoArgument q s ws) f = absurd f.1.1

  -- ---- the kinds

  abbrev plain_part : List ℕ → Part Plain
  plain_part w = then_part (kept_part (is_word w)) (place_part (codes ";"))

  plain_law : (w : List ℕ) → is_word w (word_token w) ≡ true → Law m n (plain_part w) (plain_rule w)
  plain_law w h = token_then m n (λ t. t) (Passes (is_word w)) (place_part (codes ";")) (word_rule w) (mark_rule (codes ";")) (keyword_law m n w h) (mark_law m n (codes ";") refl)

  abbrev value_opt : Part (Option Expression)
  value_opt = optional_part begins_expression (expression_part n)

  abbrev return_part : Part (Token × (Option Expression × Place))
  return_part = then_part (kept_part (is_word (codes "return"))) (then_part value_opt (place_part (codes ";")))

  value_meets : (x : Option Expression) (p : Place) (rest : List Token) → value_opt.Fine x → Unit {0} → Unit {0} → value_opt.Next x (first ((semicolon_mark p ∷ []) ++ rest))
  value_meets None p rest f g h = refl
  value_meets (Some x) p rest f g h = (refl, (refl, (refl, (refl, (refl, (refl, (refl, refl)))))))

  return_law : Law m n return_part (seq (word_rule (codes "return")) (seq (optional begins_expression e) (mark_rule (codes ";"))))
  return_law =
      token_then m n (λ t. t) (Passes (is_word (codes "return"))) (then_part value_opt (place_part (codes ";"))) (word_rule (codes "return")) (seq (optional begins_expression e) (mark_rule (codes ";"))) (keyword_law m n (codes "return") refl)
      (then_law m n value_opt (place_part (codes ";")) (optional begins_expression e) (mark_rule (codes ";")) (optional_law m n (expression_part n) e le begins_expression begins_any) (mark_law m n (codes ";") refl) value_meets)

  abbrev TableStop : Option Token → Type 0
  TableStop o = when is_table o ≡ false

  abbrev output_part : Part (Token × (List Token × Place))
  output_part = then_part (kept_part (is_word (codes "output"))) (then_part (many_part TableStop (kept_part is_table)) (place_part (codes ";")))

  output_law : Law m n output_part (seq (word_rule (codes "output")) (seq (many_of m is_table (kept is_table)) (mark_rule (codes ";"))))
  output_law =
      token_then m n (λ t. t) (Passes (is_word (codes "output"))) (then_part (many_part TableStop (kept_part is_table)) (place_part (codes ";"))) (word_rule (codes "output")) (seq (many_of m is_table (kept is_table)) (mark_rule (codes ";"))) (keyword_law m n (codes "output") refl)
      (then_law m n (many_part TableStop (kept_part is_table)) (place_part (codes ";")) (many_of m is_table (kept is_table)) (mark_rule (codes ";"))
      (many_law m n (kept_part is_table) (kept is_table) (kept_law m n is_table (word_token (codes "x"), refl)) is_table (λ t rest f. f) TableStop (λ o h. h) (λ a o f h. tt) (λ a b rest f g. tt) m (omega arith)) (mark_law m n (codes ";") refl) (λ a b rest f g h. refl))

  abbrev put_part : Part (Token × (List PutItem × Place))
  put_part = then_part (kept_part (is_word (codes "put"))) (then_part (many_part ItemStop item_part) (place_part (codes ";")))

  put_law : Law m n put_part (seq (word_rule (codes "put")) (seq (many_of m begins_item item_rule) (mark_rule (codes ";"))))
  put_law =
      token_then m n (λ t. t) (Passes (is_word (codes "put"))) (then_part (many_part ItemStop item_part) (place_part (codes ";"))) (word_rule (codes "put")) (seq (many_of m begins_item item_rule) (mark_rule (codes ";"))) (keyword_law m n (codes "put") refl)
      (then_law m n (many_part ItemStop item_part) (place_part (codes ";")) (many_of m begins_item item_rule) (mark_rule (codes ";")) (items_law m n) (mark_law m n (codes ";") refl) (λ a b rest f g h. (refl, refl)))

  abbrev named_part : Part (Token × NamedTail)
  named_part = then_part (kept_part is_name_token) (named_tail_part m n e args le la)

  abbrev null_part : Part (Token × Ended)
  null_part = then_part (kept_part (is_word (codes "null"))) (ended_part m n e args le la)

  abbrev selects : Part SelectTree
  selects = select_part m n i near low e pi le li

  abbrev dos : Part DoTree
  dos = do_part m n i near low e pi le li

  -- ---- their sums, each with the words with which it begins

  b_do : (x : DoTree) (rest : List Token) → dos.Fine x → when (is_one_of (codes "do" ∷ []) []) (first (dos.spelling x ++ rest)) ≡ true
  b_do x rest f = word_value (codes "do") x.0 f.0 (codes "do" ∷ []) []

  abbrev s_select : Part (Either SelectTree DoTree)
  s_select = choice_part selects dos

  l_select : Law m n s_select (choose_by (starts (codes "select")) (to One (select_rule m e pi)) (to Two (do_rule m e pi)))
  l_select = choice_law m n selects dos (select_rule m e pi) (do_rule m e pi) (select_law m n i near low e pi le li) (do_law m n i near low e pi le li) (starts (codes "select")) (λ x rest f. word_value (codes "select") x.0 f.0 (codes "select" ∷ []) [])
      (λ x rest f g. words_apart_when (codes "do" ∷ []) (codes "select" ∷ []) [] (first (dos.spelling x ++ rest)) refl (b_do x rest f))

  b_select : (x : Either SelectTree DoTree) (rest : List Token) → s_select.Fine x → when (is_one_of (codes "select" ∷ codes "do" ∷ []) []) (first (s_select.spelling x ++ rest)) ≡ true
  b_select (One x) rest f = word_value (codes "select") x.0 f.0 (codes "select" ∷ codes "do" ∷ []) []
  b_select (Two x) rest f = words_among_when (codes "do" ∷ []) (codes "select" ∷ codes "do" ∷ []) (first (dos.spelling x ++ rest)) refl (b_do x rest f)

  abbrev s_if : Part (Either Statement (Either SelectTree DoTree))
  s_if = choice_part (if_part n) s_select

  l_if : Law m n s_if (choose_by (starts (codes "if")) (to One (if_rule m e pi)) (to Two (choose_by (starts (codes "select")) (to One (select_rule m e pi)) (to Two (do_rule m e pi)))))
  l_if = choice_law m n (if_part n) s_select (if_rule m e pi) (choose_by (starts (codes "select")) (to One (select_rule m e pi)) (to Two (do_rule m e pi))) (ifs_law m n i near low e pi le li m (omega arith)) l_select (starts (codes "if")) (λ x rest f. if_first x rest f (codes "if" ∷ []))
      (λ x rest f g. words_apart_when (codes "select" ∷ codes "do" ∷ []) (codes "if" ∷ []) [] (first (s_select.spelling x ++ rest)) refl (b_select x rest f))

  b_if : (x : Either Statement (Either SelectTree DoTree)) (rest : List Token) → s_if.Fine x → when (is_one_of (codes "if" ∷ codes "select" ∷ codes "do" ∷ []) []) (first (s_if.spelling x ++ rest)) ≡ true
  b_if (One x) rest f = if_first x rest f (codes "if" ∷ codes "select" ∷ codes "do" ∷ [])
  b_if (Two x) rest f = words_among_when (codes "select" ∷ codes "do" ∷ []) (codes "if" ∷ codes "select" ∷ codes "do" ∷ []) (first (s_select.spelling x ++ rest)) refl (b_select x rest f)

  abbrev s_put : Part (Either (Token × (List PutItem × Place)) (Either Statement (Either SelectTree DoTree)))
  s_put = choice_part put_part s_if

  l_put : Law m n s_put (choose_by (starts (codes "put")) (to One (seq (word_rule (codes "put")) (seq (many_of m begins_item item_rule) (mark_rule (codes ";"))))) (to Two (choose_by (starts (codes "if")) (to One (if_rule m e pi)) (to Two (choose_by (starts (codes "select")) (to One (select_rule m e pi)) (to Two (do_rule m e pi)))))))
  l_put = choice_law m n put_part s_if (seq (word_rule (codes "put")) (seq (many_of m begins_item item_rule) (mark_rule (codes ";")))) (choose_by (starts (codes "if")) (to One (if_rule m e pi)) (to Two (choose_by (starts (codes "select")) (to One (select_rule m e pi)) (to Two (do_rule m e pi))))) put_law l_if (starts (codes "put")) (λ x rest f. word_value (codes "put") x.0 f.0 (codes "put" ∷ []) [])
      (λ x rest f g. words_apart_when (codes "if" ∷ codes "select" ∷ codes "do" ∷ []) (codes "put" ∷ []) [] (first (s_if.spelling x ++ rest)) refl (b_if x rest f))

  b_put : (x : Either (Token × (List PutItem × Place)) (Either Statement (Either SelectTree DoTree))) (rest : List Token) → s_put.Fine x → when (is_one_of (codes "put" ∷ codes "if" ∷ codes "select" ∷ codes "do" ∷ []) []) (first (s_put.spelling x ++ rest)) ≡ true
  b_put (One x) rest f = word_value (codes "put") x.0 f.0 (codes "put" ∷ codes "if" ∷ codes "select" ∷ codes "do" ∷ []) []
  b_put (Two x) rest f = words_among_when (codes "if" ∷ codes "select" ∷ codes "do" ∷ []) (codes "put" ∷ codes "if" ∷ codes "select" ∷ codes "do" ∷ []) (first (s_if.spelling x ++ rest)) refl (b_if x rest f)

  abbrev s_output : Part (Either (Token × (List Token × Place)) (Either (Token × (List PutItem × Place)) (Either Statement (Either SelectTree DoTree))))
  s_output = choice_part output_part s_put

  l_output : Law m n s_output (choose_by (starts (codes "output")) (to One (seq (word_rule (codes "output")) (seq (many_of m is_table (kept is_table)) (mark_rule (codes ";"))))) (to Two (choose_by (starts (codes "put")) (to One (seq (word_rule (codes "put")) (seq (many_of m begins_item item_rule) (mark_rule (codes ";"))))) (to Two (choose_by (starts (codes "if")) (to One (if_rule m e pi)) (to Two (choose_by (starts (codes "select")) (to One (select_rule m e pi)) (to Two (do_rule m e pi)))))))))
  l_output = choice_law m n output_part s_put (seq (word_rule (codes "output")) (seq (many_of m is_table (kept is_table)) (mark_rule (codes ";")))) (choose_by (starts (codes "put")) (to One (seq (word_rule (codes "put")) (seq (many_of m begins_item item_rule) (mark_rule (codes ";"))))) (to Two (choose_by (starts (codes "if")) (to One (if_rule m e pi)) (to Two (choose_by (starts (codes "select")) (to One (select_rule m e pi)) (to Two (do_rule m e pi))))))) output_law l_put (starts (codes "output")) (λ x rest f. word_value (codes "output") x.0 f.0 (codes "output" ∷ []) [])
      (λ x rest f g. words_apart_when (codes "put" ∷ codes "if" ∷ codes "select" ∷ codes "do" ∷ []) (codes "output" ∷ []) [] (first (s_put.spelling x ++ rest)) refl (b_put x rest f))

  b_output : (x : Either (Token × (List Token × Place)) (Either (Token × (List PutItem × Place)) (Either Statement (Either SelectTree DoTree)))) (rest : List Token) → s_output.Fine x → when (is_one_of (codes "output" ∷ codes "put" ∷ codes "if" ∷ codes "select" ∷ codes "do" ∷ []) []) (first (s_output.spelling x ++ rest)) ≡ true
  b_output (One x) rest f = word_value (codes "output") x.0 f.0 (codes "output" ∷ codes "put" ∷ codes "if" ∷ codes "select" ∷ codes "do" ∷ []) []
  b_output (Two x) rest f = words_among_when (codes "put" ∷ codes "if" ∷ codes "select" ∷ codes "do" ∷ []) (codes "output" ∷ codes "put" ∷ codes "if" ∷ codes "select" ∷ codes "do" ∷ []) (first (s_put.spelling x ++ rest)) refl (b_put x rest f)

  abbrev s_return : Part (Either (Token × (Option Expression × Place)) (Either (Token × (List Token × Place)) (Either (Token × (List PutItem × Place)) (Either Statement (Either SelectTree DoTree)))))
  s_return = choice_part return_part s_output

  l_return : Law m n s_return (choose_by (starts (codes "return")) (to One (seq (word_rule (codes "return")) (seq (optional begins_expression e) (mark_rule (codes ";"))))) (to Two (choose_by (starts (codes "output")) (to One (seq (word_rule (codes "output")) (seq (many_of m is_table (kept is_table)) (mark_rule (codes ";"))))) (to Two (choose_by (starts (codes "put")) (to One (seq (word_rule (codes "put")) (seq (many_of m begins_item item_rule) (mark_rule (codes ";"))))) (to Two (choose_by (starts (codes "if")) (to One (if_rule m e pi)) (to Two (choose_by (starts (codes "select")) (to One (select_rule m e pi)) (to Two (do_rule m e pi)))))))))))
  l_return = choice_law m n return_part s_output (seq (word_rule (codes "return")) (seq (optional begins_expression e) (mark_rule (codes ";")))) (choose_by (starts (codes "output")) (to One (seq (word_rule (codes "output")) (seq (many_of m is_table (kept is_table)) (mark_rule (codes ";"))))) (to Two (choose_by (starts (codes "put")) (to One (seq (word_rule (codes "put")) (seq (many_of m begins_item item_rule) (mark_rule (codes ";"))))) (to Two (choose_by (starts (codes "if")) (to One (if_rule m e pi)) (to Two (choose_by (starts (codes "select")) (to One (select_rule m e pi)) (to Two (do_rule m e pi))))))))) return_law l_output (starts (codes "return")) (λ x rest f. word_value (codes "return") x.0 f.0 (codes "return" ∷ []) [])
      (λ x rest f g. words_apart_when (codes "output" ∷ codes "put" ∷ codes "if" ∷ codes "select" ∷ codes "do" ∷ []) (codes "return" ∷ []) [] (first (s_output.spelling x ++ rest)) refl (b_output x rest f))

  b_return : (x : Either (Token × (Option Expression × Place)) (Either (Token × (List Token × Place)) (Either (Token × (List PutItem × Place)) (Either Statement (Either SelectTree DoTree))))) (rest : List Token) → s_return.Fine x → when (is_one_of (codes "return" ∷ codes "output" ∷ codes "put" ∷ codes "if" ∷ codes "select" ∷ codes "do" ∷ []) []) (first (s_return.spelling x ++ rest)) ≡ true
  b_return (One x) rest f = word_value (codes "return") x.0 f.0 (codes "return" ∷ codes "output" ∷ codes "put" ∷ codes "if" ∷ codes "select" ∷ codes "do" ∷ []) []
  b_return (Two x) rest f = words_among_when (codes "output" ∷ codes "put" ∷ codes "if" ∷ codes "select" ∷ codes "do" ∷ []) (codes "return" ∷ codes "output" ∷ codes "put" ∷ codes "if" ∷ codes "select" ∷ codes "do" ∷ []) (first (s_output.spelling x ++ rest)) refl (b_output x rest f)

  abbrev s_continue : Part (Either Plain (Either (Token × (Option Expression × Place)) (Either (Token × (List Token × Place)) (Either (Token × (List PutItem × Place)) (Either Statement (Either SelectTree DoTree))))))
  s_continue = choice_part (plain_part (codes "continue")) s_return

  l_continue : Law m n s_continue (choose_by (starts (codes "continue")) (to One (plain_rule (codes "continue"))) (to Two (choose_by (starts (codes "return")) (to One (seq (word_rule (codes "return")) (seq (optional begins_expression e) (mark_rule (codes ";"))))) (to Two (choose_by (starts (codes "output")) (to One (seq (word_rule (codes "output")) (seq (many_of m is_table (kept is_table)) (mark_rule (codes ";"))))) (to Two (choose_by (starts (codes "put")) (to One (seq (word_rule (codes "put")) (seq (many_of m begins_item item_rule) (mark_rule (codes ";"))))) (to Two (choose_by (starts (codes "if")) (to One (if_rule m e pi)) (to Two (choose_by (starts (codes "select")) (to One (select_rule m e pi)) (to Two (do_rule m e pi)))))))))))))
  l_continue = choice_law m n (plain_part (codes "continue")) s_return (plain_rule (codes "continue")) (choose_by (starts (codes "return")) (to One (seq (word_rule (codes "return")) (seq (optional begins_expression e) (mark_rule (codes ";"))))) (to Two (choose_by (starts (codes "output")) (to One (seq (word_rule (codes "output")) (seq (many_of m is_table (kept is_table)) (mark_rule (codes ";"))))) (to Two (choose_by (starts (codes "put")) (to One (seq (word_rule (codes "put")) (seq (many_of m begins_item item_rule) (mark_rule (codes ";"))))) (to Two (choose_by (starts (codes "if")) (to One (if_rule m e pi)) (to Two (choose_by (starts (codes "select")) (to One (select_rule m e pi)) (to Two (do_rule m e pi))))))))))) (plain_law (codes "continue") refl) l_return (starts (codes "continue")) (λ x rest f. word_value (codes "continue") x.0 f.0 (codes "continue" ∷ []) [])
      (λ x rest f g. words_apart_when (codes "return" ∷ codes "output" ∷ codes "put" ∷ codes "if" ∷ codes "select" ∷ codes "do" ∷ []) (codes "continue" ∷ []) [] (first (s_return.spelling x ++ rest)) refl (b_return x rest f))

  b_continue : (x : Either Plain (Either (Token × (Option Expression × Place)) (Either (Token × (List Token × Place)) (Either (Token × (List PutItem × Place)) (Either Statement (Either SelectTree DoTree)))))) (rest : List Token) → s_continue.Fine x → when (is_one_of (codes "continue" ∷ codes "return" ∷ codes "output" ∷ codes "put" ∷ codes "if" ∷ codes "select" ∷ codes "do" ∷ []) []) (first (s_continue.spelling x ++ rest)) ≡ true
  b_continue (One x) rest f = word_value (codes "continue") x.0 f.0 (codes "continue" ∷ codes "return" ∷ codes "output" ∷ codes "put" ∷ codes "if" ∷ codes "select" ∷ codes "do" ∷ []) []
  b_continue (Two x) rest f = words_among_when (codes "return" ∷ codes "output" ∷ codes "put" ∷ codes "if" ∷ codes "select" ∷ codes "do" ∷ []) (codes "continue" ∷ codes "return" ∷ codes "output" ∷ codes "put" ∷ codes "if" ∷ codes "select" ∷ codes "do" ∷ []) (first (s_return.spelling x ++ rest)) refl (b_return x rest f)

  abbrev s_leave : Part (Either Plain (Either Plain (Either (Token × (Option Expression × Place)) (Either (Token × (List Token × Place)) (Either (Token × (List PutItem × Place)) (Either Statement (Either SelectTree DoTree)))))))
  s_leave = choice_part (plain_part (codes "leave")) s_continue

  l_leave : Law m n s_leave (choose_by (starts (codes "leave")) (to One (plain_rule (codes "leave"))) (to Two (choose_by (starts (codes "continue")) (to One (plain_rule (codes "continue"))) (to Two (choose_by (starts (codes "return")) (to One (seq (word_rule (codes "return")) (seq (optional begins_expression e) (mark_rule (codes ";"))))) (to Two (choose_by (starts (codes "output")) (to One (seq (word_rule (codes "output")) (seq (many_of m is_table (kept is_table)) (mark_rule (codes ";"))))) (to Two (choose_by (starts (codes "put")) (to One (seq (word_rule (codes "put")) (seq (many_of m begins_item item_rule) (mark_rule (codes ";"))))) (to Two (choose_by (starts (codes "if")) (to One (if_rule m e pi)) (to Two (choose_by (starts (codes "select")) (to One (select_rule m e pi)) (to Two (do_rule m e pi)))))))))))))))
  l_leave = choice_law m n (plain_part (codes "leave")) s_continue (plain_rule (codes "leave")) (choose_by (starts (codes "continue")) (to One (plain_rule (codes "continue"))) (to Two (choose_by (starts (codes "return")) (to One (seq (word_rule (codes "return")) (seq (optional begins_expression e) (mark_rule (codes ";"))))) (to Two (choose_by (starts (codes "output")) (to One (seq (word_rule (codes "output")) (seq (many_of m is_table (kept is_table)) (mark_rule (codes ";"))))) (to Two (choose_by (starts (codes "put")) (to One (seq (word_rule (codes "put")) (seq (many_of m begins_item item_rule) (mark_rule (codes ";"))))) (to Two (choose_by (starts (codes "if")) (to One (if_rule m e pi)) (to Two (choose_by (starts (codes "select")) (to One (select_rule m e pi)) (to Two (do_rule m e pi))))))))))))) (plain_law (codes "leave") refl) l_continue (starts (codes "leave")) (λ x rest f. word_value (codes "leave") x.0 f.0 (codes "leave" ∷ []) [])
      (λ x rest f g. words_apart_when (codes "continue" ∷ codes "return" ∷ codes "output" ∷ codes "put" ∷ codes "if" ∷ codes "select" ∷ codes "do" ∷ []) (codes "leave" ∷ []) [] (first (s_continue.spelling x ++ rest)) refl (b_continue x rest f))

  b_leave : (x : Either Plain (Either Plain (Either (Token × (Option Expression × Place)) (Either (Token × (List Token × Place)) (Either (Token × (List PutItem × Place)) (Either Statement (Either SelectTree DoTree))))))) (rest : List Token) → s_leave.Fine x → when (is_one_of (codes "leave" ∷ codes "continue" ∷ codes "return" ∷ codes "output" ∷ codes "put" ∷ codes "if" ∷ codes "select" ∷ codes "do" ∷ []) []) (first (s_leave.spelling x ++ rest)) ≡ true
  b_leave (One x) rest f = word_value (codes "leave") x.0 f.0 (codes "leave" ∷ codes "continue" ∷ codes "return" ∷ codes "output" ∷ codes "put" ∷ codes "if" ∷ codes "select" ∷ codes "do" ∷ []) []
  b_leave (Two x) rest f = words_among_when (codes "continue" ∷ codes "return" ∷ codes "output" ∷ codes "put" ∷ codes "if" ∷ codes "select" ∷ codes "do" ∷ []) (codes "leave" ∷ codes "continue" ∷ codes "return" ∷ codes "output" ∷ codes "put" ∷ codes "if" ∷ codes "select" ∷ codes "do" ∷ []) (first (s_continue.spelling x ++ rest)) refl (b_continue x rest f)

  abbrev s_null : Part (Either (Token × Ended) (Either Plain (Either Plain (Either (Token × (Option Expression × Place)) (Either (Token × (List Token × Place)) (Either (Token × (List PutItem × Place)) (Either Statement (Either SelectTree DoTree))))))))
  s_null = choice_part null_part s_leave

  l_null : Law m n s_null (choose_by (starts (codes "null")) (to One (seq (word_rule (codes "null")) (seq args (mark_rule (codes ";"))))) (to Two (choose_by (starts (codes "leave")) (to One (plain_rule (codes "leave"))) (to Two (choose_by (starts (codes "continue")) (to One (plain_rule (codes "continue"))) (to Two (choose_by (starts (codes "return")) (to One (seq (word_rule (codes "return")) (seq (optional begins_expression e) (mark_rule (codes ";"))))) (to Two (choose_by (starts (codes "output")) (to One (seq (word_rule (codes "output")) (seq (many_of m is_table (kept is_table)) (mark_rule (codes ";"))))) (to Two (choose_by (starts (codes "put")) (to One (seq (word_rule (codes "put")) (seq (many_of m begins_item item_rule) (mark_rule (codes ";"))))) (to Two (choose_by (starts (codes "if")) (to One (if_rule m e pi)) (to Two (choose_by (starts (codes "select")) (to One (select_rule m e pi)) (to Two (do_rule m e pi)))))))))))))))))
  l_null = choice_law m n null_part s_leave (seq (word_rule (codes "null")) (seq args (mark_rule (codes ";")))) (choose_by (starts (codes "leave")) (to One (plain_rule (codes "leave"))) (to Two (choose_by (starts (codes "continue")) (to One (plain_rule (codes "continue"))) (to Two (choose_by (starts (codes "return")) (to One (seq (word_rule (codes "return")) (seq (optional begins_expression e) (mark_rule (codes ";"))))) (to Two (choose_by (starts (codes "output")) (to One (seq (word_rule (codes "output")) (seq (many_of m is_table (kept is_table)) (mark_rule (codes ";"))))) (to Two (choose_by (starts (codes "put")) (to One (seq (word_rule (codes "put")) (seq (many_of m begins_item item_rule) (mark_rule (codes ";"))))) (to Two (choose_by (starts (codes "if")) (to One (if_rule m e pi)) (to Two (choose_by (starts (codes "select")) (to One (select_rule m e pi)) (to Two (do_rule m e pi))))))))))))))) (token_then m n (λ t. t) (Passes (is_word (codes "null"))) (ended_part m n e args le la) (word_rule (codes "null")) (seq args (mark_rule (codes ";"))) (keyword_law m n (codes "null") refl) (ended_law m n e args le la)) l_leave (starts (codes "null")) (λ x rest f. word_value (codes "null") x.0 f.0 (codes "null" ∷ []) [])
      (λ x rest f g. words_apart_when (codes "leave" ∷ codes "continue" ∷ codes "return" ∷ codes "output" ∷ codes "put" ∷ codes "if" ∷ codes "select" ∷ codes "do" ∷ []) (codes "null" ∷ []) [] (first (s_leave.spelling x ++ rest)) refl (b_leave x rest f))

  b_null : (x : Either (Token × Ended) (Either Plain (Either Plain (Either (Token × (Option Expression × Place)) (Either (Token × (List Token × Place)) (Either (Token × (List PutItem × Place)) (Either Statement (Either SelectTree DoTree)))))))) (rest : List Token) → s_null.Fine x → when (is_one_of (codes "null" ∷ codes "leave" ∷ codes "continue" ∷ codes "return" ∷ codes "output" ∷ codes "put" ∷ codes "if" ∷ codes "select" ∷ codes "do" ∷ []) []) (first (s_null.spelling x ++ rest)) ≡ true
  b_null (One x) rest f = word_value (codes "null") x.0 f.0 (codes "null" ∷ codes "leave" ∷ codes "continue" ∷ codes "return" ∷ codes "output" ∷ codes "put" ∷ codes "if" ∷ codes "select" ∷ codes "do" ∷ []) []
  b_null (Two x) rest f = words_among_when (codes "leave" ∷ codes "continue" ∷ codes "return" ∷ codes "output" ∷ codes "put" ∷ codes "if" ∷ codes "select" ∷ codes "do" ∷ []) (codes "null" ∷ codes "leave" ∷ codes "continue" ∷ codes "return" ∷ codes "output" ∷ codes "put" ∷ codes "if" ∷ codes "select" ∷ codes "do" ∷ []) (first (s_leave.spelling x ++ rest)) refl (b_leave x rest f)

  abbrev s_named : Part (Either (Token × NamedTail) (Either (Token × Ended) (Either Plain (Either Plain (Either (Token × (Option Expression × Place)) (Either (Token × (List Token × Place)) (Either (Token × (List PutItem × Place)) (Either Statement (Either SelectTree DoTree)))))))))
  s_named = choice_part named_part s_null

  l_named : Law m n s_named (choose_by is_name_token (to One (seq (kept is_name_token) (named_tail e args))) (to Two (choose_by (starts (codes "null")) (to One (seq (word_rule (codes "null")) (seq args (mark_rule (codes ";"))))) (to Two (choose_by (starts (codes "leave")) (to One (plain_rule (codes "leave"))) (to Two (choose_by (starts (codes "continue")) (to One (plain_rule (codes "continue"))) (to Two (choose_by (starts (codes "return")) (to One (seq (word_rule (codes "return")) (seq (optional begins_expression e) (mark_rule (codes ";"))))) (to Two (choose_by (starts (codes "output")) (to One (seq (word_rule (codes "output")) (seq (many_of m is_table (kept is_table)) (mark_rule (codes ";"))))) (to Two (choose_by (starts (codes "put")) (to One (seq (word_rule (codes "put")) (seq (many_of m begins_item item_rule) (mark_rule (codes ";"))))) (to Two (choose_by (starts (codes "if")) (to One (if_rule m e pi)) (to Two (choose_by (starts (codes "select")) (to One (select_rule m e pi)) (to Two (do_rule m e pi)))))))))))))))))))
  l_named = choice_law m n named_part s_null (seq (kept is_name_token) (named_tail e args)) (choose_by (starts (codes "null")) (to One (seq (word_rule (codes "null")) (seq args (mark_rule (codes ";"))))) (to Two (choose_by (starts (codes "leave")) (to One (plain_rule (codes "leave"))) (to Two (choose_by (starts (codes "continue")) (to One (plain_rule (codes "continue"))) (to Two (choose_by (starts (codes "return")) (to One (seq (word_rule (codes "return")) (seq (optional begins_expression e) (mark_rule (codes ";"))))) (to Two (choose_by (starts (codes "output")) (to One (seq (word_rule (codes "output")) (seq (many_of m is_table (kept is_table)) (mark_rule (codes ";"))))) (to Two (choose_by (starts (codes "put")) (to One (seq (word_rule (codes "put")) (seq (many_of m begins_item item_rule) (mark_rule (codes ";"))))) (to Two (choose_by (starts (codes "if")) (to One (if_rule m e pi)) (to Two (choose_by (starts (codes "select")) (to One (select_rule m e pi)) (to Two (do_rule m e pi)))))))))))))))))
      (token_then m n (λ t. t) (Passes is_name_token) (named_tail_part m n e args le la) (kept is_name_token) (named_tail e args) (kept_law m n is_name_token (word_token (codes "x"), refl)) (named_tail_law m n e args le la)) l_null is_name_token (λ x rest f. f.0)
      (λ x rest f g. words_no_name (codes "null" ∷ codes "leave" ∷ codes "continue" ∷ codes "return" ∷ codes "output" ∷ codes "put" ∷ codes "if" ∷ codes "select" ∷ codes "do" ∷ []) (first (s_null.spelling x ++ rest)) refl (b_null x rest f))

  no_semicolon : (x : Either (Token × NamedTail) (Either (Token × Ended) (Either Plain (Either Plain (Either (Token × (Option Expression × Place)) (Either (Token × (List Token × Place)) (Either (Token × (List PutItem × Place)) (Either Statement (Either SelectTree DoTree))))))))) (rest : List Token) → s_named.Fine x → when is_semicolon_mark (first (s_named.spelling x ++ rest)) ≡ false
  no_semicolon (One x) rest f = name_is_none [] (codes ";" ∷ []) x.0 refl f.0
  no_semicolon (Two x) rest f = words_apart_when (codes "null" ∷ codes "leave" ∷ codes "continue" ∷ codes "return" ∷ codes "output" ∷ codes "put" ∷ codes "if" ∷ codes "select" ∷ codes "do" ∷ []) [] (codes ";" ∷ []) (first (s_null.spelling x ++ rest)) refl (b_null x rest f)

  abbrev all_kinds : Part StatementTree
  all_kinds = choice_part (place_part (codes ";")) s_named

  all_law : Law m n all_kinds (choose_by is_semicolon_mark (to One (mark_rule (codes ";"))) (to Two (choose_by is_name_token (to One (seq (kept is_name_token) (named_tail e args))) (to Two (choose_by (starts (codes "null")) (to One (seq (word_rule (codes "null")) (seq args (mark_rule (codes ";"))))) (to Two (choose_by (starts (codes "leave")) (to One (plain_rule (codes "leave"))) (to Two (choose_by (starts (codes "continue")) (to One (plain_rule (codes "continue"))) (to Two (choose_by (starts (codes "return")) (to One (seq (word_rule (codes "return")) (seq (optional begins_expression e) (mark_rule (codes ";"))))) (to Two (choose_by (starts (codes "output")) (to One (seq (word_rule (codes "output")) (seq (many_of m is_table (kept is_table)) (mark_rule (codes ";"))))) (to Two (choose_by (starts (codes "put")) (to One (seq (word_rule (codes "put")) (seq (many_of m begins_item item_rule) (mark_rule (codes ";"))))) (to Two (choose_by (starts (codes "if")) (to One (if_rule m e pi)) (to Two (choose_by (starts (codes "select")) (to One (select_rule m e pi)) (to Two (do_rule m e pi)))))))))))))))))))))
  all_law = choice_law m n (place_part (codes ";")) s_named (mark_rule (codes ";")) (choose_by is_name_token (to One (seq (kept is_name_token) (named_tail e args))) (to Two (choose_by (starts (codes "null")) (to One (seq (word_rule (codes "null")) (seq args (mark_rule (codes ";"))))) (to Two (choose_by (starts (codes "leave")) (to One (plain_rule (codes "leave"))) (to Two (choose_by (starts (codes "continue")) (to One (plain_rule (codes "continue"))) (to Two (choose_by (starts (codes "return")) (to One (seq (word_rule (codes "return")) (seq (optional begins_expression e) (mark_rule (codes ";"))))) (to Two (choose_by (starts (codes "output")) (to One (seq (word_rule (codes "output")) (seq (many_of m is_table (kept is_table)) (mark_rule (codes ";"))))) (to Two (choose_by (starts (codes "put")) (to One (seq (word_rule (codes "put")) (seq (many_of m begins_item item_rule) (mark_rule (codes ";"))))) (to Two (choose_by (starts (codes "if")) (to One (if_rule m e pi)) (to Two (choose_by (starts (codes "select")) (to One (select_rule m e pi)) (to Two (do_rule m e pi))))))))))))))))))) (mark_law m n (codes ";") refl) l_named is_semicolon_mark (λ p rest f. refl) (λ x rest f g. no_semicolon x rest f)

  abbrev selector_from : Option Selector → Option (Place × (Expression × Place))
  selector_from None = None
  selector_from (Some s) = Some (s.opening, (s.value, s.closing))

  abbrev otherwise_from : Otherwise → Option (Token × Statement)
  otherwise_from NoOtherwise = None
  otherwise_from (Otherwise' k s) = Some (k, s)

  abbrev statement_from : Statement → StatementTree
  statement_from (Empty p) = One p
  statement_from (Assignment t p v q) = Two (One (t, One (p, (v, q))))
  statement_from (Call (callee.Function t) p xs q r) = Two (One (t, Two (One ((p, (xs, q)), r))))
  statement_from (Call (callee.Method t d w) p xs q r) = Two (One (t, Two (Two (d, (w, ((p, (xs, q)), r))))))
  statement_from (Call (callee.Null t) p xs q r) = Two (Two (One (t, ((p, (xs, q)), r))))
  statement_from (Leave k p) = Two (Two (Two (One (k, p))))
  statement_from (Continue k p) = Two (Two (Two (Two (One (k, p)))))
  statement_from (Return k v p) = Two (Two (Two (Two (Two (One (k, (v, p)))))))
  statement_from (Output k ts p) = Two (Two (Two (Two (Two (Two (One (k, (ts, p))))))))
  statement_from (Put k is p) = Two (Two (Two (Two (Two (Two (Two (One (k, (is, p)))))))))
  statement_from (If k v t s) = Two (Two (Two (Two (Two (Two (Two (Two (One (If k v t s)))))))))
  statement_from (IfElse k v t s w r) = Two (Two (Two (Two (Two (Two (Two (Two (One (IfElse k v t s w r)))))))))
  statement_from (Select k s p ws r w q) = Two (Two (Two (Two (Two (Two (Two (Two (Two (One (k, (selector_from s, (p, (when_list ws, (otherwise_from r, (w, q)))))))))))))))
  statement_from (Do k c p b w q) = Two (Two (Two (Two (Two (Two (Two (Two (Two (Two ((k, (c, (p, (statement_list b, (w, q)))))))))))))))

  pub kinds_law : Law m n (statement_part n) (statement_with m e args pi)
  kinds_law =
      to_law m n all_kinds (statement_part n) (choose_by is_semicolon_mark (to One (mark_rule (codes ";"))) (to Two (choose_by is_name_token (to One (seq (kept is_name_token) (named_tail e args))) (to Two (choose_by (starts (codes "null")) (to One (seq (word_rule (codes "null")) (seq args (mark_rule (codes ";"))))) (to Two (choose_by (starts (codes "leave")) (to One (plain_rule (codes "leave"))) (to Two (choose_by (starts (codes "continue")) (to One (plain_rule (codes "continue"))) (to Two (choose_by (starts (codes "return")) (to One (seq (word_rule (codes "return")) (seq (optional begins_expression e) (mark_rule (codes ";"))))) (to Two (choose_by (starts (codes "output")) (to One (seq (word_rule (codes "output")) (seq (many_of m is_table (kept is_table)) (mark_rule (codes ";"))))) (to Two (choose_by (starts (codes "put")) (to One (seq (word_rule (codes "put")) (seq (many_of m begins_item item_rule) (mark_rule (codes ";"))))) (to Two (choose_by (starts (codes "if")) (to One (if_rule m e pi)) (to Two (choose_by (starts (codes "select")) (to One (select_rule m e pi)) (to Two (do_rule m e pi))))))))))))))))))))) all_law
      statement_of_kind statement_from back spelled' opened fine fine' next left
    where
      back : (s : Statement) → IsStatement s → statement_of_kind (statement_from s) ≡ s
      back (Empty p) f = refl
      back (Assignment t p v q) f = refl
      back (Call (callee.Function t) p xs q r) f = refl
      back (Call (callee.Method t d w) p xs q r) f = refl
      back (Call (callee.Null t) p xs q r) f = refl
      back (Leave k p) f = refl
      back (Continue k p) f = refl
      back (Return k v p) f = refl
      back (Output k ts p) f = refl
      back (Put k is p) f = refl
      back (If k v t s) f = refl
      back (IfElse k v t s w r) f = refl
      back (Select k None p ws NoOtherwise w q) f = ap (λ l. Select k None p l NoOtherwise w q) (whens_list ws f.2)
      back (Select k None p ws (Otherwise' a r) w q) f = ap (λ l. Select k None p l (Otherwise' a r) w q) (whens_list ws f.2)
      back (Select k (Some s) p ws NoOtherwise w q) f = ap (λ l. Select k (Some s) p l NoOtherwise w q) (whens_list ws f.2)
      back (Select k (Some s) p ws (Otherwise' a r) w q) f = ap (λ l. Select k (Some s) p l (Otherwise' a r) w q) (whens_list ws f.2)
      back (Do k c p b w q) f = ap (λ l. Do k c p l w q) (statements_list b)

      spelled' : (x : StatementTree) → statement_spelling (statement_of_kind x) ≡ all_kinds.spelling x
      spelled' (One p) = refl
      spelled' (Two (One (t, One x))) = refl
      spelled' (Two (One (t, Two (One x)))) = refl
      spelled' (Two (One (t, Two (Two x)))) = refl
      spelled' (Two (Two (One x))) = refl
      spelled' (Two (Two (Two (One x)))) = refl
      spelled' (Two (Two (Two (Two (One x))))) = refl
      spelled' (Two (Two (Two (Two (Two (One (k, (None, p)))))))) = refl
      spelled' (Two (Two (Two (Two (Two (One (k, (Some v, p)))))))) = refl
      spelled' (Two (Two (Two (Two (Two (Two (One x))))))) = refl
      spelled' (Two (Two (Two (Two (Two (Two (Two (One x)))))))) = refl
      spelled' (Two (Two (Two (Two (Two (Two (Two (Two (One s))))))))) = refl
      spelled' (Two (Two (Two (Two (Two (Two (Two (Two (Two (One (k, (None, (p, (ws, (None, (w, q)))))))))))))))) = ap (λ (l : List Token). k ∷ ((semicolon_mark p ∷ (l ++ ((w ∷ (semicolon_mark q ∷ []))))))) (whens_flat ws)
      spelled' (Two (Two (Two (Two (Two (Two (Two (Two (Two (One (k, (None, (p, (ws, (Some r, (w, q)))))))))))))))) = ap (λ (l : List Token). k ∷ ((semicolon_mark p ∷ (l ++ ((r.0 ∷ statement_spelling r.1) ++ (w ∷ (semicolon_mark q ∷ []))))))) (whens_flat ws)
      spelled' (Two (Two (Two (Two (Two (Two (Two (Two (Two (One (k, (Some s, (p, (ws, (None, (w, q)))))))))))))))) = ap (λ (l : List Token). k ∷ (selector_spelling (record { opening = s.0; value = s.1.0; closing = s.1.1 }) ++ (semicolon_mark p ∷ (l ++ ((w ∷ (semicolon_mark q ∷ []))))))) (whens_flat ws)
      spelled' (Two (Two (Two (Two (Two (Two (Two (Two (Two (One (k, (Some s, (p, (ws, (Some r, (w, q)))))))))))))))) = ap (λ (l : List Token). k ∷ (selector_spelling (record { opening = s.0; value = s.1.0; closing = s.1.1 }) ++ (semicolon_mark p ∷ (l ++ ((r.0 ∷ statement_spelling r.1) ++ (w ∷ (semicolon_mark q ∷ []))))))) (whens_flat ws)
      spelled' (Two (Two (Two (Two (Two (Two (Two (Two (Two (Two ((k, (c, (p, (b, (w, q)))))))))))))))) = ap (λ (l : List Token). k ∷ (control_spelling c ++ (semicolon_mark p ∷ (l ++ (w ∷ (semicolon_mark q ∷ [])))))) (statements_flat b)

      opened : (x : StatementTree) → statement_opens (statement_of_kind x) n ≡ all_kinds.opens x
      opened (One p) = refl
      opened (Two (One (t, One x))) = refl
      opened (Two (One (t, Two (One x)))) = refl
      opened (Two (One (t, Two (Two x)))) = refl
      opened (Two (Two (One x))) = refl
      opened (Two (Two (Two (One x)))) = refl
      opened (Two (Two (Two (Two (One x))))) = refl
      opened (Two (Two (Two (Two (Two (One (k, (None, p)))))))) = refl
      opened (Two (Two (Two (Two (Two (One (k, (Some v, p)))))))) = refl
      opened (Two (Two (Two (Two (Two (Two (One x))))))) = ap (λ o. first_opened o (semicolon_mark x.1.1 ∷ []) None) (sym (no_opens (λ t. t ∷ []) x.1.0))
      opened (Two (Two (Two (Two (Two (Two (Two (One x)))))))) = ap (λ o. first_opened o (semicolon_mark x.1.1 ∷ []) None) (sym (no_item_opens x.1.0))
      opened (Two (Two (Two (Two (Two (Two (Two (Two (One s))))))))) = refl
      opened (Two (Two (Two (Two (Two (Two (Two (Two (Two (One (k, (None, (p, (ws, (None, (w, q)))))))))))))))) = ap₂ (λ (a : List Token) (b : Option (List Token)). first_opened b ((w ∷ (semicolon_mark q ∷ []))) (first_opened (None) (w ∷ (semicolon_mark q ∷ [])) None)) (whens_flat ws) (whens_open ws)
      opened (Two (Two (Two (Two (Two (Two (Two (Two (Two (One (k, (None, (p, (ws, (Some r, (w, q)))))))))))))))) = ap₂ (λ (a : List Token) (b : Option (List Token)). first_opened b ((r.0 ∷ statement_spelling r.1) ++ (w ∷ (semicolon_mark q ∷ []))) (first_opened (one_in (statement_spelling r.1) (statement_opens r.1) n) (w ∷ (semicolon_mark q ∷ [])) None)) (whens_flat ws) (whens_open ws)
      opened (Two (Two (Two (Two (Two (Two (Two (Two (Two (One (k, (Some s, (p, (ws, (None, (w, q)))))))))))))))) = ap₂ (λ (a : List Token) (b : Option (List Token)). first_opened (first_opened (expression_opens s.1.0 n) (close_mark s.1.1 ∷ []) None) (semicolon_mark p ∷ (a ++ ((w ∷ (semicolon_mark q ∷ []))))) (first_opened b ((w ∷ (semicolon_mark q ∷ []))) (first_opened (None) (w ∷ (semicolon_mark q ∷ [])) None))) (whens_flat ws) (whens_open ws)
      opened (Two (Two (Two (Two (Two (Two (Two (Two (Two (One (k, (Some s, (p, (ws, (Some r, (w, q)))))))))))))))) = ap₂ (λ (a : List Token) (b : Option (List Token)). first_opened (first_opened (expression_opens s.1.0 n) (close_mark s.1.1 ∷ []) None) (semicolon_mark p ∷ (a ++ ((r.0 ∷ statement_spelling r.1) ++ (w ∷ (semicolon_mark q ∷ []))))) (first_opened b ((r.0 ∷ statement_spelling r.1) ++ (w ∷ (semicolon_mark q ∷ []))) (first_opened (one_in (statement_spelling r.1) (statement_opens r.1) n) (w ∷ (semicolon_mark q ∷ [])) None))) (whens_flat ws) (whens_open ws)
      opened (Two (Two (Two (Two (Two (Two (Two (Two (Two (Two ((k, (c, (p, (b, (w, q)))))))))))))))) = ap₂ (λ (a : List Token) (o : Option (List Token)). first_opened (control_opens c n) (semicolon_mark p ∷ (a ++ (w ∷ (semicolon_mark q ∷ [])))) (first_opened o (w ∷ (semicolon_mark q ∷ [])) None)) (statements_flat b) (statements_open n b)

      fine : (x : StatementTree) → all_kinds.Fine x → IsStatement (statement_of_kind x)
      fine (One p) f = tt
      fine (Two (One (t, One x))) f = (f.0, f.1.1.0)
      fine (Two (One (t, Two (One x)))) f = (f.0, f.1.0)
      fine (Two (One (t, Two (Two x)))) f = ((f.0, f.1.1.0), f.1.1.1.0)
      fine (Two (Two (One x))) f = (f.0, f.1.0)
      fine (Two (Two (Two (One x)))) f = f.0
      fine (Two (Two (Two (Two (One x))))) f = f.0
      fine (Two (Two (Two (Two (Two (One (k, (None, p)))))))) f = (f.0, tt)
      fine (Two (Two (Two (Two (Two (One (k, (Some v, p)))))))) f = (f.0, f.1.0)
      fine (Two (Two (Two (Two (Two (Two (One x))))))) f = (f.0, f.1.0)
      fine (Two (Two (Two (Two (Two (Two (Two (One x)))))))) f = (f.0, f.1.0)
      fine (Two (Two (Two (Two (Two (Two (Two (Two (One s))))))))) f = f.0
      fine (Two (Two (Two (Two (Two (Two (Two (Two (Two (One (k, (None, (p, (ws, (None, (w, q)))))))))))))))) f = (f.0, tt, each_whens ws f.1.1.1.0, tt, f.1.1.1.1.1.0)
      fine (Two (Two (Two (Two (Two (Two (Two (Two (Two (One (k, (None, (p, (ws, (Some r, (w, q)))))))))))))))) f = (f.0, tt, each_whens ws f.1.1.1.0, (f.1.1.1.1.0.0, f.1.1.1.1.0.1), f.1.1.1.1.1.0)
      fine (Two (Two (Two (Two (Two (Two (Two (Two (Two (One (k, (Some s, (p, (ws, (None, (w, q)))))))))))))))) f = (f.0, f.1.0.1.0, each_whens ws f.1.1.1.0, tt, f.1.1.1.1.1.0)
      fine (Two (Two (Two (Two (Two (Two (Two (Two (Two (One (k, (Some s, (p, (ws, (Some r, (w, q)))))))))))))))) f = (f.0, f.1.0.1.0, each_whens ws f.1.1.1.0, (f.1.1.1.1.0.0, f.1.1.1.1.0.1), f.1.1.1.1.1.0)
      fine (Two (Two (Two (Two (Two (Two (Two (Two (Two (Two ((k, (c, (p, (b, (w, q)))))))))))))))) f = (f.0, f.1.0, each_statements b f.1.1.1.0, f.1.1.1.1.0)

      fine' : (s : Statement) → IsStatement s → all_kinds.Fine (statement_from s)
      fine' (Empty p) f = tt
      fine' (Assignment t p v q) f = (f.0, (tt, (f.1, tt, tt), tt), tt)
      fine' (Call (callee.Function t) p xs q r) f = (f.0, (f.1, tt, tt), tt)
      fine' (Call (callee.Method t d w) p xs q r) f = (f.0.0, (tt, (f.0.1, (f.1, tt, tt), tt), tt), tt)
      fine' (Call (callee.Null t) p xs q r) f = (f.0, (f.1, tt, tt), tt)
      fine' (Leave k p) f = (f, tt, tt)
      fine' (Continue k p) f = (f, tt, tt)
      fine' (Return k None p) f = (f.0, (tt, tt, tt), tt)
      fine' (Return k (Some v) p) f = (f.0, (f.1, tt, tt), tt)
      fine' (Output k ts p) f = (f.0, (f.1, tt, tt), tt)
      fine' (Put k is p) f = (f.0, (f.1, tt, tt), tt)
      fine' (If k v t s) f = (f, refl)
      fine' (IfElse k v t s w r) f = (f, refl)
      fine' (Select k None p ws NoOtherwise w q) f = (f.0, (tt, (tt, (whens_each ws f.2, (tt, (f.4, tt, tt), tt), tt), tt), tt), tt)
      fine' (Select k None p ws (Otherwise' a r) w q) f = (f.0, (tt, (tt, (whens_each ws f.2, ((f.3.0, f.3.1, tt), (f.4, tt, tt), tt), tt), tt), tt), tt)
      fine' (Select k (Some s) p ws NoOtherwise w q) f = (f.0, ((tt, (f.1, tt, tt), tt), (tt, (whens_each ws f.2, (tt, (f.4, tt, tt), tt), tt), tt), tt), tt)
      fine' (Select k (Some s) p ws (Otherwise' a r) w q) f = (f.0, ((tt, (f.1, tt, tt), tt), (tt, (whens_each ws f.2, ((f.3.0, f.3.1, tt), (f.4, tt, tt), tt), tt), tt), tt), tt)
      fine' (Do k c p b w q) f = (f.0, (f.1, (tt, (statements_each b f.2, (f.3, tt, tt), tt), tt), tt), tt)

      next : (x : StatementTree) (o : Option Token) → all_kinds.Fine x → Closes (statement_of_kind x) o → all_kinds.Next x o
      next (One p) o f g = tt
      next (Two (One (t, One x))) o f g = tt
      next (Two (One (t, Two (One x)))) o f g = tt
      next (Two (One (t, Two (Two x)))) o f g = tt
      next (Two (Two (One x))) o f g = tt
      next (Two (Two (Two (One x)))) o f g = tt
      next (Two (Two (Two (Two (One x))))) o f g = tt
      next (Two (Two (Two (Two (Two (One (k, (None, p)))))))) o f g = tt
      next (Two (Two (Two (Two (Two (One (k, (Some v, p)))))))) o f g = tt
      next (Two (Two (Two (Two (Two (Two (One x))))))) o f g = tt
      next (Two (Two (Two (Two (Two (Two (Two (One x)))))))) o f g = tt
      next (Two (Two (Two (Two (Two (Two (Two (Two (One s))))))))) o f g = g
      next (Two (Two (Two (Two (Two (Two (Two (Two (Two (One x)))))))))) o f g = tt
      next (Two (Two (Two (Two (Two (Two (Two (Two (Two (Two x)))))))))) o f g = tt

      left : (x : StatementTree) (o : Option Token) → all_kinds.Fine x → all_kinds.Left x o → Closes (statement_of_kind x) o
      left (One p) o f g = λ h. never h
      left (Two (One (t, One x))) o f g = λ h. never h
      left (Two (One (t, Two (One x)))) o f g = λ h. never h
      left (Two (One (t, Two (Two x)))) o f g = λ h. never h
      left (Two (Two (One x))) o f g = λ h. never h
      left (Two (Two (Two (One x)))) o f g = λ h. never h
      left (Two (Two (Two (Two (One x))))) o f g = λ h. never h
      left (Two (Two (Two (Two (Two (One (k, (None, p)))))))) o f g = λ h. never h
      left (Two (Two (Two (Two (Two (One (k, (Some v, p)))))))) o f g = λ h. never h
      left (Two (Two (Two (Two (Two (Two (One x))))))) o f g = λ h. never h
      left (Two (Two (Two (Two (Two (Two (Two (One x)))))))) o f g = λ h. never h
      left (Two (Two (Two (Two (Two (Two (Two (Two (One s))))))))) o f g = g
      left (Two (Two (Two (Two (Two (Two (Two (Two (Two (One x)))))))))) o f g = λ h. never h
      left (Two (Two (Two (Two (Two (Two (Two (Two (Two (Two x)))))))))) o f g = λ h. never h

-- ---- where no level is left

abbrev a_word : List ℕ → Token
a_word w = word_token w

end_token : Token
end_token = word_token (codes "end")

module _ (t : Token) where
  Here : Type 0
  Here = Goes (symbol (inner_part 0)) (t ∷ [])

  begins_word : is_one_of statement_words (codes ";" ∷ []) t ≡ true → Goes (symbol (inner_part 0)) (t ∷ [])
  begins_word h =
      or_cases (list_any (λ w. is_word w t) statement_words) (is_mark (codes ";") t || false) h
      (λ a. or_cases (is_word (codes "null") t) _ a
      (λ e. (Call (callee.Null t) start NoArgument start start, open_mark start ∷ (close_mark start ∷ (semicolon_mark start ∷ [])), (e, tt), refl))
      (λ a. or_cases (is_word (codes "leave") t) _ a (λ e. (Leave t start, semicolon_mark start ∷ [], e, refl))
      (λ a. or_cases (is_word (codes "continue") t) _ a (λ e. (Continue t start, semicolon_mark start ∷ [], e, refl))
      (λ a. or_cases (is_word (codes "return") t) _ a (λ e. (Return t None start, semicolon_mark start ∷ [], (e, tt), refl))
      (λ a. or_cases (is_word (codes "output") t) _ a (λ e. (Output t [] start, semicolon_mark start ∷ [], (e, tt), refl))
      (λ a. or_cases (is_word (codes "put") t) _ a (λ e. (Put t [] start, semicolon_mark start ∷ [], (e, tt), refl))
      (λ a. or_cases (is_word (codes "if") t) _ a
      (λ e. (If t (Constant zero_token) (a_word (codes "then")) (Empty start), zero_token ∷ (a_word (codes "then") ∷ (semicolon_mark start ∷ [])), (e, refl, refl, tt), refl))
      (λ a. or_cases (is_word (codes "select") t) _ a
      (λ e. (Select t None start NoWhen NoOtherwise (a_word (codes "end")) start, semicolon_mark start ∷ (a_word (codes "end") ∷ (semicolon_mark start ∷ [])), (e, tt, tt, tt, refl), refl))
      (λ a. or_cases (is_word (codes "do") t) false a
      (λ e. (Do t Block start NoStatement (a_word (codes "end")) start, semicolon_mark start ∷ (a_word (codes "end") ∷ (semicolon_mark start ∷ [])), (e, tt, tt, refl), refl))
      (λ a. never a))))))))))
      (λ a. or_cases (is_mark (codes ";") t) false a (λ e. (Empty t.place, [], tt, ap (λ (u : Token). u ∷ []) (sym (only_mark (codes ";") t e)))) (λ a. never a))

  begins_here : begins_statement t ≡ true → Goes (symbol (inner_part 0)) (t ∷ [])
  begins_here h =
      or_cases (is_name_token t) (is_one_of statement_words (codes ";" ∷ []) t) h
      (λ e. (Assignment t start (Constant zero_token) start, mark_at (codes "=") start ∷ (zero_token ∷ (semicolon_mark start ∷ [])), (e, refl), refl)) begins_word

closed_inner : (m : ℕ) → Law m 0 (inner_part 0) (closed begins_statement)
closed_inner m = closed_law m (inner_part 0) (Empty start, tt) begins_statement (λ s rest f. statement_starts s rest f) begins_here

-- ---- all levels

pub statement_law : (m n : ℕ) → Law m n (statement_part n) (statement_rule m n)
statement_law m zero = kinds_law m 0 0 (omega arith) (omega arith) (expression m 0) (argument_list m 0) (closed begins_statement) (expression_law m 0) (argument_list_law m 0) (closed_inner m)
statement_law m (suc n) =
    kinds_law m (suc n) n (omega arith) (omega arith) (expression m (suc n)) (argument_list m (suc n)) (statement_rule m n) (expression_law m (suc n)) (argument_list_law m (suc n)) (statement_law m n)

-- ---- one spelling, one tree

abbrev statement_or : Statement → ParserOutcome Statement → Statement
statement_or d (Read x r) = x
statement_or d _ = d

statement_back : (x : Statement) → IsStatement x → (k : ℕ) → length (statement_spelling x) < k → statement_rule k k (statement_spelling x) ≡ Read x []
statement_back x f k short =
    ap (statement_rule k k) (sym (append-nil (statement_spelling x))) ∙ (statement_law k k).reads x f short [] (λ h. refl)
    ∙ ap (λ o. goes o [] (Read x [])) ((statement_law k k).enough x f short (omega (arith, short)))

pub one_statement : (x y : Statement) → IsStatement x → IsStatement y → statement_spelling x ≡ statement_spelling y → x ≡ y
one_statement x y f g e =
    let k = suc (length (statement_spelling x)) in
    ap (statement_or x) (sym (statement_back x f k (omega arith)) ∙ ap (statement_rule k k) e ∙ statement_back y g k (omega (arith, ap length e)))
