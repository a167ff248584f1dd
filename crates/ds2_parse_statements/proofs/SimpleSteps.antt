-- Steps of the code of statements that hold no statement, against their rules.
use Rattle.std.proofs.Common.{◌≡◌, ◌||◌, Bool, true, false, codes, List, [], ◌∷◌, ◌++◌, Some, refl, sym, ap, ◌∙◌, append_assoc}
use Rattle.ds2_base.specs.declared.place.Place.{Place}
use Rattle.ds2_base.specs.declared.place.Refusal.{Refusal}
use Rattle.ds2_base.specs.declared.stop.Stop.{Stop}
use Rattle.ds2_token.specs.declared.token.Token.{Token}
use Rattle.ds2_token.specs.Words.{is_any_word, is_mark, is_text, is_name_token}
use Rattle.ds2_tree.specs.declared.kind.ParseKind.{ParseKind}
use Rattle.ds2_tree.specs.Parsers.{Read, Parser, Either, One, Two, first, kept, when, choose_by, to, seq, optional}
use Rattle.ds2_tree.specs.Promise.{Fails}
use Rattle.ds2_tree.specs.declared.expressions.Callee.TheVariants as callee
use Rattle.ds2_tree.specs.declared.statements.PutItem.TheVariants as item
use Rattle.ds2_tree.specs.Expressions.{Expression}
use Rattle.ds2_tree.specs.Statements.{Assignment, Call}
use Rattle.ds2_parse_rules.specs.GrammarTokens.{mark_rule, is_open_mark, Fronted}
use Rattle.ds2_parse_rules.specs.ExpressionGrammar.{ArgumentList, begins_expression}
use Rattle.ds2_parse_rules.specs.StatementGrammar.{is_equals_mark, is_equals_or_dot, Ended, named_statement, named_tail, ItemTail, item_of, named_item, item_tail, item_rule}
use Rattle.ds2_parse_rules.proofs.RuleSteps.{held, taken, plainly, on_read, on_stop, on_last, on_last_stop, on_some, on_yes, on_no}
use Rattle.ds2_parse_rules.proofs.FrontSteps.{kept_read, fronted_when, open_is, mark_was}

-- a list with one more item at its end
pub item_grown : {A : Type 0} (found new : List A) (x : A) → new ≡ found ++ x ∷ [] → (l : List A) → found ++ (x ∷ l) ≡ new ++ l
item_grown found new x e l = sym (ap (λ xs. xs ++ l) e ∙ append_assoc found (x ∷ []) l)

-- the first of two parts is refused
pub front_stops : {A B D : Type 0} (f : A × B → D) (p : Parser A) (q : Parser B) (ts : List Token) (end : Place) (e : Stop (Refusal ParseKind)) → Fails end e (p ts) → Fails end e (to f (seq p q) ts)
front_stops f p q ts end e h = held (Fails end e) f (seq p q) ts (on_stop p q end e h)

-- two parts
module _ {A B D : Type 0} (f : A × B → D) (p : Parser A) (q : Parser B) (ts : List Token) (a : A) (r : List Token) (before : p ts ≡ Read a r) where
  pub second_stops : (end : Place) (e : Stop (Refusal ParseKind)) → Fails end e (q r) → Fails end e (to f (seq p q) ts)
  second_stops end e h = held (Fails end e) f (seq p q) ts (on_read p q before (on_last_stop end e h))

  pub two_read : (b : B) (s : List Token) → q r ≡ Read b s → to f (seq p q) ts ≡ Read (f (a, b)) s
  two_read b s h = held (λ o. o ≡ Read (f (a, b)) s) f (seq p q) ts (on_read p q before (on_last h refl))

  -- what is left of the rule
  pub rest_is : to f (seq p q) ts ≡ to (λ b. f (a, b)) q r
  rest_is = held (λ o. o ≡ to (λ b. f (a, b)) q r) f (seq p q) ts (on_read p q before (taken refl))

-- three parts
module _ {A B C D : Type 0} (f : A × (B × C) → D) (p : Parser A) (q : Parser B) (c : Parser C) (ts : List Token) (a : A) (r : List Token) (before : p ts ≡ Read a r) where
  pub middle_stops : (end : Place) (e : Stop (Refusal ParseKind)) → Fails end e (q r) → Fails end e (to f (seq p (seq q c)) ts)
  middle_stops end e h = held (Fails end e) f (seq p (seq q c)) ts (on_read p (seq q c) before (on_stop q c end e h))

  module _ (b : B) (s : List Token) (second : q r ≡ Read b s) where
    pub third_stops : (end : Place) (e : Stop (Refusal ParseKind)) → Fails end e (c s) → Fails end e (to f (seq p (seq q c)) ts)
    third_stops end e h = held (Fails end e) f (seq p (seq q c)) ts (on_read p (seq q c) before (on_read q c second (on_last_stop end e h)))

    pub three_read : (x : C) (z : List Token) → c s ≡ Read x z → to f (seq p (seq q c)) ts ≡ Read (f (a, (b, x))) z
    three_read x z h = held (λ o. o ≡ Read (f (a, (b, x))) z) f (seq p (seq q c)) ts (on_read p (seq q c) before (on_read q c second (on_last h refl)))

-- ---- behind the name of a statement

or_none : (a : Bool) → (a || false) ≡ a
or_none true = refl
or_none false = refl

equals_is : (ts : List Token) → when is_equals_mark (first ts) ≡ when (is_mark (codes "=")) (first ts)
equals_is [] = refl
equals_is (t ∷ ts) = or_none (is_mark (codes "=") t)

module _ (name : Token) (e : Parser Expression) (args : Parser ArgumentList) (ts : List Token) where
  abbrev assign_part : Parser (Place × (Expression × Place))
  assign_part = seq (mark_rule (codes "=")) (seq e (mark_rule (codes ";")))

  abbrev end_part : Parser Ended
  end_part = seq args (mark_rule (codes ";"))

  abbrev word_part : Parser (Token × Ended)
  word_part = seq (kept is_any_word) end_part

  abbrev dot_part : Parser (Place × (Token × Ended))
  dot_part = seq (mark_rule (codes ".")) word_part

  abbrev call_part : Parser (Either Ended (Place × (Token × Ended)))
  call_part = choose_by is_open_mark (to One end_part) (to Two dot_part)

  pub assigned : when (is_mark (codes "=")) (first ts) ≡ true → to (named_statement name) (named_tail e args) ts ≡ to (λ x. Assignment name x.0 x.1.0 x.1.1) assign_part ts
  assigned c = held (λ o. o ≡ to (λ x. Assignment name x.0 x.1.0 x.1.1) assign_part ts) (named_statement name) (named_tail e args) ts
      (on_yes is_equals_mark One assign_part Two call_part (equals_is ts ∙ c) (taken refl))

  module _ (no_equals : when (is_mark (codes "=")) (first ts) ≡ false) where
    pub called : when (is_mark (codes "(")) (first ts) ≡ true → to (named_statement name) (named_tail e args) ts ≡ to (λ x. Call (callee.Function name) x.0.0 x.0.1.0 x.0.1.1 x.1) end_part ts
    called c = held (λ o. o ≡ to (λ x. Call (callee.Function name) x.0.0 x.0.1.0 x.0.1.1 x.1) end_part ts) (named_statement name) (named_tail e args) ts
        (on_no is_equals_mark One assign_part Two call_part (equals_is ts ∙ no_equals) (on_yes is_open_mark One end_part Two dot_part (open_is (first ts) ∙ c) (taken refl)))

    module _ (no_call : when (is_mark (codes "(")) (first ts) ≡ false) where
      pub dot_stops : (end : Place) (y : Stop (Refusal ParseKind)) → Fails end y (mark_rule (codes ".") ts) → Fails end y (to (named_statement name) (named_tail e args) ts)
      dot_stops end y h = held (Fails end y) (named_statement name) (named_tail e args) ts
          (on_no is_equals_mark One assign_part Two call_part (equals_is ts ∙ no_equals) (on_no is_open_mark One end_part Two dot_part (open_is (first ts) ∙ no_call)
          (on_stop (mark_rule (codes ".")) word_part end y h)))

      module _ (p : Place) (r : List Token) (dot : mark_rule (codes ".") ts ≡ Read p r) where
        pub method_stops : (end : Place) (y : Stop (Refusal ParseKind)) → Fails end y (kept is_any_word r) → Fails end y (to (named_statement name) (named_tail e args) ts)
        method_stops end y h = held (Fails end y) (named_statement name) (named_tail e args) ts
            (on_no is_equals_mark One assign_part Two call_part (equals_is ts ∙ no_equals) (on_no is_open_mark One end_part Two dot_part (open_is (first ts) ∙ no_call)
            (on_read (mark_rule (codes ".")) word_part dot (on_stop (kept is_any_word) end_part end y h))))

        pub method_called : (w : Token) (s : List Token) → kept is_any_word r ≡ Read w s → to (named_statement name) (named_tail e args) ts ≡ to (λ x. Call (callee.Method name p w) x.0.0 x.0.1.0 x.0.1.1 x.1) end_part s
        method_called w s h = held (λ o. o ≡ to (λ x. Call (callee.Method name p w) x.0.0 x.0.1.0 x.0.1.1 x.1) end_part s) (named_statement name) (named_tail e args) ts
            (on_no is_equals_mark One assign_part Two call_part (equals_is ts ∙ no_equals) (on_no is_open_mark One end_part Two dot_part (open_is (first ts) ∙ no_call)
            (on_read (mark_rule (codes ".")) word_part dot (on_read (kept is_any_word) end_part h (taken refl)))))

-- a value where one begins
pub value_stops : (e : Parser Expression) (ts : List Token) → when begins_expression (first ts) ≡ true → (end : Place) (y : Stop (Refusal ParseKind)) → Fails end y (e ts) → Fails end y (optional begins_expression e ts)
value_stops e ts c end y h = plainly (Fails end y) (optional begins_expression e) ts (on_some begins_expression e c (on_last_stop end y h))

-- ---- items of `put`

abbrev named_part : Parser (Token × ItemTail)
named_part = seq (kept is_name_token) item_tail

pub item_text : (ts : List Token) (t : Token) (r : List Token) → Fronted is_text ts t r → (u : Token) → u ≡ t → item_rule ts ≡ Read (item.Text u) r
item_text ts t r there u same = held (λ o. o ≡ Read (item.Text u) r) item_of (choose_by is_text (to One (kept is_text)) (to Two named_part)) ts
    (on_yes is_text One (kept is_text) Two named_part (fronted_when is_text ts t r there) (on_last (kept_read is_text ts t r there u same) refl))

module _ (ts : List Token) (no_text : when is_text (first ts) ≡ false) where
  pub item_name_stops : (end : Place) (y : Stop (Refusal ParseKind)) → Fails end y (kept is_name_token ts) → Fails end y (item_rule ts)
  item_name_stops end y h = held (Fails end y) item_of (choose_by is_text (to One (kept is_text)) (to Two named_part)) ts
      (on_no is_text One (kept is_text) Two named_part no_text (on_stop (kept is_name_token) item_tail end y h))

  pub item_named : (n : Token) (r : List Token) → kept is_name_token ts ≡ Read n r → item_rule ts ≡ to (named_item n) item_tail r
  item_named n r h = held (λ o. o ≡ to (named_item n) item_tail r) item_of (choose_by is_text (to One (kept is_text)) (to Two named_part)) ts
      (on_no is_text One (kept is_text) Two named_part no_text (on_read (kept is_name_token) item_tail h (taken refl)))

abbrev member_part : Parser (Place × Token)
member_part = seq (mark_rule (codes ".")) (kept is_any_word)

abbrev sign_or : Parser (Either Place (Place × Token))
sign_or = choose_by is_equals_mark (to One (mark_rule (codes "="))) (to Two member_part)

begins_tail : (ts : List Token) → when is_equals_or_dot (first ts) ≡ (when (is_mark (codes "=")) (first ts) || when (is_mark (codes ".")) (first ts))
begins_tail [] = refl
begins_tail (t ∷ ts) = ap (λ b. is_mark (codes "=") t || b) (or_none (is_mark (codes ".") t))

pub item_equals : (n : Token) (ts : List Token) (p : Place) (r : List Token) → mark_rule (codes "=") ts ≡ Read p r → to (named_item n) item_tail ts ≡ Read (item.Variable n (Some p)) r
item_equals n ts p r h =
    let c = mark_was (codes "=") ts p r h in
    held (λ o. o ≡ Read (item.Variable n (Some p)) r) (named_item n) item_tail ts
    (on_some is_equals_or_dot sign_or (begins_tail ts ∙ ap (λ b. b || when (is_mark (codes ".")) (first ts)) c) (on_yes is_equals_mark One (mark_rule (codes "=")) Two member_part (equals_is ts ∙ c) (on_last h refl)))

module _ (n : Token) (ts : List Token) (no_equals : when (is_mark (codes "=")) (first ts) ≡ false) (p : Place) (r : List Token) (dot : mark_rule (codes ".") ts ≡ Read p r) where
  dotted : when is_equals_or_dot (first ts) ≡ true
  dotted = begins_tail ts ∙ ap (λ b. b || when (is_mark (codes ".")) (first ts)) no_equals ∙ mark_was (codes ".") ts p r dot

  pub member_stops : (end : Place) (y : Stop (Refusal ParseKind)) → Fails end y (kept is_any_word r) → Fails end y (to (named_item n) item_tail ts)
  member_stops end y h = held (Fails end y) (named_item n) item_tail ts
      (on_some is_equals_or_dot sign_or dotted (on_no is_equals_mark One (mark_rule (codes "=")) Two member_part (equals_is ts ∙ no_equals) (on_read (mark_rule (codes ".")) (kept is_any_word) dot (on_last_stop end y h))))

  pub item_member : (w : Token) (s : List Token) → kept is_any_word r ≡ Read w s → to (named_item n) item_tail ts ≡ Read (item.Member n p w) s
  item_member w s h = held (λ o. o ≡ Read (item.Member n p w) s) (named_item n) item_tail ts
      (on_some is_equals_or_dot sign_or dotted (on_no is_equals_mark One (mark_rule (codes "=")) Two member_part (equals_is ts ∙ no_equals) (on_read (mark_rule (codes ".")) (kept is_any_word) dot (on_last h refl))))
