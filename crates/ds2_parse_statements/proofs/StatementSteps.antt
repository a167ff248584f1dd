-- Steps of the code of statements against their rules.
use Rattle.std.proofs.Common.{◌≡◌, ℕ, zero, suc, ◌-◌, ◌<◌, ◌||◌, Bool, true, false, codes, List, [], ◌∷◌, ◌++◌, length, map, Option, Some, None, Result, refl, sym, ap, ◌∙◌, subst, arith, append_assoc}
use Rattle.std.proofs.lemmas.List.{map_push}
use Rattle.ds2_base.specs.declared.place.Place.{Place}
use Rattle.ds2_base.specs.declared.place.Refusal.{Refusal}
use Rattle.ds2_base.specs.declared.stop.Stop.{Stop}
use Rattle.ds2_token.specs.declared.token.Token.{Token}
use Rattle.ds2_token.specs.Words.{is_mark, is_word, is_name_token, is_table}
use Rattle.ds2_base.specs.declared.stop.Stop.TheVariants as stop
use Rattle.ds2_tree.specs.declared.kind.ParseKind.{ParseKind}
use Rattle.ds2_tree.specs.declared.kind.ParseKind.TheVariants as kind
use Rattle.ds2_tree.specs.Parsers.{ParserOutcome, Read, Unexpected, TooDeep, Spent, Parser, Either, One, Two, and_then, pure, too_deep, unexpected, first, kept, when, choose_by, to, seq, many_of, optional}
use Rattle.ds2_tree.specs.Promise.{IsRefusedAs, Fails, Gives}
use Rattle.ds2_tree.proofs.Steps.{both, fails_on, to_seq, and_same, choose_yes, choose_no}
use Rattle.ds2_tree.specs.declared.statements.ElseIf as code_else_if
use Rattle.ds2_tree.specs.declared.statements.When as code_when
use Rattle.ds2_tree.specs.declared.statements.PutItem.{PutItem}
use Rattle.ds2_tree.specs.declared.expressions.Callee.TheVariants as callee
use Rattle.ds2_tree.specs.Expressions.{Expression}
use Rattle.ds2_tree.specs.ExpressionViews.{expression_tree, arguments_of}
use Rattle.ds2_tree.specs.Statements.{Statement, Empty, Call, Leave, Continue, Return, Output, Put, Otherwise, NoOtherwise, Otherwise', Whens, NoWhen, When}
use Rattle.ds2_tree.specs.StatementViews.{statement_tree, if_else, others_of, whens_of}
use Rattle.ds2_parse_rules.specs.GrammarTokens.{mark_rule, word_rule, starts, Fronted}
use Rattle.ds2_parse_rules.specs.ExpressionGrammar.{ArgumentList, begins_expression, expression, argument_list}
use Rattle.ds2_parse_rules.specs.StatementGrammar.{is_semicolon_mark, begins_item, begins_statement, item_rule, NamedTail, Ended, Plain, Last4, SelectTree, DoTree, plain_rule, select_rule, do_rule, last4_rule, named_statement, named_tail, if_else_of, if_rule, otherwise_of, listed_whens, WhenTree, StatementTree, Last7, statement_of_kind, last7_rule, statement_with, statement_rule}
use Rattle.ds2_parse_statements.specs.StatementParts.{within_rule, ArmTree, arm_rule, else_rule, later_statement, selection_of, do_of, and_whens}
use Rattle.ds2_parse_rules.proofs.RuleSteps.{Holds, held, taken, on_read, on_stop, on_last, on_some, on_none, on_yes, on_no, plain_outcome, fails_deep, fails_unexpected, loop_fails, loop_ends}
use Rattle.ds2_parse_rules.proofs.FrontSteps.{kept_read, fronted_when, mark_was}

-- ---- words

or_none : (a : Bool) → (a || false) ≡ a
or_none true = refl
or_none false = refl

-- one word is one of one word
pub starts_is : (w : List ℕ) (ts : List Token) → when (starts w) (first ts) ≡ when (is_word w) (first ts)
starts_is w [] = refl
starts_is w (t ∷ ts) = or_none (is_word w t || false) ∙ or_none (is_word w t)

pub semicolon_is : (ts : List Token) → when is_semicolon_mark (first ts) ≡ when (is_mark (codes ";")) (first ts)
semicolon_is [] = refl
semicolon_is (t ∷ ts) = or_none (is_mark (codes ";") t)

-- a list with one more item at its end, seen through a function
pub mapped_grown : {X A : Type 0} (f : X → A) (found new : List X) (y : X) → new ≡ found ++ (y ∷ []) → (l : List A) → map f found ++ (f y ∷ l) ≡ map f new ++ l
mapped_grown f found new y e l = sym (ap (λ xs. map f xs ++ l) e ∙ ap (λ xs. xs ++ l) (map_push f found y) ∙ append_assoc (map f found) (f y ∷ []) l)

-- ---- a statement within one

pub statement_is : (m n : ℕ) → statement_rule m n ≡ statement_with m (expression m n) (argument_list m n) (within_rule m n)
statement_is m zero = refl
statement_is m (suc n) = refl

module _ (m n : ℕ) (ts : List Token) where
  pub within_some : {X : Type 0} (f : X → Statement × List Token) (end : Place) (r : Result X (Stop (Refusal ParseKind))) → 0 < n → Gives end f r (statement_rule m (n - 1) ts) → Gives end f r (within_rule m n ts)
  within_some {X} f end r h g = at n h g
    where
      at : (n : ℕ) → 0 < n → Gives end f r (statement_rule m (n - 1) ts) → Gives end f r (within_rule m n ts)
      at zero h g = absurd (omega (arith, h))
      at (suc n) h g =
          let less : suc n - 1 ≡ n = omega arith in
          subst (λ k. Gives end f r (statement_rule m k ts)) less g

  pub within_deep : n ≡ 0 → when begins_statement (first ts) ≡ true → (end : Place) (e : Stop (Refusal ParseKind)) → Fails {A = Unit {0}} end e (TooDeep ts) → Fails end e (within_rule m n ts)
  within_deep none c end e h = subst (λ k. Fails end e (within_rule m k ts)) (sym none) (subst (Fails end e) (sym (choose_yes begins_statement too_deep unexpected ts c)) (fails_deep (Unit {0}) Statement end e ts h))

  pub within_none : n ≡ 0 → when begins_statement (first ts) ≡ false → (end : Place) (e : Stop (Refusal ParseKind)) → Fails {A = Unit {0}} end e (Unexpected ts) → Fails end e (within_rule m n ts)
  within_none none c end e h = subst (λ k. Fails end e (within_rule m k ts)) (sym none) (subst (Fails end e) (sym (choose_no begins_statement too_deep unexpected ts c)) (fails_unexpected (Unit {0}) Statement end e ts h))

-- ---- statements within one

pub all_within : {X : Type 0} (f : X → List Statement × List Token) (m n : ℕ) (ts : List Token) (end : Place) (r : Result X (Stop (Refusal ParseKind)))
    → 0 < n → Gives end f r (many_of m begins_statement (statement_rule m (n - 1)) ts) → Gives end f r (many_of m begins_statement (within_rule m n) ts)
all_within f m zero ts end r h g = absurd (omega (arith, h))
all_within f m (suc n) ts end r h g =
    let less : suc n - 1 ≡ n = omega arith in
    subst (λ k. Gives end f r (many_of m begins_statement (statement_rule m k) ts)) less g

module _ (m n : ℕ) (ts : List Token) (lt : length ts < m) (none : n ≡ 0) where
  pub first_deep : when begins_statement (first ts) ≡ true → (end : Place) (e : Stop (Refusal ParseKind)) → Fails {A = Unit {0}} end e (TooDeep ts) → Fails end e (many_of m begins_statement (within_rule m n) ts)
  first_deep c end e h = loop_fails begins_statement (within_rule m n) (many_of m begins_statement (within_rule m n) ts) (λ l. l) ts m (sym (plain_outcome (many_of m begins_statement (within_rule m n) ts))) lt c end e (within_deep m n ts none c end e h)

  pub none_within : when begins_statement (first ts) ≡ false → {X : Type 0} (f : X → Statement) (l : List X) → l ≡ [] → many_of m begins_statement (within_rule m n) ts ≡ Read (map f l) ts
  none_within c f l empty = loop_ends begins_statement (within_rule m n) (many_of m begins_statement (within_rule m n) ts) (λ l. l) ts m (sym (plain_outcome (many_of m begins_statement (within_rule m n) ts))) lt c ∙ ap (λ xs. Read (map f xs) ts) (sym empty)

-- ---- an arm, and what stands behind it

then_is : {A B C : Type 0} (o : ParserOutcome A) (f : A → Parser B) (g : B → Parser C) → and_then (and_then o f) g ≡ and_then o (λ a r. and_then (f a r) g)
then_is (Read a r) f g = refl
then_is (Unexpected r) f g = refl
then_is (TooDeep r) f g = refl
then_is Spent f g = refl

module _ {D C : Type 0} (G : Token × (Expression × (Token × (Statement × D))) → C) (e : Parser Expression) (i : Parser Statement) (t : Parser D) where
  abbrev behind_arm : ArmTree → Parser C
  behind_arm y = to (λ o. G (y.0, (y.1.0, (y.1.1.0, (y.1.1.1, o))))) t

  abbrev w : Parser Token
  w = word_rule (codes "if")

  abbrev v : Parser Token
  v = word_rule (codes "then")

  arm_parts_is : (ts : List Token) → arm_rule e i ts ≡ and_then (w ts) (λ k r. and_then (e r) (λ c r. and_then (v r) (λ u r. and_then (i r) (λ s. pure (k, (c, (u, s)))))))
  arm_parts_is ts =
      sym (plain_outcome (arm_rule e i ts))
      ∙ to_seq (λ (x : ArmTree). x) w (seq e (seq v i)) ts
      ∙ and_same (w ts) (λ k. to (λ (x : Expression × (Token × Statement)). (k, x)) (seq e (seq v i))) (λ k r. and_then (e r) (λ c r. and_then (v r) (λ u r. and_then (i r) (λ s. pure (k, (c, (u, s)))))))
      (λ k r. to_seq (λ (x : Expression × (Token × Statement)). (k, x)) e (seq v i) r
      ∙ and_same (e r) (λ c. to (λ (x : Token × Statement). (k, (c, x))) (seq v i)) (λ c r. and_then (v r) (λ u r. and_then (i r) (λ s. pure (k, (c, (u, s))))))
      (λ c r. to_seq (λ (x : Token × Statement). (k, (c, x))) v i r))

  whole_is : (ts : List Token) → to G (seq w (seq e (seq v (seq i t)))) ts ≡ and_then (w ts) (λ k r. and_then (e r) (λ c r. and_then (v r) (λ u r. and_then (i r) (λ s. behind_arm (k, (c, (u, s)))))))
  whole_is ts =
      to_seq G w (seq e (seq v (seq i t))) ts
      ∙ and_same (w ts) (λ k. to (λ (x : Expression × (Token × (Statement × D))). G (k, x)) (seq e (seq v (seq i t)))) (λ k r. and_then (e r) (λ c r. and_then (v r) (λ u r. and_then (i r) (λ s. behind_arm (k, (c, (u, s)))))))
      (λ k r. to_seq (λ (x : Expression × (Token × (Statement × D))). G (k, x)) e (seq v (seq i t)) r
      ∙ and_same (e r) (λ c. to (λ (x : Token × (Statement × D)). G (k, (c, x))) (seq v (seq i t))) (λ c r. and_then (v r) (λ u r. and_then (i r) (λ s. behind_arm (k, (c, (u, s))))))
      (λ c r. to_seq (λ (x : Token × (Statement × D)). G (k, (c, x))) v (seq i t) r
      ∙ and_same (v r) (λ u. to (λ (x : Statement × D). G (k, (c, (u, x)))) (seq i t)) (λ u r. and_then (i r) (λ s. behind_arm (k, (c, (u, s)))))
      (λ u r. to_seq (λ (x : Statement × D). G (k, (c, (u, x)))) i t r)))

  pub arm_first : (ts : List Token) → to G (seq w (seq e (seq v (seq i t)))) ts ≡ and_then (arm_rule e i ts) behind_arm
  arm_first ts =
      whole_is ts
      ∙ sym (ap (λ (o : ParserOutcome ArmTree). and_then o behind_arm) (arm_parts_is ts)
      ∙ then_is (w ts) (λ k r. and_then (e r) (λ c r. and_then (v r) (λ u r. and_then (i r) (λ s. pure (k, (c, (u, s))))))) behind_arm
      ∙ and_same (w ts) (λ k r. and_then (and_then (e r) (λ c r. and_then (v r) (λ u r. and_then (i r) (λ s. pure (k, (c, (u, s))))))) behind_arm) (λ k r. and_then (e r) (λ c r. and_then (v r) (λ u r. and_then (i r) (λ s. behind_arm (k, (c, (u, s)))))))
      (λ k r. then_is (e r) (λ c r. and_then (v r) (λ u r. and_then (i r) (λ s. pure (k, (c, (u, s)))))) behind_arm
      ∙ and_same (e r) (λ c r. and_then (and_then (v r) (λ u r. and_then (i r) (λ s. pure (k, (c, (u, s)))))) behind_arm) (λ c r. and_then (v r) (λ u r. and_then (i r) (λ s. behind_arm (k, (c, (u, s))))))
      (λ c r. then_is (v r) (λ u r. and_then (i r) (λ s. pure (k, (c, (u, s))))) behind_arm
      ∙ and_same (v r) (λ u r. and_then (and_then (i r) (λ s. pure (k, (c, (u, s))))) behind_arm) (λ u r. and_then (i r) (λ s. behind_arm (k, (c, (u, s)))))
      (λ u r. then_is (i r) (λ s. pure (k, (c, (u, s)))) behind_arm))))

-- ---- else parts

module _ (e : Parser Expression) (i : Parser Statement) where
  if_is : (j : ℕ) (ts : List Token) → if_rule (suc j) e i ts ≡ and_then (arm_rule e i ts) (λ y. to (λ o. if_else_of y.0 y.1.0 y.1.1.0 y.1.1.1 o) (else_rule j e i))
  if_is j ts = arm_first (λ x. if_else_of x.0 x.1.0 x.1.1.0 x.1.1.1.0 x.1.1.1.1) e i (else_rule j e i) ts

  module _ (ts : List Token) where
    -- an `if`: its arm, and what stands behind it
    pub if_begins : (m : ℕ) → length ts < m → (y : ArmTree) (r : List Token) → arm_rule e i ts ≡ Read y r → length r < length ts
        → (j : ℕ) × (length r < j) × (if_rule m e i ts ≡ to (λ o. if_else_of y.0 y.1.0 y.1.1.0 y.1.1.1 o) (else_rule j e i) r)
    if_begins zero lt y r h less = absurd (omega (arith, lt))
    if_begins (suc j) lt y r h less = (j, omega (arith, lt, less), if_is j ts ∙ ap (λ (o : ParserOutcome ArmTree). and_then o (λ y. to (λ o. if_else_of y.0 y.1.0 y.1.1.0 y.1.1.1 o) (else_rule j e i))) h)

    pub if_stops : (m : ℕ) → length ts < m → (end : Place) (y : Stop (Refusal ParseKind)) → Fails end y (arm_rule e i ts) → Fails end y (if_rule m e i ts)
    if_stops zero lt end y h = absurd (omega (arith, lt))
    if_stops (suc j) lt end y h = subst (Fails end y) (sym (if_is j ts)) (fails_on end y (arm_rule e i ts) (λ y. to (λ o. if_else_of y.0 y.1.0 y.1.1.0 y.1.1.1 o) (else_rule j e i)) h)

if_else_is : (k : Token) (c : Expression) (u : Token) (s : Statement) (o : Option (Token × Statement)) → if_else_of k c u s o ≡ if_else k c u s (otherwise_of o)
if_else_is k c u s None = refl
if_else_is k c u s (Some x) = refl

others_pushed : (others : List code_else_if.ElseIf) (x : code_else_if.ElseIf) (o : Otherwise)
    → others_of others (Otherwise' x.else_keyword (if_else x.keyword (expression_tree x.condition) x.then_keyword (statement_tree x.then) o)) ≡ others_of (others ++ (x ∷ [])) o
others_pushed [] x o = refl
others_pushed (y ∷ others) x o = ap (λ l. Otherwise' y.else_keyword (if_else y.keyword (expression_tree y.condition) y.then_keyword (statement_tree y.then) l)) (others_pushed others x o)

others_grown : (others new : List code_else_if.ElseIf) (x : code_else_if.ElseIf) → new ≡ others ++ (x ∷ []) → (o : Option (Token × Statement))
    → others_of others (Otherwise' x.else_keyword (if_else_of x.keyword (expression_tree x.condition) x.then_keyword (statement_tree x.then) o)) ≡ others_of new (otherwise_of o)
others_grown others new x e o =
    ap (λ s. others_of others (Otherwise' x.else_keyword s)) (if_else_is x.keyword (expression_tree x.condition) x.then_keyword (statement_tree x.then) o)
    ∙ others_pushed others x (otherwise_of o) ∙ ap (λ xs. others_of xs (otherwise_of o)) (sym e)

abbrev pub others_and : List code_else_if.ElseIf → Option (Token × Statement) → Otherwise
others_and others o = others_of others (otherwise_of o)

module _ (e : Parser Expression) (i : Parser Statement) (whole : ParserOutcome Otherwise) (others : List code_else_if.ElseIf) (rest : List Token) (j : ℕ) (so_far : whole ≡ to (others_and others) (else_rule j e i) rest) where
  abbrev if_or : Parser Statement
  if_or = choose_by (starts (codes "if")) (if_rule j e i) i

  abbrev else_part : Parser (Token × Statement)
  else_part = seq (word_rule (codes "else")) if_or

  pub no_else : when (is_word (codes "else")) (first rest) ≡ false → whole ≡ Read (others_of others NoOtherwise) rest
  no_else c = so_far ∙ held (λ o. o ≡ Read (others_of others NoOtherwise) rest) (others_and others) (else_rule j e i) rest (on_none (starts (codes "else")) else_part (starts_is (codes "else") rest ∙ c) refl)

  module _ (there : when (is_word (codes "else")) (first rest) ≡ true) where
    pub else_stops : (end : Place) (y : Stop (Refusal ParseKind)) → Fails end y (word_rule (codes "else") rest) → Fails end y whole
    else_stops end y h = subst (Fails end y) (sym so_far) (held (Fails end y) (others_and others) (else_rule j e i) rest
        (on_some (starts (codes "else")) else_part (starts_is (codes "else") rest ∙ there) (on_stop (word_rule (codes "else")) if_or end y h)))

    module _ (u : Token) (after : List Token) (read : word_rule (codes "else") rest ≡ Read u after) where
      into : whole ≡ and_then (if_or after) (λ s. pure (others_of others (Otherwise' u s)))
      into = so_far ∙ held (λ o. o ≡ and_then (if_or after) (λ s. pure (others_of others (Otherwise' u s)))) (others_and others) (else_rule j e i) rest
          (on_some (starts (codes "else")) else_part (starts_is (codes "else") rest ∙ there) (on_read (word_rule (codes "else")) if_or read (taken refl)))

      module _ (last : when (is_word (codes "if")) (first after) ≡ false) where
        last_is : whole ≡ and_then (i after) (λ s. pure (others_of others (Otherwise' u s)))
        last_is = into ∙ ap (λ (o : ParserOutcome Statement). and_then o (λ s. pure (others_of others (Otherwise' u s)))) (choose_no (starts (codes "if")) (if_rule j e i) i after (starts_is (codes "if") after ∙ last))

        pub last_stops : (end : Place) (y : Stop (Refusal ParseKind)) → Fails end y (i after) → Fails end y whole
        last_stops end y h = subst (Fails end y) (sym last_is) (fails_on end y (i after) (λ s. pure (others_of others (Otherwise' u s))) h)

        pub last_read : (s : Statement) (z : List Token) → i after ≡ Read s z → whole ≡ Read (others_of others (Otherwise' u s)) z
        last_read s z h = last_is ∙ ap (λ (o : ParserOutcome Statement). and_then o (λ s. pure (others_of others (Otherwise' u s)))) h

      module _ (more : when (is_word (codes "if")) (first after) ≡ true) (short : length after < j) where
        more_is : whole ≡ and_then (if_rule j e i after) (λ s. pure (others_of others (Otherwise' u s)))
        more_is = into ∙ ap (λ (o : ParserOutcome Statement). and_then o (λ s. pure (others_of others (Otherwise' u s)))) (choose_yes (starts (codes "if")) (if_rule j e i) i after (starts_is (codes "if") after ∙ more))

        pub arm_stops : (end : Place) (y : Stop (Refusal ParseKind)) → Fails end y (arm_rule e i after) → Fails end y whole
        arm_stops end y h = subst (Fails end y) (sym more_is) (fails_on end y (if_rule j e i after) (λ s. pure (others_of others (Otherwise' u s))) (if_stops e i after j short end y h))

        pub arm_read : (x : code_else_if.ElseIf) (new : List code_else_if.ElseIf) → x.else_keyword ≡ u → new ≡ others ++ (x ∷ [])
            → (z : List Token) → arm_rule e i after ≡ Read (x.keyword, (expression_tree x.condition, (x.then_keyword, statement_tree x.then))) z → length z < length after
            → (k : ℕ) × (length z < k) × (whole ≡ to (others_and new) (else_rule k e i) z)
        arm_read x new same grown z h less =
            let b = if_begins e i after j short (x.keyword, (expression_tree x.condition, (x.then_keyword, statement_tree x.then))) z h less in
            let tree = λ (o : Option (Token × Statement)). if_else_of x.keyword (expression_tree x.condition) x.then_keyword (statement_tree x.then) o in (
              b.0,
              b.1,
              more_is ∙ ap (λ (o : ParserOutcome Statement). and_then o (λ s. pure (others_of others (Otherwise' u s)))) b.2
                  ∙ both (else_rule b.0 e i z) tree (λ s. others_of others (Otherwise' u s))
                  ∙ ap (λ (f : Option (Token × Statement) → Otherwise). to f (else_rule b.0 e i) z)
                  (λ i o. (ap (λ v. others_of others (Otherwise' v (tree o))) (sym same) ∙ others_grown others new x grown o) i),
            )

-- ---- `when` parts

pub whens_grown : (found new : List code_when.When) (w : code_when.When) (x : WhenTree) → new ≡ found ++ (w ∷ []) → listed_whens (x ∷ []) ≡ whens_of (w ∷ []) → (l : List WhenTree) → and_whens (whens_of found) (x ∷ l) ≡ and_whens (whens_of new) l
whens_grown found new w x e same l = pushed found ∙ sym (ap (λ ws. and_whens (whens_of ws) l) e)
  where
    pushed : (found : List code_when.When) → and_whens (whens_of found) (x ∷ l) ≡ and_whens (whens_of (found ++ (w ∷ []))) l
    pushed [] = ap (λ ws. and_whens ws l) same
    pushed (v ∷ found) = ap (λ rest. When v.keyword v.opening (arguments_of v.values) v.closing (statement_tree v.statement) rest) (pushed found)

pub whens_all : (ws : Whens) → and_whens ws [] ≡ ws
whens_all NoWhen = refl
whens_all (When k p xs q s rest) = ap (λ rest. When k p xs q s rest) (whens_all rest)

-- ---- what a function of a part says of the part

abbrev IsUnread : {A : Type 0} → ParserOutcome A → Type 0
IsUnread (Read x r) = ⊥
IsUnread _ = Unit {0}

abbrev left_of : {A : Type 0} → List Token → ParserOutcome A → List Token
left_of d (Read x r) = r
left_of d _ = d

abbrev tree_of : {A : Type 0} → A → ParserOutcome A → A
tree_of d (Read x r) = x
tree_of d _ = d

was : {A B : Type 0} (f : A → B) (o : ParserOutcome A) (y : B) (r : List Token) → and_then o (λ a. pure (f a)) ≡ Read y r → (x : A) × (o ≡ Read x r) × (f x ≡ y)
was f (Read x z) y r h = (x, ap (λ r. Read x r) (ap (left_of r) h), ap (tree_of (f x)) h)
was {A} {B} f (Unexpected z) y r h = absurd (subst (IsUnread {A = B}) h tt)
was {A} {B} f (TooDeep z) y r h = absurd (subst (IsUnread {A = B}) h tt)
was {A} {B} f Spent y r h = absurd (subst (IsUnread {A = B}) h tt)

-- a part that was read under a function was read
pub was_read : {A B : Type 0} (f : A → B) (p : Parser A) (ts : List Token) (y : B) (r : List Token) → to f p ts ≡ Read y r → (x : A) × (p ts ≡ Read x r) × (f x ≡ y)
was_read f p ts y r h = was f (p ts) y r h

refused_back : {A B : Type 0} (f : A → B) (end : Place) (why : ParseKind) (place : Place) (o : ParserOutcome A) → IsRefusedAs end why place (and_then o (λ a. pure (f a))) → IsRefusedAs end why place o
refused_back f end kind.Unexpected place (Read x r) h = h
refused_back f end kind.Unexpected place (Unexpected r) h = h
refused_back f end kind.Unexpected place (TooDeep r) h = h
refused_back f end kind.Unexpected place Spent h = h
refused_back f end kind.TooDeep place (Read x r) h = h
refused_back f end kind.TooDeep place (Unexpected r) h = h
refused_back f end kind.TooDeep place (TooDeep r) h = h
refused_back f end kind.TooDeep place Spent h = h

-- a part that was refused under a function was refused
pub stopped_under : {A B : Type 0} (f : A → B) (p : Parser A) (ts : List Token) (end : Place) (y : Stop (Refusal ParseKind)) → Fails end y (to f p ts) → Fails end y (p ts)
stopped_under f p ts end (stop.Refused refusal) h = refused_back f end refusal.kind refusal.place (p ts) h
stopped_under f p ts end stop.OutOfMemory h = tt

-- ---- which statement

module _ (m : ℕ) (e : Parser Expression) (args : Parser ArgumentList) (i : Parser Statement) (ts : List Token) where
  abbrev name_part : Parser (Token × NamedTail)
  name_part = seq (kept is_name_token) (named_tail e args)

  abbrev null_part : Parser (Token × Ended)
  null_part = seq (word_rule (codes "null")) (seq args (mark_rule (codes ";")))

  abbrev c5 : Parser (Either Plain Last7)
  c5 = choose_by (starts (codes "continue")) (to One (plain_rule (codes "continue"))) (to Two (last7_rule m e i))

  abbrev c4 : Parser (Either Plain (Either Plain Last7))
  c4 = choose_by (starts (codes "leave")) (to One (plain_rule (codes "leave"))) (to Two c5)

  abbrev c3 : Parser (Either (Token × Ended) (Either Plain (Either Plain Last7)))
  c3 = choose_by (starts (codes "null")) (to One null_part) (to Two c4)

  abbrev c2 : Parser (Either (Token × NamedTail) (Either (Token × Ended) (Either Plain (Either Plain Last7))))
  c2 = choose_by is_name_token (to One name_part) (to Two c3)

  abbrev c1 : Parser StatementTree
  c1 = choose_by is_semicolon_mark (to One (mark_rule (codes ";"))) (to Two c2)

  pub with_semicolon : (p : Place) (r : List Token) → mark_rule (codes ";") ts ≡ Read p r → statement_with m e args i ts ≡ Read (Empty p) r
  with_semicolon p r h = held (λ o. o ≡ Read (Empty p) r) statement_of_kind c1 ts (on_yes is_semicolon_mark One (mark_rule (codes ";")) Two c2 (semicolon_is ts ∙ mark_was (codes ";") ts p r h) (on_last h refl))

  module _ (no_semicolon : when (is_mark (codes ";")) (first ts) ≡ false) where
    past : (P : ParserOutcome Statement → Type 0) → Holds P (λ x. statement_of_kind (Two x)) c2 ts → P (statement_with m e args i ts)
    past P h = held P statement_of_kind c1 ts (on_no is_semicolon_mark One (mark_rule (codes ";")) Two c2 (semicolon_is ts ∙ no_semicolon) h)

    pub with_name : (t : Token) (r : List Token) → Fronted is_name_token ts t r → (u : Token) → u ≡ t → statement_with m e args i ts ≡ to (named_statement u) (named_tail e args) r
    with_name t r there u same = past (λ o. o ≡ to (named_statement u) (named_tail e args) r)
        (on_yes is_name_token One name_part Two c3 (fronted_when is_name_token ts t r there) (on_read (kept is_name_token) (named_tail e args) (kept_read is_name_token ts t r there u same) (taken refl)))

    module _ (no_name : when is_name_token (first ts) ≡ false) where
      pub with_null : when (is_word (codes "null")) (first ts) ≡ true → statement_with m e args i ts ≡ to (λ x. Call (callee.Null x.0) x.1.0.0 x.1.0.1.0 x.1.0.1.1 x.1.1) null_part ts
      with_null c = past (λ o. o ≡ to (λ x. Call (callee.Null x.0) x.1.0.0 x.1.0.1.0 x.1.0.1.1 x.1.1) null_part ts)
          (on_no is_name_token One name_part Two c3 no_name (on_yes (starts (codes "null")) One null_part Two c4 (starts_is (codes "null") ts ∙ c) (taken refl)))

      module _ (no_null : when (is_word (codes "null")) (first ts) ≡ false) where
        pub with_leave : when (is_word (codes "leave")) (first ts) ≡ true → statement_with m e args i ts ≡ to (λ x. Leave x.0 x.1) (plain_rule (codes "leave")) ts
        with_leave c = past (λ o. o ≡ to (λ x. Leave x.0 x.1) (plain_rule (codes "leave")) ts)
            (on_no is_name_token One name_part Two c3 no_name (on_no (starts (codes "null")) One null_part Two c4 (starts_is (codes "null") ts ∙ no_null)
            (on_yes (starts (codes "leave")) One (plain_rule (codes "leave")) Two c5 (starts_is (codes "leave") ts ∙ c) (taken refl))))

        module _ (no_leave : when (is_word (codes "leave")) (first ts) ≡ false) where
          pub with_continue : when (is_word (codes "continue")) (first ts) ≡ true → statement_with m e args i ts ≡ to (λ x. Continue x.0 x.1) (plain_rule (codes "continue")) ts
          with_continue c = past (λ o. o ≡ to (λ x. Continue x.0 x.1) (plain_rule (codes "continue")) ts)
              (on_no is_name_token One name_part Two c3 no_name (on_no (starts (codes "null")) One null_part Two c4 (starts_is (codes "null") ts ∙ no_null)
              (on_no (starts (codes "leave")) One (plain_rule (codes "leave")) Two c5 (starts_is (codes "leave") ts ∙ no_leave)
              (on_yes (starts (codes "continue")) One (plain_rule (codes "continue")) Two (last7_rule m e i) (starts_is (codes "continue") ts ∙ c) (taken refl)))))

          pub with_later : when (is_word (codes "continue")) (first ts) ≡ false → statement_with m e args i ts ≡ to later_statement (last7_rule m e i) ts
          with_later c = past (λ o. o ≡ to later_statement (last7_rule m e i) ts)
              (on_no is_name_token One name_part Two c3 no_name (on_no (starts (codes "null")) One null_part Two c4 (starts_is (codes "null") ts ∙ no_null)
              (on_no (starts (codes "leave")) One (plain_rule (codes "leave")) Two c5 (starts_is (codes "leave") ts ∙ no_leave)
              (on_no (starts (codes "continue")) One (plain_rule (codes "continue")) Two (last7_rule m e i) (starts_is (codes "continue") ts ∙ c) (taken refl)))))

module _ (m : ℕ) (e : Parser Expression) (i : Parser Statement) (ts : List Token) where
  abbrev return_part : Parser (Token × (Option Expression × Place))
  return_part = seq (word_rule (codes "return")) (seq (optional begins_expression e) (mark_rule (codes ";")))

  abbrev output_part : Parser (Token × (List Token × Place))
  output_part = seq (word_rule (codes "output")) (seq (many_of m is_table (kept is_table)) (mark_rule (codes ";")))

  abbrev put_part : Parser (Token × (List PutItem × Place))
  put_part = seq (word_rule (codes "put")) (seq (many_of m begins_item item_rule) (mark_rule (codes ";")))

  abbrev k2 : Parser (Either SelectTree DoTree)
  k2 = choose_by (starts (codes "select")) (to One (select_rule m e i)) (to Two (do_rule m e i))

  abbrev l3 : Parser (Either (Token × (List PutItem × Place)) Last4)
  l3 = choose_by (starts (codes "put")) (to One put_part) (to Two (last4_rule m e i))

  abbrev l2 : Parser (Either (Token × (List Token × Place)) (Either (Token × (List PutItem × Place)) Last4))
  l2 = choose_by (starts (codes "output")) (to One output_part) (to Two l3)

  pub with_return : when (is_word (codes "return")) (first ts) ≡ true → to later_statement (last7_rule m e i) ts ≡ to (λ x. Return x.0 x.1.0 x.1.1) return_part ts
  with_return c = held (λ o. o ≡ to (λ x. Return x.0 x.1.0 x.1.1) return_part ts) later_statement (last7_rule m e i) ts (on_yes (starts (codes "return")) One return_part Two l2 (starts_is (codes "return") ts ∙ c) (taken refl))

  module _ (no_return : when (is_word (codes "return")) (first ts) ≡ false) where
    pub with_output : when (is_word (codes "output")) (first ts) ≡ true → to later_statement (last7_rule m e i) ts ≡ to (λ x. Output x.0 x.1.0 x.1.1) output_part ts
    with_output c = held (λ o. o ≡ to (λ x. Output x.0 x.1.0 x.1.1) output_part ts) later_statement (last7_rule m e i) ts
        (on_no (starts (codes "return")) One return_part Two l2 (starts_is (codes "return") ts ∙ no_return) (on_yes (starts (codes "output")) One output_part Two l3 (starts_is (codes "output") ts ∙ c) (taken refl)))

    module _ (no_output : when (is_word (codes "output")) (first ts) ≡ false) where
      pub with_put : when (is_word (codes "put")) (first ts) ≡ true → to later_statement (last7_rule m e i) ts ≡ to (λ x. Put x.0 x.1.0 x.1.1) put_part ts
      with_put c = held (λ o. o ≡ to (λ x. Put x.0 x.1.0 x.1.1) put_part ts) later_statement (last7_rule m e i) ts
          (on_no (starts (codes "return")) One return_part Two l2 (starts_is (codes "return") ts ∙ no_return) (on_no (starts (codes "output")) One output_part Two l3 (starts_is (codes "output") ts ∙ no_output)
          (on_yes (starts (codes "put")) One put_part Two (last4_rule m e i) (starts_is (codes "put") ts ∙ c) (taken refl))))

      module _ (no_put : when (is_word (codes "put")) (first ts) ≡ false) where
        last_four : (P : ParserOutcome Statement → Type 0) → Holds P (λ x. later_statement (Two (Two (Two x)))) (last4_rule m e i) ts → P (to later_statement (last7_rule m e i) ts)
        last_four P h = held P later_statement (last7_rule m e i) ts
            (on_no (starts (codes "return")) One return_part Two l2 (starts_is (codes "return") ts ∙ no_return) (on_no (starts (codes "output")) One output_part Two l3 (starts_is (codes "output") ts ∙ no_output)
            (on_no (starts (codes "put")) One put_part Two (last4_rule m e i) (starts_is (codes "put") ts ∙ no_put) h)))

        pub with_if : when (is_word (codes "if")) (first ts) ≡ true → to later_statement (last7_rule m e i) ts ≡ if_rule m e i ts
        with_if c = last_four (λ o. o ≡ if_rule m e i ts) (on_yes (starts (codes "if")) One (if_rule m e i) Two k2 (starts_is (codes "if") ts ∙ c) (taken (plain_outcome (if_rule m e i ts))))

        module _ (no_if : when (is_word (codes "if")) (first ts) ≡ false) where
          pub with_select : when (is_word (codes "select")) (first ts) ≡ true → to later_statement (last7_rule m e i) ts ≡ to selection_of (select_rule m e i) ts
          with_select c = last_four (λ o. o ≡ to selection_of (select_rule m e i) ts)
              (on_no (starts (codes "if")) One (if_rule m e i) Two k2 (starts_is (codes "if") ts ∙ no_if) (on_yes (starts (codes "select")) One (select_rule m e i) Two (do_rule m e i) (starts_is (codes "select") ts ∙ c) (taken refl)))

          pub with_do : when (is_word (codes "select")) (first ts) ≡ false → to later_statement (last7_rule m e i) ts ≡ to do_of (do_rule m e i) ts
          with_do c = last_four (λ o. o ≡ to do_of (do_rule m e i) ts)
              (on_no (starts (codes "if")) One (if_rule m e i) Two k2 (starts_is (codes "if") ts ∙ no_if) (on_no (starts (codes "select")) One (select_rule m e i) Two (do_rule m e i) (starts_is (codes "select") ts ∙ c) (taken refl)))

-- ---- an `if` with what stands behind its arm

module _ (k : Token) (c : Expression) (u : Token) (s : Statement) (p : Parser (Option (Token × Statement))) (r : List Token) (whole : ParserOutcome Statement) (is : whole ≡ to (λ o. if_else_of k c u s o) p r) where
  pub conditional_stops : (end : Place) (y : Stop (Refusal ParseKind)) → Fails end y (to otherwise_of p r) → Fails end y whole
  conditional_stops end y h = subst (Fails end y) (sym is) (fails_on end y (p r) (λ o. pure (if_else_of k c u s o)) (stopped_under otherwise_of p r end y h))

  pub conditional_read : (o : Otherwise) (z : List Token) → to otherwise_of p r ≡ Read o z → whole ≡ Read (if_else k c u s o) z
  conditional_read o z h =
      let w = was_read otherwise_of p r o z h in
      is ∙ ap (λ (q : ParserOutcome (Option (Token × Statement))). and_then q (λ o. pure (if_else_of k c u s o))) w.1
      ∙ ap (λ t. Read t z) (if_else_is k c u s w.0 ∙ ap (λ l. if_else k c u s l) w.2)
