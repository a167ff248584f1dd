-- Statements whose parts stand in lists: whether they surely return.
use Rattle.std.proofs.Common.{◌≡◌, ℕ, zero, suc, ◌+◌, ◌-◌, ◌<◌, ◌≤◌, Bool, true, false, ◌&&◌, List, [], ◌∷◌, length, get_or, drop, Option, Some, None, refl, sym, ap, ◌∙◌, arith}
use Rattle.std.specs.Option.{option_map}
use Rattle.std.proofs.lemmas.List.{at_drop_more, at_drop_all}
use Rattle.std.specs.declared.boxed.Box.{Box}
use Rattle.std.specs.declared.alloc.Global.{Global}
use Rattle.ds2_base.specs.declared.place.Place.{Place}
use Rattle.ds2_token.specs.declared.token.Token.{Token}
use Rattle.ds2_tree.specs.ExpressionViews.{expression_tree}
use Rattle.ds2_tree.specs.Expressions.{Expression}
use Rattle.ds2_tree.specs.StatementViews.{selector_tree, control_tree, if_else, statement_tree, statements_of, others_of, whens_of, otherwise_tree}
use Rattle.ds2_tree.specs.Statements as s
use Rattle.ds2_tree.specs.declared.expressions.Expression as code_expression
use Rattle.ds2_tree.specs.declared.statements.CountedControl as code_counted
use Rattle.ds2_tree.specs.declared.statements.DoControl as code_control
use Rattle.ds2_tree.specs.declared.statements.DoControl.TheVariants as control
use Rattle.ds2_tree.specs.declared.statements.ElseIf as code_else_if
use Rattle.ds2_tree.specs.declared.statements.Otherwise as code_otherwise
use Rattle.ds2_tree.specs.declared.statements.Selector as code_selector
use Rattle.ds2_tree.specs.declared.statements.Statement as code
use Rattle.ds2_tree.specs.declared.statements.Statement.TheVariants as statement
use Rattle.ds2_tree.specs.declared.statements.TestedControl as code_tested
use Rattle.ds2_tree.specs.declared.statements.When as code_when
use Rattle.ds2_elaboration.specs.StatementTypes.{surely_returns, list_surely_returns, whens_surely_return, otherwise_surely_returns}
use Rattle.ds2_scope.proofs.StatementRows.{if_tree_is, select_tree, do_tree}
use Rattle.ds2_statement_types.specs.Returning.{chained_return}

and_none : (a : Bool) → (a && false) ≡ false
and_none true = refl
and_none false = refl

and_assoc : (a b c : Bool) → ((a && b) && c) ≡ (a && (b && c))
and_assoc true b c = refl
and_assoc false b c = refl

and_all : (a : Bool) → (a && true) ≡ a
and_all true = refl
and_all false = refl

-- ---- an `if`

if_else_returns : (k : Token) (e : Expression) (w : Token) (x : s.Statement) (o : s.Otherwise) → surely_returns (if_else k e w x o) ≡ (surely_returns x && otherwise_surely_returns o)
if_else_returns k e w x s.NoOtherwise = sym (and_none (surely_returns x))
if_else_returns k e w x (s.Otherwise' v o) = refl

others_surely : (xs : List code_else_if.ElseIf) (o : s.Otherwise) → otherwise_surely_returns (others_of xs o) ≡ (chained_return xs && otherwise_surely_returns o)
others_surely [] o = refl
others_surely (x ∷ xs) o =
    if_else_returns x.keyword (expression_tree x.condition) x.then_keyword (statement_tree x.then) (others_of xs o)
    ∙ ap (λ (b : Bool). surely_returns (statement_tree x.then) && b) (others_surely xs o)
    ∙ sym (and_assoc (surely_returns (statement_tree x.then)) (chained_return xs) (otherwise_surely_returns o))

pub if_returns : (x : code.Statement) (k : Token) (e : code_expression.Expression) (w : Token) (on : Box code.Statement Global) (others : List code_else_if.ElseIf)
    (o : Option code_otherwise.Otherwise) → x ≡ statement.If k e w on others o
    → surely_returns (statement_tree x) ≡ (surely_returns (statement_tree on.value) && (chained_return others && otherwise_surely_returns (otherwise_tree o)))
if_returns x k e w on others o h =
    ap (λ (y : code.Statement). surely_returns (statement_tree y)) h ∙ ap surely_returns (if_tree_is k e w on others o)
    ∙ if_else_returns k (expression_tree e) w (statement_tree on.value) (others_of others (otherwise_tree o))
    ∙ ap (λ (b : Bool). surely_returns (statement_tree on.value) && b) (others_surely others (otherwise_tree o))

-- ---- a `select`, a block and a loop

pub select_returns : (x : code.Statement) (k : Token) (v : Option code_selector.Selector) (p : Place) (ws : List code_when.When) (o : Option code_otherwise.Otherwise) (e : Token)
    (end : Place) → x ≡ statement.Select k v p ws o e end
    → surely_returns (statement_tree x) ≡ (whens_surely_return (whens_of ws) && otherwise_surely_returns (otherwise_tree o))
select_returns x k v p ws o e end h = ap (λ (y : code.Statement). surely_returns (statement_tree y)) h ∙ ap surely_returns (select_tree k v p ws o e end)

do_told : (x : code.Statement) (k : Token) (c : code_control.DoControl) (p : Place) (ss : List code.Statement) (e : Token) (end : Place) → x ≡ statement.Do k c p ss e end
    → surely_returns (statement_tree x) ≡ surely_returns (s.Do k (control_tree c) p (statements_of ss) e end)
do_told x k c p ss e end h = ap (λ (y : code.Statement). surely_returns (statement_tree y)) h ∙ ap surely_returns (do_tree k c p ss e end)

module _ (x : code.Statement) (k : Token) (c : code_control.DoControl) (p : Place) (ss : List code.Statement) (e : Token) (end : Place) (h : x ≡ statement.Do k c p ss e end) where
  pub block_returns : c ≡ control.Block → surely_returns (statement_tree x) ≡ list_surely_returns (statements_of ss)
  block_returns i =
      do_told x k c p ss e end h ∙ ap (λ (d : code_control.DoControl). surely_returns (s.Do k (control_tree d) p (statements_of ss) e end)) i

  pub count_returns : (held : Box code_counted.CountedControl Global) → c ≡ control.Counted held → surely_returns (statement_tree x) ≡ false
  count_returns held i =
      do_told x k c p ss e end h ∙ ap (λ (d : code_control.DoControl). surely_returns (s.Do k (control_tree d) p (statements_of ss) e end)) i

  pub test_returns : (held : Box code_tested.TestedControl Global) → c ≡ control.Tested held → surely_returns (statement_tree x) ≡ false
  test_returns held i =
      do_told x k c p ss e end h ∙ ap (λ (d : code_control.DoControl). surely_returns (s.Do k (control_tree d) p (statements_of ss) e end)) i

-- ---- lists

-- one part more
pub one_other : (xs : List code_else_if.ElseIf) (i : ℕ) (x : code_else_if.ElseIf) (all one : Bool) → i < length xs → x ≡ get_or xs i x → one ≡ surely_returns (statement_tree x.then)
    → ((all && one) && chained_return (drop (i + 1) xs)) ≡ (all && chained_return (drop i xs))
one_other xs i x all one l at e =
    and_assoc all one (chained_return (drop (i + 1) xs))
    ∙ ap (λ (b : Bool). all && (b && chained_return (drop (i + 1) xs))) e
    ∙ ap (λ (b : Bool). all && b)
    (sym (at_drop_more chained_return xs i x l ∙ ap (λ (y : code_else_if.ElseIf). surely_returns (statement_tree y.then) && chained_return (drop (i + 1) xs)) (sym at)))

pub no_other_left : (xs : List code_else_if.ElseIf) (i : ℕ) (all : Bool) → length xs ≤ i → (all && chained_return (drop i xs)) ≡ all
no_other_left xs i all l = ap (λ (b : Bool). all && b) (at_drop_all chained_return xs i l) ∙ and_all all

-- each `when` part of a list
abbrev pub parts_return : List code_when.When → Bool
parts_return ws = whens_surely_return (whens_of ws)

pub one_when_returns : (ws : List code_when.When) (i : ℕ) (w : code_when.When) (all one : Bool) → i < length ws → w ≡ get_or ws i w
    → one ≡ surely_returns (statement_tree w.statement) → ((all && one) && parts_return (drop (i + 1) ws)) ≡ (all && parts_return (drop i ws))
one_when_returns ws i w all one l at e =
    and_assoc all one (parts_return (drop (i + 1) ws))
    ∙ ap (λ (b : Bool). all && (b && parts_return (drop (i + 1) ws))) e
    ∙ ap (λ (b : Bool). all && b)
    (sym (at_drop_more parts_return ws i w l ∙ ap (λ (y : code_when.When). surely_returns (statement_tree y.statement) && parts_return (drop (i + 1) ws)) (sym at)))

pub no_when_to_return : (ws : List code_when.When) (i : ℕ) (all : Bool) → length ws ≤ i → (all && parts_return (drop i ws)) ≡ all
no_when_to_return ws i all l = ap (λ (b : Bool). all && b) (at_drop_all parts_return ws i l) ∙ and_all all

-- ---- the last statement of a list

last_at : (body : List code.Statement) (k : ℕ) (x : code.Statement) → length body ≡ k + 1 → x ≡ get_or body k x
    → surely_returns (statement_tree x) ≡ list_surely_returns (statements_of body)
last_at [] k x l e = absurd (omega (arith, l))
last_at (y ∷ []) zero x l e = ap (λ (z : code.Statement). surely_returns (statement_tree z)) e
last_at (y ∷ []) (suc k) x l e = absurd (omega (arith, l))
last_at (y ∷ z ∷ rest) zero x l e = absurd (omega (arith, l))
last_at (y ∷ z ∷ rest) (suc k) x l e = last_at (z ∷ rest) k x (omega (arith, l)) e

-- it tells whether the list surely returns
pub last_tells : (body : List code.Statement) (x : code.Statement) → 0 < length body → x ≡ get_or body (length body - 1) x
    → surely_returns (statement_tree x) ≡ list_surely_returns (statements_of body)
last_tells body x l e = last_at body (length body - 1) x (omega (arith, l)) e
