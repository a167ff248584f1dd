-- What is misplaced in statements whose parts stand in a list.
use Rattle.std.proofs.Common.{◌≡◌, Bool, true, false, ◌||◌, List, [], ◌∷◌, ◌++◌, Option, Some, None, refl, sym, ap, ◌∙◌}
use Rattle.std.specs.declared.boxed.Box.{Box}
use Rattle.std.specs.declared.alloc.Global.{Global}
use Rattle.ds2_base.specs.declared.place.Place.{Place}
use Rattle.ds2_token.specs.declared.token.Token.{Token}
use Rattle.ds2_tree.specs.declared.expressions.Expression as code_expression
use Rattle.ds2_tree.specs.declared.statements.ElseIf as code_else_if
use Rattle.ds2_tree.specs.declared.statements.When as code_when
use Rattle.ds2_tree.specs.declared.statements.Otherwise as code_otherwise
use Rattle.ds2_tree.specs.declared.statements.Selector as code_selector
use Rattle.ds2_tree.specs.declared.statements.DoControl as code_control
use Rattle.ds2_tree.specs.declared.statements.DoControl.TheVariants as control
use Rattle.ds2_tree.specs.declared.statements.Statement as code
use Rattle.ds2_tree.specs.declared.statements.Statement.TheVariants as statement
use Rattle.ds2_tree.specs.Expressions.{Expression}
use Rattle.ds2_tree.specs.ExpressionViews.{expression_tree, arguments_of}
use Rattle.ds2_tree.specs.Statements.{Statement, Otherwise, NoOtherwise, Otherwise', Do}
use Rattle.ds2_tree.specs.StatementViews.{control_tree, if_else, statement_tree, statements_of, others_of, whens_of, otherwise_tree}
use Rattle.ds2_names.specs.NameRules.{from_each}
use Rattle.ds2_scope.specs.Earliest.{earlier_of, earliest}
use Rattle.ds2_misplaced.specs.declared.output_rule.OutputRule.{OutputRule}
use Rattle.ds2_misplaced.specs.MisplacedParts.{is_loop, misplaced_within, misplaced_within_all, misplaced_within_whens, misplaced_within_otherwise, misplaced_within_else_if}
use Rattle.ds2_scope.proofs.EarliestLemmas.{none_right, earlier_of_assoc, earliest_append}
use Rattle.ds2_scope.proofs.StatementRows.{if_tree_is, select_tree, do_tree}

module _ (rule : OutputRule) (returns inside : Bool) where
  in_if_else : (k : Token) (e : Expression) (t : Token) (s : Statement) (o : Otherwise)
      → earliest (misplaced_within rule returns inside (if_else k e t s o))
      ≡ earlier_of (earliest (misplaced_within rule returns inside s)) (earliest (misplaced_within_otherwise rule returns inside o))
  in_if_else k e t s NoOtherwise = sym (none_right (earliest (misplaced_within rule returns inside s)))
  in_if_else k e t s (Otherwise' w o) = earliest_append (misplaced_within rule returns inside s) (misplaced_within rule returns inside o)

  in_others : (xs : List code_else_if.ElseIf) (o : Otherwise)
      → earliest (misplaced_within_otherwise rule returns inside (others_of xs o))
      ≡ earlier_of (earliest (from_each (misplaced_within_else_if rule returns inside) xs)) (earliest (misplaced_within_otherwise rule returns inside o))
  in_others [] o = refl
  in_others (x ∷ xs) o =
      let here = misplaced_within_else_if rule returns inside x in
      let rest = from_each (misplaced_within_else_if rule returns inside) xs in
      in_if_else x.keyword (expression_tree x.condition) x.then_keyword (statement_tree x.then) (others_of xs o)
      ∙ ap (earlier_of (earliest here)) (in_others xs o)
      ∙ sym (earlier_of_assoc (earliest here) (earliest rest) (earliest (misplaced_within_otherwise rule returns inside o)))
      ∙ ap (λ y. earlier_of y (earliest (misplaced_within_otherwise rule returns inside o))) (sym (earliest_append here rest))

  pub misplaced_if : (x : code.Statement) (k : Token) (e : code_expression.Expression) (t : Token) (s : Box code.Statement Global) (others : List code_else_if.ElseIf) (o : Option code_otherwise.Otherwise)
      → x ≡ statement.If k e t s others o
      → earliest (misplaced_within rule returns inside (statement_tree x))
      ≡ earlier_of (earliest (misplaced_within rule returns inside (statement_tree s.value)))
      (earlier_of (earliest (from_each (misplaced_within_else_if rule returns inside) others)) (earliest (misplaced_within_otherwise rule returns inside (otherwise_tree o))))
  misplaced_if x k e t s others o h =
      ap (λ y. earliest (misplaced_within rule returns inside (statement_tree y))) h
      ∙ ap (λ y. earliest (misplaced_within rule returns inside y)) (if_tree_is k e t s others o)
      ∙ in_if_else k (expression_tree e) t (statement_tree s.value) (others_of others (otherwise_tree o))
      ∙ ap (earlier_of (earliest (misplaced_within rule returns inside (statement_tree s.value)))) (in_others others (otherwise_tree o))

  pub misplaced_select : (x : code.Statement) (k : Token) (s : Option code_selector.Selector) (p : Place) (ws : List code_when.When) (o : Option code_otherwise.Otherwise) (e : Token) (end : Place)
      → x ≡ statement.Select k s p ws o e end
      → earliest (misplaced_within rule returns inside (statement_tree x))
      ≡ earlier_of (earliest (misplaced_within_whens rule returns inside (whens_of ws))) (earliest (misplaced_within_otherwise rule returns inside (otherwise_tree o)))
  misplaced_select x k s p ws o e end h =
      ap (λ y. earliest (misplaced_within rule returns inside (statement_tree y))) h
      ∙ ap (λ y. earliest (misplaced_within rule returns inside y)) (select_tree k s p ws o e end)
      ∙ earliest_append (misplaced_within_whens rule returns inside (whens_of ws)) (misplaced_within_otherwise rule returns inside (otherwise_tree o))

  pub misplaced_do : (x : code.Statement) (k : Token) (c : code_control.DoControl) (p : Place) (ss : List code.Statement) (e : Token) (end : Place)
      → x ≡ statement.Do k c p ss e end
      → misplaced_within rule returns inside (statement_tree x) ≡ misplaced_within_all rule returns (inside || is_loop c) (statements_of ss)
  misplaced_do x k c p ss e end h =
      ap (λ y. misplaced_within rule returns inside (statement_tree y)) h
      ∙ ap (λ y. misplaced_within rule returns inside y) (do_tree k c p ss e end)
      ∙ by c inside
    where
      body : Bool → List Place
      body loop = misplaced_within_all rule returns loop (statements_of ss)

      both : (t : Bool) → body t ≡ body (t || false)
      both true = refl
      both false = refl

      loops : (t : Bool) → body true ≡ body (t || true)
      loops true = refl
      loops false = refl

      by : (c : code_control.DoControl) (t : Bool) → misplaced_within rule returns t (Do k (control_tree c) p (statements_of ss) e end) ≡ body (t || is_loop c)
      by control.Block t = both t
      by (control.Counted count) t = loops t
      by (control.Tested test) t = loops t
