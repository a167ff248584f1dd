-- Statements that surely return become statements that surely return.
use Rattle.std.proofs.Common.{◌≡◌, Bool, true, Option, Some, None}
use Rattle.std.proofs.lemmas.Bool.{and_parts}
use Rattle.ds2_base.specs.declared.place.Place.{Place}
use Rattle.ds2_tree.specs.Expressions.{Expression}
use Rattle.ds2_tree.specs.Statements as s
use Rattle.ds2_value.specs.declared.ty.Ty.{Ty}
use Rattle.ds2_meaning.specs.IsTyped.{SurelyReturns, ListSurelyReturns, WhensSurelyReturn}
use Rattle.ds2_meaning.specs.TypedStatement.{TypedWhens}
use Rattle.ds2_elaboration.specs.ElaborationLaws.{ReturningIsKept}
use Rattle.ds2_elaboration.specs.ExpressionTypes.{TypeScope}
use Rattle.ds2_elaboration.specs.StatementTypes.{surely_returns, list_surely_returns, whens_surely_return, otherwise_surely_returns, return_node, select_node, statement_node, statements_node, whens_node, otherwise_node}

module _ (scope : TypeScope) where
  return_returns : (place : Place) (returns : Option Ty) (value : Option Expression) → SurelyReturns (return_node scope place returns value)
  return_returns place returns None = tt
  return_returns place None (Some e) = tt
  return_returns place (Some ty) (Some e) = tt

  select_returns : (place : Place) (decimals : Bool) (selector : Option s.Selector) (whens : TypedWhens) → WhensSurelyReturn whens
      → SurelyReturns (select_node scope place decimals selector whens)
  select_returns place decimals None whens h = h
  select_returns place decimals (Some selector) whens h = h

  mutual
    returns_kept : (x : s.Statement) → surely_returns x ≡ true → SurelyReturns (statement_node scope x)
    returns_kept (s.Empty end) h = cc
    returns_kept (s.Assignment target equals value end) h = cc
    returns_kept (s.Call f opening arguments closing end) h = cc
    returns_kept (s.Leave keyword end) h = cc
    returns_kept (s.Continue keyword end) h = cc
    returns_kept (s.Return keyword value end) h = return_returns keyword.place scope.returns value
    returns_kept (s.Output keyword tables end) h = cc
    returns_kept (s.Put keyword items end) h = cc
    returns_kept (s.If keyword condition then_keyword then_part) h = cc
    returns_kept (s.IfElse keyword condition then_keyword then_part else_keyword else_part) h =
        let p = and_parts (surely_returns then_part) (surely_returns else_part) h in (returns_kept then_part p.0, returns_kept else_part p.1)
    returns_kept (s.Select keyword selector semicolon whens otherwise end_keyword end) h =
        let p = and_parts (whens_surely_return whens) (otherwise_surely_returns otherwise) h in
        select_returns keyword.place _ selector _ (whens_kept _ whens (otherwise_node scope otherwise) p.0 (otherwise_kept otherwise p.1))
    returns_kept (s.Do keyword s.Block semicolon body end_keyword end) h = list_kept body h
    returns_kept (s.Do keyword (s.Counted variable equals start to stop step) semicolon body end_keyword end) h = cc
    returns_kept (s.Do keyword (s.Tested word opening condition closing) semicolon body end_keyword end) h = cc

    pub list_kept : (body : s.Statements) → list_surely_returns body ≡ true → ListSurelyReturns (statements_node scope body)
    list_kept s.NoStatement h = cc
    list_kept (s.Then first s.NoStatement) h = returns_kept first h
    list_kept (s.Then first (s.Then second rest)) h = list_kept (s.Then second rest) h

    whens_kept : (decimals : Bool) (whens : s.Whens) (last : TypedWhens) → whens_surely_return whens ≡ true → WhensSurelyReturn last
        → WhensSurelyReturn (whens_node scope decimals whens last)
    whens_kept decimals s.NoWhen last h l = l
    whens_kept decimals (s.When keyword opening values closing statement rest) last h l =
        let p = and_parts (surely_returns statement) (whens_surely_return rest) h in (returns_kept statement p.0, whens_kept decimals rest last p.1 l)

    otherwise_kept : (otherwise : s.Otherwise) → otherwise_surely_returns otherwise ≡ true → WhensSurelyReturn (otherwise_node scope otherwise)
    otherwise_kept s.NoOtherwise h = cc
    otherwise_kept (s.Otherwise' keyword statement) h = returns_kept statement h

pub returning_is_kept : ReturningIsKept
returning_is_kept scope body h = list_kept scope body h
