-- An `if` and its parts, once it is told what stands of them.
use Rattle.std.proofs.Common.{◌≡◌, ◌++◌, List, map, Option, Some, Result, Ok, Err, refl, sym, ap, ◌∙◌, subst}
use Rattle.std.specs.Option.{option_map}
use Rattle.std.specs.declared.boxed.Box.{Box}
use Rattle.std.specs.declared.alloc.Global.{Global}
use Rattle.ds2_base.specs.declared.place.Place.{Place}
use Rattle.ds2_base.specs.declared.place.Refusal.{Refusal}
use Rattle.ds2_elaboration.specs.Typings.{TypeRefusals}
use Rattle.ds2_meaning.specs.TypedExpression.{TypedExpression}
use Rattle.ds2_meaning.specs.TypedStatement as t
use Rattle.ds2_meaning.specs.View.{Part, Chained, in_a_row, if_tree, otherwise_part}
use Rattle.ds2_meaning.specs.declared.refusals.TypeKind.{TypeKind}
use Rattle.ds2_meaning.specs.declared.statements.Arm.{Arm}
use Rattle.ds2_meaning.specs.declared.statements.Statement as typed
use Rattle.ds2_meaning.specs.declared.statements.When as typed_when
use Rattle.ds2_types.specs.Judgements.{node_tree, IsOutcome}
use Rattle.ds2_types.specs.declared.judgement.Node.{Node}
use Rattle.ds2_simple_statement_types.specs.StatementOutcomes.{boxed_tree, tree_if_any}
use Rattle.ds2_statement_types.specs.Branches.{IsHead, IsTail, AreSelected, IsSelector}
use Rattle.ds2_statement_types.specs.StatementParts.{arm_of, when_of}
use Rattle.ds2_statement_types.specs.TestRules.{select_form}
use Rattle.ds2_simple_statement_types.specs.declared.parts.Both.{Both}

-- an `if` of parts that are these
pub same_if : (place : Place) (test : TypedExpression) (node : t.TypedStatement) (parts : List Chained) (last : Option t.TypedStatement)
    (h : Both Node (Box typed.Statement Global)) (tail : Both (List Arm) (Option (Box typed.Statement Global))) → IsHead test node h → IsTail parts last tail
    → if_tree place (node_tree h.first) (boxed_tree h.second) (in_a_row (map arm_of tail.first) (option_map boxed_tree tail.second)) ≡ if_tree place test node (in_a_row parts last)
same_if place test node parts last h tail i j =
    ap (λ (e : TypedExpression). if_tree place e (boxed_tree h.second) (in_a_row (map arm_of tail.first) (option_map boxed_tree tail.second))) i.0
    ∙ ap (λ (n : t.TypedStatement). if_tree place test n (in_a_row (map arm_of tail.first) (option_map boxed_tree tail.second))) i.1
    ∙ ap (λ (l : List Chained). if_tree place test node (in_a_row l (option_map boxed_tree tail.second))) j.0
    ∙ ap (λ (o : Option t.TypedStatement). if_tree place test node (in_a_row parts o)) j.1

-- an `else if` of parts that are these
pub same_arm : (place : Place) (test : TypedExpression) (node : t.TypedStatement) (h : Both Node (Box typed.Statement Global)) (a : Arm) → IsHead test node h
    → arm_of a ≡ (λ (rest : Option t.TypedStatement). Some (if_tree place (node_tree h.first) (boxed_tree h.second) rest))
    → arm_of a ≡ (λ (rest : Option t.TypedStatement). Some (if_tree place test node rest))
same_arm place test node h a i e =
    e
    ∙ ap {B = Chained} (λ (x : TypedExpression) (rest : Option t.TypedStatement). Some (if_tree place x (boxed_tree h.second) rest)) i.0
    ∙ ap {B = Chained} (λ (n : t.TypedStatement) (rest : Option t.TypedStatement). Some (if_tree place test n rest)) i.1

-- a `select` of parts that are these
pub same_select : (place : Place) (value : Option TypedExpression) (forms : List (Part t.TypedWhens)) (last : Option t.TypedStatement) (n : Option Node)
    (p : Both (List typed_when.When) (Option (Box typed.Statement Global))) → IsSelector value n → AreSelected forms last p
    → select_form place (tree_if_any n) (in_a_row (map when_of p.first) (otherwise_part (option_map boxed_tree p.second)))
    ≡ select_form place value (in_a_row forms (otherwise_part last))
same_select place value forms last n p i j =
    ap (λ (v : Option TypedExpression). select_form place v (in_a_row (map when_of p.first) (otherwise_part (option_map boxed_tree p.second)))) i
    ∙ ap (λ (l : List (Part t.TypedWhens)). select_form place value (in_a_row l (otherwise_part (option_map boxed_tree p.second)))) j.0
    ∙ ap (λ (o : Option t.TypedStatement). select_form place value (in_a_row forms (otherwise_part o))) j.1
