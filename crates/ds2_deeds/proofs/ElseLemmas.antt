-- The deeds of a chain, from those of its parts.
use Rattle.std.proofs.Common.{◌≡◌, List, ◌++◌, Some, None, refl, sym, ap, ◌∙◌, append_assoc, append-nil}
use Rattle.ds2_base.specs.declared.place.Place.{Place}
use Rattle.ds2_meaning.specs.TypedExpression.{TypedExpression}
use Rattle.ds2_meaning.specs.TypedStatement.{TypedStatement}
use Rattle.ds2_meaning.specs.View.{if_tree, otherwise_part}
use Rattle.ds2_locality.specs.Deeds.{CodeScope, expression_deeds, statement_deeds, when_deeds}
use Rattle.ds2_deeds.specs.declared.deed.NumberedDeed.{NumberedDeed}
use Rattle.ds2_deeds.specs.ElseParts.{ElsePart, else_deeds}
use Rattle.ds2_deeds.specs.NumberedDeeds.{ProgramNumbers, with_deeds}
use Rattle.ds2_deeds.proofs.DeedLemmas.{both_added}

if_deeds : (s : CodeScope) (place : Place) (condition : TypedExpression) (on : TypedStatement) (rest : ElsePart)
    → statement_deeds s (if_tree place condition on rest) ≡ expression_deeds s condition ++ (statement_deeds s on ++ else_deeds s rest)
if_deeds s place condition on None = ap (λ l. expression_deeds s condition ++ l) (sym (append-nil (statement_deeds s on)))
if_deeds s place condition on (Some off) = append_assoc (expression_deeds s condition) (statement_deeds s on) (statement_deeds s off)

-- a chain adds what its condition, its first part and its rest add in turn
pub chain_deeds : (n : ProgramNumbers) (s : CodeScope) (place : Place) (condition : TypedExpression) (on : TypedStatement) (rest : ElsePart) (deeds first next : List NumberedDeed)
    → first ≡ with_deeds n (expression_deeds s condition) deeds → next ≡ with_deeds n (statement_deeds s on) first
    → with_deeds n (statement_deeds s (if_tree place condition on rest)) deeds ≡ with_deeds n (else_deeds s rest) next
chain_deeds n s place condition on rest deeds first next h k =
    ap (λ l. with_deeds n l deeds) (if_deeds s place condition on rest)
    ∙ both_added n (expression_deeds s condition) (statement_deeds s on ++ else_deeds s rest) deeds
    ∙ ap (λ d. with_deeds n (statement_deeds s on ++ else_deeds s rest) d) (sym h)
    ∙ both_added n (statement_deeds s on) (else_deeds s rest) first
    ∙ ap (λ d. with_deeds n (else_deeds s rest) d) (sym k)

-- an `otherwise` part does what an else part does
pub otherwise_deeds : (n : ProgramNumbers) (s : CodeScope) (o : ElsePart) (deeds : List NumberedDeed) → with_deeds n (else_deeds s o) deeds ≡ with_deeds n (when_deeds s (otherwise_part o)) deeds
otherwise_deeds n s None deeds = refl
otherwise_deeds n s (Some last) deeds = refl

-- equal things do the same in an else part
pub same_rest : {A : Type 0} (n : ProgramNumbers) (s : CodeScope) (of : A → ElsePart) (x y : A) (deeds : List NumberedDeed) → x ≡ y → with_deeds n (else_deeds s (of x)) deeds ≡ with_deeds n (else_deeds s (of y)) deeds
same_rest n s of x y deeds is = ap (λ z. with_deeds n (else_deeds s (of z)) deeds) is
