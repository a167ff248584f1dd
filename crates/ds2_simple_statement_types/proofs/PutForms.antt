-- Items of `put`, once it is told what they are.
use Rattle.std.proofs.Common.{◌≡◌, [], Result, Ok, refl, sym, ap, ◌∙◌, subst}
use Rattle.ds2_base.specs.declared.place.Refusal.{Refusal}
use Rattle.ds2_tree.specs.declared.statements.PutItem.{PutItem}
use Rattle.ds2_meaning.specs.TypedStatement.{Item}
use Rattle.ds2_meaning.specs.View.{item_tree}
use Rattle.ds2_meaning.specs.declared.refusals.TypeKind.{TypeKind}
use Rattle.ds2_meaning.specs.declared.statements.PutItem as typed
use Rattle.ds2_elaboration.specs.ExpressionTypes.{TypeScope}
use Rattle.ds2_elaboration.specs.StatementTypes.{item_refusals, item_node}
use Rattle.ds2_types.specs.Judgements.{IsOutcome}

-- what stands of an item of `put`
abbrev pub IsItemAs : TypeScope → PutItem → Result typed.PutItem (Refusal TypeKind) → Type 0
IsItemAs types x outcome = IsOutcome (λ (i : typed.PutItem). item_tree i ≡ item_node types x) (item_refusals types x) outcome

-- an item that is this
pub told_item : (types : TypeScope) (x form : PutItem) (outcome : Result typed.PutItem (Refusal TypeKind)) → x ≡ form → IsItemAs types form outcome → IsItemAs types x outcome
told_item types x form outcome e h = subst (λ (y : PutItem). IsItemAs types y outcome) (sym e) h
