use Rattle.std.proofs.Common.{◌≡◌, ℕ, List, Option, Ok, None, refl, ap, ◌∙◌, subst}
use Rattle.ds2_base.specs.declared.place.Place.{Place}
use Rattle.ds2_tree.specs.declared.statements.PutItem.TheVariants.{Text, Variable}
use Rattle.ds2_meaning.specs.TypedStatement as t
use Rattle.ds2_meaning.specs.View.{item_tree}
use Rattle.ds2_meaning.specs.declared.statements.PutItem.{PutItem}
use Rattle.ds2_meaning.specs.declared.statements.PutItem.TheVariants.{Constant}
use Rattle.ds2_elaboration.specs.ExpressionTypes.{elaborated_variable, elaborated_member}
use Rattle.ds2_types.specs.Judgements.{IsOutcome}
use Rattle.ds2_simple_statement_types.proofs.PutForms.{told_item}
use Rattle.ds2_simple_statement_types.proofs.puts.item.Goals as goal

pub returns-in_ok-constant-in-Text : goal.returns-in_ok-constant-in-Text
returns-in_ok-constant-in-Text c = λ types s.
    told_item types c.args.item.now (Text c.in-Text.text) (Ok (Constant c.in_ok-constant-in-Text.constant)) c.in-Text.is (refl, ap (λ (x : List ℕ). t.Text x) c.in_ok-constant-in-Text.ensures)

pub returns-in_ok-x-in-None : goal.returns-in_ok-x-in-None
returns-in_ok-x-in-None c = λ types s.
    let name = c.in-Variable.name in
    let e = elaborated_variable types name in
    told_item types c.args.item.now (Variable name None) c.shown.result (c.in-Variable.is ∙ ap (λ (equals : Option Place). Variable name equals) c.in-None.is)
    (c.shown.ensures e.refusals e.node (c.in_ok-x-in-None.ensures types s).outcome)

pub returns-in_ok-x-in-Some : goal.returns-in_ok-x-in-Some
returns-in_ok-x-in-Some c = λ types s.
    let name = c.in-Variable.name in
    let e = elaborated_variable types name in
    told_item types c.args.item.now _ c.named.result (c.in-Variable.is ∙ ap (λ (equals : Option Place). Variable name equals) c.in-Some.is)
    (subst (λ (n : List ℕ). IsOutcome (λ (i : PutItem). item_tree i ≡ t.Labelled n e.node) e.refusals c.named.result) c.in_ok-label-in-Some.ensures
    (c.named.ensures e.refusals e.node (c.in_ok-x-in-Some.ensures types s).outcome))

pub returns-in_ok-x-in-Member : goal.returns-in_ok-x-in-Member
returns-in_ok-x-in-Member c = λ types s.
    let e = elaborated_member types c.in-Member.object c.in-Member.member in
    told_item types c.args.item.now _ c.shown-in-Member.result c.in-Member.is (c.shown-in-Member.ensures e.refusals e.node (c.in_ok-x-in-Member.ensures types s).outcome)
