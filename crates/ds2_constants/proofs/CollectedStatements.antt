-- How a table grows by the constants of statements.
use Rattle.std.proofs.Common.{◌≡◌, ℕ, List, [], ◌∷◌, ◌++◌, map, Option, Some, None, refl, sym, ap, ◌∙◌, append-nil}
use Rattle.ds2_base.specs.declared.place.Place.{Place}
use Rattle.ds2_meaning.specs.declared.statements.Arm as code_arm
use Rattle.ds2_meaning.specs.TypedExpression.{TypedExpression, TypedExpressions}
use Rattle.ds2_meaning.specs.TypedStatement.{TypedStatement, TypedStatements, Next, TypedWhens, When, Item, Text, Shown, Labelled, ParameterValue}
use Rattle.ds2_meaning.specs.View.{in_a_row, if_tree}
use Rattle.ds2_gen.specs.StatementCode.{text_type, label_of}
use Rattle.ds2_value.specs.declared.value.Value.TheVariants.{Txt}
use Rattle.ds2_program_code.specs.UsedConstants.{UsedConstant, constants_used, constants_of_all, constants_of_items, constants_of_parameters, constants_of_statement, constants_of_body, constants_of_whens}
use Rattle.ds2_program_code.specs.CodeConstants.{with_used_constant}
use Rattle.ds2_statement_emitter.specs.Appending.{IfPart}
use Rattle.ds2_statement_emitter.specs.Arms.{arm_tree, arm_of_chain}
use Rattle.ds2_statement_emitter.proofs.Chains.{chain_tree, chained}
use Rattle.ds2_constants.specs.UsedOnce.{with_used, constants_of_rest}
use Rattle.ds2_constants.proofs.Collected.{first_used, both_used}

pub three_used : (xs ys zs table : List UsedConstant) → with_used (xs ++ (ys ++ zs)) table ≡ with_used zs (with_used ys (with_used xs table))
three_used xs ys zs table = both_used xs (ys ++ zs) table ∙ both_used ys zs (with_used xs table)

pub next_collected : (s : TypedStatement) (rest : TypedStatements) (table : List UsedConstant) → with_used (constants_of_body (Next s rest)) table ≡ with_used (constants_of_body rest) (with_used (constants_of_statement s) table)
next_collected s rest table = both_used (constants_of_statement s) (constants_of_body rest) table

pub when_collected : (tests : TypedExpressions) (s : TypedStatement) (rest : TypedWhens) (table : List UsedConstant)
    → with_used (constants_of_whens (When tests s rest)) table ≡ with_used (constants_of_whens rest) (with_used (constants_of_statement s) (with_used (constants_of_all tests) table))
when_collected tests s rest table = three_used (constants_of_all tests) (constants_of_statement s) (constants_of_whens rest) table

pub part_collected : (p : IfPart) (ps : List IfPart) (o : Option TypedStatement) (table : List UsedConstant)
    → with_used (constants_of_rest (p ∷ ps) o) table ≡ with_used (constants_of_rest ps o) (with_used (constants_of_statement p.on) (with_used (constants_used p.condition) table))
part_collected p ps o table = three_used (constants_used p.condition) (constants_of_statement p.on) (constants_of_rest ps o) table

chain_constants : (p : IfPart) (ps : List IfPart) (o : Option TypedStatement) → constants_of_statement (chain_tree p ps o) ≡ constants_used p.condition ++ (constants_of_statement p.on ++ constants_of_rest ps o)
chain_constants p [] None = ap (λ x. constants_used p.condition ++ x) (sym (append-nil (constants_of_statement p.on)))
chain_constants p [] (Some s) = refl
chain_constants p (q ∷ ps) o = ap (λ x. constants_used p.condition ++ (constants_of_statement p.on ++ x)) (chain_constants q ps o)

pub if_collected : (place : Place) (e : TypedExpression) (on : TypedStatement) (others : List code_arm.Arm) (o : Option TypedStatement) (table : List UsedConstant)
    → with_used (constants_of_statement (if_tree place e on (in_a_row (map arm_tree others) o))) table
    ≡ with_used (constants_of_rest (map arm_of_chain others) o) (with_used (constants_of_statement on) (with_used (constants_used e) table))
if_collected place e on others o table =
    let p : IfPart = record { place = place; condition = e; on = on } in
    ap (λ used. with_used used table) (ap constants_of_statement (chained others o p) ∙ chain_constants p (map arm_of_chain others) o)
    ∙ three_used (constants_used e) (constants_of_statement on) (constants_of_rest (map arm_of_chain others) o) table

pub text_collected : (t : List ℕ) (rest : List Item) (table : List UsedConstant) → with_used (constants_of_items (Text t ∷ rest)) table ≡ with_used (constants_of_items rest) (with_used_constant table (record { value = Txt t; ty = text_type t }))
text_collected t rest table = first_used (record { value = Txt t; ty = text_type t }) (constants_of_items rest) table

pub shown_collected : (e : TypedExpression) (rest : List Item) (table : List UsedConstant) → with_used (constants_of_items (Shown e ∷ rest)) table ≡ with_used (constants_of_items rest) (with_used (constants_used e) table)
shown_collected e rest table = both_used (constants_used e) (constants_of_items rest) table

pub labelled_collected : (name : List ℕ) (e : TypedExpression) (rest : List Item) (table : List UsedConstant)
    → with_used (constants_of_items (Labelled name e ∷ rest)) table
    ≡ with_used (constants_of_items rest) (with_used (constants_used e) (with_used_constant table (record { value = Txt (label_of name); ty = text_type (label_of name) })))
labelled_collected name e rest table =
    first_used (record { value = Txt (label_of name); ty = text_type (label_of name) }) (constants_used e ++ constants_of_items rest) table
    ∙ both_used (constants_used e) (constants_of_items rest) (with_used_constant table (record { value = Txt (label_of name); ty = text_type (label_of name) }))

pub parameter_collected : (p : ParameterValue) (rest : List ParameterValue) (table : List UsedConstant) → with_used (constants_of_parameters (p ∷ rest)) table ≡ with_used (constants_of_parameters rest) (with_used (constants_used p.value) table)
parameter_collected p rest table = both_used (constants_used p.value) (constants_of_parameters rest) table
