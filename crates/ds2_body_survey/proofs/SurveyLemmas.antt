-- What is surveyed of statements, from what is surveyed of their parts.
use Rattle.std.proofs.Common.{◌≡◌, Bool, true, false, List, [], ◌∷◌, ◌++◌, map, Option, Some, None, refl, sym, ap, ◌∙◌, append_assoc, append-nil}
use Rattle.std.specs.Prelude.{◌||◌}
use Rattle.ds2_base.specs.declared.place.Place.{Place}
use Rattle.ds2_value.specs.declared.ty.Ty.{Ty}
use Rattle.ds2_meaning.specs.declared.statements.Arm as code_arm
use Rattle.ds2_meaning.specs.TypedExpression.{TypedExpression, TypedExpressions}
use Rattle.ds2_meaning.specs.TypedStatement.{TypedStatement, TypedStatements, Next, TypedWhens, When, has_output}
use Rattle.ds2_meaning.specs.View.{in_a_row, if_tree}
use Rattle.ds2_program_code.specs.KeptTypes.{types_kept, all_types_kept, whens_types_kept}
use Rattle.ds2_statement_emitter.specs.Appending.{IfPart}
use Rattle.ds2_statement_emitter.specs.Arms.{arm_tree, arm_of_chain}
use Rattle.ds2_statement_emitter.proofs.Chains.{chain_tree, chained}
use Rattle.ds2_body_survey.specs.Surveyed.{with_types, types_of_rest, output_in_rest}

pub none_added : (types : List Ty) → with_types [] types ≡ types
unfolding with_types
none_added types = append-nil types

pub both_added : (xs ys types : List Ty) → with_types (xs ++ ys) types ≡ with_types ys (with_types xs types)
unfolding with_types
both_added xs ys types = sym (append_assoc types xs ys)

pub two_added : (t u : Ty) (types : List Ty) → with_types (t ∷ u ∷ []) types ≡ with_types (u ∷ []) (with_types (t ∷ []) types)
two_added t u types = both_added (t ∷ []) (u ∷ []) types

pub next_added : (s : TypedStatement) (rest : TypedStatements) (types : List Ty) → with_types (all_types_kept (Next s rest)) types ≡ with_types (all_types_kept rest) (with_types (types_kept s) types)
next_added s rest types = both_added (types_kept s) (all_types_kept rest) types

pub when_added : (tests : TypedExpressions) (s : TypedStatement) (rest : TypedWhens) (types : List Ty)
    → with_types (whens_types_kept (When tests s rest)) types ≡ with_types (whens_types_kept rest) (with_types (types_kept s) types)
when_added tests s rest types = both_added (types_kept s) (whens_types_kept rest) types

pub part_added : (p : IfPart) (ps : List IfPart) (o : Option TypedStatement) (types : List Ty) → with_types (types_of_rest (p ∷ ps) o) types ≡ with_types (types_of_rest ps o) (with_types (types_kept p.on) types)
part_added p ps o types = both_added (types_kept p.on) (types_of_rest ps o) types

chain_types : (p : IfPart) (ps : List IfPart) (o : Option TypedStatement) → types_kept (chain_tree p ps o) ≡ types_kept p.on ++ types_of_rest ps o
chain_types p [] None = sym (append-nil (types_kept p.on))
chain_types p [] (Some s) = refl
chain_types p (q ∷ ps) o = ap (λ x. types_kept p.on ++ x) (chain_types q ps o)

pub if_added : (place : Place) (e : TypedExpression) (on : TypedStatement) (others : List code_arm.Arm) (o : Option TypedStatement) (types : List Ty)
    → with_types (types_kept (if_tree place e on (in_a_row (map arm_tree others) o))) types ≡ with_types (types_of_rest (map arm_of_chain others) o) (with_types (types_kept on) types)
if_added place e on others o types =
    let p : IfPart = record { place = place; condition = e; on = on } in
    ap (λ kept. with_types kept types) (ap types_kept (chained others o p) ∙ chain_types p (map arm_of_chain others) o)
    ∙ both_added (types_kept on) (types_of_rest (map arm_of_chain others) o) types

-- ---- types that grow by several parts in turn

pub two_grown : (xs ys before first grown : List Ty) → first ≡ with_types xs before → grown ≡ with_types ys first → grown ≡ with_types (xs ++ ys) before
two_grown xs ys before first grown a b = b ∙ ap (λ t. with_types ys t) a ∙ sym (both_added xs ys before)

-- types that grew by those of one thing grew by those of an equal one
pub grown_equal : {A : Type 0} (f : A → List Ty) (x y : A) (before grown : List Ty) → x ≡ y → grown ≡ with_types (f x) before → grown ≡ with_types (f y) before
grown_equal f x y before grown is e = e ∙ ap (λ z. with_types (f z) before) is

-- ---- outputs

or_none : (b : Bool) → b ≡ (b || false)
or_none true = refl
or_none false = refl

chain_output : (p : IfPart) (ps : List IfPart) (o : Option TypedStatement) → has_output (chain_tree p ps o) ≡ (has_output p.on || output_in_rest ps o)
chain_output p [] None = or_none (has_output p.on)
chain_output p [] (Some s) = refl
chain_output p (q ∷ ps) o = ap (λ x. has_output p.on || x) (chain_output q ps o)

-- a chain has one where its first part, its further parts or its last part has
pub if_output : (place : Place) (e : TypedExpression) (on : TypedStatement) (others : List code_arm.Arm) (o : Option TypedStatement) (first more last : Bool)
    → first ≡ has_output on → (more || output_in_rest [] o) ≡ output_in_rest (map arm_of_chain others) o → last ≡ output_in_rest [] o
    → has_output (if_tree place e on (in_a_row (map arm_tree others) o)) ≡ (first || (more || last))
if_output place e on others o first more last h1 h2 h3 =
    let p : IfPart = record { place = place; condition = e; on = on } in
    ap has_output (chained others o p) ∙ chain_output p (map arm_of_chain others) o ∙ ap (λ x. has_output on || x) (sym h2)
    ∙ ap (λ x. x || (more || output_in_rest [] o)) (sym h1) ∙ ap (λ x. first || (more || x)) (sym h3)
