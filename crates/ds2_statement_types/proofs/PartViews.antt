-- The parts of typed statements as their meaning sees them.
use Rattle.std.proofs.Common.{◌≡◌, List, [], ◌∷◌, map, Option, Some, None, refl, sym, ap, ◌∙◌}
use Rattle.std.specs.Option.{option_map}
use Rattle.std.specs.declared.boxed.Box.{Box}
use Rattle.std.specs.declared.alloc.Global.{Global}
use Rattle.ds2_base.specs.declared.place.Place.{Place}
use Rattle.ds2_meaning.specs.TypedStatement as t
use Rattle.ds2_meaning.specs.View.{Part, Chained, in_a_row, if_tree, otherwise_part, statement_part, arm_part, when_part, typed_expression, typed_statement, typed_statements}
use Rattle.ds2_meaning.specs.declared.expressions.Expression.{Expression}
use Rattle.ds2_meaning.specs.declared.location.Reference.{Reference}
use Rattle.ds2_meaning.specs.declared.statements.Arm.{Arm}
use Rattle.ds2_meaning.specs.declared.statements.Statement as code
use Rattle.ds2_meaning.specs.declared.statements.Statement.TheFolds.{fold-Arm, fold-When, fold-roll-Statement, fold_out-Arm, fold_out-When}
use Rattle.ds2_meaning.specs.declared.statements.Statement.TheOpen as node
use Rattle.ds2_meaning.specs.declared.statements.Statement.TheVariants as statement
use Rattle.ds2_meaning.specs.declared.statements.When.{When}
use Rattle.ds2_simple_statement_types.specs.StatementOutcomes.{boxed_tree}
use Rattle.ds2_statement_types.specs.StatementParts.{arm_of, when_of}

-- ---- an `if` with the parts that are chained to it

abbrev arm_tree : Arm → Chained
arm_tree = fold-Arm t.TypedStatement Chained (Part t.TypedWhens) statement_part arm_part when_part

arm_view : (a : Arm) → arm_tree a ≡ arm_of a
arm_view a = fold_out-Arm t.TypedStatement Chained (Part t.TypedWhens) statement_part arm_part when_part a

arms_view : (as' : List Arm) (last : Option t.TypedStatement) → in_a_row (map arm_tree as') last ≡ in_a_row (map arm_of as') last
arms_view [] last = refl
arms_view (a ∷ as') last =
    ap (λ (part : Chained). part (in_a_row (map arm_tree as') last)) (arm_view a) ∙ ap (arm_of a) (arms_view as' last)

pub if_typed : (place : Place) (e : Expression) (on : Box code.Statement Global) (others : List Arm) (off : Option (Box code.Statement Global))
    → typed_statement (statement.If place e on others off) ≡ if_tree place (typed_expression e) (boxed_tree on) (in_a_row (map arm_of others) (option_map boxed_tree off))
if_typed place e on others None =
    ap typed_statement (sym (statement.rolls-If place e on others None))
    ∙ fold-roll-Statement t.TypedStatement Chained (Part t.TypedWhens) statement_part arm_part when_part (node.If place e on others None)
    ∙ ap (λ (o : Option t.TypedStatement). if_tree place (typed_expression e) (boxed_tree on) o) (arms_view others None)
if_typed place e on others (Some off) =
    ap typed_statement (sym (statement.rolls-If place e on others (Some off)))
    ∙ fold-roll-Statement t.TypedStatement Chained (Part t.TypedWhens) statement_part arm_part when_part (node.If place e on others (Some off))
    ∙ ap (λ (o : Option t.TypedStatement). if_tree place (typed_expression e) (boxed_tree on) o) (arms_view others (Some (boxed_tree off)))

-- ---- a `select` with its parts

abbrev when_tree : When → Part t.TypedWhens
when_tree = fold-When t.TypedStatement Chained (Part t.TypedWhens) statement_part arm_part when_part

when_view : (w : When) → when_tree w ≡ when_of w
when_view w = fold_out-When t.TypedStatement Chained (Part t.TypedWhens) statement_part arm_part when_part w

whens_view : (ws : List When) (last : t.TypedWhens) → in_a_row (map when_tree ws) last ≡ in_a_row (map when_of ws) last
whens_view [] last = refl
whens_view (w ∷ ws) last =
    ap (λ (part : Part t.TypedWhens). part (in_a_row (map when_tree ws) last)) (when_view w) ∙ ap (when_of w) (whens_view ws last)

pub select_typed : (place : Place) (ws : List When) (off : Option (Box code.Statement Global))
    → typed_statement (statement.Select place ws off) ≡ t.Select place (in_a_row (map when_of ws) (otherwise_part (option_map boxed_tree off)))
select_typed place ws None =
    ap typed_statement (sym (statement.rolls-Select place ws None))
    ∙ fold-roll-Statement t.TypedStatement Chained (Part t.TypedWhens) statement_part arm_part when_part (node.Select place ws None)
    ∙ ap (λ (w : t.TypedWhens). t.Select place w) (whens_view ws (otherwise_part None))
select_typed place ws (Some off) =
    ap typed_statement (sym (statement.rolls-Select place ws (Some off)))
    ∙ fold-roll-Statement t.TypedStatement Chained (Part t.TypedWhens) statement_part arm_part when_part (node.Select place ws (Some off))
    ∙ ap (λ (w : t.TypedWhens). t.Select place w) (whens_view ws (otherwise_part (Some (boxed_tree off))))

pub select_value_typed : (place : Place) (e : Expression) (ws : List When) (off : Option (Box code.Statement Global))
    → typed_statement (statement.SelectValue place e ws off) ≡ t.SelectValue place (typed_expression e) (in_a_row (map when_of ws) (otherwise_part (option_map boxed_tree off)))
select_value_typed place e ws None =
    ap typed_statement (sym (statement.rolls-SelectValue place e ws None))
    ∙ fold-roll-Statement t.TypedStatement Chained (Part t.TypedWhens) statement_part arm_part when_part (node.SelectValue place e ws None)
    ∙ ap (λ (w : t.TypedWhens). t.SelectValue place (typed_expression e) w) (whens_view ws (otherwise_part None))
select_value_typed place e ws (Some off) =
    ap typed_statement (sym (statement.rolls-SelectValue place e ws (Some off)))
    ∙ fold-roll-Statement t.TypedStatement Chained (Part t.TypedWhens) statement_part arm_part when_part (node.SelectValue place e ws (Some off))
    ∙ ap (λ (w : t.TypedWhens). t.SelectValue place (typed_expression e) w) (whens_view ws (otherwise_part (Some (boxed_tree off))))

-- ---- blocks and loops

pub block_typed : (place : Place) (body : List code.Statement) → typed_statement (statement.Block place body) ≡ t.Block place (typed_statements body)
block_typed place body =
    ap typed_statement (sym (statement.rolls-Block place body))
    ∙ fold-roll-Statement t.TypedStatement Chained (Part t.TypedWhens) statement_part arm_part when_part (node.Block place body)

pub count_typed : (place : Place) (r : Reference) (a b : Expression) (step : Option Expression) (body : List code.Statement)
    → typed_statement (statement.Count place r a b step body) ≡ t.Count place r (typed_expression a) (typed_expression b) (option_map typed_expression step) (typed_statements body)
count_typed place r a b step body =
    ap typed_statement (sym (statement.rolls-Count place r a b step body))
    ∙ fold-roll-Statement t.TypedStatement Chained (Part t.TypedWhens) statement_part arm_part when_part (node.Count place r a b step body)

pub while_typed : (place : Place) (e : Expression) (body : List code.Statement) → typed_statement (statement.While place e body) ≡ t.While place (typed_expression e) (typed_statements body)
while_typed place e body =
    ap typed_statement (sym (statement.rolls-While place e body))
    ∙ fold-roll-Statement t.TypedStatement Chained (Part t.TypedWhens) statement_part arm_part when_part (node.While place e body)

pub until_typed : (place : Place) (e : Expression) (body : List code.Statement) → typed_statement (statement.Until place e body) ≡ t.Until place (typed_expression e) (typed_statements body)
until_typed place e body =
    ap typed_statement (sym (statement.rolls-Until place e body))
    ∙ fold-roll-Statement t.TypedStatement Chained (Part t.TypedWhens) statement_part arm_part when_part (node.Until place e body)
