-- The types of the values that code keeps, in the order of their numbers.
use Rattle.std.specs.Prelude.{◌≡◌, List, [], ◌∷◌, ◌++◌, length, Option, Some, None}
use Rattle.ds2_value.specs.declared.ty.Ty.{Ty}
use Rattle.ds2_value.specs.declared.ty.Ty.TheVariants.{BigInt}
use Rattle.ds2_meaning.specs.IsTyped.{expression_type}
use Rattle.ds2_meaning.specs.TypedExpression.{TypedExpression}
use Rattle.ds2_meaning.specs.TypedStatement.{TypedStatement, If, IfElse, Select, SelectValue, Block, Count, While, Until, TypedStatements, Finish, Next, TypedWhens, NoOtherwise, Otherwise, When}
use Rattle.ds2_gen.specs.StatementCode.{statements_keep}

-- those of a counted loop: its step, where one was given, and its end
abbrev pub types_of_count : Option TypedExpression → List Ty
types_of_count None = BigInt ∷ []
types_of_count (Some step) = BigInt ∷ BigInt ∷ []

abbrev mutual
  -- those of a statement
  pub types_kept : TypedStatement → List Ty
  types_kept (If place condition on) = types_kept on
  types_kept (IfElse place condition on off) = types_kept on ++ types_kept off
  types_kept (Select place whens) = whens_types_kept whens
  types_kept (SelectValue place value whens) = expression_type value ∷ whens_types_kept whens
  types_kept (Block place body) = all_types_kept body
  types_kept (Count place variable start end step body) = types_of_count step ++ all_types_kept body
  types_kept (While place condition body) = all_types_kept body
  types_kept (Until place condition body) = all_types_kept body
  types_kept _ = []

  -- those of several statements
  pub all_types_kept : TypedStatements → List Ty
  all_types_kept Finish = []
  all_types_kept (Next first rest) = types_kept first ++ all_types_kept rest

  -- those of the parts of a `select`
  pub whens_types_kept : TypedWhens → List Ty
  whens_types_kept NoOtherwise = []
  whens_types_kept (Otherwise s) = types_kept s
  whens_types_kept (When tests s rest) = types_kept s ++ whens_types_kept rest

-- there is a type for each value that the code of statements keeps
abbrev pub EachValueHasType : Type 0
EachValueHasType = (body : TypedStatements) → length (all_types_kept body) ≡ statements_keep body
