-- What stands of two parts of a statement, and of a list with one item more.
use Rattle.std.specs.Prelude.{List, [], ◌∷◌, ◌++◌, Some, Result, Ok, Err}
use Rattle.ds2_base.specs.declared.place.Refusal.{Refusal}
use Rattle.ds2_meaning.specs.declared.refusals.TypeKind.{TypeKind}
use Rattle.ds2_names.specs.Refusals.{type_rank, first_of_both}
use Rattle.ds2_simple_statement_types.specs.declared.parts.Both.{Both}

-- both parts, or the broken rule that is given
abbrev pub both_parts : {A B : Type 0} → Result A (Refusal TypeKind) → Result B (Refusal TypeKind) → Result (Both A B) (Refusal TypeKind)
both_parts (Ok a) (Ok b) = Ok (record { first = a; second = b })
both_parts (Ok a) (Err r) = Err r
both_parts (Err r) (Ok b) = Err r
both_parts (Err r) (Err q) = Err (first_of_both type_rank r (Some q))

-- a list with one item more, or the broken rule that is given
abbrev pub with_one : {A : Type 0} → Result (List A) (Refusal TypeKind) → Result A (Refusal TypeKind) → Result (List A) (Refusal TypeKind)
with_one (Ok items) (Ok item) = Ok (items ++ item ∷ [])
with_one (Ok items) (Err r) = Err r
with_one (Err r) (Ok item) = Err r
with_one (Err r) (Err q) = Err (first_of_both type_rank r (Some q))
