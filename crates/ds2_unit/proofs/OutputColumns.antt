-- The columns of an output of valid code have different names.
use Rattle.std.proofs.Common.{◌≡◌, ℕ, Bool, true, false, not, ◌&&◌, ◌||◌, bytes_eq, List, [], ◌∷◌, map, refl, sym, ap, ◌∙◌, IsTrue}
use Rattle.std.proofs.lemmas.Slice.Eq.{bytes_eq-Decides}
use Rattle.std.specs.List.{list_all}
use Rattle.ds2_value.specs.Schema.{has_column, distinct_names}
use Rattle.ds2_code.specs.declared.parts.OutputPart.{OutputPart}
use Rattle.ds2_code.specs.declared.parts.ProgramParts.{ProgramParts}
use Rattle.ds2_code.specs.declared.parts.Slot.{Slot}
use Rattle.ds2_code.specs.declared.parts.StagedParts.{StagedParts}
use Rattle.ds2_code.specs.ValidCode.{is_other_name, names_differ, output_fits, IsValidProgram, IsValidChain, IsValidStaged}
use Rattle.ds2_unit.specs.Outputs.{column_of_output}

swap_by : (a b : List ℕ) (s t : Bool) → bytes_eq a b ≡ s → bytes_eq b a ≡ t → s ≡ t
swap_by a b true true e f = refl
swap_by a b false false e f = refl
swap_by a b true false e f = sym ((bytes_eq-Decides b a).1 (sym ((bytes_eq-Decides a b).0 e))) ∙ f
swap_by a b false true e f = sym e ∙ (bytes_eq-Decides a b).1 (sym ((bytes_eq-Decides b a).0 f))

names_swap : (a b : List ℕ) → bytes_eq a b ≡ bytes_eq b a
names_swap a b = swap_by a b (bytes_eq a b) (bytes_eq b a) refl refl

neither : (a b : Bool) → not a ≡ true → not b ≡ true → not (a || b) ≡ true
neither true b h k = absurd cc
neither false b h k = k

first_true : (a b : Bool) → (a && b) ≡ true → a ≡ true
first_true true b h = refl
first_true false b h = absurd cc

second_true : (a b : Bool) → (a && b) ≡ true → b ≡ true
second_true true b h = h
second_true false b h = absurd cc

both_true : (a b : Bool) → a ≡ true → b ≡ true → (a && b) ≡ true
both_true true b h k = k
both_true false b h k = absurd cc

-- the names of columns
abbrev names_of : List (List ℕ × ℕ) → List (List ℕ)
names_of named = map (λ (c : List ℕ × ℕ). c.0) named

module _ (slots : List Slot) where
  other_column : (name : List ℕ) (named : List (List ℕ × ℕ)) → is_other_name name (names_of named) ≡ true → not (has_column name (map (column_of_output slots) named)) ≡ true
  other_column name [] h = refl
  other_column name (c ∷ named) h =
      neither (bytes_eq c.0 name) (has_column name (map (column_of_output slots) named))
      (ap not (names_swap c.0 name) ∙ first_true (not (bytes_eq name c.0)) (is_other_name name (names_of named)) h)
      (other_column name named (second_true (not (bytes_eq name c.0)) (is_other_name name (names_of named)) h))

  pub columns_differ : (named : List (List ℕ × ℕ)) → names_differ (names_of named) ≡ true → distinct_names (map (column_of_output slots) named) ≡ true
  columns_differ [] h = refl
  columns_differ (c ∷ named) h =
      let other = is_other_name c.0 (names_of named) in
      let rest = names_differ (names_of named) in
      both_true (not (has_column c.0 (map (column_of_output slots) named))) (distinct_names (map (column_of_output slots) named)) (other_column c.0 named (first_true other rest h))
      (columns_differ named (second_true other rest h))

-- ---- the outputs of valid code

outputs_of_program : (code : ProgramParts) (a b : Bool) → (a && (b && list_all output_fits code.outputs)) ≡ true → IsTrue (list_all output_fits code.outputs)
outputs_of_program code a b h = second_true b (list_all output_fits code.outputs) (second_true a (b && list_all output_fits code.outputs) h)

outputs_of_chain : (code : ProgramParts) (stages : List ProgramParts) → IsValidChain code stages → IsTrue (list_all output_fits code.outputs)
outputs_of_chain code [] h = outputs_of_program code _ _ (IsValidProgram.layout h)
outputs_of_chain code (stage ∷ stages) h = outputs_of_program code _ _ (IsValidProgram.layout h.0)

pub outputs_of_valid : (parts : StagedParts) → IsValidStaged parts → IsTrue (list_all output_fits parts.program.outputs)
outputs_of_valid parts valid = outputs_of_chain parts.program parts.stages (IsValidStaged.chain valid)

pub first_fits : (output : OutputPart) (outputs : List OutputPart) → IsTrue (list_all output_fits (output ∷ outputs)) → IsTrue (output_fits output)
first_fits output outputs h = first_true (output_fits output) (list_all output_fits outputs) h

pub others_fit : (output : OutputPart) (outputs : List OutputPart) → IsTrue (list_all output_fits (output ∷ outputs)) → IsTrue (list_all output_fits outputs)
others_fit output outputs h = second_true (output_fits output) (list_all output_fits outputs) h

pub ruleset outputs_fit = (first_fits, others_fit)
