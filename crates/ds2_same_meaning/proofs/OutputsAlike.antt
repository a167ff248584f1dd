-- The code of a typed program makes the tables that the program makes.
use Rattle.std.proofs.Common.{◌≡◌, ℕ, ◌+◌, List, [], ◌∷◌, map, slice_get, Option, Some, None, unwrap_or, refl, sym, ap, ◌∙◌}
use Rattle.std.specs.List.{AllByRecursion}
use Rattle.std.specs.Option.{option_map, option_map_or}
use Rattle.ds2_value.specs.Run.{Written}
use Rattle.ds2_value.specs.declared.ty.Ty.{Ty}
use Rattle.ds2_value.specs.declared.ty.Ty.TheVariants.{BigInt}
use Rattle.ds2_meaning.specs.declared.globals.OutputColumn.{OutputColumn}
use Rattle.ds2_meaning.specs.declared.globals.OutputTable.{OutputTable}
use Rattle.ds2_meaning.specs.declared.location.Global.TheVariants.{Named}
use Rattle.ds2_meaning.specs.IsTyped.{AreOutputColumns, AreTypedOutputs, IsTypedUnit, type_in}
use Rattle.ds2_meaning.specs.ProgramMeaning.{rows_written, tables_made}
use Rattle.ds2_meaning.specs.ProgramTree.{UnitTree, data_vector}
use Rattle.ds2_layout.specs.Layout.{program_slots, source_slot}
use Rattle.ds2_code.specs.OperandTypes.{slot_type}
use Rattle.ds2_code.specs.declared.parts.Slot.{Slot}
use Rattle.ds2_program_code.specs.CodeParts.{slot_of_global, code_slots, output_part}
use Rattle.ds2_program_code.proofs.Lists.{same_some}
use Rattle.ds2_program_code.proofs.Names.{slot_at_number}
use Rattle.ds2_program_code.proofs.Slots.{located, slot_numbered}
use Rattle.ds2_program_code.proofs.SlotTypes.{slot_has_type}
use Rattle.ds2_unit.specs.Outputs.{type_of_slot, column_of_output, tables_from}
use Rattle.ds2_same_meaning.specs.SameMeaning.{HasOutputSlots, OutputsHaveSlots, tables_of_outputs}

-- the type of a slot that is there
type_there : (o : Option Slot) (ty : Ty) → option_map (λ (s : Slot). s.ty) o ≡ Some ty → option_map_or (λ (s : Slot). s.ty) o BigInt ≡ ty
type_there None ty e = absurd (cc e)
type_there (Some s) ty e = same_some s.ty ty e

module _ (p : UnitTree) where
  source_type : (name : List ℕ) (ty : Ty) → type_in (data_vector p) name ≡ Some ty → slot_type (code_slots p) (source_slot (program_slots p) name) ≡ Some ty
  source_type name ty e =
      let it = slot_numbered p None (Named name) ty e in
      let is : source_slot (program_slots p) name ≡ slot_of_global p None (Named name) = ap (λ o. unwrap_or o 0) (slot_at_number p (located None (Named name)) it.0 it.1 ∙ sym it.1) in
      ap (λ n. slot_type (code_slots p) n) is ∙ slot_has_type p None (Named name) ty e

  column_type : (name : List ℕ) (ty : Ty) → type_in (data_vector p) name ≡ Some ty → type_of_slot (code_slots p) (source_slot (program_slots p) name) ≡ ty
  column_type name ty e = type_there (slice_get (code_slots p) (source_slot (program_slots p) name)) ty (source_type name ty e)

  columns_alike : (columns : List OutputColumn) → AreOutputColumns (data_vector p) columns
      → map (column_of_output (code_slots p)) (map (λ (c : OutputColumn). (c.name, source_slot (program_slots p) c.source)) columns)
      ≡ map (λ (c : OutputColumn). record { name = c.name; ty = c.ty }) columns
  columns_alike [] typed = refl
  columns_alike (c ∷ columns) typed = λ i. record { name = c.name; ty = column_type c.source c.ty typed.0 i } ∷ columns_alike columns typed.1 i

  pub outputs_alike : (number : ℕ) (outputs : List OutputTable) (rows : List Written) → AreTypedOutputs (data_vector p) outputs
      → tables_of_outputs (map (output_part p) outputs) (tables_from (code_slots p) number (map (output_part p) outputs) rows) ≡ tables_made number outputs rows
  outputs_alike number [] rows typed = refl
  outputs_alike number (o ∷ outputs) rows (some, schema, columns, others) =
      λ i. record { name = o.name; overwrites = o.overwrites; contents = record { columns = columns_alike o.columns columns i; rows = rows_written number rows } }
      ∷ outputs_alike (number + 1) outputs rows others i

  slots_of_columns : (columns : List OutputColumn) → AreOutputColumns (data_vector p) columns
      → AllByRecursion (λ (c : OutputColumn). slot_type (code_slots p) (source_slot (program_slots p) c.source) ≡ Some c.ty) columns
  slots_of_columns [] typed = tt
  slots_of_columns (c ∷ columns) typed = (source_type c.source c.ty typed.0, slots_of_columns columns typed.1)

  pub slots_of_outputs : (outputs : List OutputTable) → AreTypedOutputs (data_vector p) outputs → AllByRecursion (HasOutputSlots p) outputs
  slots_of_outputs [] typed = tt
  slots_of_outputs (o ∷ outputs) (some, schema, columns, others) = (slots_of_columns o.columns columns, slots_of_outputs outputs others)

-- each output of the code of a typed program has slots of the types of its columns
pub outputs_have_slots : OutputsHaveSlots
outputs_have_slots p typed = slots_of_outputs p p.outputs (IsTypedUnit.outputs typed)
