-- The parts of a program are parts.
use Rattle.std.proofs.Common.{◌≡◌, ℕ, Bool, List, Option, Some, slice_get, refl}
use Rattle.ds2_base.specs.Bytes.{Bytes}
use Rattle.ds2_value.specs.declared.schema.Column.{Column}
use Rattle.ds2_value.specs.declared.ty.Ty.{Ty}
use Rattle.ds2_code.specs.declared.parts.ByPart.{ByPart}
use Rattle.ds2_code.specs.declared.parts.HashPart.{HashPart}
use Rattle.ds2_code.specs.declared.parts.HashTable.{HashTable}
use Rattle.ds2_code.specs.declared.parts.MethodPart.{MethodPart}
use Rattle.ds2_code.specs.declared.parts.OutputPart.{OutputPart}
use Rattle.ds2_code.specs.declared.parts.ParameterPart.{ParameterPart}
use Rattle.ds2_code.specs.declared.parts.ReadPart.{ReadPart}
use Rattle.ds2_code.specs.declared.parts.Slot.{Slot}
use Rattle.ds2_code.specs.declared.parts.SlotRole.{SlotRole}
use Rattle.ds2_code.specs.declared.parts.SlotRole.TheVariants.{Cleared, Kept, Column as ColumnRole, Flag}
use Rattle.ds2_code.specs.declared.parts.TableReference.{TableReference}
use Rattle.ds2_object_words.specs.Parts.{number32_part, ◌⨾◌, list_part, option_part}
use Rattle.ds2_object_words.specs.PartLaws.{IsLawfulPart}
use Rattle.ds2_object_words.specs.Words.{flag_part, name_part, table_name_part, type_part, column_part}
use Rattle.ds2_object_words.specs.CodeParts.{slot_role_values, slot_role_number, slot_role_part, slot_line, reference_line, hash_table_line, hash_line, method_parameter_line, method_line, read_line, by_line, output_line}
use Rattle.ds2_object_words.proofs.PartLemmas.{seen_as_law, option_law, listed_law}
use Rattle.ds2_object_words.proofs.NumberLemmas.{number32_law, list_law}
use Rattle.ds2_object_words.proofs.WordLemmas.{pair_law, flag_law, name_law, table_name_law, type_law, column_law}

role_found : (role : SlotRole) → slice_get slot_role_values (slot_role_number role) ≡ Some role
role_found Cleared = refl
role_found Kept = refl
role_found ColumnRole = refl
role_found Flag = refl

pub slot_role_law : IsLawfulPart slot_role_part
unfolding slot_role_part
slot_role_law = listed_law slot_role_number slot_role_values (refl, (refl, (refl, (refl, tt)))) role_found

numbers_law : IsLawfulPart (list_part number32_part)
numbers_law = list_law number32_part number32_law

pub slot_law : IsLawfulPart slot_line
unfolding slot_line
slot_law =
    seen_as_law (λ (x : Bytes × (Ty × SlotRole)). record { name = x.0; ty = x.1.0; role = x.1.1 }) (λ (s : Slot). (s.name, (s.ty, s.role)))
    (name_part ⨾ type_part ⨾ slot_role_part) (pair_law name_part (type_part ⨾ slot_role_part) name_law (pair_law type_part slot_role_part type_law slot_role_law))
    (λ a h. refl) (λ b h. refl)

pub reference_law : IsLawfulPart reference_line
unfolding reference_line
reference_law =
    seen_as_law (λ (x : Bytes × (ℕ × List Column)). record { name = x.0; maker = x.1.0; columns = x.1.1 }) (λ (r : TableReference). (r.name, (r.maker, r.columns)))
    (table_name_part ⨾ number32_part ⨾ list_part column_part)
    (pair_law table_name_part (number32_part ⨾ list_part column_part) table_name_law (pair_law number32_part (list_part column_part) number32_law (list_law column_part column_law)))
    (λ a h. refl) (λ b h. refl)

pub hash_table_law : IsLawfulPart hash_table_line
unfolding hash_table_line
hash_table_law =
    seen_as_law (λ (x : TableReference × (List ℕ × List ℕ)). record { table = x.0; key_columns = x.1.0; data_columns = x.1.1 })
    (λ (t : HashTable). (t.table, (t.key_columns, t.data_columns))) (reference_line ⨾ list_part number32_part ⨾ list_part number32_part)
    (pair_law reference_line (list_part number32_part ⨾ list_part number32_part) reference_law (pair_law (list_part number32_part) (list_part number32_part) numbers_law numbers_law))
    (λ a h. refl) (λ b h. refl)

pub hash_law : IsLawfulPart hash_line
unfolding hash_line
hash_law =
    seen_as_law (λ (x : List ℕ × (List ℕ × Option HashTable)). record { key_slots = x.0; data_slots = x.1.0; loaded = x.1.1 })
    (λ (h : HashPart). (h.key_slots, (h.data_slots, h.loaded))) (list_part number32_part ⨾ list_part number32_part ⨾ option_part hash_table_line)
    (pair_law (list_part number32_part) (list_part number32_part ⨾ option_part hash_table_line) numbers_law
    (pair_law (list_part number32_part) (option_part hash_table_line) numbers_law (option_law hash_table_line hash_table_law)))
    (λ a h. refl) (λ b h. refl)

pub parameter_law : IsLawfulPart method_parameter_line
unfolding method_parameter_line
parameter_law =
    seen_as_law (λ (x : Ty × Bool). record { ty = x.0; is_in_out = x.1 }) (λ (p : ParameterPart). (p.ty, p.is_in_out)) (type_part ⨾ flag_part)
    (pair_law type_part flag_part type_law flag_law) (λ a h. refl) (λ b h. refl)

pub method_law : IsLawfulPart method_line
unfolding method_line
method_law =
    seen_as_law (λ (x : ℕ × (List ParameterPart × (List Ty × Option Ty))). record { entry = x.0; parameters = x.1.0; locals = x.1.1.0; returns = x.1.1.1 })
    (λ (m : MethodPart). (m.entry, (m.parameters, (m.locals, m.returns))))
    (number32_part ⨾ list_part method_parameter_line ⨾ list_part type_part ⨾ option_part type_part)
    (pair_law number32_part (list_part method_parameter_line ⨾ list_part type_part ⨾ option_part type_part) number32_law
    (pair_law (list_part method_parameter_line) (list_part type_part ⨾ option_part type_part) (list_law method_parameter_line parameter_law)
    (pair_law (list_part type_part) (option_part type_part) (list_law type_part type_law) (option_law type_part type_law))))
    (λ a h. refl) (λ b h. refl)

pub read_law : IsLawfulPart read_line
unfolding read_line
read_law =
    seen_as_law (λ (x : TableReference × (Option ℕ × List ℕ)). record { table = x.0; present = x.1.0; slots = x.1.1 }) (λ (r : ReadPart). (r.table, (r.present, r.slots)))
    (reference_line ⨾ option_part number32_part ⨾ list_part number32_part)
    (pair_law reference_line (option_part number32_part ⨾ list_part number32_part) reference_law
    (pair_law (option_part number32_part) (list_part number32_part) (option_law number32_part number32_law) numbers_law))
    (λ a h. refl) (λ b h. refl)

pub by_law : IsLawfulPart by_line
unfolding by_line
by_law =
    seen_as_law (λ (x : ℕ × (Bool × (ℕ × ℕ))). record { slot = x.0; is_descending = x.1.0; first = x.1.1.0; last = x.1.1.1 })
    (λ (b : ByPart). (b.slot, (b.is_descending, (b.first, b.last)))) (number32_part ⨾ flag_part ⨾ number32_part ⨾ number32_part)
    (pair_law number32_part (flag_part ⨾ number32_part ⨾ number32_part) number32_law
    (pair_law flag_part (number32_part ⨾ number32_part) flag_law (pair_law number32_part number32_part number32_law number32_law)))
    (λ a h. refl) (λ b h. refl)

pub output_law : IsLawfulPart output_line
unfolding output_line
output_law =
    seen_as_law (λ (x : Bytes × (Bool × List (Bytes × ℕ))). record { name = x.0; overwrites = x.1.0; columns = x.1.1 }) (λ (o : OutputPart). (o.name, (o.overwrites, o.columns)))
    (table_name_part ⨾ flag_part ⨾ list_part (name_part ⨾ number32_part))
    (pair_law table_name_part (flag_part ⨾ list_part (name_part ⨾ number32_part)) table_name_law
    (pair_law flag_part (list_part (name_part ⨾ number32_part)) flag_law (list_law (name_part ⨾ number32_part) (pair_law name_part number32_part name_law number32_law))))
    (λ a h. refl) (λ b h. refl)
