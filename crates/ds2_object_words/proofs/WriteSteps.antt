-- Spellings one behind the other.
use Rattle.std.proofs.Common.{◌≡◌, Bool, true, ◌&&◌, IsTrue, List, [], ◌∷◌, ◌++◌, length, nat_lt, ◌^◌, Option, Some, None, refl, sym, ap, ◌∙◌, append_assoc}
use Rattle.std.specs.List.{flat_map, list_all}
use Rattle.std.specs.Option.{option_map_or}
use Rattle.ds2_base.specs.Bytes.{Bytes}
use Rattle.ds2_value.specs.declared.schema.Column.{Column}
use Rattle.ds2_token.specs.Words.{is_table_name}
use Rattle.ds2_value.specs.Types.{in_bounds}
use Rattle.ds2_code.specs.ValidCode.{is_short, hash_table_short, hash_short, read_short, reference_allowed}
use Rattle.ds2_code.specs.declared.parts.ByPart.{ByPart}
use Rattle.ds2_code.specs.declared.parts.HashPart.{HashPart}
use Rattle.ds2_code.specs.declared.parts.HashTable.{HashTable}
use Rattle.ds2_code.specs.declared.parts.MethodPart.{MethodPart}
use Rattle.ds2_code.specs.declared.parts.OutputPart.{OutputPart}
use Rattle.ds2_code.specs.declared.parts.ParameterPart.{ParameterPart}
use Rattle.ds2_code.specs.declared.parts.ReadPart.{ReadPart}
use Rattle.ds2_code.specs.declared.parts.Slot.{Slot}
use Rattle.ds2_code.specs.declared.parts.TableReference.{TableReference}
use Rattle.ds2_object_words.specs.Parts.{FormatPart, number32_part, ◌⨾◌, checked_part, list_part, option_part, Writes, ItemsWritten}
use Rattle.ds2_object_words.specs.Words.{flag_part, name_part, table_name_part, type_part, column_part}
use Rattle.ds2_object_words.specs.CodeParts.{reference_spelled, hash_table_spelled, hash_spelled, read_spelled, slot_role_part, slot_line, reference_line, hash_table_line, hash_line, method_parameter_line, method_line, read_line, by_line, output_line}
use Rattle.ds2_object_words.proofs.PartLemmas.{both, and_true}
use Rattle.ds2_object_words.proofs.NumberLemmas.{number32_allows}

pub then_written : {A B : Type 0} {p : FormatPart A} {q : FormatPart B} {a b c : Bytes} {x : A} {y : B} → Writes p a x b → Writes q b y c → Writes (p ⨾ q) a (x, y) c
then_written {A} {B} {p} {q} {a} {b} {c} {x} {y} first second = record {
  bytes = second.bytes ∙ ap (λ (z : Bytes). z ++ q.spelled y) first.bytes ∙ append_assoc a (p.spelled x) (q.spelled y);
  allowed = and_true (p.allows x) (q.allows y) first.allowed second.allowed;
}

pub column_written : {a b c : Bytes} {x : Column} → Writes name_part a x.name b → Writes type_part b x.ty c → Writes column_part a x c
unfolding column_part
column_written m n = let k = then_written m n in record { bytes = k.bytes; allowed = k.allowed }

pub slot_written : {a b c d : Bytes} {x : Slot} → Writes name_part a x.name b → Writes type_part b x.ty c → Writes slot_role_part c x.role d → Writes slot_line a x d
unfolding slot_line
slot_written m n o = let k = then_written m (then_written n o) in record { bytes = k.bytes; allowed = k.allowed }

pub reference_written : {a b c d : Bytes} {x : TableReference} → Writes table_name_part a x.name b → Writes number32_part b x.maker c → Writes (list_part column_part) c x.columns d
    → Writes reference_line a x d
unfolding reference_line
reference_written m n o = let k = then_written m (then_written n o) in record { bytes = k.bytes; allowed = k.allowed }

pub hash_table_written : {a b c d : Bytes} {x : HashTable} → Writes reference_line a x.table b → Writes (list_part number32_part) b x.key_columns c
    → Writes (list_part number32_part) c x.data_columns d → Writes hash_table_line a x d
unfolding hash_table_line
hash_table_written m n o = let k = then_written m (then_written n o) in record { bytes = k.bytes; allowed = k.allowed }

pub hash_written : {a b c d : Bytes} {x : HashPart} → Writes (list_part number32_part) a x.key_slots b → Writes (list_part number32_part) b x.data_slots c
    → Writes (option_part hash_table_line) c x.loaded d → Writes hash_line a x d
unfolding hash_line
hash_written m n o = let k = then_written m (then_written n o) in record { bytes = k.bytes; allowed = k.allowed }

pub parameter_written : {a b c : Bytes} {x : ParameterPart} → Writes type_part a x.ty b → Writes flag_part b x.is_in_out c → Writes method_parameter_line a x c
unfolding method_parameter_line
parameter_written m n = let k = then_written m n in record { bytes = k.bytes; allowed = k.allowed }

pub method_written : {a b c d e : Bytes} {x : MethodPart} → Writes number32_part a x.entry b → Writes (list_part method_parameter_line) b x.parameters c
    → Writes (list_part type_part) c x.locals d → Writes (option_part type_part) d x.returns e → Writes method_line a x e
unfolding method_line
method_written m n o p = let k = then_written m (then_written n (then_written o p)) in record { bytes = k.bytes; allowed = k.allowed }

pub read_written : {a b c d : Bytes} {x : ReadPart} → Writes reference_line a x.table b → Writes (option_part number32_part) b x.present c
    → Writes (list_part number32_part) c x.slots d → Writes read_line a x d
unfolding read_line
read_written m n o = let k = then_written m (then_written n o) in record { bytes = k.bytes; allowed = k.allowed }

pub by_written : {a b c d e : Bytes} {x : ByPart} → Writes number32_part a x.slot b → Writes flag_part b x.is_descending c
    → Writes number32_part c x.first d → Writes number32_part d x.last e → Writes by_line a x e
unfolding by_line
by_written m n o p = let k = then_written m (then_written n (then_written o p)) in record { bytes = k.bytes; allowed = k.allowed }

pub output_written : {a b c d : Bytes} {x : OutputPart} → Writes table_name_part a x.name b → Writes flag_part b x.overwrites c
    → Writes (list_part (name_part ⨾ number32_part)) c x.columns d → Writes output_line a x d
unfolding output_line
output_written m n o = let k = then_written m (then_written n o) in record { bytes = k.bytes; allowed = k.allowed }

pub list_written : {A : Type 0} {p : FormatPart A} {a b c : Bytes} {xs : List A} → Writes number32_part a (length xs) b → ItemsWritten p b xs c → Writes (list_part p) a xs c
list_written {A} {p} {a} {b} {c} {xs} count items = record {
  bytes = items.bytes ∙ ap (λ (z : Bytes). z ++ flat_map p.spelled xs) count.bytes ∙ append_assoc a (number32_part.spelled (length xs)) (flat_map p.spelled xs);
  allowed = and_true (nat_lt (length xs) (2 ^ 32)) (list_all p.allows xs) (sym (number32_allows (length xs)) ∙ count.allowed) items.allowed;
}

pub checked_written : {A : Type 0} {p : FormatPart A} {a b : Bytes} {x : A} (rule : A → Bool) → Writes p a x b → IsTrue (rule x) → Writes (checked_part rule p) a x b
checked_written {A} {p} {a} {b} {x} rule written h = record { bytes = written.bytes; allowed = and_true (p.allows x) (rule x) written.allowed h }

-- items of which nothing is asked
pub any_items : {A : Type 0} (xs : List A) → list_all (λ x. true) xs ≡ true
any_items [] = refl
any_items (x ∷ xs) = any_items xs

-- what may be there, of which nothing is asked
pub any_option : {A : Type 0} (o : Option A) → option_map_or (λ x. true) o true ≡ true
any_option None = refl
any_option (Some x) = refl

-- ---- what is asked of a record, field by field

pub reference_name : (r : TableReference) → IsTrue (reference_spelled r) → IsTrue (is_table_name r.name)
reference_name r h = (both (is_table_name r.name) (list_all (λ (c : Column). in_bounds c.ty) r.columns) (both (reference_allowed r) (is_short r.columns) h).0).0

pub reference_columns : (r : TableReference) → IsTrue (reference_spelled r) → IsTrue (is_short r.columns && list_all (λ (c : Column). in_bounds c.ty) r.columns)
reference_columns r h =
    let k : IsTrue (reference_allowed r) × IsTrue (is_short r.columns) = both (reference_allowed r) (is_short r.columns) h in
    and_true (is_short r.columns) (list_all (λ (c : Column). in_bounds c.ty) r.columns) k.1
    (both (is_table_name r.name) (list_all (λ (c : Column). in_bounds c.ty) r.columns) k.0).1

pub short_items : {A : Type 0} (xs : List A) → IsTrue (is_short xs) → IsTrue (is_short xs && list_all (λ (x : A). true) xs)
short_items xs h = and_true (is_short xs) (list_all (λ x. true) xs) h (any_items xs)

-- the parts of what is asked of a hash object's table
pub record HashTableRules (t : HashTable) : Type 0 where
  pub table : IsTrue (reference_spelled t.table)
  pub keys : IsTrue (is_short t.key_columns)
  pub data_columns : IsTrue (is_short t.data_columns)

pub hash_table_rules : (t : HashTable) → IsTrue (hash_table_spelled t) → HashTableRules t
hash_table_rules t h =
    let k : IsTrue (reference_allowed t.table) × IsTrue (hash_table_short t) = both (reference_allowed t.table) (hash_table_short t) h in
    let m : IsTrue (is_short t.table.columns) × IsTrue (is_short t.key_columns && is_short t.data_columns) = both (is_short t.table.columns) (is_short t.key_columns && is_short t.data_columns) k.1 in
    let n : IsTrue (is_short t.key_columns) × IsTrue (is_short t.data_columns) = both (is_short t.key_columns) (is_short t.data_columns) m.1 in
    record { table = and_true (reference_allowed t.table) (is_short t.table.columns) k.0 m.0; keys = n.0; data_columns = n.1 }

pub hash_slots_short : (h : HashPart) → IsTrue (hash_spelled h) → IsTrue (is_short h.key_slots) × IsTrue (is_short h.data_slots)
hash_slots_short h e =
    let loaded = option_map_or (λ (t : HashTable). reference_allowed t.table) h.loaded true in
    let k : IsTrue (hash_short h) × IsTrue loaded = both (hash_short h) loaded e in
    both (is_short h.key_slots) (is_short h.data_slots) (both (is_short h.key_slots && is_short h.data_slots) (option_map_or hash_table_short h.loaded true) k.0).0

pub read_slots_short : (r : ReadPart) → IsTrue (read_spelled r) → IsTrue (is_short r.slots)
read_slots_short r h = (both (is_short r.table.columns) (is_short r.slots) (both (reference_allowed r.table) (read_short r) h).1).1
