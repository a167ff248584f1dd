-- The rows of the tables of a reading statement fit its columns where the tables are those of the code.
use Rattle.std.proofs.Common.{◌≡◌, ℕ, zero, suc, List, [], ◌∷◌, map, drop, IsTrue, refl, ap, ◌∙◌, subst}
use Rattle.std.specs.List.{AllByRecursion}
use Rattle.ds2_value.specs.Row.{Row, Columns}
use Rattle.ds2_table.specs.Table.{Contents, IsTable, rows_fit}
use Rattle.ds2_meaning.specs.declared.readings.Input.{Input}
use Rattle.ds2_meaning.specs.declared.readings.Reading.{Reading}
use Rattle.ds2_meaning.specs.declared.readings.Reading.TheVariants as read
use Rattle.ds2_meaning.specs.IsTyped.{ReadsNoStage}
use Rattle.ds2_meaning.specs.ProgramTree.{UnitTree, OverTables}
use Rattle.ds2_meaning.specs.Reading.{TableRows, inputs_of, input_tables}
use Rattle.ds2_code.specs.declared.parts.ReadPart.{ReadPart}
use Rattle.ds2_program_code.specs.CodeParts.{hash_parts, input_part, reading_part}
use Rattle.ds2_program_code.specs.ProgramCode.{program_code}
use Rattle.ds2_code_answer.specs.CodeTables.{hash_references, reading_references, first_read_table, columns_named, columns_had, AreTablesOfCode, rows_of_each}
use Rattle.ds2_same_meaning.specs.SameAnswer.{staged_code}
use Rattle.ds2_same_meaning.proofs.LoadsAlike.{map_append}
use Rattle.ds2_same_meaning.proofs.OpeningsAlike.{drop_front, drop_mapped}

-- the columns of the tables of a reading statement
abbrev columns_of_inputs : List Input → List Columns
columns_of_inputs inputs = map (λ (input : Input). input.columns) inputs

inputs_named : (p : UnitTree) (inputs : List Input) → map columns_named (map (λ (r : ReadPart). r.table) (map (input_part p) inputs)) ≡ columns_of_inputs inputs
inputs_named p [] = refl
inputs_named p (i ∷ inputs) = ap (λ r. i.columns ∷ r) (inputs_named p inputs)

reading_named : (p : UnitTree) (r : Reading) → ReadsNoStage r → map columns_named (reading_references (reading_part p r)) ≡ columns_of_inputs (inputs_of r)
reading_named p read.Nothing none = refl
reading_named p read.Once none = refl
reading_named p (read.Set inputs bys) none = inputs_named p inputs
reading_named p (read.Merge inputs bys retains) none = inputs_named p inputs
reading_named p (read.From instance workers columns) none = absurd none

all_dropped : {A : Type 0} (P : A → Type 0) (n : ℕ) (xs : List A) → AllByRecursion P xs → AllByRecursion P (drop n xs)
all_dropped P zero xs all = all
all_dropped P (suc n) [] all = tt
all_dropped P (suc n) (x ∷ xs) all = all_dropped P n xs all.1

first_same : {A : Type 0} (x y : A) (xs ys : List A) → x ∷ xs ≡ y ∷ ys → x ≡ y
first_same x y xs ys e = cc

others_same : {A : Type 0} (x y : A) (xs ys : List A) → x ∷ xs ≡ y ∷ ys → xs ≡ ys
others_same x y xs ys e = cc

tables_fit : (tables : TableRows) (contents : List Contents) (inputs : List Input) → rows_of_each contents ≡ input_tables tables inputs → map columns_had contents ≡ columns_of_inputs inputs
    → AllByRecursion IsTable contents → AllByRecursion (λ (input : Input). IsTrue (rows_fit (tables input.table) input.columns)) inputs
tables_fit tables contents [] rows columns all = tt
tables_fit tables [] (i ∷ inputs) rows columns all = absurd (cc rows)
tables_fit tables (c ∷ contents) (i ∷ inputs) rows columns all =
    let own : c.rows ≡ tables i.table = first_same c.rows (tables i.table) (rows_of_each contents) (input_tables tables inputs) rows in
    let named : c.columns ≡ i.columns = first_same c.columns i.columns (map columns_had contents) (columns_of_inputs inputs) columns in (
      subst (λ (cs : Columns). IsTrue (rows_fit (tables i.table) cs)) named (subst (λ (rs : List Row). IsTrue (rows_fit rs c.columns)) own (IsTable.rows all.0)),
      tables_fit tables contents inputs (others_same c.rows (tables i.table) (rows_of_each contents) (input_tables tables inputs) rows)
          (others_same c.columns i.columns (map columns_had contents) (columns_of_inputs inputs) columns) all.1,
    )

pub rows_read_fit : (p : UnitTree) → ReadsNoStage p.reading → (tables : TableRows) (contents : List Contents) → rows_of_each (drop (first_read_table (program_code p)) contents) ≡ input_tables tables (inputs_of p.reading)
    → AllByRecursion IsTable contents → AreTablesOfCode (staged_code (OverTables p)) contents → AllByRecursion (λ (input : Input). IsTrue (rows_fit (tables input.table) input.columns)) (inputs_of p.reading)
rows_read_fit p reads tables contents here all are =
    let n = first_read_table (program_code p) in
    let own = hash_references (hash_parts p) in
    let others = reading_references (reading_part p p.reading) in
    let columns : map columns_had (drop n contents) ≡ columns_of_inputs (inputs_of p.reading) =
    drop_mapped columns_had n contents ∙ ap (λ cs. drop n cs) (are ∙ map_append columns_named own others) ∙ drop_front columns_named own (map columns_named others) ∙ reading_named p p.reading reads in
    tables_fit tables (drop n contents) (inputs_of p.reading) here columns (all_dropped IsTable n contents all)
