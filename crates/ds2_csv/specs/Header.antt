-- The header: what a header cell tells of its column.
use Rattle.std.specs.Prelude.{ℕ, ◌+◌, Bool, not, nat_eq, List, [], ◌∷◌, ◌++◌, length, take, drop, map, Option, Some, None, Result, Ok, Err, option_map, if◌then◌else◌}
use Rattle.std.specs.List.{list_any, prefix_len}
use Rattle.std.specs.Option.{option_map_or, option_or}
use Rattle.std.specs.Char.{to_ascii_lowercase}
use Rattle.std.specs.Cmp.Lexicographic.{pointwise}
use Rattle.ds2_base.specs.Bytes.{Bytes}
use Rattle.ds2_base.specs.Name.{name_of}
use Rattle.ds2_base.specs.declared.name.BadName.{BadName}
use Rattle.ds2_value.specs.declared.ty.Ty.{Ty}
use Rattle.ds2_csv_cells.specs.Spelling.{is_blank, bounded, type_spelled}
use Rattle.ds2_csv.specs.Refusals.{of_column}
use Rattle.ds2_csv.specs.declared.heading.Heading.{Heading}
use Rattle.ds2_csv.specs.declared.refusal.CsvKind.{CsvKind}
use Rattle.ds2_csv.specs.declared.refusal.CsvKind.TheVariants.{BadHeader, BadType, DuplicateColumn}
use Rattle.ds2_csv.specs.declared.refusal.CsvRefusal.{CsvRefusal}

-- the place of the last item that passes a test
abbrev pub last_place : (ℕ → Bool) → Bytes → Option ℕ
last_place test [] = None
last_place test (c ∷ cs) = option_or (option_map (λ i. i + 1) (last_place test cs)) (if test c then Some 0 else None)

-- the cell without the blanks at its end
abbrev pub without_last_blanks : Bytes → Bytes
without_last_blanks cell = take (option_map_or (λ i. i + 1) (last_place (λ c. not (is_blank c)) cell) 0) cell

-- the cell without the blanks at both ends
abbrev pub trimmed_cell : Bytes → Bytes
trimmed_cell cell = drop (prefix_len is_blank (without_last_blanks cell)) (without_last_blanks cell)

-- the column of a name, without a type
abbrev pub plain_heading : Result Bytes BadName → Result Heading CsvKind
plain_heading (Ok name) = Ok (record { name = name; ty = None })
plain_heading (Err bad) = Err BadHeader

-- the column of a name and a type, whose numbers are in their range
abbrev pub typed_heading : Bytes → Option Ty → Result Heading CsvKind
typed_heading name None = Err BadType
typed_heading name (Some ty) = Ok (record { name = name; ty = Some ty })

-- the column of a text, of which a first part may be a name and a last part spell a type
abbrev pub heading_by : Bytes → Result Bytes BadName → Option Ty → Result Heading CsvKind
heading_by text (Ok name) (Some ty) = typed_heading name (bounded ty)
heading_by text (Ok name) None = plain_heading (name_of text)
heading_by text (Err bad) ty = plain_heading (name_of text)

-- the column of a text: a name, one blank and a type, or else a name
unfoldable pub heading_of_text : Bytes → Result Heading CsvKind
heading_of_text text =
    option_map_or (λ i. heading_by text (name_of (take i text)) (type_spelled (drop (i + 1) text))) (last_place is_blank text) (plain_heading (name_of text))

-- the column of a header cell, which is read in lower case and without blanks at its ends
unfoldable pub heading_of : Bytes → Result Heading CsvKind
heading_of cell = heading_of_text (trimmed_cell (map to_ascii_lowercase cell))

-- one of the columns has this name
abbrev pub is_taken : Bytes → List Heading → Bool
is_taken name headings = list_any (λ h. pointwise nat_eq h.name name) headings

-- the heading of a column that comes after others, none of which has its name
abbrev pub distinct_heading : List Heading → ℕ → Result Heading CsvKind → Result Heading CsvRefusal
distinct_heading before column (Ok h) = if is_taken h.name before then Err (of_column DuplicateColumn column) else Ok h
distinct_heading before column (Err kind) = Err (of_column kind column)

-- goes on behind the headings that were read with one more, or ends with its refusal
abbrev pub and_headings : (List Heading → Result (List Heading) CsvRefusal) → List Heading → Result Heading CsvRefusal → Result (List Heading) CsvRefusal
and_headings more before (Ok h) = more (before ++ h ∷ [])
and_headings more before (Err refusal) = Err refusal

-- the headings of header cells behind those that were read, or the first refusal from the left
unfoldable pub headings_after : List Heading → List Bytes → Result (List Heading) CsvRefusal
headings_after before [] = Ok before
headings_after before (cell ∷ cells) =
    and_headings (λ more. headings_after more cells) before (distinct_heading before (length before + 1) (heading_of cell))

-- the headings of all header cells
abbrev pub headings_of : List Bytes → Result (List Heading) CsvRefusal
headings_of cells = headings_after [] cells
