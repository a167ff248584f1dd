-- Cells: a cell as it stands in a text, and what it spells.
use Rattle.std.specs.Prelude.{ℕ, suc, Bool, true, false, not, ◌==◌, ◌||◌, [], ◌∷◌, if◌then◌else◌}
use Rattle.std.specs.List.{position_or_len}
use Rattle.ds2_base.specs.Bytes.{Bytes}
use Rattle.csv.specs.Reading.{is_bom}
use Rattle.ds2_csv_records.specs.declared.cell.Cell.{Cell}
use Rattle.ds2_csv_records.specs.declared.cell.Cell.TheVariants.{Plain, Quoted}

-- a byte that ends a line: CR or LF
abbrev pub ends_line : ℕ → Bool
ends_line c = (c == 13) || (c == 10)

-- a byte that ends a cell without quotes: a comma or the end of a line
abbrev pub ends_cell : ℕ → Bool
ends_cell c = (c == 44) || ends_line c

-- how many bytes stand before the end of a cell without quotes
abbrev pub bare_len : Bytes → ℕ
bare_len text = position_or_len ends_cell text

-- a text that begins with a byte order mark
abbrev pub begins_mark : Bytes → Bool
begins_mark [] = false
begins_mark (a ∷ []) = false
begins_mark (a ∷ b ∷ []) = false
begins_mark (a ∷ b ∷ c ∷ cs) = is_bom a b c

-- how many bytes stand before the first quote
abbrev pub to_quote : Bytes → ℕ
to_quote text = position_or_len (λ c. c == 34) text

-- a text that begins with a quote
abbrev pub begins_quoted : Bytes → Bool
begins_quoted [] = false
begins_quoted (c ∷ cs) = c == 34

-- a text that begins with a comma
abbrev pub begins_comma : Bytes → Bool
begins_comma [] = false
begins_comma (c ∷ cs) = c == 44

-- a text that begins with the end of a cell, or has ended
abbrev pub begins_end : Bytes → Bool
begins_end [] = true
begins_end (c ∷ cs) = ends_cell c

-- what a cell with quotes spells, from within the quotes or from behind a quote that may close them: a quote that is doubled
-- stands for one, and what follows the closing quote belongs to the cell as it stands
unfoldable pub unquoted : Bool → Bytes → Bytes
unquoted within [] = []
unquoted true (c ∷ cs) = if c == 34 then unquoted false cs else c ∷ unquoted true cs
unquoted false (c ∷ cs) = if c == 34 then 34 ∷ unquoted true cs else c ∷ cs

-- how many bytes such a cell has in the text
unfoldable pub quoted_len : Bool → Bytes → ℕ
quoted_len within [] = 0
quoted_len true (c ∷ cs) = suc (quoted_len (not (c == 34)) cs)
quoted_len false (c ∷ cs) = if c == 34 then suc (quoted_len true cs) else bare_len (c ∷ cs)

-- what a cell spells
abbrev pub spelled : Cell → Bytes
spelled (Plain text) = text.now
spelled (Quoted text) = unquoted true text.now
