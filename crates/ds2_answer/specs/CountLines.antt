-- The lines of a text, and those among them that count instructions.
use Rattle.std.specs.Prelude.{ℕ, ◌-◌, ◌==◌, Bool, not, ◌&&◌, nat_eq, nat_lt, if◌then◌else◌, List, [], ◌∷◌, codes, drop, length, take}
use Rattle.std.specs.Char.{is_ascii_digit}
use Rattle.std.specs.List.{concat, ends_with, filter, list_all, starts_with}

-- lines whose first one begins with this character besides
abbrev pub with_character : ℕ → List (List ℕ) → List (List ℕ)
with_character c [] = (c ∷ []) ∷ []
with_character c (line ∷ lines) = (c ∷ line) ∷ lines

-- the lines of a text, each with its line feed; what stands behind the last line feed is a line without one
abbrev pub lines_of_text : List ℕ → List (List ℕ)
lines_of_text [] = []
lines_of_text (c ∷ cs) = if c == 10 then (c ∷ []) ∷ lines_of_text cs else with_character c (lines_of_text cs)

-- a line is `NOTE: `, digits and ` instructions.`, and nothing else
abbrev pub is_count_line : List ℕ → Bool
is_count_line line =
    nat_lt 21 (length line) && starts_with nat_eq line (codes "NOTE: ") && ends_with nat_eq line (codes " instructions.\n")
    && list_all is_ascii_digit (drop 6 (take (length line - 15) line))

-- a line that does not count instructions, and nothing of one that does
unfoldable pub line_kept : List ℕ → List ℕ
line_kept line = if is_count_line line then [] else line

-- the lines of a text without those that count instructions
abbrev pub lines_without_counts : List ℕ → List (List ℕ)
lines_without_counts text = filter (λ line. not (is_count_line line)) (lines_of_text text)

-- lines behind the beginning of the first of them
abbrev pub behind_beginning : List ℕ → List (List ℕ) → List (List ℕ)
behind_beginning [] lines = lines
behind_beginning (c ∷ cs) lines = with_character c (behind_beginning cs lines)

-- what is kept of a text behind the beginning of its first line
unfoldable pub kept_behind : (line rest : List ℕ) → List ℕ
kept_behind line rest = concat (filter (λ l. not (is_count_line l)) (behind_beginning line (lines_of_text rest)))
