-- Lines of a text that are made byte by byte.
use Rattle.std.proofs.Common.{◌≡◌, ◌==◌, ◌∙◌, ◌<◌, ℕ, Bool, true, false, cond, not, List, [], ◌∷◌, ◌++◌, length, refl, sym, ap, arith, append_assoc}
use Rattle.std.proofs.lemmas.List.{append-nil}
use Rattle.std.specs.List.{concat, filter}
use Rattle.ds2_answer.specs.CountLines.{behind_beginning, is_count_line, kept_behind, line_kept, lines_of_text, lines_without_counts, with_character}

-- these lines without those that count instructions, one behind the other
abbrev kept : List (List ℕ) → List ℕ
kept lines = concat (filter (λ line. not (is_count_line line)) lines)

-- the lines of a text whose first byte ends a line, or does not
abbrev lines_by : Bool → ℕ → List ℕ → List (List ℕ)
lines_by ends byte rest = cond ends ((byte ∷ []) ∷ lines_of_text rest) (with_character byte (lines_of_text rest))

longer_line : (line : List ℕ) (c : ℕ) (lines : List (List ℕ)) → behind_beginning line (with_character c lines) ≡ behind_beginning (line ++ c ∷ []) lines
longer_line [] c lines = refl
longer_line (x ∷ xs) c lines = ap (with_character x) (longer_line xs c lines)

ended_line : (line : List ℕ) (c : ℕ) (lines : List (List ℕ)) → behind_beginning line ((c ∷ []) ∷ lines) ≡ (line ++ c ∷ []) ∷ lines
ended_line [] c lines = refl
ended_line (x ∷ xs) c lines = ap (with_character x) (ended_line xs c lines)

last_line : (x : ℕ) (xs : List ℕ) → behind_beginning (x ∷ xs) [] ≡ (x ∷ xs) ∷ []
last_line x [] = refl
last_line x (y ∷ ys) = ap (with_character x) (last_line y ys)

first_by : (counts : Bool) (line : List ℕ) (lines : List (List ℕ)) (more : List ℕ) → more ≡ kept lines → concat (cond (not counts) (line ∷ filter (λ l. not (is_count_line l)) lines) (filter (λ l. not (is_count_line l)) lines)) ≡ cond counts [] line ++ more
first_by true line lines more is = sym is
first_by false line lines more is = ap (λ (t : List ℕ). line ++ t) (sym is)

first_kept : (line : List ℕ) (lines : List (List ℕ)) → kept (line ∷ lines) ≡ line_kept line ++ kept lines
unfolding line_kept
first_kept line lines = first_by (is_count_line line) line lines (kept lines) refl

-- the line goes on with this byte
pub goes_on : (line : List ℕ) (byte : ℕ) (longer rest log : List ℕ) → (byte == 10) ≡ false → longer ≡ line ++ byte ∷ [] → log ++ kept_behind longer rest ≡ log ++ kept_behind line (byte ∷ rest)
unfolding kept_behind
goes_on line byte longer rest log more is = ap (λ (t : List ℕ). log ++ t) (
    ap (λ (l : List ℕ). kept (behind_beginning l (lines_of_text rest))) is
    ∙ ap kept (sym (longer_line line byte (lines_of_text rest)))
    ∙ ap (λ ends. kept (behind_beginning line (lines_by ends byte rest))) (sym more))

-- the line ends with this byte
pub line_ends : (line : List ℕ) (byte : ℕ) (longer rest log new : List ℕ) → (byte == 10) ≡ true → longer ≡ line ++ byte ∷ [] → new ≡ log ++ line_kept longer
    → new ++ kept_behind [] rest ≡ log ++ kept_behind line (byte ∷ rest)
unfolding kept_behind
line_ends line byte longer rest log new ends is said =
    ap (λ (t : List ℕ). t ++ kept (lines_of_text rest)) (said ∙ ap (λ (l : List ℕ). log ++ line_kept l) is)
    ∙ append_assoc log (line_kept (line ++ byte ∷ [])) (kept (lines_of_text rest))
    ∙ ap (λ (t : List ℕ). log ++ t) (sym (first_kept (line ++ byte ∷ []) (lines_of_text rest)) ∙ ap kept (sym (ended_line line byte (lines_of_text rest)))
    ∙ ap (λ b. kept (behind_beginning line (lines_by b byte rest))) (sym ends))

-- nothing stands behind the line
text_ends : (line : List ℕ) → kept_behind line [] ≡ line_kept line
unfolding line_kept kept_behind
text_ends [] = refl
text_ends (x ∷ xs) = ap kept (last_line x xs) ∙ first_kept (x ∷ xs) [] ∙ append-nil (line_kept (x ∷ xs))

-- the last line was said
pub all_read : (log start line left new text : List ℕ) → left ≡ [] → new ≡ log ++ line_kept line → log ++ kept_behind line left ≡ start ++ kept_behind [] text
    → new ≡ start ++ concat (lines_without_counts text)
unfolding kept_behind
all_read log start line left new text none said so_far =
    said ∙ ap (λ (t : List ℕ). log ++ t) (sym (text_ends line)) ∙ ap (λ (rest : List ℕ). log ++ kept_behind line rest) (sym none) ∙ so_far

-- no byte is left
pub none_left : (bytes : List ℕ) → length bytes < 1 → bytes ≡ []
none_left [] none = refl
none_left (b ∷ bytes) none = absurd (omega arith)
