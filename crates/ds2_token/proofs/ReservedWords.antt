-- The reserved words that begin with a letter.
use Rattle.std.proofs.Common.{◌≡◌, ◌≤◌, ℕ, List, [], ◌∷◌, length, map, get_or, arith, refl, sym, subst, ◌∙◌}
use Rattle.std.specs.List.{list_any}
use Rattle.std.specs.Char.{to_ascii_lowercase}
use Rattle.std.specs.Str.{bytes_eq}
use Rattle.ds2_token.specs.Words.{spells, reserved_words, spells_reserved}

-- which of these words letters are tells whether they are a reserved one, where no other reserved word begins with their first letter
pub words_from : (first : ℕ) (chosen : List (List ℕ)) → ((rest : List ℕ) → list_any (λ word. bytes_eq (first ∷ rest) word) chosen ≡ list_any (λ word. bytes_eq (first ∷ rest) word) reserved_words)
    → (letters : List ℕ) (l : ℕ) → 1 ≤ length letters → l ≡ to_ascii_lowercase (get_or letters 0 0) → l ≡ first → list_any (λ word. spells letters word) chosen ≡ spells_reserved letters
words_from first chosen same [] l some low e = absurd (omega arith)
words_from first chosen same (x ∷ xs) l some low e =
    subst (λ (k : ℕ). list_any (λ word. bytes_eq (k ∷ map to_ascii_lowercase xs) word) chosen ≡ list_any (λ word. bytes_eq (k ∷ map to_ascii_lowercase xs) word) reserved_words)
    (sym (sym low ∙ e)) (same (map to_ascii_lowercase xs))
