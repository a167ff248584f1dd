-- The first bytes of a text with blanks behind it.
use Rattle.std.proofs.Common.{◌≡◌, ℕ, zero, suc, ◌+◌, ◌≤◌, List, [], ◌∷◌, ◌++◌, length, take, replicate, refl, ap, ◌∙◌, arith}
use Rattle.std.proofs.lemmas.Str.{IsUtf8-append, IsUtf8-from_ascii}
use Rattle.std.proofs.lemmas.List.{replicate-append-replicate, append_assoc}
use Rattle.std.proofs.Math.Seq.{take-append-add}
use Rattle.std.specs.Str.{IsUtf8, IsAscii}

take-replicate : (k n a : ℕ) → k ≤ n → take k (replicate n a) ≡ replicate k a
take-replicate zero n a h = refl
take-replicate (suc k) zero a h = absurd (omega (arith, h))
take-replicate (suc k) (suc n) a h = ap (λ xs. a ∷ xs) (take-replicate k n a (omega (arith, h)))

pub filled_front : (text : List ℕ) (blanks n : ℕ) → blanks ≤ n → take (length text + blanks) (text ++ replicate n 32) ≡ text ++ replicate blanks 32
filled_front text blanks n h = take-append-add text (replicate n 32) blanks ∙ ap (λ xs. text ++ xs) (take-replicate blanks n 32 h)

blanks_ascii : (n : ℕ) → IsAscii (replicate n 32)
blanks_ascii zero i = omega arith
blanks_ascii (suc n) zero = omega arith
blanks_ascii (suc n) (suc i) = blanks_ascii n i

pub filled_utf8 : (text : List ℕ) (blanks : ℕ) → IsUtf8 text → IsUtf8 (text ++ replicate blanks 32)
filled_utf8 text blanks h = IsUtf8-append text (replicate blanks 32) h (IsUtf8-from_ascii (replicate blanks 32) (blanks_ascii blanks))

replicate-more : (n a : ℕ) → replicate n a ++ a ∷ [] ≡ replicate (n + 1) a
replicate-more n a = replicate-append-replicate n 1 a

pub blank_more : (bytes text : List ℕ) (n : ℕ) → bytes ≡ text ++ replicate n 32 → bytes ++ 32 ∷ [] ≡ text ++ replicate (n + 1) 32
blank_more bytes text n e = ap (λ (t : List ℕ). t ++ 32 ∷ []) e ∙ append_assoc text (replicate n 32) (32 ∷ []) ∙ ap (λ (t : List ℕ). text ++ t) (replicate-more n 32)
