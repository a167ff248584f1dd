-- The text of a cell between quotes, byte by byte.
use Rattle.std.proofs.Common.{◌≡◌, ◌∷◌, ◌++◌, [], ℕ, List, length, drop, take, get_or, ◌-◌, sym, ap, ◌∙◌, append_assoc, arith}
use Rattle.std.specs.Prelude.{◌≤◌, ◌<◌}
use Rattle.std.proofs.lemmas.List.{append-nil, take_all}
use Rattle.csv.specs.Writing.{default_writer, escaped}
use Rattle.csv.proofs.WriteFacts.{escaped-append}

-- one more byte
pub escaped_took : (out new whole rest : List ℕ) → 1 ≤ length rest → new ≡ out ++ escaped default_writer (get_or rest 0 0 ∷ []) → out ++ escaped default_writer rest ≡ whole
    → new ++ escaped default_writer (take (length rest - 1) (drop 1 rest)) ≡ whole
escaped_took out new whole [] some more before = absurd (omega arith)
escaped_took out new whole (c ∷ cs) some more before =
    let same : take (length (c ∷ cs) - 1) cs ≡ cs = take_all (length (c ∷ cs) - 1) cs (omega arith) in
    ap (λ (t : List ℕ). new ++ escaped default_writer t) same
    ∙ ap (λ (t : List ℕ). t ++ escaped default_writer cs) more ∙ append_assoc out (escaped default_writer (c ∷ [])) (escaped default_writer cs)
    ∙ ap (λ (t : List ℕ). out ++ t) (sym (escaped-append default_writer (c ∷ []) cs)) ∙ before

pub escaped_done : (out whole rest : List ℕ) → length rest < 1 → out ++ escaped default_writer rest ≡ whole → out ≡ whole
unfolding escaped
escaped_done out whole [] l before = sym (append-nil out) ∙ before
escaped_done out whole (c ∷ cs) l before = absurd (omega arith)
