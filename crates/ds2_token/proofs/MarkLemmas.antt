-- A text may be cut behind a byte order mark.
use Rattle.std.proofs.Common.{◌≡◌, true, [], ◌∷◌, ◌++◌, take, drop, refl, sym, ap, ◌∙◌, arith}
use Rattle.std.specs.Str.{IsUtf8, IsCharBoundary, bytes_eq}
use Rattle.std.proofs.Math.Utf8.{encode}
use Rattle.std.proofs.lemmas.Str.{IsCharBoundary-past_char}
use Rattle.std.proofs.lemmas.List.{take-append-drop}
use Rattle.std.proofs.lemmas.Slice.Eq.{bytes_eq-Decides}
use Rattle.ds2_base.specs.Bytes.{Bytes}

mark_encoded : encode 65279 ≡ 239 ∷ 187 ∷ 191 ∷ []
unfolding encode
mark_encoded = refl

pub behind_mark : (bs : Bytes) → IsUtf8 bs → bytes_eq (take 3 bs) (239 ∷ 187 ∷ 191 ∷ []) ≡ true → IsCharBoundary bs 3
behind_mark bs utf8 test =
    let front = (bytes_eq-Decides (take 3 bs) (239 ∷ 187 ∷ 191 ∷ [])).0 test in
    let whole : bs ≡ encode 65279 ++ drop 3 bs =
    sym (take-append-drop 3 bs) ∙ ap (λ (xs : Bytes). xs ++ drop 3 bs) (front ∙ sym mark_encoded) in
    IsCharBoundary-past_char bs (drop 3 bs) 0 65279 (omega arith) utf8 whole
