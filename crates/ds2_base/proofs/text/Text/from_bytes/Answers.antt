use Rattle.std.proofs.Common.{◌≡◌, ℕ, List, Some, None, IsOk, cond, true, false, ap, refl, subst, sym, ◌∙◌}
use Rattle.std.proofs.lemmas.Str.{IsUtf8-from_is_utf8, IsUtf8-string_bytes, is_utf8-from_IsUtf8}
use Rattle.std.specs.Str.{IsUtf8, is_utf8}
use Rattle.ds2_base.specs.Text.{text_of}
use Rattle.ds2_base.proofs.text.Text.from_bytes.Goals as goal

some_text : (bytes : List ℕ) → IsUtf8 bytes → Some bytes ≡ text_of bytes
some_text bytes utf8 = λ i. cond (sym (is_utf8-from_IsUtf8 bytes utf8) i) (Some bytes) None

no_text : (bytes : List ℕ) → (IsUtf8 bytes → ⊥) → None ≡ text_of bytes
no_text bytes odd =
    elim (is_utf8 bytes) as (λ t. is_utf8 bytes ≡ t → None ≡ cond t (Some bytes) None) [
      | true ↦ λ e. absurd (odd (IsUtf8-from_is_utf8 bytes e))
      | false ↦ λ e. refl
    ] refl

pub returns-in-Ok : goal.returns-in-Ok
returns-in-Ok c =
    let same = ap (λ v. v.items) c.in-Ok.ensures.ok ∙ c.into_vec.ensures in
    ap (λ (x : List ℕ). Some x) (c.in_ok-from_string-in-Ok.ensures.text ∙ same) ∙ some_text c.args.bytes (subst IsUtf8 same (IsUtf8-string_bytes c.in-Ok.text))

pub returns : goal.returns
returns c =
    no_text c.args.bytes (λ utf8. let wrong : false ≡ true = subst IsOk c.in-Err.is (c.from_utf8.ensures.succeeds (subst IsUtf8 (sym c.into_vec.ensures) utf8)) in cc)
