use Rattle.std.proofs.Common.{◌≡◌, ℕ, List, ◌+◌, ◌-◌, ◌++◌, ap, ◌∙◌, sym, subst, length, replicate, take, arith}
use Rattle.std.proofs.lemmas.Str.{is_utf8-from_IsUtf8}
use Rattle.std.specs.Str.{IsUtf8}
use Rattle.ds2_base.proofs.ShortTexts.{filled_front, filled_utf8}
use Rattle.ds2_base.proofs.short_text.ShortText.filled.Goals as goal

front : (c : goal.After-with_blanks) → take (length c.args.text.now + c.args.blanks) c.with_blanks.result ≡ c.args.text.now ++ replicate c.args.blanks 32
front c =
    let made = c.with_blanks.ensures ∙ ap (λ (t : List ℕ). t ++ replicate (22 - length t) 32) c.as_bytes.ensures.value in
    ap (λ (bytes : List ℕ). take (length c.args.text.now + c.args.blanks) bytes) made
    ∙ filled_front c.args.text.now c.args.blanks (22 - length c.args.text.now) c.if-blanks-text.false

pub invariant_of-result : goal.invariant_of-result
invariant_of-result c = (
  omega (arith, c.if-blanks-text.false, c.if-text-gt-SHORT_TEXT_BYTES.false),
  ∣ subst IsUtf8 (sym (front c)) (filled_utf8 c.args.text.now c.args.blanks c.utf8.text) ∣₁,
)

pub returns-clause-bytes : goal.returns-clause-bytes
returns-clause-bytes c = front c

pub returns-clause-utf8 : goal.returns-clause-utf8
returns-clause-utf8 c = is_utf8-from_IsUtf8 _ (subst IsUtf8 (sym (front c)) (filled_utf8 c.args.text.now c.args.blanks c.utf8.text))
