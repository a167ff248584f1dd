use Rattle.std.proofs.Common.{◌≡◌, ◌∙◌, ◌≤◌, ℕ, List, subst, length}
use Rattle.std.proofs.lemmas.Str.{IsUtf8-from_is_utf8}
use Rattle.std.specs.Prelude.{Some, None, slice_get}
use Rattle.ds2_base.specs.Bytes.{Bytes}
use Rattle.ds2_columns.specs.Texts.{texts_between}
use Rattle.ds2_columns.proofs.TextRuns.{no_text, texts_utf8}
use Rattle.ds2_columns.proofs.texts.Texts.get.Goals as goal

pub returns-then-row-ends : goal.returns-then-row-ends
returns-then-row-ends c =
    let P : List Bytes → Type 0 = λ texts. None ≡ slice_get texts c.args.row in
    let past : length c.self.inside.ends ≤ c.args.row = subst (λ (es : List ℕ). length es ≤ c.args.row) c.as_slice-ends.ensures c.if-row-ends.true in
    subst P c.self.view_is (no_text c.self.inside.ends c.self.inside.bytes c.args.row past)

pub from_utf8_unchecked-requires : goal.from_utf8_unchecked-requires
from_utf8_unchecked-requires c =
    let text : Some c.bytes_in_row-bytes.result.now ≡ slice_get (texts_between 0 c.self.inside.ends c.self.inside.bytes) c.args.row =
    c.bytes_in_row-bytes.ensures ∙ (λ i. slice_get (texts_between 0 (c.as_slice-ends.ensures i) (c.as_slice.ensures i)) c.args.row) in
    IsUtf8-from_is_utf8 c.bytes_in_row-bytes.result.now (texts_utf8 c.self.inside.ends c.self.inside.bytes c.args.row c.bytes_in_row-bytes.result.now c.self.invariant text)
