use Rattle.std.proofs.Common.{◌∙◌, List, sym, ap, length}
use Rattle.ds2_base.specs.Bytes.{Bytes}
use Rattle.ds2_columns.proofs.TextRuns.{as_many_texts}
use Rattle.ds2_columns.proofs.texts.Texts.len.Goals as goal

pub returns : goal.returns
returns c =
    c.len.ensures ∙ sym (as_many_texts 0 c.self.inside.ends c.self.inside.bytes) ∙ ap (λ (texts : List Bytes). length texts) c.self.view_is
