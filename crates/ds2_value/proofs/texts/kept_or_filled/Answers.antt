use Rattle.std.proofs.Common.{◌∙◌, List, ℕ, ap, sym}
use Rattle.ds2_base.specs.Characters.{char_count}
use Rattle.ds2_value.proofs.CutLemmas.{filled-whole}
use Rattle.ds2_value.proofs.texts.kept_or_filled.Goals as goal

pub returns-then-count-n-clause-text : goal.returns-then-count-n-clause-text
returns-then-count-n-clause-text c =
    filled-whole c.args.n c.args.t c.as_bytes-bytes.ensures.utf8
    (sym (ap (λ (t : List ℕ). char_count t) c.as_str.ensures) ∙ sym c.char_count-count.ensures ∙ c.if-count-n.true)
