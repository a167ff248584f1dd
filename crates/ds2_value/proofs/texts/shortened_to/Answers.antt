use Rattle.std.proofs.Common.{◌≡◌, ◌∙◌, ap, take, length, List, ℕ}
use Rattle.ds2_value.specs.Texts.{cut_to}
use Rattle.ds2_value.proofs.CutLemmas.{cut-seam, cut-front}
use Rattle.ds2_value.proofs.texts.shortened_to.Goals as goal

pub truncate-requires : goal.truncate-requires
truncate-requires c = λ h.
    let e : c.cut_to-kept.result.now ≡ cut_to c.args.n c.args.t = c.cut_to-kept.ensures ∙ ap (λ (t : List ℕ). cut_to c.args.n t) c.as_str.ensures in
    let seam = cut-seam c.args.n c.args.t c.as_bytes-bytes.ensures.utf8 in
    rw e (seam.0, λ some. seam.1)

pub returns-clause-text : goal.returns-clause-text
returns-clause-text c =
    let e : c.cut_to-kept.result.now ≡ cut_to c.args.n c.args.t = c.cut_to-kept.ensures ∙ ap (λ (t : List ℕ). cut_to c.args.n t) c.as_str.ensures in
    c.truncate.ensures ∙ ap (λ (xs : List ℕ). take (length xs) c.args.t) e ∙ cut-front c.args.n c.args.t c.as_bytes-bytes.ensures.utf8
