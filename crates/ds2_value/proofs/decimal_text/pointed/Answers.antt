use Rattle.std.proofs.Common.{◌≡◌, ◌++◌, ◌∷◌, string_bytes, refl, ◌∙◌}
use Rattle.std.proofs.lemmas.Result.{IfOk-weaker}
use Rattle.std.specs.Fmt.{decimal, styled_decimal, format_spec}
use Rattle.ds2_value.proofs.PowerLemmas.{styled-wide}
use Rattle.ds2_value.proofs.decimal_text.pointed.Goals as goal

pub returns : goal.returns
returns c = IfOk-weaker c.format.result _ _ (λ s h.
    let e = rw c.laid_out.ensures at h in
    let t : string_bytes s ≡ c.args.sign.now ++ (decimal c.args.whole ++ 46 ∷ styled_decimal (format_spec 32 0 4 c.args.width 18446744073709551615) c.args.rest) = e in
    t ∙ rw (styled-wide c.args.width c.args.rest c.requires) refl) c.format.ensures.ok
