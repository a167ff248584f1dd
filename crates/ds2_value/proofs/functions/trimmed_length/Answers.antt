use Rattle.std.proofs.Common.{◌≡◌, ◌<◌, ◌^◌, ◌∙◌, ap, arith, length, min, pos}
use Rattle.std.specs.Int.{w64}
use Rattle.std.specs.Str.{chars}
use Rattle.std.proofs.lemmas.Int.{to_z_pos}
use Rattle.ds2_base.specs.Characters.{char_count}
use Rattle.ds2_value.specs.Texts.{trimmed, without_blanks}
use Rattle.ds2_value.proofs.TrimLemmas.{trimmed-count}
use Rattle.ds2_value.proofs.functions.trimmed_length.Goals as goal

pub returns : goal.returns
returns c =
    let bytes = c.as_str.result.now in
    let text : c.as_str.result.now ≡ c.args.t.now = c.as_str.ensures in
    let counted : c.char_count.result ≡ char_count (trimmed c.as_str.result.now) = c.char_count.ensures ∙ ap char_count c.trimmed.ensures in
    let size : c.len.result ≡ length c.as_str.result.now = rw text c.len.ensures.value in
    let least : min c.char_count.result c.len.result ≡ length (without_blanks (chars c.as_str.result.now)) = rw (counted, size) (trimmed-count c.as_str.result.now c.as_str.utf8) in
    let number : c.min.result ≡ length (without_blanks (chars c.args.t.now)) = rw text at (c.min.ensures ∙ least) in
    let small : c.min.result < 2 ^ 63 = omega (arith, c.min.ensures, c.len.ensures.small) in
    to_z_pos w64 c.min.result small ∙ ap (λ n. pos n) number
