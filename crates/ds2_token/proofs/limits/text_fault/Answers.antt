use Rattle.std.proofs.Common.{◌≡◌, true, sym, ◌∙◌, rules}
use Rattle.ds2_token.specs.Forms.{is_text_form}
use Rattle.ds2_token.proofs.LimitLemmas.{content_short, content_is_text}
use Rattle.ds2_token.proofs.limits.text_fault.Goals as goal

pub returns-then-quoted-le-CONTENT_CHARACTERS : goal.returns-then-quoted-le-CONTENT_CHARACTERS
returns-then-quoted-le-CONTENT_CHARACTERS c =
    let form : is_text_form c.args.spelling.now ≡ true = search rules in
    content_short c.args.spelling.now c.requires.text form (search rules)

pub returns-in-None : goal.returns-in-None
returns-in-None c =
    let form : is_text_form c.args.spelling.now ≡ true = search rules in
    absurd (content_is_text c.args.spelling.now _ c.requires.text form (search rules) (sym c.in_ok-content.ensures ∙ c.in-None.is))
