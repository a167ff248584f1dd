use Rattle.std.proofs.Common.{◌≡◌, ◌+◌, ℕ, Err, ap, rules}
use Rattle.ds2_token.proofs.LexerSteps.{longest_along, next_is, err_next}
use Rattle.ds2_token.proofs.lexer.next_token.Goals as goal

pub returns-in_err-token : goal.returns-in_err-token
returns-in_err-token c =
    let same : c.from_residual.result ≡ Err c.in_err-token.field-0.0 = search rules in
    err_next c.args.place c.past.result c.args.text.now c.split_at.result.0.now c.split_at.result.1.now c.gap_len-gap.result c.in_err-token.field-0.0 c.from_residual.result
    (longest_along c.args.text.now c.as_bytes.result.now c.gap_len-gap.result c.as_bytes.ensures.value c.gap_len-gap.ensures.gap)
    c.split_at.ensures.front c.split_at.ensures.back c.past.ensures c.in_err-token.ensures same

pub returns : goal.returns
returns c =
    next_is c.args.place c.past.result c.args.text.now c.split_at.result.0.now c.split_at.result.1.now c.gap_len-gap.result
    (c.gap_len-gap.result + c.len.result) c.in_ok-token.token
    (longest_along c.args.text.now c.as_bytes.result.now c.gap_len-gap.result c.as_bytes.ensures.value c.gap_len-gap.ensures.gap)
    (search rules) c.split_at.ensures.front c.split_at.ensures.back c.past.ensures c.in_ok-token.ensures
    (ap (λ (k : ℕ). c.gap_len-gap.result + k) c.len.ensures.value)
