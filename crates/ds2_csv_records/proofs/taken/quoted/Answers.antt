use Rattle.std.proofs.Common.{◌∙◌, ap, sym, List, ℕ, true}
use Rattle.ds2_csv_records.specs.Cells.{to_quote, quoted_len, begins_end}
use Rattle.ds2_csv_records.proofs.Reading.{quote-open, quote-closed, quote-inside, none-left}
use Rattle.ds2_csv_records.proofs.taken.quoted.Goals as goal

pub returns-then-is_empty-clause-taken : goal.returns-then-is_empty-clause-taken
returns-then-is_empty-clause-taken c cells =
    quote-open cells c.args.inside.now c.split_at.result.0.now c.split_at.result.1.now c.to_quote.result
    (c.to_quote.ensures.len ∙ ap (λ (t : List ℕ). to_quote t) c.as_bytes.ensures.value) c.split_at.ensures.front c.split_at.ensures.back
    (none-left c.split_at.result.1.now c.is_empty.result c.is_empty.ensures c.if-is_empty.true)
    ∙ c.ended.ensures.taken cells

pub returns-then-begins_end-clause-taken : goal.returns-then-begins_end-clause-taken
returns-then-begins_end-clause-taken c cells =
    quote-closed cells c.args.inside.now c.split_at.result.0.now c.split_at.result.1.now c.behind_quote-after.result.now c.to_quote.result
    (c.to_quote.ensures.len ∙ ap (λ (t : List ℕ). to_quote t) c.as_bytes.ensures.value) c.split_at.ensures.front c.split_at.ensures.back c.behind_quote-after.ensures
    (ap begins_end (sym c.as_bytes-2.ensures.value) ∙ sym c.begins_end.ensures ∙ c.if-begins_end.true)
    ∙ c.ended-then-begins_end.ensures.taken cells

pub returns-clause-taken : goal.returns-clause-taken
returns-clause-taken c cells =
    quote-inside cells c.args.inside.now c.split_at-2.result.0.now c.split_at-2.result.1.now c.quoted_len.result
    (c.quoted_len.ensures.len ∙ ap (λ (t : List ℕ). quoted_len true t) c.as_bytes-3.ensures.value) c.split_at-2.ensures.front c.split_at-2.ensures.back
    ∙ c.ended-2.ensures.taken cells
