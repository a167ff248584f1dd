use Rattle.std.proofs.Common.{◌∙◌, ap, sym, List, ℕ, ◌++◌, ◌∷◌, []}
use Rattle.ds2_csv_records.specs.Cells.{to_quote, begins_quoted}
use Rattle.ds2_csv_records.proofs.Cells.{part-last, part-quote, part-rest, behind-quoted, none-shorter, two-shorter}
use Rattle.ds2_csv_records.proofs.cell.add_part.Goals as goal

pub returns-then-is_empty : goal.returns-then-is_empty
returns-then-is_empty c =
    let n = c.to_quote.ensures.len ∙ ap (λ (t : List ℕ). to_quote t) c.as_bytes.ensures.value in
    record {
      spelled = part-last _ _ c.split_at.result.0.now c.split_at.result.1.now c.args.rest.now c.to_quote.result n c.split_at.ensures.front c.split_at.ensures.back c.in_ok-push_str.ensures.bytes;
      shorter = none-shorter c.args.rest.now c.split_at.result.1.now c.is_empty.result c.is_empty.ensures c.if-is_empty.true;
    }

pub returns-then-begins_quoted : goal.returns-then-begins_quoted
returns-then-begins_quoted c =
    let n = c.to_quote.ensures.len ∙ ap (λ (t : List ℕ). to_quote t) c.as_bytes.ensures.value in
    let first = behind-quoted c.args.rest.now c.split_at.result.1.now c.to_quote.result c.is_empty.result n c.split_at.ensures.back c.is_empty.ensures c.if-is_empty.false in
    let second = ap begins_quoted (sym c.as_bytes-2.ensures.value) ∙ sym c.begins_quoted.ensures ∙ c.if-begins_quoted.true in
    record {
      spelled = part-quote _ _ c.split_at.result.0.now c.split_at.result.1.now c.behind_quote-after.result.now c.behind_quote.result.now c.args.rest.now c.to_quote.result n
          c.split_at.ensures.front c.split_at.ensures.back first c.behind_quote-after.ensures second c.behind_quote.ensures
          (c.in_ok-push_str-2.ensures.bytes ∙ ap (λ (t : List ℕ). t ++ (34 ∷ [])) c.in_ok-push_str.ensures.bytes);
      shorter = two-shorter c.args.rest.now c.split_at.result.1.now c.behind_quote-after.result.now c.behind_quote.result.now c.to_quote.result
          c.split_at.ensures.back c.behind_quote-after.ensures c.behind_quote.ensures;
    }

pub returns : goal.returns
returns c =
    let n = c.to_quote.ensures.len ∙ ap (λ (t : List ℕ). to_quote t) c.as_bytes.ensures.value in
    let first = behind-quoted c.args.rest.now c.split_at.result.1.now c.to_quote.result c.is_empty.result n c.split_at.ensures.back c.is_empty.ensures c.if-is_empty.false in
    let second = ap begins_quoted (sym c.as_bytes-2.ensures.value) ∙ sym c.begins_quoted.ensures ∙ c.if-begins_quoted.false in
    record {
      spelled = part-rest _ _ c.split_at.result.0.now c.split_at.result.1.now c.behind_quote-after.result.now c.args.rest.now c.to_quote.result n
          c.split_at.ensures.front c.split_at.ensures.back first c.behind_quote-after.ensures second
          (c.in_ok-push_str-3.ensures.bytes ∙ ap (λ (t : List ℕ). t ++ c.behind_quote-after.result.now) c.in_ok-push_str.ensures.bytes);
      shorter = λ l. l;
    }
