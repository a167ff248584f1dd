use Rattle.std.proofs.Common.{◌∙◌, ap, List, ℕ}
use Rattle.ds2_csv_records.specs.Cells.{bare_len}
use Rattle.ds2_csv_records.proofs.Reading.{bare-taken}
use Rattle.ds2_csv_records.proofs.taken.bare.Goals as goal

pub returns-clause-taken : goal.returns-clause-taken
returns-clause-taken c cells =
    bare-taken cells c.args.text.now c.split_at.result.0.now c.split_at.result.1.now c.bare_len.result c.requires
    (c.bare_len.ensures.len ∙ ap (λ (t : List ℕ). bare_len t) c.as_bytes.ensures.value) c.split_at.ensures.front c.split_at.ensures.back
    ∙ c.ended.ensures.taken cells
