use Rattle.std.proofs.Common.{◌∙◌, ℕ, ◌-◌, ◌++◌, List, ap, map, take}
use Rattle.ds2_decimal.specs.Decimal.{Decimal}
use Rattle.ds2_columns.specs.Decimals.{short_decimal}
use Rattle.ds2_columns.proofs.ShortNumbers.{first_numbers}
use Rattle.ds2_columns.proofs.decimals.Decimals.truncate.Goals as goal

pub returns : goal.returns
returns c =
    let f = short_decimal c.self.inside.scale in
    (λ i. map f (c.truncate-2.ensures i) ++ c.truncate.ensures i)
    ∙ ap (λ (n : ℕ). map f (take c.args.count c.self.inside.short) ++ take n c.self.inside.wide)
    (c.saturating_sub.ensures ∙ ap (λ (n : ℕ). c.args.count - n) c.len.ensures)
    ∙ first_numbers f c.args.count c.self.inside.short c.self.inside.wide
    ∙ ap (λ (numbers : List Decimal). take c.args.count numbers) c.self.view_is
