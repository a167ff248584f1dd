use Rattle.std.proofs.Common.{◌∙◌, sym, ap, take}
use Rattle.ds2_value.specs.declared.value.Value.TheVariants.{Int, Dec, Txt}
use Rattle.ds2_columns.specs.Items.{items_values}
use Rattle.ds2_columns.specs.declared.items.Items.{Items}
use Rattle.ds2_columns.proofs.ShortNumbers.{first_mapped}
use Rattle.ds2_columns.proofs.items.Items.truncate.Goals as goal

pub returns-in-Whole : goal.returns-in-Whole
returns-in-Whole c =
    first_mapped (λ number. Int number) c.args.count c.in-Whole.numbers c.truncate.new.self c.truncate.ensures
    ∙ ap (λ (items : Items). take c.args.count (items_values items)) (sym c.in-Whole.is)

pub returns-in-Exact : goal.returns-in-Exact
returns-in-Exact c =
    first_mapped (λ number. Dec number) c.args.count c.in-Exact.numbers c.truncate-in-Exact.new.self c.truncate-in-Exact.ensures
    ∙ ap (λ (items : Items). take c.args.count (items_values items)) (sym c.in-Exact.is)

pub returns-in-Spelled : goal.returns-in-Spelled
returns-in-Spelled c =
    first_mapped (λ text. Txt text) c.args.count c.in-Spelled.texts c.truncate-in-Spelled.new.self c.truncate-in-Spelled.ensures
    ∙ ap (λ (items : Items). take c.args.count (items_values items)) (sym c.in-Spelled.is)
