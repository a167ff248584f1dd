-- What a column keeps of its values.
use Rattle.std.specs.Prelude.{List, map}
use Rattle.ds2_columns.specs.declared.items.Items.{Items}
use Rattle.ds2_columns.specs.declared.items.Items.TheVariants as items
use Rattle.ds2_value.specs.declared.value.Value.{Value}
use Rattle.ds2_value.specs.declared.value.Value.TheVariants.{Int, Dec, Txt}

-- the values
abbrev pub items_values : Items → List Value
items_values (items.Whole numbers) = map (λ number. Int number) numbers
items_values (items.Exact numbers) = map (λ number. Dec number) numbers
items_values (items.Spelled texts) = map (λ text. Txt text) texts
