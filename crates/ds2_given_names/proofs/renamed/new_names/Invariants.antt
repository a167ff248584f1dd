use Rattle.std.proofs.Common.{◌≡◌, ℕ, List, drop}
use Rattle.std.specs.Prelude.{nat_eq}
use Rattle.std.specs.Cmp.Lexicographic.{pointwise}
use Rattle.std.specs.HashMap.{get}
use Rattle.std.specs.Option.{option_or}
use Rattle.ds2_names.specs.NameRules.{from_each, renamings_in, renamed_to}
use Rattle.ds2_given_names.proofs.renamed.new_names.Given as goal

abbrev pub invariant-options : goal.invariant-options
invariant-options l =
    (name : List ℕ) → option_or (get (pointwise nat_eq) l.news name) (renamed_to (from_each renamings_in (drop l.option-index l.options)) name)
    ≡ renamed_to (from_each renamings_in l.options) name
