use Rattle.std.proofs.Common.{◌≡◌, ℕ, List, drop}
use Rattle.std.specs.Prelude.{nat_eq}
use Rattle.std.specs.Cmp.Lexicographic.{pointwise}
use Rattle.std.specs.HashMap.{get}
use Rattle.std.specs.Option.{option_or}
use Rattle.ds2_names.specs.NameRules.{renamed_to}
use Rattle.ds2_given_names.proofs.renamed.note_renamings.Given as goal

abbrev pub invariant-renamings : goal.invariant-renamings
invariant-renamings l =
    (name : List ℕ) → option_or (get (pointwise nat_eq) l.news name) (renamed_to (drop l.r-index l.renamings) name)
    ≡ option_or (get (pointwise nat_eq) l.fn.news name) (renamed_to l.renamings name)
