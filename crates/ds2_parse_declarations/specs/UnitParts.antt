-- What is read within declarations, as the code reads it.
use Rattle.std.specs.Prelude.{codes, Option, Some}
use Rattle.ds2_base.specs.declared.place.Place.{Place}
use Rattle.ds2_tree.specs.Parsers.{Parser, to, seq}
use Rattle.ds2_parse_rules.specs.GrammarTokens.{mark_rule}

-- "," item
abbrev pub behind_comma : {A X : Type 0} → (Option Place → X → A) → Parser X → Parser A
behind_comma put p = to (λ y. put (Some y.0) y.1) (seq (mark_rule (codes ",")) p)
