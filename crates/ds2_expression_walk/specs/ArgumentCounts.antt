-- Arguments, taken out of their list.
use Rattle.std.specs.Prelude.{List, [], ◌∷◌, Option, Some, None}
use Rattle.ds2_types.specs.declared.judgement.Judgement.{Judgement}
use Rattle.ds2_expression_walk.specs.declared.argument_counts.FirstAndOthers.{FirstAndOthers}
use Rattle.ds2_expression_walk.specs.declared.argument_counts.TwoArguments.{TwoArguments}

-- one argument, where it is alone
abbrev pub one_of : List Judgement → Option Judgement
one_of (j ∷ []) = Some j
one_of _ = None

-- two arguments, where there are as many
abbrev pub two_of : List Judgement → Option TwoArguments
two_of (j ∷ k ∷ []) = Some (record { first = j; second = k })
two_of _ = None

-- the first argument and the others, where there is one
abbrev pub headed_by_first : List Judgement → Option FirstAndOthers
headed_by_first [] = None
headed_by_first (j ∷ js) = Some (record { first = j; others = js })
