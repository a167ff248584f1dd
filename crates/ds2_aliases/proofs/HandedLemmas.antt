-- The names that arguments hand over, one by one.
use Rattle.std.proofs.Common.{◌≡◌, Bool, true, false, List, [], ◌∷◌, ◌++◌, Option, refl, sym}
use Rattle.ds2_base.specs.declared.place.Place.{Place}
use Rattle.ds2_tree.specs.Expressions.{Expression, Constant, Null, Variable, Member, Call, Parenthesis, Sign, Chain, Comparison, Not, Arguments, NoArgument, Argument}
use Rattle.ds2_names.specs.NameRules.{handed_names}
use Rattle.ds2_calls.specs.UseParts.{next_flag, further_flags, handed_name}
use Rattle.ds2_aliases.specs.MentionParts.{placed_if_any}

pub none_is_in_out : (xs : Arguments) → handed_names [] xs ≡ []
none_is_in_out NoArgument = refl
none_is_in_out (Argument c e rest) = refl

pub none_is_handed : (flags : List Bool) → handed_names flags NoArgument ≡ []
none_is_handed [] = refl
none_is_handed (true ∷ flags) = refl
none_is_handed (false ∷ flags) = refl

pub one_handed : (flags : List Bool) (c : Option Place) (e : Expression) (rest : Arguments)
    → handed_names flags (Argument c e rest) ≡ placed_if_any (handed_name (next_flag flags) e) ++ handed_names (further_flags flags) rest
one_handed [] c e rest = sym (none_is_in_out rest)
one_handed (false ∷ flags) c (Variable name) rest = refl
one_handed (false ∷ flags) c (Constant t) rest = refl
one_handed (false ∷ flags) c (Null t) rest = refl
one_handed (false ∷ flags) c (Member o p m) rest = refl
one_handed (false ∷ flags) c (Call f p xs q) rest = refl
one_handed (false ∷ flags) c (Parenthesis p e q) rest = refl
one_handed (false ∷ flags) c (Sign o e) rest = refl
one_handed (false ∷ flags) c (Chain k e more) rest = refl
one_handed (false ∷ flags) c (Comparison a o b) rest = refl
one_handed (false ∷ flags) c (Not o e) rest = refl
one_handed (true ∷ flags) c (Variable name) rest = refl
one_handed (true ∷ flags) c (Constant t) rest = refl
one_handed (true ∷ flags) c (Null t) rest = refl
one_handed (true ∷ flags) c (Member o p m) rest = refl
one_handed (true ∷ flags) c (Call f p xs q) rest = refl
one_handed (true ∷ flags) c (Parenthesis p e q) rest = refl
one_handed (true ∷ flags) c (Sign o e) rest = refl
one_handed (true ∷ flags) c (Chain k e more) rest = refl
one_handed (true ∷ flags) c (Comparison a o b) rest = refl
one_handed (true ∷ flags) c (Not o e) rest = refl
