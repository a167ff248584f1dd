-- Parts of the rules on declarations, for the code.
use Rattle.std.proofs.Common.{◌≡◌, ℕ, Bool, true, false, ◌&&◌, List, [], ◌∷◌, ◌++◌, nat_eq, Option, refl, sym, ap, ◌∙◌}
use Rattle.std.specs.Cmp.Lexicographic.{pointwise}
use Rattle.std.specs.HashSet.{HashSet, contains}
use Rattle.ds2_base.specs.declared.place.Place.{Place}
use Rattle.ds2_token.specs.declared.token.Token.{Token}
use Rattle.ds2_tree.specs.declared.globals.Constant.{Constant}
use Rattle.ds2_value.specs.Row.{Columns}
use Rattle.ds2_names.specs.NameRules.{from_each, has_each_column, lacking_table, handed_constants}
use Rattle.ds2_names.specs.SourceUnit.{TableColumns, spelled_name}
use Rattle.ds2_scope.specs.Earliest.{earlier_of, earliest}
use Rattle.ds2_scope.specs.NameSets.{HasNames, column_names}
use Rattle.ds2_scope.proofs.EachLemmas.{each_append}
use Rattle.ds2_scope.proofs.EarliestLemmas.{earliest_append, earlier_of_assoc}
use Rattle.ds2_scope.proofs.SetLemmas.{has_column_is}
use Rattle.ds2_misplaced.specs.InstanceTests.{are_all, is_next_in_out, parameters_behind, constant_handed, place_unless_named, place_if_test}

-- ---- constants

pub no_constant : (flags : List Bool) → handed_constants flags [] ≡ []
no_constant [] = refl
no_constant (true ∷ flags) = refl
no_constant (false ∷ flags) = refl

no_parameter : (constants : List Constant) → handed_constants [] constants ≡ []
no_parameter [] = refl
no_parameter (c ∷ constants) = refl

one_constant : (flags : List Bool) (c : Constant) (constants : List Constant)
    → handed_constants flags (c ∷ constants) ≡ constant_handed (is_next_in_out flags) c ++ handed_constants (parameters_behind flags) constants
one_constant [] c constants = sym (no_parameter constants)
one_constant (true ∷ flags) c constants = refl
one_constant (false ∷ flags) c constants = refl

pub one_more_constant : (found : Option Place) (flags : List Bool) (c : Constant) (constants : List Constant)
    → earlier_of (earlier_of found (earliest (constant_handed (is_next_in_out flags) c))) (earliest (handed_constants (parameters_behind flags) constants))
    ≡ earlier_of found (earliest (handed_constants flags (c ∷ constants)))
one_more_constant found flags c constants =
    earlier_of_assoc found (earliest (constant_handed (is_next_in_out flags) c)) (earliest (handed_constants (parameters_behind flags) constants))
    ∙ ap (earlier_of found)
    (sym (earliest_append (constant_handed (is_next_in_out flags) c) (handed_constants (parameters_behind flags) constants)) ∙ ap earliest (sym (one_constant flags c constants)))

-- ---- hash objects

and_assoc : (a b c : Bool) → ((a && b) && c) ≡ (a && (b && c))
and_assoc true b c = refl
and_assoc false b c = refl

all_append : (test : List ℕ → Bool) (xs ys : List Token) → are_all test (xs ++ ys) ≡ (are_all test xs && are_all test ys)
all_append test [] ys = refl
all_append test (x ∷ xs) ys = ap (λ t. test (spelled_name x) && t) (all_append test xs ys) ∙ sym (and_assoc (test (spelled_name x)) (are_all test xs) (are_all test ys))

pub both_have : {S : Type 0} (set : HashSet (List ℕ) S) (columns : Columns) (keys items : List Token) → HasNames set (column_names columns)
    → (are_all (contains (pointwise nat_eq) set) keys && are_all (contains (pointwise nat_eq) set) items) ≡ has_each_column columns (keys ++ items)
both_have set columns keys items h =
    sym (all_append (contains (pointwise nat_eq) set) keys items) ∙ (λ i. are_all (λ name. (h name ∙ sym (has_column_is columns name)) i) (keys ++ items))

pub hash_unknown : (test : List ℕ → Bool) (keys items : List Token) (lacking : List Place)
    → earliest (from_each (place_unless_named test) (keys ++ items) ++ lacking)
    ≡ earlier_of (earlier_of (earliest (from_each (place_unless_named test) keys)) (earliest (from_each (place_unless_named test) items))) (earliest lacking)
hash_unknown test keys items lacking =
    earliest_append (from_each (place_unless_named test) (keys ++ items)) lacking
    ∙ ap (λ ps. earlier_of (earliest ps) (earliest lacking)) (each_append (place_unless_named test) keys items)
    ∙ ap (λ x. earlier_of x (earliest lacking)) (earliest_append (from_each (place_unless_named test) keys) (from_each (place_unless_named test) items))

pub hash_not_variable : (is_instance is_settable : List ℕ → Bool) (keys items : List Token)
    → earliest (from_each (place_if_test is_instance) keys ++ from_each (place_unless_named is_settable) items)
    ≡ earlier_of (earliest (from_each (place_if_test is_instance) keys)) (earliest (from_each (place_unless_named is_settable) items))
hash_not_variable is_instance is_settable keys items = earliest_append (from_each (place_if_test is_instance) keys) (from_each (place_unless_named is_settable) items)
