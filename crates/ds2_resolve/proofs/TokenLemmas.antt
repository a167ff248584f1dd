-- The count of tokens and the length of chains, instance by instance.
use Rattle.std.proofs.Common.{◌≡◌, ◌≤◌, ℕ, ◌+◌, List, [], ◌∷◌, ◌++◌, nat_le, Option, Some, None, refl, sym, ap, ◌∙◌, arith}
use Rattle.std.specs.Prelude.{max}
use Rattle.std.specs.Option.{option_map, option_map_or}
use Rattle.ds2_base.specs.declared.place.Place.{Place}
use Rattle.ds2_names.specs.NameRules.{place_unless}
use Rattle.ds2_names.specs.SourceLimits.{tokens_of_sort, tokens_behind, beyond_tokens, chain_of_sort, chain_length}
use Rattle.ds2_names.specs.SourceUnit.{KnownUnit, KnownPackage, KnownThread, InstanceOf, AnyPackage, HashObject, HashIterator, AnyThread, SourceInstance, package_named, thread_named, thread_of_instance, spelled_name}
use Rattle.ds2_scope.specs.Earliest.{earlier_of, earliest}
use Rattle.ds2_scope.specs.UnitsKnown.{tokens_kept, kept_thread}
use Rattle.ds2_scope.specs.declared.known.KnownThread as code_thread
use Rattle.std.specs.Prelude.{unwrap_or}
use Rattle.ds2_scope.proofs.EarliestLemmas.{earlier_of_assoc, earliest_append}

pub tokens_are : (o : Option KnownPackage) → unwrap_or (option_map tokens_kept o) 0 ≡ option_map_or (λ (p : KnownPackage). p.tokens) o 0
tokens_are None = refl
tokens_are (Some p) = refl

pub one_more_beyond : (known : List KnownUnit) (found : Option Place) (count behind : ℕ) (i : SourceInstance) (is : List SourceInstance) → behind ≡ count + tokens_of_sort known i.sort
    → earlier_of (earlier_of found (earliest (place_unless (nat_le behind 1000000) i.name.place))) (earliest (beyond_tokens 1000000 known behind is))
    ≡ earlier_of found (earliest (beyond_tokens 1000000 known count (i ∷ is)))
one_more_beyond known found count behind i is h =
    earlier_of_assoc found (earliest (place_unless (nat_le behind 1000000) i.name.place)) (earliest (beyond_tokens 1000000 known behind is))
    ∙ ap (earlier_of found) (sym (earliest_append (place_unless (nat_le behind 1000000) i.name.place) (beyond_tokens 1000000 known behind is)))
    ∙ (λ j. earlier_of found (earliest (place_unless (nat_le (h j) 1000000) i.name.place ++ beyond_tokens 1000000 known (h j) is)))

-- ---- chains

abbrev chain_in : Option code_thread.KnownThread → ℕ
chain_in None = 0
chain_in (Some t) = t.chain

mapped : (o : Option KnownThread) → chain_in (option_map kept_thread o) ≡ option_map_or (λ (t : KnownThread). t.chain) o 0
mapped None = refl
mapped (Some t) = refl

-- the chain that an instance brings is that of its thread program
chain_by : (known : List KnownUnit) (i : SourceInstance) → chain_in (option_map kept_thread (thread_of_instance known (Some i))) ≡ chain_of_sort known i.sort
chain_by known i = by i.sort
  where
    by : (sort : InstanceOf) → chain_in (option_map kept_thread (thread_of_instance known (Some (record i { sort = sort })))) ≡ chain_of_sort known sort
    by (AnyPackage package' arguments) = refl
    by (HashObject keys items table) = refl
    by (HashIterator hash) = refl
    by (AnyThread thread) = mapped (thread_named known (spelled_name thread))

pub chain_none : (known : List KnownUnit) (i : SourceInstance) → None ≡ option_map kept_thread (thread_of_instance known (Some i)) → 0 ≡ chain_of_sort known i.sort
chain_none known i h = ap chain_in h ∙ chain_by known i

pub chain_some : (known : List KnownUnit) (i : SourceInstance) (thread : code_thread.KnownThread) → Some thread ≡ option_map kept_thread (thread_of_instance known (Some i)) → thread.chain ≡ chain_of_sort known i.sort
chain_some known i thread h = ap chain_in h ∙ chain_by known i

at_least_one : (known : List KnownUnit) (is : List SourceInstance) → 1 ≤ chain_length known is
at_least_one known [] = omega (arith)
at_least_one known (i ∷ is) = let h = at_least_one known is in omega (arith, h)

pub chain_begins : (known : List KnownUnit) (is : List SourceInstance) → max 1 (chain_length known is) ≡ chain_length known is
chain_begins known is = let h = at_least_one known is in omega (arith, h)

pub one_more_chain : (known : List KnownUnit) (longest chain : ℕ) (i : SourceInstance) (is : List SourceInstance) → chain ≡ chain_of_sort known i.sort
    → max (max longest (chain + 1)) (chain_length known is) ≡ max longest (chain_length known (i ∷ is))
one_more_chain known longest chain i is h = omega (arith, h)

pub chain_ends : (known : List KnownUnit) (longest : ℕ) → 1 ≤ longest → max longest (chain_length known []) ≡ longest
chain_ends known longest h = omega (arith, h)
