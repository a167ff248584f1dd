-- What methods mention, and the rule on aliased arguments.
use Rattle.std.proofs.Common.{◌≡◌, ℕ, zero, suc, Bool, true, false, not, ◌||◌, ◌&&◌, List, [], ◌∷◌, ◌++◌, length, bytes_eq, Option, Some, None, refl, sym, ap, ◌∙◌, append-nil}
use Rattle.std.specs.Prelude.{if◌then◌else◌, map, filter}
use Rattle.std.specs.List.{list_any}
use Rattle.std.specs.Option.{option_map, option_map_or}
use Rattle.std.proofs.lemmas.Grind.{flat_map-append}
use Rattle.std.proofs.lemmas.List.{length-map}
use Rattle.std.proofs.lemmas.List.Folds.{list_any-append}
use Rattle.std.proofs.lemmas.Slice.Eq.{bytes_eq-Decides}
use Rattle.ds2_base.specs.declared.place.Place.{Place}
use Rattle.ds2_token.specs.declared.token.Token.{Token}
use Rattle.ds2_tree.specs.Expressions.{Arguments}
use Rattle.ds2_tree.specs.Globals.{Method}
use Rattle.ds2_tree.specs.declared.expressions.Callee.{Callee}
use Rattle.ds2_tree.specs.declared.expressions.Callee.TheVariants as callee
use Rattle.ds2_calls.specs.InstanceSorts.{SortsByName, sort_of, sort_if_any, sort_named, variables_in_sort, variables_of_sort, variables_by_name}
use Rattle.ds2_calls.specs.SortCalls.{flags_by_names}
use Rattle.ds2_calls.specs.UnitsCalls.{calls_by_tables, calls_of_names, HasCalls}
use Rattle.ds2_calls.specs.declared.unit_calls.Calls.{Calls}
use Rattle.ds2_calls.proofs.CallLemmas.{flags_are, calls_tell}
use Rattle.ds2_meaning.specs.ProgramTree.{is_listed}
use Rattle.ds2_names.specs.NameRules.{from_each, place_unless, later_places, uses_in, is_flag_word, hash_variables, variables_of_object, variables_behind, mentioned_name, mentioned_by_object, own_mentions, called_name, mentions_of, handed_names, is_reached, aliased_in_use, aliased_arguments}
use Rattle.ds2_names.specs.SourceUnit.{PlacedName, placed_name, InstanceOf, AnyPackage, HashObject, HashIterator, AnyThread, SourceInstance, instance_named, SourceNames, spelled_name, spelled_text, local_names, instance_names, is_named}
use Rattle.ds2_names.specs.Uses.{NameUse, Values, Members, HandsOver, CallsOn, Sets, WritesTo, method_named, statements_uses}
use Rattle.ds2_scope.specs.Earliest.{earlier_of, earliest}
use Rattle.ds2_scope.proofs.EachLemmas.{each_is, each_of_each}
use Rattle.ds2_scope.proofs.EarliestLemmas.{earlier_of_assoc, earlier_of_comm, earliest_append}
use Rattle.ds2_calls.specs.UseParts.{InOutFlags}
use Rattle.ds2_aliases.specs.declared.mentions.Mention.{Mention}
use Rattle.ds2_aliases.specs.declared.mentions.Mention.TheVariants as mention
use Rattle.ds2_aliases.specs.MentionParts.{mentions_in_member, mentions_in_use, mentions_in_uses, variable_mentions}
use Rattle.ds2_aliases.specs.PartsOfMethods.{parts_of_method, part_of_instance, unit_parts}
use Rattle.ds2_aliases.specs.declared.parts.MethodParts.{MethodParts}
use Rattle.ds2_aliases.specs.declared.parts.UnitParts.{UnitParts}
use Rattle.ds2_aliases.proofs.HandedLemmas.{none_is_in_out}
use Rattle.ds2_aliases.specs.HandedGlobals.{unhidden_handing, handings_in, handings_of_method, reached_place, repeated_in_mention, repeated_in_method, aliased_by_parts}
use Rattle.ds2_aliases.specs.ReachingMethods.{part_named, unhidden_name, called_in, unhidden_object, names_called, has_variable_of, holds, mentions_itself, mentions_or_calls, reaches}
use Rattle.ds2_aliases.proofs.TestLemmas.{or_false, listed_append, listed_each}

-- ---- places from two rules

interchange : (a b c d : Option Place) → earlier_of (earlier_of a b) (earlier_of c d) ≡ earlier_of (earlier_of a c) (earlier_of b d)
interchange a b c d =
    earlier_of_assoc a b (earlier_of c d)
    ∙ ap (earlier_of a) (sym (earlier_of_assoc b c d) ∙ ap (λ x. earlier_of x d) (earlier_of_comm b c) ∙ earlier_of_assoc c b d)
    ∙ sym (earlier_of_assoc a c (earlier_of b d))

-- what two rules give of each item
earliest_of_two : {A : Type 0} (both f g : A → List Place) → ((x : A) → earliest (both x) ≡ earlier_of (earliest (f x)) (earliest (g x))) → (xs : List A)
    → earliest (from_each both xs) ≡ earlier_of (earliest (from_each f xs)) (earliest (from_each g xs))
earliest_of_two both f g h [] = refl
earliest_of_two both f g h (x ∷ xs) =
    earliest_append (both x) (from_each both xs)
    ∙ (λ i. earlier_of (h x i) (earliest_of_two both f g h xs i))
    ∙ interchange (earliest (f x)) (earliest (g x)) (earliest (from_each f xs)) (earliest (from_each g xs))
    ∙ sym (λ i. earlier_of (earliest_append (f x) (from_each f xs) i) (earliest_append (g x) (from_each g xs) i))

-- items that come of others
each_of_map : {A B : Type 0} (f : B → List Place) (g : A → B) (xs : List A) → from_each f (map g xs) ≡ from_each (λ x. f (g x)) xs
each_of_map f g [] = refl
each_of_map f g (x ∷ xs) = ap (λ r. f (g x) ++ r) (each_of_map f g xs)

-- ---- handed names

unhidden_is : (unit : UnitParts) (hidden : List ℕ → Bool) (method : List ℕ) (handed : List PlacedName)
    → from_each (reached_place unit) (from_each (unhidden_handing hidden method) handed)
    ≡ from_each (λ (n : PlacedName). place_unless (not (not (hidden n.name) && reaches unit n.name (length unit.methods) method)) n.place) handed
unhidden_is unit hidden method handed =
    sym (each_of_each (reached_place unit) (unhidden_handing hidden method) handed)
    ∙ each_is (λ n. from_each (reached_place unit) (unhidden_handing hidden method n))
    (λ (n : PlacedName). place_unless (not (not (hidden n.name) && reaches unit n.name (length unit.methods) method)) n.place) (λ n. by n (hidden n.name)) handed
  where
    by : (n : PlacedName) (t : Bool)
        → from_each (reached_place unit) (if t then [] else record { method = method; name = n.name; place = n.place } ∷ [])
        ≡ place_unless (not (not t && reaches unit n.name (length unit.methods) method)) n.place
    by n true = refl
    by n false = append-nil (place_unless (not (reaches unit n.name (length unit.methods) method)) n.place)

-- what is handed over twice, and the globals that are reached
abbrev aliased_in_mention : UnitParts → (List ℕ → Bool) → Mention → List Place
aliased_in_mention unit hidden u = repeated_in_mention u ++ from_each (reached_place unit) (handings_in hidden u)

none_of_each : (handed : List PlacedName) → from_each (λ (n : PlacedName). place_unless (not false) n.place) handed ≡ []
none_of_each [] = refl
none_of_each (n ∷ handed) = none_of_each handed

-- ---- variables of hash objects

names_only : (variables : List (List ℕ)) → from_each (unhidden_name (is_named [])) (variable_mentions variables) ≡ variables
names_only [] = refl
names_only (v ∷ variables) = ap (λ r. v ∷ r) (names_only variables)

instance_part : (sorts : SortsByName) (instances : List SourceInstance) (n : List ℕ)
    → part_named (map (part_of_instance sorts) (map (λ (i : SourceInstance). placed_name i.name) instances)) n
    ≡ option_map (λ (i : SourceInstance). record { name = n; locals = []; mentions = variable_mentions (variables_by_name sorts n) }) (instance_named instances n)
instance_part sorts [] n = refl
instance_part sorts (i ∷ instances) n = by (bytes_eq (spelled_name i.name) n) refl (instance_part sorts instances n)
  where
    part : List ℕ → MethodParts
    part name = record { name = name; locals = []; mentions = variable_mentions (variables_by_name sorts name) }

    by : (t : Bool) → bytes_eq (spelled_name i.name) n ≡ t
        → part_named (map (part_of_instance sorts) (map (λ (x : SourceInstance). placed_name x.name) instances)) n ≡ option_map (λ (x : SourceInstance). part n) (instance_named instances n)
        → (if t then Some (part (spelled_name i.name)) else part_named (map (part_of_instance sorts) (map (λ (x : SourceInstance). placed_name x.name) instances)) n)
        ≡ option_map (λ (x : SourceInstance). part n) (if t then Some i else instance_named instances n)
    by true e rest = ap (λ name. Some (part name)) ((bytes_eq-Decides (spelled_name i.name) n).0 e)
    by false e rest = rest

hash_sort : (s : InstanceOf) → hash_variables s ≡ variables_in_sort (Some (sort_of s))
hash_sort (AnyPackage package' arguments) = refl
hash_sort (HashObject keys items table) = refl
hash_sort (HashIterator hash) = refl
hash_sort (AnyThread thread) = refl

hash_if_any : (o : Option SourceInstance) → option_map_or (λ (i : SourceInstance). hash_variables i.sort) o [] ≡ variables_in_sort (sort_if_any o)
hash_if_any None = refl
hash_if_any (Some i) = hash_sort i.sort

object_sort : (names : SourceNames) (s : InstanceOf) → variables_of_object names s ≡ variables_of_sort (sort_named names.instances) (Some (sort_of s))
object_sort names (AnyPackage package' arguments) = refl
object_sort names (HashObject keys items table) = refl
object_sort names (HashIterator hash) = hash_if_any (instance_named names.instances (spelled_text hash))
object_sort names (AnyThread thread) = refl

-- ---- a unit

abbrev flags_in : SourceNames → InOutFlags
flags_in names = flags_by_names (calls_of_names names)

abbrev parts_in : SourceNames → UnitParts
parts_in names = unit_parts (calls_of_names names) names.methods (instance_names names)

abbrev objects_in : SourceNames → List MethodParts
objects_in names = map (part_of_instance (sort_named names.instances)) (instance_names names)

module _ (names : SourceNames) where
  uses_are : (m : Method) → uses_in names m ≡ statements_uses (flags_in names) m.body
  uses_are m = λ i. statements_uses (λ f. flags_are names f i) m.body

  -- ---- the variables of the instance of a name

  variables_listed : (n x : List ℕ) (o : Option SourceInstance) → instance_named names.instances n ≡ o
      → is_listed (option_map_or (λ (i : SourceInstance). variables_of_object names i.sort) o []) x
      ≡ has_variable_of x (option_map (λ (i : SourceInstance). record { name = n; locals = []; mentions = variable_mentions (variables_by_name (sort_named names.instances) n) }) o)
  variables_listed n x None h = refl
  variables_listed n x (Some i) h =
      let sorts = sort_named names.instances in
      ap (λ vs. is_listed vs x)
      (object_sort names i.sort
      ∙ ap (λ o. variables_of_sort sorts (sort_if_any o)) (sym h)
      ∙ sym (names_only (variables_by_name sorts n)))

  variables_held : (n x : List ℕ) → is_listed (option_map_or (λ (i : SourceInstance). variables_of_object names i.sort) (instance_named names.instances n) []) x ≡ holds (objects_in names) x n
  variables_held n x =
      variables_listed n x (instance_named names.instances n) refl ∙ ap (has_variable_of x) (sym (instance_part (sort_named names.instances) names.instances n))

  variables_seen : (hidden : Bool) (n x : List ℕ)
      → is_listed (option_map_or (λ (i : SourceInstance). variables_of_object names i.sort) (if hidden then None else instance_named names.instances n) []) x
      ≡ list_any (holds (objects_in names) x) ((if hidden then [] else n ∷ []) ++ [])
  variables_seen true n x = refl
  variables_seen false n x = variables_held n x ∙ sym (or_false (holds (objects_in names) x n))

  -- ---- the globals that a method mentions itself

  one_name : (hidden : Bool) (n : List ℕ) (xs ys : List (List ℕ)) → xs ≡ ys → (if not hidden then n ∷ xs else xs) ≡ (if hidden then [] else n ∷ []) ++ ys
  one_name true n xs ys h = h
  one_name false n xs ys h = ap (λ r. n ∷ r) h

  no_name_of : (hidden : List ℕ → Bool) (object : Token) (ms : List Mention) → from_each (unhidden_name hidden) (mentions_in_member object ++ ms) ≡ from_each (unhidden_name hidden) ms
  no_name_of hidden object ms = by (is_flag_word object)
    where
      by : (t : Bool) → from_each (unhidden_name hidden) ((if t then [] else mention.Object (spelled_name object) [] ∷ []) ++ ms) ≡ from_each (unhidden_name hidden) ms
      by true = refl
      by false = refl

  unhidden_names_are : (hidden : List ℕ → Bool) (us : List NameUse)
      → filter (λ name. not (hidden name)) (from_each mentioned_name us) ≡ from_each (unhidden_name hidden) (mentions_in_uses (flags_in names) us)
  unhidden_names_are hidden [] = refl
  unhidden_names_are hidden (Values t ∷ us) =
      one_name (hidden (spelled_name t)) (spelled_name t) (filter (λ name. not (hidden name)) (from_each mentioned_name us)) (from_each (unhidden_name hidden) (mentions_in_uses (flags_in names) us)) (unhidden_names_are hidden us)
  unhidden_names_are hidden (HandsOver t ∷ us) =
      one_name (hidden (spelled_name t)) (spelled_name t) (filter (λ name. not (hidden name)) (from_each mentioned_name us)) (from_each (unhidden_name hidden) (mentions_in_uses (flags_in names) us)) (unhidden_names_are hidden us)
  unhidden_names_are hidden (Sets t ∷ us) =
      one_name (hidden (spelled_name t)) (spelled_name t) (filter (λ name. not (hidden name)) (from_each mentioned_name us)) (from_each (unhidden_name hidden) (mentions_in_uses (flags_in names) us)) (unhidden_names_are hidden us)
  unhidden_names_are hidden (Members object member ∷ us) = unhidden_names_are hidden us ∙ sym (no_name_of hidden object (mentions_in_uses (flags_in names) us))
  unhidden_names_are hidden (WritesTo t ∷ us) = unhidden_names_are hidden us
  unhidden_names_are hidden (CallsOn (callee.Function t) arguments ∷ us) = unhidden_names_are hidden us
  unhidden_names_are hidden (CallsOn (callee.Null keyword) arguments ∷ us) = unhidden_names_are hidden us
  unhidden_names_are hidden (CallsOn (callee.Method object dot method) arguments ∷ us) = unhidden_names_are hidden us

  -- the variables that one use mentions by an instance
  one_used : (m : Method) (x : List ℕ) (u : NameUse)
      → is_listed (mentioned_by_object names m u) x ≡ list_any (holds (objects_in names) x) (from_each (unhidden_object (is_named (local_names m))) (mentions_in_use (flags_in names) u))
  one_used m x (Values t) = refl
  one_used m x (HandsOver t) = refl
  one_used m x (Sets t) = refl
  one_used m x (WritesTo t) = refl
  one_used m x (CallsOn (callee.Function t) arguments) = refl
  one_used m x (CallsOn (callee.Null keyword) arguments) = refl
  one_used m x (CallsOn (callee.Method object dot method) arguments) = variables_seen (is_named (local_names m) (spelled_name object)) (spelled_name object) x
  one_used m x (Members object member) = by (is_flag_word object)
    where
      by : (t : Bool) → is_listed (if t then [] else variables_behind names m object) x
          ≡ list_any (holds (objects_in names) x) (from_each (unhidden_object (is_named (local_names m))) (if t then [] else mention.Object (spelled_name object) [] ∷ []))
      by true = refl
      by false = variables_seen (is_named (local_names m) (spelled_name object)) (spelled_name object) x

  all_used : (m : Method) (x : List ℕ) (us : List NameUse)
      → is_listed (from_each (mentioned_by_object names m) us) x
      ≡ list_any (holds (objects_in names) x) (from_each (unhidden_object (is_named (local_names m))) (mentions_in_uses (flags_in names) us))
  all_used m x [] = refl
  all_used m x (u ∷ us) =
      let f = unhidden_object (is_named (local_names m)) in
      let here = mentions_in_use (flags_in names) u in
      let there = mentions_in_uses (flags_in names) us in
      listed_append (mentioned_by_object names m u) (from_each (mentioned_by_object names m) us) x
      ∙ (λ i. one_used m x u i || all_used m x us i)
      ∙ sym (list_any-append (holds (objects_in names) x) (from_each f here) (from_each f there))
      ∙ ap (list_any (holds (objects_in names) x)) (sym (flat_map-append f here there))

  own_is : (m : Method) (x : List ℕ) → is_listed (own_mentions names m) x ≡ mentions_itself (objects_in names) x (parts_of_method (flags_in names) m)
  own_is m x =
      let hidden = is_named (local_names m) in
      listed_append (filter (λ name. not (hidden name)) (from_each mentioned_name (uses_in names m))) (from_each (mentioned_by_object names m) (uses_in names m)) x
      ∙ (λ i. is_listed (filter (λ name. not (hidden name)) (from_each mentioned_name (uses_are m i))) x || is_listed (from_each (mentioned_by_object names m) (uses_are m i)) x)
      ∙ (λ i. is_listed (unhidden_names_are hidden (statements_uses (flags_in names) m.body) i) x || all_used m x (statements_uses (flags_in names) m.body) i)

  -- ---- what it calls

  no_call_of : (object : Token) (ms : List Mention) → from_each called_in (mentions_in_member object ++ ms) ≡ from_each called_in ms
  no_call_of object ms = by (is_flag_word object)
    where
      by : (t : Bool) → from_each called_in ((if t then [] else mention.Object (spelled_name object) [] ∷ []) ++ ms) ≡ from_each called_in ms
      by true = refl
      by false = refl

  calls_are : (us : List NameUse) → from_each called_name us ≡ from_each called_in (mentions_in_uses (flags_in names) us)
  calls_are [] = refl
  calls_are (Values t ∷ us) = calls_are us
  calls_are (HandsOver t ∷ us) = calls_are us
  calls_are (Sets t ∷ us) = calls_are us
  calls_are (Members object member ∷ us) = calls_are us ∙ sym (no_call_of object (mentions_in_uses (flags_in names) us))
  calls_are (WritesTo t ∷ us) = calls_are us
  calls_are (CallsOn (callee.Function t) arguments ∷ us) = ap (λ r. spelled_name t ∷ r) (calls_are us)
  calls_are (CallsOn (callee.Null keyword) arguments ∷ us) = calls_are us
  calls_are (CallsOn (callee.Method object dot method) arguments ∷ us) = calls_are us

  called_is : (m : Method) → from_each called_name (uses_in names m) ≡ names_called (parts_of_method (flags_in names) m)
  called_is m = ap (from_each called_name) (uses_are m) ∙ calls_are (statements_uses (flags_in names) m.body)

  -- ---- which methods reach a name

  part_is : (ms : List Method) (name : List ℕ) → part_named (map (parts_of_method (flags_in names)) ms) name ≡ option_map (parts_of_method (flags_in names)) (method_named ms name)
  part_is [] name = refl
  part_is (m ∷ ms) name = by (bytes_eq (spelled_name m.name) name) (part_is ms name)
    where
      by : (t : Bool) → part_named (map (parts_of_method (flags_in names)) ms) name ≡ option_map (parts_of_method (flags_in names)) (method_named ms name)
          → (if t then Some (parts_of_method (flags_in names) m) else part_named (map (parts_of_method (flags_in names)) ms) name)
          ≡ option_map (parts_of_method (flags_in names)) (if t then Some m else method_named ms name)
      by true h = refl
      by false h = h

  reach_of : (k : ℕ) (x : List ℕ) (o : Option Method)
      → ((called : List ℕ) → is_listed (mentions_of names k (method_named names.methods called)) x ≡ reaches (parts_in names) x k called)
      → is_listed (mentions_of names (suc k) o) x
      ≡ mentions_or_calls (λ called. reaches (parts_in names) x k called) (objects_in names) x (option_map (parts_of_method (flags_in names)) o)
  reach_of k x None h = refl
  reach_of k x (Some m) h =
      listed_append (own_mentions names m) (from_each (λ name. mentions_of names k (method_named names.methods name)) (from_each called_name (uses_in names m))) x
      ∙ ap (λ t. is_listed (own_mentions names m) x || t) (listed_each (λ name. mentions_of names k (method_named names.methods name)) (from_each called_name (uses_in names m)) x)
      ∙ (λ i. own_is m x i || list_any (λ called. h called i) (called_is m i))

  reach_is : (k : ℕ) (x name : List ℕ) → is_listed (mentions_of names k (method_named names.methods name)) x ≡ reaches (parts_in names) x k name
  reach_is zero x name = refl
  reach_is (suc k) x name =
      reach_of k x (method_named names.methods name) (λ called. reach_is k x called)
      ∙ ap (λ o. mentions_or_calls (λ called. reaches (parts_in names) x k called) (objects_in names) x o) (sym (part_is names.methods name))

  -- ---- what a use hands over

  reached_is : (m : Method) (t : Token) (handed : List PlacedName)
      → from_each (λ (n : PlacedName). place_unless (not (is_reached names m (callee.Function t) n.name)) n.place) handed
      ≡ from_each (reached_place (parts_in names)) (from_each (unhidden_handing (is_named (local_names m)) (spelled_name t)) handed)
  reached_is m t handed =
      each_is (λ (n : PlacedName). place_unless (not (is_reached names m (callee.Function t) n.name)) n.place)
      (λ (n : PlacedName). place_unless (not (not (is_named (local_names m) n.name) && reaches (parts_in names) n.name (length (parts_in names).methods) (spelled_name t))) n.place)
      (λ n.
      ap (λ t'. place_unless (not (not (is_named (local_names m) n.name) && t')) n.place)
      (reach_is (length names.methods) n.name (spelled_name t)
      ∙ ap (λ k. reaches (parts_in names) n.name k (spelled_name t)) (sym (length-map names.methods (parts_of_method (flags_in names))))))
      handed
      ∙ sym (unhidden_is (parts_in names) (is_named (local_names m)) (spelled_name t) handed)

  nothing_handed : (m : Method) (f : Callee) (arguments : Arguments) → flags_in names f ≡ [] → aliased_in_use names m (CallsOn f arguments) ≡ []
  nothing_handed m f arguments h =
      ap (λ handed. later_places handed ++ from_each (λ (n : PlacedName). place_unless (not (is_reached names m f n.name)) n.place) handed)
      (ap (λ flags. handed_names flags arguments) (flags_are names f ∙ h) ∙ none_is_in_out arguments)

  no_alias_of : (m : Method) (object : Token) → from_each (aliased_in_mention (parts_in names) (is_named (local_names m))) (mentions_in_member object) ≡ []
  no_alias_of m object = by (is_flag_word object)
    where
      by : (t : Bool) → from_each (aliased_in_mention (parts_in names) (is_named (local_names m))) (if t then [] else mention.Object (spelled_name object) [] ∷ []) ≡ []
      by true = refl
      by false = refl

  use_is : (m : Method) (u : NameUse) → aliased_in_use names m u ≡ from_each (aliased_in_mention (parts_in names) (is_named (local_names m))) (mentions_in_use (flags_in names) u)
  use_is m (CallsOn (callee.Function t) arguments) =
      let handed = handed_names (flags_in names (callee.Function t)) arguments in
      ap (λ flags. later_places (handed_names flags arguments) ++ from_each (λ (n : PlacedName). place_unless (not (is_reached names m (callee.Function t) n.name)) n.place) (handed_names flags arguments)) (flags_are names (callee.Function t))
      ∙ ap (λ r. later_places handed ++ r) (reached_is m t handed)
      ∙ sym (append-nil (aliased_in_mention (parts_in names) (is_named (local_names m)) (mention.Call (spelled_name t) handed)))
  use_is m (CallsOn (callee.Null keyword) arguments) = nothing_handed m (callee.Null keyword) arguments refl
  use_is m (CallsOn (callee.Method object dot method) arguments) =
      let handed = handed_names (flags_in names (callee.Method object dot method)) arguments in
      ap (λ flags. later_places (handed_names flags arguments) ++ from_each (λ (n : PlacedName). place_unless (not false) n.place) (handed_names flags arguments)) (flags_are names (callee.Method object dot method))
      ∙ ap (λ r. later_places handed ++ r) (none_of_each handed)
      ∙ sym (append-nil (aliased_in_mention (parts_in names) (is_named (local_names m)) (mention.Object (spelled_name object) handed)))
  use_is m (Values t) = refl
  use_is m (Members object member) = sym (no_alias_of m object)
  use_is m (HandsOver t) = refl
  use_is m (Sets t) = refl
  use_is m (WritesTo t) = refl

  method_is : (m : Method) → from_each (aliased_in_use names m) (uses_in names m) ≡ from_each (aliased_in_mention (parts_in names) (is_named (local_names m))) (mentions_in_uses (flags_in names) (statements_uses (flags_in names) m.body))
  method_is m =
      ap (from_each (aliased_in_use names m)) (uses_are m)
      ∙ each_is (aliased_in_use names m) (λ u. from_each (aliased_in_mention (parts_in names) (is_named (local_names m))) (mentions_in_use (flags_in names) u)) (use_is m) (statements_uses (flags_in names) m.body)
      ∙ each_of_each (aliased_in_mention (parts_in names) (is_named (local_names m))) (mentions_in_use (flags_in names)) (statements_uses (flags_in names) m.body)

  -- the earliest aliased argument
  aliased_is : aliased_by_parts (parts_in names) ≡ earliest (aliased_arguments names)
  aliased_is =
      let unit = parts_in names in
      ap (λ p. earlier_of (earliest (from_each repeated_in_method unit.methods)) (earliest p)) (sym (each_of_each (reached_place unit) handings_of_method unit.methods))
      ∙ sym (earliest_of_two (λ (p : MethodParts). from_each (aliased_in_mention unit (is_named p.locals)) p.mentions) repeated_in_method (λ p. from_each (reached_place unit) (handings_of_method p))
      (λ p.
      earliest_of_two (aliased_in_mention unit (is_named p.locals)) repeated_in_mention (λ u. from_each (reached_place unit) (handings_in (is_named p.locals) u))
      (λ u. earliest_append (repeated_in_mention u) (from_each (reached_place unit) (handings_in (is_named p.locals) u))) p.mentions
      ∙ ap (λ r. earlier_of (earliest (repeated_in_method p)) (earliest r)) (each_of_each (reached_place unit) (handings_in (is_named p.locals)) p.mentions))
      unit.methods)
      ∙ ap earliest
      (each_of_map (λ (p : MethodParts). from_each (aliased_in_mention unit (is_named p.locals)) p.mentions) (parts_of_method (flags_in names)) names.methods
      ∙ sym (each_is (λ m. from_each (aliased_in_use names m) (uses_in names m)) (λ m. from_each (aliased_in_mention unit (is_named (local_names m))) (mentions_in_uses (flags_in names) (statements_uses (flags_in names) m.body))) method_is names.methods))

-- what tables tell of a unit's calls, and its instances, give the earliest aliased argument
pub unit_aliased : (c : Calls) (names : SourceNames) (instances : List PlacedName) → HasCalls c names → instances ≡ instance_names names
    → aliased_by_parts (unit_parts (calls_by_tables c) names.methods instances) ≡ earliest (aliased_arguments names)
unit_aliased c names instances has h = (λ i. aliased_by_parts (unit_parts (calls_tell c names has i) names.methods (h i))) ∙ aliased_is names
