-- Two runs of a call of a hash object or an iterator from states that agree outside of a dirty set.
use Rattle.std.proofs.Common.{◌≡◌, ℕ, Bool, true, false, List, [], ◌∷◌, ◌++◌, map, filter, cond, bytes_eq, Option, Some, None, refl, sym, ap, ◌∙◌, subst, if◌then◌else◌}
use Rattle.std.specs.List.{AllByRecursion}
use Rattle.std.proofs.lemmas.Slice.Eq.{bytes_eq-Decides}
use Rattle.ds2_base.specs.declared.place.Place.{Place}
use Rattle.ds2_value.specs.HashList.{HashItems, Shift, Empties, shifted, HashAnswer, hash_answer, IteratorAnswer, iterator_answer}
use Rattle.ds2_value.specs.Row.{Row}
use Rattle.ds2_value.specs.declared.hash_function.HashFunction.{HashFunction}
use Rattle.ds2_value.specs.declared.hash_function.HashFunction.TheVariants as hash
use Rattle.ds2_value.specs.declared.hash_function.IteratorFunction.{IteratorFunction}
use Rattle.ds2_value.specs.declared.truth.Truth.TheVariants.{Unknown}
use Rattle.ds2_value.specs.declared.value.Value.TheVariants.{Null}
use Rattle.ds2_meaning.specs.declared.hashes.DeclaredHash.{DeclaredHash}
use Rattle.ds2_meaning.specs.declared.hashes.DeclaredIterator.{DeclaredIterator}
use Rattle.ds2_meaning.specs.declared.hashes.HashVariable.{HashVariable}
use Rattle.ds2_meaning.specs.declared.location.Reference.TheVariants.{At}
use Rattle.ds2_meaning.specs.HashObjects.{hash_named, iterator_named, object_at, items_of, position_of, values_of_variables, with_values_stored, with_data_copied, with_iterator_shifted, with_iterators_shifted, hash_answered, iterator_answered, call_hash, call_iterator_of, call_iterator}
use Rattle.ds2_meaning.specs.Location.{Home, Location, Content, Items, Position, items_held, position_held}
use Rattle.ds2_meaning.specs.ProgramTree.{UnitTree, objects_of}
use Rattle.ds2_meaning.specs.RunState.{RunState, variable_value, store, keep_at}
use Rattle.ds2_locality.specs.Deeds.{variables_at, iterators_over}
use Rattle.ds2_locality.specs.KeptLocations.{seen_at}
use Rattle.ds2_locality.specs.Walk.{DirtySet, cleaned, all_cleaned, WalkEnd, GoesOn, then_walk, read_locations, read_by_hash, walk_hash_call, walk_iterator_call}
use Rattle.ds2_locality.proofs.Frame.{all_front, all_back, ObjectsSeen}
use Rattle.ds2_locality.proofs.Near.{Free, IsValueAt, Near, near_cleaned, near_kept, near_stored, near_value, SameExpression, give, ExpressionAt, reads_then, reads_alone}
use Rattle.ds2_locality.proofs.Objects.{found_has_name}

-- what is asked of the hash objects and iterators of a program: they are seen as such, none is a known flag, nor is a data variable
pub record ObjectsStand (p : UnitTree) (known : Location → Bool) : Type 0 where
  pub seen : ObjectsSeen p
  pub free : (home : Home) (name : List ℕ) → Free known (object_at home name)
  pub data_free : (home : Home) (name : List ℕ) (h : DeclaredHash) → hash_named (objects_of p home).hashes name ≡ Some h → AllByRecursion (Free known) (variables_at home h.data_variables)
  pub keys_are : (home : Home) (name : List ℕ) (h : DeclaredHash) → hash_named (objects_of p home).hashes name ≡ Some h → AllByRecursion (IsValueAt p) (variables_at home h.key_variables)
  pub data_are : (home : Home) (name : List ℕ) (h : DeclaredHash) → hash_named (objects_of p home).hashes name ≡ Some h → AllByRecursion (IsValueAt p) (variables_at home h.data_variables)

module _ (p : UnitTree) (known : Location → Bool) (stand : ObjectsStand p known) (home : Home) where
  abbrev Agree : DirtySet → RunState → RunState → Type 0
  Agree d w u = Near p known d w u

  abbrev SeenIterator : DeclaredIterator → Type 0
  SeenIterator i = (c : Content) → seen_at p (object_at home i.name) c ≡ Position (position_held c)

  abbrev SeenHash : DeclaredHash → Type 0
  SeenHash h = (c : Content) → seen_at p (object_at home h.name) c ≡ Items (items_held c)

  -- ---- what is read

  values_same : (variables : List HashVariable) (d : DirtySet) (w u : RunState) → AllByRecursion (IsValueAt p) (variables_at home variables)
      → AllByRecursion (λ at. d at ≡ false) (variables_at home variables) → Agree d w u → values_of_variables home variables w ≡ values_of_variables home variables u
  values_same [] d w u are clean n = refl
  values_same (v ∷ variables) d w u are clean n =
      ap (λ x. x ∷ values_of_variables home variables w) (near_value p known home (At v.global) d w u (are.0, tt) (clean.0, tt) n)
      ∙ ap (λ xs. variable_value home (At v.global) u ∷ xs) (values_same variables d w u are.1 clean.1 n)

  items_same : (h : DeclaredHash) (d : DirtySet) (w u : RunState) → SeenHash h → d (object_at home h.name) ≡ false → Agree d w u → items_of home h.name w ≡ items_of home h.name u
  items_same h d w u seen clean n =
      let at = object_at home h.name in ap items_held (sym (seen (w.storage at)) ∙ n.alike at clean ∙ seen (u.storage at))

  position_same : (i : DeclaredIterator) (d : DirtySet) (w u : RunState) → SeenIterator i → d (object_at home i.name) ≡ false → Agree d w u → position_of home i.name w ≡ position_of home i.name u
  position_same i d w u seen clean n =
      let at = object_at home i.name in ap position_held (sym (seen (w.storage at)) ∙ n.alike at clean ∙ seen (u.storage at))

  -- ---- what is set

  near_values : (variables : List HashVariable) (row : Row) (d : DirtySet) (w u : RunState) → AllByRecursion (Free known) (variables_at home variables) → Agree d w u
      → Agree d (with_values_stored home variables row w) (with_values_stored home variables row u)
  near_values [] row d w u free n = n
  near_values (v ∷ variables) [] d w u free n = n
  near_values (v ∷ variables) (x ∷ row) d w u free n =
      near_values variables row d (store home (At v.global) x w) (store home (At v.global) x u) free.1 (near_stored p known home (At v.global) x d w u (free.0, tt) n)

  near_copied : (h : DeclaredHash) (o : Option Row) (d : DirtySet) (w u : RunState) → AllByRecursion (Free known) (variables_at home h.data_variables) → Agree d w u
      → Agree d (with_data_copied home h o w) (with_data_copied home h o u)
  near_copied h None d w u free n = n
  near_copied h (Some row) d w u free n = near_values h.data_variables row d w u free n

  near_shifted_by : (b : Bool) (shift : Shift) (i : DeclaredIterator) (d : DirtySet) (w u : RunState) → SeenIterator i → Agree d w u
      → Agree d (if b then keep_at (object_at home i.name) (Position (shifted shift (position_of home i.name w))) w else w)
      (if b then keep_at (object_at home i.name) (Position (shifted shift (position_of home i.name u))) u else u)
  near_shifted_by true shift i d w u seen n =
      near_kept p known (object_at home i.name) (Position (shifted shift (position_of home i.name w))) (Position (shifted shift (position_of home i.name u))) d w u (stand.free home i.name)
      (λ clean. ap (λ o. seen_at p (object_at home i.name) (Position (shifted shift o))) (position_same i d w u seen clean n)) n
  near_shifted_by false shift i d w u seen n = n

  near_shifted : (shift : Shift) (name : List ℕ) (is : List DeclaredIterator) (d : DirtySet) (w u : RunState) → AllByRecursion SeenIterator is → Agree d w u
      → Agree d (with_iterators_shifted shift home name is w) (with_iterators_shifted shift home name is u)
  near_shifted shift name [] d w u seen n = n
  near_shifted shift name (i ∷ is) d w u seen n =
      near_shifted shift name is d (with_iterator_shifted shift home name i w) (with_iterator_shifted shift home name i u) seen.1 (near_shifted_by (bytes_eq i.hash name) shift i d w u seen.0 n)

  -- ---- calls of a hash object

  answered_same : (h : DeclaredHash) (a : HashAnswer) (d : DirtySet) (w u : RunState) → AllByRecursion (Free known) (variables_at home h.data_variables) → Agree d w u
      → SameExpression p known d Unknown (hash_answered (objects_of p home) home h a w) (hash_answered (objects_of p home) home h a u)
  answered_same h a d w u free n =
      let x = keep_at (object_at home h.name) (Items a.items) w in
      let y = keep_at (object_at home h.name) (Items a.items) u in
      let is = (objects_of p home).iterators in
      give a.code (with_data_copied home h a.copied (with_iterators_shifted a.shift home h.name is x)) (with_data_copied home h a.copied (with_iterators_shifted a.shift home h.name is y))
      (near_copied h a.copied d (with_iterators_shifted a.shift home h.name is x) (with_iterators_shifted a.shift home h.name is y) free
      (near_shifted a.shift h.name is d x y (stand.seen.iterators home)
      (near_kept p known (object_at home h.name) (Items a.items) (Items a.items) d w u (stand.free home h.name) (λ clean. refl) n))) tt

  answers_same : (h : DeclaredHash) (a b : HashAnswer) (d : DirtySet) (w u : RunState) → a ≡ b → AllByRecursion (Free known) (variables_at home h.data_variables) → Agree d w u
      → SameExpression p known d Unknown (hash_answered (objects_of p home) home h a w) (hash_answered (objects_of p home) home h b u)
  answers_same h a b d w u e free n =
      subst (λ (z : HashAnswer). SameExpression p known d Unknown (hash_answered (objects_of p home) home h a w) (hash_answered (objects_of p home) home h z u)) e (answered_same h a d w u free n)

  -- iterators of a hash object that is cleared are clean
  near_emptied_by : (b : Bool) (i : DeclaredIterator) (is : List DeclaredIterator) (name : List ℕ) (d : DirtySet) (w u : RunState) → Agree d w u
      → ((e : DirtySet) (x y : RunState) → Agree e x y → Agree (all_cleaned (iterators_over home is name) e) (with_iterators_shifted Empties home name is x) (with_iterators_shifted Empties home name is y))
      → Agree (all_cleaned (map (λ (k : DeclaredIterator). object_at home k.name) (cond b (i ∷ filter (λ (k : DeclaredIterator). bytes_eq k.hash name) is) (filter (λ (k : DeclaredIterator). bytes_eq k.hash name) is))) d)
      (with_iterators_shifted Empties home name is (if b then keep_at (object_at home i.name) (Position (shifted Empties (position_of home i.name w))) w else w))
      (with_iterators_shifted Empties home name is (if b then keep_at (object_at home i.name) (Position (shifted Empties (position_of home i.name u))) u else u))
  near_emptied_by true i is name d w u n later =
      later (cleaned (object_at home i.name) d) (keep_at (object_at home i.name) (Position None) w) (keep_at (object_at home i.name) (Position None) u)
      (near_cleaned p known (object_at home i.name) (Position None) (Position None) d w u (stand.free home i.name) refl n)
  near_emptied_by false i is name d w u n later = later d w u n

  near_emptied : (is : List DeclaredIterator) (name : List ℕ) (d : DirtySet) (w u : RunState) → Agree d w u
      → Agree (all_cleaned (iterators_over home is name) d) (with_iterators_shifted Empties home name is w) (with_iterators_shifted Empties home name is u)
  near_emptied [] name d w u n = n
  near_emptied (i ∷ is) name d w u n = near_emptied_by (bytes_eq i.hash name) i is name d w u n (λ e x y m. near_emptied is name e x y m)

  abbrev keys : DeclaredHash → RunState → Row
  keys h w = values_of_variables home h.key_variables w

  abbrev row : DeclaredHash → RunState → Row
  row h w = values_of_variables home h.data_variables w

  -- what is asked of a hash object that is called
  pub record HashStands (h : DeclaredHash) : Type 0 where
    pub seen : SeenHash h
    pub free : AllByRecursion (Free known) (variables_at home h.data_variables)
    pub keys_are : AllByRecursion (IsValueAt p) (variables_at home h.key_variables)
    pub data_are : AllByRecursion (IsValueAt p) (variables_at home h.data_variables)

  abbrev Clean : DirtySet → List Location → Type 0
  Clean d ats = AllByRecursion (λ at. d at ≡ false) ats

  -- an answer that depends on the key and the items
  by_key : (f : HashFunction) (h : DeclaredHash) (d : DirtySet) (w u : RunState) → HashStands h → Clean d (object_at home h.name ∷ variables_at home h.key_variables) → Agree d w u
      → ((k : Row) (r q : Row) (items : HashItems) → hash_answer f k r items ≡ hash_answer f k q items)
      → hash_answer f (keys h w) (row h w) (items_of home h.name w) ≡ hash_answer f (keys h u) (row h u) (items_of home h.name u)
  by_key f h d w u is clean n any =
      ap (λ k. hash_answer f k (row h w) (items_of home h.name w)) (values_same h.key_variables d w u is.keys_are clean.1 n)
      ∙ ap (λ items. hash_answer f (keys h u) (row h w) items) (items_same h d w u is.seen clean.0 n)
      ∙ any (keys h u) (row h w) (row h u) (items_of home h.name u)

  -- an answer that depends on the data too
  by_data : (f : HashFunction) (h : DeclaredHash) (d : DirtySet) (w u : RunState) → HashStands h
      → Clean d (object_at home h.name ∷ (variables_at home h.key_variables ++ variables_at home h.data_variables)) → Agree d w u
      → hash_answer f (keys h w) (row h w) (items_of home h.name w) ≡ hash_answer f (keys h u) (row h u) (items_of home h.name u)
  by_data f h d w u is clean n =
      ap (λ k. hash_answer f k (row h w) (items_of home h.name w)) (values_same h.key_variables d w u is.keys_are (all_front (λ at. d at ≡ false) (variables_at home h.key_variables) (variables_at home h.data_variables) clean.1) n)
      ∙ ap (λ items. hash_answer f (keys h u) (row h w) items) (items_same h d w u is.seen clean.0 n)
      ∙ ap (λ r. hash_answer f (keys h u) r (items_of home h.name u)) (values_same h.data_variables d w u is.data_are (all_back (λ at. d at ≡ false) (variables_at home h.key_variables) (variables_at home h.data_variables) clean.1) n)

  -- the data variables are no part of the answer
  find_any : (k r q : Row) (items : HashItems) → hash_answer hash.Find k r items ≡ hash_answer hash.Find k q items
  find_any k r q items = refl

  check_any : (k r q : Row) (items : HashItems) → hash_answer hash.Check k r items ≡ hash_answer hash.Check k q items
  check_any k r q items = refl

  remove_any : (k r q : Row) (items : HashItems) → hash_answer hash.Remove k r items ≡ hash_answer hash.Remove k q items
  remove_any k r q items = refl

  module _ (outputs : List (List (List ℕ))) (place : Place) (h : DeclaredHash) (is : HashStands h) (d : DirtySet) (w u : RunState) (n : Agree d w u) where
    abbrev Claim : HashFunction → WalkEnd DirtySet → Type 0
    Claim f o = ExpressionAt p known o Unknown (call_hash (objects_of p home) home f (Some h) w) (call_hash (objects_of p home) home f (Some h) u)

    -- a call that cleans nothing, where its answer is one for both
    read_same : (f : HashFunction) → (Clean d (read_by_hash home f h) → hash_answer f (keys h w) (row h w) (items_of home h.name w) ≡ hash_answer f (keys h u) (row h u) (items_of home h.name u))
        → Claim f (then_walk (read_locations place (read_by_hash home f h) d) (λ x. GoesOn x))
    read_same f same =
        reads_then p known DirtySet place (read_by_hash home f h) d (λ x. GoesOn x) (Claim f) (λ x q. tt)
        (λ clean. answers_same h (hash_answer f (keys h w) (row h w) (items_of home h.name w)) (hash_answer f (keys h u) (row h u) (items_of home h.name u)) d w u (same clean) is.free n)

    hash_same : (f : HashFunction)
        → Claim f (walk_hash_call (record { home = home; objects = objects_of p home; outputs = outputs }) f (Some h) place d)
    hash_same hash.Find = read_same hash.Find (λ clean. by_key hash.Find h d w u is clean n find_any)
    hash_same hash.Check = read_same hash.Check (λ clean. by_key hash.Check h d w u is clean n check_any)
    hash_same hash.Remove = read_same hash.Remove (λ clean. by_key hash.Remove h d w u is clean n remove_any)
    hash_same hash.Add = read_same hash.Add (λ clean. by_data hash.Add h d w u is clean n)
    hash_same hash.Replace = read_same hash.Replace (λ clean. by_data hash.Replace h d w u is clean n)
    hash_same hash.NumItems =
        read_same hash.NumItems (λ clean. ap (λ items. hash_answer hash.NumItems (keys h w) (row h w) items) (items_same h d w u is.seen clean.0 n))
    hash_same hash.Clear =
        let x = keep_at (object_at home h.name) (Items []) w in
        let y = keep_at (object_at home h.name) (Items []) u in
        let its = (objects_of p home).iterators in
        give (hash_answer hash.Clear (keys h w) (row h w) (items_of home h.name w)).code (with_iterators_shifted Empties home h.name its x) (with_iterators_shifted Empties home h.name its y)
        (near_emptied its h.name (cleaned (object_at home h.name) d) x y (near_cleaned p known (object_at home h.name) (Items []) (Items []) d w u (stand.free home h.name) refl n)) tt

  -- a call of a hash object by its name
  pub hash_call_same : (outputs : List (List (List ℕ))) (f : HashFunction) (name : List ℕ) (o : Option DeclaredHash) (place : Place) (d : DirtySet) (w u : RunState)
      → hash_named (objects_of p home).hashes name ≡ o → Agree d w u
      → ExpressionAt p known (walk_hash_call (record { home = home; objects = objects_of p home; outputs = outputs }) f o place d) Unknown (call_hash (objects_of p home) home f o w) (call_hash (objects_of p home) home f o u)
  hash_call_same outputs f name None place d w u e n = give Null w u n tt
  hash_call_same outputs f name (Some h) place d w u e n =
      hash_same outputs place h
      (record { seen = stand.seen.hashes home name h e; free = stand.data_free home name h e; keys_are = stand.keys_are home name h e; data_are = stand.data_are home name h e }) d w u n f

  -- ---- calls of an iterator

  moved_same : (i : DeclaredIterator) (h : DeclaredHash) (a : IteratorAnswer) (d : DirtySet) (w u : RunState) → AllByRecursion (Free known) (variables_at home h.data_variables) → Agree d w u
      → SameExpression p known d Unknown (iterator_answered home i h a w) (iterator_answered home i h a u)
  moved_same i h a d w u free n =
      give a.code (with_data_copied home h a.copied (keep_at (object_at home i.name) (Position a.position) w)) (with_data_copied home h a.copied (keep_at (object_at home i.name) (Position a.position) u))
      (near_copied h a.copied d (keep_at (object_at home i.name) (Position a.position) w) (keep_at (object_at home i.name) (Position a.position) u) free
      (near_kept p known (object_at home i.name) (Position a.position) (Position a.position) d w u (stand.free home i.name) (λ clean. refl) n)) tt

  iterator_over_same : (f : IteratorFunction) (i : DeclaredIterator) (o : Option DeclaredHash) (d : DirtySet) (w u : RunState) → hash_named (objects_of p home).hashes i.hash ≡ o → SeenIterator i
      → d (object_at home i.name) ≡ false → d (object_at home i.hash) ≡ false → Agree d w u → SameExpression p known d Unknown (call_iterator_of home f i o w) (call_iterator_of home f i o u)
  iterator_over_same f i None d w u e seen clean items n = give Null w u n tt
  iterator_over_same f i (Some h) d w u e seen clean items n =
      let named : h.name ≡ i.hash = (bytes_eq-Decides h.name i.hash).0 (found_has_name (objects_of p home).hashes i.hash h e) in
      let same : iterator_answer f (items_of home h.name w) (position_of home i.name w) ≡ iterator_answer f (items_of home h.name u) (position_of home i.name u) =
      ap (λ xs. iterator_answer f xs (position_of home i.name w)) (items_same h d w u (stand.seen.hashes home i.hash h e) (ap (λ name. d (object_at home name)) named ∙ items) n)
      ∙ ap (λ at. iterator_answer f (items_of home h.name u) at) (position_same i d w u seen clean n) in
      subst (λ (z : IteratorAnswer). SameExpression p known d Unknown (iterator_answered home i h (iterator_answer f (items_of home h.name w) (position_of home i.name w)) w) (iterator_answered home i h z u)) same
      (moved_same i h (iterator_answer f (items_of home h.name w) (position_of home i.name w)) d w u (stand.data_free home i.hash h e) n)

  found_by : (b : Bool) (k i : DeclaredIterator) (is : List DeclaredIterator) (name : List ℕ) → SeenIterator k → cond b (Some k) (iterator_named is name) ≡ Some i
      → (iterator_named is name ≡ Some i → SeenIterator i) → SeenIterator i
  found_by true k i is name seen e later = let same : k ≡ i = cc in subst SeenIterator same seen
  found_by false k i is name seen e later = later e

  found_seen : (is : List DeclaredIterator) (name : List ℕ) (i : DeclaredIterator) → AllByRecursion SeenIterator is → iterator_named is name ≡ Some i → SeenIterator i
  found_seen [] name i seen e = absurd cc
  found_seen (k ∷ is) name i seen e = found_by (bytes_eq k.name name) k i is name seen.0 e (λ f. found_seen is name i seen.1 f)

  -- a call of an iterator by its name
  pub iterator_call_same : (outputs : List (List (List ℕ))) (f : IteratorFunction) (name : List ℕ) (o : Option DeclaredIterator) (place : Place) (d : DirtySet) (w u : RunState)
      → iterator_named (objects_of p home).iterators name ≡ o → Agree d w u
      → ExpressionAt p known (walk_iterator_call (record { home = home; objects = objects_of p home; outputs = outputs }) o place d) Unknown (call_iterator (objects_of p home) home f o w) (call_iterator (objects_of p home) home f o u)
  iterator_call_same outputs f name None place d w u e n = give Null w u n tt
  iterator_call_same outputs f name (Some i) place d w u e n =
      reads_alone p known place (object_at home i.name ∷ object_at home i.hash ∷ []) d
      (λ o. ExpressionAt p known o Unknown (call_iterator (objects_of p home) home f (Some i) w) (call_iterator (objects_of p home) home f (Some i) u)) (λ x q. tt)
      (λ clean. iterator_over_same f i (hash_named (objects_of p home).hashes i.hash) d w u refl (found_seen (objects_of p home).iterators name i (stand.seen.iterators home) e) clean.0 clean.1.0 n)
