-- What calls of hash objects and iterators do: their items and positions are kept like variables, their keys and data are
-- variables of the unit.
use Rattle.std.specs.Prelude.{ℕ, bytes_eq, if◌then◌else◌, List, [], ◌∷◌, map, Option, Some, None}
use Rattle.std.specs.List.{find}
use Rattle.ds2_value.specs.HashList.{HashItems, Shift, shifted, HashAnswer, hash_answer, IteratorAnswer, iterator_answer}
use Rattle.ds2_value.specs.Row.{Row}
use Rattle.ds2_value.specs.declared.hash_function.HashFunction.{HashFunction}
use Rattle.ds2_value.specs.declared.hash_function.IteratorFunction.{IteratorFunction}
use Rattle.ds2_value.specs.declared.value.Value.TheVariants.{Null}
use Rattle.ds2_meaning.specs.declared.hashes.DeclaredHash.{DeclaredHash}
use Rattle.ds2_meaning.specs.declared.hashes.DeclaredIterator.{DeclaredIterator}
use Rattle.ds2_meaning.specs.declared.hashes.HashVariable.{HashVariable}
use Rattle.ds2_meaning.specs.declared.location.Global.TheVariants.{Named}
use Rattle.ds2_meaning.specs.declared.location.Reference.TheVariants.{At}
use Rattle.ds2_meaning.specs.Location.{Home, Location, Items, Position, items_held, position_held}
use Rattle.ds2_meaning.specs.RunState.{RunState, ExpressionEnd, Gives, variable_value, store, keep_at}

-- the hash objects and the iterators that a unit declares
pub record DeclaredObjects : Type 0 where
  pub hashes : List DeclaredHash
  pub iterators : List DeclaredIterator

-- a unit that declares none
abbrev pub no_objects : DeclaredObjects
no_objects = record { hashes = []; iterators = [] }

-- the hash object of this name
abbrev pub hash_named : List DeclaredHash → List ℕ → Option DeclaredHash
hash_named hashes name = find (λ (h : DeclaredHash). bytes_eq h.name name) hashes

-- the iterator of this name
abbrev pub iterator_named : List DeclaredIterator → List ℕ → Option DeclaredIterator
iterator_named iterators name = find (λ (i : DeclaredIterator). bytes_eq i.name name) iterators

-- where the items of a hash object, or the position of an iterator, are kept
abbrev pub object_at : Home → List ℕ → Location
object_at home name = record { home = home; global = Named name }

-- the items of the hash object of this name
abbrev pub items_of : Home → List ℕ → RunState → HashItems
items_of home name w = items_held (w.storage (object_at home name))

-- where the iterator of this name stands
abbrev pub position_of : Home → List ℕ → RunState → Option ℕ
position_of home name w = position_held (w.storage (object_at home name))

-- the values of the variables of a hash object, in order
abbrev pub values_of_variables : Home → List HashVariable → RunState → Row
values_of_variables home variables w = map (λ (v : HashVariable). variable_value home (At v.global) w) variables

-- values go into variables, in order; of several values for one variable the last one stays
abbrev pub with_values_stored : Home → List HashVariable → Row → RunState → RunState
with_values_stored home [] row w = w
with_values_stored home (x ∷ xs) [] w = w
with_values_stored home (x ∷ xs) (v ∷ vs) w = with_values_stored home xs vs (store home (At x.global) v w)

-- the data that a call copies, where it copies any, go into the data variables
abbrev pub with_data_copied : Home → DeclaredHash → Option Row → RunState → RunState
with_data_copied home hash None w = w
with_data_copied home hash (Some row) w = with_values_stored home hash.data_variables row w

-- an iterator stands elsewhere where its hash object is the one of this name
abbrev pub with_iterator_shifted : Shift → Home → List ℕ → DeclaredIterator → RunState → RunState
with_iterator_shifted shift home hash i w =
    if bytes_eq i.hash hash then keep_at (object_at home i.name) (Position (shifted shift (position_of home i.name w))) w else w

-- the iterators of the hash object of this name stand elsewhere
abbrev pub with_iterators_shifted : Shift → Home → List ℕ → List DeclaredIterator → RunState → RunState
with_iterators_shifted shift home hash [] w = w
with_iterators_shifted shift home hash (i ∷ iterators) w =
    with_iterators_shifted shift home hash iterators (with_iterator_shifted shift home hash i w)

-- a hash object has answered: it has its new items, its iterators stand elsewhere, and the data that it found are copied
abbrev pub hash_answered : DeclaredObjects → Home → DeclaredHash → HashAnswer → RunState → ExpressionEnd
hash_answered objects home hash answer w =
    Gives answer.code
    (with_data_copied home hash answer.copied
    (with_iterators_shifted answer.shift home hash.name objects.iterators (keep_at (object_at home hash.name) (Items answer.items) w)))

-- a call of a hash object, with the values of its key and data variables; one that is not there is never called in a typed unit
abbrev pub call_hash : DeclaredObjects → Home → HashFunction → Option DeclaredHash → RunState → ExpressionEnd
call_hash objects home f None w = Gives Null w
call_hash objects home f (Some hash) w =
    hash_answered objects home hash
    (hash_answer f (values_of_variables home hash.key_variables w) (values_of_variables home hash.data_variables w) (items_of home hash.name w)) w

-- an iterator has answered: it stands where it went, and the data of the item there are copied
abbrev pub iterator_answered : Home → DeclaredIterator → DeclaredHash → IteratorAnswer → RunState → ExpressionEnd
iterator_answered home i hash answer w =
    Gives answer.code (with_data_copied home hash answer.copied (keep_at (object_at home i.name) (Position answer.position) w))

-- a call of an iterator of a hash object; the hash object of a typed unit's iterator is there
abbrev pub call_iterator_of : Home → IteratorFunction → DeclaredIterator → Option DeclaredHash → RunState → ExpressionEnd
call_iterator_of home f i None w = Gives Null w
call_iterator_of home f i (Some hash) w = iterator_answered home i hash (iterator_answer f (items_of home hash.name w) (position_of home i.name w)) w

-- a call of an iterator; one that is not there is never called in a typed unit
abbrev pub call_iterator : DeclaredObjects → Home → IteratorFunction → Option DeclaredIterator → RunState → ExpressionEnd
call_iterator objects home f None w = Gives Null w
call_iterator objects home f (Some i) w = call_iterator_of home f i (hash_named objects.hashes i.hash) w
