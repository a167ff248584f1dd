-- Items that are gone through in order, and what each of them does.
use Rattle.std.proofs.Common.{◌≡◌, ℕ, Bool, true, false, List, [], ◌∷◌, ◌++◌, map, filter, cond, bytes_eq, slice_get, Option, Some, None, option_map, refl, sym, ap, ◌∙◌, append_assoc, append-nil}
use Rattle.std.proofs.lemmas.List.{map-append}
use Rattle.std.proofs.lemmas.Option.{slice_get-map}
use Rattle.ds2_meaning.specs.declared.globals.OutputTable.{OutputTable}
use Rattle.ds2_meaning.specs.declared.hashes.DeclaredIterator.{DeclaredIterator}
use Rattle.ds2_meaning.specs.declared.location.Global.TheVariants.{Parameter}
use Rattle.ds2_meaning.specs.HashObjects.{object_at}
use Rattle.ds2_meaning.specs.Location.{Home}
use Rattle.ds2_meaning.specs.ProgramTree.{sources}
use Rattle.ds2_meaning.specs.TypedStatement.{ParameterValue, Item, Text, Shown, Labelled}
use Rattle.ds2_locality.specs.Deeds.{CodeScope, Mention, Change, global_at, iterators_over, columns_at, columns_written, expression_deeds, parameter_deeds, item_deeds}

-- the items of a line
pub item_first : (s : CodeScope) (item : Item) (items : List Item) → item_deeds s (item ∷ items) ≡ item_deeds s (item ∷ []) ++ item_deeds s items
item_first s (Text t) items = refl
item_first s (Shown e) items = ap (λ l. l ++ item_deeds s items) (sym (append-nil (expression_deeds s e)))
item_first s (Labelled name e) items = ap (λ l. l ++ item_deeds s items) (sym (append-nil (expression_deeds s e)))

-- the parameters of an instance that get values
pub parameter_first : (s : CodeScope) (instance : List ℕ) (p : ParameterValue) (ps : List ParameterValue)
    → parameter_deeds s instance (p ∷ ps) ≡ parameter_deeds s instance (p ∷ []) ++ parameter_deeds s instance ps
parameter_first s instance p ps =
    sym (append_assoc (expression_deeds s p.value) (Change (global_at (Some instance) (Parameter p.parameter)) ∷ []) (parameter_deeds s instance ps))

-- the outputs that a row goes to
pub output_first : (s : CodeScope) (n : ℕ) (ns : List ℕ)
    → map Mention (columns_written s (n ∷ ns)) ≡ map Mention (columns_at s.home (slice_get s.outputs n)) ++ map Mention (columns_written s ns)
output_first s n ns = map-append Mention (columns_at s.home (slice_get s.outputs n)) (columns_written s ns)

output_by : (home : Home) (outputs : List OutputTable) (k : ℕ) (o found : Option OutputTable) → o ≡ slice_get outputs k → o ≡ found
    → map Mention (columns_at home (slice_get (map sources outputs) k)) ≡ map Mention (columns_at home (option_map sources found))
output_by home outputs k o found is there = ap (λ x. map Mention (columns_at home x)) (slice_get-map sources outputs k ∙ ap (λ (x : Option OutputTable). option_map sources x) (sym is ∙ there))

pub that_output : (home : Home) (outputs : List OutputTable) (k : ℕ) (o : Option OutputTable) (found : OutputTable) → o ≡ slice_get outputs k → o ≡ Some found
    → map Mention (columns_at home (slice_get (map sources outputs) k)) ≡ map Mention (columns_at home (Some (sources found)))
that_output home outputs k o found is there = output_by home outputs k o (Some found) is there

pub no_output : (home : Home) (outputs : List OutputTable) (k : ℕ) (o : Option OutputTable) → o ≡ slice_get outputs k → o ≡ None → map Mention (columns_at home (slice_get (map sources outputs) k)) ≡ []
no_output home outputs k o is none = output_by home outputs k o None is none

-- the iterators over a hash object
over_by : (home : Home) (i : DeclaredIterator) (is : List DeclaredIterator) (b : Bool)
    → map Change (map (λ (x : DeclaredIterator). object_at home x.name) (cond b (i ∷ is) is))
    ≡ map Change (map (λ (x : DeclaredIterator). object_at home x.name) (cond b (i ∷ []) [])) ++ map Change (map (λ (x : DeclaredIterator). object_at home x.name) is)
over_by home i is true = refl
over_by home i is false = refl

pub over_first : (home : Home) (i : DeclaredIterator) (is : List DeclaredIterator) (name : List ℕ)
    → map Change (iterators_over home (i ∷ is) name) ≡ map Change (iterators_over home (i ∷ []) name) ++ map Change (iterators_over home is name)
over_first home i is name = over_by home i (filter (λ (x : DeclaredIterator). bytes_eq x.hash name) is) (bytes_eq i.hash name)
