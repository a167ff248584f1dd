-- The table of the instances of a unit.
use Rattle.std.proofs.Common.{◌≡◌, ℕ, Bool, true, false, ◌||◌, List, [], ◌∷◌, ◌++◌, bytes_eq, Option, Some, None, refl, sym, ap, ◌∙◌}
use Rattle.std.specs.Prelude.{if◌then◌else◌, map}
use Rattle.std.specs.Option.{option_or}
use Rattle.std.specs.Str.{is_utf8}
use Rattle.std.proofs.lemmas.List.{map-append}
use Rattle.ds2_base.specs.Text.{text_of}
use Rattle.ds2_tree.specs.Globals.{GlobalItem, Declared, Listed, Defined}
use Rattle.ds2_tree.specs.declared.globals.Bracketed.{Bracketed}
use Rattle.ds2_tree.specs.declared.globals.BracketedName.{BracketedName}
use Rattle.ds2_tree.specs.declared.globals.Declaration.TheVariants as declaration
use Rattle.ds2_names.specs.SourceUnit.{spelled_name, bracketed_tokens, constants_listed, sized_table, AnyPackage, HashObject, HashIterator, AnyThread, SourceInstance, source_instances, instance_named}
use Rattle.ds2_calls.specs.InstanceSorts.{bracketed_names, sort_of, sort_if_any, sort_named, sort_if_spelled, sort_in}
use Rattle.ds2_calls.specs.declared.instances.Sort.{Sort}
use Rattle.ds2_scope.proofs.TableLemmas.{or_none}

pub or_false : (a : Bool) → (a || false) ≡ a
or_false true = refl
or_false false = refl

-- the text, where there is one
abbrev text_or : List ℕ → Option (List ℕ) → List ℕ
text_or other None = other
text_or other (Some x) = x

-- a text that is told from its bytes
pub text_told : (bytes text : List ℕ) → text_of bytes ≡ Some text → text ≡ bytes
text_told bytes text h = by (is_utf8 bytes) h
  where
    by : (b : Bool) → (if b then Some bytes else None) ≡ Some text → text ≡ bytes
    by true e = ap (text_or bytes) (sym e)
    by false e = ap (text_or bytes) (sym e)

bracketed_are : (names : List BracketedName) → map spelled_name (map (λ (n : BracketedName). n.name) names) ≡ bracketed_names names
bracketed_are [] = refl
bracketed_are (n ∷ names) = ap (λ r. spelled_name n.name ∷ r) (bracketed_are names)

pub variables_are : (keys items : Bracketed) → map spelled_name (bracketed_tokens keys ++ bracketed_tokens items) ≡ bracketed_names keys.names ++ bracketed_names items.names
variables_are keys items =
    map-append spelled_name (bracketed_tokens keys) (bracketed_tokens items) ∙ (λ i. bracketed_are keys.names i ++ bracketed_are items.names i)

-- one instance more
one_instance : (x : Option Sort) (i : SourceInstance) (is : List SourceInstance) (name : List ℕ)
    → option_or (option_or x (sort_if_spelled name i.name (sort_of i.sort))) (sort_named is name) ≡ option_or x (sort_named (i ∷ is) name)
one_instance x i is name = by (bytes_eq (spelled_name i.name) name) x
  where
    by : (t : Bool) (y : Option Sort)
        → option_or (option_or y (if t then Some (sort_of i.sort) else None)) (sort_named is name) ≡ option_or y (sort_if_any (if t then Some i else instance_named is name))
    by true None = refl
    by true (Some s) = refl
    by false y = ap (λ z. option_or z (sort_named is name)) (or_none y)

pub one_more_instance : (x : Option Sort) (g : GlobalItem) (gs : List GlobalItem) (name : List ℕ)
    → option_or (option_or x (sort_in g name)) (sort_named (source_instances gs) name) ≡ option_or x (sort_named (source_instances (g ∷ gs)) name)
one_more_instance x (Declared (declaration.Variables v)) gs name = ap (λ y. option_or y (sort_named (source_instances gs) name)) (or_none x)
one_more_instance x (Declared (declaration.Instance a b c d e f)) gs name =
    one_instance x (record { keyword = a; name = d; sort = AnyPackage c (constants_listed e) }) (source_instances gs) name
one_more_instance x (Declared (declaration.Hash a b c d e f g h i j k)) gs name =
    one_instance x (record { keyword = a; name = d; sort = HashObject (bracketed_tokens f) (bracketed_tokens h) (sized_table i) }) (source_instances gs) name
one_more_instance x (Declared (declaration.Hiter a b c d e f g h)) gs name =
    one_instance x (record { keyword = a; name = d; sort = HashIterator f }) (source_instances gs) name
one_more_instance x (Declared (declaration.Thread a b c d e)) gs name =
    one_instance x (record { keyword = a; name = d; sort = AnyThread c }) (source_instances gs) name
one_more_instance x (Listed keyword names end) gs name = ap (λ y. option_or y (sort_named (source_instances gs) name)) (or_none x)
one_more_instance x (Defined m) gs name = ap (λ y. option_or y (sort_named (source_instances gs) name)) (or_none x)
