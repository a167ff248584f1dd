-- The table of the methods of a unit.
use Rattle.std.proofs.Common.{◌≡◌, ℕ, Bool, true, false, List, [], ◌∷◌, bytes_eq, Option, Some, None, refl, ap}
use Rattle.std.specs.Prelude.{if◌then◌else◌}
use Rattle.std.specs.Option.{option_or}
use Rattle.ds2_tree.specs.Globals.{Method, GlobalItem, Declared, Listed, Defined}
use Rattle.ds2_names.specs.SourceUnit.{spelled_name, source_methods}
use Rattle.ds2_names.specs.Uses.{method_named, in_out_of}
use Rattle.ds2_scope.specs.Collected.{methods_in}
use Rattle.ds2_calls.specs.MethodFlags.{flags_of_method, flags_if_named}
use Rattle.ds2_scope.proofs.TableLemmas.{or_none}

pub one_method : (m : Method) (name : List ℕ) → flags_of_method (method_named (m ∷ []) name) ≡ flags_if_named name m
one_method m name = by (bytes_eq (spelled_name m.name) name)
  where
    by : (t : Bool) → flags_of_method (if t then Some m else None) ≡ (if t then Some (in_out_of (Some m)) else None)
    by true = refl
    by false = refl

pub one_more_method : (x : Option (List Bool)) (g : GlobalItem) (gs : List GlobalItem) (name : List ℕ)
    → option_or (option_or x (flags_of_method (method_named (methods_in g) name))) (flags_of_method (method_named (source_methods gs) name))
    ≡ option_or x (flags_of_method (method_named (source_methods (g ∷ gs)) name))
one_more_method x (Declared d) gs name = ap (λ y. option_or y (flags_of_method (method_named (source_methods gs) name))) (or_none x)
one_more_method x (Listed keyword names end) gs name = ap (λ y. option_or y (flags_of_method (method_named (source_methods gs) name))) (or_none x)
one_more_method x (Defined m) gs name = by (bytes_eq (spelled_name m.name) name) x
  where
    rest : Option Method
    rest = method_named (source_methods gs) name

    by : (t : Bool) (y : Option (List Bool)) → option_or (option_or y (flags_of_method (if t then Some m else None))) (flags_of_method rest) ≡ option_or y (flags_of_method (if t then Some m else rest))
    by true None = refl
    by true (Some f) = refl
    by false y = ap (λ z. option_or z (flags_of_method rest)) (or_none y)
