-- The methods of a unit that can be called, as a table tells them.
use Rattle.std.specs.Prelude.{◌≡◌, ℕ, ◌+◌, Bool, true, not, nat_eq, bytes_eq, if◌then◌else◌, List, [], ◌∷◌, Option, Some, None}
use Rattle.std.specs.Cmp.Lexicographic.{pointwise}
use Rattle.std.specs.HashMap.{HashMap, get}
use Rattle.ds2_tree.specs.Globals.{Method, GlobalItem, Defined}
use Rattle.ds2_names.specs.SourceUnit.{UnitKind, OfPackage, spelled_name, is_system_name}
use Rattle.ds2_elaboration.specs.SourceTypes.{elaborated_parameters, returned_type}
use Rattle.ds2_reference_types.specs.declared.scopes.KnownMethod.{KnownMethod}

-- a method of this number, as it is known
abbrev pub known_method : ℕ → Method → KnownMethod
known_method number m = record { number = number; parameters = elaborated_parameters m; returns = returned_type m.returns }

-- a method of this number, where the name is this one
abbrev pub known_if_named : List ℕ → ℕ → Method → Option KnownMethod
known_if_named name number m = if bytes_eq (spelled_name m.name) name then Some (known_method number m) else None

-- a method of a unit of this kind can be called: each of a package, and of a program all but `init`, `run` and `term`
abbrev pub can_be_called : UnitKind → Method → Bool
can_be_called OfPackage m = true
can_be_called _ m = not (is_system_name (spelled_name m.name))

-- a method of a unit of this kind, where it can be called
abbrev pub callable_if : UnitKind → Method → Option Method
callable_if kind m = if can_be_called kind m then Some m else None

-- the method that can be called in a part of a unit of this kind, where there is one
abbrev pub callable_in : UnitKind → GlobalItem → Option Method
callable_in kind (Defined m) = callable_if kind m
callable_in kind _ = None

-- the number behind such a method
abbrev pub number_behind_method : ℕ → Option Method → ℕ
number_behind_method number None = number
number_behind_method number (Some m) = number + 1

-- such a method of this number, where the name is this one
abbrev pub known_in_part : List ℕ → ℕ → Option Method → Option KnownMethod
known_in_part name number None = None
known_in_part name number (Some m) = known_if_named name number m

-- the first of these methods of a name, where they are numbered from here on
abbrev pub known_from : ℕ → List Method → List ℕ → Option KnownMethod
known_from number [] name = None
known_from number (m ∷ methods) name = if bytes_eq (spelled_name m.name) name then Some (known_method number m) else known_from (number + 1) methods name

-- a table tells of each name the first of these methods that has it
abbrev pub HasCallables : {S : Type 0} → HashMap (List ℕ) KnownMethod S → List Method → Type 0
HasCallables table methods = (name : List ℕ) → get (pointwise nat_eq) table name ≡ known_from 0 methods name
