-- Tables to which names are added.
use Rattle.std.proofs.Common.{◌≡◌, ℕ, ◌||◌, Bool, true, false, if◌then◌else◌, bytes_eq, List, ◌∷◌, Option, Some, None, refl, sym, ap, ◌∙◌}
use Rattle.std.specs.Prelude.{is_some}
use Rattle.std.proofs.lemmas.Slice.Eq.{bytes_eq-Decides}
use Rattle.ds2_names.specs.SourceUnit.{PlacedName}
use Rattle.ds2_meaning.specs.ProgramTree.{is_listed}
use Rattle.ds2_type_tables.specs.Globals.{known_column, column_known_as, parameter_as_known, parameter_known_as, known_flag, flag_of_name}
use Rattle.ds2_value.specs.declared.ty.Ty.{Ty}
use Rattle.ds2_meaning.specs.IsTyped.{type_in}
use Rattle.ds2_meaning.specs.declared.globals.Variable.{Variable}
use Rattle.ds2_reference_types.specs.Scopes.{known_or}
use Rattle.ds2_reference_types.specs.declared.scopes.KnownName.{KnownName}
use Rattle.ds2_type_tables.specs.Tables.{known_local, local_of}

pub none_behind : (x : Option KnownName) → known_or x None ≡ x
none_behind None = refl
none_behind (Some k) = refl

or_assoc : (x y z : Option KnownName) → known_or (known_or x y) z ≡ known_or x (known_or y z)
or_assoc None y z = refl
or_assoc (Some k) y z = refl

-- a name that the table did not have
pub added : (old : List ℕ → Option KnownName) (k : KnownName) (name : List ℕ) → old k.name ≡ None
    → (if bytes_eq k.name name then Some k else old name) ≡ known_or (old name) (if bytes_eq k.name name then Some k else None)
added old k name h = by (bytes_eq k.name name) refl
  where
    by : (t : Bool) → bytes_eq k.name name ≡ t → (if t then Some k else old name) ≡ known_or (old name) (if t then Some k else None)
    by true e = ap (λ (o : Option KnownName). known_or o (Some k)) (sym (sym (ap old ((bytes_eq-Decides k.name name).0 e)) ∙ h))
    by false e = sym (none_behind (old name))

-- a name that it had
pub not_added : (old : List ℕ → Option KnownName) (k : KnownName) (name : List ℕ) → is_some (old k.name) ≡ true
    → old name ≡ known_or (old name) (if bytes_eq k.name name then Some k else None)
not_added old k name h = by (bytes_eq k.name name) refl
  where
    stays : (o : Option KnownName) → is_some o ≡ true → o ≡ known_or o (Some k)
    stays None e = cc
    stays (Some x) e = refl

    by : (t : Bool) → bytes_eq k.name name ≡ t → old name ≡ known_or (old name) (if t then Some k else None)
    by true e = stays (old name) (ap (λ (n : List ℕ). is_some (old n)) (sym ((bytes_eq-Decides k.name name).0 e)) ∙ h)
    by false e = sym (none_behind (old name))

-- one local more
pub one_more_local : (x : Option KnownName) (v : Variable) (vs : List Variable) (name : List ℕ)
    → known_or (known_or x (if bytes_eq v.name name then Some (known_local v) else None)) (local_of name (type_in vs name)) ≡ known_or x (local_of name (type_in (v ∷ vs) name))
one_more_local x v vs name =
    or_assoc x (if bytes_eq v.name name then Some (known_local v) else None) (local_of name (type_in vs name)) ∙ ap (known_or x) (by (bytes_eq v.name name) refl)
  where
    by : (t : Bool) → bytes_eq v.name name ≡ t
        → known_or (if t then Some (known_local v) else None) (local_of name (type_in vs name)) ≡ local_of name (if t then Some v.ty else type_in vs name)
    by true e = ap (λ (n : List ℕ). local_of n (Some v.ty)) ((bytes_eq-Decides v.name name).0 e)
    by false e = refl

-- one variable or column more
pub one_more_column : (unjoined : List PlacedName) (x : Option KnownName) (v : Variable) (vs : List Variable) (name : List ℕ)
    → known_or (known_or x (if bytes_eq v.name name then Some (known_column unjoined v) else None)) (column_known_as unjoined name (type_in vs name))
    ≡ known_or x (column_known_as unjoined name (type_in (v ∷ vs) name))
one_more_column unjoined x v vs name =
    or_assoc x (if bytes_eq v.name name then Some (known_column unjoined v) else None) (column_known_as unjoined name (type_in vs name)) ∙ ap (known_or x) (by (bytes_eq v.name name) refl)
  where
    by : (t : Bool) → bytes_eq v.name name ≡ t
        → known_or (if t then Some (known_column unjoined v) else None) (column_known_as unjoined name (type_in vs name)) ≡ column_known_as unjoined name (if t then Some v.ty else type_in vs name)
    by true e = ap (λ (n : List ℕ). column_known_as unjoined n (Some v.ty)) ((bytes_eq-Decides v.name name).0 e)
    by false e = refl

-- one parameter of a thread program more
pub one_more_parameter : (x : Option KnownName) (v : Variable) (vs : List Variable) (name : List ℕ)
    → known_or (known_or x (if bytes_eq v.name name then Some (parameter_as_known v) else None)) (parameter_known_as name (type_in vs name)) ≡ known_or x (parameter_known_as name (type_in (v ∷ vs) name))
one_more_parameter x v vs name =
    or_assoc x (if bytes_eq v.name name then Some (parameter_as_known v) else None) (parameter_known_as name (type_in vs name)) ∙ ap (known_or x) (by (bytes_eq v.name name) refl)
  where
    by : (t : Bool) → bytes_eq v.name name ≡ t
        → known_or (if t then Some (parameter_as_known v) else None) (parameter_known_as name (type_in vs name)) ≡ parameter_known_as name (if t then Some v.ty else type_in vs name)
    by true e = ap (λ (n : List ℕ). parameter_known_as n (Some v.ty)) ((bytes_eq-Decides v.name name).0 e)
    by false e = refl

-- columns, parameters and flags behind each other
pub globals_whole : (names : Option KnownName) (column parameter flag : Option KnownName) → names ≡ known_or column parameter → known_or names flag ≡ known_or column (known_or parameter flag)
globals_whole names column parameter flag e = ap (λ (x : Option KnownName). known_or x flag) e ∙ or_assoc column parameter flag

-- one flag more
pub one_more_flag : (x : Option KnownName) (flag : List ℕ) (flags : List (List ℕ)) (name : List ℕ)
    → known_or (known_or x (if bytes_eq flag name then Some (known_flag flag) else None)) (flag_of_name flags name) ≡ known_or x (flag_of_name (flag ∷ flags) name)
one_more_flag x flag flags name =
    or_assoc x (if bytes_eq flag name then Some (known_flag flag) else None) (flag_of_name flags name) ∙ ap (known_or x) (by (bytes_eq flag name) (is_listed flags name) refl)
  where
    by : (t listed : Bool) → bytes_eq flag name ≡ t
        → known_or (if t then Some (known_flag flag) else None) (if listed then Some (known_flag name) else None) ≡ (if t || listed then Some (known_flag name) else None)
    by true listed e = ap (λ (n : List ℕ). Some (known_flag n)) ((bytes_eq-Decides flag name).0 e)
    by false listed e = refl
