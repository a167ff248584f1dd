-- The theorem on the verdict: a thread program that is local at a grain is group independent there.
use Rattle.std.specs.List.{list_any}
use Rattle.std.specs.Prelude.{◌≡◌, ℕ, true, List, is_some}
use Rattle.ds2_base.specs.declared.place.Place.{Place}
use Rattle.ds2_meaning.specs.HashObjects.{hash_named, iterator_named, object_at}
use Rattle.ds2_meaning.specs.IsTyped.{IsTypedUnit}
use Rattle.ds2_meaning.specs.Location.{Home, is_same_location}
use Rattle.ds2_meaning.specs.ProgramTree.{UnitTree, objects_of}
use Rattle.ds2_locality.specs.declared.locality.Verdict.TheVariants.{Local}
use Rattle.ds2_locality.specs.Independence.{IsIndependentAt}
use Rattle.ds2_locality.specs.Verdict.{JudgedThread, objects_in_order, verdict_of}

-- the hash objects and iterators of a program are all told, in some order
pub record ObjectsTold (t : JudgedThread) : Type 0 where
  pub hashes : (home : Home) (name : List ℕ) → is_some (hash_named (objects_of t.program home).hashes name) ≡ true → list_any (λ other. is_same_location (object_at home name) other) t.objects ≡ true
  pub iterators : (home : Home) (name : List ℕ) → is_some (iterator_named (objects_of t.program home).iterators name) ≡ true → list_any (λ other. is_same_location (object_at home name) other) t.objects ≡ true

-- a typed thread program that is local at a grain is group independent there
abbrev pub LocalIsIndependent : Type 0
LocalIsIndependent = (t : JudgedThread) → IsTypedUnit t.program → ObjectsTold t → (grain : ℕ) → verdict_of t ≡ Local grain → IsIndependentAt t.program grain

-- in whatever order the names of its declarations are told, all hash objects and iterators of a program are
abbrev pub AllObjectsAreTold : Type 0
AllObjectsAreTold = (p : UnitTree) (run_place term_place : Place) (names : List (List ℕ))
    → ObjectsTold (record { program = p; run_place = run_place; term_place = term_place; objects = objects_in_order names p })
