-- What units gave is put together as the law on stages asks, and groups over tables are groups.
use Rattle.std.proofs.Common.{◌≡◌, ℕ, List, [], ◌∷◌, ◌++◌, refl, ap}
use Rattle.std.specs.Prelude.{Option, Some, None}
use Rattle.ds2_schedule.specs.Groups.{IsAmongGroups}
use Rattle.ds2_meaning.specs.declared.readings.Reading.{Reading}
use Rattle.ds2_meaning.specs.declared.readings.Reading.TheVariants.{Nothing, Once, Set, Merge, From}
use Rattle.ds2_meaning.specs.IsTyped.{ReadsNoStage}
use Rattle.ds2_meaning.specs.ProgramTree.{UnitTree}
use Rattle.ds2_locality.specs.Independence.{earlier_fault, LocatedLoad, thread_groups, IsTableGroup, IsGroupOfReading, UnitsJoin, IndependentOverTables}

append_nil : {A : Type 0} (xs : List A) → xs ++ [] ≡ xs
append_nil [] = refl
append_nil (x ∷ xs) = ap (λ ys. x ∷ ys) (append_nil xs)

append_in_turn : {A : Type 0} (xs ys zs : List A) → (xs ++ ys) ++ zs ≡ xs ++ (ys ++ zs)
append_in_turn [] ys zs = refl
append_in_turn (x ∷ xs) ys zs = ap (λ ws. x ∷ ws) (append_in_turn xs ys zs)

no_fault_behind : {A : Type 0} (f : Option A) → earlier_fault f None ≡ f
no_fault_behind None = refl
no_fault_behind (Some x) = refl

faults_in_turn : {A : Type 0} (a b c : Option A) → earlier_fault (earlier_fault a b) c ≡ earlier_fault a (earlier_fault b c)
faults_in_turn None b c = refl
faults_in_turn (Some x) b c = refl

pub units_join : UnitsJoin
units_join p = record {
  from_nothing = λ o. refl;
  to_nothing = λ o i. record { rows = append_nil o.rows i; lines = append_nil o.lines i; courses = append_nil o.courses i; fault = no_fault_behind o.fault i };
  in_turn = λ a b c i. record {
    rows = append_in_turn a.rows b.rows c.rows i;
    lines = append_in_turn a.lines b.lines c.lines i;
    courses = append_in_turn a.courses b.courses c.courses i;
    fault = faults_in_turn a.fault b.fault c.fault i;
  };
}

group_of_reading : (r : Reading) (p : UnitTree) (grain : ℕ) (loads : List LocatedLoad) → ReadsNoStage r → IsTableGroup p grain loads → IsGroupOfReading r p grain loads
group_of_reading Nothing p grain loads reads g = g
group_of_reading Once p grain loads reads g = g
group_of_reading (Set inputs bys) p grain loads reads g = g
group_of_reading (Merge inputs bys retains) p grain loads reads g = g
group_of_reading (From instance workers columns) p grain loads reads g = absurd reads

pub independent_over_tables : IndependentOverTables
independent_over_tables p grain tables reads fit free =
    let among : (loads : List LocatedLoad) → IsAmongGroups (thread_groups p tables grain) loads → IsGroupOfReading p.reading p grain loads =
    λ loads g. group_of_reading p.reading p grain loads reads (record { tables = tables; rows = fit; among = g }) in
    record {
      groups = λ budget ls ks s t gl gk alike agree. free.groups budget ls ks s t (among ls gl) (among ks gk) alike agree;
      terms = free.terms;
    }
