-- One unit more before a unit.
use Rattle.std.proofs.Common.{◌≡◌, ℕ, Bool, true, false, List, ◌∷◌, bytes_eq, length, Option, Some, refl, sym, ap, ◌∙◌}
use Rattle.std.specs.Prelude.{if◌then◌else◌, map}
use Rattle.std.proofs.Math.Bool.{cond}
use Rattle.std.specs.HashMap.{HashMap}
use Rattle.std.specs.Option.{option_map}
use Rattle.std.proofs.lemmas.List.{length-map}
use Rattle.ds2_tree.specs.declared.globals.Parameter as source_parameter
use Rattle.ds2_names.specs.SourceUnit.{PlacedName, placed_name, names_alone, KnownUnit, KnownPackage, KnownThread, Packaged, Threaded, package_named, thread_named}
use Rattle.ds2_calls.specs.KnownUnits.{methods_in_table, units_in_tables, KnowsCalls}
use Rattle.ds2_calls.specs.MethodFlags.{parameters_by_name, HasMethods}
use Rattle.ds2_calls.specs.declared.known_calls.KnownCalls.{KnownCalls}

-- a package more, whose methods are in a table
pub package_added : {S : Type 0} (old new : KnownCalls) (known : List KnownUnit) (p : KnownPackage) (name : List ℕ) (flags : HashMap (List ℕ) (List Bool) S)
    → p.name ≡ name → HasMethods flags p.methods
    → ((other : List ℕ) → (units_in_tables new).methods_of_package other ≡ cond (bytes_eq name other) (Some (methods_in_table flags)) ((units_in_tables old).methods_of_package other))
    → ((other : List ℕ) → (units_in_tables new).parameters_of_thread other ≡ (units_in_tables old).parameters_of_thread other)
    → KnowsCalls old known → KnowsCalls new (Packaged p ∷ known)
package_added old new known p name flags named has put threads knows = record {
  packages = λ other. put other ∙ by other (bytes_eq name other) ∙ ap (λ n. option_map (λ (q : KnownPackage). parameters_by_name q.methods) (if bytes_eq n other then Some p else package_named known other)) (sym named);
  threads = λ other. threads other ∙ knows.threads other;
}
  where
    by : (other : List ℕ) (t : Bool) → cond t (Some (methods_in_table flags)) ((units_in_tables old).methods_of_package other)
        ≡ option_map (λ (q : KnownPackage). parameters_by_name q.methods) (if t then Some p else package_named known other)
    by other true = λ i. Some (λ method. has method i)
    by other false = knows.packages other

-- a thread program more, of so many parameters
pub thread_added : (old new : KnownCalls) (known : List KnownUnit) (t : KnownThread) (name : List ℕ) (parameters : List source_parameter.Parameter) (count : ℕ)
    → t.name ≡ name → t.parameters ≡ names_alone (map (λ (p : source_parameter.Parameter). placed_name p.name) parameters) → count ≡ length parameters
    → ((other : List ℕ) → (units_in_tables new).parameters_of_thread other ≡ cond (bytes_eq name other) (Some count) ((units_in_tables old).parameters_of_thread other))
    → ((other : List ℕ) → (units_in_tables new).methods_of_package other ≡ (units_in_tables old).methods_of_package other)
    → KnowsCalls old known → KnowsCalls new (Threaded t ∷ known)
thread_added old new known t name parameters count named listed counted put packages knows = record {
  packages = λ other. packages other ∙ knows.packages other;
  threads = λ other. put other ∙ by other (bytes_eq name other) ∙ ap (λ n. option_map (λ (u : KnownThread). length u.parameters) (if bytes_eq n other then Some t else thread_named known other)) (sym named);
}
  where
    as_many : count ≡ length t.parameters
    as_many =
        counted
        ∙ sym (length-map parameters (λ (p : source_parameter.Parameter). placed_name p.name))
        ∙ sym (length-map (map (λ (p : source_parameter.Parameter). placed_name p.name) parameters) (λ (n : PlacedName). n.name))
        ∙ ap length (sym listed)

    by : (other : List ℕ) (b : Bool) → cond b (Some count) ((units_in_tables old).parameters_of_thread other)
        ≡ option_map (λ (u : KnownThread). length u.parameters) (if b then Some t else thread_named known other)
    by other true = ap Some as_many
    by other false = knows.threads other

-- what a table tells of which one entry was put
pub mapped_cond : {S : Type 0} (b : Bool) (flags : HashMap (List ℕ) (List Bool) S) (old : Option (HashMap (List ℕ) (List Bool) S))
    → option_map methods_in_table (cond b (Some flags) old) ≡ cond b (Some (methods_in_table flags)) (option_map methods_in_table old)
mapped_cond true flags old = refl
mapped_cond false flags old = refl
