-- What is known of one unit more.
use Rattle.std.proofs.Common.{◌≡◌, ℕ, ◌+◌, Bool, true, false, ◌||◌, cond, List, [], ◌∷◌, bytes_eq, nat_eq, Option, Some, None, refl, sym, ap, ◌∙◌, true≢false}
use Rattle.std.specs.Prelude.{if◌then◌else◌, is_some}
use Rattle.std.specs.Cmp.Lexicographic.{pointwise}
use Rattle.std.specs.HashMap.{get}
use Rattle.std.specs.Option.{option_map}
use Rattle.ds2_meaning.specs.ProgramTree.{is_listed}
use Rattle.ds2_names.specs.SourceUnit.{known_names, KnownPackage, KnownThread, KnownUnit, Packaged, Threaded, package_named, thread_named}
use Rattle.ds2_scope.specs.UnitsKnown.{KnowsUnits, tokens_kept, kept_thread}
use Rattle.ds2_scope.specs.declared.known.KnownThread as code_thread
use Rattle.ds2_scope.specs.declared.known.KnownUnits.{KnownUnits}

-- the package of a name, behind others
package_is : (p : KnownPackage) (known : List KnownUnit) (name : List ℕ) → option_map tokens_kept (package_named (Packaged p ∷ known) name) ≡ cond (bytes_eq p.name name) (Some p.tokens) (option_map tokens_kept (package_named known name))
package_is p known name = by (bytes_eq p.name name)
  where
    by : (t : Bool) → option_map tokens_kept (if t then Some p else package_named known name) ≡ cond t (Some p.tokens) (option_map tokens_kept (package_named known name))
    by true = refl
    by false = refl

-- likewise of a thread program
thread_is : (t : KnownThread) (known : List KnownUnit) (name : List ℕ) → option_map kept_thread (thread_named (Threaded t ∷ known) name) ≡ cond (bytes_eq t.name name) (Some (kept_thread t)) (option_map kept_thread (thread_named known name))
thread_is t known name = by (bytes_eq t.name name)
  where
    by : (e : Bool) → option_map kept_thread (if e then Some t else thread_named known name) ≡ cond e (Some (kept_thread t)) (option_map kept_thread (thread_named known name))
    by true = refl
    by false = refl

pub package_added : (k k' : KnownUnits) (known : List KnownUnit) (p : KnownPackage) (name : List ℕ) (tokens : ℕ) → KnowsUnits k known → p.name ≡ name → p.tokens ≡ tokens
    → ((other : List ℕ) → get (pointwise nat_eq) k'.packages other ≡ cond (bytes_eq name other) (Some tokens) (get (pointwise nat_eq) k.packages other))
    → k'.threads ≡ k.threads → k'.package_count ≡ k.package_count + 1 → k'.thread_count ≡ k.thread_count → KnowsUnits k' (Packaged p ∷ known)
package_added k k' known p name tokens h named counted added threads count others = record {
  packages = λ other. added other ∙ (λ i. cond (bytes_eq (sym named i) other) (Some (sym counted i)) (h.packages other i)) ∙ sym (package_is p known other);
  threads = λ other. ap (λ t. get (pointwise nat_eq) t other) threads ∙ h.threads other;
  package_count = count ∙ ap (λ n. n + 1) h.package_count;
  thread_count = others ∙ h.thread_count;
}

pub thread_added : (k k' : KnownUnits) (known : List KnownUnit) (t : KnownThread) (name : List ℕ) (thread : code_thread.KnownThread) → KnowsUnits k known → t.name ≡ name → kept_thread t ≡ thread
    → ((other : List ℕ) → get (pointwise nat_eq) k'.threads other ≡ cond (bytes_eq name other) (Some thread) (get (pointwise nat_eq) k.threads other))
    → k'.packages ≡ k.packages → k'.thread_count ≡ k.thread_count + 1 → k'.package_count ≡ k.package_count → KnowsUnits k' (Threaded t ∷ known)
thread_added k k' known t name thread h named kept added packages count others = record {
  packages = λ other. ap (λ p. get (pointwise nat_eq) p other) packages ∙ h.packages other;
  threads = λ other. added other ∙ (λ i. cond (bytes_eq (sym named i) other) (Some (sym kept i)) (h.threads other i)) ∙ sym (thread_is t known other);
  package_count = others ∙ h.package_count;
  thread_count = count ∙ ap (λ n. n + 1) h.thread_count;
}

-- a unit has a name where a package or a thread program has it
named : (known : List KnownUnit) (name : List ℕ) → (is_some (package_named known name) || is_some (thread_named known name)) ≡ is_listed (known_names known) name
named [] name = refl
named (Packaged p ∷ known) name = by (bytes_eq p.name name) (named known name)
  where
    by : (t : Bool) → (is_some (package_named known name) || is_some (thread_named known name)) ≡ is_listed (known_names known) name
        → (is_some (if t then Some p else package_named known name) || is_some (thread_named known name)) ≡ (t || is_listed (known_names known) name)
    by true h = refl
    by false h = h
named (Threaded t ∷ known) name = by (bytes_eq t.name name) (is_some (package_named known name)) (named known name)
  where
    by : (e first : Bool) → (first || is_some (thread_named known name)) ≡ is_listed (known_names known) name
        → (first || is_some (if e then Some t else thread_named known name)) ≡ (e || is_listed (known_names known) name)
    by true true h = refl
    by true false h = refl
    by false first h = h

some_mapped : {A B : Type 0} (f : A → B) (x : Option A) → is_some (option_map f x) ≡ is_some x
some_mapped f None = refl
some_mapped f (Some a) = refl

pub name_is : (k : KnownUnits) (known : List KnownUnit) (name : List ℕ) → KnowsUnits k known
    → (is_some (get (pointwise nat_eq) k.packages name) || is_some (get (pointwise nat_eq) k.threads name)) ≡ is_listed (known_names known) name
name_is k known name h =
    (λ i. is_some (h.packages name i) || is_some (h.threads name i))
    ∙ (λ i. some_mapped tokens_kept (package_named known name) i || some_mapped kept_thread (thread_named known name) i)
    ∙ named known name

-- where a package has the name, and where none has it
pub where_package : (p t l : Bool) → (p || t) ≡ l → p ≡ true → p ≡ l
where_package true t l h k = h
where_package false t l h k = absurd (true≢false (sym k))

pub where_no_package : (p t l : Bool) → (p || t) ≡ l → p ≡ false → t ≡ l
where_no_package true t l h k = absurd (true≢false k)
where_no_package false t l h k = h
