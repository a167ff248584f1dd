-- What the code keeps of the packages and thread programs before a unit.
use Rattle.std.specs.Prelude.{◌≡◌, ℕ, nat_eq, List}
use Rattle.std.specs.Cmp.Lexicographic.{pointwise}
use Rattle.std.specs.HashMap.{get}
use Rattle.std.specs.Option.{option_map}
use Rattle.ds2_names.specs.SourceLimits.{count_packages, count_threads}
use Rattle.ds2_names.specs.SourceUnit as source
use Rattle.ds2_names.specs.SourceUnit.{KnownUnit, package_named, thread_named}
use Rattle.ds2_scope.specs.declared.known.KnownThread.{KnownThread}
use Rattle.ds2_scope.specs.declared.known.KnownUnits.{KnownUnits}

-- the tokens of a package
abbrev pub tokens_kept : source.KnownPackage → ℕ
tokens_kept p = p.tokens

-- what is kept of a thread program
abbrev pub kept_thread : source.KnownThread → KnownThread
kept_thread t = record { columns = t.columns; chain = t.chain }

-- what is kept tells of units: for each name the tokens of the package and the thread program that have it, and how many packages and
-- thread programs there are
pub record KnowsUnits (k : KnownUnits) (known : List KnownUnit) : Type 0 where
  pub packages : (name : List ℕ) → get (pointwise nat_eq) k.packages name ≡ option_map tokens_kept (package_named known name)
  pub threads : (name : List ℕ) → get (pointwise nat_eq) k.threads name ≡ option_map kept_thread (thread_named known name)
  pub package_count : k.package_count ≡ count_packages known
  pub thread_count : k.thread_count ≡ count_threads known
