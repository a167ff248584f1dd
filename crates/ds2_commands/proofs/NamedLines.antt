-- A line of words that is a command names a source, or an object, or has its number of rows.
use Rattle.std.proofs.Common.{◌≡◌, IsTrue, Bool, true, false, bytes_eq, codes, cond, ℕ, List, [], ◌∷◌, Option, Some, None, is_none, refl, subst}
use Rattle.std.specs.Option.{option_map}
use Rattle.ds2_answer.specs.declared.command_line.CommandLine.{CommandLine}
use Rattle.ds2_answer.specs.declared.command_line.CommandLine.TheVariants.{Compile, Check, Demo}
use Rattle.ds2_answer.specs.declared.command_line.GivenOptions.{GivenOptions}
use Rattle.ds2_answer.specs.CommandLines.{HasRowsWithin, command_line_of, demo_command, exec_with_options, file_command, is_object_name, no_options, object_command, options_behind, rows_asked, run_with_options, source_command, without_options}
use Rattle.ds2_answer.specs.Words.{is_source}
use Rattle.ds2_commands.specs.CommandOutcomes.{NamesFile}

-- a command that is there names its file, or has a number of rows that is within its bounds
abbrev NamesIfSome : Option CommandLine → Type 0
NamesIfSome None = Unit {0}
NamesIfSome (Some line) = HasRowsWithin line → NamesFile line

run_names : (source : List ℕ) (given : Option GivenOptions) → IsTrue (is_source source) → NamesIfSome (run_with_options source given)
run_names source None named = tt
run_names source (Some given) named = λ rows. named

alone_names : (options : List (List ℕ)) (line : CommandLine) → NamesFile line → NamesIfSome (without_options options line)
alone_names [] line named = λ rows. named
alone_names (word ∷ words) line named = tt

one_of : (here : Bool) (a b : Option CommandLine) → NamesIfSome a → NamesIfSome b → NamesIfSome (cond here a b)
one_of true a b f g = f
one_of false a b f g = g

source_names : (word source : List ℕ) (options : List (List ℕ)) → IsTrue (is_source source) → NamesIfSome (source_command word source options)
source_names word source options named =
    one_of (bytes_eq word (codes "run")) (run_with_options source (options_behind no_options options)) _ (run_names source (options_behind no_options options) named)
    (one_of (bytes_eq word (codes "compile")) (without_options options (Compile source)) _ (alone_names options (Compile source) named)
    (one_of (bytes_eq word (codes "check")) (without_options options (Check source)) None (alone_names options (Check source) named) tt))

exec_names : (object : List ℕ) (given : Option GivenOptions) → IsTrue (is_object_name object) → NamesIfSome (exec_with_options object given)
exec_names object None named = tt
exec_names object (Some given) named = one_of (is_none given.threads) _ None (λ rows. named) tt

object_names : (word object : List ℕ) (options : List (List ℕ)) → IsTrue (is_object_name object) → NamesIfSome (object_command word object options)
object_names word object options named = one_of (bytes_eq word (codes "exec")) (exec_with_options object (options_behind no_options options)) None (exec_names object (options_behind no_options options) named) tt

file_names : (word file : List ℕ) (options : List (List ℕ)) (of_source of_object : Bool) → is_source file ≡ of_source → is_object_name file ≡ of_object
    → NamesIfSome (cond of_source (source_command word file options) (cond of_object (object_command word file options) None))
file_names word file options true of_object s o = source_names word file options s
file_names word file options false true s o = object_names word file options o
file_names word file options false false s o = tt

asked_names : (asked : Option ℕ) → NamesIfSome (option_map (λ n. Demo n) asked)
asked_names None = tt
asked_names (Some n) = λ rows. rows

demo_names : (number : List ℕ) (words : List (List ℕ)) → NamesIfSome (demo_command number words)
demo_names number [] = asked_names (rows_asked number)
demo_names number (word ∷ words) = tt

words_name : (words : List (List ℕ)) → NamesIfSome (command_line_of words)
words_name [] = tt
words_name (word ∷ []) = tt
words_name (word ∷ next ∷ words) = one_of (bytes_eq word (codes "demo")) (demo_command next words) (file_command word next words) (demo_names next words) (file_names word next words (is_source next) (is_object_name next) refl refl)

pub line_names : (words : List (List ℕ)) (line : CommandLine) → command_line_of words ≡ Some line → HasRowsWithin line → NamesFile line
line_names words line e rows = subst NamesIfSome e (words_name words) rows
