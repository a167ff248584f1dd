-- The words of the five commands.
use Rattle.std.specs.Prelude.{ℕ, ◌&&◌, ◌≤◌, IfSome, List, [], ◌∷◌, codes, bytes_eq, if◌then◌else◌, is_none, nat_eq, unwrap_or, Bool, Option, Some, None}
use Rattle.std.specs.List.{ends_with}
use Rattle.std.specs.Option.{option_map}
use Rattle.ds2_answer.specs.declared.sales_table.TheConstants.{MOST_SALES}
use Rattle.ds2_answer.specs.declared.command_line.CommandLine.{CommandLine}
use Rattle.ds2_answer.specs.declared.command_line.CommandLine.TheVariants.{Run, Compile, Exec, Check, Demo}
use Rattle.ds2_answer.specs.declared.command_line.GivenOptions.{GivenOptions}
use Rattle.ds2_answer.specs.declared.command_line.TheConstants.{MOST_THREADS}
use Rattle.ds2_answer.specs.declared.words.TheConstants.{DEFAULT_BUDGET, MOST_BUDGET}
use Rattle.ds2_answer.specs.Words.{is_file_name, is_source, number_within}

-- a file's name that ends in `.dso`
abbrev pub is_object_name : List ℕ → Bool
is_object_name word = is_file_name word && ends_with nat_eq word (codes ".dso")

-- ---- options

-- no option is given
abbrev pub no_options : GivenOptions
no_options = record { threads = None; budget = None }

-- the number of workers, behind other options
abbrev pub with_threads : GivenOptions → ℕ → GivenOptions
with_threads given number = record { threads = Some number; budget = given.budget }

-- the budget, behind other options
abbrev pub with_budget : GivenOptions → ℕ → GivenOptions
with_budget given number = record { threads = given.threads; budget = Some number }

-- an option and its number behind others, among which it is not
abbrev pub with_option : GivenOptions → (option number : List ℕ) → Option GivenOptions
with_option given option number =
    if bytes_eq option (codes "--threads") && is_none given.threads then option_map (with_threads given) (number_within MOST_THREADS number)
    else if bytes_eq option (codes "--budget") && is_none given.budget then option_map (with_budget given) (number_within MOST_BUDGET number)
    else None

-- goes on behind options, where they are some
abbrev pub behind_option : Option GivenOptions → (GivenOptions → Option GivenOptions) → Option GivenOptions
behind_option None go = None
behind_option (Some given) go = go given

-- the options that words give behind others: in any order, each at most once, the number as the next word
abbrev pub options_behind : GivenOptions → List (List ℕ) → Option GivenOptions
options_behind given [] = Some given
options_behind given (option ∷ []) = None
options_behind given (option ∷ number ∷ words) = behind_option (with_option given option number) (λ more. options_behind more words)

-- ---- commands

-- `run` with these options
abbrev pub run_with_options : List ℕ → Option GivenOptions → Option CommandLine
run_with_options source None = None
run_with_options source (Some given) = Some (Run source given.threads (unwrap_or given.budget DEFAULT_BUDGET))

-- `exec` with these options; it takes no number of workers
abbrev pub exec_with_options : List ℕ → Option GivenOptions → Option CommandLine
exec_with_options object None = None
exec_with_options object (Some given) = if is_none given.threads then Some (Exec object (unwrap_or given.budget DEFAULT_BUDGET)) else None

-- a command without options
abbrev pub without_options : List (List ℕ) → CommandLine → Option CommandLine
without_options [] command = Some command
without_options (word ∷ words) command = None

-- the command of a source with these options
abbrev pub source_command : (word source : List ℕ) → List (List ℕ) → Option CommandLine
source_command word source options =
    if bytes_eq word (codes "run") then run_with_options source (options_behind no_options options)
    else if bytes_eq word (codes "compile") then without_options options (Compile source)
    else if bytes_eq word (codes "check") then without_options options (Check source)
    else None

-- the command of an object with these options
abbrev pub object_command : (word object : List ℕ) → List (List ℕ) → Option CommandLine
object_command word object options = if bytes_eq word (codes "exec") then exec_with_options object (options_behind no_options options) else None

-- the command of a file with these options
abbrev pub file_command : (word file : List ℕ) → List (List ℕ) → Option CommandLine
file_command word file options =
    if is_source file then source_command word file options
    else if is_object_name file then object_command word file options
    else None

-- how many rows a word asks for, where it is a number that a table of sales may have
abbrev pub rows_asked : List ℕ → Option ℕ
rows_asked number = number_within MOST_SALES number

-- `demo` and its number of rows are the whole line
abbrev pub demo_command : (number : List ℕ) → List (List ℕ) → Option CommandLine
demo_command number [] = option_map (λ n. Demo n) (rows_asked number)
demo_command number (word ∷ words) = None

-- the command of a line of words, where it is one: its word, its file and its options, or `demo` and a number
abbrev pub command_line_of : List (List ℕ) → Option CommandLine
command_line_of (word ∷ next ∷ words) = if bytes_eq word (codes "demo") then demo_command next words else file_command word next words
command_line_of words = None

-- ---- what is read of a line

-- the budget of options, where they give one, is one that a line may give
abbrev pub IsBudgetWithin : GivenOptions → Type 0
IsBudgetWithin given = IfSome given.budget (λ budget. budget ≤ MOST_BUDGET)

-- the budget with which a line runs programs; `compile` and `check` run none
abbrev pub budget_on_line : CommandLine → ℕ
budget_on_line (Run source threads budget) = budget
budget_on_line (Compile source) = 0
budget_on_line (Exec object budget) = budget
budget_on_line (Check source) = 0
budget_on_line (Demo n) = DEFAULT_BUDGET

-- the rows that a line asks for, where it is `demo`, are as many as a table of sales may have
abbrev pub HasRowsWithin : CommandLine → Type 0
HasRowsWithin (Run source threads budget) = Unit {0}
HasRowsWithin (Compile source) = Unit {0}
HasRowsWithin (Exec object budget) = Unit {0}
HasRowsWithin (Check source) = Unit {0}
HasRowsWithin (Demo n) = (1 ≤ n) × (n ≤ MOST_SALES)
