-- What numbers tell of a program's locations, of its methods and of those that deeds may call.
use Rattle.std.specs.Prelude.{◌≡◌, ℕ, ◌+◌, List, length, map, Some}
use Rattle.ds2_value.specs.declared.fault.TheConstants.{CALL_DEPTH}
use Rattle.ds2_meaning.specs.Location.{Location}
use Rattle.ds2_meaning.specs.ProgramTree.{UnitTree}
use Rattle.ds2_locality.specs.Deeds.{MethodAt, Deed, method_deeds, is_among_methods, may_be_called, with_callees}
use Rattle.ds2_deeds.specs.declared.deed.NumberedDeed.{NumberedDeed}
use Rattle.ds2_deeds.specs.NamedLocations.{told_once, AreDistinct}
use Rattle.ds2_deeds.specs.NamedMethods.{number_among_methods, methods_in_order, AreOwnFirst}
use Rattle.ds2_deeds.specs.NumberedCalls.{is_one_of_numbers, may_call, with_called}
use Rattle.ds2_deeds.specs.NumberedDeeds.{ProgramNumbers, numbered_deeds}

-- locations that are told once have the numbers of their places
abbrev pub OnceToldAreDistinct : Type 0
OnceToldAreDistinct = (ls : List Location) → AreDistinct (told_once ls)

-- a program's own methods stand first
abbrev pub OwnMethodsAreFirst : Type 0
OwnMethodsAreFirst = (p : UnitTree) → AreOwnFirst (length p.methods) (methods_in_order p)

-- these locations, and the methods of a program in their order
abbrev pub program_numbers : UnitTree → List Location → ProgramNumbers
program_numbers p locations = record { locations = locations; methods = methods_in_order p }

-- the deeds of each method, by numbers
abbrev pub all_by_number : UnitTree → ProgramNumbers → List (List NumberedDeed)
all_by_number p n = map (λ (m : MethodAt). numbered_deeds n (method_deeds p m)) n.methods

-- how many calls deep the methods are looked for that may be called
abbrev pub rounds_of_calls : UnitTree → ℕ
rounds_of_calls p = length (methods_in_order p) + CALL_DEPTH

-- deeds by numbers, and those of the methods that they may call, are what deeds and those of their callees are by numbers
abbrev pub CalleesByNumber : Type 0
CalleesByNumber =
    (p : UnitTree) (locations : List Location) (own : List Deed)
    → with_called (all_by_number p (program_numbers p locations)) (rounds_of_calls p) (numbered_deeds (program_numbers p locations) own) ≡ numbered_deeds (program_numbers p locations) (with_callees p own)

-- deeds may call a method where its number is among those that they reach
abbrev pub ReachedByNumber : Type 0
ReachedByNumber =
    (p : UnitTree) (locations : List Location) (own : List Deed) (m : MethodAt) (k : ℕ) → number_among_methods (methods_in_order p) m ≡ Some k
    → is_one_of_numbers (may_call (all_by_number p (program_numbers p locations)) (rounds_of_calls p) (numbered_deeds (program_numbers p locations) own)) k ≡ is_among_methods m (may_be_called p own)
