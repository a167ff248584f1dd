-- Walks that are recorded from all locations on.
use Rattle.std.proofs.Common.{◌≡◌, ℕ, suc, Bool, true, false, List, [], ◌∷◌, length, replicate, Option, Some, None, option_map, refl, sym, ap, ◌∙◌}
use Rattle.std.specs.Prelude.{◌&&◌, if◌then◌else◌, is_some}
use Rattle.ds2_meaning.specs.Location.{Location, is_same_location}
use Rattle.ds2_program_code.specs.PlacedProgram.{number_of_location}
use Rattle.ds2_locality.specs.Walk.{DirtySet, united, WaysOut, at_end}
use Rattle.ds2_recorded_walk.specs.LocationBits.{is_number_on, either_on, set_of_bits}
use Rattle.ds2_recorded_walk.specs.RecordedWalks.{of_those}
use Rattle.ds2_recorded_walk.proofs.BitLemmas.{set_either, those_united}
use Rattle.ds2_recorded_walk.proofs.WalkLemmas.{same_sets, united_next}

-- all of these locations
abbrev pub all_of : List Location → List Bool
all_of ls = replicate (length ls) true

all_next : (at x : Location) (ls : List Location) (b : Bool) (o : Option ℕ) → number_of_location ls at ≡ o → is_number_on (all_of ls) o ≡ is_some o
    → is_number_on (all_of (x ∷ ls)) (if b then Some 0 else option_map (λ n. suc n) o) ≡ is_some (if b then Some 0 else option_map (λ n. suc n) o)
all_next at x ls true o e h = refl
all_next at x ls false None e h = refl
all_next at x ls false (Some n) e h = h

pub all_there : (ls : List Location) (at : Location) → is_number_on (all_of ls) (number_of_location ls at) ≡ is_some (number_of_location ls at)
all_there [] at = refl
all_there (x ∷ ls) at = all_next at x ls (is_same_location at x) (number_of_location ls at) refl (all_there ls at)

within_by : (full : Bool) (bits : List Bool) (o : Option ℕ) (c : Bool) → full ≡ is_some o → (full && (is_number_on bits o && c)) ≡ (is_number_on bits o && c)
within_by true bits o c h = refl
within_by false bits None c h = refl
within_by false bits (Some n) c h = absurd cc

-- a set of these locations is itself among all of them
pub those_of_all : (ls : List Location) (bits : List Bool) (before : DirtySet)
    → of_those (set_of_bits ls (all_of ls)) (of_those (set_of_bits ls bits) before) ≡ of_those (set_of_bits ls bits) before
those_of_all ls bits before =
    same_sets (of_those (set_of_bits ls (all_of ls)) (of_those (set_of_bits ls bits) before)) (of_those (set_of_bits ls bits) before)
    (λ at. within_by (set_of_bits ls (all_of ls) at) bits (number_of_location ls at) (before at) (all_there ls at))

-- what is dirty on any way out, in the order in which the code puts the ways together
pub ended : (x : WaysOut) → united (united (united x.onward x.returns) x.leaves) x.continues ≡ at_end x
ended x =
    sym (united_next (united x.onward x.returns) x.leaves x.continues) ∙ sym (united_next x.onward x.returns (united x.leaves x.continues))

pub those_ended : (ls : List Location) (a b c d : List Bool) (before : DirtySet)
    → of_those (set_of_bits ls (either_on (either_on (either_on a b) c) d)) before
    ≡ united (united (united (of_those (set_of_bits ls a) before) (of_those (set_of_bits ls b) before)) (of_those (set_of_bits ls c) before)) (of_those (set_of_bits ls d) before)
those_ended ls a b c d before =
    ap (λ s. of_those s before) (set_either ls (either_on (either_on a b) c) d) ∙ those_united (set_of_bits ls (either_on (either_on a b) c)) (set_of_bits ls d) before
    ∙ ap (λ s. united s (of_those (set_of_bits ls d) before))
    (ap (λ s. of_those s before) (set_either ls (either_on a b) c) ∙ those_united (set_of_bits ls (either_on a b)) (set_of_bits ls c) before
    ∙ ap (λ s. united s (of_those (set_of_bits ls c) before))
    (ap (λ s. of_those s before) (set_either ls a b) ∙ those_united (set_of_bits ls a) (set_of_bits ls b) before))
