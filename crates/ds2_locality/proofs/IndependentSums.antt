-- The premises of the theorem on the verdict hold of sums by groups; a sum that runs on shows what came before.
use Rattle.std.proofs.Common.{◌≡◌, ◌<◌, Bool, true, false, List, [], ◌∷◌, codes, None, refl, sym, ap, ◌∙◌, arith, if◌then◌else◌}
use Rattle.std.specs.Fmt as fmt
use Rattle.std.specs.Prelude.{pos, slice_get}
use Rattle.std.specs.Str as str
use Rattle.std.proofs.lemmas.Bool.{true≢false}
use Rattle.ds2_value.specs.Order as order
use Rattle.ds2_value.specs.Row.{Row}
use Rattle.ds2_value.specs.Run.{Event, Written}
use Rattle.ds2_value.specs.Texts as texts
use Rattle.ds2_value.specs.Value as value
use Rattle.ds2_value.specs.declared.ty.Ty.TheVariants.{BigInt}
use Rattle.ds2_value.specs.declared.value.Value.TheVariants.{Null, Int}
use Rattle.ds2_schedule.specs.Groups.{SameButEarly, AreSameButEarly, loads_of}
use Rattle.ds2_meaning.specs.declared.location.Global.TheVariants.{Named}
use Rattle.ds2_meaning.specs.ExampleWords.{col, natural}
use Rattle.ds2_meaning.specs.IsTyped.{IsTypedUnit}
use Rattle.ds2_meaning.specs.Location.{Location, is_same_location, Storage, Holds, with_content}
use Rattle.ds2_meaning.specs.ProgramExamples.{tables_of}
use Rattle.ds2_meaning.specs.ProgramMeaning.{nothing_kept}
use Rattle.ds2_meaning.specs.Reading.{TableRows}
use Rattle.ds2_locality.specs.Deeds.{global_at}
use Rattle.ds2_locality.specs.Independence.{UnitsGave, LocatedLoad, thread_groups, IsTableGroup, is_fixed, IsIndependentAt}
use Rattle.ds2_locality.specs.IndependentSums.{sums_of_a, sums_of_a_and_b, running_sums, IndependentSums}
use Rattle.ds2_locality.specs.KeptLocations.{seen_at, is_flag_before}
use Rattle.ds2_locality.specs.Verdict.{own_objects_first}
use Rattle.ds2_locality.proofs.Frame.{location_is}
use Rattle.ds2_locality.proofs.Independent.{typed_local_independent}
use Rattle.ds2_locality.proofs.LocalityExamples.{grain_verdicts}
use Rattle.ds2_locality.proofs.Told.{all_objects_are_told}

one_output : 0 < 1
one_output = omega arith

typed_by_one : IsTypedUnit sums_of_a
typed_by_one = record {
  head = tt;
  variables = ((refl, (refl, (refl, (refl, (refl, tt))))), refl);
  parameters = (tt, refl);
  names = refl;
  instances = tt;
  objects = (tt, tt);
  threads = tt;
  reading = (omega arith, omega arith, (refl, ((BigInt, refl, refl), ((BigInt, refl, refl), ((BigInt, refl, refl), tt))), (refl, tt), tt), tt);
  outputs = (omega arith, refl, (refl, (refl, tt)), tt);
  output_names = refl;
  methods = tt;
  init = ((tt, refl), tt);
  run = (
    (tt, refl),
    (((refl, tt), (tt, (refl, refl), refl)), ((tt, (refl, (refl, (BigInt, refl, (refl, refl, refl)), tt)), refl), (((refl, tt), (refl, (one_output, tt))), tt))),
  );
  term = ((tt, refl), tt);
}

typed_by_two : IsTypedUnit sums_of_a_and_b
typed_by_two = record {
  head = tt;
  variables = ((refl, (refl, (refl, (refl, (refl, tt))))), refl);
  parameters = (tt, refl);
  names = refl;
  instances = tt;
  objects = (tt, tt);
  threads = tt;
  reading = (omega arith, omega arith, (refl, ((BigInt, refl, refl), ((BigInt, refl, refl), ((BigInt, refl, refl), tt))), (refl, (refl, tt)), tt), tt);
  outputs = (omega arith, refl, (refl, (refl, tt)), tt);
  output_names = refl;
  methods = tt;
  init = ((tt, refl), tt);
  run = (
    (tt, refl),
    (((refl, tt), (tt, (refl, refl), refl)), ((tt, (refl, (refl, (BigInt, refl, (refl, refl, refl)), tt)), refl), (((refl, tt), (refl, (one_output, tt))), tt))),
  );
  term = ((tt, refl), tt);
}

by_one : IsIndependentAt sums_of_a 1
by_one =
    typed_local_independent (record { program = sums_of_a; run_place = col 5; term_place = col 9; objects = own_objects_first sums_of_a }) typed_by_one
    (all_objects_are_told sums_of_a (col 5) (col 9) []) 1 grain_verdicts.sum_by_a

by_two : IsIndependentAt sums_of_a_and_b 2
by_two =
    typed_local_independent (record { program = sums_of_a_and_b; run_place = col 5; term_place = col 9; objects = own_objects_first sums_of_a_and_b }) typed_by_two
    (all_objects_are_told sums_of_a_and_b (col 5) (col 9) []) 2 grain_verdicts.sum_by_two

-- ---- a sum that runs on

same_load : (early : Location → Bool) (load : LocatedLoad) → SameButEarly early load load
same_load early [] = tt
same_load early (x ∷ xs) = (refl, λ e. refl, same_load early xs)

same_loads : (early : Location → Bool) (loads : List LocatedLoad) → AreSameButEarly early loads loads
same_loads early [] = tt
same_loads early (l ∷ ls) = (same_load early l, same_loads early ls)

-- t has one row, where a and b are 1 and v is 5
abbrev one_row : TableRows
one_row = tables_of ((codes "t", (natural 1 ∷ natural 1 ∷ natural 5 ∷ []) ∷ []) ∷ [])

-- its only group
abbrev only_group : List LocatedLoad
only_group = loads_of (slice_get (thread_groups running_sums one_row 1) 0)

group_is : IsTableGroup running_sums 1 only_group
unfolding value.compare_of order.key_order texts.padded_cmp texts.without_blanks str.chars lib.Utf8.encode fmt.digits
group_is = record { tables = one_row; rows = (refl, tt); among = (0, refl) }

-- where x is kept
abbrev x_at : Location
x_at = global_at None (Named (codes "x"))

-- the same, but that x is 10
abbrev ten_kept : Storage
ten_kept = with_content x_at (Holds (Int (pos 10))) nothing_kept

x_changes : is_fixed running_sums x_at ≡ false
x_changes = refl

fixed_alike : (k : Location) → is_fixed running_sums k ≡ true → seen_at running_sums k (nothing_kept k) ≡ seen_at running_sums k (ten_kept k)
fixed_alike k fixed = by (is_same_location k x_at) refl
  where
    by : (b : Bool) → is_same_location k x_at ≡ b → seen_at running_sums k (nothing_kept k) ≡ seen_at running_sums k (if b then Holds (Int (pos 10)) else nothing_kept k)
    by true same = absurd (true≢false (sym fixed ∙ ap (is_fixed running_sums) (location_is k x_at same) ∙ x_changes))
    by false same = refl

-- the second value of the first row is null
abbrev second_is_null : Row → Bool
second_is_null (a ∷ Null ∷ row) = true
second_is_null _ = false

abbrev wrote_null : List Written → Bool
wrote_null [] = false
wrote_null (w ∷ written) = second_is_null w.row

running_on : IsIndependentAt running_sums 1 → ⊥
unfolding value.sum_of value.compare_of order.key_order texts.padded_cmp texts.without_blanks str.chars lib.Utf8.encode fmt.digits
running_on free =
    let same = free.groups 10 only_group only_group nothing_kept ten_kept group_is group_is (same_loads (is_flag_before 1 running_sums.reading) only_group) fixed_alike in
    true≢false (ap (λ (o : UnitsGave (List Event)). wrote_null o.rows) same.0)

pub independent_sums : IndependentSums
independent_sums = record { typed_by_one = typed_by_one; by_one = by_one; typed_by_two = typed_by_two; by_two = by_two; running_on = running_on }
