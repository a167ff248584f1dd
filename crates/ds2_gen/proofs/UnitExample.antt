-- A small program's code meets all that the theorem of the generator asks for.
use Rattle.std.proofs.Common.{◌≡◌, ℕ, zero, suc, ◌<◌, ◌≤◌, Bool, true, false, ◌||◌, List, [], ◌∷◌, length, bytes_eq, Option, Some, None, inl, inr, refl, sym, ap, ◌∙◌, subst, arith, if◌then◌else◌}
use Rattle.std.specs.Prelude.{◌⊎◌, codes, nat_eq, slice_get}
use Rattle.std.proofs.lemmas.Bool.{true≢false}
use Rattle.std.proofs.lemmas.Slice.Eq.{bytes_eq-Decides}
use Rattle.ds2_meaning.specs.Location.{Home, Location, is_same_location}
use Rattle.ds2_value.specs.declared.ty.Ty.TheVariants.{BigInt}
use Rattle.ds2_meaning.specs.ProgramMeaning.{is_cleared_at}
use Rattle.ds2_meaning.specs.ProgramTree.{has_variable, declarations_of}
use Rattle.ds2_code.specs.declared.parts.SlotRole.TheVariants.{Cleared}
use Rattle.ds2_code.specs.declared.parts.MethodPart.{MethodPart}
use Rattle.ds2_code.specs.CodeBound.{HasBoundedJumps, StaysInList}
use Rattle.ds2_gen.specs.BodyCode.{CodeBody, OfSystem, OfMethod}
use Rattle.ds2_gen.specs.CodeCells.{Nameable, GlobalAt, LocalNamed, is_same_nameable, CodeCell, SlotCell, LocalCell, HashCell, IteratorCell, ParameterCell}
use Rattle.ds2_gen.specs.ExpressionCode.{Callee, CodeNumbers}
use Rattle.ds2_gen.specs.MethodCode.{IsLocalAt, IsMethodPlacement, HasMethod, is_in_frame, MayCall, CalleeFits, CalleesFit}
use Rattle.ds2_gen.specs.UnitCode.{IsUnitPlacement}
use Rattle.ds2_gen.specs.UnitExample.{next_method, sum_program, next_part, sum_code, sum_variable, sum_cell, is_slot_of_run, is_kept_before, next_callee, sum_callee, sum_numbers, next_cell, next_numbers, UnitExample}
use Rattle.ds2_gen.specs.UnitTheorem.{IsSlotCell, RolesFit}
use Rattle.ds2_gen.proofs.JumpLemmas.{bodies_stay_in_list}
use Rattle.ds2_gen.proofs.CellLemmas.{location_is, some_is}

-- ---- a chosen cell

chosen : (b : Bool) (x c : CodeCell) → (if b then Some x else None) ≡ Some c → (b ≡ true) × (x ≡ c)
chosen true x c e = (refl, some_is x c e)
chosen false x c e = absurd cc

the_variable : (at : Location) → is_same_location at sum_variable ≡ true → at ≡ sum_variable
the_variable at e = location_is at sum_variable e

the_local : (name : List ℕ) → bytes_eq name (codes "t") ≡ true → name ≡ codes "t"
the_local name e = (bytes_eq-Decides name (codes "t")).0 e

slots_differ : SlotCell 0 ≡ SlotCell 1 → ⊥
slots_differ e = absurd cc

both_variables : (a b : Location) → is_same_location a sum_variable ≡ true → is_same_location b sum_variable ≡ true → is_same_location a b ≡ true
both_variables a b e f = ap (λ x. is_same_location x b) (the_variable a e) ∙ ap (λ x. is_same_location sum_variable x) (the_variable b f)

both_locals : (a b : List ℕ) → bytes_eq a (codes "t") ≡ true → bytes_eq b (codes "t") ≡ true → bytes_eq a b ≡ true
both_locals a b e f = (bytes_eq-Decides a b).1 (the_local a e ∙ sym (the_local b f))

apart_in : (r : Bool) (x y : Nameable) (c : CodeCell) → sum_cell r x ≡ Some c → sum_cell r y ≡ Some c → is_same_nameable x y ≡ true
apart_in true (GlobalAt a) (GlobalAt b) c e f = both_variables a b (chosen (is_same_location a sum_variable) (SlotCell 0) c e).0 (chosen (is_same_location b sum_variable) (SlotCell 0) c f).0
apart_in false (GlobalAt a) (GlobalAt b) c e f = both_variables a b (chosen (is_same_location a sum_variable) (SlotCell 0) c e).0 (chosen (is_same_location b sum_variable) (SlotCell 0) c f).0
apart_in true (GlobalAt a) (LocalNamed n) c e f = absurd (slots_differ ((chosen (is_same_location a sum_variable) (SlotCell 0) c e).1 ∙ sym (chosen (bytes_eq n (codes "t")) (SlotCell 1) c f).1))
apart_in false (GlobalAt a) (LocalNamed n) c e f = absurd cc
apart_in true (LocalNamed n) (GlobalAt b) c e f = absurd (slots_differ ((chosen (is_same_location b sum_variable) (SlotCell 0) c f).1 ∙ sym (chosen (bytes_eq n (codes "t")) (SlotCell 1) c e).1))
apart_in false (LocalNamed n) y c e f = absurd cc
apart_in true (LocalNamed n) (LocalNamed m) c e f = both_locals n m (chosen (bytes_eq n (codes "t")) (SlotCell 1) c e).0 (chosen (bytes_eq m (codes "t")) (SlotCell 1) c f).0

unreserved_in_others : (x : Nameable) (c : CodeCell) → sum_cell false x ≡ Some c → is_slot_of_run c ≡ false
unreserved_in_others (GlobalAt a) c e = ap is_slot_of_run (sym (chosen (is_same_location a sum_variable) (SlotCell 0) c e).1)
unreserved_in_others (LocalNamed n) c e = absurd cc

frameless_in : (r : Bool) (x : Nameable) (n : ℕ) → sum_cell r x ≡ Some (LocalCell n) → ⊥
frameless_in true (GlobalAt a) n e = let it : SlotCell 0 ≡ LocalCell n = (chosen (is_same_location a sum_variable) (SlotCell 0) (LocalCell n) e).1 in absurd cc
frameless_in false (GlobalAt a) n e = let it : SlotCell 0 ≡ LocalCell n = (chosen (is_same_location a sum_variable) (SlotCell 0) (LocalCell n) e).1 in absurd cc
frameless_in true (LocalNamed m) n e = let it : SlotCell 1 ≡ LocalCell n = (chosen (bytes_eq m (codes "t")) (SlotCell 1) (LocalCell n) e).1 in absurd cc
frameless_in false (LocalNamed m) n e = absurd cc

local_listed : (name : List ℕ) (c : CodeCell) → sum_cell true (LocalNamed name) ≡ Some c → has_variable sum_program.run.locals name ≡ true
local_listed name c e = ap (λ n. has_variable sum_program.run.locals n) (the_local name (chosen (bytes_eq name (codes "t")) (SlotCell 1) c e).0)

none_listed : (name : List ℕ) (c : CodeCell) → sum_cell false (LocalNamed name) ≡ Some c → has_variable [] name ≡ true
none_listed name c e = absurd cc

none_below : (n : ℕ) → n < 0 → ⊥
none_below n h = omega arith

unreserved_in_run : (x : Nameable) (c : CodeCell) (kept : ℕ) → sum_cell true x ≡ Some c → is_kept_before kept c ≡ false
unreserved_in_run x c zero e = refl
unreserved_in_run (GlobalAt a) c (suc kept) e = ap (is_kept_before (suc kept)) (sym (chosen (is_same_location a sum_variable) (SlotCell 0) c e).1)
unreserved_in_run (LocalNamed n) c (suc kept) e = ap (is_kept_before (suc kept)) (sym (chosen (bytes_eq n (codes "t")) (SlotCell 1) c e).1)

behind_in_run : (n kept : ℕ) → n < 1 → n < kept → is_kept_before kept (SlotCell 2) ≡ true
behind_in_run n zero less above = absurd (none_below n above)
behind_in_run n (suc kept) less above = refl

ahead_in_run : (n kept : ℕ) → n < 1 → kept ≤ n → is_kept_before kept (SlotCell 2) ≡ false
ahead_in_run n zero less least = refl
ahead_in_run n (suc kept) less least = absurd (omega arith)

grows_in_run : (kept more : ℕ) (c : CodeCell) → kept ≤ more → is_kept_before kept c ≡ true → is_kept_before more c ≡ true
grows_in_run zero more c least is = absurd (true≢false (sym is))
grows_in_run (suc kept) zero c least is = absurd (omega arith)
grows_in_run (suc kept) (suc more) (SlotCell n) least is = is
grows_in_run (suc kept) (suc more) (LocalCell n) least is = is
grows_in_run (suc kept) (suc more) (HashCell n) least is = is
grows_in_run (suc kept) (suc more) (IteratorCell n) least is = is
grows_in_run (suc kept) (suc more) (ParameterCell n) least is = is

no_frame : (n : ℕ) → SlotCell 2 ≡ LocalCell n → ⊥
no_frame n e = absurd cc

nothing_kept : 0 ≤ 0
nothing_kept = omega arith

one_kept : 1 ≤ 1
one_kept = omega arith

in_run : IsUnitPlacement (sum_numbers true).placement sum_program.run.locals
in_run = record {
  sound = record { apart = apart_in true; unreserved = unreserved_in_run; values = λ n less. tt; behind = behind_in_run; ahead = ahead_in_run; grows = grows_in_run };
  slots = ((1, refl), tt);
  alone = local_listed;
  frameless = frameless_in true;
  kept_frameless = λ k n less e. no_frame n e;
}

in_others : IsUnitPlacement (sum_numbers false).placement []
in_others = record {
  sound = record { apart = apart_in false; unreserved = λ x c kept e. unreserved_in_others x c e; values = λ n less. tt; behind = λ n kept less above. absurd (none_below n less); ahead = λ n kept less least. absurd (none_below n less); grows = λ kept more c least is. is };
  slots = tt;
  alone = none_listed;
  frameless = frameless_in false;
  kept_frameless = λ k n less e. absurd (none_below k less);
}

-- ---- the method

method_is : (x y : MethodPart) → Some x ≡ Some y → x ≡ y
method_is x y e = cc

callee_is : (x y : Callee) → Some x ≡ Some y → x ≡ y
callee_is x y e = cc

-- a cell of a parameter
parameter_chosen : (a b : Bool) (c : CodeCell) → (if a then Some (LocalCell 0) else if b then Some (LocalCell 1) else None) ≡ Some c
    → (n : ℕ) × (c ≡ LocalCell n) × ((n ≡ 0) ⊎ (n ≡ 1))
parameter_chosen true b c e = (0, sym (some_is (LocalCell 0) c e), inl refl)
parameter_chosen false true c e = (1, sym (some_is (LocalCell 1) c e), inr refl)
parameter_chosen false false c e = absurd cc

local_of : (name : List ℕ) (c : CodeCell) → next_cell (LocalNamed name) ≡ Some c → (n : ℕ) × (c ≡ LocalCell n) × ((n ≡ 0) ⊎ (n ≡ 1))
local_of name c e = parameter_chosen (bytes_eq name (codes "a")) (bytes_eq name (codes "b")) c e

no_slot : (m n : ℕ) → SlotCell m ≡ LocalCell n → ⊥
no_slot m n e = absurd cc

one_local : (name other : List ℕ) (a b x y : Bool) (c : CodeCell) → bytes_eq name (codes "a") ≡ a → bytes_eq name (codes "b") ≡ b → bytes_eq other (codes "a") ≡ x → bytes_eq other (codes "b") ≡ y
    → (if a then Some (LocalCell 0) else if b then Some (LocalCell 1) else None) ≡ Some c → (if x then Some (LocalCell 0) else if y then Some (LocalCell 1) else None) ≡ Some c → bytes_eq name other ≡ true
one_local name other true b true y c ea eb ex ey e f = (bytes_eq-Decides name other).1 ((bytes_eq-Decides name (codes "a")).0 ea ∙ sym ((bytes_eq-Decides other (codes "a")).0 ex))
one_local name other true b false true c ea eb ex ey e f = let it : LocalCell 0 ≡ LocalCell 1 = some_is (LocalCell 0) c e ∙ sym (some_is (LocalCell 1) c f) in absurd cc
one_local name other true b false false c ea eb ex ey e f = absurd cc
one_local name other false true true y c ea eb ex ey e f = let it : LocalCell 1 ≡ LocalCell 0 = some_is (LocalCell 1) c e ∙ sym (some_is (LocalCell 0) c f) in absurd cc
one_local name other false true false true c ea eb ex ey e f = (bytes_eq-Decides name other).1 ((bytes_eq-Decides name (codes "b")).0 eb ∙ sym ((bytes_eq-Decides other (codes "b")).0 ey))
one_local name other false true false false c ea eb ex ey e f = absurd cc
one_local name other false false x y c ea eb ex ey e f = absurd cc

next_apart : (x y : Nameable) (c : CodeCell) → next_cell x ≡ Some c → next_cell y ≡ Some c → is_same_nameable x y ≡ true
next_apart (GlobalAt a) (GlobalAt b) c e f = both_variables a b (chosen (is_same_location a sum_variable) (SlotCell 0) c e).0 (chosen (is_same_location b sum_variable) (SlotCell 0) c f).0
next_apart (GlobalAt a) (LocalNamed n) c e f = absurd (no_slot 0 (local_of n c f).0 ((chosen (is_same_location a sum_variable) (SlotCell 0) c e).1 ∙ (local_of n c f).1))
next_apart (LocalNamed n) (GlobalAt b) c e f = absurd (no_slot 0 (local_of n c e).0 ((chosen (is_same_location b sum_variable) (SlotCell 0) c f).1 ∙ (local_of n c e).1))
next_apart (LocalNamed n) (LocalNamed m) c e f =
    one_local n m (bytes_eq n (codes "a")) (bytes_eq n (codes "b")) (bytes_eq m (codes "a")) (bytes_eq m (codes "b")) c refl refl refl refl e f

next_unreserved : (x : Nameable) (c : CodeCell) → next_cell x ≡ Some c → is_slot_of_run c ≡ false
next_unreserved (GlobalAt a) c e = ap is_slot_of_run (sym (chosen (is_same_location a sum_variable) (SlotCell 0) c e).1)
next_unreserved (LocalNamed n) c e = ap is_slot_of_run (local_of n c e).1

name_by : (name : List ℕ) (a b : Bool) (c : CodeCell) → bytes_eq name (codes "a") ≡ a → bytes_eq name (codes "b") ≡ b → (if a then Some (LocalCell 0) else if b then Some (LocalCell 1) else None) ≡ Some c
    → (n : ℕ) × (c ≡ LocalCell n) × IsLocalAt next_method.parameters 0 name n
name_by name true b c ea eb e = (0, sym (some_is (LocalCell 0) c e), ea)
name_by name false true c ea eb e = (1, sym (some_is (LocalCell 1) c e), (ea, eb))
name_by name false false c ea eb e = absurd cc

next_frameless : (at : Location) (n : ℕ) → next_cell (GlobalAt at) ≡ Some (LocalCell n) → ⊥
next_frameless at n e = no_slot 0 n (chosen (is_same_location at sum_variable) (SlotCell 0) (LocalCell n) e).1

in_next : IsMethodPlacement next_numbers.placement next_method.parameters 0
in_next = record {
  sound = record {
    apart = next_apart;
    unreserved = λ x c kept e. next_unreserved x c e;
    values = λ n less. absurd (none_below n less);
    behind = λ n kept less above. absurd (none_below n less);
    ahead = λ n kept less least. absurd (none_below n less);
    grows = λ kept more c least is. is;
  };
  parameters = (refl, (refl, tt));
  names = λ name c e. name_by name (bytes_eq name (codes "a")) (bytes_eq name (codes "b")) c refl refl e;
  kept = λ k less. absurd (none_below k less);
  frameless = next_frameless;
}

has_next : HasMethod sum_code next_numbers (declarations_of sum_program) None next_method next_part
has_next = record {
  home = refl;
  objects = refl;
  outputs = refl;
  parameters = refl;
  placement = in_next;
  covered = (((LocalCell 0, refl, tt), ((LocalCell 0, refl, tt), ((LocalCell 1, refl, tt), tt))), ((refl, (LocalCell 0, refl, tt)), tt));
  kept = nothing_kept;
  stands = (refl, (refl, (refl, (refl, (refl, (refl, (refl, (refl, (refl, (refl, tt))))))))));
}

-- ---- calls

in_frame : (n : ℕ) (c : CodeCell) → c ≡ LocalCell n → is_in_frame c ≡ false → ⊥
in_frame n c e out = true≢false (sym (ap is_in_frame e) ∙ out)

or_right : (a b : Bool) → b ≡ true → (a || b) ≡ true
or_right true b e = refl
or_right false b e = e

kept_of_run : (kept : ℕ) (c : CodeCell) → is_kept_before kept c ≡ true → is_slot_of_run c ≡ true
kept_of_run zero c is = absurd (true≢false (sym is))
kept_of_run (suc kept) (SlotCell n) is = or_right (nat_eq n 1) (nat_eq n 2) is
kept_of_run (suc kept) (LocalCell n) is = is
kept_of_run (suc kept) (HashCell n) is = is
kept_of_run (suc kept) (IteratorCell n) is = is
kept_of_run (suc kept) (ParameterCell n) is = is

from_run : MayCall (sum_numbers true).placement next_numbers.placement
from_run = record {
  globals = λ at. refl;
  locals = λ name c e out. ap is_slot_of_run (sym (chosen (bytes_eq name (codes "t")) (SlotCell 1) c e).1);
  reserved = λ kept c is out. kept_of_run kept c is;
}

from_others : MayCall (sum_numbers false).placement next_numbers.placement
from_others = record {
  globals = λ at. refl;
  locals = λ name c e out. absurd cc;
  reserved = λ kept c is out. is;
}

from_next : MayCall next_numbers.placement next_numbers.placement
from_next = record {
  globals = λ at. refl;
  locals = λ name c e out. absurd (in_frame (local_of name c e).0 c (local_of name c e).1 out);
  reserved = λ kept c is out. is;
}

module _ (numbers : CodeNumbers) (same : numbers.callee ≡ sum_callee) (may : MayCall numbers.placement next_numbers.placement) where
  next_fits : CalleeFits sum_code (declarations_of sum_program) (λ home method. next_numbers) numbers None 0 next_callee next_part
  next_fits = record { method = next_method; listed = refl; result = refl; body = has_next; may = may }

  called : (home : Home) (k : ℕ) (callee : Callee) (part : MethodPart) → sum_callee home k ≡ Some callee → slice_get sum_code.methods callee.number ≡ Some part
      → CalleeFits sum_code (declarations_of sum_program) (λ home method. next_numbers) numbers home k callee part
  called None zero callee part placed coded =
      let it : next_callee ≡ callee = callee_is next_callee callee placed in
      let one_part : next_part ≡ part = method_is next_part part (ap (λ (c : Callee). slice_get sum_code.methods c.number) it ∙ coded) in
      subst (λ p. CalleeFits sum_code (declarations_of sum_program) (λ home method. next_numbers) numbers None 0 callee p) one_part
      (subst (λ c. CalleeFits sum_code (declarations_of sum_program) (λ home method. next_numbers) numbers None 0 c next_part) it next_fits)
  called None (suc k) callee part placed coded = absurd cc
  called (Some instance) k callee part placed coded = absurd cc

  callees_fit : CalleesFit sum_code (declarations_of sum_program) (λ home method. next_numbers) numbers
  callees_fit home k callee part placed coded = called home k callee part (ap (λ (f : Home → ℕ → Option Callee). f home k) (sym same) ∙ placed) coded

-- ---- the list

-- the bodies of the program, in the order of their code
abbrev sum_bodies : List CodeBody
sum_bodies =
    OfSystem (sum_numbers false) sum_program.init [] ∷ OfSystem (sum_numbers true) sum_program.run (0 ∷ []) ∷ OfSystem (sum_numbers false) sum_program.term []
    ∷ OfMethod next_numbers next_method ∷ []

entries_inside : (k : ℕ) (method : MethodPart) → slice_get sum_code.methods k ≡ Some method → method.entry < length sum_code.instrs
entries_inside zero method e =
    let it : 26 ≡ method.entry = ap (λ (m : MethodPart). m.entry) (method_is next_part method e) in
    let less : method.entry < 36 = omega arith in
    less
entries_inside (suc k) method e = absurd cc

inside_list : HasBoundedJumps sum_code.instrs × StaysInList sum_code
inside_list = bodies_stay_in_list sum_code sum_bodies refl entries_inside

-- ---- roles

zero_is : (n : ℕ) → SlotCell 0 ≡ SlotCell n → n ≡ 0
zero_is n e = cc

sum_roles : RolesFit sum_code (sum_numbers true).placement sum_program
sum_roles = record {
  slots = λ at n e.
      let it = chosen (is_same_location at sum_variable) (SlotCell 0) (SlotCell n) e in (
        record { name = codes "x"; ty = BigInt; role = Cleared },
        ap (λ k. slice_get sum_code.slots k) (zero_is n it.1),
        ap (λ (l : Location). is_cleared_at sum_program l.home l.global) (the_variable at it.0),
      );
  cleared = λ at c e clears. subst (λ k. IsSlotCell k) (chosen (is_same_location at sum_variable) (SlotCell 0) c e).1 tt;
  reserved = λ n s is here. absurd (true≢false (sym is));
}

pub unit_example : UnitExample
unit_example = record {
  inner = λ home k method listed. callees_fit next_numbers refl from_next;
  at_init = record { home = refl; objects = refl; outputs = refl; placement = in_others; covered = tt; kept = nothing_kept; stands = (refl, tt); inside = omega arith; callees = callees_fit (sum_numbers false) refl from_others };
  at_run = record {
    home = refl;
    objects = refl;
    outputs = refl;
    placement = in_run;
    covered = (((SlotCell 1, refl, tt), refl), (((SlotCell 1, refl, tt), ((refl, tt), ((SlotCell 0, refl, tt), (record { callee = next_callee; part = next_part; placed = refl; coded = refl; fit = (refl, (refl, tt)) }, refl, ((SlotCell 1, refl, tt), (refl, tt)))), ((SlotCell 0, refl, tt), refl))), tt));
    kept = one_kept;
    stands = (refl, (refl, (refl, (refl, (refl, (refl, (refl, (refl, (refl, (refl, (refl, (refl, (refl, (refl, (refl, (refl, (refl, (refl, (refl, (refl, (refl, (refl, (refl, (refl, tt))))))))))))))))))))))));
    inside = omega arith;
    callees = callees_fit (sum_numbers true) refl from_run;
  };
  at_term = record { home = refl; objects = refl; outputs = refl; placement = in_others; covered = tt; kept = nothing_kept; stands = (refl, tt); inside = omega arith; callees = callees_fit (sum_numbers false) refl from_others };
  implicit = (
    record {
      sources = codes "x" ∷ [];
      part = record { name = codes "o"; overwrites = false; columns = (codes "x", 0) ∷ [] };
      meant = refl;
      coded = refl;
      slots = (refl, tt);
    },
    tt,
  );
  roles = sum_roles;
  jumps = inside_list.0;
  stays = inside_list.1;
}
