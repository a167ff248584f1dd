-- A line is put: the texts of its items come onto the operands in order, and are taken off together.
use Rattle.std.proofs.Common.{◌≡◌, ℕ, suc, ◌+◌, List, [], ◌∷◌, ◌++◌, length, map, Some, refl, ap, ◌∙◌, subst, arith, length-append, append_assoc, append-nil}
use Rattle.std.specs.List.{join_with_byte}
use Rattle.std.specs.Prelude.{slice_get}
use Rattle.ds2_value.specs.Functions.{concat_of}
use Rattle.ds2_value.specs.Operations.{line_text, line_value}
use Rattle.ds2_value.specs.Progress.{with_line}
use Rattle.ds2_value.specs.Row.{Row}
use Rattle.ds2_value.specs.Texts.{cut_to}
use Rattle.ds2_value.specs.declared.ty.TheConstants.{TEXT_CHARACTERS}
use Rattle.ds2_value.specs.declared.value.Value.{Value}
use Rattle.ds2_value.specs.declared.value.Value.TheVariants.{Txt}
use Rattle.ds2_meaning.specs.Evaluation.{Surroundings, evaluate}
use Rattle.ds2_meaning.specs.Execution.{labelled, with_texts}
use Rattle.ds2_meaning.specs.RunState.{RunState, StatementOutcome, Proceeds, put_line}
use Rattle.ds2_meaning.specs.TypedStatement.{Item, Text, Shown, Labelled}
use Rattle.ds2_code.specs.declared.instr.Instr.TheVariants as instr
use Rattle.ds2_code.specs.declared.parts.ProgramParts.{ProgramParts}
use Rattle.ds2_code.specs.CodeRun.{CallFrame, GoesOn, operand_text, on_texts}
use Rattle.ds2_gen.specs.CallPieces.{stacked, IsAround}
use Rattle.ds2_gen.specs.CodeCells.{Cells, desk_of, HoldState}
use Rattle.ds2_gen.specs.CodePieces.{StandsAt, machine_at, ComesTo, ExitPoints, CarriesOut}
use Rattle.ds2_gen.specs.CoveredForms.{AreCoveredItems}
use Rattle.ds2_gen.specs.ExpressionCode.{CodeNumbers, constant_instr, expression_code}
use Rattle.ds2_gen.specs.StatementCode.{text_type, label_of, items_code}
use Rattle.ds2_gen.proofs.ExpressionRuns.{expression_runs}
use Rattle.ds2_gen.proofs.FunctionRuns.{taken_all}
use Rattle.ds2_gen.proofs.PieceLemmas.{front_stands, back_stands, at_most, comes_on, comes_by}
use Rattle.ds2_gen.proofs.StepLemmas.{from, constant_runs, pure_one}
use Rattle.ds2_gen.proofs.WayLemmas.{carries_on, operand_carries}

-- a name and a text, one behind the other and cut, are the item with its label
label_is : (name : List ℕ) (v : Value) → concat_of (Txt (label_of name) ∷ Txt (line_text v) ∷ []) ≡ Txt (labelled name v)
label_is name v =
    ap (λ t. Txt (cut_to TEXT_CHARACTERS t)) (ap (λ t. (name ++ 61 ∷ []) ++ t) (append-nil (line_text v)) ∙ append_assoc name (61 ∷ []) (line_text v))

-- what follows the texts of items
abbrev FollowTexts : ProgramParts → CodeNumbers → ℕ → List CallFrame → ℕ → ℕ → ℕ → Row → ExitPoints → (List (List ℕ) → RunState → StatementOutcome) → Type 0
FollowTexts code numbers kept frames n to end under exits go =
    (texts : List (List ℕ)) (values : List Value) (u : RunState) (d : Cells) → length values ≡ n → map operand_text values ≡ texts → HoldState numbers.placement u d
    → CarriesOut code numbers.placement kept (from frames to (stacked values under) d u) end exits (go texts u)

module _ (code : ProgramParts) (numbers : CodeNumbers) (s : Surroundings) (kept : ℕ) (frames : List CallFrame) (around : IsAround code numbers s frames) where
  -- a value as its text in a line
  show_comes : (at : ℕ) (v : Value) (under : Row) (cells : Cells) (w : RunState) → slice_get code.instrs at ≡ Some instr.Show → HoldState numbers.placement w cells
      → ComesTo code numbers.placement kept (from frames at (v ∷ under) cells w) (at + 1) (Txt (line_text v) ∷ under) w
  show_comes at v under cells w here holds = pure_one code numbers.placement kept frames instr.Show line_value refl at (at + 1) v under cells w refl here holds

  -- a label and a text behind it
  label_comes : (name : List ℕ) (at to : ℕ) (v : Value) (under : Row) (cells : Cells) (w : RunState) → at + 2 ≡ to → slice_get code.instrs at ≡ Some instr.Show → slice_get code.instrs (at + 1) ≡ Some instr.Cat
      → HoldState numbers.placement w cells → ComesTo code numbers.placement kept (from frames at (v ∷ Txt (label_of name) ∷ under) cells w) to (Txt (labelled name v) ∷ under) w
  label_comes name at to v under cells w len first second holds =
      let c = show_comes at v (Txt (label_of name) ∷ under) cells w first holds in
      subst (λ x. ComesTo code numbers.placement kept (from frames at (v ∷ Txt (label_of name) ∷ under) cells w) to (x ∷ under) w) (label_is name v)
      (comes_on code numbers.placement kept (from frames at (v ∷ Txt (label_of name) ∷ under) cells w) (at + 1) to (Txt (line_text v) ∷ Txt (label_of name) ∷ under) (concat_of (Txt (label_of name) ∷ Txt (line_text v) ∷ []) ∷ under) w w c
      (comes_by code numbers.placement kept instr.Cat (at + 1) to (Txt (line_text v) ∷ Txt (label_of name) ∷ under) (concat_of (Txt (label_of name) ∷ Txt (line_text v) ∷ []) ∷ under) c.cells frames w w second (omega arith) refl c.holds (at_most w.progress.left)))

  texts_carry : (items : List Item) (at to end : ℕ) (under : Row) (cells : Cells) (w : RunState) (exits : ExitPoints) (go : List (List ℕ) → RunState → StatementOutcome)
      → at + length (items_code numbers items) ≡ to → AreCoveredItems code numbers items → StandsAt code.instrs at (items_code numbers items) → HoldState numbers.placement w cells
      → FollowTexts code numbers kept frames (length items) to end under exits go
      → CarriesOut code numbers.placement kept (from frames at under cells w) end exits (with_texts s items w go)
  texts_carry [] at to end under cells w exits go len covered has holds k =
      let e : to ≡ at = omega arith in
      subst (λ n. CarriesOut code numbers.placement kept (from frames n under cells w) end exits (go [] w)) e (k [] [] w cells refl refl holds)
  texts_carry (Text t ∷ items) at to end under cells w exits go len covered has holds k =
      let c = constant_runs code numbers.placement kept frames numbers (Txt t) (text_type t) at (at + 1) under cells w refl covered.0 has.0 holds in
      carries_on code numbers.placement kept (from frames at under cells w) (at + 1) end (Txt t ∷ under) w exits (with_texts s items w (λ texts. go (t ∷ texts))) c
      (texts_carry items (at + 1) to end (Txt t ∷ under) c.cells w exits (λ texts. go (t ∷ texts)) (omega arith) covered.1 has.1 c.holds
      (λ texts values u d count same h. k (t ∷ texts) (Txt t ∷ values) u d (ap suc count) (ap (λ l. t ∷ l) same) h))
  texts_carry (Shown e ∷ items) at to end under cells w exits go len covered has holds k =
      let ce = expression_code numbers e in
      let rest = items_code numbers items in
      let mid = at + length ce in
      let front = front_stands code.instrs at (ce ++ instr.Show ∷ []) rest has in
      let show = back_stands code.instrs at mid ce (instr.Show ∷ []) refl front in
      let more = back_stands code.instrs at (mid + 1) (ce ++ instr.Show ∷ []) rest (omega (arith, length-append ce (instr.Show ∷ []))) has in
      operand_carries code numbers.placement kept (from frames at under cells w) under mid end exits (evaluate s e w) (λ v u. with_texts s items u (λ texts. go (line_text v ∷ texts)))
      (expression_runs code numbers s kept frames around e at mid under cells w refl covered.0 (front_stands code.instrs at ce (instr.Show ∷ []) front) holds)
      (λ v x d h l.
      let c = show_comes mid v under d x show.0 h in
      carries_on code numbers.placement kept (from frames mid (v ∷ under) d x) (mid + 1) end (Txt (line_text v) ∷ under) x exits (with_texts s items x (λ texts. go (line_text v ∷ texts))) c
      (texts_carry items (mid + 1) to end (Txt (line_text v) ∷ under) c.cells x exits (λ texts. go (line_text v ∷ texts)) (omega (arith, length-append ce (instr.Show ∷ []), length-append (ce ++ instr.Show ∷ []) rest)) covered.1 more c.holds
      (λ texts values u f count same j. k (line_text v ∷ texts) (Txt (line_text v) ∷ values) u f (ap suc count) (ap (λ l. line_text v ∷ l) same) j)))
  texts_carry (Labelled name e ∷ items) at to end under cells w exits go len covered has holds k =
      let label = Txt (label_of name) in
      let i = constant_instr numbers label (text_type (label_of name)) in
      let ce = expression_code numbers e in
      let tail = instr.Show ∷ instr.Cat ∷ [] in
      let rest = items_code numbers items in
      let first = at + 1 in
      let mid = first + length ce in
      let front = front_stands code.instrs first (ce ++ tail) rest has.1 in
      let show = back_stands code.instrs first mid ce tail refl front in
      let more = back_stands code.instrs first (mid + 2) (ce ++ tail) rest (omega (arith, length-append ce tail)) has.1 in
      let c = constant_runs code numbers.placement kept frames numbers label (text_type (label_of name)) at first under cells w refl covered.0 has.0 holds in
      carries_on code numbers.placement kept (from frames at under cells w) first end (label ∷ under) w exits (with_texts s (Labelled name e ∷ items) w go) c
      (operand_carries code numbers.placement kept (from frames first (label ∷ under) c.cells w) (label ∷ under) mid end exits (evaluate s e w) (λ v u. with_texts s items u (λ texts. go (labelled name v ∷ texts)))
      (expression_runs code numbers s kept frames around e first mid (label ∷ under) c.cells w refl covered.1 (front_stands code.instrs first ce tail front) c.holds)
      (λ v x d h l.
      let f = label_comes name mid (mid + 2) v under d x refl show.0 show.1.0 h in
      carries_on code numbers.placement kept (from frames mid (v ∷ label ∷ under) d x) (mid + 2) end (Txt (labelled name v) ∷ under) x exits (with_texts s items x (λ texts. go (labelled name v ∷ texts))) f
      (texts_carry items (mid + 2) to end (Txt (labelled name v) ∷ under) f.cells x exits (λ texts. go (labelled name v ∷ texts)) (omega (arith, length-append ce tail, length-append (ce ++ tail) rest)) covered.2 more f.holds
      (λ texts values u q count same j. k (labelled name v ∷ texts) (Txt (labelled name v) ∷ values) u q (ap suc count) (ap (λ l. labelled name v ∷ l) same) j))))

  -- the line of all of them
  line_comes : (n at to : ℕ) (texts : List (List ℕ)) (values : List Value) (cells : Cells) (w : RunState) → at + 1 ≡ to → slice_get code.instrs at ≡ Some (instr.Put n) → length values ≡ n → map operand_text values ≡ texts
      → HoldState numbers.placement w cells → ComesTo code numbers.placement kept (from frames at (stacked values []) cells w) to [] (put_line (join_with_byte 32 texts) w)
  line_comes n at to texts values cells w e here count same holds =
      let m = from frames at (stacked values []) cells w in
      comes_by code numbers.placement kept (instr.Put n) at to (stacked values []) [] cells frames w (put_line (join_with_byte 32 texts) w) here e
      (ap (λ t. on_texts t m) (taken_all values [] n count) ∙ ap (λ l. GoesOn (machine_at (at + 1) (desk_of [] cells) frames (with_line (join_with_byte 32 l) w.progress))) same)
      holds (at_most w.progress.left)

  pub put_carries : (items : List Item) (at to : ℕ) (cells : Cells) (w : RunState) (exits : ExitPoints) → at + (length (items_code numbers items) + 1) ≡ to → AreCoveredItems code numbers items
      → StandsAt code.instrs at (items_code numbers items ++ instr.Put (length items) ∷ []) → HoldState numbers.placement w cells
      → CarriesOut code numbers.placement kept (from frames at [] cells w) to exits (with_texts s items w (λ texts x. Proceeds (put_line (join_with_byte 32 texts) x)))
  put_carries items at to cells w exits len covered has holds =
      let ci = items_code numbers items in
      let mid = at + length ci in
      let here = back_stands code.instrs at mid ci (instr.Put (length items) ∷ []) refl has in
      texts_carry items at mid to [] cells w exits (λ texts x. Proceeds (put_line (join_with_byte 32 texts) x)) refl covered (front_stands code.instrs at ci (instr.Put (length items) ∷ []) has) holds
      (λ texts values u d count same h. line_comes (length items) mid to texts values d u (omega arith) here.0 count same h)
