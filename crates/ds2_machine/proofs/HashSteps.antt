-- What a call of a hash object, or of an iterator, leads to.
use Rattle.std.proofs.Common.{◌≡◌, ℕ, ◌+◌, List, [], ◌∷◌, Option, Some, None, refl, sym, ap, ◌∙◌}
use Rattle.std.specs.Prelude.{slice_set}
use Rattle.ds2_value.specs.HashList.{HashItems}
use Rattle.ds2_value.specs.Row.{Row}
use Rattle.ds2_value.specs.declared.hash_function.HashFunction.{HashFunction}
use Rattle.ds2_value.specs.declared.hash_function.IteratorFunction.{IteratorFunction}
use Rattle.ds2_value.specs.declared.value.Value.{Value}
use Rattle.ds2_code.specs.declared.parts.HashPart.{HashPart}
use Rattle.ds2_code.specs.declared.parts.ProgramParts.{ProgramParts}
use Rattle.ds2_code.specs.CodeRun.{NextState, GoesOn, on_desk}
use Rattle.ds2_code.specs.HashCalls.{with_copied, all_shifted, hash_called, iterator_moved}
use Rattle.ds2_slots.specs.SlotHashes.{answer_of_object, HasCalledHash, answer_of_hiter, HasMovedHiter}
use Rattle.ds2_slots.specs.declared.objects.HashObjects.{HashObjects}
use Rattle.ds2_machine.specs.MachineView.{UnitTold, desk_of_state, machine_of_state, progress_of_state, waiting_frames, IsQuietStep}
use Rattle.ds2_frames.specs.PileView.{PileView}
use Rattle.ds2_machine.specs.declared.state.State.{State}
use Rattle.ds2_machine.proofs.Steps.{quiet_goes}

module _ (part : HashPart) (old : State) (told : UnitTold) (objects : HashObjects) (slots : Row) (operands : PileView) (given : Value) (stack : operands.stack ≡ given ∷ old.operands.stack) (below : operands.below ≡ old.operands.below) where
  -- on the next instruction with other operands, slots and objects
  abbrev next_with : Row → Row → Row → List HashItems → List (Option ℕ) → NextState
  next_with own others values hashes iterators =
      GoesOn (record {
        at = old.at + 1;
        desk = record { stack = own; locals = old.locals.own; state = record { slots = values; hashes = hashes; iterators = iterators; parameters = old.parameters } };
        frames = waiting_frames others old.locals.below old.frames;
        progress = progress_of_state old told;
      })

  -- the same with the code of a call on top
  pushed_so : (v : Value) (values : Row) (hashes : List HashItems) (iterators : List (Option ℕ)) → given ≡ v → slots ≡ values → objects.hashes ≡ hashes → objects.iterators ≡ iterators
      → next_with (v ∷ old.operands.stack) old.operands.below values hashes iterators ≡ next_with operands.stack operands.below slots objects.hashes objects.iterators
  pushed_so v values hashes iterators gives copies leaves stands =
      ap (λ (z : Value). next_with (z ∷ old.operands.stack) old.operands.below values hashes iterators) (sym gives)
      ∙ ap (λ (z : Row). next_with z old.operands.below values hashes iterators) (sym stack)
      ∙ ap (λ (z : Row). next_with operands.stack z values hashes iterators) (sym below)
      ∙ ap (λ (z : Row). next_with operands.stack operands.below z hashes iterators) (sym copies)
      ∙ ap (λ (z : List HashItems). next_with operands.stack operands.below slots z iterators) (sym leaves)
      ∙ ap (λ (z : List (Option ℕ)). next_with operands.stack operands.below slots objects.hashes z) (sym stands)

  pub hash_stepped : (code : ProgramParts) (f : HashFunction) (h : ℕ) → HasCalledHash f h part code.iterators old.slots slots old.objects objects given
      → IsQuietStep (on_desk (hash_called code f h (Some part) (desk_of_state old)) (machine_of_state old told)) told (record old { at = old.at + 1; operands = operands; slots = slots; objects = objects }) None
  hash_stepped code f h r =
      quiet_goes _ told (record old { at = old.at + 1; operands = operands; slots = slots; objects = objects }) told.way
      (pushed_so (answer_of_object f h part old.slots old.objects).code (with_copied part (answer_of_object f h part old.slots old.objects).copied old.slots) (slice_set old.objects.hashes h (answer_of_object f h part old.slots old.objects).items)
      (all_shifted (answer_of_object f h part old.slots old.objects).shift h code.iterators old.objects.iterators) r.gives r.copies r.leaves r.shifts)

  pub iterator_stepped : (f : IteratorFunction) (i h : ℕ) → HasMovedHiter f i h part old.slots slots old.objects objects given
      → IsQuietStep (on_desk (iterator_moved f i h (Some part) (desk_of_state old)) (machine_of_state old told)) told (record old { at = old.at + 1; operands = operands; slots = slots; objects = objects }) None
  iterator_stepped f i h r =
      quiet_goes _ told (record old { at = old.at + 1; operands = operands; slots = slots; objects = objects }) told.way
      (pushed_so (answer_of_hiter f i h old.objects).code (with_copied part (answer_of_hiter f i h old.objects).copied old.slots) old.objects.hashes (slice_set old.objects.iterators i (answer_of_hiter f i h old.objects).position)
      r.gives r.copies (ap (λ (z : HashObjects). z.hashes) r.leaves) (ap (λ (z : HashObjects). z.iterators) r.leaves))
