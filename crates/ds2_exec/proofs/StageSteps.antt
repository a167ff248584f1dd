-- The thread programs of a program: what is told of them behind their end, and the grains of their groups.
use Rattle.std.proofs.Common.{◌≡◌, ◌∙◌, ℕ, suc, List, [], ◌∷◌, ◌++◌, length, map, refl, sym, ap, subst, append_assoc}
use Rattle.std.specs.List.{AllByRecursion}
use Rattle.std.specs.Prelude.{reverse, slice_get}
use Rattle.std.proofs.lemmas.Grind.{reverse_onto}
use Rattle.ds2_table.specs.OneThread.{StageAnswer}
use Rattle.ds2_code.specs.declared.parts.ProgramParts.{ProgramParts}
use Rattle.ds2_unit.specs.Threads.{AreGrainsOf, IsGrainOfChain}
use Rattle.ds2_unit.specs.ProgramRun.{grain_asked, note_of_stage}
use Rattle.ds2_unit.specs.declared.program_end.StageNote.{StageNote}
use Rattle.ds2_answer.specs.ObjectPlans.{stage_in_code}
use Rattle.ds2_answer.specs.StagesLeft.{StageLeft, VerdictsTold, grain_of_stages, stages_left}
use Rattle.ds2_exec.specs.declared.stages.StageEnd.{StageEnd}
use Rattle.ds2_exec.specs.StageEnds.{GrainFits, JudgedStage, grain_of, grains_told, judged_stage, judged_stages, noted, stage_noted, stage_told, stages_noted}

-- ---- notes

length_last : {A : Type 0} (xs : List A) (x : A) → length (xs ++ x ∷ []) ≡ suc (length xs)
length_last [] x = refl
length_last (y ∷ xs) x = ap suc (length_last xs x)

told_last : (ends : List StageEnd) (end : StageEnd) → map stage_told (ends ++ end ∷ []) ≡ map stage_told ends ++ stage_told end ∷ []
told_last [] end = refl
told_last (e ∷ ends) end = ap (λ (es : List StageLeft). stage_told e ∷ es) (told_last ends end)

none_noted : (notes : List StageNote) → stages_noted [] notes ≡ []
none_noted [] = refl
none_noted (n ∷ notes) = none_noted notes

-- the last note is that of the program's own thread program
noted_last : (stage : JudgedStage) (stages : List JudgedStage) (notes : List StageNote) (note : StageNote)
    → stages_noted (stage ∷ stages) (notes ++ note ∷ []) ≡ stages_noted stages notes ++ stage_noted stage note ∷ []
noted_last stage stages [] note = refl
noted_last stage stages (n ∷ notes) note =
    ap (λ (k : ℕ). noted (slice_get (stage ∷ stages) k) n ++ stages_noted (stage ∷ stages) (notes ++ note ∷ [])) (length_last notes note)
    ∙ ap (λ (es : List StageEnd). noted (slice_get stages (length notes)) n ++ es) (noted_last stage stages notes note)
    ∙ sym (append_assoc (noted (slice_get stages (length notes)) n) (stages_noted stages notes) (stage_noted stage note ∷ []))

-- what the notes of an answer tell of its thread programs
pub noted_all : (told : VerdictsTold) (stages : List ProgramParts) (answers : List StageAnswer)
    → map stage_told (stages_noted (judged_stages told stages) (reverse (map note_of_stage answers)))
    ≡ reverse (stages_left told (map stage_in_code stages) answers (map (λ (s : StageAnswer). s.executed) answers))
noted_all told [] answers = ap (map stage_told) (none_noted (reverse (map note_of_stage answers)))
noted_all told (s ∷ stages) [] = refl
noted_all told (s ∷ stages) (a ∷ answers) =
    let notes = reverse (map note_of_stage answers) in
    let here = judged_stage told s in
    let below = judged_stages told stages in
    let end = stage_noted here (note_of_stage a) in
    ap (λ (ns : List StageNote). map stage_told (stages_noted (here ∷ below) ns)) (reverse_onto (map note_of_stage answers) (note_of_stage a) [])
    ∙ ap (map stage_told) (noted_last here below notes (note_of_stage a))
    ∙ told_last (stages_noted below notes) end
    ∙ ap (λ (es : List StageLeft). es ++ stage_told end ∷ []) (noted_all told stages answers)
    ∙ sym (reverse_onto (stages_left told (map stage_in_code stages) answers (map (λ (s : StageAnswer). s.executed) answers)) (stage_told end) [])

-- ---- grains

-- the grain that is asked is not that of a thread program which others read from
first_kept : (grains : List ℕ) (first last : ℕ) → grain_asked ((grains ++ first ∷ []) ++ last ∷ []) ≡ grain_asked (grains ++ first ∷ [])
first_kept [] first last = refl
first_kept (g ∷ grains) first last = refl

module _ (told : VerdictsTold) where
  -- the grains of thread programs, the innermost first
  abbrev grains_of : List ProgramParts → List ℕ
  grains_of stages = grains_told (judged_stages told stages)

  -- the grain that is asked fits the reading statement of the one that reads tables
  grain_fits : (stage : ProgramParts) (stages : List ProgramParts) → AllByRecursion (GrainFits told) (stage ∷ stages) → IsGrainOfChain stage stages (grain_asked (grains_of (stage ∷ stages)))
  grain_fits stage [] fit = fit.0
  grain_fits stage (next ∷ stages) fit =
      subst (IsGrainOfChain next stages) (sym (first_kept (grains_of stages) (grain_of (judged_stage told next)) (grain_of (judged_stage told stage)))) (grain_fits next stages fit.1)

  pub grains_fit : (stages : List ProgramParts) → AllByRecursion (GrainFits told) stages → AreGrainsOf stages (grains_of stages)
  grains_fit [] fit = tt
  grains_fit (stage ∷ stages) fit = grain_fits stage stages fit

  pub grains_asked : (stages : List ProgramParts) → grain_asked (grains_of stages) ≡ grain_of_stages told (map stage_in_code stages)
  grains_asked [] = refl
  grains_asked (stage ∷ []) = refl
  grains_asked (stage ∷ next ∷ stages) = first_kept (grains_of stages) (grain_of (judged_stage told next)) (grain_of (judged_stage told stage)) ∙ grains_asked (next ∷ stages)

-- the grain of a thread program behind those below it
pub grain_behind : (stages after : List JudgedStage) (stage : JudgedStage) (before now last : List ℕ) → stages ≡ stage ∷ after → now ≡ before ++ grains_told after → last ≡ now ++ grain_of stage ∷ []
    → last ≡ before ++ grains_told stages
grain_behind stages after stage before now last is added pushed =
    pushed ∙ ap (λ (gs : List ℕ). gs ++ grain_of stage ∷ []) added ∙ append_assoc before (grains_told after) (grain_of stage ∷ []) ∙ ap (λ (ss : List JudgedStage). before ++ grains_told ss) (sym is)
