-- From what came of a plan to what a command leaves.
use Rattle.std.proofs.Common.{◌≡◌, ◌⊎◌, inl, inr, ℕ, List, [], ◌∷◌, ◌++◌, codes, refl, sym, ap, ◌∙◌, subst, append_assoc, Option, Some, IfSome, IsSome}
use Rattle.ds2_outside.specs.Files.{Files, LeavesPart, with_file}
use Rattle.ds2_answer.specs.declared.status.Status.{Status}
use Rattle.ds2_answer.specs.declared.status.Status.TheVariants as ended
use Rattle.ds2_answer.specs.Status.{IsAnswerStatus}
use Rattle.ds2_answer.specs.PlanSteps.{PlanStep, LogLine, ReadFile, AskFor, WriteFile, logged_by, files_behind, text_logged, files_behind_all, steps_of, status_at_end}
use Rattle.ds2_top.specs.Leaves.{ReadsOrAsks, ReadFailed, WriteFailed, Between, AtWrite, IsText, MemoryLog, Leaves}
use Rattle.ds2_answer.specs.Lines.{fault_line, memory_line}
use Rattle.ds2_store_steps.specs.PlanOutcomes.{CameOfPlan, CutShort, files_told_with}
use Rattle.ds2_top.specs.Outside.{Outside, HoldsFiles, LogGainsPart, LogRose, ReadsRose, WritesRose}
use Rattle.ds2_top.specs.Reported.{Reported, TakesSome}
use Rattle.ds2_answer.specs.Plan.{Plan, Stops, Logs, ReadsFile, AsksFor, WritesFile}

-- the text x is what was said before and then this
record Behind (said x : List ℕ) (P : List ℕ → Type 0) : Type 0 where
  pub more : List ℕ
  pub x_is : x ≡ said ++ more
  pub holds : P more

behind_more : (said line x : List ℕ) (P Q : List ℕ → Type 0) → ((more : List ℕ) → P more → Q (line ++ more)) → Behind (said ++ line) x P → Behind said x Q
behind_more said line x P Q to b = record { more = line ++ b.more; x_is = b.x_is ∙ append_assoc said line b.more; holds = to b.more b.holds }

pub append_nil : (said : List ℕ) → said ++ [] ≡ said
append_nil [] = refl
append_nil (x ∷ said) = ap (λ (s : List ℕ). x ∷ s) (append_nil said)

all_split : (all : List PlanStep) → all ≡ all ++ []
all_split [] = refl
all_split (step ∷ all) = ap (λ (l : List PlanStep). step ∷ l) (all_split all)

module _ (before now : Outside) where
  record Finished (all : List PlanStep) (ends : Status) (files : Files) (status : Status) (more : List ℕ) : Type 0 where
    pub status_is : status ≡ ends
    pub answers : IsAnswerStatus ends
    pub more_is : more ≡ text_logged all
    pub files_are : HoldsFiles (files_behind_all all files) before now

  Plain : List PlanStep → Status → Files → Status → List ℕ → Type 0
  Plain all ends files status more =
      Finished all ends files status more
      ⊎ (((status ≡ ended.Read) × ReadFailed all files more before now) ⊎ ((status ≡ ended.Write) × WriteFailed all files more before now))

  plain_more : (step : PlanStep) (all : List PlanStep) (ends : Status) (files : Files) (status : Status) (more : List ℕ)
      → Plain all ends (files_behind step files) status more → Plain (step ∷ all) ends files status (logged_by step ++ more)
  unfolding Plain
  plain_more step all ends files status more (inl f) =
      inl (record { status_is = f.status_is; answers = f.answers; more_is = ap (λ (m : List ℕ). logged_by step ++ m) f.more_is; files_are = f.files_are })
  plain_more step all ends files status more (inr (inl (s, f))) =
      inr (inl (
        s,
        record {
          front = step ∷ f.front;
          step = f.step;
          name = f.name;
          rest = f.rest;
          reads = f.reads;
          split = ap (λ (l : List PlanStep). step ∷ l) f.split;
          x_is = ap (λ (m : List ℕ). logged_by step ++ m) f.x_is ∙ sym (append_assoc (logged_by step) (text_logged f.front) (fault_line (codes "Read") f.name));
          files_are = f.files_are;
        },
      ))
  plain_more step all ends files status more (inr (inr (s, f))) =
      inr (inr (
        s,
        record {
          front = step ∷ f.front;
          name = f.name;
          bytes = f.bytes;
          rest = f.rest;
          split = ap (λ (l : List PlanStep). step ∷ l) f.split;
          x_is = ap (λ (m : List ℕ). logged_by step ++ m) f.x_is ∙ sym (append_assoc (logged_by step) (text_logged f.front) (fault_line (codes "Write") f.name));
          files_are = f.files_are;
        },
      ))

  -- what came of a plan, where a store that tells its files told these before
  plain : (given : Plan) (said : List ℕ) (told : Option Files) (files : Files) (status : Status) (log : List ℕ) → (IsSome before.files → told ≡ Some files)
      → CameOfPlan given said told status log now.files → Behind said log (Plain (steps_of given) (status_at_end given) files status)
  unfolding Plain
  plain (Stops status) said told files s log link o =
      record {
        more = [];
        x_is = o.0.log_is ∙ sym (append_nil said);
        holds = inl (record { status_is = o.0.status_is; answers = o.1; more_is = refl; files_are = λ tells. o.0.files ∙ link tells });
      }
  plain (Logs line rest) said told files s log link o =
      behind_more said line log _ _ (λ more. plain_more (LogLine line) (steps_of rest) (status_at_end rest) files s more) (plain rest (said ++ line) told files s log link o)
  plain (ReadsFile name rest) said told files s log link (inl f) =
      record {
        more = fault_line (codes "Read") name;
        x_is = f.log_is;
        holds = inr (inl (f.status_is, record { front = []; step = ReadFile name; name = name; rest = steps_of rest; reads = refl; split = refl; x_is = refl; files_are = λ tells. f.files ∙ link tells }));
      }
  plain (ReadsFile name rest) said told files s log link (inr o) =
      behind_more said [] log _ _ (λ more. plain_more (ReadFile name) (steps_of rest) (status_at_end rest) files s more)
      (subst (λ (l : List ℕ). Behind l log (Plain (steps_of rest) (status_at_end rest) files s)) (sym (append_nil said)) (plain rest said told files s log link o))
  plain (AsksFor name rest) said told files s log link (inl f) =
      record {
        more = fault_line (codes "Read") name;
        x_is = f.log_is;
        holds = inr (inl (f.status_is, record { front = []; step = AskFor name; name = name; rest = steps_of rest; reads = refl; split = refl; x_is = refl; files_are = λ tells. f.files ∙ link tells }));
      }
  plain (AsksFor name rest) said told files s log link (inr o) =
      behind_more said [] log _ _ (λ more. plain_more (AskFor name) (steps_of rest) (status_at_end rest) files s more)
      (subst (λ (l : List ℕ). Behind l log (Plain (steps_of rest) (status_at_end rest) files s)) (sym (append_nil said)) (plain rest said told files s log link o))
  plain (WritesFile name bytes rest) said told files s log link (inl f) =
      record {
        more = fault_line (codes "Write") name;
        x_is = f.log_is;
        holds = inr (inr (
          f.status_is,
          record {
            front = [];
            name = name;
            bytes = bytes;
            rest = steps_of rest;
            split = refl;
            x_is = refl;
            files_are = λ tells. subst (λ (t : Option Files). IfSome t (λ held. LeavesPart held name bytes now.files)) (link tells) f.files;
          },
        ));
      }
  plain (WritesFile name bytes rest) said told files s log link (inr o) =
      behind_more said [] log _ _ (λ more. plain_more (WriteFile name bytes) (steps_of rest) (status_at_end rest) files s more)
      (subst (λ (l : List ℕ). Behind l log (Plain (steps_of rest) (status_at_end rest) (with_file files name bytes) s)) (sym (append_nil said))
      (plain rest said (files_told_with told name bytes) (with_file files name bytes) s log (λ tells. ap (λ (t : Option Files). files_told_with t name bytes) (link tells)) o))

  -- the files of a plan that was cut short
  Cut : List PlanStep → Files → Type 0
  Cut all files = Between all files before now ⊎ AtWrite all files before now

  cut_more : (step : PlanStep) (all : List PlanStep) (files : Files) → Cut all (files_behind step files) → Cut (step ∷ all) files
  unfolding Cut
  cut_more step all files (inl b) = inl (record { front = step ∷ b.front; rest = b.rest; split = ap (λ (l : List PlanStep). step ∷ l) b.split; files_are = b.files_are })
  cut_more step all files (inr b) =
      inr (record { front = step ∷ b.front; name = b.name; bytes = b.bytes; rest = b.rest; split = ap (λ (l : List PlanStep). step ∷ l) b.split; files_are = b.files_are })

  cut_here : (all : List PlanStep) (files : Files) → HoldsFiles files before now → Cut all files
  unfolding Cut
  cut_here all files same = inl (record { front = []; rest = all; split = refl; files_are = same })

  cut : (given : Plan) (told : Option Files) (files : Files) → (IsSome before.files → told ≡ Some files) → CutShort given told now.files → Cut (steps_of given) files
  unfolding Cut
  cut (Stops status) told files link o = cut_here [] files (λ tells. o ∙ link tells)
  cut (Logs line rest) told files link (inl o) = cut_here (LogLine line ∷ steps_of rest) files (λ tells. o ∙ link tells)
  cut (Logs line rest) told files link (inr o) = cut_more (LogLine line) (steps_of rest) files (cut rest told files link o)
  cut (ReadsFile name rest) told files link (inl o) = cut_here (ReadFile name ∷ steps_of rest) files (λ tells. o ∙ link tells)
  cut (ReadsFile name rest) told files link (inr o) = cut_more (ReadFile name) (steps_of rest) files (cut rest told files link o)
  cut (AsksFor name rest) told files link (inl o) = cut_here (AskFor name ∷ steps_of rest) files (λ tells. o ∙ link tells)
  cut (AsksFor name rest) told files link (inr o) = cut_more (AskFor name) (steps_of rest) files (cut rest told files link o)
  cut (WritesFile name bytes rest) told files link (inl o) =
      inr (record {
        front = [];
        name = name;
        bytes = bytes;
        rest = steps_of rest;
        split = refl;
        files_are = λ tells. subst (λ (t : Option Files). IfSome t (λ held. LeavesPart held name bytes now.files)) (link tells) o;
      })
  cut (WritesFile name bytes rest) told files link (inr o) =
      cut_more (WriteFile name bytes) (steps_of rest) files (cut rest (files_told_with told name bytes) (with_file files name bytes) (λ tells. ap (λ (t : Option Files). files_told_with t name bytes) (link tells)) o)

  cut_end : (all : List PlanStep) (files : Files) → HoldsFiles (files_behind_all all files) before now → Cut all files
  unfolding Cut
  cut_end all files is = inl (record { front = all; rest = []; split = all_split all; files_are = is })

  cut_read : (all : List PlanStep) (files : Files) (x : List ℕ) → ReadFailed all files x before now → Cut all files
  unfolding Cut
  cut_read all files x f = inl (record { front = f.front; rest = f.step ∷ f.rest; split = f.split; files_are = f.files_are })

  cut_write : (all : List PlanStep) (files : Files) (x : List ℕ) → WriteFailed all files x before now → Cut all files
  unfolding Cut
  cut_write all files x f = inr (record { front = f.front; name = f.name; bytes = f.bytes; rest = f.rest; split = f.split; files_are = f.files_are })

  -- the log after want of memory
  part_of_text : (all : List PlanStep) (files : Files) (x : List ℕ) → IsText all files before now x → LogGainsPart x before now → MemoryLog all files before now
  part_of_text all files x is part = record { x = x; y = []; x_is = is; y_is = record { rest = x; split = refl; lines = inl refl }; gained = inl part }

  part_of_line : (all : List PlanStep) (files : Files) → LogGainsPart memory_line before now → MemoryLog all files before now
  part_of_line all files part =
      record { x = text_logged all; y = []; x_is = inl refl; y_is = record { rest = text_logged all; split = refl; lines = inl refl }; gained = inr part }

  -- what the end of the answer leaves
  of_finished : (answer : Plan) (files : Files) (status result : Status) → status ≡ status_at_end answer → IsAnswerStatus status → HoldsFiles (files_behind_all (steps_of answer) files) before now
      → Reported status (text_logged (steps_of answer)) (LogRose before now) result before.log now.log → Leaves answer files before now result
  unfolding Cut
  of_finished answer files ended.Done result is answers held (inl (r, l)) = subst (Leaves answer files before now) (sym r) (record { status_is = is; files_are = held }, l)
  of_finished answer files ended.Done result is answers held (inr (inl (r, b, p))) = subst (Leaves answer files before now) (sym r) (record { status_is = is; files_are = held }, b, p)
  of_finished answer files ended.Usage result is answers held (inl (r, l)) = subst (Leaves answer files before now) (sym r) (record { status_is = is; files_are = held }, inl l)
  of_finished answer files ended.Usage result is answers held (inr (inl (r, b, p))) = subst (Leaves answer files before now) (sym r) (record { status_is = is; files_are = held }, inr (b, p))
  of_finished answer files ended.Source result is answers held (inl (r, l)) = subst (Leaves answer files before now) (sym r) (record { status_is = is; files_are = held }, inl l)
  of_finished answer files ended.Source result is answers held (inr (inl (r, b, p))) = subst (Leaves answer files before now) (sym r) (record { status_is = is; files_are = held }, inr (b, p))
  of_finished answer files ended.File result is answers held (inl (r, l)) = subst (Leaves answer files before now) (sym r) (record { status_is = is; files_are = held }, inl l)
  of_finished answer files ended.File result is answers held (inr (inl (r, b, p))) = subst (Leaves answer files before now) (sym r) (record { status_is = is; files_are = held }, inr (b, p))
  of_finished answer files ended.Exists result is answers held (inl (r, l)) = subst (Leaves answer files before now) (sym r) (record { status_is = is; files_are = held }, inl l)
  of_finished answer files ended.Exists result is answers held (inr (inl (r, b, p))) = subst (Leaves answer files before now) (sym r) (record { status_is = is; files_are = held }, inr (b, p))
  of_finished answer files ended.Fault result is answers held (inl (r, l)) = subst (Leaves answer files before now) (sym r) (record { status_is = is; files_are = held }, inl l)
  of_finished answer files ended.Fault result is answers held (inr (inl (r, b, p))) = subst (Leaves answer files before now) (sym r) (record { status_is = is; files_are = held }, inr (b, p))
  of_finished answer files ended.Object result is answers held (inl (r, l)) = subst (Leaves answer files before now) (sym r) (record { status_is = is; files_are = held }, inl l)
  of_finished answer files ended.Object result is answers held (inr (inl (r, b, p))) = subst (Leaves answer files before now) (sym r) (record { status_is = is; files_are = held }, inr (b, p))
  of_finished answer files ended.Read result is answers held r = absurd answers
  of_finished answer files ended.Write result is answers held r = absurd answers
  of_finished answer files ended.Log result is answers held r = absurd answers
  of_finished answer files ended.Memory result is answers held r = absurd answers
  of_finished answer files status result is answers held (inr (inr (r, p))) =
      subst (Leaves answer files before now) (sym r) (cut_end (steps_of answer) files held, part_of_text (steps_of answer) files (text_logged (steps_of answer)) (inl refl) p)

  of_read : (answer : Plan) (files : Files) (x : List ℕ) (result : Status) → ReadsRose before now → ReadFailed (steps_of answer) files x before now
      → Reported ended.Read x (LogRose before now) result before.log now.log → Leaves answer files before now result
  unfolding Cut
  of_read answer files x result cause f (inl (r, l)) = subst (Leaves answer files before now) (sym r) (record { cause = cause; x = x; failed = f; gained = inl l })
  of_read answer files x result cause f (inr (inl (r, b, p))) = subst (Leaves answer files before now) (sym r) (record { cause = cause; x = x; failed = f; gained = inr (b, p) })
  of_read answer files x result cause f (inr (inr (r, p))) =
      subst (Leaves answer files before now) (sym r) (cut_read (steps_of answer) files x f, part_of_text (steps_of answer) files x (inr (inl (cause, f))) p)

  of_write : (answer : Plan) (files : Files) (x : List ℕ) (result : Status) → WritesRose before now → WriteFailed (steps_of answer) files x before now
      → Reported ended.Write x (LogRose before now) result before.log now.log → Leaves answer files before now result
  unfolding Cut
  of_write answer files x result cause f (inl (r, l)) = subst (Leaves answer files before now) (sym r) (record { cause = cause; x = x; failed = f; gained = inl l })
  of_write answer files x result cause f (inr (inl (r, b, p))) = subst (Leaves answer files before now) (sym r) (record { cause = cause; x = x; failed = f; gained = inr (b, p) })
  of_write answer files x result cause f (inr (inr (r, p))) =
      subst (Leaves answer files before now) (sym r) (cut_write (steps_of answer) files x f, part_of_text (steps_of answer) files x (inr (inr (cause, f))) p)

  of_plain : (answer : Plan) (files : Files) (status : Status) (x : List ℕ) (result : Status) → (status ≡ ended.Read → ReadsRose before now) → (status ≡ ended.Write → WritesRose before now)
      → Plain (steps_of answer) (status_at_end answer) files status x → Reported status x (LogRose before now) result before.log now.log → Leaves answer files before now result
  unfolding Plain
  of_plain answer files status x result read write (inl f) r =
      of_finished answer files status result f.status_is (subst IsAnswerStatus (sym f.status_is) f.answers) f.files_are
      (subst (λ (y : List ℕ). Reported status y (LogRose before now) result before.log now.log) f.more_is r)
  of_plain answer files status x result read write (inr (inl (s, f))) r =
      of_read answer files x result (read s) f (subst (λ (t : Status). Reported t x (LogRose before now) result before.log now.log) s r)
  of_plain answer files status x result read write (inr (inr (s, f))) r =
      of_write answer files x result (write s) f (subst (λ (t : Status). Reported t x (LogRose before now) result before.log now.log) s r)

  of_behind : (answer : Plan) (files : Files) (status : Status) (x : List ℕ) → Behind [] x (Plain (steps_of answer) (status_at_end answer) files status) → Plain (steps_of answer) (status_at_end answer) files status x
  of_behind answer files status x b = subst (Plain (steps_of answer) (status_at_end answer) files status) (sym b.x_is) b.holds

  -- a command that has ended with a status
  pub ended_leaves : (answer : Plan) (files : Files) (status : Status) (x : List ℕ) (result : Status) → (IsSome before.files → before.files ≡ Some files)
      → (status ≡ ended.Read → ReadsRose before now) → (status ≡ ended.Write → WritesRose before now)
      → CameOfPlan answer [] before.files status x now.files → Reported status x (LogRose before now) result before.log now.log → Leaves answer files before now result
  ended_leaves answer files status x result link read write o r =
      of_plain answer files status x result read write (of_behind answer files status x (plain answer [] before.files files status x link o)) r

  -- a command that has found no memory
  pub memory_leaves : (answer : Plan) (files : Files) → (IsSome before.files → before.files ≡ Some files) → CutShort answer before.files now.files → TakesSome memory_line before.log now.log
      → Leaves answer files before now ended.Memory
  unfolding Cut
  memory_leaves answer files link o r = (cut answer before.files files link o, part_of_line (steps_of answer) files r)
