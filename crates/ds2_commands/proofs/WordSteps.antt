-- What is left of words that are no command, or for which there is no memory.
use Rattle.std.proofs.Common.{◌≡◌, IsErrAnd, inr, ℕ, List, [], Option, Some, None, Result, Ok, Err, refl, sym, subst}
use Rattle.ds2_outside.specs.Files.{Files}
use Rattle.ds2_compile.specs.AnswersOfTexts.{SourcesRead}
use Rattle.ds2_answer.specs.declared.command_line.CommandLine.{CommandLine}
use Rattle.ds2_answer.specs.declared.command_line.CommandLine.TheVariants.{Run, Compile, Exec, Check, Demo}
use Rattle.ds2_answer.specs.declared.status.Status.TheVariants as ended
use Rattle.ds2_answer.specs.CommandPlans.{plan_of_command}
use Rattle.ds2_answer.specs.Lines.{usage_line}
use Rattle.ds2_answer.specs.TablePlans.{Presence}
use Rattle.ds2_store_steps.specs.FileReads.{OverSomeFiles}
use Rattle.ds2_store_steps.specs.Halts.{FollowsAll, HaltsPlan, StopsAs}
use Rattle.ds2_store_steps.specs.declared.halt.Halt.{Halt}
use Rattle.ds2_store_steps.specs.declared.halt.Halt.TheVariants.{OutOfMemory}
use Rattle.ds2_store_steps.proofs.FileSteps.{line_ends, over_all}
use Rattle.ds2_store_steps.proofs.Leading.{at_once}
use Rattle.ds2_store_steps.proofs.OutputSteps.{answers_all}
use Rattle.ds2_commands.specs.CommandOutcomes.{DecodesUnlessHalted, DoesCommand, StoresUnlessHalted}
use Rattle.ds2_commands.proofs.ObjectSteps.{no_objects}

module _ (sources : SourcesRead) where
  over_nothing : (line : Option CommandLine) (said log : List ℕ) (told now : Option Files) (result : Result (Unit {0}) Halt)
      → ((files : Files) (there : Presence) → FollowsAll (plan_of_command sources no_objects [] line files there) said told result log now) → line ≡ None → DoesCommand sources line said told result log now
  over_nothing line said log told now result follows none =
      let some = over_all told (λ (files : Files). Unit {0}) (λ files. tt) in
      let answers = answers_all told (λ (there : Presence). Unit {0}) (λ there. tt) in
      subst (λ (l : Option CommandLine). DoesCommand sources l said told result log now) (sym none)
      (record {
        object_for = no_objects;
        files = some.files;
        there = answers.there;
        object = [];
        files_told = some.told_is;
        there_told = answers.told_is;
        stores = tt;
        decodes = tt;
        follows = subst (λ (l : Option CommandLine). FollowsAll (plan_of_command sources no_objects [] l some.files answers.there) said told result log now) none (follows some.files answers.there);
      })

  -- words that are no command were refused
  pub no_line : (line : Option CommandLine) (said log : List ℕ) (told now : Option Files) (halt : Halt) → line ≡ None → StopsAs ended.Usage usage_line said halt log → now ≡ told
      → DoesCommand sources line said told (Err halt) log now
  no_line line said log told now halt none stops same =
      over_nothing line said log told now (Err halt)
      (λ files there. subst (λ (l : Option CommandLine). HaltsPlan (plan_of_command sources no_objects [] l files there) said told halt log now) (sym none) (line_ends ended.Usage usage_line said told now halt log tt stops same)) none

  -- there was no memory for the words
  pub no_words : (line : Option CommandLine) (said log : List ℕ) (told : Option Files) (result : Result (Unit {0}) Halt) → IsErrAnd result (λ e. e ≡ OutOfMemory) → DoesCommand sources line said told result log told
  no_words line said log told (Ok value) is = absurd is
  no_words line said log told (Err e) is =
      let some = over_all told (λ (files : Files). Unit {0}) (λ files. tt) in
      let answers = answers_all told (λ (there : Presence). Unit {0}) (λ there. tt) in
      subst (λ (h : Halt). DoesCommand sources line said told (Err h) log told) (sym is)
      (record {
        object_for = no_objects;
        files = some.files;
        there = answers.there;
        object = [];
        files_told = some.told_is;
        there_told = answers.told_is;
        stores = stores_none line;
        decodes = decodes_none line;
        follows = at_once (plan_of_command sources no_objects [] line some.files answers.there) told;
      })
    where
      stores_none : (l : Option CommandLine) → StoresUnlessHalted sources l (OverSomeFiles.files (over_all told (λ (files : Files). Unit {0}) (λ files. tt))) [] (Err OutOfMemory) told told
      stores_none None = tt
      stores_none (Some (Run source threads budget)) = inr refl
      stores_none (Some (Compile source)) = inr refl
      stores_none (Some (Exec name budget)) = tt
      stores_none (Some (Check source)) = tt
      stores_none (Some (Demo n)) = inr refl

      decodes_none : (l : Option CommandLine) → DecodesUnlessHalted no_objects l (OverSomeFiles.files (over_all told (λ (files : Files). Unit {0}) (λ files. tt))) said told (Err OutOfMemory) log told
      decodes_none None = tt
      decodes_none (Some (Run source threads budget)) = tt
      decodes_none (Some (Compile source)) = tt
      decodes_none (Some (Exec name budget)) = inr refl
      decodes_none (Some (Check source)) = tt
      decodes_none (Some (Demo n)) = tt
