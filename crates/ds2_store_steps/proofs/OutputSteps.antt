-- From an output whose file is not there to those after it.
use Rattle.std.proofs.Common.{◌≡◌, ◌∙◌, ◌||◌, IsErrAnd, Bool, true, false, not, bytes_eq, ℕ, List, [], ◌∷◌, ◌++◌, codes, Option, Some, None, IfSome, Result, Ok, Err, refl, sym, ap, subst, append_assoc}
use Rattle.std.specs.Prelude.{if◌then◌else◌, flat_map, map}
use Rattle.std.specs.FinMap.{empty}
use Rattle.std.specs.List.{AllByRecursion, list_any}
use Rattle.std.proofs.lemmas.List.{append-nil, append_cancel_right}
use Rattle.std.proofs.lemmas.Slice.Eq.{bytes_eq-Decides}
use Rattle.ds2_outside.specs.Files.{Files}
use Rattle.ds2_code.specs.declared.parts.OutputPart.{OutputPart}
use Rattle.ds2_code.specs.declared.parts.StagedParts.{StagedParts}
use Rattle.ds2_answer.specs.declared.status.Status.TheVariants as ended
use Rattle.ds2_answer.specs.Answer.{table_file}
use Rattle.ds2_answer.specs.Lines.{exists_line}
use Rattle.ds2_answer.specs.ObjectPlans.{outputs_of_code}
use Rattle.ds2_answer.specs.Plan.{Plan, AsksFor}
use Rattle.ds2_answer.specs.TablePlans.{OutputNamed, Presence, ask_unless_made, made_too, output_then, outputs_then, present_in, unless_there}
use Rattle.ds2_store_steps.specs.declared.halt.Halt.{Halt}
use Rattle.ds2_store_steps.specs.declared.halt.Halt.TheVariants.{OutOfMemory}
use Rattle.ds2_store_steps.specs.FileReads.{AsksForFile}
use Rattle.ds2_store_steps.specs.Halts.{Follows, HaltsPlan, LeadsOn, StopsAs}
use Rattle.ds2_store_steps.specs.OutputAsks.{AsksNewOutput, AsksOutputs, OverAnswers, made_behind, output_named}
use Rattle.ds2_store_steps.proofs.Leading.{does_on, leads_ask, leads_none, no_memory}
use Rattle.ds2_store_steps.proofs.FileSteps.{line_ends}

-- ---- answers of a store

-- what holds of any answers holds of those of a store
pub answers_all : (told : Option Files) (P : Presence → Type 0) → ((there : Presence) → P there) → OverAnswers told P
answers_all None P all = record { there = present_in empty; told_is = tt; holds = all (present_in empty) }
answers_all (Some files) P all = record { there = present_in files; told_is = λ name. refl; holds = all (present_in files) }

-- what holds over some answers gives what follows from it
pub answers_map : (told : Option Files) (P Q : Presence → Type 0) → ((there : Presence) → P there → Q there) → OverAnswers told P → OverAnswers told Q
answers_map told P Q f o = record { there = o.there; told_is = o.told_is; holds = f o.there o.holds }

-- the answer to one question, and others to the rest
abbrev answered : List ℕ → Bool → Presence → Presence
answered name there others = λ other. if bytes_eq name other then there else others other

own_name : (a : List ℕ) → bytes_eq a a ≡ true
own_name a = (bytes_eq-Decides a a).1 refl

own_answer : (name : List ℕ) (there : Bool) (others : Presence) → answered name there others name ≡ there
own_answer name there others = ap (λ (b : Bool). if b then there else others name) (own_name name)

chosen_answer : (name other : List ℕ) (there : Bool) (others wanted : Presence) → there ≡ wanted name → others other ≡ wanted other → answered name there others other ≡ wanted other
chosen_answer name other there others wanted here else_where = by (bytes_eq name other) refl
  where
    by : (e : Bool) → bytes_eq name other ≡ e → (if e then there else others other) ≡ wanted other
    by true e = here ∙ ap wanted ((bytes_eq-Decides name other).0 e)
    by false e = else_where

-- one answer of a store
one_answer : (told : Option Files) (name : List ℕ) (there : Bool) → IfSome told (λ files. there ≡ present_in files name) → OverAnswers told (λ others. others name ≡ there)
one_answer None name there is = record { there = answered name there (present_in empty); told_is = tt; holds = own_answer name there (present_in empty) }
one_answer (Some files) name there is = record { there = present_in files; told_is = λ other. refl; holds = sym is }

-- ---- one output

-- the file of an output is there
pub file_there : (name file : List ℕ) (there : Bool) (said text log : List ℕ) (told between now : Option Files) (halt : Halt) → file ≡ table_file name → there ≡ true
    → IfSome told (λ files. there ≡ present_in files file) → text ≡ said → between ≡ told → StopsAs ended.Exists (exists_line file) text halt log → now ≡ between
    → AsksNewOutput name said told (Err halt) log now
file_there name file there said text log told between now halt file_is is answer text_is between_is ends same = (
  same ∙ between_is,
  answers_map told (λ answers. answers file ≡ there) (λ answers. (rest : Plan) → HaltsPlan (ask_unless_made false answers name rest) said told halt log now)
      (λ answers asked rest.
      let is_there : answers (table_file name) ≡ true = ap answers (sym file_is) ∙ asked ∙ is in
      let stops : StopsAs ended.Exists (exists_line (table_file name)) said halt log =
      subst (λ (f : List ℕ). StopsAs ended.Exists (exists_line f) said halt log) file_is (subst (λ (t : List ℕ). StopsAs ended.Exists (exists_line file) t halt log) text_is ends) in
      let middle : Plan = unless_there (answers (table_file name)) name rest in
      does_on {T = Unit {0}} (AsksFor (table_file name) middle) middle (λ _. rest) said said told told (Err halt) log now (leads_ask (table_file name) middle said told)
      (subst (λ (b : Bool). HaltsPlan (unless_there b name rest) said told halt log now) (sym is_there)
      (line_ends ended.Exists (exists_line (table_file name)) said told now halt log tt stops (same ∙ between_is))))
      (one_answer told file there answer),
)

-- the file of an output is not there
pub file_not_there : (name file : List ℕ) (there : Bool) (said text : List ℕ) (told between : Option Files) → file ≡ table_file name → there ≡ false
    → IfSome told (λ files. there ≡ present_in files file) → text ≡ said → between ≡ told
    → AsksNewOutput name said told (Ok tt) text between
file_not_there name file there said text told between file_is is answer text_is between_is = (
  between_is,
  answers_map told (λ answers. answers file ≡ there) (λ answers. (rest : Plan) → LeadsOn (ask_unless_made false answers name rest) rest said told text between)
      (λ answers asked rest.
      let no_file : answers (table_file name) ≡ false = ap answers (sym file_is) ∙ asked ∙ is in
      subst (λ (b : Bool). LeadsOn (AsksFor (table_file name) (unless_there b name rest)) rest said told text between) (sym no_file)
      (subst (λ (t : List ℕ). LeadsOn (AsksFor (table_file name) rest) rest said told t between) (sym text_is)
      (subst (λ (n : Option Files). LeadsOn (AsksFor (table_file name) rest) rest said told said n) (sym between_is) (leads_ask (table_file name) rest said told))))
      (one_answer told file there answer),
)

-- the question has ended the command
pub file_unasked : (name file said log : List ℕ) (told now : Option Files) (halt : Halt) (result : Result (Unit {0}) Halt) → file ≡ table_file name → IsErrAnd result (λ e. e ≡ halt)
    → AsksForFile file said told (Err halt) log now → AsksNewOutput name said told result log now
file_unasked name file said log told now halt (Ok value) file_is is (same, halts) = absurd is
file_unasked name file said log told now halt (Err e) file_is is (same, halts) = (
  same,
  answers_all told (λ answers. (rest : Plan) → HaltsPlan (ask_unless_made false answers name rest) said told e log now)
      (λ answers rest.
      subst (λ (h : Halt). HaltsPlan (ask_unless_made false answers name rest) said told h log now) (sym is)
      (subst (λ (f : List ℕ). HaltsPlan (AsksFor f (unless_there (answers (table_file name)) name rest)) said told halt log now) file_is (halts (unless_there (answers (table_file name)) name rest)))),
)

-- there was no memory
pub file_unnamed : (name said log : List ℕ) (told now : Option Files) (result : Result (Unit {0}) Halt) → IsErrAnd result (λ e. e ≡ OutOfMemory) → now ≡ told
    → AsksNewOutput name said told result log now
file_unnamed name said log told now result is same = (
  same,
  answers_all told (λ answers. (rest : Plan) → Follows (ask_unless_made false answers name rest) (λ (_ : Unit {0}). rest) said told result log now)
      (λ answers rest. no_memory (ask_unless_made false answers name rest) (λ (_ : Unit {0}). rest) said log told now result is same),
)

module _ (made : List ℕ → Bool) (o : OutputNamed) where
  -- an output that may be written over is not asked for
  pub written_over : (said log : List ℕ) (told now : Option Files) → o.overwrites ≡ true → log ≡ said → now ≡ told → AsksOutputs made (o ∷ []) said told (Ok tt) log now
  written_over said log told now is log_is same = (
    same,
    answers_all told (λ there. (rest : Plan) → LeadsOn (outputs_then made there (o ∷ []) rest) rest said told log now)
        (λ there rest.
        subst (λ (b : Bool). LeadsOn (if b then rest else ask_unless_made (made o.name) there o.name rest) rest said told log now) (sym is)
        (subst (λ (t : List ℕ). LeadsOn rest rest said told t now) (sym log_is) (subst (λ (n : Option Files). LeadsOn rest rest said told said n) (sym same) (leads_none rest said told)))),
  )

  asked_plan : (b c : Bool) (there : Presence) (rest : Plan) → o.overwrites ≡ b → made o.name ≡ c → outputs_then made there (o ∷ []) rest ≡ (if b then rest else ask_unless_made c there o.name rest)
  asked_plan b c there rest is made_is =
      ap (λ (x : Bool). if x then rest else ask_unless_made (made o.name) there o.name rest) is ∙ ap (λ (x : Bool). if b then rest else ask_unless_made x there o.name rest) made_is

  -- an output was asked for
  pub new_asked : (said log : List ℕ) (told now : Option Files) (result : Result (Unit {0}) Halt) → o.overwrites ≡ false → made o.name ≡ false
      → AsksNewOutput o.name said told result log now → AsksOutputs made (o ∷ []) said told result log now
  new_asked said log told now result is new (same, asks) = (
    same,
    answers_map told (λ answers. (rest : Plan) → Follows (ask_unless_made false answers o.name rest) (λ (_ : Unit {0}). rest) said told result log now)
        (λ there. (rest : Plan) → Follows (outputs_then made there (o ∷ []) rest) (λ (_ : Unit {0}). rest) said told result log now)
        (λ there h rest. subst (λ (s : Plan). Follows s (λ (_ : Unit {0}). rest) said told result log now) (sym (asked_plan false false there rest is new)) (h rest)) asks,
  )

  -- an output is made already
  pub made_twice : (said log : List ℕ) (told now : Option Files) (halt : Halt) → o.overwrites ≡ false → made o.name ≡ true → StopsAs ended.Exists (exists_line (table_file o.name)) said halt log → now ≡ told
      → AsksOutputs made (o ∷ []) said told (Err halt) log now
  made_twice said log told now halt is known ends same = (
    same,
    answers_all told (λ there. (rest : Plan) → HaltsPlan (outputs_then made there (o ∷ []) rest) said told halt log now)
        (λ there rest.
        subst (λ (s : Plan). HaltsPlan s said told halt log now) (sym (asked_plan false true there rest is known))
        (line_ends ended.Exists (exists_line (table_file o.name)) said told now halt log tt ends same)),
  )

-- a name that is not new was there
pub not_new : (is_new there : Bool) → is_new ≡ false → is_new ≡ not there → there ≡ true
not_new is_new true old is = refl
not_new is_new false old is = absurd (true_is_not_false (sym is ∙ old))
  where
    true_is_not_false : true ≡ false → ⊥
    true_is_not_false h = absurd (cc h)

-- there was no memory to ask
pub outputs_unasked : (made : List ℕ → Bool) (outputs : List OutputNamed) (said log : List ℕ) (told now : Option Files) (result : Result (Unit {0}) Halt) → IsErrAnd result (λ e. e ≡ OutOfMemory) → now ≡ told
    → AsksOutputs made outputs said told result log now
outputs_unasked made outputs said log told now result is same = (
  same,
  answers_all told (λ there. (rest : Plan) → Follows (outputs_then made there outputs rest) (λ (_ : Unit {0}). rest) said told result log now)
      (λ there rest. no_memory (outputs_then made there outputs rest) (λ (_ : Unit {0}). rest) said log told now result is same),
)

-- ---- outputs one behind the other

-- what is asked of outputs is asked of parts of them
pub asked_in_parts : (made : List ℕ → Bool) (there : Presence) (some others : List OutputNamed) (rest : Plan)
    → outputs_then made there (some ++ others) rest ≡ outputs_then made there some (outputs_then (made_behind made some) there others rest)
asked_in_parts made there [] others rest = refl
asked_in_parts made there (o ∷ some) others rest = ap (output_then made there o) (asked_in_parts (made_too o made) there some others rest)

-- answers agree on the files of outputs that are not made before
abbrev AgreeOnNew : (List ℕ → Bool) → Presence → Presence → List OutputNamed → Type 0
AgreeOnNew made there other outputs = AllByRecursion (λ (o : OutputNamed). made o.name ≡ false → there (table_file o.name) ≡ other (table_file o.name)) outputs

left_false : (a b : Bool) → (a || b) ≡ false → a ≡ false
left_false true b h = absurd (cc h)
left_false false b h = refl

right_false : (a b : Bool) → (a || b) ≡ false → b ≡ false
right_false true b h = absurd (cc h)
right_false false b h = h

agree_behind : (made : List ℕ → Bool) (there other : Presence) (o : OutputNamed) (outputs : List OutputNamed) → AgreeOnNew made there other outputs → AgreeOnNew (made_too o made) there other outputs
agree_behind made there other o [] agree = tt
agree_behind made there other o (p ∷ outputs) (first, agree) = (λ h. first (right_false (bytes_eq o.name p.name) (made p.name) h), agree_behind made there other o outputs agree)

same_ask : (made : List ℕ → Bool) (there other : Presence) (o : OutputNamed) (rest : Plan) → (made o.name ≡ false → there (table_file o.name) ≡ other (table_file o.name))
    → output_then made there o rest ≡ output_then made other o rest
same_ask made there other o rest agree = ap (λ (s : Plan). if o.overwrites then rest else s) (by (made o.name) refl)
  where
    by : (c : Bool) → made o.name ≡ c → ask_unless_made c there o.name rest ≡ ask_unless_made c other o.name rest
    by true e = refl
    by false e = ap (λ (b : Bool). AsksFor (table_file o.name) (unless_there b o.name rest)) (agree e)

-- what is asked depends on these answers alone
same_asks : (made : List ℕ → Bool) (there other : Presence) (outputs : List OutputNamed) (rest : Plan) → AgreeOnNew made there other outputs → outputs_then made there outputs rest ≡ outputs_then made other outputs rest
same_asks made there other [] rest agree = refl
same_asks made there other (o ∷ outputs) rest (first, agree) =
    ap (output_then made there o) (same_asks (made_too o made) there other outputs rest (agree_behind made there other o outputs agree))
    ∙ same_ask made there other o (outputs_then (made_too o made) other outputs rest) first

-- a file is that of one of these outputs
abbrev is_file_among : List OutputNamed → List ℕ → Bool
is_file_among outputs file = list_any (λ (o : OutputNamed). bytes_eq (table_file o.name) file) outputs

-- the answers to some questions, and others to the rest
abbrev answers_of : List OutputNamed → Presence → Presence → Presence
answers_of outputs first others file = if is_file_among outputs file then first file else others file

told_by_both : (told : Option Files) (outputs : List OutputNamed) (first others : Presence) → IfSome told (λ files. (name : List ℕ) → first name ≡ present_in files name)
    → IfSome told (λ files. (name : List ℕ) → others name ≡ present_in files name) → IfSome told (λ files. (name : List ℕ) → answers_of outputs first others name ≡ present_in files name)
told_by_both None outputs first others a b = tt
told_by_both (Some files) outputs first others a b = λ name. by (is_file_among outputs name) name
  where
    by : (e : Bool) (name : List ℕ) → (if e then first name else others name) ≡ present_in files name
    by true name = a name
    by false name = b name

or_true : (a b : Bool) → b ≡ true → (a || b) ≡ true
or_true true b h = refl
or_true false b h = h

-- the first answers stand for outputs among them
agree_first : (made : List ℕ → Bool) (first others : Presence) (all outputs : List OutputNamed) → AllByRecursion (λ (o : OutputNamed). is_file_among all (table_file o.name) ≡ true) outputs
    → AgreeOnNew made (answers_of all first others) first outputs
agree_first made first others all [] among = tt
agree_first made first others all (o ∷ outputs) (is, among) =
    (λ h. ap (λ (b : Bool). if b then first (table_file o.name) else others (table_file o.name)) is, agree_first made first others all outputs among)

among_more : (o : OutputNamed) (all outputs : List OutputNamed) → AllByRecursion (λ (p : OutputNamed). is_file_among all (table_file p.name) ≡ true) outputs
    → AllByRecursion (λ (p : OutputNamed). is_file_among (o ∷ all) (table_file p.name) ≡ true) outputs
among_more o all [] among = tt
among_more o all (p ∷ outputs) (is, among) = (or_true (bytes_eq (table_file o.name) (table_file p.name)) (is_file_among all (table_file p.name)) is, among_more o all outputs among)

among_all : (outputs : List OutputNamed) → AllByRecursion (λ (o : OutputNamed). is_file_among outputs (table_file o.name) ≡ true) outputs
among_all [] = tt
among_all (o ∷ outputs) = (ap (λ (b : Bool). b || is_file_among outputs (table_file o.name)) (own_name (table_file o.name)), among_more o outputs outputs (among_all outputs))

true_is_false : true ≡ false → ⊥
true_is_false is = absurd (cc)

-- tables of other names have other files
other_file : (a b : List ℕ) → bytes_eq a b ≡ false → (c : Bool) → c ≡ false → (bytes_eq (table_file a) (table_file b) || c) ≡ false
other_file a b differ c is = by (bytes_eq (table_file a) (table_file b)) refl
  where
    by : (e : Bool) → bytes_eq (table_file a) (table_file b) ≡ e → (e || c) ≡ false
    by true e = absurd (true_is_false (sym ((bytes_eq-Decides a b).1 (append_cancel_right a b (codes ".csv") ((bytes_eq-Decides (table_file a) (table_file b)).0 e))) ∙ differ))
    by false e = is

-- a name that is not made behind outputs is none of theirs
none_of : (made : List ℕ → Bool) (outputs : List OutputNamed) (name : List ℕ) → made_behind made outputs name ≡ false → (made name ≡ false) × (is_file_among outputs (table_file name) ≡ false)
none_of made [] name h = (h, refl)
none_of made (o ∷ outputs) name h =
    let later = none_of (made_too o made) outputs name h in
    let differ : bytes_eq o.name name ≡ false = left_false (bytes_eq o.name name) (made name) later.0 in
    (right_false (bytes_eq o.name name) (made name) later.0, other_file o.name name differ (is_file_among outputs (table_file name)) later.1)

-- the other answers stand for outputs that are not made behind the first ones
agree_others : (made : List ℕ → Bool) (first others : Presence) (some outputs : List OutputNamed) → AgreeOnNew (made_behind made some) (answers_of some first others) others outputs
agree_others made first others some [] = tt
agree_others made first others some (o ∷ outputs) = (
  λ h. ap (λ (b : Bool). if b then first (table_file o.name) else others (table_file o.name)) (none_of made some o.name h).1,
  agree_others made first others some outputs,
)

-- outputs were asked for, and then those behind them
pub asks_then : (made behind : List ℕ → Bool) (some others : List OutputNamed) (said text log : List ℕ) (told between now : Option Files) (result : Result (Unit {0}) Halt)
    → ((name : List ℕ) → behind name ≡ made_behind made some name)
    → AsksOutputs made some said told (Ok tt) text between → AsksOutputs behind others text between result log now → AsksOutputs made (some ++ others) said told result log now
asks_then made behind some others said text log told between now result behind_is (same, first) (unchanged, second) =
    let there : Presence = answers_of some first.there second.there in (
      unchanged ∙ same,
      record {
        there = there;
        told_is = told_by_both told some first.there second.there first.told_is
            (subst (λ (t : Option Files). IfSome t (λ files. (name : List ℕ) → second.there name ≡ present_in files name)) same second.told_is);
        holds = λ rest.
            let behind_them : Plan = outputs_then (made_behind made some) there others rest in
            let whole : outputs_then made there (some ++ others) rest ≡ outputs_then made first.there some behind_them =
            asked_in_parts made there some others rest ∙ same_asks made there first.there some behind_them (agree_first made first.there second.there some some (among_all some)) in
            let later : outputs_then behind second.there others rest ≡ behind_them =
            (λ i. outputs_then (λ name. behind_is name i) second.there others rest)
            ∙ sym (same_asks (made_behind made some) there second.there others rest (agree_others made first.there second.there some others)) in
            subst (λ (s : Plan). Follows s (λ (_ : Unit {0}). rest) said told result log now) (sym whole)
            (does_on (outputs_then made first.there some behind_them) behind_them (λ (_ : Unit {0}). rest) said text told between result log now (first.holds behind_them)
            (subst (λ (s : Plan). Follows s (λ (_ : Unit {0}). rest) text between result log now) later (second.holds rest)));
      },
    )

-- the questions have ended the command
pub asks_halt : (made : List ℕ → Bool) (some others : List OutputNamed) (said log : List ℕ) (told now : Option Files) (halt : Halt) (result : Result (Unit {0}) Halt) → IsErrAnd result (λ e. e ≡ halt)
    → AsksOutputs made some said told (Err halt) log now → AsksOutputs made (some ++ others) said told result log now
asks_halt made some others said log told now halt (Ok value) is (same, asks) = absurd is
asks_halt made some others said log told now halt (Err e) is (same, asks) = (
  same,
  answers_map told (λ there. (rest : Plan) → HaltsPlan (outputs_then made there some rest) said told halt log now)
      (λ there. (rest : Plan) → HaltsPlan (outputs_then made there (some ++ others) rest) said told e log now)
      (λ there h rest.
      subst (λ (s : Plan). HaltsPlan s said told e log now) (sym (asked_in_parts made there some others rest))
      (subst (λ (x : Halt). HaltsPlan (outputs_then made there some (outputs_then (made_behind made some) there others rest)) said told x log now) (sym is)
      (h (outputs_then (made_behind made some) there others rest)))) asks,
)

-- no outputs are left
pub asks_none : (made : List ℕ → Bool) (said : List ℕ) (told : Option Files) → AsksOutputs made [] said told (Ok tt) said told
asks_none made said told = (refl, answers_all told (λ there. (rest : Plan) → LeadsOn rest rest said told said told) (λ there rest. leads_none rest said told))

pub made_in_parts : (made : List ℕ → Bool) (some others : List OutputNamed) (name : List ℕ) → made_behind made (some ++ others) name ≡ made_behind (made_behind made some) others name
made_in_parts made [] others name = refl
made_in_parts made (o ∷ some) others name = made_in_parts (made_too o made) some others name

-- outputs that were asked for so far, with the names that are made; others are left
pub record AskedSoFar (made : List ℕ → Bool) (all left : List OutputNamed) (said : List ℕ) (told : Option Files) (now_made : List ℕ → Bool) (log : List ℕ) (now : Option Files) : Type 0 where
  pub done : List OutputNamed
  pub all_are : all ≡ done ++ left
  pub asks : AsksOutputs made done said told (Ok tt) log now
  pub made_are : (name : List ℕ) → now_made name ≡ made_behind made done name

pub asking_begins : (made now_made : List ℕ → Bool) (all : List OutputNamed) (said : List ℕ) (told : Option Files) → ((name : List ℕ) → now_made name ≡ made name) → AskedSoFar made all all said told now_made said told
asking_begins made now_made all said told is = record { done = []; all_are = refl; asks = asks_none made said told; made_are = is }

-- some more outputs were asked for
pub asked_more : (made before behind : List ℕ → Bool) (all left some after : List OutputNamed) (said text log : List ℕ) (told between now : Option Files) → left ≡ some ++ after
    → AskedSoFar made all left said told before text between → AsksOutputs before some text between (Ok tt) log now → ((name : List ℕ) → behind name ≡ made_behind before some name)
    → AskedSoFar made all after said told behind log now
asked_more made before behind all left some after said text log told between now left_is so_far asks behind_is =
    record {
      done = so_far.done ++ some;
      all_are = so_far.all_are ∙ ap (λ (x : List OutputNamed). so_far.done ++ x) left_is ∙ sym (append_assoc so_far.done some after);
      asks = asks_then made before so_far.done some said text log told between now (Ok tt) so_far.made_are so_far.asks asks;
      made_are = λ name.
          behind_is name
          ∙ (λ i. made_behind (λ other. so_far.made_are other i) some name)
          ∙ sym (made_in_parts made so_far.done some name);
    }

-- the questions for more outputs have ended the command
pub asking_halts : (made before : List ℕ → Bool) (all left some after : List OutputNamed) (said text log : List ℕ) (told between now : Option Files) (halt : Halt) (result : Result (Unit {0}) Halt) → IsErrAnd result (λ e. e ≡ halt)
    → left ≡ some ++ after → AskedSoFar made all left said told before text between → AsksOutputs before some text between (Err halt) log now → AsksOutputs made all said told result log now
asking_halts made before all left some after said text log told between now halt result is left_is so_far asks =
    let part : AsksOutputs made (so_far.done ++ some) said told (Err halt) log now = asks_then made before so_far.done some said text log told between now (Err halt) so_far.made_are so_far.asks asks in
    let all_are : all ≡ (so_far.done ++ some) ++ after = so_far.all_are ∙ ap (λ (x : List OutputNamed). so_far.done ++ x) left_is ∙ sym (append_assoc so_far.done some after) in
    subst (λ (os : List OutputNamed). AsksOutputs made os said told result log now) (sym all_are) (asks_halt made (so_far.done ++ some) after said log told now halt result is part)

-- all outputs were asked for
pub asked_all : (made now_made : List ℕ → Bool) (all left : List OutputNamed) (said log : List ℕ) (told now : Option Files) → left ≡ [] → AskedSoFar made all left said told now_made log now
    → AsksOutputs made all said told (Ok tt) log now
asked_all made now_made all left said log told now none so_far =
    let all_are : all ≡ so_far.done = so_far.all_are ∙ ap (λ (x : List OutputNamed). so_far.done ++ x) none ∙ append-nil so_far.done in
    subst (λ (os : List OutputNamed). AsksOutputs made os said told (Ok tt) log now) (sym all_are) so_far.asks

pub made_all : (made now_made : List ℕ → Bool) (all left : List OutputNamed) (said log : List ℕ) (told now : Option Files) → left ≡ [] → AskedSoFar made all left said told now_made log now
    → (name : List ℕ) → now_made name ≡ made_behind made all name
made_all made now_made all left said log told now none so_far name =
    let all_are : all ≡ so_far.done = so_far.all_are ∙ ap (λ (x : List OutputNamed). so_far.done ++ x) none ∙ append-nil so_far.done in
    so_far.made_are name ∙ ap (λ (os : List OutputNamed). made_behind made os name) (sym all_are)

-- ---- the outputs of a program, and of programs

module _ (made before : List ℕ → Bool) (all : List OutputNamed) (said text log : List ℕ) (told between now : Option Files) where
  -- an output of a program was asked for
  pub asked_output : (left after : List OutputPart) (o : OutputPart) (behind : List ℕ → Bool) → left ≡ o ∷ after → AskedSoFar made all (map output_named left) said told before text between
      → AsksOutputs before (output_named o ∷ []) text between (Ok tt) log now → ((name : List ℕ) → behind name ≡ made_behind before (output_named o ∷ []) name)
      → AskedSoFar made all (map output_named after) said told behind log now
  asked_output left after o behind is so_far asks behind_is =
      asked_more made before behind all (map output_named left) (output_named o ∷ []) (map output_named after) said text log told between now (ap (map output_named) is) so_far asks behind_is

  -- the question for it has ended the command
  pub output_halts : (left after : List OutputPart) (o : OutputPart) (halt : Halt) (result : Result (Unit {0}) Halt) → IsErrAnd result (λ e. e ≡ halt) → left ≡ o ∷ after
      → AskedSoFar made all (map output_named left) said told before text between → AsksOutputs before (output_named o ∷ []) text between (Err halt) log now → AsksOutputs made all said told result log now
  output_halts left after o halt result err is so_far asks =
      asking_halts made before all (map output_named left) (output_named o ∷ []) (map output_named after) said text log told between now halt result err (ap (map output_named) is) so_far asks

  -- the outputs of a program were asked for
  pub asked_program : (left after : List StagedParts) (code : StagedParts) (outputs : List OutputPart) (behind : List ℕ → Bool) → left ≡ code ∷ after → outputs ≡ code.program.outputs
      → AskedSoFar made all (flat_map outputs_of_code left) said told before text between → AsksOutputs before (map output_named outputs) text between (Ok tt) log now
      → ((name : List ℕ) → behind name ≡ made_behind before (map output_named outputs) name) → AskedSoFar made all (flat_map outputs_of_code after) said told behind log now
  asked_program left after code outputs behind is outputs_are so_far asks behind_is =
      asked_more made before behind all (flat_map outputs_of_code left) (map output_named outputs) (flat_map outputs_of_code after) said text log told between now
      (ap (flat_map outputs_of_code) is ∙ ap (λ (os : List OutputPart). map output_named os ++ flat_map outputs_of_code after) (sym outputs_are)) so_far asks behind_is

  -- the question for one of them has ended the command
  pub program_asks_halt : (left after : List StagedParts) (code : StagedParts) (outputs : List OutputPart) (halt : Halt) (result : Result (Unit {0}) Halt) → IsErrAnd result (λ e. e ≡ halt) → left ≡ code ∷ after
      → outputs ≡ code.program.outputs → AskedSoFar made all (flat_map outputs_of_code left) said told before text between → AsksOutputs before (map output_named outputs) text between (Err halt) log now
      → AsksOutputs made all said told result log now
  program_asks_halt left after code outputs halt result err is outputs_are so_far asks =
      asking_halts made before all (flat_map outputs_of_code left) (map output_named outputs) (flat_map outputs_of_code after) said text log told between now halt result err
      (ap (flat_map outputs_of_code) is ∙ ap (λ (os : List OutputPart). map output_named os ++ flat_map outputs_of_code after) (sym outputs_are)) so_far asks
