-- What stands once standard error was told.
use Rattle.std.proofs.Common.{◌≡◌, ◌⊎◌, ◌∙◌, ◌≤◌, ℕ, List, Option, Some, [], None, append-nil, length, refl, sym, ap, subst, inl, inr, arith}
use Rattle.std.proofs.lemmas.List.{take_all}
use Rattle.cdl_source.specs.Outside as outside
use Rattle.cdl_source.specs.Outside.{written_after}
use Rattle.cdl_job.specs.Job.{Task}
use Rattle.cdl_command.specs.Texts.{Contents}
use Rattle.cdl_command.specs.Answer.{Answers, GrewByAnswer, GrewBySome, OutAfter}
use Rattle.cdl_job.specs.Told.{Reports}
use Rattle.cdl_command.specs.Top.{OutAfterWords}
use Rattle.cdl_job.specs.declared.outcome.Outcome.{Outcome}
use Rattle.cdl_job.specs.declared.outcome.Outcome.TheVariants.{Done, Refused, Usage, RangeFault, ReadFault, WriteFault, OutOfMemory}

-- a whole text is a front of it
whole : (task : Task) (contents : Contents) (due : Outcome) (old new : Option (List ℕ)) → GrewByAnswer task contents due old new → GrewBySome task contents old new
whole task contents due old new o =
    let n : length o.0 ≤ length o.0 = omega arith in
    inr (record {
      outcome = due;
      text = o.0;
      answer = o.1;
      some = (length o.0, n, o.2 ∙ ap (written_after old) (sym (take_all (length o.0) o.0 n)));
    })

-- whatever was done, standard output grew by some of what is due to an answer
grew : (task : Task) (contents : Contents) (due : Outcome) (old new : Option (List ℕ)) → OutAfter task contents due old new → GrewBySome task contents old new
grew task contents Done old new o = whole task contents Done old new o
grew task contents (Refused rule spot) old new o = inl o.1
grew task contents (RangeFault time path) old new o = whole task contents (RangeFault time path) old new o
grew task contents Usage old new o = absurd o
grew task contents ReadFault old new o = inl o
grew task contents WriteFault old new o = o
grew task contents OutOfMemory old new o = o

-- A fault of standard output alone gives the outcome WriteFault; want of memory in place of a text is no fault.
pub after_report : (task : Task) (contents : Contents) (line column : ℕ) (due result : Outcome) (old new err_old err_new : Option (List ℕ)) (out_rose rose : Type 0)
    → Reports task line column due result err_old err_new rose → OutAfter task contents due old new → (due ≡ WriteFault → out_rose) → OutAfterWords (Some task) contents result old new out_rose rose
after_report task contents line column due result old new err_old err_new out_rose rose (inl (inl told)) o cause =
    inl (subst (λ d. OutAfter task contents d old new) (sym told.0) o, λ is. cause (sym told.0 ∙ is))
after_report task contents line column due result old new err_old err_new out_rose rose (inl (inr fault)) o cause = inr (fault.0, fault.1, (due, o))
after_report task contents line column due result old new err_old err_new out_rose rose (inr (m, inl told)) o cause =
    inl (subst (λ d. OutAfter task contents d old new) (sym told.0) (grew task contents due old new o), λ is. absurd (cc (told.0, is)))
after_report task contents line column due result old new err_old err_new out_rose rose (inr (m, inr fault)) o cause = inr (fault.0, fault.1, (due, o))

-- What ends Done was done.
pub due_is_done : (task : Task) (line column : ℕ) (due result : Outcome) (err_old err_new : Option (List ℕ)) (rose : Type 0) → Reports task line column due result err_old err_new rose
    → result ≡ Done → due ≡ Done
due_is_done task line column due result err_old err_new rose (inl (inl told)) done = sym told.0 ∙ done
due_is_done task line column due result err_old err_new rose (inl (inr fault)) done = absurd (cc (fault.0, done))
due_is_done task line column due result err_old err_new rose (inr (m, inl told)) done = absurd (cc (told.0, done))
due_is_done task line column due result err_old err_new rose (inr (m, inr fault)) done = absurd (cc (fault.0, done))

-- A fault of the files is told as one, unless standard error failed.
pub read_fault_told : (task : Task) (line column : ℕ) (due result : Outcome) (err_old err_new : Option (List ℕ)) (rose : Type 0) → Reports task line column due result err_old err_new rose
    → due ≡ ReadFault → (result ≡ ReadFault) ⊎ ((result ≡ WriteFault) × rose)
read_fault_told task line column ReadFault result err_old err_new rose (inl (inl told)) is = inl told.0
read_fault_told task line column ReadFault result err_old err_new rose (inl (inr fault)) is = inr (fault.0, fault.1)
read_fault_told task line column ReadFault result err_old err_new rose (inr (m, told)) is = absurd m
read_fault_told task line column Done result err_old err_new rose r is = absurd (cc is)
read_fault_told task line column (Refused rule spot) result err_old err_new rose r is = absurd (cc is)
read_fault_told task line column Usage result err_old err_new rose r is = absurd (cc is)
read_fault_told task line column (RangeFault time path) result err_old err_new rose r is = absurd (cc is)
read_fault_told task line column WriteFault result err_old err_new rose r is = absurd (cc is)
read_fault_told task line column OutOfMemory result err_old err_new rose r is = absurd (cc is)

-- A fault of standard output is told as one.
pub write_fault_told : (task : Task) (line column : ℕ) (due result : Outcome) (err_old err_new : Option (List ℕ)) (rose : Type 0) → Reports task line column due result err_old err_new rose
    → due ≡ WriteFault → result ≡ WriteFault
write_fault_told task line column WriteFault result err_old err_new rose (inl (inl told)) is = told.0
write_fault_told task line column WriteFault result err_old err_new rose (inl (inr fault)) is = fault.0
write_fault_told task line column WriteFault result err_old err_new rose (inr (m, told)) is = absurd m
write_fault_told task line column Done result err_old err_new rose r is = absurd (cc is)
write_fault_told task line column (Refused rule spot) result err_old err_new rose r is = absurd (cc is)
write_fault_told task line column Usage result err_old err_new rose r is = absurd (cc is)
write_fault_told task line column (RangeFault time path) result err_old err_new rose r is = absurd (cc is)
write_fault_told task line column ReadFault result err_old err_new rose r is = absurd (cc is)
write_fault_told task line column OutOfMemory result err_old err_new rose r is = absurd (cc is)

-- ---- the answer, where nothing failed

-- nothing more was written
pub same_as_none : (old new : Option (List ℕ)) → new ≡ old → new ≡ written_after old []
same_as_none None new e = e
same_as_none (Some x) new e = e ∙ ap (λ y. Some y) (sym (append-nil x))

-- what did not fail is the answer
due_answer : (task : Task) (contents : Contents) (due : Outcome) (old new : Option (List ℕ)) (read_rose out_rose : Type 0) → OutAfter task contents due old new → (due ≡ ReadFault → read_rose) → (due ≡ WriteFault → out_rose)
    → (read_rose → ⊥) → (out_rose → ⊥) → (due ≡ OutOfMemory → ⊥) → GrewByAnswer task contents due old new
due_answer task contents Done old new read_rose out_rose o r w f g m = o
due_answer task contents (Refused rule spot) old new read_rose out_rose o r w f g m = ([], o.0, same_as_none old new o.1)
due_answer task contents (RangeFault time path) old new read_rose out_rose o r w f g m = o
due_answer task contents Usage old new read_rose out_rose o r w f g m = absurd o
due_answer task contents ReadFault old new read_rose out_rose o r w f g m = absurd (f (r refl))
due_answer task contents WriteFault old new read_rose out_rose o r w f g m = absurd (g (w refl))
due_answer task contents OutOfMemory old new read_rose out_rose o r w f g m = absurd (m refl)

pub answered : (task : Task) (contents : Contents) (line column : ℕ) (due result : Outcome) (old new err_old err_new : Option (List ℕ)) (read_rose out_rose rose : Type 0)
    → Reports task line column due result err_old err_new rose → OutAfter task contents due old new → (due ≡ ReadFault → read_rose) → (due ≡ WriteFault → out_rose)
    → (read_rose → ⊥) → (out_rose → ⊥) → (rose → ⊥) → (result ≡ OutOfMemory → ⊥) → GrewByAnswer task contents result old new
answered task contents line column due result old new err_old err_new read_rose out_rose rose (inl (inl told)) o r w f g h m =
    subst (λ d. GrewByAnswer task contents d old new) (sym told.0) (due_answer task contents due old new read_rose out_rose o r w f g (λ is. m (told.0 ∙ is)))
answered task contents line column due result old new err_old err_new read_rose out_rose rose (inl (inr fault)) o r w f g h m = absurd (h fault.1)
answered task contents line column due result old new err_old err_new read_rose out_rose rose (inr (k, inl told)) o r w f g h m = absurd (m told.0)
answered task contents line column due result old new err_old err_new read_rose out_rose rose (inr (k, inr fault)) o r w f g h m = absurd (h fault.1)

abbrev OnlyAnswer : Task → outside.Contents → Type 0
OnlyAnswer task held = (a b : Outcome) (s t : List ℕ) → Answers task (Some held) a s → Answers task (Some held) b t → (a ≡ b) × (s ≡ t)

-- Where Done is the answer, it is given.
pub completes : (task other : Task) (contents : Contents) (held : outside.Contents) (result : Outcome) (text : List ℕ) (old new : Option (List ℕ)) → Some task ≡ Some other → contents ≡ Some held
    → OnlyAnswer other held → GrewByAnswer task contents result old new → Answers other (Some held) Done text → (result ≡ Done) × (new ≡ written_after old text)
completes task other contents held result text old new job told only a done =
    let same : task ≡ other = cc job in
    let here : Answers other (Some held) result a.0 = subst (λ t. Answers t (Some held) result a.0) same (subst (λ c. Answers task c result a.0) told a.1) in
    let e = only result Done a.0 text here done in
    (e.0, a.2 ∙ ap (written_after old) e.1)
