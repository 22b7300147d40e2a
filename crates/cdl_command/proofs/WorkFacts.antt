-- What each end of the work of a verb leaves.
use Rattle.std.proofs.Common.{◌<◌, ◌≡◌, ◌∙◌, ◌+◌, ℕ, ℤ, List, [], length, Option, None, Some, Ok, Err, refl, sym, subst, inl, inr, arith}
use Rattle.std.specs.Prelude.{MatchOption, OnOk, Result}
use Rattle.cdl_source.specs.Causes.{Rose}
use Rattle.cdl_source.specs.Outside.{written_after}
use Rattle.cdl_source.specs.Whole.{WritesSome}
use Rattle.cdl_connect.specs.declared.net.Net.{Net}
use Rattle.cdl_model.specs.NetOf.{NetOf}
use Rattle.cdl_model.specs.Parts.{Unfolding}
use Rattle.cdl_table.specs.declared.column.Column.{Column}
use Rattle.cdl_table.specs.TableRow.{TableRow}
use Rattle.cdl_trace.specs.declared.stop.TraceStop.{TraceStop}
use Rattle.cdl_trace.specs.declared.stop.TraceStop.TheVariants as trace
use Rattle.cdl_trace.specs.Columns.{input_columns, labelled as net_labelled}
use Rattle.cdl_trace.specs.Ends.{Ends}
use Rattle.cdl_trace.specs.Prints.{FaultIsAnswered as TraceFaultIsAnswered, Prints, PrintsSome, Stops as TraceStops}
use Rattle.cdl_job.specs.Job.{Task}
use Rattle.cdl_job.specs.Outcome.{models_of}
use Rattle.cdl_job.specs.declared.outcome.Outcome.{Outcome}
use Rattle.cdl_job.specs.declared.outcome.Outcome.TheVariants.{Done, Refused, ReadFault, WriteFault, OutOfMemory}
use Rattle.cdl_job.specs.declared.outcome.Spot.{Spot}
use Rattle.cdl_command.specs.Answer.{Answers, GrewBySome, IsAtSpot, built, job_refused}
use Rattle.cdl_command.specs.Documents.{document_text}
use Rattle.cdl_command.specs.Sequences.{Sequence, IsAccepted, labelled}
use Rattle.cdl_command.specs.Tables.{HoldsRows, BreaksTable}
use Rattle.cdl_command.specs.Texts.{Contents}
use Rattle.cdl_command.specs.Top.{Works, BeginsInOrder}
use Rattle.cdl_command.specs.Verdict.{ForCheck, ForDocument, ForRun, Work, Verdict, InOrder, broken, checked, documented, long_document, table_rule, ran, checked_text, models, the_table, all_models, outcome_of}
use Rattle.cdl_command.specs.inner.Documents.{HasText, RefusesDocument}
use Rattle.cdl_command.specs.inner.Plans.{Halts, HasNet, Refuses}
use Rattle.cdl_command.specs.inner.Reads.{RefusesTable}
use Rattle.cdl_command.specs.inner.Stops.{FaultIsAnswered, Stops, end_of, ended_of, plain_end, stop_of}
use Rattle.cdl_command.specs.declared.stop.Refusal.{Refusal}
use Rattle.cdl_command.specs.declared.stop.Stop.{Stop}
use Rattle.cdl_command.specs.declared.stop.Stop.TheVariants as stop

-- ---- a task and its work

answers : (task : Task) (contents : Contents) (work : Work) (outcome : Outcome) (text : List ℕ) → built task ≡ Some work → Verdict contents work outcome text → Answers task contents outcome text
answers task contents work outcome text is v =
    subst (λ o. MatchOption o ((outcome ≡ job_refused) × (text ≡ [])) (λ k. Verdict contents k outcome text)) (sym is) v

begins : (task : Task) (contents : Contents) (work : Work) (before now count : ℕ) → built task ≡ Some work → now ≡ before + count → InOrder contents work count → BeginsInOrder task contents before now
begins task contents work before now count is begun order =
    subst (λ o. MatchOption o (now ≡ before) (λ k. (n : ℕ) × (now ≡ before + n) × InOrder contents k n)) (sym is) (count, begun, order)

-- the models of the work are those of the task
pub record IsWork (task : Task) (work : Work) : Type 0 where
  pub is : built task ≡ Some work
  pub models : models_of task ≡ work.sequence.models

-- ---- a refusal before the ticks

abbrev RefusesWork : Contents → Work → Refusal → Type 0
RefusesWork contents work r = Verdict contents work (Refused r.rule r.spot) [] × IsAtSpot work.sequence.models contents r.spot r.line r.column

stopped : (task : Task) (contents : Contents) (work : Work) (before now count : ℕ) (here rr wr : Type 0) (P : Refusal → Type 0) (s : Stop) (old : Option (List ℕ)) → IsWork task work → (here → rr)
    → ((r : Refusal) → P r → RefusesWork contents work r) → now ≡ before + count → InOrder contents work count → Stops here P s → Works task contents before now rr wr (end_of s) old old
stopped task contents work before now count here rr wr P (stop.Refused r) old w up k begun order h =
    let v = k r h in
    record {
      out = (answers task contents work (Refused r.rule r.spot) [] w.is v.0, refl);
      at = subst (λ names. IsAtSpot names contents r.spot r.line r.column) (sym w.models) v.1;
      read = λ is. absurd (cc is);
      write = λ is. absurd (cc is);
      begun = begins task contents work before now count w.is begun order;
    }
stopped task contents work before now count here rr wr P (stop.RangeFault time path) old w up k begun order h = absurd h
stopped task contents work before now count here rr wr P stop.ReadFault old w up k begun order h =
    record { out = refl; at = tt; read = λ is. up h; write = λ is. absurd (cc is); begun = begins task contents work before now count w.is begun order }
stopped task contents work before now count here rr wr P stop.WriteFault old w up k begun order h = absurd h
stopped task contents work before now count here rr wr P stop.OutOfMemory old w up k begun order h =
    record { out = inl refl; at = tt; read = λ is. absurd (cc is); write = λ is. absurd (cc is); begun = begins task contents work before now count w.is begun order }

-- the sequence is refused, or was not read whole
pub halted : (task : Task) (contents : Contents) (work : Work) (before now : ℕ) (rr wr : Type 0) (s : Stop) (old : Option (List ℕ)) → IsWork task work → Halts contents work.sequence before now rr s
    → Works task contents before now rr wr (end_of s) old old
halted task contents work before now rr wr s old w h =
    stopped task contents work before now h.count rr rr wr (Refuses contents work.sequence) s old w (λ r. r) (λ r x. (broken x.0, x.1)) h.begun (models h.turn) h.cause

-- ---- behind the models

pub accepted : (contents : Contents) (s : Sequence) (n : Net) (h : HasNet contents s n) → IsAccepted contents s h.net_is.expansion
accepted contents s n h = record { model = h.model; read = h.read; expanded = h.net_is.expanded; accepted = h.net_is.accepted }

models_begun : (task : Task) (contents : Contents) (work : Work) (n : Net) (before now : ℕ) → IsWork task work → HasNet contents work.sequence n → now ≡ before + length work.sequence.models
    → BeginsInOrder task contents before now
models_begun task contents work n before now w h begun =
    begins task contents work before now (length work.sequence.models) w.is begun (models (all_models h.read.trees h.read.read))

pub no_memory : (task : Task) (contents : Contents) (work : Work) (n : Net) (before now : ℕ) (rr wr : Type 0) (old : Option (List ℕ)) → IsWork task work → HasNet contents work.sequence n
    → now ≡ before + length work.sequence.models → Works task contents before now rr wr (plain_end OutOfMemory) old old
no_memory task contents work n before now rr wr old w h begun =
    record { out = inl refl; at = tt; read = λ is. absurd (cc is); write = λ is. absurd (cc is); begun = models_begun task contents work n before now w h begun }

-- ---- a text that is printed

pub check_done : (contents : Contents) (work : Work) (n : Net) → work.ask ≡ ForCheck → HasNet contents work.sequence n → Verdict contents work Done checked_text
check_done contents work n is h = checked h.net_is.expansion (accepted contents work.sequence n h) is

pub document_done : (contents : Contents) (work : Work) (n : Net) (text : List ℕ) → work.ask ≡ ForDocument → HasNet contents work.sequence n → HasText n text → Verdict contents work Done text
document_done contents work n text is h t =
    documented h.net_is.expansion (accepted contents work.sequence n h) is (record { net = n; net_is = h.net_is.stands.net; text_is = t.text_is }) t.short

pub ok : (task : Task) (contents : Contents) (work : Work) (n : Net) (text : List ℕ) (before now : ℕ) (rr wr : Type 0) (old new : Option (List ℕ)) → IsWork task work → Verdict contents work Done text → HasNet contents work.sequence n
    → now ≡ before + length work.sequence.models → new ≡ written_after old text → Works task contents before now rr wr (plain_end Done) old new
ok task contents work n text before now rr wr old new w v h begun wrote =
    record {
      out = (text, answers task contents work Done text w.is v, wrote);
      at = tt;
      read = λ is. absurd (cc is);
      write = λ is. absurd (cc is);
      begun = models_begun task contents work n before now w h begun;
    }

pub not_ok : (task : Task) (contents : Contents) (work : Work) (n : Net) (text : List ℕ) (before now : ℕ) (rr wr : Type 0) (old new : Option (List ℕ)) → IsWork task work → Verdict contents work Done text → HasNet contents work.sequence n
    → now ≡ before + length work.sequence.models → WritesSome old new text → wr → Works task contents before now rr wr (plain_end WriteFault) old new
not_ok task contents work n text before now rr wr old new w v h begun some rose =
    record {
      out = inr (record {
        outcome = Done;
        text = text;
        answer = answers task contents work Done text w.is v;
        some = some;
      });
      at = tt;
      read = λ is. absurd (cc is);
      write = λ is. rose;
      begun = models_begun task contents work n before now w h begun;
    }

-- ---- a document that is too long

refused_document : (contents : Contents) (work : Work) (u : Unfolding) (n : Net) → IsAccepted contents work.sequence u → work.ask ≡ ForDocument → NetOf u n → (r : Refusal)
    → RefusesDocument n r → RefusesWork contents work r
refused_document contents work u n a is net r h =
    subst (RefusesWork contents work) (sym h.refusal_is) (
      long_document u (document_text n) a is (record { net = n; net_is = net; text_is = refl }) h.long,
      tt,
    )

pub at_document : (task : Task) (contents : Contents) (work : Work) (n : Net) (before now : ℕ) (rr wr : Type 0) (s : Stop) (old : Option (List ℕ)) → IsWork task work → work.ask ≡ ForDocument
    → HasNet contents work.sequence n → now ≡ before + length work.sequence.models → Stops ⊥ (RefusesDocument n) s → Works task contents before now rr wr (end_of s) old old
at_document task contents work n before now rr wr s old w is h begun cause =
    stopped task contents work before now (length work.sequence.models) ⊥ rr wr (RefusesDocument n) s old w (λ none. absurd none)
    (refused_document contents work h.net_is.expansion n (accepted contents work.sequence n h) is h.net_is.stands.net) begun (models (all_models h.read.trees h.read.read)) cause

-- ---- a stop at the table

-- a spot of a table is no place of a text
no_line : (contents : Contents) (names : List (List ℕ)) (inputs : List Column) (bytes : List ℕ) (rule : ℕ) (spot : Spot) → BreaksTable inputs bytes rule spot → IsAtSpot names contents spot 1 1
no_line contents names inputs bytes rule spot b = elim b.first [
  | inl long ↦ subst (λ s. IsAtSpot names contents s 1 1) (sym long.2) tt
  | inr cell ↦ subst (λ s. IsAtSpot names contents s 1 1) (sym cell.spot_is) tt
]

refused_table : (contents : Contents) (work : Work) (u : Unfolding) (table : List ℕ) → IsAccepted contents work.sequence u → work.ask ≡ ForRun table → (r : Refusal)
    → RefusesTable contents table (input_columns (labelled u)) r → RefusesWork contents work r
refused_table contents work u table a is r h =
    subst (RefusesWork contents work) (sym h.refusal_is) (
      table_rule u table h.bytes a is h.holds h.broken,
      no_line contents work.sequence.models (input_columns (labelled u)) h.bytes h.rule h.spot h.broken,
    )

-- what was known of the columns of the net and of what the files held then
abbrev AtTable : List ℕ → Type 0 → Stop → Contents → List Column → Type 0
AtTable table here s contents inputs = Stops here (RefusesTable contents table inputs) s

pub at_table : (task : Task) (contents kept : Contents) (work : Work) (n : Net) (table : List ℕ) (inputs : List Column) (before mid now : ℕ) (here rr wr : Type 0) (s : Stop) (old : Option (List ℕ))
    → IsWork task work → work.ask ≡ ForRun table → HasNet contents work.sequence n → kept ≡ contents → inputs ≡ input_columns (net_labelled n) → mid ≡ before + length work.sequence.models → now ≡ mid + 1
    → (here → rr) → Stops here (RefusesTable kept table inputs) s → Works task contents before now rr wr (end_of s) old old
at_table task contents kept work n table inputs before mid now here rr wr s old w is h same columns begun one up cause =
    let u = h.net_is.expansion in
    let a = accepted contents work.sequence n h in
    let e : inputs ≡ input_columns (labelled u) = columns ∙ h.net_is.stands.inputs in
    stopped task contents work before now (length work.sequence.models + 1) here rr wr (RefusesTable contents table (input_columns (labelled u))) s old w up
    (refused_table contents work u table a is) (omega (arith, begun, one)) (the_table u table a is)
    (subst (AtTable table here s contents) e (subst (λ c. AtTable table here s c inputs) same cause))

-- ---- the ticks

-- what is known behind the table
pub record Runs (task : Task) (contents : Contents) (work : Work) (n : Net) (table : List ℕ) (rows : List TableRow) (before now : ℕ) : Type 0 where
  pub work_is : IsWork task work
  pub table_is : work.ask ≡ ForRun table
  pub net : HasNet contents work.sequence n
  pub rows_are : HoldsRows contents table (input_columns (labelled net.net_is.expansion)) rows
  pub begun : BeginsInOrder task contents before now

pub runs : (task : Task) (contents kept : Contents) (work : Work) (n : Net) (table : List ℕ) (inputs : List Column) (rows : List TableRow) (before mid now : ℕ) → IsWork task work → work.ask ≡ ForRun table
    → HasNet contents work.sequence n → kept ≡ contents → inputs ≡ input_columns (net_labelled n) → mid ≡ before + length work.sequence.models → now ≡ mid + 1 → HoldsRows kept table inputs rows
    → Runs task contents work n table rows before now
runs task contents kept work n table inputs rows before mid now w is h same columns begun one held =
    let u = h.net_is.expansion in
    let e : inputs ≡ input_columns (labelled u) = columns ∙ h.net_is.stands.inputs in
    record {
      work_is = w;
      table_is = is;
      net = h;
      rows_are = subst (λ cs. HoldsRows contents table cs rows) e (subst (λ c. HoldsRows c table inputs rows) same held);
      begun = begins task contents work before now (length work.sequence.models + 1) w.is (omega (arith, begun, one)) (the_table u table (accepted contents work.sequence n h) is);
    }

-- the answer of ticks that end so
ends_so : (task : Task) (contents : Contents) (work : Work) (n : Net) (table : List ℕ) (rows : List TableRow) (before now : ℕ) (fault : Option (ℤ × List ℕ)) (text : List ℕ)
    → Runs task contents work n table rows before now → Ends (net_labelled n) rows fault text → Answers task contents (outcome_of fault) text
ends_so task contents work n table rows before now fault text r e =
    let i = r.net.net_is in
    answers task contents work (outcome_of fault) text r.work_is.is
    (ran i.expansion table rows fault (accepted contents work.sequence n r.net) r.table_is r.rows_are (i.stands.ends rows fault text e) refl)

grew : (task : Task) (contents : Contents) (work : Work) (n : Net) (table : List ℕ) (rows : List TableRow) (before now : ℕ) (old new : Option (List ℕ))
    → Runs task contents work n table rows before now → PrintsSome (net_labelled n) rows old new → GrewBySome task contents old new
grew task contents work n table rows before now old new r p =
    inr (record {
      outcome = outcome_of p.fault;
      text = p.text;
      answer = ends_so task contents work n table rows before now p.fault p.text r p.ends;
      some = p.some;
    })

pub ran_through : (task : Task) (contents : Contents) (work : Work) (n : Net) (table : List ℕ) (rows : List TableRow) (before now : ℕ) (rr wr : Type 0) (old new : Option (List ℕ))
    → Runs task contents work n table rows before now → Prints (net_labelled n) rows None old new → Works task contents before now rr wr (plain_end Done) old new
ran_through task contents work n table rows before now rr wr old new r p =
    record {
      out = (p.text, ends_so task contents work n table rows before now None p.text r p.ends, p.written);
      at = tt;
      read = λ is. absurd (cc is);
      write = λ is. absurd (cc is);
      begun = r.begun;
    }

pub cut_off : (task : Task) (contents : Contents) (work : Work) (n : Net) (table : List ℕ) (rows : List TableRow) (before now here after : ℕ) (rr : Type 0) (s : TraceStop) (old new : Option (List ℕ))
    → Runs task contents work n table rows before now → TraceStops (net_labelled n) rows old new s → TraceFaultIsAnswered {T = Unit {0}} here after (Err s)
    → Works task contents before now rr (Rose here after) (end_of (stop_of s)) old new
cut_off task contents work n table rows before now here after rr (trace.RangeFault time path) old new r p f =
    record {
      out = (p.text, ends_so task contents work n table rows before now (Some (time, path)) p.text r p.ends, p.written);
      at = tt;
      read = λ is. absurd (cc is);
      write = λ is. absurd (cc is);
      begun = r.begun;
    }
cut_off task contents work n table rows before now here after rr trace.WriteFault old new r p f =
    record { out = grew task contents work n table rows before now old new r p; at = tt; read = λ is. absurd (cc is); write = λ is. f; begun = r.begun }
cut_off task contents work n table rows before now here after rr trace.OutOfMemory old new r p f =
    record { out = grew task contents work n table rows before now old new r p; at = tt; read = λ is. absurd (cc is); write = λ is. absurd (cc is); begun = r.begun }

-- ---- faults are answered

-- where the count of the files rose, the stop was a fault of theirs
pub fault_told : (before now : ℕ) (s : Stop) → FaultIsAnswered before now s → before < now → (end_of s).outcome ≡ ReadFault
fault_told before now (stop.Refused r) same rose = absurd (omega (arith, same, rose))
fault_told before now (stop.RangeFault time path) same rose = absurd (omega (arith, same, rose))
fault_told before now stop.ReadFault same rose = refl
fault_told before now stop.WriteFault same rose = absurd (omega (arith, same, rose))
fault_told before now stop.OutOfMemory same rose = absurd (omega (arith, same, rose))

-- where the count of standard output rose, the ticks stopped at a fault of it
pub write_told : (before now : ℕ) (s : TraceStop) → TraceFaultIsAnswered {T = Unit {0}} before now (Err s) → before < now → (end_of (stop_of s)).outcome ≡ WriteFault
write_told before now (trace.RangeFault time path) same rose = absurd (omega (arith, same, rose))
write_told before now trace.WriteFault same rose = refl
write_told before now trace.OutOfMemory same rose = absurd (omega (arith, same, rose))

-- ---- what is done

not_done : (s : Stop) → (end_of s).outcome ≡ Done → ⊥
not_done (stop.Refused r) is = absurd (cc is)
not_done (stop.RangeFault time path) is = absurd (cc is)
not_done stop.ReadFault is = absurd (cc is)
not_done stop.WriteFault is = absurd (cc is)
not_done stop.OutOfMemory is = absurd (cc is)

-- what holds of work that went well holds where it ended Done
pub where_done : {T : Type 0} (r : Result T Stop) (P : Type 0) → OnOk r P → (ended_of r).outcome ≡ Done → P
where_done (Ok done) P h is = h
where_done (Err s) P h is = absurd (not_done s is)
