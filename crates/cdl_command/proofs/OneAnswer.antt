-- The answer to a job over told contents is the only one.
use Rattle.std.proofs.Common.{◌≡◌, ◌⊎◌, ◌∙◌, ◌≤◌, ◌<◌, ℕ, ℤ, List, [], length, arith, Option, None, Some, refl, sym, ap, subst, inl, inr}
use Rattle.std.specs.Prelude.{MatchOption}
use Rattle.cdl_source.specs.Outside as outside
use Rattle.cdl_source.specs.declared.limits.TheConstants.{LONGEST_DOCUMENT}
use Rattle.cdl_source.specs.declared.place.Place.{Place}
use Rattle.cdl_source.specs.declared.rules.TheConstants.{NO_SUCH_BLOCK}
use Rattle.cdl_tree.specs.declared.class.FileTree.{FileTree}
use Rattle.cdl_scopes.specs.Classes.{cut, declared}
use Rattle.cdl_classes.specs.declared.found.ClassId.{ClassId}
use Rattle.cdl_classes.specs.Table.{block_of}
use Rattle.cdl_classes.specs.Verdict.{IsUnbroken, BreaksFirst as BreaksClasses}
use Rattle.cdl_params.specs.Kept.{Model}
use Rattle.cdl_paths.specs.declared.path.Step.{Step}
use Rattle.cdl_walk.specs.Texts.{path_text}
use Rattle.cdl_network.specs.FirstBroken.{Accepted}
use Rattle.cdl_connect.specs.declared.net.Net.{Net}
use Rattle.cdl_connect.specs.declared.net.NetElement.{NetElement}
use Rattle.cdl_connect.specs.declared.net.NetInstance.{NetInstance}
use Rattle.cdl_connect.specs.declared.net.RawWire.{RawWire}
use Rattle.cdl_model.specs.NetOf.{NetOf}
use Rattle.cdl_model.specs.Networks.{network}
use Rattle.cdl_model.specs.Parts.{Unfolding}
use Rattle.cdl_expand.specs.Expanded.{BreaksInstance, BreaksStatement, HasInstances, IsExpanded}
use Rattle.cdl_check.specs.Broken.{BreaksFirst as BreaksNetwork}
use Rattle.cdl_check.specs.declared.fault.NetSpot.{NetSpot}
use Rattle.cdl_check.proofs.FirstRule.{not_accepted, one_rule}
use Rattle.cdl_table.specs.TableRow.{TableRow}
use Rattle.cdl_trace.specs.Columns.{input_columns}
use Rattle.cdl_trace.specs.Ends.{Ends}
use Rattle.cdl_trace.proofs.Traces.{one_trace}
use Rattle.cdl_job.specs.Job.{Task}
use Rattle.cdl_job.specs.declared.outcome.Outcome.{Outcome}
use Rattle.cdl_job.specs.declared.outcome.Outcome.TheVariants.{Refused}
use Rattle.cdl_job.specs.declared.outcome.Spot.{Spot}
use Rattle.cdl_job.specs.declared.outcome.Spot.TheVariants.{Source, Path, Statement}
use Rattle.cdl_command.specs.Answer.{Answers, built, job_refused}
use Rattle.cdl_command.specs.Breaks.{Breaks, class_rule, instance_rule, network_rule, no_block, root_path, spot_of, statement_rule, text_rule}
use Rattle.cdl_command.specs.Documents.{IsDocument, document_text}
use Rattle.cdl_command.specs.Sequences.{AllRead, IsAccepted, IsRead, Sequence, element_path, labelled}
use Rattle.cdl_command.specs.Tables.{BreaksTable, HoldsRows, IsTableText}
use Rattle.cdl_command.specs.Texts.{Holds}
use Rattle.cdl_command.specs.Verdict.{Ask, ForCheck, ForDocument, ForRun, Verdict, Work, broken, checked, documented, long_document, outcome_of, ran, table_rule}
use Rattle.cdl_command.specs.inner.Plans.{model_of}
use Rattle.cdl_command.proofs.NetFacts.{same_model}
use Rattle.cdl_command.proofs.OneText.{BreaksAt, ParserLaws, broken_once, classes_once, not_read, not_unbroken, read_once}

-- what the expansion says of one model
pub record ModelLaws : Type 0 where
  pub expansion : (w : Model) (u v : Unfolding) → IsExpanded w u → IsExpanded w v → u ≡ v
  pub instance : (w : Model) (r s : ℕ) (p q : List Step) → BreaksInstance w r p → BreaksInstance w s q → (r ≡ s) × (p ≡ q)
  pub statement : (w : Model) (r s : ℕ) (p q : List Step) (a b : Place) → BreaksStatement w r p a → BreaksStatement w s q b → (r ≡ s) × (p ≡ q) × (a ≡ b)
  pub has_instances : (w : Model) (r : ℕ) (p : List Step) → HasInstances w → BreaksInstance w r p → ⊥
  pub is_expanded : (w : Model) (u : Unfolding) (r : ℕ) (p : List Step) (a : Place) → IsExpanded w u → BreaksStatement w r p a → ⊥

-- ---- a check: the first broken rule, or the model unfolded

data Check : Type 0 where
  Breach : ℕ → Spot → Check
  Fine : Unfolding → Check

-- what comes of a network, of statements, of a model, of a class and of all models: a rule of theirs, or what comes behind it
abbrev OfNetwork : Unfolding → Check → Type 0
OfNetwork u x =
    ((r : ℕ) × (place : NetSpot) × BreaksNetwork (network u) path_text element_path r place × (x ≡ Breach r (spot_of place)))
    ⊎ (Accepted (network u) × (x ≡ Fine u))

abbrev OfStatements : Model → Check → Type 0
OfStatements w x =
    ((r : ℕ) × (path : List Step) × (place : Place) × BreaksStatement w r path place × (x ≡ Breach r (Statement (path_text path) place)))
    ⊎ ((u : Unfolding) × IsExpanded w u × OfNetwork u x)

abbrev OfModel : Model → Check → Type 0
OfModel w x =
    ((r : ℕ) × (path : List Step) × BreaksInstance w r path × (x ≡ Breach r (Path (path_text path))))
    ⊎ (HasInstances w × OfStatements w x)

abbrev OfClass : List ℕ → List FileTree → Check → Type 0
OfClass class trees x =
    ((block_of (declared trees) (cut class) ≡ None) × (x ≡ Breach NO_SUCH_BLOCK root_path))
    ⊎ ((root : ClassId) × (block_of (declared trees) (cut class) ≡ Some root) × OfModel (model_of trees root) x)

abbrev OfTrees : List ℕ → List FileTree → Check → Type 0
OfTrees class trees x =
    ((r : ℕ) × (place : Place) × BreaksClasses (declared trees) r place × (x ≡ Breach r (Source place)))
    ⊎ (IsUnbroken (declared trees) × OfClass class trees x)

abbrev IsCheck : outside.Contents → Sequence → Check → Type 0
IsCheck c s x =
    ((r : ℕ) × (place : Place) × BreaksAt c s.models r place × (x ≡ Breach r (Source place)))
    ⊎ ((trees : List FileTree) × AllRead (Some c) s.models trees × OfTrees s.class trees x)

-- ---- there is one

breach_same : (r s : ℕ) (a b : Spot) → r ≡ s → a ≡ b → Breach r a ≡ Breach s b
breach_same r s a b e f = ap (λ k. Breach k a) e ∙ ap (Breach s) f

met : (x y a b : Check) → x ≡ a → y ≡ b → a ≡ b → x ≡ y
met x y a b e f g = e ∙ g ∙ sym f

network_once : (u : Unfolding) (x y : Check) → OfNetwork u x → OfNetwork u y → x ≡ y
network_once u x y (inl a) (inl b) =
    let o = one_rule (network u) path_text element_path a.0 b.0 a.1 b.1 a.2 b.2 in
    met x y _ _ a.3 b.3 (breach_same a.0 b.0 (spot_of a.1) (spot_of b.1) o.0 (ap spot_of o.1))
network_once u x y (inl a) (inr b) = absurd (not_accepted (network u) path_text element_path a.0 a.1 a.2 b.0)
network_once u x y (inr a) (inl b) = absurd (not_accepted (network u) path_text element_path b.0 b.1 b.2 a.0)
network_once u x y (inr a) (inr b) = a.1 ∙ sym b.1

statements_once : (k : ModelLaws) (w : Model) (x y : Check) → OfStatements w x → OfStatements w y → x ≡ y
statements_once k w x y (inl a) (inl b) =
    let o = k.statement w a.0 b.0 a.1 b.1 a.2 b.2 a.3 b.3 in
    met x y _ _ a.4 b.4
    (breach_same a.0 b.0 (Statement (path_text a.1) a.2) (Statement (path_text b.1) b.2) o.0 (ap (λ p. Statement (path_text p) a.2) o.1 ∙ ap (Statement (path_text b.1)) o.2))
statements_once k w x y (inl a) (inr b) = absurd (k.is_expanded w b.0 a.0 a.1 a.2 b.1 a.3)
statements_once k w x y (inr a) (inl b) = absurd (k.is_expanded w a.0 b.0 b.1 b.2 a.1 b.3)
statements_once k w x y (inr a) (inr b) =
    network_once b.0 x y (subst (λ u. OfNetwork u x) (k.expansion w a.0 b.0 a.1 b.1) a.2) b.2

model_once : (k : ModelLaws) (w : Model) (x y : Check) → OfModel w x → OfModel w y → x ≡ y
model_once k w x y (inl a) (inl b) =
    let o = k.instance w a.0 b.0 a.1 b.1 a.2 b.2 in
    met x y _ _ a.3 b.3 (breach_same a.0 b.0 (Path (path_text a.1)) (Path (path_text b.1)) o.0 (ap (λ p. Path (path_text p)) o.1))
model_once k w x y (inl a) (inr b) = absurd (k.has_instances w a.0 a.1 b.0 a.2)
model_once k w x y (inr a) (inl b) = absurd (k.has_instances w b.0 b.1 a.0 b.2)
model_once k w x y (inr a) (inr b) = statements_once k w x y a.1 b.1

none_some : (o : Option ClassId) (i : ClassId) → o ≡ None → o ≡ Some i → ⊥
none_some o i e f = absurd (cc (e, f))

same_root : (o : Option ClassId) (i j : ClassId) → o ≡ Some i → o ≡ Some j → i ≡ j
same_root o i j e f = cc

class_once : (k : ModelLaws) (class : List ℕ) (trees : List FileTree) (x y : Check) → OfClass class trees x → OfClass class trees y → x ≡ y
class_once k class trees x y (inl a) (inl b) = a.1 ∙ sym b.1
class_once k class trees x y (inl a) (inr b) = absurd (none_some (block_of (declared trees) (cut class)) b.0 a.0 b.1)
class_once k class trees x y (inr a) (inl b) = absurd (none_some (block_of (declared trees) (cut class)) a.0 b.0 a.1)
class_once k class trees x y (inr a) (inr b) =
    model_once k (model_of trees b.0) x y (subst (λ i. OfModel (model_of trees i) x) (same_root (block_of (declared trees) (cut class)) a.0 b.0 a.1 b.1) a.2) b.2

of_trees_once : (k : ModelLaws) (class : List ℕ) (trees : List FileTree) (x y : Check) → OfTrees class trees x → OfTrees class trees y → x ≡ y
of_trees_once k class trees x y (inl a) (inl b) =
    let o = classes_once (declared trees) a.0 b.0 a.1 b.1 a.2 b.2 in
    met x y _ _ a.3 b.3 (breach_same a.0 b.0 (Source a.1) (Source b.1) o.0 (ap Source o.1))
of_trees_once k class trees x y (inl a) (inr b) = absurd (not_unbroken (declared trees) a.0 a.1 a.2 b.0)
of_trees_once k class trees x y (inr a) (inl b) = absurd (not_unbroken (declared trees) b.0 b.1 b.2 a.0)
of_trees_once k class trees x y (inr a) (inr b) = class_once k class trees x y a.1 b.1

check_once : (p : ParserLaws) (k : ModelLaws) (c : outside.Contents) (s : Sequence) (x y : Check) → IsCheck c s x → IsCheck c s y → x ≡ y
check_once p k c s x y (inl a) (inl b) =
    let o = broken_once p c s.models a.0 b.0 a.1 b.1 a.2 b.2 in
    met x y _ _ a.3 b.3 (breach_same a.0 b.0 (Source a.1) (Source b.1) o.0 (ap Source o.1))
check_once p k c s x y (inl a) (inr b) = absurd (not_read p c s.models a.0 a.1 b.0 a.2 b.1)
check_once p k c s x y (inr a) (inl b) = absurd (not_read p c s.models b.0 b.1 a.0 b.2 a.1)
check_once p k c s x y (inr a) (inr b) =
    of_trees_once k s.class b.0 x y (subst (λ trees. OfTrees s.class trees x) (read_once c s.models a.0 b.0 a.1 b.1) a.2) b.2

-- ---- the definitions are such checks

-- what comes of the model that was read
behind : (c : outside.Contents) (s : Sequence) (w : Model) (x : Check) → IsRead (Some c) s w → OfModel w x → IsCheck c s x
behind c s w x r h =
    let m = r.is_model in
    let root : ClassId = record { index = w.root } in
    let e : w ≡ model_of r.trees root = same_model w r.trees root m.files refl in
    inr (r.trees, r.read, inr (m.unbroken, inr (root, m.root, subst (λ v. OfModel v x) e h)))

of_breaks : (c : outside.Contents) (s : Sequence) {r : ℕ} {a : Spot} → Breaks (Some c) s r a → IsCheck c s (Breach r a)
of_breaks c s (text_rule {rule = r} {place = place} texts trees text hold have b) =
    inl (r, place, record { texts = texts; trees = trees; text = text; hold = hold; have = have; broken = b }, refl)
of_breaks c s (class_rule {rule = r} {place = place} trees read b) = inr (trees, read, inl (r, place, b, refl))
of_breaks c s (no_block trees read unbroken none) = inr (trees, read, inr (unbroken, inl (none, refl)))
of_breaks c s (instance_rule {rule = r} w path read b) = behind c s w (Breach r (Path (path_text path))) read (inl (r, path, b, refl))
of_breaks c s (statement_rule {rule = r} {place = place} w path read b) =
    behind c s w (Breach r (Statement (path_text path) place)) read (inr (b.unbroken, inl (r, path, place, b, refl)))
of_breaks c s (network_rule {rule = r} w u place read x b) =
    behind c s w (Breach r (spot_of place)) read (inr (x.unbroken, inr (u, x, inl (r, place, b, refl))))

of_accepted : (c : outside.Contents) (s : Sequence) (u : Unfolding) → IsAccepted (Some c) s u → IsCheck c s (Fine u)
of_accepted c s u h = behind c s h.model (Fine u) h.read (inr (h.expanded.unbroken, inr (u, h.expanded, inr (h.accepted, refl))))

-- ---- the verdict

breach_is : (r s : ℕ) (a b : Spot) → Breach r a ≡ Breach s b → (r ≡ s) × (a ≡ b)
breach_is r s a b e = (cc, cc)

fine_is : (u v : Unfolding) → Fine u ≡ Fine v → u ≡ v
fine_is u v e = cc

no_breach : (r : ℕ) (a : Spot) (u : Unfolding) → Breach r a ≡ Fine u → ⊥
no_breach r a u e = absurd (cc e)

text_is : (o : Option (List ℕ)) (s t : List ℕ) → o ≡ Some s → o ≡ Some t → s ≡ t
text_is o s t e f = cc

-- no work asks for two things
table_is : (a : Ask) (s t : List ℕ) → a ≡ ForRun s → a ≡ ForRun t → s ≡ t
table_is a s t e f = cc

no_table : (a : Ask) (s : List ℕ) → a ≡ ForCheck → a ≡ ForRun s → ⊥
no_table a s e f = absurd (cc (e, f))

no_document : (a : Ask) → a ≡ ForCheck → a ≡ ForDocument → ⊥
no_document a e f = absurd (cc (e, f))

no_run : (a : Ask) (s : List ℕ) → a ≡ ForDocument → a ≡ ForRun s → ⊥
no_run a s e f = absurd (cc (e, f))

refused_same : (r s : ℕ) (a b : Spot) → r ≡ s → a ≡ b → Refused r a ≡ Refused s b
refused_same r s a b e f = ap (λ k. Refused k a) e ∙ ap (Refused s) f

-- what the laws say of one work over told contents
record Once (c : outside.Contents) (work : Work) : Type 0 where
  broken : (r s : ℕ) (a b : Spot) → Breaks (Some c) work.sequence r a → Breaks (Some c) work.sequence s b → (r ≡ s) × (a ≡ b)
  apart : (r : ℕ) (a : Spot) (u : Unfolding) → Breaks (Some c) work.sequence r a → IsAccepted (Some c) work.sequence u → ⊥
  accepted : (u v : Unfolding) → IsAccepted (Some c) work.sequence u → IsAccepted (Some c) work.sequence v → u ≡ v

once : (p : ParserLaws) (k : ModelLaws) (c : outside.Contents) (work : Work) → Once c work
once p k c work =
    let s = work.sequence in
    record {
      broken = λ r q a b x y. breach_is r q a b (check_once p k c s (Breach r a) (Breach q b) (of_breaks c s x) (of_breaks c s y));
      apart = λ r a u x y. no_breach r a u (check_once p k c s (Breach r a) (Fine u) (of_breaks c s x) (of_accepted c s u y));
      accepted = λ u v x y. fine_is u v (check_once p k c s (Fine u) (Fine v) (of_accepted c s u x) (of_accepted c s v y));
    }

-- ---- documents

abbrev net_with : List NetInstance → List NetElement → List RawWire → Net
net_with xs es ws = record { instances = xs; elements = es; wires = ws }

-- a model has one net
one_net : (u : Unfolding) (n m : Net) → NetOf u n → NetOf u m → n ≡ m
one_net u n m a b =
    ap (λ (xs : List NetInstance). net_with xs n.elements n.wires) (a.instances ∙ sym b.instances)
    ∙ ap (λ (es : List NetElement). net_with m.instances es n.wires) (a.elements ∙ sym b.elements)
    ∙ ap (net_with m.instances m.elements) (a.wires ∙ sym b.wires)

-- so it has one document
one_document : (u : Unfolding) (s t : List ℕ) → IsDocument u s → IsDocument u t → s ≡ t
one_document u s t a b = a.text_is ∙ ap document_text (one_net u a.net b.net a.net_is b.net_is) ∙ sym b.text_is

documents_once : (c : outside.Contents) (work : Work) (u v : Unfolding) (s t : List ℕ) → Once c work → IsAccepted (Some c) work.sequence u → IsAccepted (Some c) work.sequence v → IsDocument u s → IsDocument v t → s ≡ t
documents_once c work u v s t o x y a b = one_document v s t (subst (λ w. IsDocument w s) (o.accepted u v x y) a) b

longer : (s t : List ℕ) → s ≡ t → length s ≤ LONGEST_DOCUMENT → LONGEST_DOCUMENT < length t → ⊥
longer s t e short long = let same : length s ≡ length t = ap length e in absurd (omega (arith, same, short, long))

-- a table that breaks a rule
record BadTable (c : outside.Contents) (work : Work) (r : ℕ) (a : Spot) : Type 0 where
  u : Unfolding
  table : List ℕ
  bytes : List ℕ
  accepted : IsAccepted (Some c) work.sequence u
  is : work.ask ≡ ForRun table
  holds : Holds (Some c) table bytes
  bad : BreaksTable (input_columns (labelled u)) bytes r a

-- ticks that end
record Ticks (c : outside.Contents) (work : Work) (fault : Option (ℤ × List ℕ)) (text : List ℕ) : Type 0 where
  u : Unfolding
  table : List ℕ
  rows : List TableRow
  accepted : IsAccepted (Some c) work.sequence u
  is : work.ask ≡ ForRun table
  held : HoldsRows (Some c) table (input_columns (labelled u)) rows
  ends : Ends (labelled u) rows fault text

held_same : (c : outside.Contents) (work : Work) (table other bytes more : List ℕ) → work.ask ≡ ForRun table → work.ask ≡ ForRun other → Holds (Some c) table bytes → Holds (Some c) other more → bytes ≡ more
held_same c work table other bytes more e f h g =
    let same : table ≡ other = table_is work.ask table other e f in
    text_is (c other) bytes more (subst (λ t. c t ≡ Some bytes) same h) g

tables_once : (c : outside.Contents) (work : Work) (r s : ℕ) (a b : Spot) → Once c work → BadTable c work r a → BadTable c work s b → (r ≡ s) × (a ≡ b)
tables_once c work r s a b o x y =
    let e = o.accepted x.u y.u x.accepted y.accepted in
    let f = held_same c work x.table y.table x.bytes y.bytes x.is y.is x.holds y.holds in
    let z : BreaksTable (input_columns (labelled y.u)) y.bytes r a = subst (λ bytes. BreaksTable (input_columns (labelled y.u)) bytes r a) f (subst (λ u. BreaksTable (input_columns (labelled u)) x.bytes r a) e x.bad) in
    y.bad.only r a z.first

table_apart : (c : outside.Contents) (work : Work) (r : ℕ) (a : Spot) (fault : Option (ℤ × List ℕ)) (text : List ℕ) → Once c work → BadTable c work r a → Ticks c work fault text → ⊥
table_apart c work r a fault text o x y =
    let e = o.accepted y.u x.u y.accepted x.accepted in
    let h : HoldsRows (Some c) y.table (input_columns (labelled x.u)) y.rows = subst (λ u. HoldsRows (Some c) y.table (input_columns (labelled u)) y.rows) e y.held in
    let f = held_same c work y.table x.table h.0 x.bytes y.is x.is h.1 x.holds in
    x.bad.none y.rows (subst (λ bytes. IsTableText (input_columns (labelled x.u)) bytes y.rows) f h.2.0)

ticks_once : (c : outside.Contents) (work : Work) (f g : Option (ℤ × List ℕ)) (s t : List ℕ) → Once c work → Ticks c work f s → Ticks c work g t → (f ≡ g) × (s ≡ t)
ticks_once c work f g s t o x y =
    let e = o.accepted x.u y.u x.accepted y.accepted in
    let h : HoldsRows (Some c) x.table (input_columns (labelled y.u)) x.rows = subst (λ u. HoldsRows (Some c) x.table (input_columns (labelled u)) x.rows) e x.held in
    let b = held_same c work x.table y.table h.0 y.held.0 x.is y.is h.1 y.held.1 in
    let rows : x.rows ≡ y.rows = y.held.2.1 x.rows (subst (λ bytes. IsTableText (input_columns (labelled y.u)) bytes x.rows) b h.2.0) in
    let ends : Ends (labelled y.u) y.rows f s = subst (λ rs. Ends (labelled y.u) rs f s) rows (subst (λ u. Ends (labelled u) x.rows f s) e x.ends) in
    one_trace (labelled y.u) y.rows f g s t ends y.ends

-- One work over told contents has one verdict.
verdict_once : (c : outside.Contents) (work : Work) {p q : Outcome} {s t : List ℕ} → Once c work → Verdict (Some c) work p s → Verdict (Some c) work q t → (p ≡ q) × (s ≡ t)
verdict_once c work o (broken {rule = r} {spot = a} x) (broken {rule = m} {spot = b} y) =
    let e = o.broken r m a b x y in
    (refused_same r m a b e.0 e.1, refl)
verdict_once c work o (broken {rule = r} {spot = a} x) (checked u y none) = absurd (o.apart r a u x y)
verdict_once c work o (broken {rule = r} {spot = a} x) (table_rule u table bytes y is holds bad) = absurd (o.apart r a u x y)
verdict_once c work o (broken {rule = r} {spot = a} x) (ran u table rows fault y is held ends end) = absurd (o.apart r a u x y)
verdict_once c work o (broken {rule = r} {spot = a} x) (documented u y is d short) = absurd (o.apart r a u x y)
verdict_once c work o (broken {rule = r} {spot = a} x) (long_document u text y is d long) = absurd (o.apart r a u x y)
verdict_once c work o (documented u x is d short) (broken {rule = r} {spot = a} y) = absurd (o.apart r a u y x)
verdict_once c work o (documented u x is d short) (checked v y none) = absurd (no_document work.ask none is)
verdict_once c work o (documented {text = s} u x is d short) (documented {text = t} v y at e small) = (refl, documents_once c work u v s t o x y d e)
verdict_once c work o (documented {text = s} u x is d short) (long_document v t y at e long) = absurd (longer s t (documents_once c work u v s t o x y d e) short long)
verdict_once c work o (documented u x is d short) (table_rule v table bytes y at holds bad) = absurd (no_run work.ask table is at)
verdict_once c work o (documented u x is d short) (ran v table rows fault y at held ends end) = absurd (no_run work.ask table is at)
verdict_once c work o (long_document u s x is d long) (broken {rule = r} {spot = a} y) = absurd (o.apart r a u y x)
verdict_once c work o (long_document u s x is d long) (checked v y none) = absurd (no_document work.ask none is)
verdict_once c work o (long_document u s x is d long) (documented {text = t} v y at e short) = absurd (longer t s (documents_once c work v u t s o y x e d) short long)
verdict_once c work o (long_document u s x is d long) (long_document v t y at e more) = (refl, refl)
verdict_once c work o (long_document u s x is d long) (table_rule v table bytes y at holds bad) = absurd (no_run work.ask table is at)
verdict_once c work o (long_document u s x is d long) (ran v table rows fault y at held ends end) = absurd (no_run work.ask table is at)
verdict_once c work o (checked u x none) (documented v y is d short) = absurd (no_document work.ask none is)
verdict_once c work o (checked u x none) (long_document v text y is d long) = absurd (no_document work.ask none is)
verdict_once c work o (table_rule u table bytes x is holds bad) (documented v y at d short) = absurd (no_run work.ask table at is)
verdict_once c work o (table_rule u table bytes x is holds bad) (long_document v text y at d long) = absurd (no_run work.ask table at is)
verdict_once c work o (ran u table rows fault x is held ends end) (documented v y at d short) = absurd (no_run work.ask table at is)
verdict_once c work o (ran u table rows fault x is held ends end) (long_document v text y at d long) = absurd (no_run work.ask table at is)
verdict_once c work o (checked u x none) (broken {rule = r} {spot = a} y) = absurd (o.apart r a u y x)
verdict_once c work o (checked u x none) (checked v y other) = (refl, refl)
verdict_once c work o (checked u x none) (table_rule v table bytes y is holds bad) = absurd (no_table work.ask table none is)
verdict_once c work o (checked u x none) (ran v table rows fault y is held ends end) = absurd (no_table work.ask table none is)
verdict_once c work o (table_rule u table bytes x is holds bad) (broken {rule = r} {spot = a} y) = absurd (o.apart r a u y x)
verdict_once c work o (table_rule u table bytes x is holds bad) (checked v y none) = absurd (no_table work.ask table none is)
verdict_once c work o (table_rule {rule = r} {spot = a} u table bytes x is holds bad) (table_rule {rule = m} {spot = b} v other more y at there worse) =
    let e = tables_once c work r m a b o (record { u = u; table = table; bytes = bytes; accepted = x; is = is; holds = holds; bad = bad })
    (record { u = v; table = other; bytes = more; accepted = y; is = at; holds = there; bad = worse }) in
    (refused_same r m a b e.0 e.1, refl)
verdict_once c work o (table_rule {rule = r} {spot = a} u table bytes x is holds bad) (ran {text = t} v other rows fault y at held ends end) =
    absurd (table_apart c work r a fault t o (record { u = u; table = table; bytes = bytes; accepted = x; is = is; holds = holds; bad = bad })
    (record { u = v; table = other; rows = rows; accepted = y; is = at; held = held; ends = ends }))
verdict_once c work o (ran u table rows fault x is held ends end) (broken {rule = r} {spot = a} y) = absurd (o.apart r a u y x)
verdict_once c work o (ran u table rows fault x is held ends end) (checked v y none) = absurd (no_table work.ask table none is)
verdict_once c work o (ran {text = s} u table rows fault x is held ends end) (table_rule {rule = r} {spot = a} v other bytes y at holds bad) =
    absurd (table_apart c work r a fault s o (record { u = v; table = other; bytes = bytes; accepted = y; is = at; holds = holds; bad = bad })
    (record { u = u; table = table; rows = rows; accepted = x; is = is; held = held; ends = ends }))
verdict_once c work o (ran {text = s} u table rows fault x is held ends end) (ran {text = t} v other more flaw y at kept stop last) =
    let e = ticks_once c work fault flaw s t o (record { u = u; table = table; rows = rows; accepted = x; is = is; held = held; ends = ends })
    (record { u = v; table = other; rows = more; accepted = y; is = at; held = kept; ends = stop }) in
    (end ∙ ap outcome_of e.0 ∙ sym last, e.1)

of_work : (c : outside.Contents) (o : Option Work) (p q : Outcome) (s t : List ℕ) → ((work : Work) → Once c work)
    → MatchOption o ((p ≡ job_refused) × (s ≡ [])) (λ work. Verdict (Some c) work p s) → MatchOption o ((q ≡ job_refused) × (t ≡ [])) (λ work. Verdict (Some c) work q t) → (p ≡ q) × (s ≡ t)
of_work c None p q s t k x y = (x.0 ∙ sym y.0, x.1 ∙ sym y.1)
of_work c (Some work) p q s t k x y = verdict_once c work (k work) x y

pub answer_once : (p : ParserLaws) (k : ModelLaws) (c : outside.Contents) (task : Task) (a b : Outcome) (s t : List ℕ) → Answers task (Some c) a s → Answers task (Some c) b t → (a ≡ b) × (s ≡ t)
answer_once p k c task a b s t x y = of_work c (built task) a b s t (once p k c) x y
