-- A net stands for its model: they have one table, one trace, and one first broken rule.
use Rattle.std.proofs.Common.{◌≡◌, ◌∙◌, ℕ, List, [], ◌∷◌, map, refl, ap, inl, inr}
use Rattle.cdl_values.specs.declared.value.ValueType.{ValueType}
use Rattle.cdl_network.specs.Closed.{Closed, Shaped}
use Rattle.cdl_network.specs.Dependence.{root_inputs}
use Rattle.cdl_network.specs.FirstBroken.{Accepted}
use Rattle.cdl_network.specs.Lists.{In}
use Rattle.cdl_network.specs.Planned.{DirectOnly}
use Rattle.cdl_network.specs.Renamed.{Renamed}
use Rattle.cdl_network.proofs.Inside.{in_filter}
use Rattle.cdl_network.proofs.Renaming.{roots_same}
use Rattle.cdl_network.specs.Dependence.{is_root_input}
use Rattle.cdl_connect.specs.declared.net.Net.{Net}
use Rattle.cdl_connect.specs.Nets.{element, network_of}
use Rattle.cdl_connect.specs.Paths.{extended}
use Rattle.cdl_connect.specs.WellFormed.{IsIndexed, IsWellFormed, path_of}
use Rattle.cdl_paths.specs.declared.path.Step.{Step}
use Rattle.cdl_params.specs.Kept.{Model}
use Rattle.cdl_walk.specs.Texts.{path_text}
use Rattle.cdl_model.specs.Names.{ElementName}
use Rattle.cdl_model.specs.NetOf.{NetOf, element_number, instance_number, name_text}
use Rattle.cdl_model.specs.Networks.{names, network, paths}
use Rattle.cdl_model.specs.Parts.{Unfolding}
use Rattle.cdl_expand.specs.Expanded.{IsExpanded, Refuses as ExpandRefuses}
use Rattle.cdl_expand.specs.declared.fault.ExpandFault.{ExpandFault}
use Rattle.cdl_expand.specs.declared.fault.ExpandFault.TheVariants as expand
use Rattle.cdl_check.specs.Broken.{Refuses as CheckRefuses, element_path as net_element_path}
use Rattle.cdl_check.specs.declared.fault.CheckFault.{CheckFault}
use Rattle.cdl_check.specs.declared.fault.CheckFault.TheVariants as check
use Rattle.cdl_check.proofs.FirstRule.{broken_under}
use Rattle.cdl_table.specs.declared.column.Column.{Column}
use Rattle.cdl_trace.specs.Columns.{Labelled, column_of, input_columns, labelled as net_labelled}
use Rattle.cdl_trace.proofs.Renaming.{ends_under}
use Rattle.cdl_trace.proofs.Traces.{sole}
use Rattle.cdl_tree.specs.declared.class.FileTree.{FileTree}
use Rattle.cdl_classes.specs.declared.found.ClassId.{ClassId}
use Rattle.cdl_command.specs.Sequences.{element_path, labelled}
use Rattle.cdl_command.specs.inner.Plans.{IsNetOf, RefusesElements, RefusesNetwork, StandsFor, check_stop, expand_stop, model_of}
use Rattle.cdl_command.specs.inner.Stops.{Stops, refusal_in, refusal_of}
use Rattle.cdl_job.specs.declared.outcome.Spot.TheVariants.{Path, Statement}
use Rattle.cdl_command.specs.declared.stop.Refusal.{Refusal}
use Rattle.cdl_command.specs.declared.stop.Stop.{Stop}
use Rattle.cdl_command.specs.declared.stop.Stop.TheVariants.{Refused, RangeFault, ReadFault, WriteFault, OutOfMemory}

-- ---- one table

abbrev column : List ℕ → ValueType → Column
column name t = record { name = name; value_type = t }

mapped : {E F : Type 0} (b : E → F) (f : E → Column) (g : F → Column) (xs : List E) → ((x : E) → In x xs → g (b x) ≡ f x) → map g (map b xs) ≡ map f xs
mapped b f g [] h = refl
mapped b f g (x ∷ xs) h =
    let p = h x (inl refl) in
    let q = mapped b f g xs (λ y i. h y (inr i)) in
    rw (p, q) refl

column_same : {I E J F : Type 0} (b : E → F) (m : Labelled I E) (n : Labelled J F) (x : E) → n.name (b x) ≡ m.name x → n.network.value_type (b x) ≡ m.network.value_type x
    → column_of n (b x) ≡ column_of m x
column_same b m n x s t = ap (λ k. column k (n.network.value_type (b x))) s ∙ ap (column (m.name x)) t

-- under other names with the same texts the columns are the same
inputs_under : {I E J F : Type 0} (a : I → J) (b : E → F) (m : Labelled I E) (n : Labelled J F) → Closed m.network → Renamed a b m.network n.network
    → ((x : E) → In x m.network.elements → n.name (b x) ≡ m.name x) → input_columns n ≡ input_columns m
inputs_under a b m n c r s =
    ap (map (column_of n)) (roots_same a b m.network n.network c r)
    ∙ mapped b (column_of m) (column_of n) (root_inputs m.network)
    (λ x i. let j = in_filter (is_root_input m.network) x m.network.elements i in column_same b m n x (s x j) (r.value_type x j))

-- ---- one trace

-- a model and its net: one network under two kinds of names, with the same texts
pub record Along (u : Unfolding) (n : Net) : Type 0 where
  pub closed : Closed (network u)
  pub shaped : Shaped (network u)
  pub direct : DirectOnly (network u)
  pub renamed : Renamed (instance_number u.instances) (element_number u.elements) (network u) (network_of n)
  pub path : (p : List Step) → In p (paths u.instances) → path_of n (instance_number u.instances p) ≡ path_text p
  pub name : (x : ElementName) → In x (names u.elements) → (element n (element_number u.elements x)).name ≡ name_text x

stands : (u : Unfolding) (n : Net) → NetOf u n → IsWellFormed n → Along u n → IsIndexed n → Accepted (network u) → StandsFor u n
stands u n o f h i a =
    let number = instance_number u.instances in
    let other = element_number u.elements in
    record {
      net = o;
      formed = f;
      indexed = i;
      kinds = f.kinds;
      plain = f.plain;
      inputs = inputs_under number other (labelled u) (net_labelled n) h.closed h.renamed h.name;
      ends = λ rows fault text e. ends_under number other (labelled u) (net_labelled n) rows fault text (sole (network u) h.closed h.shaped h.direct a)
          (record { closed = h.closed; renamed = h.renamed; path = h.path; name = h.name }) e;
    }

-- The net of a model that breaks no rule.
pub net_is : (w : Model) (u : Unfolding) (n : Net) → IsExpanded w u → NetOf u n → IsWellFormed n → Along u n → IsIndexed n → Accepted (network u) → IsNetOf w n
net_is w u n x o f h i a = record { expansion = u; expanded = x; accepted = a; stands = stands u n o f h i a }

-- ---- one first broken rule

same_path : (u : Unfolding) (n : Net) (x : ElementName) → Along u n → In x (names u.elements) → net_element_path n (element_number u.elements x) ≡ element_path x
same_path u n x h i =
    let b = element_number u.elements x in
    ap (λ k. extended (path_of n k) (element n b).name) (h.renamed.owner x i)
    ∙ ap (λ p. extended p (element n b).name) (h.path x.path (h.closed.owner x i))
    ∙ ap (extended (path_text x.path)) (h.name x i)

-- The fault of the net is that of the model's network.
pub network_refused : (w : Model) (u : Unfolding) (n : Net) (fault : CheckFault) → IsExpanded w u → Along u n → CheckRefuses n fault → Stops ⊥ (RefusesNetwork w) (check_stop fault)
network_refused w u n (check.Rule rule place) x h f =
    record {
      expansion = u;
      expanded = x;
      rule = rule;
      place = place;
      broken = broken_under (instance_number u.instances) (element_number u.elements) (network u) (network_of n) path_text element_path (path_of n) (net_element_path n) rule place
          h.closed h.renamed h.path (λ y i. same_path u n y h i) f;
      refusal_is = refl;
    }
network_refused w u n check.OutOfMemory x h f = tt

-- The fault of the expansion is that of the model.
pub elements_refused : (texts : List (List ℕ)) (w : Model) (fault : ExpandFault) → ExpandRefuses w fault → Stops ⊥ (RefusesElements texts w) (expand_stop fault texts)
elements_refused texts w (expand.Instance rule path) f =
    inl (record { rule = rule; path = f.0; broken = f.2; refusal_is = ap (λ p. refusal_of rule (Path p)) f.1 })
elements_refused texts w (expand.Statement rule path place) f =
    inr (record { rule = rule; path = f.0; place = place; broken = f.2; refusal_is = ap (λ p. refusal_in rule (Statement p place) place texts) f.1 })
elements_refused texts w expand.OutOfMemory f = tt

-- ---- the elaborator, and causes

abbrev model : List FileTree → ℕ → Model
model files root = record { files = files; root = root }

-- an elaborator of these files with this root is one of their model
pub same_model : (e : Model) (files : List FileTree) (root : ClassId) → e.files ≡ files → e.root ≡ root.index → e ≡ model_of files root
same_model e files root p q = ap (λ f. model f e.root) p ∙ ap (model files) q

-- a cause that is one of more
pub wider : (rose : Type 0) (P Q : Refusal → Type 0) (s : Stop) → ((r : Refusal) → P r → Q r) → Stops rose P s → Stops rose Q s
wider rose P Q (Refused r) k h = k r h
wider rose P Q (RangeFault time path) k h = h
wider rose P Q ReadFault k h = h
wider rose P Q WriteFault k h = h
wider rose P Q OutOfMemory k h = h
