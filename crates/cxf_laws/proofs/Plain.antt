-- The parameters of the blocks of a well-formed net are of different names, and their values are plain.
use Rattle.std.proofs.Common.{ℕ, suc, ◌≤◌, ◌≡◌, ◌&&◌, ◌||◌, refl, sym, ap, ◌∙◌, subst, ℤ, Bool, true, false, not, inl, inr, List, [], ◌∷◌, ◌++◌, map, All, IsUtf8, arith, bytes_eq, unsigned_abs, FitsSigned}
use Rattle.std.specs.Int.{w64}
use Rattle.std.specs.List.{list_any}
use Rattle.std.proofs.lemmas.Bool.{and_parts, false≢true, not-true, true≢false}
use Rattle.std.proofs.lemmas.Int.{fits_signed_from_abs}
use Rattle.std.proofs.lemmas.Slice.Eq.{bytes_eq-Decides}
use Rattle.cdl_values.specs.declared.value.Array.{Array}
use Rattle.cdl_values.specs.declared.value.Value.{Value}
use Rattle.cdl_values.specs.declared.value.Value.TheVariants.{Boolean, Integer, Real, Str, Enumeration}
use Rattle.cdl_values.specs.declared.value.ValueType.{ValueType}
use Rattle.cdl_values.specs.declared.value.ValueType.TheVariants.{Boolean as BooleanType, Integer as IntegerType, Real as RealType, Str as StrType, Enumeration as EnumerationType}
use Rattle.cdl_values.specs.Values.{IsArray, IsOf, integer_at}
use Rattle.cdl_kinds.specs.declared.kind.Kind.{Kind}
use Rattle.cdl_kinds.specs.declared.kind.Kind.TheVariants as kind
use Rattle.cdl_kinds.specs.Conditions.{FitRows, Keeps}
use Rattle.cdl_kinds.specs.Parameters.{parameters}
use Rattle.cdl_kinds.specs.Table.{ParameterRow}
use Rattle.cdl_network.specs.Lists.{Apart, In}
use Rattle.cdl_connect.specs.declared.net.Body.{Body}
use Rattle.cdl_connect.specs.declared.net.Body.TheVariants as block
use Rattle.cdl_connect.specs.declared.net.Net.{Net}
use Rattle.cdl_connect.specs.declared.net.NetElement.{NetElement}
use Rattle.cdl_connect.specs.declared.net.NetInstance.{NetInstance}
use Rattle.cdl_connect.specs.WellFormed.{FitsBody, IsWellFormed, is_plain}
use Rattle.cxf_graph.specs.declared.graph.Given.{Given}
use Rattle.cxf_graph.specs.declared.graph.GraphNode.{GraphNode}
use Rattle.cxf_graph.specs.Written.{body_with, connector_node, given_all, given_item, given_value, graph_of, inner, nodes_from, nodes_with, own, parts}
use Rattle.cxf_graph.specs.Reading.{in_order}
use Rattle.cxf_graph.proofs.Parameters.{each_given, given_paired, paired, value_has}
use Rattle.cxf_graph.proofs.Writable.{StandAt, all_stand, first_stands, rest_stand}
use Rattle.cxf_laws.specs.Order.{AreOrdered, IsPlainItem, IsPlainValue}
use Rattle.cxf_laws.proofs.Order.{ArePlainNodes, IsPlainBody, name_of, nodes_ordered}

-- values
whole_plain : (z : ℤ) → unsigned_abs z ≤ 2147483647 → FitsSigned w64 z
whole_plain z h = fits_signed_from_abs w64 z (omega arith)

item_plain : (t : ValueType) (v : Value) → is_plain t ≡ true → IsOf t v → IsPlainItem (given_item v)
item_plain t (Boolean b) p h = tt
item_plain t (Real c) p h = tt
item_plain BooleanType (Integer z) p h = absurd h
item_plain IntegerType (Integer z) p h = whole_plain z h
item_plain RealType (Integer z) p h = absurd h
item_plain StrType (Integer z) p h = absurd h
item_plain (EnumerationType c) (Integer z) p h = absurd h
item_plain t (Str s) p h = tt
item_plain BooleanType (Enumeration c o) p h = absurd h
item_plain IntegerType (Enumeration c o) p h = absurd h
item_plain RealType (Enumeration c o) p h = absurd h
item_plain StrType (Enumeration c o) p h = absurd (false≢true p)
item_plain (EnumerationType d) (Enumeration c o) p h = absurd (false≢true p)

value_plain : (a : Array) → is_plain a.value_type ≡ true → IsArray a → IsPlainValue (given_value a)
value_plain a p i = value_has IsPlainItem IsPlainValue (λ g h. h) (λ gs h. h) a (λ v h. item_plain a.value_type v p h) i

-- the names of the parameters
abbrev row_name : ParameterRow → List ℕ
row_name r = r.name

names_paired : (nin : ℤ) (rs : List ParameterRow) (v : List Array) → FitRows nin rs v → map name_of (paired rs v) ≡ map row_name rs
names_paired nin [] v f = refl
names_paired nin (r ∷ rs) [] f = absurd f
names_paired nin (r ∷ rs) (a ∷ v) f = ap (λ l. r.name ∷ l) (names_paired nin rs v f.1)

-- no text stands twice
abbrev pub are_apart : List (List ℕ) → Bool
are_apart [] = true
are_apart (x ∷ xs) = not (list_any (bytes_eq x) xs) && are_apart xs

found : (x : List ℕ) (xs : List (List ℕ)) → In x xs → list_any (bytes_eq x) xs ≡ true
found x [] i = absurd i
found x (y ∷ ys) (inl e) = rw ((bytes_eq-Decides x y).1 e) refl
found x (y ∷ ys) (inr i) = rw (found x ys i) (either (bytes_eq x y))
  where
    either : (b : Bool) → b || true ≡ true
    either true = refl
    either false = refl

pub apart_tested : (xs : List (List ℕ)) → are_apart xs ≡ true → Apart xs
apart_tested [] h = tt
apart_tested (x ∷ xs) h =
    let b = and_parts (not (list_any (bytes_eq x) xs)) (are_apart xs) h in
    (λ i. true≢false (sym (found x xs i) ∙ not-true (list_any (bytes_eq x) xs) b.0), apart_tested xs b.1)

names_apart : (k : Kind) → are_apart (map row_name (parameters k)) ≡ true
names_apart kind.LogicalAnd = refl
names_apart _ = refl

all_in : {A : Type 0} (P : A → Type 0) (xs : List A) (x : A) → All P xs → In x xs → P x
all_in P [] x a i = absurd i
all_in P (y ∷ ys) x a (inl e) = subst P (sym e) (a 0 y (omega arith))
all_in P (y ∷ ys) x a (inr i) = all_in P ys x (λ k d l. a (suc k) d (omega arith)) i

given_plain : (k : Kind) (v : List Array) → Keeps k v → Apart (map name_of (given_all v 0 (parameters k))) × ((g : Given) → In g (given_all v 0 (parameters k)) → IsPlainValue g.value)
given_plain k v h =
    let names : map name_of (given_all v 0 (parameters k)) ≡ map row_name (parameters k) = ap (map name_of) (given_paired k v h) ∙ names_paired (integer_at v 0) (parameters k) v h.fits.rows in
    (rw names (apart_tested (map row_name (parameters k)) (names_apart k)), λ g i. (all_in (λ (x : Given). IsUtf8 x.name × IsPlainValue x.value) (given_all v 0 (parameters k)) g (each_given IsPlainValue value_plain k v h) i).1)

-- nodes
body_plain : (n : Net) (i : ℕ) (t : NetInstance) (b : Body) → FitsBody n t b → IsPlainBody (body_with n t (own n t) (parts n i) (inner n i) b)
body_plain n i t block.Composite f = tt
body_plain n i t (block.Elementary k v) f = given_plain k v f.keeps

plain_append : (ms ns : List GraphNode) → ArePlainNodes ms → ArePlainNodes ns → ArePlainNodes (ms ++ ns)
plain_append [] ns a b = b
plain_append (m ∷ ms) ns a b = (a.0, plain_append ms ns a.1 b)

connectors_plain : (t : NetInstance) (es : List NetElement) → ArePlainNodes (map (connector_node t) es)
connectors_plain t [] = tt
connectors_plain t (e ∷ es) = (tt, connectors_plain t es)

pub nodes_plain : (n : Net) → IsWellFormed n → (i : ℕ) (ts : List NetInstance) → StandAt n i ts → ArePlainNodes (nodes_from n i ts)
nodes_plain n w i [] s = tt
nodes_plain n w i (t ∷ ts) s = plain_append (nodes_with n t (parts n i) (inner n i)) (nodes_from n (suc i) ts)
    (body_plain n i t t.body (w.kinds.each i t (first_stands n i t ts s)), connectors_plain t (own n t))
    (nodes_plain n w (suc i) ts (rest_stand n i t ts s))

pub graph_ordered : (n : Net) → IsWellFormed n → AreOrdered (graph_of n).nodes (in_order (graph_of n)).nodes
graph_ordered n w = nodes_ordered (nodes_from n 0 n.instances) (nodes_plain n w 0 n.instances (all_stand n))
