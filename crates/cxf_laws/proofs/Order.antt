-- The parameters of a block, read back, are those that were written, in byte order of their names.
use Rattle.std.proofs.Common.{ℕ, suc, ◌<◌, ◌≡◌, ◌⊎◌, refl, sym, ap, ◌∙◌, subst, pos, negsuc, if◌then◌else◌, inl, inr, ⊎_elim, List, [], ◌∷◌, map, All, Ordering, Less, Equal, Greater, nat_lt, ◌^◌, Some, None, arith}
use Rattle.std.specs.Cmp.Lexicographic.{slice_cmp}
use Rattle.std.specs.Ordering.{match_ordering, nat_cmp, ordering_reverse}
use Rattle.std.proofs.lemmas.Bool.{lt-ltb}
use Rattle.std.proofs.lemmas.Cmp.{nat_list_cmp_total}
use Rattle.std.proofs.lemmas.Map.Text.{is_eq-slice_cmp}
use Rattle.std.proofs.lemmas.Slice.Eq.{bytes_eq-Decides}
use Rattle.std.specs.Ordering.{is_eq}
use Rattle.serde_json.specs.Data.{Data, Members, member, no_members, put}
use Rattle.serde_json.specs.View.{items_of}
use Rattle.cdl_network.specs.Lists.{Apart, In, Lists, Sorted}
use Rattle.cxf_graph.specs.declared.graph.GraphNode.{GraphNode}
use Rattle.cxf_graph.specs.declared.graph.NodeBody.{NodeBody}
use Rattle.cxf_graph.specs.declared.graph.NodeBody.TheVariants.{Composite, Elementary, Connector, Other}
use Rattle.cxf_graph.specs.declared.graph.Given.{Given}
use Rattle.cxf_graph.specs.declared.graph.GivenValue.{GivenValue}
use Rattle.cxf_graph.specs.declared.graph.GivenValue.TheVariants.{Item, List as Listed}
use Rattle.cxf_graph.specs.declared.graph.GivenItem.{GivenItem}
use Rattle.cxf_graph.specs.declared.graph.GivenItem.TheVariants.{Boolean, Integer, Str, Bad}
use Rattle.cxf_graph.specs.Document.{given_members, item_data, value_data}
use Rattle.cxf_graph.specs.Reading.{body_in_order, given_of, integer_or_bad, item_of, items_in, node_in_order, value_of}
use Rattle.cxf_laws.specs.Order.{AreOrdered, IsBefore, IsOrdered, IsPlainItem, IsPlainValue}

-- items and values
natural_back : (n : ℕ) → n < 2 ^ 63 → integer_or_bad (if nat_lt n (2 ^ 63) then Some (pos n) else None) ≡ Integer (pos n)
natural_back n h = rw (lt-ltb n (2 ^ 63) h) refl

item_back : (g : GivenItem) → IsPlainItem g → item_of (item_data g) ≡ g
item_back (Boolean b) h = refl
item_back (Integer (pos n)) h = natural_back n h.sfits
item_back (Integer (negsuc n)) h = refl
item_back (Str t) h = refl
item_back Bad h = absurd h

items_back : (gs : List GivenItem) → All IsPlainItem gs → items_in (items_of (map item_data gs)) ≡ gs
items_back [] h = refl
items_back (g ∷ gs) h = rw (item_back g (h 0 g (omega arith)), items_back gs (λ k d l. h (suc k) d (omega arith))) refl

single_back : (g : GivenItem) → IsPlainItem g → value_of (item_data g) ≡ Item g
single_back (Boolean b) h = refl
single_back (Integer (pos n)) h = ap Item (natural_back n h.sfits)
single_back (Integer (negsuc n)) h = refl
single_back (Str t) h = refl
single_back Bad h = absurd h

pub value_back : (v : GivenValue) → IsPlainValue v → value_of (value_data v) ≡ v
value_back (Item g) h = single_back g h
value_back (Listed gs) h = ap Listed (items_back gs h)

-- the order of names
name_same : (k l : List ℕ) → slice_cmp nat_cmp k l ≡ Equal → k ≡ l
name_same k l e = (bytes_eq-Decides k l).0 (sym (is_eq-slice_cmp k l) ∙ ap is_eq e)

turned : (k l : List ℕ) → slice_cmp nat_cmp k l ≡ Greater → slice_cmp nat_cmp l k ≡ Less
turned k l e = nat_list_cmp_total.antisymm l k ∙ ap ordering_reverse e

-- a member as a parameter
abbrev with_value : List ℕ → GivenValue → Given
with_value name v = record { name = name; value = v }

abbrev entry : List ℕ → Data → Given
entry k d = with_value k (value_of d)

-- one parameter more among those that stand in order
record IsPut (k : List ℕ) (d : Data) (ms new : Members) : Type 0 where
  pub sorted : Sorted IsBefore (given_of new)
  pub only : (g : Given) → In g (given_of new) → (g ≡ entry k d) ⊎ In g (given_of ms)
  pub first : In (entry k d) (given_of new)
  pub kept : (g : Given) → In g (given_of ms) → In g (given_of new)

module _ (k : List ℕ) (d : Data) where
  put_empty : IsPut k d no_members (member k d no_members)
  put_empty = record {
    sorted = (λ g i. absurd i, tt);
    only = λ g i. i;
    first = inl refl;
    kept = λ g i. absurd i;
  }

  put_less : (l : List ℕ) (e : Data) (ms : Members) → slice_cmp nat_cmp k l ≡ Less → Sorted IsBefore (given_of (member l e ms)) → IsPut k d (member l e ms) (member k d (member l e ms))
  put_less l e ms c s = record {
    sorted = (λ g i. before g i, s);
    only = λ g i. i;
    first = inl refl;
    kept = λ g i. inr i;
  }
    where
      before : (g : Given) → In g (given_of (member l e ms)) → slice_cmp nat_cmp k g.name ≡ Less
      before g (inl p) = ap (λ (x : Given). slice_cmp nat_cmp k x.name) p ∙ c
      before g (inr i) = nat_list_cmp_total.trans k l g.name c (s.0 g i)

  put_greater : (l : List ℕ) (e : Data) (ms new : Members) → slice_cmp nat_cmp l k ≡ Less → Sorted IsBefore (given_of (member l e ms)) → IsPut k d ms new → IsPut k d (member l e ms) (member l e new)
  put_greater l e ms new c s p = record {
    sorted = (λ g i. ⊎_elim (λ q. ap (λ (x : Given). slice_cmp nat_cmp l x.name) q ∙ c) (λ j. s.0 g j) (p.only g i), p.sorted);
    only = only_those;
    first = inr p.first;
    kept = all_kept;
  }
    where
      only_those : (g : Given) → In g (given_of (member l e new)) → (g ≡ entry k d) ⊎ In g (given_of (member l e ms))
      only_those g (inl q) = inr (inl q)
      only_those g (inr i) = ⊎_elim (λ q. inl q) (λ j. inr (inr j)) (p.only g i)

      all_kept : (g : Given) → In g (given_of (member l e ms)) → In g (given_of (member l e new))
      all_kept g (inl q) = inl q
      all_kept g (inr i) = inr (p.kept g i)

  by_order : (l : List ℕ) (e : Data) (ms : Members) (o : Ordering) → slice_cmp nat_cmp k l ≡ o → (k ≡ l → ⊥) → Sorted IsBefore (given_of (member l e ms)) → IsPut k d ms (put k d ms) → IsPut k d (member l e ms) (match_ordering o (member k d (member l e ms)) (member l d ms) (member l e (put k d ms)))
  by_order l e ms Less c n s p = put_less l e ms c s
  by_order l e ms Equal c n s p = absurd (n (name_same k l c))
  by_order l e ms Greater c n s p = put_greater l e ms (put k d ms) (turned k l c) s p

  put_orders : (ms : Members) → Sorted IsBefore (given_of ms) → ((g : Given) → In g (given_of ms) → k ≡ g.name → ⊥) → IsPut k d ms (put k d ms)
  put_orders no_members s n = put_empty
  put_orders (member l e ms) s n = by_order l e ms (slice_cmp nat_cmp k l) refl (λ q. n (entry l e) (inl refl) q) s (put_orders ms s.1 (λ g i q. n g (inr i) q))

-- these parameters among those that stand in order
record ArePut (ms : Members) (gs : List Given) : Type 0 where
  pub sorted : Sorted IsBefore (given_of (given_members ms gs))
  pub only : (g : Given) → In g (given_of (given_members ms gs)) → In g (given_of ms) ⊎ In g gs
  pub old : (g : Given) → In g (given_of ms) → In g (given_of (given_members ms gs))
  pub new : (g : Given) → In g gs → In g (given_of (given_members ms gs))

abbrev pub name_of : Given → List ℕ
name_of g = g.name

in_names : (g : Given) (gs : List Given) → In g gs → In g.name (map name_of gs)
in_names g [] i = absurd i
in_names g (h ∷ gs) (inl e) = inl (ap name_of e)
in_names g (h ∷ gs) (inr i) = inr (in_names g gs i)

all_put : (ms : Members) (gs : List Given) → Sorted IsBefore (given_of ms) → Apart (map name_of gs) → ((g h : Given) → In g (given_of ms) → In h gs → h.name ≡ g.name → ⊥) → ((g : Given) → In g gs → value_of (value_data g.value) ≡ g.value) → ArePut ms gs
all_put ms [] s a n v = record { sorted = s; only = λ g i. inl i; old = λ g i. i; new = λ g i. absurd i }
all_put ms (h ∷ gs) s a n v =
    let d = value_data h.value in
    let p = put_orders h.name d ms s (λ g i q. n g h i (inl refl) q) in
    let same : entry h.name d ≡ h = ap (with_value h.name) (v h (inl refl)) in
    let r = all_put (put h.name d ms) gs p.sorted a.1
    (λ g f i j q. ⊎_elim
    (λ e. a.0 (subst (λ x. In x (map name_of gs)) (q ∙ ap name_of e) (in_names f gs j)))
    (λ k. n g f k (inr j) q)
    (p.only g i))
    (λ g i. v g (inr i)) in
    record {
      sorted = r.sorted;
      only = λ g i. ⊎_elim (λ j. ⊎_elim (λ e. inr (inl (e ∙ same))) (λ k. inl k) (p.only g j)) (λ j. inr (inr j)) (r.only g i);
      old = λ g i. r.old g (p.kept g i);
      new = λ g i. ⊎_elim (λ e. r.old g (subst (λ x. In x (given_of (put h.name d ms))) (same ∙ sym e) p.first)) (λ j. r.new g j) i;
    }

pub given_back : (gs : List Given) → Apart (map name_of gs) → ((g : Given) → In g gs → IsPlainValue g.value) → Lists IsBefore (λ g. In g gs) (given_of (given_members no_members gs))
given_back gs a v =
    let r = all_put no_members gs tt a (λ g h i j q. i) (λ g i. value_back g.value (v g i)) in
    record { each = λ g i. r.new g i; only = λ g i. ⊎_elim (λ j. absurd j) (λ j. j) (r.only g i); sorted = r.sorted }

-- whole graphs
abbrev pub IsPlainBody : NodeBody → Type 0
IsPlainBody (Elementary kind given connectors) = Apart (map name_of given) × ((g : Given) → In g given → IsPlainValue g.value)
IsPlainBody (Composite connectors instances connections) = Unit {0}
IsPlainBody (Connector kind input unit) = Unit {0}
IsPlainBody Other = Unit {0}

body_ordered : (b : NodeBody) → IsPlainBody b → IsOrdered b (body_in_order b)
body_ordered (Elementary kind given connectors) h = (given_of (given_members no_members given), given_back given h.0 h.1, refl)
body_ordered (Composite connectors instances connections) h = refl
body_ordered (Connector kind input unit) h = refl
body_ordered Other h = refl

abbrev pub ArePlainNodes : List GraphNode → Type 0
ArePlainNodes [] = Unit {0}
ArePlainNodes (n ∷ ns) = IsPlainBody n.body × ArePlainNodes ns

pub nodes_ordered : (ns : List GraphNode) → ArePlainNodes ns → AreOrdered ns (map node_in_order ns)
nodes_ordered [] h = tt
nodes_ordered (n ∷ ns) h = (refl, body_ordered n.body h.0, nodes_ordered ns h.1)
