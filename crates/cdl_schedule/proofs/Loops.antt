-- Walks of a net and of its rows.
use Rattle.std.proofs.Common.{ℕ, zero, suc, ◌+◌, ◌<◌, ◌≤◌, ◌≡◌, refl, sym, ap, ◌∙◌, subst, arith, true, inl, inr, List, length, get_or, Option, Some, None, slice_get}
use Rattle.cdl_source.proofs.Cases.{by_lt}
use Rattle.std.specs.Prelude.{◌-◌}
use Rattle.std.proofs.lemmas.Bool.{false≢true}
use Rattle.std.proofs.lemmas.List.{get_or_past, get_or_default}
use Rattle.std.proofs.lemmas.Option.{slice_get_within}
use Rattle.cdl_search.specs.Graph.{IsGraph}
use Rattle.cdl_search.specs.Graph as graph
use Rattle.cdl_search.specs.Order.{IsOrder, IsSearchFault}
use Rattle.cdl_search.specs.declared.order.SearchFault.{SearchFault}
use Rattle.cdl_search.specs.declared.order.SearchFault.TheVariants.{Loop, OutOfMemory}
use Rattle.cdl_search.specs.Walks as walks
use Rattle.cdl_network.specs.Dependence.{Origin, Row, From, Out, HasOrigin, Reads, Determines, Walk, OnLoop, FirstLoop, NoLoop, direct_of}
use Rattle.cdl_network.specs.Lists.{In, numbers}
use Rattle.cdl_network.proofs.Inside.{origin_inside, reads_inside, direct_inside}
use Rattle.cdl_network.proofs.Places.{of_slice_numbers}
use Rattle.cdl_connect.proofs.Networks.{below_all, in_all, net_closed, number_at}
use Rattle.cdl_search.proofs.Walking.{walk_from}
use Rattle.cdl_connect.specs.declared.net.Net.{Net}
use Rattle.cdl_connect.specs.declared.net.NetElement.{NetElement}
use Rattle.cdl_connect.specs.declared.net.NetInstance.{NetInstance}
use Rattle.cdl_connect.specs.Faults.{IsChecked}
use Rattle.cdl_connect.specs.Nets.{network_of, element, no_element, is_elementary}
use Rattle.cdl_schedule.specs.inner.Rows.{AreRows, Precedes, vertex_of, vertex_count}

-- what has an origin is an element
pub has_inside : (n : Net) (x : ℕ) (c : Origin ℕ ℕ) → IsChecked n → HasOrigin (network_of n) x c → x < length n.elements
has_inside n x c k h = below_all (length n.elements) x (origin_inside (network_of n) x c (net_closed n k.indexed) h)

pub reads_are : (n : Net) (x : ℕ) (c : Origin ℕ ℕ) (s : ℕ) → IsChecked n → HasOrigin (network_of n) x c → Reads (network_of n) c s → s < length n.elements
reads_are n x c s k h r = below_all (length n.elements) s (reads_inside (network_of n) x c s (net_closed n k.indexed) h r)

pub direct_are : (n : Net) (i x : ℕ) → In x (direct_of (network_of n) i) → x < length n.elements
direct_are n i x h = below_all (length n.elements) x (direct_inside (network_of n) i x h)

-- an output's instance is one of the net's
pub out_inside : (n : Net) (x i k : ℕ) → HasOrigin (network_of n) x (Out i k) → i < length n.instances
out_inside n x i k h = below_all (length n.instances) i h.0

given_by : (n : Net) (u x : ℕ) (c : Origin ℕ ℕ) → IsChecked n → HasOrigin (network_of n) x c → vertex_of (length n.elements) c ≡ Some u → u < vertex_count n
given_by n u x (Row k) a h e = absurd (cc)
given_by n u x (From s) a h e =
    let q : s ≡ u = cc in
    let i = reads_are n x (From s) s a h refl in
    omega (arith, i, q)
given_by n u x (Out i k) a h e =
    let q : length n.elements + i ≡ u = cc in
    let j = out_inside n x i k h in
    omega (arith, j, q)

held : (o : Option NetInstance) → is_elementary o ≡ true → (t : NetInstance) × (o ≡ Some t)
held None e = absurd (false≢true e)
held (Some t) e = (t, refl)

pub some_at : (n : Net) (i : ℕ) → (network_of n).elementary i ≡ true → i < length n.instances
some_at n i e = let t = held (slice_get n.instances i) e in slice_get_within n.instances i t.0 t.1

pub precedes_inside : (n : Net) (u v : ℕ) → IsChecked n → Precedes n u v → (u < vertex_count n) × (v < vertex_count n)
precedes_inside n u v k (inl g) =
    let i = has_inside n v g.0 k g.1 in
    (given_by n u v g.0 k g.1 g.2, omega (arith, i))
precedes_inside n u v k (inr t) =
    let i = direct_are n t.0 u t.3 in
    let j = some_at n t.0 t.2 in
    let e = t.1 in
    (omega (arith, i), omega (arith, j, e))

-- rows are a graph
pub rows_graph : (n : Net) (first edges : List ℕ) (top : ℕ) → top ≡ vertex_count n → AreRows (Precedes n) (vertex_count n) (vertex_count n) 0 first edges → IsGraph first edges top
rows_graph n first edges top e r = subst (λ t. IsGraph first edges t) (sym e) (record {
  size = r.size;
  rises = r.rises;
  ends = λ v h. r.ends (v + 1) (omega arith);
  inside = r.inside;
})

pub to_row : (n : Net) (first edges : List ℕ) → IsChecked n → AreRows (Precedes n) (vertex_count n) (vertex_count n) 0 first edges → (u v : ℕ) → Precedes n u v → graph.Determines first edges u v
to_row n first edges k r u v p = r.each u v (precedes_inside n u v k p).1 p

from_row : (n : Net) (first edges : List ℕ) → AreRows (Precedes n) (vertex_count n) (vertex_count n) 0 first edges → (u v : ℕ) → graph.Determines first edges u v → Precedes n u v
from_row n first edges r u v d = by_lt v (vertex_count n)
    (λ h. subst (λ z. Precedes n z v) d.3 (r.only d.0 v h d.1 d.2))
    (λ h. let s = r.size in let z = get_or_past first (v + 1) 0 (omega (arith, s)) in let m = d.2 in absurd (omega (arith, z, m)))

-- walks along another relation
walk_to : (R S : ℕ → ℕ → Type 0) → ((u v : ℕ) → R u v → S u v) → (a b k : ℕ) → walks.Walk R a b k → walks.Walk S a b k
walk_to R S f a b zero w = w
walk_to R S f a b (suc k) w = (w.0, walk_to R S f a w.0 k w.1, f w.0 b w.2)

-- Where the rows lead from one element to another, the net does; and where they lead to an instance, the net leads to one of its direct inputs.
abbrev Led : Net → ℕ → ℕ → ℕ → Type 0
Led n a b k = (b < length n.elements → (j : ℕ) × Walk (network_of n) a b j × (0 < k → 0 < j))
    × (length n.elements ≤ b → (c : ℕ) × (j : ℕ) × Walk (network_of n) a c j × Precedes n c b)

-- the origin that leads out of an instance
out_of : (n : Net) (c b i q : ℕ) → c ≡ length n.elements + i → IsChecked n → HasOrigin (network_of n) b (Out i q) → (d : ℕ) → Precedes n d c → Determines (network_of n) d b
out_of n c b i q e k h d (inl g) = let a = has_inside n c g.0 k g.1 in absurd (omega (arith, a, e))
out_of n c b i q e k h d (inr t) =
    let s : t.0 ≡ i = let f = t.1 in omega (arith, e, f) in
    (Out i q, h, subst (λ j. In d (direct_of (network_of n) j)) s t.3)

led_given : (n : Net) (a b c k : ℕ) (o : Origin ℕ ℕ) → IsChecked n → Led n a c k → HasOrigin (network_of n) b o → vertex_of (length n.elements) o ≡ Some c → (j : ℕ) × Walk (network_of n) a b j × (0 < suc k → 0 < j)
led_given n a b c k (Row q) f l h e = absurd (cc)
led_given n a b c k (From s) f l h e =
    let q : c ≡ s = let r : Some s ≡ Some c = e in cc in
    let i = reads_are n b (From s) s f h refl in
    let r = l.0 (omega (arith, q, i)) in
    (suc r.0, (c, r.1, (From s, h, q)), λ z. omega arith)
led_given n a b c k (Out i q) f l h e =
    let s : c ≡ length n.elements + i = let r : Some (length n.elements + i) ≡ Some c = e in cc in
    let r = l.1 (omega (arith, s)) in
    (suc r.1, (r.0, r.2, out_of n c b i q s f h r.0 r.3), λ z. omega arith)

led_to : (n : Net) (a b c k : ℕ) → IsChecked n → Led n a c k → Precedes n c b → b < length n.elements → (j : ℕ) × Walk (network_of n) a b j × (0 < suc k → 0 < j)
led_to n a b c k f l (inl g) h = led_given n a b c k g.0 f l g.1 g.2
led_to n a b c k f l (inr t) h = let e = t.1 in absurd (omega (arith, e, h))

led_at : (n : Net) (a b c k : ℕ) → IsChecked n → Led n a c k → Precedes n c b → length n.elements ≤ b → (d : ℕ) × (j : ℕ) × Walk (network_of n) a d j × Precedes n d b
led_at n a b c k f l (inl g) h = let i = has_inside n b g.0 f g.1 in absurd (omega (arith, i, h))
led_at n a b c k f l (inr t) h =
    let r = l.0 (direct_are n t.0 c t.3) in
    (c, r.0, r.1, inr t)

leads : (n : Net) (a b k : ℕ) → IsChecked n → a < length n.elements → walks.Walk (Precedes n) a b k → Led n a b k
leads n a b zero f h w = (λ i. (0, w, λ z. z), λ i. absurd (omega (arith, w)))
leads n a b (suc k) f h w =
    let l = leads n a w.0 k f h w.1 in
    (λ i. led_to n a b w.0 k f l w.2 i, λ i. led_at n a b w.0 k f l w.2 i)

-- and the other way
outs : (n : Net) (z b : ℕ) → IsChecked n → (c : Origin ℕ ℕ) → HasOrigin (network_of n) b c → Reads (network_of n) c z → (a k j : ℕ) → walks.Walk (Precedes n) a z j → k ≤ j → (i : ℕ) × walks.Walk (Precedes n) a b i × (suc k ≤ i)
outs n z b f (Row q) h r a k j w l = absurd r
outs n z b f (From s) h r a k j w l =
    let e : Some s ≡ Some z = ap Some (sym r) in
    (suc j, (z, w, inl (From s, h, e)), omega arith)
outs n z b f (Out i q) h r a k j w l =
    let m : ℕ = length n.elements + i in
    (suc (suc j), (m, (z, w, inr (i, refl, h.1, r)), inl (Out i q, h, refl)), omega arith)

pub back : (n : Net) (a b k : ℕ) → IsChecked n → Walk (network_of n) a b k → (j : ℕ) × walks.Walk (Precedes n) a b j × (k ≤ j)
back n a b zero f w = (0, w, omega arith)
back n a b (suc k) f w =
    let r = back n a w.0 k f w.1 in
    outs n w.0 b f w.2.0 w.2.1 w.2.2 a k r.0 r.1 r.2

-- loops
looped : (D : ℕ → ℕ → Type 0) (a k j : ℕ) → walks.Walk D a a j → suc k ≤ j → walks.OnLoop D a
looped D a k zero w h = absurd (omega arith)
looped D a k (suc j) w h = (j, w)

stepped : (n : Net) (a j : ℕ) → Walk (network_of n) a a j → 0 < j → OnLoop (network_of n) a
stepped n a zero w h = absurd (omega arith)
stepped n a (suc j) w h = (j, w)

loop_out : (n : Net) (a : ℕ) → IsChecked n → a < length n.elements → walks.OnLoop (Precedes n) a → OnLoop (network_of n) a
loop_out n a f h o =
    let l = (leads n a a (suc o.0) f h o.1).0 h in
    stepped n a l.0 l.1 (l.2 (omega arith))

loop_in : (n : Net) (a : ℕ) → IsChecked n → OnLoop (network_of n) a → walks.OnLoop (Precedes n) a
loop_in n a f o =
    let b = back n a a (suc o.0) f o.1 in
    looped (Precedes n) a o.0 b.0 b.1 b.2

-- a loop that comes by an instance comes by an element before
less : (n : Net) (u v : ℕ) → IsChecked n → Precedes n u v → length n.elements ≤ v → u < v
less n u v f (inl p) h = let i = has_inside n v p.0 f p.1 in absurd (omega (arith, i, h))
less n u v f (inr t) h = let i = direct_are n t.0 u t.3 in omega (arith, i, h)

pub least_vertex : (n : Net) (v : ℕ) → IsChecked n → walks.OnLoop (Precedes n) v → ((w : ℕ) → w < v → walks.OnLoop (Precedes n) w → ⊥) → v < length n.elements
least_vertex n v f o g = by_lt v (length n.elements) (λ h. h)
    (λ h. absurd (g o.1.0 (less n o.1.0 v f o.1.2 h) (o.0, walk_from (Precedes n) o.1.0 v o.1.0 o.0 o.1.2 o.1.1)))

-- the least element on a loop is one of the first instance that has one
pub first_loop : (n : Net) (v i : ℕ) → IsChecked n → i ≡ (element n v).instance → walks.OnLoop (Precedes n) v → ((w : ℕ) → w < v → walks.OnLoop (Precedes n) w → ⊥) → FirstLoop (network_of n) i
first_loop n v i f e o g =
    let h = least_vertex n v f o g in
    subst (λ y. FirstLoop (network_of n) y) (sym e) (
      (element n v).instance,
      number_at (length n.instances) (element n v).instance (f.indexed.numbers.owner v h),
      (v, in_all (length n.elements) v h, refl, loop_out n v f h o),
      λ j l less s q.
          let x : ℕ = q.0 in
          let b = below_all (length n.elements) x q.1 in
          let same = of_slice_numbers 0 (length n.instances) j l s in
          let own : (element n x).instance ≡ l = q.2 in
          by_lt x v (λ a. g x a (loop_in n x f q.3)) (λ a. let z = f.indexed.windows.rising v x a b in omega (arith, z, same, own, less)),
    )

-- what the search over the rows says of the net
pub order_to : (n : Net) (first edges order : List ℕ) (top : ℕ) → top ≡ vertex_count n → IsChecked n → AreRows (Precedes n) (vertex_count n) (vertex_count n) 0 first edges → IsOrder (graph.Determines first edges) top order → IsOrder (Precedes n) (vertex_count n) order
order_to n first edges order top e k r o = subst (λ t. IsOrder (Precedes n) t order) e (record {
  each = o.each;
  inside = o.inside;
  once = o.once;
  behind = λ j u h p. o.behind j u h (to_row n first edges k r u (get_or order j 0) p);
})

pub fault_to : (n : Net) (first edges : List ℕ) (top : ℕ) (r : SearchFault) → top ≡ vertex_count n → IsChecked n → AreRows (Precedes n) (vertex_count n) (vertex_count n) 0 first edges → IsSearchFault (graph.Determines first edges) top r → IsSearchFault (Precedes n) (vertex_count n) r
fault_to n first edges top (Loop v) e k r s =
    let from = from_row n first edges r in
    let to = to_row n first edges k r in
    let h = s.0 in (
      omega (arith, h, e),
      (s.1.0, walk_to (graph.Determines first edges) (Precedes n) from v v (suc s.1.0) s.1.1),
      λ w l p. s.2 w l (p.0, walk_to (Precedes n) (graph.Determines first edges) to w w (suc p.0) p.1),
    )
fault_to n first edges top OutOfMemory e k r s = s

pub no_loop : (n : Net) (first edges : List ℕ) (top : ℕ) → top ≡ vertex_count n → IsChecked n → AreRows (Precedes n) (vertex_count n) (vertex_count n) 0 first edges → ((v : ℕ) → v < top → walks.OnLoop (graph.Determines first edges) v → ⊥) → NoLoop (network_of n)
no_loop n first edges top e f r g x i l =
    let h = below_all (length n.elements) x i in
    let p = loop_in n x f l in
    g x (omega (arith, h, e)) (p.0, walk_to (Precedes n) (graph.Determines first edges) (to_row n first edges f r) x x (suc p.0) p.1)

pub rows_read : (D : ℕ → ℕ → Type 0) (top v x : ℕ) (first edges first2 edges2 : List ℕ) → AreRows D top v x first edges → first2 ≡ first → edges2 ≡ edges → AreRows D top v x first2 edges2
rows_read D top v x first edges first2 edges2 r a b = subst (λ l. AreRows D top v x l edges2) (sym a) (subst (λ l. AreRows D top v x first l) (sym b) r)

pub rows_count : (n : Net) (first edges : List ℕ) → AreRows (Precedes n) (vertex_count n) (vertex_count n) 0 first edges → length first - 1 ≡ vertex_count n
rows_count n first edges r = let s = r.size in omega (arith, s)

-- the fault by its vertex
loop_vertex : (n : Net) (v : ℕ) (r : SearchFault) → r ≡ Loop v → IsSearchFault (Precedes n) (vertex_count n) r → IsSearchFault (Precedes n) (vertex_count n) (Loop v)
loop_vertex n v r e s = subst (λ f. IsSearchFault (Precedes n) (vertex_count n) f) e s

pub loop_inside : (n : Net) (v : ℕ) (r : SearchFault) (xs : List NetElement) → IsChecked n → r ≡ Loop v → IsSearchFault (Precedes n) (vertex_count n) r → xs ≡ n.elements → v < length xs
loop_inside n v r xs f e s q =
    let p = loop_vertex n v r e s in
    let h = least_vertex n v f p.1 p.2 in
    let l : length xs ≡ length n.elements = ap length q in
    omega (arith, h, l)

pub loop_named : (n : Net) (v : ℕ) (r : SearchFault) (xs : List NetElement) (d : NetElement) → IsChecked n → r ≡ Loop v → IsSearchFault (Precedes n) (vertex_count n) r → xs ≡ n.elements → FirstLoop (network_of n) (get_or xs v d).instance
loop_named n v r xs d f e s q =
    let p = loop_vertex n v r e s in
    let h = least_vertex n v f p.1 p.2 in
    let i : (get_or xs v d).instance ≡ (element n v).instance = ap (λ l. (get_or l v d).instance) q ∙ ap (λ (y : NetElement). y.instance) (get_or_default n.elements v d no_element h) in
    first_loop n v (get_or xs v d).instance f i p.1 p.2
