-- What a search has found stands after each step.
use Rattle.std.proofs.Common.{ℕ, suc, ◌+◌, ◌-◌, ◌<◌, ◌≤◌, ◌≡◌, refl, sym, ap, ◌∙◌, subst, arith, Bool, true, false, inl, inr, List, [], ◌∷◌, length, get_or, take, drop, set, slice_range, length-take, length-set, length-append, length-drop}
use Rattle.std.proofs.lemmas.List.{take_all}
use Rattle.cdl_search.proofs.Glue.{opens_from, merges_from, closes_from}
use Rattle.std.proofs.lemmas.List.{get_or-take, get_or-drop, get_or_append_left, get_or-append-add}
use Rattle.cdl_search.specs.declared.search.Search.{Search}
use Rattle.cdl_search.specs.Search.{Stacks, Opens, Merges, Skips, Closes, Sorted}
use Rattle.cdl_search.specs.Graph.{IsGraph, Determines, Pushed, Merged, Closed, last_start, stacks, order_at, Ranged, Found}
use Rattle.cdl_search.proofs.Walking.{by_lt, by_eq, reach_from}
use Rattle.cdl_search.proofs.Steps.{top_reaches, open_keeps, skip_keeps, merge_keeps, close_keeps}
use Rattle.cdl_search.proofs.Sorting.{sorted_same, sorted_close}

listed_as : (D : ℕ → ℕ → Type 0) (x : Stacks) (o o' : List ℕ) → o' ≡ o → Sorted D x (length o) (λ j. get_or o j 0) → Sorted D x (length o') (λ j. get_or o' j 0)
listed_as D x o o' e s = subst (λ z. Sorted D x (length z) (λ j. get_or z j 0)) (sym e) s

pub found_open : (first edges : List ℕ) (n a u : ℕ) (r t : Search) → Found first edges n r → Opens (Determines first edges) (stacks r) (stacks t) a u → Ranged t n → t.order.items ≡ r.order.items → Found first edges n t
found_open first edges n a u r t f z w o =
    let D = Determines first edges in
    record {
      ranged = w;
      inv = open_keeps D (stacks r) (stacks t) a u f.inv z;
      sorted = listed_as D (stacks t) r.order.items t.order.items o (sorted_same D (stacks r) (stacks t) (length r.order.items) (order_at r) f.sorted
          (λ v h. by_eq v u
          (λ e. let q : 1 ≡ suc (suc (length r.held.items)) = sym h ∙ ap (stacks t).mark e ∙ z.mark_u in absurd (omega arith))
          (λ e. sym (z.mark_v v e) ∙ h))
          (λ v h. z.mark_v v (λ e. let q : 1 ≡ 0 = sym h ∙ ap (stacks r).mark e ∙ z.fresh in omega arith) ∙ h)
          (λ v h. z.looped v));
    }

pub found_skip : (first edges : List ℕ) (n a u : ℕ) (r t : Search) → Found first edges n r → Skips (stacks r) (stacks t) a u → Ranged t n → t.order.items ≡ r.order.items → Found first edges n t
found_skip first edges n a u r t f z w o =
    let D = Determines first edges in
    record {
      ranged = w;
      inv = skip_keeps D (stacks r) (stacks t) a u f.inv z;
      sorted = listed_as D (stacks t) r.order.items t.order.items o (sorted_same D (stacks r) (stacks t) (length r.order.items) (order_at r) f.sorted
          (λ v h. sym (z.mark v) ∙ h)
          (λ v h. z.mark v ∙ h)
          (λ v h. z.looped v));
    }

pub found_merge : (first edges : List ℕ) (n a u b : ℕ) (r t : Search) → Found first edges n r → Merges (stacks r) (stacks t) a u b → Ranged t n → t.order.items ≡ r.order.items → Found first edges n t
found_merge first edges n a u b r t f z w o =
    let D = Determines first edges in
    record {
      ranged = w;
      inv = merge_keeps D (stacks r) (stacks t) a u b f.inv z;
      sorted = listed_as D (stacks t) r.order.items t.order.items o (sorted_same D (stacks r) (stacks t) (length r.order.items) (order_at r) f.sorted
          (λ v h. sym (z.mark v) ∙ h)
          (λ v h. z.mark v ∙ h)
          (λ v h. z.flag_v v (λ e. let q : 1 ≡ suc (suc b) = sym h ∙ ap (stacks r).mark e ∙ z.is in omega arith)));
    }

pub found_close : (first edges : List ℕ) (n t : ℕ) (r s : Search) → Found first edges n r → Closes (stacks r) (stacks s) t → Closed r s → last_start r ≡ get_or r.starts.items t 0 → last_start r ≤ length r.held.items → Ranged s n → Found first edges n s
found_close first edges n t r s f z k e l w =
    let D = Determines first edges in
    let d = k.done in
    record {
      ranged = w;
      inv = close_keeps D (stacks r) (stacks s) t f.inv z;
      sorted = sorted_close D (stacks r) (stacks s) t (length r.order.items) (length s.order.items) (order_at r) (order_at s) f.inv z f.sorted
          (omega (arith, d.listed, e, l))
          (λ j h. d.old j h)
          (λ p h m. ap (λ i. get_or s.order.items (length r.order.items + (p - i)) 0) (sym e) ∙ d.new p (omega (arith, e)) m);
    }

-- the numbers of a search after a vertex was opened
pub ranged_open : (first edges : List ℕ) (n a u : ℕ) (r s t : Search) → IsGraph first edges n → u < n → Ranged r n → Pushed first edges u s t → s.marks.items ≡ r.marks.items → s.looped.items ≡ r.looped.items → s.held.items ≡ r.held.items → s.starts.items ≡ r.starts.items → s.owed.items ≡ r.owed.items → s.order.items ≡ r.order.items → s.todo.items ≡ take a r.todo.items → Ranged t n
ranged_open first edges n a u r s t g hu w k em el eh es eo ed et =
    let len : (x y : List ℕ) → x ≡ y → length x ≡ length y = λ x y e. ap (λ (z : List ℕ). length z) e in
    let lo : ℕ = get_or first u 0 in
    let hi : ℕ = get_or first (u + 1) 0 in
    let ns : length s.starts.items ≡ length r.starts.items = len s.starts.items r.starts.items es in
    let no : length s.owed.items ≡ length r.owed.items = len s.owed.items r.owed.items eo in
    let nm : length s.marks.items ≡ length r.marks.items = len s.marks.items r.marks.items em in
    let nt : length s.todo.items ≡ length (take a r.todo.items) = len s.todo.items (take a r.todo.items) et in
    record {
      marks = rw k.marks (omega (arith, length-set s.marks.items u (length s.held.items + 2), nm, w.marks));
      looped = ap (λ (z : List Bool). length z) (k.looped ∙ el) ∙ w.looped;
      pairs = rw (k.starts, k.owed) (omega (arith, length-append s.starts.items (length s.held.items ∷ []), length-append s.owed.items (length s.todo.items ∷ []), ns, no, w.pairs));
      held = λ p h. by_lt p (length s.held.items)
          (λ l. rw (k.held, get_or_append_left s.held.items (u ∷ []) 0 p l, eh) (w.held p (rw (← eh) l)))
          (λ l. let m : p ≡ length s.held.items + 0 = (let q : length t.held.items ≡ length s.held.items + 1 = rw k.held (length-append s.held.items (u ∷ [])) in omega arith) in
          rw (k.held, m, get_or-append-add s.held.items (u ∷ []) 0 0) hu);
      todo = λ p h. by_lt p (length s.todo.items)
          (λ l. let e : get_or s.todo.items p 0 ≡ get_or r.todo.items p 0 = ap (λ z. get_or z p 0) et ∙ get_or-take a r.todo.items p 0 (omega (arith, nt, length-take a r.todo.items)) in
          rw (k.todo, get_or_append_left s.todo.items (slice_range edges lo hi) 0 p l, e) (w.todo p (omega (arith, nt, length-take a r.todo.items))))
          (λ l. let q : length t.todo.items ≡ length s.todo.items + length (slice_range edges lo hi) = rw k.todo (length-append s.todo.items (slice_range edges lo hi)) in
          let b : ℕ = p - length s.todo.items in
          let m : p ≡ length s.todo.items + b = omega arith in
          let c : b < hi - lo = omega (arith, length-take (hi - lo) (drop lo edges), length-drop lo edges) in
          let ends : hi ≤ length edges = g.ends u hu in
          rw (k.todo, m, get_or-append-add s.todo.items (slice_range edges lo hi) b 0, get_or-take (hi - lo) (drop lo edges) b 0 c, get_or-drop lo edges b 0) (g.inside (lo + b) (omega arith)));
      order = λ p h. rw (k.order, ed) (w.order p (rw (k.order, ed) at h));
    }

pub after_begin : (first edges : List ℕ) (n u : ℕ) (r t : Search) → IsGraph first edges n → Found first edges n r → length r.starts.items ≡ 0 → u < n → get_or r.marks.items u 0 ≡ 0 → Pushed first edges u r t → Found first edges n t
after_begin first edges n u r t g f e hu new k =
    let z = f.inv.none e in
    let a : ℕ = length r.todo.items in
    let et : r.todo.items ≡ take a r.todo.items = sym (take_all a r.todo.items (omega arith)) in
    found_open first edges n a u r t f
    (opens_from first edges n a u r r t g hu k f.ranged.marks f.ranged.pairs refl refl refl refl refl et (omega arith) (λ p h. inl h) new
    (λ p h. absurd (omega (arith, z.0)))
    (λ i h. absurd (omega arith)))
    (ranged_open first edges n a u r r t g hu f.ranged k refl refl refl refl refl refl et)
    k.order

pub after_close : (first edges : List ℕ) (n : ℕ) (r s : Search) → Found first edges n r → 0 < length r.starts.items → length r.todo.items ≤ get_or r.owed.items (length r.starts.items - 1) 0 → Closed r s → Found first edges n s
after_close first edges n r s f h e k =
    let t : ℕ = length r.starts.items - 1 in
    let lt : t < length r.starts.items = omega arith in
    let st = f.inv.starts t lt in
    let w = f.ranged in
    let above : last_start r ≤ length r.held.items = omega (arith, st.0) in
    let d = k.done in
    let len : (x y : List ℕ) → x ≡ y → length x ≡ length y = λ x y e. ap (λ (z : List ℕ). length z) e in
    let ns : length s.starts.items ≡ length (take t r.starts.items) = len s.starts.items (take t r.starts.items) k.starts in
    let no : length s.owed.items ≡ length (take t r.owed.items) = len s.owed.items (take t r.owed.items) k.owed in
    let nh : length s.held.items ≡ length (take (last_start r) r.held.items) = len s.held.items (take (last_start r) r.held.items) k.held in
    found_close first edges n t r s f (closes_from t r s (omega arith) e above k) k refl above (record {
      marks = d.marks ∙ w.marks;
      looped = d.flags ∙ w.looped;
      pairs = omega (arith, ns, no, length-take t r.starts.items, length-take t r.owed.items, w.pairs);
      held = λ p h.
          let m : p < last_start r = omega (arith, nh, length-take (last_start r) r.held.items) in
          rw (k.held, get_or-take (last_start r) r.held.items p 0 m) (w.held p (omega (arith, above, m)));
      todo = λ p h. rw k.todo (w.todo p (rw k.todo at h));
      order = λ p h. by_lt p (length r.order.items)
          (λ l. rw (d.old p l) (w.order p l))
          (λ l. let q : ℕ = last_start r + (p - length r.order.items) in
          let a : last_start r ≤ q = omega arith in
          let b : q < length r.held.items = omega (arith, d.listed, above) in
          let c : length r.order.items + (q - last_start r) ≡ p = omega arith in
          rw (← c, d.new q a b) (w.held q b));
    })

-- what is owed for each segment begins at or below the last of the todo list
lowest : (first edges : List ℕ) (n a : ℕ) (r : Search) → Found first edges n r → 0 < length r.starts.items → get_or r.owed.items (length r.starts.items - 1) 0 < length r.todo.items → a + 1 ≡ length r.todo.items → (i : ℕ) → i < length r.starts.items → get_or r.owed.items i 0 ≤ a
lowest first edges n a r f h m la i l = by_lt i (length r.starts.items - 1)
    (λ b. let g = f.inv.rising i (length r.starts.items - 1) b (omega arith) in omega (arith, g.1))
    (λ b. let e : i ≡ length r.starts.items - 1 = omega arith in rw e (omega arith))

pub after_open : (first edges : List ℕ) (n a u : ℕ) (r s t : Search) → IsGraph first edges n → Found first edges n r → 0 < length r.starts.items → get_or r.owed.items (length r.starts.items - 1) 0 < length r.todo.items → a + 1 ≡ length r.todo.items → get_or r.todo.items a 0 ≡ u → get_or r.marks.items u 0 ≡ 0 → s.marks.items ≡ r.marks.items → s.looped.items ≡ r.looped.items → s.held.items ≡ r.held.items → s.starts.items ≡ r.starts.items → s.owed.items ≡ r.owed.items → s.order.items ≡ r.order.items → s.todo.items ≡ take a r.todo.items → Pushed first edges u s t → Found first edges n t
after_open first edges n a u r s t g f h m la au new em el eh es eo ed et k =
    let w = f.ranged in
    let al : a < length r.todo.items = omega arith in
    let hu : u < n = rw (← au) (w.todo a al) in
    let low = lowest first edges n a r f h m la in
    found_open first edges n a u r t f
    (opens_from first edges n a u r s t g hu k (ap (λ (z : List ℕ). length z) em ∙ w.marks) (ap (λ (z : List ℕ). length z) es ∙ w.pairs ∙ sym (ap (λ (z : List ℕ). length z) eo)) em el eh es eo et (omega arith)
    (λ p l. by_lt p a (λ b. inl b) (λ b. let e : p ≡ a = omega arith in inr (rw e au)))
    new
    (λ p l. let q = top_reaches (Determines first edges) (stacks r) a p f.inv al low l in
    reach_from (Determines first edges) u q.0 (get_or r.held.items p 0) (subst (λ z. Determines first edges z q.0) au q.1) q.2)
    low)
    (ranged_open first edges n a u r s t g hu w k em el eh es eo ed et)
    (k.order ∙ ed)

shorter : (n a : ℕ) (xs ys : List ℕ) → ys ≡ take a xs → ((p : ℕ) → p < length xs → get_or xs p 0 < n) → (p : ℕ) → p < length ys → get_or ys p 0 < n
shorter n a xs ys e f p h =
    let l : length ys ≡ length (take a xs) = ap (λ (z : List ℕ). length z) e in
    let m : p < a = omega (arith, length-take a xs) in
    rw (e, get_or-take a xs p 0 m) (f p (omega (arith, length-take a xs)))

pub after_skip : (first edges : List ℕ) (n a u : ℕ) (r t : Search) → Found first edges n r → 0 < length r.starts.items → get_or r.owed.items (length r.starts.items - 1) 0 < length r.todo.items → a + 1 ≡ length r.todo.items → get_or r.todo.items a 0 ≡ u → get_or r.marks.items u 0 ≡ 1 → t.marks.items ≡ r.marks.items → t.looped.items ≡ r.looped.items → t.held.items ≡ r.held.items → t.starts.items ≡ r.starts.items → t.owed.items ≡ r.owed.items → t.order.items ≡ r.order.items → t.todo.items ≡ take a r.todo.items → Found first edges n t
after_skip first edges n a u r t f h m la au is em el eh es eo ed et =
    let w = f.ranged in
    let nt : length t.todo.items ≡ length (take a r.todo.items) = ap (λ (z : List ℕ). length z) et in
    found_skip first edges n a u r t f (record {
      last = la;
      at = au;
      low_todo = lowest first edges n a r f h m la;
      is = is;
      mark = λ v. ap (λ z. get_or z v 0) em;
      looped = λ v. ap (λ z. get_or z v false) el;
      ns = ap (λ (z : List ℕ). length z) eh;
      opens = λ p l. ap (λ z. get_or z p 0) eh;
      nw = omega (arith, nt, length-take a r.todo.items);
      todos = λ p l. ap (λ z. get_or z p 0) et ∙ get_or-take a r.todo.items p 0 l;
      nb = ap (λ (z : List ℕ). length z) es;
      bs = λ i l. ap (λ z. get_or z i 0) es;
      bw = λ i l. ap (λ z. get_or z i 0) eo;
    }) (record {
      marks = ap (λ (z : List ℕ). length z) em ∙ w.marks;
      looped = ap (λ (z : List Bool). length z) el ∙ w.looped;
      pairs = ap (λ (z : List ℕ). length z) es ∙ w.pairs ∙ sym (ap (λ (z : List ℕ). length z) eo);
      held = λ p l. rw eh (w.held p (rw (← eh) l));
      todo = shorter n a r.todo.items t.todo.items et w.todo;
      order = λ p l. rw ed (w.order p (rw (← ed) l));
    }) ed

pub after_merge : (first edges : List ℕ) (n a u b : ℕ) (r s t : Search) → Found first edges n r → 0 < length r.starts.items → get_or r.owed.items (length r.starts.items - 1) 0 < length r.todo.items → a + 1 ≡ length r.todo.items → get_or r.todo.items a 0 ≡ u → get_or r.marks.items u 0 ≡ suc (suc b) → s.marks.items ≡ r.marks.items → s.looped.items ≡ set r.looped.items u true → s.held.items ≡ r.held.items → s.starts.items ≡ r.starts.items → s.owed.items ≡ r.owed.items → s.order.items ≡ r.order.items → s.todo.items ≡ take a r.todo.items → Merged b s t → Found first edges n t
after_merge first edges n a u b r s t f h m la au is em el eh es eo ed et k =
    let w = f.ranged in
    let q = k.dropped in
    let al : a < length r.todo.items = omega arith in
    let hu : u < length r.looped.items = rw (← au) (let x = w.todo a al in omega (arith, x, w.looped)) in
    found_merge first edges n a u b r t f
    (merges_from a u b r s t la au (lowest first edges n a r f h m la) is (λ i j x y. (f.inv.rising i j x y).0) k hu em el eh es eo et)
    (record {
      marks = ap (λ (z : List ℕ). length z) (q.marks ∙ em) ∙ w.marks;
      looped = ap (λ (z : List Bool). length z) (q.looped ∙ el) ∙ length-set r.looped.items u true ∙ w.looped;
      pairs = sym q.cut.pairs;
      held = λ p l. rw (q.held, eh) (w.held p (rw (← eh, ← q.held) l));
      todo = shorter n a r.todo.items t.todo.items (q.todo ∙ et) w.todo;
      order = λ p l. rw (q.order, ed) (w.order p (rw (← ed, ← q.order) l));
    })
    (q.order ∙ ed)
