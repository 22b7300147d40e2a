-- From the lists as they are written to the steps of the search.
use Rattle.std.proofs.Common.{refl, ℕ, suc, ◌+◌, ◌-◌, ◌<◌, ◌≤◌, ◌≡◌, ◌⊎◌, sym, ap, ◌∙◌, arith, true, false, inl, inr, List, [], ◌∷◌, ◌++◌, length, get_or, take, drop, set, slice_range, lt-ltb, length-take, length-drop, length-append}
use Rattle.std.proofs.lemmas.List.{get_or-take, get_or-drop, get_or-set_same, get_or-set_other, get_or_append_left, get_or-append-add, get_or_push}
use Rattle.std.proofs.lemmas.Bool.{ltb-true}
use Rattle.cdl_search.specs.declared.search.Search.{Search}
use Rattle.cdl_search.specs.Walks.{Reach}
use Rattle.cdl_search.specs.Search.{Opens, Merges, Closes}
use Rattle.cdl_search.specs.Graph.{IsGraph, Determines, Pushed, Merged, Closed, last_start, stacks}
use Rattle.cdl_search.proofs.Walking.{by_lt}

-- s with the last of its todo list taken, and u opened
pub opens_from : (first edges : List ℕ) (n a u : ℕ) (r s t : Search) → IsGraph first edges n → u < n → Pushed first edges u s t → length s.marks.items ≡ n → length s.starts.items ≡ length s.owed.items → s.marks.items ≡ r.marks.items → s.looped.items ≡ r.looped.items → s.held.items ≡ r.held.items → s.starts.items ≡ r.starts.items → s.owed.items ≡ r.owed.items → s.todo.items ≡ take a r.todo.items → a ≤ length r.todo.items → ((p : ℕ) → p < length r.todo.items → (p < a) ⊎ (get_or r.todo.items p 0 ≡ u)) → get_or r.marks.items u 0 ≡ 0 → ((p : ℕ) → p < length r.held.items → Reach (Determines first edges) u (get_or r.held.items p 0)) → ((i : ℕ) → i < length r.starts.items → get_or r.owed.items i 0 ≤ a) → Opens (Determines first edges) (stacks r) (stacks t) a u
opens_from first edges n a u r s t g hu k hm hp em el eh es eo et ha rest new reach low =
    let na : length s.todo.items ≡ a = rw et (omega (arith, length-take a r.todo.items)) in
    let lo : ℕ = get_or first u 0 in
    let hi : ℕ = get_or first (u + 1) 0 in
    let row : List ℕ = slice_range edges lo hi in
    let rises : lo ≤ hi = g.rises u hu in
    let ends : hi ≤ length edges = g.ends u hu in
    let nr : length row ≡ hi - lo = omega (arith, length-take (hi - lo) (drop lo edges), length-drop lo edges) in
    let nt : length t.todo.items ≡ a + (hi - lo) = rw k.todo (omega (arith, length-append s.todo.items row, na, nr)) in
    let in_row : (k : ℕ) → k < hi - lo → get_or row k 0 ≡ get_or edges (lo + k) 0 = λ k h. get_or-take (hi - lo) (drop lo edges) k 0 h ∙ get_or-drop lo edges k 0 in
    let v2 : length s.held.items + 2 ≡ suc (suc (length r.held.items)) = rw eh (omega arith) in
    let m1 : get_or t.marks.items u 0 ≡ length s.held.items + 2 = rw k.marks (get_or-set_same s.marks.items u (length s.held.items + 2) 0 (omega (arith, hm))) in
    let o1 : get_or t.owed.items (length s.owed.items) 0 ≡ length s.todo.items = rw k.owed (get_or_push s.owed.items (length s.todo.items) 0 (length s.owed.items) refl) in
    let late : (p : ℕ) → a ≤ p → p < length t.todo.items → get_or t.todo.items p 0 ≡ get_or edges (lo + (p - a)) 0 = λ p h l.
    let q : p ≡ length s.todo.items + (p - a) = omega (arith, na) in
    rw k.todo (ap (λ i. get_or (s.todo.items ++ row) i 0) q ∙ get_or-append-add s.todo.items row (p - a) 0 ∙ in_row (p - a) (omega (arith, nt))) in
    let ns : length s.starts.items ≡ length r.starts.items = ap (λ (x : List ℕ). length x) es in
    let no : length s.owed.items ≡ length r.starts.items = omega (arith, hp, ns) in
    record {
      fresh = new;
      reaches = reach;
      low = low;
      rest = rest;
      size = ha;
      mark_u = m1 ∙ v2;
      mark_v = λ v f. rw (k.marks, ← em) (get_or-set_other s.marks.items u v (length s.held.items + 2) 0 f);
      looped = λ v. ap (λ x. get_or x v false) (k.looped ∙ el);
      ns = rw (k.held, ← eh) (omega (arith, length-append s.held.items (u ∷ [])));
      open_old = λ p h. rw (k.held, ← eh) (get_or_append_left s.held.items (u ∷ []) 0 p (rw eh h));
      open_new = rw (k.held, ← eh) (get_or_push s.held.items u 0 (length s.held.items) refl);
      nw = omega (arith, nt);
      todo_old = λ p h. ap (λ x. get_or x p 0) k.todo ∙ get_or_append_left s.todo.items row 0 p (omega (arith, na)) ∙ ap (λ x. get_or x p 0) et ∙ get_or-take a r.todo.items p 0 h;
      todo_in = λ c d. (a + (d.0 - lo), omega arith, (let x = d.1 in let y = d.2 in omega (arith, nt, x, y)), late (a + (d.0 - lo)) (omega arith) (let x = d.1 in let y = d.2 in omega (arith, nt, x, y)) ∙ ap (λ i. get_or edges i 0) (let x = d.1 in omega (arith, x)) ∙ d.3);
      todo_out = λ p h l. (lo + (p - a), omega arith, omega (arith, nt), sym (late p h l));
      nb = rw (k.starts, ← es) (omega (arith, length-append s.starts.items (length s.held.items ∷ [])));
      bs_old = λ i h. rw (k.starts, ← es) (get_or_append_left s.starts.items (length s.held.items ∷ []) 0 i (rw es h));
      bw_old = λ i h. rw (k.owed, ← eo) (get_or_append_left s.owed.items (length s.todo.items ∷ []) 0 i (omega (arith, no)));
      bs_new = rw (k.starts, ← es, ← eh) (get_or_push s.starts.items (length s.held.items) 0 (length s.starts.items) refl);
      bw_new = ap (λ i. get_or t.owed.items i 0) (sym no) ∙ o1 ∙ na;
    }

-- s with the last of its todo list taken, which is open, and its flag set
pub merges_from : (a u b : ℕ) (r s t : Search) → a + 1 ≡ length r.todo.items → get_or r.todo.items a 0 ≡ u → ((i : ℕ) → i < length r.starts.items → get_or r.owed.items i 0 ≤ a) → get_or r.marks.items u 0 ≡ suc (suc b) → ((i j : ℕ) → i < j → j < length r.starts.items → get_or r.starts.items i 0 < get_or r.starts.items j 0) → Merged b s t → u < length r.looped.items → s.marks.items ≡ r.marks.items → s.looped.items ≡ set r.looped.items u true → s.held.items ≡ r.held.items → s.starts.items ≡ r.starts.items → s.owed.items ≡ r.owed.items → s.todo.items ≡ take a r.todo.items → Merges (stacks r) (stacks t) a u b
merges_from a u b r s t la au lo is rises k hl em el eh es eo et =
    let c = k.dropped.cut in
    let ns : length s.starts.items ≡ length r.starts.items = ap (λ (x : List ℕ). length x) es in
    let bs : (i : ℕ) → i < length t.starts.items → get_or t.starts.items i 0 ≡ get_or r.starts.items i 0 = λ i h. ap (λ x. get_or x i 0) c.starts ∙ get_or-take (length t.starts.items) s.starts.items i 0 h ∙ ap (λ x. get_or x i 0) es in
    let bw : (i : ℕ) → i < length t.starts.items → get_or t.owed.items i 0 ≡ get_or r.owed.items i 0 = λ i h. ap (λ x. get_or x i 0) c.owed ∙ get_or-take (length t.starts.items) s.owed.items i 0 h ∙ ap (λ x. get_or x i 0) eo in
    let nt : length t.todo.items ≡ length (take a r.todo.items) = ap (λ (x : List ℕ). length x) (k.dropped.todo ∙ et) in
    record {
      last = la;
      at = au;
      low_todo = lo;
      is = is;
      mark = λ v. ap (λ x. get_or x v 0) (k.dropped.marks ∙ em);
      flag_u = ap (λ x. get_or x u false) (k.dropped.looped ∙ el) ∙ get_or-set_same r.looped.items u true false hl;
      flag_v = λ v f. ap (λ x. get_or x v false) (k.dropped.looped ∙ el) ∙ get_or-set_other r.looped.items u v true false f;
      ns = ap (λ (x : List ℕ). length x) (k.dropped.held ∙ eh);
      opens = λ p h. ap (λ x. get_or x p 0) (k.dropped.held ∙ eh);
      nw = omega (arith, nt, length-take a r.todo.items);
      todos = λ p h. ap (λ x. get_or x p 0) (k.dropped.todo ∙ et) ∙ get_or-take a r.todo.items p 0 h;
      nb = omega (arith, c.fewer, ns);
      bs = bs;
      bw = bw;
      low = λ i h.
          let m : ℕ = length t.starts.items - 1 in
          let q = k.last (omega arith) in
          let e : get_or t.starts.items m 0 ≡ get_or r.starts.items m 0 = bs m (omega arith) in
          by_lt i m
          (λ l. let g = rises i m l (omega (arith, c.fewer, ns)) in omega (arith, g, q, e))
          (λ l. let g : i ≡ m = omega arith in rw (g, ← e) q);
      high = λ i h l. rw (← es) (c.high i h (omega (arith, ns)));
    }

-- the last segment was closed
pub closes_from : (t : ℕ) (r s : Search) → t + 1 ≡ length r.starts.items → length r.todo.items ≤ get_or r.owed.items t 0 → last_start r ≤ length r.held.items → Closed r s → Closes (stacks r) (stacks s) t
closes_from t r s top empty above k =
    let e : length r.starts.items - 1 ≡ t = omega arith in
    let st : last_start r ≡ get_or r.starts.items t 0 = ap (λ i. get_or r.starts.items i 0) e in
    let ct : s.starts.items ≡ take t r.starts.items = k.starts ∙ ap (λ i. take i r.starts.items) e in
    let co : s.owed.items ≡ take t r.owed.items = k.owed ∙ ap (λ i. take i r.owed.items) e in
    let nb : length s.starts.items ≡ length (take t r.starts.items) = ap (λ (x : List ℕ). length x) ct in
    let nh : length s.held.items ≡ length (take (last_start r) r.held.items) = ap (λ (x : List ℕ). length x) k.held in
    let d = k.done in
    record {
      top = top;
      empty = empty;
      ns = omega (arith, nh, length-take (last_start r) r.held.items, st, above);
      opens = λ p h. ap (λ x. get_or x p 0) k.held ∙ get_or-take (last_start r) r.held.items p 0 (omega (arith, st));
      nw = ap (λ (x : List ℕ). length x) k.todo;
      todos = λ p h. ap (λ x. get_or x p 0) k.todo;
      nb = omega (arith, nb, length-take t r.starts.items);
      bs = λ i h. ap (λ x. get_or x i 0) ct ∙ get_or-take t r.starts.items i 0 h;
      bw = λ i h. ap (λ x. get_or x i 0) co ∙ get_or-take t r.owed.items i 0 h;
      gone = λ p h l. d.gone p (omega (arith, st)) l;
      kept = λ v f. d.kept v (λ p h l. f p (omega (arith, st)) l);
      many = λ h p l m. d.many (lt-ltb (last_start r + 1) (length r.held.items) (omega (arith, st))) p (omega (arith, st)) m;
      up = λ v h. d.up v h;
      down = λ v h. elim (d.down v h) as (λ _. (get_or r.looped.items v false ≡ true) ⊎ ((p : ℕ) × (get_or r.starts.items t 0 ≤ p) × (p < length r.held.items) × (get_or r.held.items p 0 ≡ v) × (get_or r.starts.items t 0 + 1 < length r.held.items))) [
        | inl q ↦ inl q
        | inr q ↦ (let w : last_start r + 1 < length r.held.items = ltb-true (last_start r + 1) (length r.held.items) q.4 in inr (q.0, omega (arith, st, q.1), q.2, q.3, omega (arith, st, w)))
      ];
    }
