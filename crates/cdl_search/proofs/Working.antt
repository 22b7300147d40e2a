-- Each step leaves less to be done.
use Rattle.std.proofs.Common.{ℕ, zero, suc, ◌+◌, ◌-◌, ◌*◌, ◌<◌, ◌≤◌, ◌≡◌, refl, sym, ap, ◌∙◌, subst, arith, false, inl, inr, List, [], ◌∷◌, length, get_or, take, drop, set, slice_range, length-take, length-append, length-drop}
use Rattle.std.proofs.Math.Nat.{suc-mul}
use Rattle.std.proofs.lemmas.Bool.{false≢true}
use Rattle.std.proofs.Math.Nat.{mul-le-mul_right}
use Rattle.cdl_search.proofs.Steps.{is_seen, Fate, fate}
use Rattle.cdl_search.proofs.Glue.{closes_from}
use Rattle.cdl_search.proofs.Founds.{after_close}
use Rattle.std.proofs.lemmas.List.{get_or_read, get_or-set_same, get_or-set_other}
use Rattle.cdl_search.specs.declared.search.Search.{Search}
use Rattle.cdl_search.specs.Graph.{IsGraph, Determines, Pushed, Closed, last_start, stacks, Found, Stepped, zeros}
use Rattle.cdl_search.proofs.Walking.{by_lt, by_eq}

zeros_set : (ms : List ℕ) (u x : ℕ) → u < length ms → get_or ms u 0 ≡ 0 → zeros (set ms u (suc x)) + 1 ≡ zeros ms
zeros_set [] u x h e = absurd (omega arith)
zeros_set (zero ∷ ms) zero x h e = omega arith
zeros_set (suc m ∷ ms) zero x h e = absurd (omega arith)
zeros_set (zero ∷ ms) (suc u) x h e = let r : zeros (set ms u (suc x)) + 1 ≡ zeros ms = zeros_set ms u x (omega arith) e in omega arith
zeros_set (suc m ∷ ms) (suc u) x h e = zeros_set ms u x (omega arith) e

zeros_le : (xs ys : List ℕ) → length xs ≡ length ys → ((v : ℕ) → get_or ys v 0 ≡ 0 → get_or xs v 0 ≡ 0) → zeros ys ≤ zeros xs
zeros_le [] [] l f = omega arith
zeros_le [] (y ∷ ys) l f = absurd (omega arith)
zeros_le (x ∷ xs) [] l f = absurd (omega arith)
zeros_le (zero ∷ xs) (zero ∷ ys) l f = let r : zeros ys ≤ zeros xs = zeros_le xs ys (omega arith) (λ v. f (suc v)) in omega arith
zeros_le (zero ∷ xs) (suc y ∷ ys) l f = let r : zeros ys ≤ zeros xs = zeros_le xs ys (omega arith) (λ v. f (suc v)) in omega arith
zeros_le (suc x ∷ xs) (zero ∷ ys) l f = let e : suc x ≡ 0 = f 0 refl in absurd (omega arith)
zeros_le (suc x ∷ xs) (suc y ∷ ys) l f = zeros_le xs ys (omega arith) (λ v. f (suc v))

fewer_times : (a b w : ℕ) → a + 1 ≡ b → b * w ≡ a * w + w
fewer_times a b w e = let f : b ≡ suc a = omega arith in rw f (let g = suc-mul a w in omega (arith, g))

pub step_open : (first edges : List ℕ) (n a u : ℕ) (r s t : Search) → IsGraph first edges n → u < n → length r.marks.items ≡ n → a + 1 ≡ length r.todo.items → get_or r.marks.items u 0 ≡ 0 → s.marks.items ≡ r.marks.items → s.starts.items ≡ r.starts.items → s.todo.items ≡ take a r.todo.items → Pushed first edges u s t → Found first edges n t → Stepped first edges n r t
step_open first edges n a u r s t g hu nr la new em es et k f =
    let lo : ℕ = get_or first u 0 in
    let hi : ℕ = get_or first (u + 1) 0 in
    let row : List ℕ = slice_range edges lo hi in
    let x : ℕ = length s.held.items + 1 in
    let two : length s.held.items + 2 ≡ suc x = omega arith in
    let marks : t.marks.items ≡ set r.marks.items u (suc x) = k.marks ∙ ap (λ m. set m u (length s.held.items + 2)) em ∙ ap (λ i. set r.marks.items u i) two in
    let z : zeros t.marks.items + 1 ≡ zeros r.marks.items = rw marks (zeros_set r.marks.items u x (omega (arith, nr)) new) in
    let q = fewer_times (zeros t.marks.items) (zeros r.marks.items) (length edges + 2) z in
    let nt : length t.todo.items ≡ length (take a r.todo.items) + length row = ap (λ (y : List ℕ). length y) k.todo ∙ length-append s.todo.items row ∙ ap (λ (y : List ℕ). length y + length row) et in
    let ns : length t.starts.items ≡ length r.starts.items + 1 = ap (λ (y : List ℕ). length y) k.starts ∙ length-append s.starts.items (length s.held.items ∷ []) ∙ ap (λ (y : List ℕ). length y + 1) es in
    let rl : length row ≤ length edges = omega (arith, length-take (hi - lo) (drop lo edges), length-drop lo edges) in
    record {
      found = f;
      less = omega (arith, q, nt, ns, rl, length-take a r.todo.items, la);
      kept = λ v h. by_eq v u
          (λ e. let y : 1 ≡ 0 = sym h ∙ ap (λ i. get_or r.marks.items i 0) e ∙ new in absurd (omega arith))
          (λ e. ap (λ m. get_or m v 0) marks ∙ get_or-set_other r.marks.items u v (suc x) 0 e ∙ h);
      fresh = λ v h. by_eq v u
          (λ e. ap (λ i. get_or r.marks.items i 0) e ∙ new)
          (λ e. sym (ap (λ m. get_or m v 0) marks ∙ get_or-set_other r.marks.items u v (suc x) 0 e) ∙ h);
    }

pub step_same : (first edges : List ℕ) (n a : ℕ) (r t : Search) → a + 1 ≡ length r.todo.items → t.marks.items ≡ r.marks.items → t.todo.items ≡ take a r.todo.items → length t.starts.items ≤ length r.starts.items → Found first edges n t → Stepped first edges n r t
step_same first edges n a r t la em et ns f =
    let nt : length t.todo.items ≡ length (take a r.todo.items) = ap (λ (y : List ℕ). length y) et in
    let q : zeros t.marks.items * (length edges + 2) ≡ zeros r.marks.items * (length edges + 2) = ap (λ m. zeros m * (length edges + 2)) em in
    record {
      found = f;
      less = omega (arith, q, nt, ns, length-take a r.todo.items, la);
      kept = λ v h. ap (λ m. get_or m v 0) em ∙ h;
      fresh = λ v h. sym (ap (λ m. get_or m v 0) em) ∙ h;
    }

not_none : (m : ℕ) → suc m ≡ 0 → ⊥
not_none m e = omega arith

pub step_close : (first edges : List ℕ) (n : ℕ) (r s : Search) → Found first edges n r → 0 < length r.starts.items → length r.todo.items ≤ get_or r.owed.items (length r.starts.items - 1) 0 → Closed r s → Stepped first edges n r s
step_close first edges n r s f h e k =
    let t : ℕ = length r.starts.items - 1 in
    let st = f.inv.starts t (omega arith) in
    let above : last_start r ≤ length r.held.items = omega (arith, st.0) in
    let z = closes_from t r s (omega arith) e above k in
    let ft : (v : ℕ) → Fate (stacks r) (stacks s) t v = λ v. fate (Determines first edges) (stacks r) (stacks s) t v f.inv z in
    let fresh : (v : ℕ) → get_or s.marks.items v 0 ≡ 0 → get_or r.marks.items v 0 ≡ 0 = λ v q.
    elim (is_seen (get_or r.marks.items v 0)) as (λ _. get_or r.marks.items v 0 ≡ 0) [
      | inl m ↦ m
      | inr c ↦ elim c as (λ _. get_or r.marks.items v 0 ≡ 0) [
        | inl m ↦ absurd (not_none 0 (sym ((ft v).done m) ∙ q))
        | inr m ↦ by_lt m.0 (get_or r.starts.items t 0)
            (λ l. absurd (not_none (suc m.0) (sym ((ft v).low m.0 m.1 l) ∙ q)))
            (λ l. absurd (not_none 0 (sym ((ft v).high m.0 m.1 l) ∙ q)))
      ]
    ] in
    let zl : zeros s.marks.items ≤ zeros r.marks.items = zeros_le r.marks.items s.marks.items (sym k.done.marks) fresh in
    let q : zeros s.marks.items * (length edges + 2) ≤ zeros r.marks.items * (length edges + 2) = mul-le-mul_right (length edges + 2) zl in
    let nt : length s.todo.items ≡ length r.todo.items = ap (λ (y : List ℕ). length y) k.todo in
    let ns : length s.starts.items ≡ length (take t r.starts.items) = ap (λ (y : List ℕ). length y) k.starts in
    record {
      found = after_close first edges n r s f h e k;
      less = omega (arith, q, nt, ns, length-take t r.starts.items);
      kept = λ v m. (ft v).done m;
      fresh = fresh;
    }

-- where no segment is left, a vertex that isn't new is done
pub all_closed : (first edges : List ℕ) (n u : ℕ) (s : Search) → Found first edges n s → length s.starts.items ≡ 0 → (get_or s.marks.items u 0 ≡ 0 → ⊥) → get_or s.marks.items u 0 ≡ 1
all_closed first edges n u s f e g = elim (is_seen (get_or s.marks.items u 0)) as (λ _. get_or s.marks.items u 0 ≡ 1) [
  | inl m ↦ absurd (g m)
  | inr c ↦ elim c as (λ _. get_or s.marks.items u 0 ≡ 1) [
    | inl m ↦ m
    | inr m ↦ (let o = f.inv.opened u m.0 m.1 in let z = f.inv.none e in absurd (omega (arith, o.0, z.0)))
  ]
]

pub pushed_mark : (first edges : List ℕ) (u : ℕ) (s t : Search) → u < length s.marks.items → Pushed first edges u s t → get_or t.marks.items u 0 ≡ 0 → ⊥
pushed_mark first edges u s t h k e =
    let y : get_or t.marks.items u 0 ≡ length s.held.items + 2 = rw k.marks (get_or-set_same s.marks.items u (length s.held.items + 2) 0 h) in omega arith

pub pushed_kept : (first edges : List ℕ) (u v : ℕ) (s t : Search) → get_or s.marks.items u 0 ≡ 0 → Pushed first edges u s t → get_or s.marks.items v 0 ≡ 1 → get_or t.marks.items v 0 ≡ 1
pushed_kept first edges u v s t new k h = by_eq v u
    (λ e. let y : 1 ≡ 0 = sym h ∙ ap (λ i. get_or s.marks.items i 0) e ∙ new in absurd (omega arith))
    (λ e. ap (λ m. get_or m v 0) k.marks ∙ get_or-set_other s.marks.items u v (length s.held.items + 2) 0 e ∙ h)

pub moved : (first edges : List ℕ) (n m : ℕ) (s : Search) → Found first edges n s → n ≡ m → Found first edges m s
moved first edges n m s f e = subst (λ i. Found first edges i s) e f

pub done_below : (a b : List ℕ) (u : ℕ) → ((v : ℕ) → v < u → get_or a v 0 ≡ 1) → ((v : ℕ) → get_or a v 0 ≡ 1 → get_or b v 0 ≡ 1) → get_or b u 0 ≡ 1 → (v : ℕ) → v < u + 1 → get_or b v 0 ≡ 1
done_below a b u f g h v l = by_lt v u (λ m. g v (f v m)) (λ m. let e : v ≡ u = omega arith in rw e h)

pub not_new : (first edges : List ℕ) (n u m : ℕ) (s : Search) → Found first edges n s → length s.starts.items ≡ 0 → u < n → m ≡ get_or s.marks.items u m → (m ≡ 0 → ⊥) → get_or s.marks.items u 0 ≡ 1
not_new first edges n u m s f e h r g =
    let w = f.ranged.marks in
    all_closed first edges n u s f e (λ z. g (get_or_read s.marks.items u m (omega (arith, w)) r 0 ∙ z))

-- a search that has not begun
pub start_found : (first edges : List ℕ) (n : ℕ) (s : Search) → length s.marks.items ≡ n → length s.looped.items ≡ n → ((v : ℕ) → get_or s.marks.items v 0 ≡ 0) → ((v : ℕ) → get_or s.looped.items v false ≡ false) → length s.held.items ≡ 0 → length s.todo.items ≡ 0 → length s.starts.items ≡ 0 → length s.owed.items ≡ 0 → length s.order.items ≡ 0 → Found first edges n s
start_found first edges n s hm hl zm zl h t b o d = record {
  ranged = record { marks = hm; looped = hl; pairs = omega (arith, b, o); held = λ p l. absurd (omega (arith, h)); todo = λ p l. absurd (omega (arith, t)); order = λ p l. absurd (omega (arith, d)) };
  inv = record {
    opened = λ v p e. absurd (not_none (suc p) (sym e ∙ zm v));
    placed = λ p l. absurd (omega (arith, h));
    closed = λ v u e. absurd (not_none 0 (sym e ∙ zm v));
    edges = λ v p u e. absurd (not_none (suc p) (sym e ∙ zm v));
    todo = λ a l. absurd (omega (arith, t));
    back = λ p q m l. absurd (omega (arith, h));
    segment = λ p q m l. absurd (omega (arith, h));
    real = λ v e. absurd (false≢true (sym (zl v) ∙ e));
    free = λ v e. absurd (not_none 0 (sym e ∙ zm v));
    starts = λ i l. absurd (omega (arith, b));
    rising = λ i j m l. absurd (omega (arith, b));
    first = λ l. absurd (omega (arith, b));
    none = λ l. (h, t);
  };
  sorted = record {
    listed = λ v e. absurd (not_none 0 (sym e ∙ zm v));
    done = λ j l. absurd (omega (arith, d));
    once = λ i j m l. absurd (omega (arith, d));
    sorted = λ j u l. absurd (omega (arith, d));
  };
}
