-- A search that is done gives an order, or a loop.
use Rattle.std.proofs.Common.{ℕ, ◌<◌, ◌≡◌, subst, arith, false, List, length, get_or}
use Rattle.std.proofs.lemmas.Bool.{false_from_ne_true}
use Rattle.cdl_search.specs.Walks.{OnLoop}
use Rattle.cdl_search.specs.Graph.{Determines, Found}
use Rattle.cdl_search.specs.Order.{IsOrder, IsBegun}
use Rattle.cdl_search.specs.declared.search.Search.{Search}
use Rattle.cdl_search.proofs.Working.{start_found}

pub begun_found : (first edges : List ℕ) (n : ℕ) (s : Search) → IsBegun n s → Found first edges n s
begun_found first edges n s b = start_found first edges n s b.marks b.looped b.new b.down b.held b.todo b.starts b.owed b.order

pub found_order : (first edges : List ℕ) (n : ℕ) (s : Search) → Found first edges n s → ((v : ℕ) → v < n → get_or s.marks.items v 0 ≡ 1) → ((v : ℕ) → v < n → OnLoop (Determines first edges) v → ⊥) → IsOrder (Determines first edges) n s.order.items
found_order first edges n s f a o = record {
  each = λ v h. f.sorted.listed v (a v h);
  inside = λ j h. f.ranged.order j h;
  once = λ i j l h e. f.sorted.once i j l h e;
  behind = λ j u h d. f.sorted.sorted j u h (false_from_ne_true (get_or s.looped.items (get_or s.order.items j 0) false) (λ t. o (get_or s.order.items j 0) (f.ranged.order j h) (f.inv.real (get_or s.order.items j 0) t))) d;
}

-- the same, of a search from its beginning to its end
pub no_loop : (first edges : List ℕ) (n : ℕ) (s t : Search) → IsBegun n s → Found first edges (length s.marks.items) t → ((w : ℕ) → w < length t.marks.items → OnLoop (Determines first edges) w → ⊥) → (v : ℕ) → v < n → OnLoop (Determines first edges) v → ⊥
no_loop first edges n s t b f o v h l = let m : v < length t.marks.items = omega (arith, b.marks, f.ranged.marks) in o v m l

pub ended_order : (first edges : List ℕ) (n : ℕ) (s t : Search) → IsBegun n s → Found first edges (length s.marks.items) t → ((v : ℕ) → v < length s.marks.items → get_or t.marks.items v 0 ≡ 1) → ((w : ℕ) → w < length t.marks.items → OnLoop (Determines first edges) w → ⊥) → IsOrder (Determines first edges) n t.order.items
ended_order first edges n s t b f a o =
    let g : Found first edges n t = subst (λ k. Found first edges k t) b.marks f in
    found_order first edges n t g (λ v h. let m : v < length s.marks.items = omega (arith, b.marks) in a v m) (no_loop first edges n s t b f o)
