-- One item of a list, and the lists that a net's instances have.
use Rattle.std.proofs.Common.{◌≡◌, ◌<◌, ◌+◌, ◌==◌, ◌++◌, ◌∷◌, ℕ, suc, List, [], Bor, Option, None, Some, IfSome, All, get_or, length, map, drop, refl, sym, ap, ◌∙◌, slice_get}
use Rattle.std.proofs.Math.Numerals.{add-one}
use Rattle.std.proofs.Math.Seq.{drop-cons}
use Rattle.std.proofs.lemmas.List.{append_assoc, get_or-map, length-map}
use Rattle.std.proofs.lemmas.List.Elements.{All-filter}
use Rattle.std.proofs.lemmas.Option.{get_or_from_slice_get, slice_get-get_or}
use Rattle.cdl_connect.specs.declared.net.Net.{Net}
use Rattle.cdl_connect.specs.declared.net.NetInstance.{NetInstance}
use Rattle.cdl_connect.specs.declared.net.RawWire.{RawWire}
use Rattle.cdl_connect.specs.WellFormed.{AreNumbers, parent_at}
use Rattle.cdl_kinds.specs.declared.parameter.Parameter.{Parameter}
use Rattle.cdl_kinds.specs.Parameters.{parameter_row}
use Rattle.cdl_values.specs.declared.value.Array.{Array}
use Rattle.cxf_graph.specs.declared.graph.Given.{Given}
use Rattle.cxf_graph.specs.declared.graph.GraphNode.{GraphNode}
use Rattle.cxf_graph.specs.Written.{HasEnds, given_all, given_in, inner, nodes_from, nodes_with, parts}

pub all_at : {X : Type 0} (P : X → Type 0) (xs : List X) (k : ℕ) (x : X) → All P xs → k < length xs → x ≡ get_or xs k x → P x
all_at P xs k x a h e = rw e (a k x h)

all_ends : (n : Net) → AreNumbers n → All (HasEnds n) n.wires
all_ends n a k d h =
    let s : slice_get n.wires k ≡ Some (get_or n.wires k d) = slice_get-get_or n.wires k d h in
    (a.left k (get_or n.wires k d) s, a.right k (get_or n.wires k d) s)

-- the ends of the wires of an instance are elements of the net
pub ends_in : (n : Net) (i : ℕ) (ws : List RawWire) → AreNumbers n → ws ≡ inner n i → All (HasEnds n) ws
ends_in n i ws a e = rw e (All-filter (λ w. w.scope == i) (HasEnds n) n.wires (all_ends n a))

-- a part's parent is an instance of the net
pub parent_inside : (n : Net) (k p : ℕ) (t : NetInstance) → AreNumbers n → k < length n.instances → t ≡ get_or n.instances k t → t.parent ≡ Some p → p < length n.instances
parent_inside n k p t a h e q =
    let s : slice_get n.instances k ≡ Some (get_or n.instances k t) = slice_get-get_or n.instances k t h in
    let b : parent_at n k ≡ Some p = rw (s, ← e) q in
    a.parent k p b

if_some : {X : Type 0} (o : Option X) (P : X → Type 0) → ((x : X) → o ≡ Some x → P x) → IfSome o P
if_some None P h = tt
if_some (Some x) P h = h x refl

pub parent_fits : (n : Net) (ts : List NetInstance) (k : ℕ) (t : NetInstance) (m : ℕ) → AreNumbers n → ts ≡ n.instances → k < length ts → t ≡ get_or ts k t → m ≡ length n.instances → IfSome t.parent (λ p. p < m)
parent_fits n ts k t m a s h e l =
    let g : k < length n.instances = rw s at h in
    let r : t ≡ get_or n.instances k t = rw s at e in
    rw l (if_some t.parent (λ p. p < length n.instances) (λ p q. parent_inside n k p t a g r q))

-- the list in that place, as a part of all lists
pub at_group : {X : Type 0} (lists : List (List (Bor X))) (i n : ℕ) (g items : List (Bor X)) (all : ℕ → List X) → length lists ≡ n → i < n → items ≡ g → g ≡ get_or lists i g → ((j : ℕ) → j < n → map (λ b. b.now) (get_or lists j []) ≡ all j) → map (λ b. b.now) items ≡ all i
at_group lists i n g items all l h e r f =
    let k : i < length lists = rw l h in
    let a : get_or lists i g ≡ get_or lists i [] = get_or_from_slice_get lists i (get_or lists i []) g (slice_get-get_or lists i [] k) in
    ap (λ x. map (λ b. b.now) x) (e ∙ r ∙ a) ∙ f i h

-- one parameter more
pub next_given : (v : List Array) (rows : List Parameter) (whole done new : List Given) (i : ℕ) (d : Parameter) (o : Option Array) → i < length rows → o ≡ slice_get v i → whole ≡ done ++ given_all v i (map parameter_row (drop i rows)) → new ≡ done ++ given_in (parameter_row (get_or rows i d)) o → whole ≡ new ++ given_all v (i + 1) (map parameter_row (drop (i + 1) rows))
next_given v rows whole done new i d o h g e q =
    let first = given_in (parameter_row (get_or rows i d)) (slice_get v i) in
    let rest = given_all v (suc i) (map parameter_row (drop (suc i) rows)) in
    let f : whole ≡ done ++ (first ++ rest) = e ∙ ap (λ l. done ++ given_all v i (map parameter_row l)) (drop-cons rows i d h) in
    let m : done ++ first ≡ new = rw (← g) (sym q) in
    rw (add-one i) (f ∙ sym (append_assoc done first rest) ∙ ap (λ l. l ++ rest) m)

-- one instance more
pub next_instance : (n : Net) (whole : List GraphNode) (i : ℕ) (t : NetInstance) (done new : List GraphNode) (ts : List NetInstance) (ws : List RawWire) → i < length n.instances → t ≡ get_or n.instances i t → ts ≡ parts n i → ws ≡ inner n i → whole ≡ done ++ nodes_from n i (drop i n.instances) → new ≡ done ++ nodes_with n t ts ws → whole ≡ new ++ nodes_from n (i + 1) (drop (i + 1) n.instances)
next_instance n whole i t done new ts ws h r p w e g =
    let rest = nodes_from n (suc i) (drop (suc i) n.instances) in
    let d : drop i n.instances ≡ t ∷ drop (suc i) n.instances = drop-cons n.instances i t h ∙ ap (λ x. x ∷ drop (suc i) n.instances) (sym r) in
    let f : whole ≡ done ++ (nodes_with n t (parts n i) (inner n i) ++ rest) = e ∙ ap (λ l. done ++ nodes_from n i l) d in
    let m : done ++ nodes_with n t (parts n i) (inner n i) ≡ new = rw (← p, ← w) (sym g) in
    rw (add-one i) (f ∙ sym (append_assoc done (nodes_with n t (parts n i) (inner n i)) rest) ∙ ap (λ l. l ++ rest) m)

-- the ends of the wire in that place
pub ends_at : (n : Net) (ws : List (Bor RawWire)) (k : ℕ) (d : Bor RawWire) → All (HasEnds n) (map (λ w. w.now) ws) → k < length ws → HasEnds n (get_or ws k d).now
ends_at n ws k d a h =
    let e : get_or (map (λ (w : Bor RawWire). w.now) ws) k d.now ≡ (get_or ws k d).now = get_or-map (λ (w : Bor RawWire). w.now) ws k d d.now h in
    let g : k < length (map (λ (w : Bor RawWire). w.now) ws) = rw (length-map ws (λ (w : Bor RawWire). w.now)) h in
    rw (← e) (a k d.now g)
