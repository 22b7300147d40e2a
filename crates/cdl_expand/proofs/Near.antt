-- What an occurrence joins are elements of the instance in which it stands, or of its parts.
use Rattle.std.proofs.Common.{◌≡◌, ◌⊎◌, ℕ, Bool, true, false, cond, List, [], ◌∷◌, ◌++◌, map, Option, Some, None, refl, sym, ap, ◌∙◌, subst, inl, inr}
use Rattle.std.specs.Prelude.{◌&&◌, option_map, option_and_then}
use Rattle.cdl_source.proofs.Options.{option_map-some, option_and_then-some}
use Rattle.cdl_network.specs.Lists.{In}
use Rattle.cdl_network.proofs.Renaming.{of_map}
use Rattle.cdl_tree.specs.declared.class.Connect.{Connect}
use Rattle.cdl_scopes.specs.Classes.{declared}
use Rattle.cdl_scopes.specs.Lookup.{item_name}
use Rattle.cdl_classes.specs.declared.found.ClassId.{ClassId}
use Rattle.cdl_paths.specs.declared.path.Local.{Local}
use Rattle.cdl_paths.specs.declared.path.Path.{Path}
use Rattle.cdl_paths.specs.declared.path.Step.{Step}
use Rattle.cdl_params.specs.Kept.{Model}
use Rattle.cdl_walk.specs.Worth.{dims}
use Rattle.cdl_model.specs.Apart.{IsNear}
use Rattle.cdl_model.specs.Names.{ElementName}
use Rattle.cdl_model.specs.Networks.{parent_path}
use Rattle.cdl_model.proofs.Joined.{in_either}
use Rattle.cdl_joins.specs.declared.sides.Owners.{Owners}
use Rattle.cdl_joins.specs.declared.sides.Piece.{Piece}
use Rattle.cdl_joins.specs.declared.sides.Side.{Side}
use Rattle.cdl_joins.specs.declared.verdicts.Verdict.{Verdict}
use Rattle.cdl_joins.specs.declared.verdicts.Verdict.TheVariants.{Breaks, Dropped, Joins}
use Rattle.cdl_joins.specs.Ends.{Component, End, connector_name, end_of}
use Rattle.cdl_joins.specs.Integers.{integer}
use Rattle.cdl_joins.specs.Picks.{picks, indices}
use Rattle.cdl_joins.specs.Sides.{path_of, element_path, elements_of, itself, owners, piece_of, piece, pieces, side_of, side, sizes, sizes_in, fit, stands, all_have, element, piece_elements, all_elements, elements}
use Rattle.cdl_joins.specs.Verdicts.{joined, with_connectors, with_owners, with_components, with_ends, verdict}
use Rattle.cdl_expand.proofs.Things.{outer_push}

-- ---- the elements of a side

-- these instances are the one at the path, or parts of it
abbrev ArePartsOf : List Step → List Path → Type 0
ArePartsOf p qs = (q : Path) → In q qs → (q.steps ≡ p) ⊎ (parent_path q.steps ≡ Some p)

parent_push : (p : List Step) (s : Step) → parent_path (p ++ s ∷ []) ≡ Some p
parent_push [] s = ap Some (outer_push [] s)
parent_push (x ∷ p) s = ap Some (outer_push (x ∷ p) s)

selected : (p : List Step) (name : List ℕ) (iss : List (List ℕ)) → ArePartsOf p (map (element_path p name) iss)
selected p name iss q i =
    let z = of_map (element_path p name) q iss i in
    inr (ap (λ (y : Path). parent_path y.steps) z.2 ∙ parent_push p (record { name = name; indices = z.0 }))

owners_parts : (w : Model) (p : List Step) (locals : List Local) (c : Option Component) (a : Owners) → owners w p locals c ≡ Some a → ArePartsOf p a.paths
owners_parts w p locals None a e =
    let same : itself p ≡ a = some_owners (itself p) a e in
    subst (λ (z : Owners). ArePartsOf p z.paths) same alone
  where
    some_owners : (x y : Owners) → Some x ≡ Some y → x ≡ y
    some_owners x y h = cc

    alone : (q : Path) → In q (path_of p ∷ []) → (q.steps ≡ p) ⊎ (parent_path q.steps ≡ Some p)
    alone q (inl h) = inl (ap (λ (z : Path). z.steps) h)
    alone q (inr h) = absurd h
owners_parts w p locals (Some c) a e =
    let z = option_map-some (elements_of p (item_name c.item)) (option_and_then (λ ns. picks (integer w p locals) ns c.subs) (sizes_in (dims w p c.item))) a e in
    subst (λ (y : Owners). ArePartsOf p y.paths) z.2 (selected p (item_name c.item) (indices z.0))

-- the pieces are of these instances
piece_path : (w : Model) (p : List Step) (locals : List Local) (e : End) (q : Path) (x : Piece) → piece w p locals e q ≡ Some x → x.path ≡ q
piece_path w p locals e q x h =
    let z = option_map-some (piece_of q) (option_and_then (λ ns. picks (integer w p locals) ns e.subs) (sizes w q.steps e.connector)) x h in
    sym (ap (λ (y : Piece). y.path) z.2)

pieces_paths : (w : Model) (p : List Step) (locals : List Local) (e : End) (qs : List Path) (xs : List Piece) → pieces w p locals e qs ≡ Some xs → (x : Piece) → In x xs → In x.path qs
pieces_paths w p locals e [] xs h x i = subst (λ (l : List Piece). In x l → In x.path []) (none xs h) (λ m. m) i
  where
    none : (ys : List Piece) → Some [] ≡ Some ys → [] ≡ ys
    none ys g = cc
pieces_paths w p locals e (q ∷ qs) xs h x i =
    let a = option_and_then-some (λ y. option_map (λ ys. y ∷ ys) (pieces w p locals e qs)) (piece w p locals e q) xs h in
    let b = option_map-some (λ ys. a.0 ∷ ys) (pieces w p locals e qs) xs a.2 in
    by_place a.0 b.0 (piece_path w p locals e q a.0 a.1) (λ m. pieces_paths w p locals e qs b.0 b.1 x m) (subst (λ (l : List Piece). In x l) (sym b.2) i)
  where
    by_place : (y : Piece) (ys : List Piece) → y.path ≡ q → (In x ys → In x.path qs) → In x (y ∷ ys) → In x.path (q ∷ qs)
    by_place y ys f rec (inl g) = inl (ap (λ (z : Piece). z.path) g ∙ f)
    by_place y ys f rec (inr g) = inr (rec g)

of_pieces : (name : List ℕ) (xs : List Piece) (y : ElementName) → In y (all_elements name xs) → (x : Piece) × In x xs × (y.path ≡ x.path.steps)
of_pieces name [] y i = absurd i
of_pieces name (x ∷ xs) y i = elim (in_either y (piece_elements name x) (all_elements name xs) i) as (λ _. (z : Piece) × In z (x ∷ xs) × (y.path ≡ z.path.steps)) [
  | inl h ↦ (let z = of_map (element x.path.steps name) y x.indices h in (x, inl refl, ap (λ (u : ElementName). u.path) z.2))
  | inr h ↦ (let r = of_pieces name xs y h in (r.0, inr r.1, r.2))
]

abbrev pub AreNearTo : List Step → Side → Type 0
AreNearTo p s = (x : ElementName) → In x (elements s) → IsNear p x

near_like : (p q : List Step) (x : ElementName) → x.path ≡ q → (q ≡ p) ⊎ (parent_path q ≡ Some p) → IsNear p x
near_like p q x e (inl h) = inl (e ∙ h)
near_like p q x e (inr h) = inr (ap parent_path e ∙ h)

side_near : (w : Model) (p : List Step) (locals : List Local) (e : End) (a : Owners) (s : Side) → owners w p locals e.component ≡ Some a → side w p locals e a ≡ Some s → AreNearTo p s
side_near w p locals e a s o h x i =
    let z = option_map-some (side_of a.shape (connector_name e.connector)) (pieces w p locals e a.paths) s h in
    let there : In x (all_elements (connector_name e.connector) z.0) = subst (λ (y : Side). In x (elements y)) (sym z.2) i in
    let y = of_pieces (connector_name e.connector) z.0 x there in
    near_like p y.0.path.steps x y.2 (owners_parts w p locals e.component a o y.0.path (pieces_paths w p locals e a.paths z.0 z.1 y.0 y.1))

-- ---- verdicts

abbrev NearBoth : List Step → Verdict → Type 0
NearBoth p (Breaks r) = Unit {0}
NearBoth p Dropped = Unit {0}
NearBoth p (Joins l r) = AreNearTo p l × AreNearTo p r

chosen_near : (p : List Step) (b : Bool) (x y : Verdict) → NearBoth p x → NearBoth p y → NearBoth p (cond b x y)
chosen_near p true x y f g = f
chosen_near p false x y f g = g

joined_near : (p : List Step) (a b : Option Side) → ((s : Side) → a ≡ Some s → AreNearTo p s) → ((s : Side) → b ≡ Some s → AreNearTo p s) → NearBoth p (joined a b)
joined_near p None b f g = tt
joined_near p (Some l) None f g = tt
joined_near p (Some l) (Some r) f g = chosen_near p (fit l r) (Joins l r) _ (f l refl, g r refl) tt

module _ (w : Model) (p : List Step) (locals : List Local) where
  owners_near : (l r : End) (a b : Option Owners) → owners w p locals l.component ≡ a → owners w p locals r.component ≡ b → NearBoth p (with_owners w p locals l r a b)
  owners_near l r None b e f = tt
  owners_near l r (Some a) None e f = tt
  owners_near l r (Some a) (Some b) e f = chosen_near p (all_have w l.connector a.paths && all_have w r.connector b.paths) (with_connectors w p locals l r a b) Dropped
      (joined_near p (side w p locals l a) (side w p locals r b) (λ s h. side_near w p locals l a s e h) (λ s h. side_near w p locals r b s f h)) tt

  ends_near : (a b : Option End) → NearBoth p (with_ends w p locals a b)
  ends_near None b = tt
  ends_near (Some l) None = tt
  ends_near (Some l) (Some r) = chosen_near p (stands w p l && stands w p r) (with_components w p locals l r) Dropped
      (owners_near l r (owners w p locals l.component) (owners w p locals r.component) refl refl) tt

  pub verdict_near : (c : ClassId) (x : Connect) (l r : Side) → verdict w p c locals x ≡ Joins l r → AreNearTo p l × AreNearTo p r
  verdict_near c x l r e = subst (λ (z : Verdict). NearBoth p z) e (ends_near (end_of (declared w.files) c x.left.parts) (end_of (declared w.files) c x.right.parts))
