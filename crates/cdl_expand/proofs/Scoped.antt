-- The wires of a statement stand in the instance of the statement, which is one of a declared block.
use Rattle.std.proofs.Common.{◌≡◌, ℕ, ℤ, List, [], ◌∷◌, Option, Some, None, slice_get, refl, sym, ap, subst, inl, inr}
use Rattle.std.specs.Prelude.{pos, ◌+ℤ◌}
use Rattle.cdl_tree.specs.declared.class.Loop.{Loop}
use Rattle.cdl_tree.specs.declared.class.Statement.{Statement, out-Statement}
use Rattle.cdl_tree.specs.declared.class.Statement.TheOpen.{Statement-F}
use Rattle.cdl_scopes.specs.Classes.{declared}
use Rattle.cdl_classes.specs.declared.found.ClassId.{ClassId}
use Rattle.cdl_paths.specs.declared.path.Local.{Local}
use Rattle.cdl_paths.specs.declared.path.Step.{Step}
use Rattle.cdl_params.specs.Kept.{Model}
use Rattle.cdl_network.specs.Lists.{In}
use Rattle.cdl_stations.specs.Keys.{Key, In as InKeys}
use Rattle.cdl_stations.proofs.Grown.{in_either}
use Rattle.cdl_walk.specs.declared.walked.Content.{Content}
use Rattle.cdl_walk.specs.declared.walked.Content.TheVariants as content
use Rattle.cdl_walk.specs.declared.walked.Instance.{Instance}
use Rattle.cdl_model.specs.Apart.{IsNear}
use Rattle.cdl_model.specs.Names.{ElementName}
use Rattle.cdl_statements.specs.Directory.{NamedWire}
use Rattle.cdl_statements.specs.Events.{Event, pairs, brings, headed, wires_in, wires_of}
use Rattle.cdl_statements.specs.Places.{Scope, Spot, spot, scope_of}
use Rattle.cdl_joins.specs.Sides.{elements}
use Rattle.cdl_statements.specs.Stations.{ForSome, ForTurn, InBody, InOpen, InContent, InInstance, InModel, statements_at}
use Rattle.cdl_joins.specs.declared.verdicts.Verdict.{Verdict}
use Rattle.cdl_joins.specs.declared.verdicts.Verdict.TheVariants.{Breaks, Dropped, Joins}
use Rattle.cdl_joins.specs.declared.sides.Side.{Side}
use Rattle.cdl_joins.specs.Verdicts.{verdict, bounds, with_local}
use Rattle.cdl_expand.proofs.Near.{AreNearTo, verdict_near}

-- a wire of an instance at this path
pub record IsWireOf (p : List Step) (v : NamedWire) : Type 0 where
  pub scope : v.scope ≡ p
  pub left : IsNear p v.left
  pub right : IsNear p v.right

in_pairs : (p : List Step) (ls rs : List ElementName) (v : NamedWire) → ((x : ElementName) → In x ls → IsNear p x) → ((x : ElementName) → In x rs → IsNear p x) → InKeys v (pairs p ls rs) → IsWireOf p v
in_pairs p [] rs v f g i = absurd i
in_pairs p (l ∷ ls) [] v f g i = absurd i
in_pairs p (l ∷ ls) (r ∷ rs) v f g (inl e) = record {
  scope = ap (λ (x : NamedWire). x.scope) e;
  left = subst (λ (x : NamedWire). IsNear p x.left) (sym e) (f l (inl refl));
  right = subst (λ (x : NamedWire). IsNear p x.right) (sym e) (g r (inl refl));
}
in_pairs p (l ∷ ls) (r ∷ rs) v f g (inr i) = in_pairs p ls rs v (λ x m. f x (inr m)) (λ x m. g x (inr m)) i

-- each wire of the event is one of the instance at this path
abbrev AreWiresOf : List Step → Event → Type 0
AreWiresOf p e = (v : NamedWire) → InKeys v (wires_in e) → IsWireOf p v

made : (s : Scope) (at : Spot) (x : Verdict) → ((l r : Side) → x ≡ Joins l r → AreNearTo s.path l × AreNearTo s.path r) → AreWiresOf s.path (brings s at x)
made s at (Breaks r) f v i = absurd i
made s at Dropped f v i = absurd i
made s at (Joins l r) f v i = let n = f l r refl in in_pairs s.path (elements l) (elements r) v n.0 n.1 i

no_head : (p : List Step) (at : Spot) (o : Option (ℤ × ℤ)) → AreWiresOf p (headed at o)
no_head p at None v i = absurd i
no_head p at (Some b) v i = absurd i

module _ (w : Model) (s : Scope) (e : Event) where
  itself : (locals : List Local) (x : Statement-F Statement Loop) → InOpen w s locals x [] e → AreWiresOf s.path e
  itself locals (Statement-F.Connect c) h = subst (λ (z : Event). AreWiresOf s.path z) (sym h)
      (made s (spot s c.span.start) (verdict w s.path s.class locals c) (λ l r q. verdict_near w s.path locals s.class c l r q))
  itself locals (Statement-F.Loop l) h = subst (λ (z : Event). AreWiresOf s.path z) (sym h) (no_head s.path (spot s l.span.start) (bounds w s.path locals l))

  turned : (locals : List Local) (l : Loop) (t : ℕ) (k : Key) (o : Option (ℤ × ℤ)) → ((ls : List Local) (body : List Statement) → InBody w s ls body k e → AreWiresOf s.path e)
      → ForTurn o t (λ z. InBody w s (with_local locals l z) l.body k e) → AreWiresOf s.path e
  turned locals l t k None rec h = absurd h
  turned locals l t k (Some b) rec h = rec (with_local locals l (b.0 +ℤ pos t)) l.body h.1

  below : (locals : List Local) (t : ℕ) (k : Key) (x : Statement-F Statement Loop) → ((ls : List Local) (body : List Statement) → InBody w s ls body k e → AreWiresOf s.path e)
      → InOpen w s locals x (t ∷ k) e → AreWiresOf s.path e
  below locals t k (Statement-F.Connect c) rec h = absurd h
  below locals t k (Statement-F.Loop l) rec h = turned locals l t k (bounds w s.path locals l) rec h

  at_first : (locals : List Local) (o : Option Statement) → ForSome o (λ x. InOpen w s locals (out-Statement x) [] e) → AreWiresOf s.path e
  at_first locals None h = absurd h
  at_first locals (Some x) h = itself locals (out-Statement x) h

  at_later : (locals : List Local) (t : ℕ) (k : Key) (o : Option Statement) → ((ls : List Local) (body : List Statement) → InBody w s ls body k e → AreWiresOf s.path e)
      → ForSome o (λ x. InOpen w s locals (out-Statement x) (t ∷ k) e) → AreWiresOf s.path e
  at_later locals t k None rec h = absurd h
  at_later locals t k (Some x) rec h = below locals t k (out-Statement x) rec h

  pub in_scope : (locals : List Local) (ss : List Statement) (k : Key) → InBody w s locals ss k e → AreWiresOf s.path e
  in_scope locals ss [] h = absurd h
  in_scope locals ss (j ∷ []) h = at_first locals (slice_get ss j) h
  in_scope locals ss (j ∷ t ∷ k) h = at_later locals t k (slice_get ss j) (λ ls body g. in_scope ls body k g) h

-- the number of an instance of a declared block, in which a wire stands
pub record StandsIn (xs : List Instance) (n : ℕ) (v : NamedWire) : Type 0 where
  pub instance : Instance
  pub class : ClassId
  pub at : slice_get xs n ≡ Some instance
  pub block : instance.content ≡ content.Block class
  pub joins : IsWireOf instance.path.steps v

module _ (w : Model) (xs : List Instance) (e : Event) (v : NamedWire) (i : InKeys v (wires_in e)) where
  by_content : (n : ℕ) (x : Instance) (y : Content) (k : Key) → slice_get xs n ≡ Some x → x.content ≡ y → InContent w x y k e → StandsIn xs n v
  by_content n x (content.Block c) k a b s = record {
    instance = x;
    class = c;
    at = a;
    block = b;
    joins = in_scope w (scope_of w x.path.steps c) e [] (statements_at (declared w.files) c.index) k s v i;
  }
  by_content n x (content.Elementary kind p) k a b s = absurd s

  by_instance : (n : ℕ) (o : Option Instance) (k : Key) → slice_get xs n ≡ o → ForSome o (λ x. InInstance w x k e) → StandsIn xs n v
  by_instance n None k a s = absurd s
  by_instance n (Some x) k a s = by_content n x x.content k a refl s

  pub stands_in : (n : ℕ) (k : Key) → InModel w xs (n ∷ k) e → StandsIn xs n v
  stands_in n k s = by_instance n (slice_get xs n) k refl s

-- a wire is one of an event
pub record WireOf (xs : List (Key × Event)) (v : NamedWire) : Type 0 where
  pub key : Key
  pub event : Event
  pub there : InKeys {X = Key × Event} (key, event) xs
  pub brought : InKeys v (wires_in event)

pub wire_of : (xs : List (Key × Event)) (v : NamedWire) → InKeys v (wires_of xs) → WireOf xs v
wire_of [] v i = absurd i
wire_of ((k, e) ∷ xs) v i = elim (in_either v (wires_in e) (wires_of xs) i) as (λ _. WireOf ((k, e) ∷ xs) v) [
  | inl h ↦ record { key = k; event = e; there = inl refl; brought = h }
  | inr h ↦ (let r = wire_of xs v h in record { key = r.key; event = r.event; there = inr r.there; brought = r.brought })
]

-- each wire of the model stands in an instance of a declared block
pub scoped : (w : Model) (xs : List Instance) (k : Key) (e : Event) (v : NamedWire) → InModel w xs k e → InKeys v (wires_in e) → (n : ℕ) × (rest : Key) × (k ≡ n ∷ rest) × StandsIn xs n v
scoped w xs [] e v s i = absurd s
scoped w xs (n ∷ k) e v s i = (n, k, refl, stands_in w xs e v i n k s)
