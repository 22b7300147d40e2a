-- Heads and occurrences by their keys: the number of the instance, the place in the text of its block, then, in a loop, the turn, the
-- place in its body, and so on. So the order of keys is that in which loops run.
use Rattle.std.specs.Prelude.{ℕ, ℤ, pos, ◌+ℤ◌, ◌<◌, ◌≡◌, List, [], ◌∷◌, Option, Some, None, option_map, slice_get, unwrap_or}
use Rattle.cdl_tree.specs.declared.class.Loop.{Loop}
use Rattle.cdl_tree.specs.declared.class.Statement.{Statement, out-Statement}
use Rattle.cdl_tree.specs.declared.class.Statement.TheOpen.{Statement-F}
use Rattle.cdl_tree.specs.Parts.{statements_of}
use Rattle.cdl_scopes.specs.Classes.{Declared, declared}
use Rattle.cdl_paths.specs.declared.path.Local.{Local}
use Rattle.cdl_params.specs.Kept.{Model}
use Rattle.cdl_stations.specs.Keys.{Key}
use Rattle.cdl_walk.specs.declared.walked.Content.{Content}
use Rattle.cdl_walk.specs.declared.walked.Content.TheVariants as content
use Rattle.cdl_walk.specs.declared.walked.Instance.{Instance}
use Rattle.cdl_statements.specs.Events.{Event, occurrence, head}
use Rattle.cdl_statements.specs.Places.{Scope, scope_of}
use Rattle.cdl_joins.specs.Verdicts.{bounds, turns, with_local}

abbrev pub ForSome : {A : Type 0} → Option A → (A → Type 0) → Type 0
ForSome None P = ⊥
ForSome (Some x) P = P x

-- what holds of the value of a loop's index in the turn of this number, where there is such a turn
abbrev pub ForTurn : Option (ℤ × ℤ) → ℕ → (ℤ → Type 0) → Type 0
ForTurn None t P = ⊥
ForTurn (Some b) t P = (t < turns b.0 b.1) × P (b.0 +ℤ pos t)

abbrev mutual
  -- in statements of a scope, with these indices of loops
  pub InBody : Model → Scope → List Local → List Statement → Key → Event → Type 0
  InBody w s locals ss [] e = ⊥
  InBody w s locals ss (i ∷ k) e = ForSome (slice_get ss i) (λ x. InOpen w s locals (out-Statement x) k e)

  -- an occurrence; or a head, and behind it its turns
  pub InOpen : Model → Scope → List Local → Statement-F Statement Loop → Key → Event → Type 0
  InOpen w s locals (Statement-F.Connect c) [] e = e ≡ occurrence w s locals c
  InOpen w s locals (Statement-F.Connect c) (t ∷ k) e = ⊥
  InOpen w s locals (Statement-F.Loop l) [] e = e ≡ head w s locals l
  InOpen w s locals (Statement-F.Loop l) (t ∷ k) e = ForTurn (bounds w s.path locals l) t (λ v. InBody w s (with_local locals l v) l.body k e)

abbrev pub InStatement : Model → Scope → List Local → Statement → Key → Event → Type 0
InStatement w s locals x = InOpen w s locals (out-Statement x)

abbrev pub InLoop : Model → Scope → List Local → Loop → Key → Event → Type 0
InLoop w s locals l = InOpen w s locals (Statement-F.Loop l)

-- the turn in which the index has this value
abbrev pub InTurn : Model → Scope → List Local → Loop → ℤ → Key → Event → Type 0
InTurn w s locals l v = InBody w s (with_local locals l v) l.body

-- ---- all instances

abbrev pub statements_in : Declared → List Statement
statements_in d = statements_of d.tree

-- the statements of the class of this number
abbrev pub statements_at : List Declared → ℕ → List Statement
statements_at ds c = unwrap_or (option_map statements_in (slice_get ds c)) []

abbrev pub InScope : Model → Scope → Key → Event → Type 0
InScope w s = InBody w s [] (statements_at (declared w.files) s.class.index)

-- an instance of a kind has no statements
abbrev pub InContent : Model → Instance → Content → Key → Event → Type 0
InContent w x (content.Block c) k e = InScope w (scope_of w x.path.steps c) k e
InContent w x (content.Elementary kind v) k e = ⊥

abbrev pub InInstance : Model → Instance → Key → Event → Type 0
InInstance w x = InContent w x x.content

-- all heads and occurrences of these instances
abbrev pub InModel : Model → List Instance → Key → Event → Type 0
InModel w xs [] e = ⊥
InModel w xs (i ∷ k) e = ForSome (slice_get xs i) (λ x. InInstance w x k e)
