-- The laws of runs at statements, loops and instances.
use Rattle.std.proofs.Common.{◌≡◌, ◌<◌, ◌≤◌, ℕ, ◌+◌, List, [], ◌∷◌, length, refl, sym, ap, ◌∙◌, subst, arith, rules, Result, Ok, Err, Option, Some, get_or, inl, inr}
use Rattle.std.specs.Prelude.{ℤ, pos, ◌+ℤ◌}
use Rattle.std.specs.List.{slice_get}
use Rattle.std.proofs.lemmas.Option.{slice_get-get_or, slice_get_past}
use Rattle.std.proofs.lemmas.Bool.{cases_lt}
use Rattle.cdl_classes.specs.declared.found.ClassId.{ClassId}
use Rattle.cdl_scopes.specs.Classes.{declared}
use Rattle.cdl_tree.specs.declared.class.Connect.{Connect}
use Rattle.cdl_tree.specs.declared.class.Loop.{Loop}
use Rattle.cdl_tree.specs.declared.class.Statement.{Statement, out-Statement, the_lemmas}
use Rattle.cdl_tree.specs.declared.class.Statement.TheVariants as statement
use Rattle.cdl_tree.specs.declared.class.Statement.TheOpen.{Statement-F}
use Rattle.cdl_paths.specs.declared.path.Local.{Local}
use Rattle.cdl_paths.specs.declared.path.Step.{Step}
use Rattle.cdl_params.specs.Kept.{Model}
use Rattle.cdl_stations.specs.Keys.{Key, Below, upto}
use Rattle.cdl_stations.specs.Runs.{Went, StopsAt, FailsAt, Runs, Takes}
use Rattle.cdl_stations.proofs.Laws.{went_step, at_under, went_nothing, went_one, at_one, went_like, at_like, went_all}
use Rattle.cdl_walk.specs.declared.walked.Content.{Content}
use Rattle.cdl_walk.specs.declared.walked.Content.TheVariants as content
use Rattle.cdl_walk.specs.declared.walked.Instance.{Instance}
use Rattle.cdl_statements.specs.Events.{Event, Made, step, occurrence, head}
use Rattle.cdl_statements.specs.Places.{Scope, Fault, scope_of}
use Rattle.cdl_statements.specs.Stations.{ForSome, ForTurn, InBody, InOpen, InStatement, InLoop, InTurn, InScope, InContent, InInstance, InModel, statements_at}
use Rattle.cdl_statements.specs.Directory.{Directory}
use Rattle.cdl_joins.specs.Verdicts.{bounds, turns, with_local}
use Rattle.cdl_statements.specs.inner.Seen.{IsInstance, IsListed}

abbrev Family : Type 1
Family = Key → Event → Type 0

-- where one event stands at the key itself, and none further in
pub alone : (A X : Type 0) (view : X → Option Fault) (S : Family) (e : Event) (a b : Made) (r : Result A X) → S [] e → ((d : Event) → S [] d → d ≡ e) → ((k : Key) (d : Event) → S k d → Below 0 k)
    → Takes view step a e r b → Runs view step S a r b
alone A X view S e a b (Ok x) s u n t = went_all step S 0 a b n (went_one step S e a b s u t)
alone A X view S e a b (Err f) s u n t = at_one step S e a (view f) s u t

there : {X : Type 0} (xs : List X) (i : ℕ) (x : X) → i < length xs → x ≡ get_or xs i x → slice_get xs i ≡ Some x
there xs i x h e = slice_get-get_or xs i x h ∙ ap Some (sym e)

-- ---- statements

connect_key : (w : Model) (s : Scope) (ls : List Local) (c : Connect) (k : Key) (d : Event) → InOpen w s ls (Statement-F.Connect c) k d → Below 0 k
connect_key w s ls c [] d h = tt
connect_key w s ls c (t ∷ k) d h = absurd h

connect_runs : (A X : Type 0) (view : X → Option Fault) (w : Model) (s : Scope) (ls : List Local) (c : Connect) (a b : Made) (r : Result A X) → Takes view step a (occurrence w s ls c) r b
    → Runs view step (InOpen w s ls (Statement-F.Connect c)) a r b
connect_runs A X view w s ls c a b r h = alone A X view (InOpen w s ls (Statement-F.Connect c)) (occurrence w s ls c) a b r refl (λ d e. e) (connect_key w s ls c) h

connect_is : (x : Statement) (c : Connect) → x ≡ statement.Connect c → out-Statement x ≡ Statement-F.Connect c
connect_is x c h = search (rules, the_lemmas)

loop_is : (x : Statement) (l : Loop) → x ≡ statement.Loop l → out-Statement x ≡ Statement-F.Loop l
loop_is x l h = search (rules, the_lemmas)

pub at_connect : (A X : Type 0) (view : X → Option Fault) (w : Model) (s : Scope) (ls ls' : List Local) (x : Statement) (c : Connect) (a b : Made) (r : Result A X) → x ≡ statement.Connect c → ls' ≡ ls
    → Takes view step a (occurrence w s ls' c) r b → Runs view step (InStatement w s ls x) a r b
at_connect A X view w s ls ls' x c a b r e q h = subst (λ o. Runs view step (InOpen w s ls o) a r b) (sym (connect_is x c e))
    (connect_runs A X view w s ls c a b r (subst (λ (l : List Local). Takes view step a (occurrence w s l c) r b) q h))

pub at_loop : (A X : Type 0) (view : X → Option Fault) (w : Model) (s : Scope) (ls : List Local) (x : Statement) (l : Loop) (a b : Made) (r : Result A X) → x ≡ statement.Loop l
    → Runs view step (InLoop w s ls l) a r b → Runs view step (InStatement w s ls x) a r b
at_loop A X view w s ls x l a b r e h = subst (λ o. Runs view step (InOpen w s ls o) a r b) (sym (loop_is x l e)) h

-- ---- bodies

pub body_starts : (w : Model) (s : Scope) (ls : List Local) (ss : List Statement) (m : Made) → Went step (upto (InBody w s ls ss) 0) m m
body_starts w s ls ss m = went_nothing step (InBody w s ls ss) m (λ e h. h)

pub body_next : (w w' : Model) (s : Scope) (ls ls' : List Local) (ss : List Statement) (i : ℕ) (x : Statement) (a b c : Made) → w' ≡ w → ls' ≡ ls → i < length ss → x ≡ get_or ss i x
    → Went step (upto (InBody w s ls ss) i) a b → Went step (InStatement w' s ls' x) b c → Went step (upto (InBody w s ls ss) (i + 1)) a c
body_next w w' s ls ls' ss i x a b c f e h g u v = went_step step (InBody w s ls ss) i a b c u
    (subst (λ (o : Option Statement). Went step (λ k d. ForSome o (λ y. InStatement w s ls y k d)) b c) (sym (there ss i x h g))
    (subst (λ (z : Model). Went step (InStatement z s ls x) b c) f (subst (λ (l : List Local). Went step (InStatement w' s l x) b c) e v)))

pub body_stops : (w w' : Model) (s : Scope) (ls ls' : List Local) (ss : List Statement) (i : ℕ) (x : Statement) (a b : Made) (o : Option Fault) → w' ≡ w → ls' ≡ ls → i < length ss → x ≡ get_or ss i x
    → Went step (upto (InBody w s ls ss) i) a b → StopsAt step (InStatement w' s ls' x) b o → StopsAt step (InBody w s ls ss) a o
body_stops w w' s ls ls' ss i x a b o f e h g u v = at_under step (InBody w s ls ss) i a b o u
    (subst (λ (z : Option Statement). StopsAt step (λ k d. ForSome z (λ y. InStatement w s ls y k d)) b o) (sym (there ss i x h g))
    (subst (λ (z : Model). StopsAt step (InStatement z s ls x) b o) f (subst (λ (l : List Local). StopsAt step (InStatement w' s l x) b o) e v)))

body_key : (w : Model) (s : Scope) (ls : List Local) (ss : List Statement) (k : Key) (e : Event) → InBody w s ls ss k e → Below (length ss) k
body_key w s ls ss [] e h = absurd h
body_key w s ls ss (i ∷ k) e h = elim (cases_lt i (length ss)) [
  | inl lt ↦ lt
  | inr le ↦ absurd (subst (λ (o : Option Statement). ForSome o (λ x. InStatement w s ls x k e)) (slice_get_past ss i le) h)
]

pub body_all : (w : Model) (s : Scope) (ls : List Local) (ss : List Statement) (n : ℕ) (a b : Made) → n ≡ length ss → Went step (upto (InBody w s ls ss) n) a b → Went step (InBody w s ls ss) a b
body_all w s ls ss n a b e u = went_all step (InBody w s ls ss) n a b (λ k d h. subst (λ m. Below m k) (sym e) (body_key w s ls ss k d h)) u

-- ---- loops

pub head_goes : (w : Model) (s : Scope) (ls ls' : List Local) (l : Loop) (a b : Made) → ls' ≡ ls → step a (head w s ls' l) ≡ Ok b → Went step (upto (InLoop w s ls l) 0) a b
head_goes w s ls ls' l a b q e = went_one step (InLoop w s ls l) (head w s ls l) a b refl (λ d g. g) (subst (λ (m : List Local). step a (head w s m l) ≡ Ok b) q e)

pub head_stops : (w : Model) (s : Scope) (ls ls' : List Local) (l : Loop) (a : Made) (o : Option Fault) → ls' ≡ ls → FailsAt step a (head w s ls' l) o → StopsAt step (InLoop w s ls l) a o
head_stops w s ls ls' l a o q f = at_one step (InLoop w s ls l) (head w s ls l) a o refl (λ d g. g) (subst (λ (m : List Local). FailsAt step a (head w s m l) o) q f)

guarded_went : (G : Type 0) (S : Family) (a b : Made) → G → Went step S a b → Went step (λ k e. G × S k e) a b
guarded_went G S a b g u = went_like step S (λ k e. G × S k e) a b (λ k e h. (g, h)) (λ k e h. h.1) u

guarded_stops : (G : Type 0) (S : Family) (a : Made) (o : Option Fault) → G → StopsAt step S a o → StopsAt step (λ k e. G × S k e) a o
guarded_stops G S a o g u = at_like step S (λ k e. G × S k e) a o (λ k e h. (g, h)) (λ k e h. h.1) u

pub loop_next : (w w' : Model) (s : Scope) (ls ls' : List Local) (l : Loop) (bs : ℤ × ℤ) (t : ℕ) (v : ℤ) (a b c : Made) → bounds w s.path ls l ≡ Some bs → t < turns bs.0 bs.1 → v ≡ bs.0 +ℤ pos t → w' ≡ w → ls' ≡ ls
    → Went step (upto (InLoop w s ls l) t) a b → Went step (InTurn w' s ls' l v) b c → Went step (upto (InLoop w s ls l) (t + 1)) a c
loop_next w w' s ls ls' l bs t v a b c e h q f g u x = went_step step (InLoop w s ls l) t a b c u
    (subst (λ (o : Option (ℤ × ℤ)). Went step (λ k d. ForTurn o t (λ z. InTurn w s ls l z k d)) b c) (sym e)
    (guarded_went (t < turns bs.0 bs.1) (InTurn w s ls l (bs.0 +ℤ pos t)) b c h
    (subst (λ (z : ℤ). Went step (InTurn w s ls l z) b c) q (subst (λ (z : Model). Went step (InTurn z s ls l v) b c) f (subst (λ (m : List Local). Went step (InTurn w' s m l v) b c) g x)))))

pub loop_stops : (w w' : Model) (s : Scope) (ls ls' : List Local) (l : Loop) (bs : ℤ × ℤ) (t : ℕ) (v : ℤ) (a b : Made) (o : Option Fault) → bounds w s.path ls l ≡ Some bs → t < turns bs.0 bs.1 → v ≡ bs.0 +ℤ pos t → w' ≡ w → ls' ≡ ls
    → Went step (upto (InLoop w s ls l) t) a b → StopsAt step (InTurn w' s ls' l v) b o → StopsAt step (InLoop w s ls l) a o
loop_stops w w' s ls ls' l bs t v a b o e h q f g u x = at_under step (InLoop w s ls l) t a b o u
    (subst (λ (y : Option (ℤ × ℤ)). StopsAt step (λ k d. ForTurn y t (λ z. InTurn w s ls l z k d)) b o) (sym e)
    (guarded_stops (t < turns bs.0 bs.1) (InTurn w s ls l (bs.0 +ℤ pos t)) b o h
    (subst (λ (z : ℤ). StopsAt step (InTurn w s ls l z) b o) q (subst (λ (z : Model). StopsAt step (InTurn z s ls l v) b o) f (subst (λ (m : List Local). StopsAt step (InTurn w' s m l v) b o) g x)))))

loop_key : (w : Model) (s : Scope) (ls : List Local) (l : Loop) (bs : ℤ × ℤ) (t : ℕ) → bounds w s.path ls l ≡ Some bs → turns bs.0 bs.1 ≤ t → (k : Key) (e : Event) → InLoop w s ls l k e → Below t k
loop_key w s ls l bs t b h [] e i = tt
loop_key w s ls l bs t b h (u ∷ k) e i = let here : ForTurn (Some bs) u (λ v. InTurn w s ls l v k e) = subst (λ (o : Option (ℤ × ℤ)). ForTurn o u (λ v. InTurn w s ls l v k e)) b i in omega (arith, h, here.0)

pub loop_all : (w : Model) (s : Scope) (ls : List Local) (l : Loop) (bs : ℤ × ℤ) (t : ℕ) (a b : Made) → bounds w s.path ls l ≡ Some bs → turns bs.0 bs.1 ≤ t → Went step (upto (InLoop w s ls l) t) a b → Went step (InLoop w s ls l) a b
loop_all w s ls l bs t a b e h u = went_all step (InLoop w s ls l) t a b (loop_key w s ls l bs t e h) u

pub turn_moved : (A X : Type 0) (view : X → Option Fault) (w : Model) (s : Scope) (ls ls' : List Local) (l : Loop) (v : ℤ) (ss : List Statement) (a b : Made) (r : Result A X) → ls' ≡ with_local ls l v → ss ≡ l.body
    → Runs view step (InBody w s ls' ss) a r b → Runs view step (InTurn w s ls l v) a r b
turn_moved A X view w s ls ls' l v ss a b r e f h = subst (λ (m : List Local). Runs view step (InBody w s m l.body) a r b) e (subst (λ (y : List Statement). Runs view step (InBody w s ls' y) a r b) f h)

-- ---- instances

pub scope_went : (w : Model) (s t : Scope) (ls : List Local) (ss : List Statement) (a b : Made) → ls ≡ [] → ss ≡ statements_at (declared w.files) t.class.index → s ≡ t
    → Went step (InBody w s ls ss) a b → Went step (InScope w t) a b
scope_went w s t ls ss a b e f g h = subst (λ (z : Scope). Went step (InBody w z [] (statements_at (declared w.files) t.class.index)) a b) g
    (subst (λ (y : List Statement). Went step (InBody w s [] y) a b) f (subst (λ (m : List Local). Went step (InBody w s m ss) a b) e h))

pub scope_stops : (w : Model) (s t : Scope) (ls : List Local) (ss : List Statement) (a : Made) (o : Option Fault) → ls ≡ [] → ss ≡ statements_at (declared w.files) t.class.index → s ≡ t
    → StopsAt step (InBody w s ls ss) a o → StopsAt step (InScope w t) a o
scope_stops w s t ls ss a o e f g h = subst (λ (z : Scope). StopsAt step (InBody w z [] (statements_at (declared w.files) t.class.index)) a o) g
    (subst (λ (y : List Statement). StopsAt step (InBody w s [] y) a o) f (subst (λ (m : List Local). StopsAt step (InBody w s m ss) a o) e h))

pub at_block : (A X : Type 0) (view : X → Option Fault) (w : Model) (x : Instance) (c : ClassId) (p : List Step) (a b : Made) (r : Result A X) → x.content ≡ content.Block c → p ≡ x.path.steps
    → Runs view step (InScope w (scope_of w p c)) a r b → Runs view step (InInstance w x) a r b
at_block A X view w x c p a b r e f h = subst (λ (o : Content). Runs view step (InContent w x o) a r b) (sym e) (subst (λ (q : List Step). Runs view step (InScope w (scope_of w q c)) a r b) f h)

-- an instance of a kind brings nothing
pub at_kind : (w : Model) (x : Instance) (a : Made) → ((k : Key) (e : Event) → InInstance w x k e → ⊥) → Went step (InInstance w x) a a
at_kind w x a n = went_all step (InInstance w x) 0 a a (λ k e h. absurd (n k e h)) (went_nothing step (InInstance w x) a (λ e h. n [] e h))

pub model_starts : (w : Model) (xs : List Instance) (m : Made) → Went step (upto (InModel w xs) 0) m m
model_starts w xs m = went_nothing step (InModel w xs) m (λ e h. h)

pub model_next : (w w' : Model) (xs : List Instance) (i : ℕ) (x : Instance) (a b c : Made) → w' ≡ w → i < length xs → x ≡ get_or xs i x
    → Went step (upto (InModel w xs) i) a b → Went step (InInstance w' x) b c → Went step (upto (InModel w xs) (i + 1)) a c
model_next w w' xs i x a b c f h g u v = went_step step (InModel w xs) i a b c u
    (subst (λ (o : Option Instance). Went step (λ k d. ForSome o (λ y. InInstance w y k d)) b c) (sym (there xs i x h g)) (subst (λ (z : Model). Went step (InInstance z x) b c) f v))

pub model_stops : (w w' : Model) (xs : List Instance) (i : ℕ) (x : Instance) (a b : Made) (o : Option Fault) → w' ≡ w → i < length xs → x ≡ get_or xs i x
    → Went step (upto (InModel w xs) i) a b → StopsAt step (InInstance w' x) b o → StopsAt step (InModel w xs) a o
model_stops w w' xs i x a b o f h g u v = at_under step (InModel w xs) i a b o u
    (subst (λ (z : Option Instance). StopsAt step (λ k d. ForSome z (λ y. InInstance w y k d)) b o) (sym (there xs i x h g)) (subst (λ (z : Model). StopsAt step (InInstance z x) b o) f v))

model_key : (w : Model) (xs : List Instance) (k : Key) (e : Event) → InModel w xs k e → Below (length xs) k
model_key w xs [] e h = absurd h
model_key w xs (i ∷ k) e h = elim (cases_lt i (length xs)) [
  | inl lt ↦ lt
  | inr le ↦ absurd (subst (λ (o : Option Instance). ForSome o (λ x. InInstance w x k e)) (slice_get_past xs i le) h)
]

pub model_all : (w : Model) (xs : List Instance) (n : ℕ) (a b : Made) → n ≡ length xs → Went step (upto (InModel w xs) n) a b → Went step (InModel w xs) a b
model_all w xs n a b e u = went_all step (InModel w xs) n a b (λ k d h. subst (λ m. Below m k) (sym e) (model_key w xs k d h)) u

pub instance_at : (w w' : Model) (d : Directory) (xs : List Instance) (i n : ℕ) (x : Instance) → IsListed w d xs → w' ≡ w → n ≡ i → i < length xs → x ≡ get_or xs i x → IsInstance w' d n x
instance_at w w' d xs i n x a e q h g = subst (λ (z : Model). IsInstance z d n x) (sym e) (subst (λ (k : ℕ). IsInstance w d k x) (sym q) (a.each i x (there xs i x h g)))
