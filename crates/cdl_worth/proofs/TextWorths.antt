-- The texts of what names, expressions, parameters and units are worth are UTF-8.
use Rattle.std.proofs.Common.{ℕ, zero, suc, ◌≡◌, refl, subst, Bool, true, List, [], ◌∷◌, ◌++◌, map, take, drop, length, Option, Some, None, Err, codes}
use Rattle.std.specs.Prelude.{All, slice_get}
use Rattle.std.specs.List.{list_all}
use Rattle.std.proofs.lemmas.Bool.{and_parts, leb-true}
use Rattle.std.proofs.lemmas.List.Elements.{All-nil, All-cons, All-head, All-tail, All-replicate}
use Rattle.std.proofs.lemmas.Str.{IsUtf8-from_is_utf8, IsUtf8-nil}
use Rattle.cdl_decimal.specs.Near.{in_range}
use Rattle.cdl_source.specs.declared.limits.TheConstants.{LONGEST_UNIT}
use Rattle.cdl_source.specs.declared.rules.TheConstants.{PARAMETER_WITHOUT_VALUE}
use Rattle.cdl_values.specs.declared.value.Array.{Array}
use Rattle.cdl_values.specs.declared.value.Value.{Value}
use Rattle.cdl_values.specs.declared.value.Value.TheVariants as value
use Rattle.cdl_values.specs.declared.value.ValueType.{ValueType}
use Rattle.cdl_values.specs.declared.value.ValueType.TheVariants as type
use Rattle.cdl_tree.specs.declared.name.Name.{Name}
use Rattle.cdl_tree.specs.declared.expr.Op.{Op}
use Rattle.cdl_tree.specs.declared.expr.Expr.{Expr, fold-Expr, roll-Expr}
use Rattle.cdl_tree.specs.declared.expr.Node.{Node}
use Rattle.cdl_tree.specs.declared.expr.Node.TheOpen.{Node-F, Expr-F}
use Rattle.cdl_tree.specs.declared.expr.Node.TheFolds.{ind-Expr, map-Node, map-Expr, fold-Node, fold-roll-Expr, fold-roll-Node}
use Rattle.cdl_tree.specs.declared.expr.Node.TheViews.{roll-Node}
use Rattle.cdl_tree.specs.declared.class.Item.{Item}
use Rattle.cdl_tree.specs.Proper.{all_of, is_proper}
use Rattle.cdl_tree.specs.Formed.{formed_ident, node_written, expr_written, is_written, is_formed}
use Rattle.cdl_array.specs.declared.functions.Function.{Function}
use Rattle.cdl_array.specs.Outcomes.{Outcome}
use Rattle.cdl_array.specs.Operators.{decided, condition}
use Rattle.cdl_array.specs.Functions.{function_named, takes}
use Rattle.cdl_array.specs.Sizes.{count_of}
use Rattle.cdl_array.specs.Scalars.{scalar, scalar_of}
use Rattle.cdl_array.specs.Types.{converted}
use Rattle.cdl_array.specs.Parts.{part}
use Rattle.cdl_kinds.specs.declared.kind.Kind.{Kind}
use Rattle.cdl_kinds.specs.declared.parameter.Preset.{Preset}
use Rattle.cdl_kinds.specs.declared.parameter.Preset.TheVariants as preset
use Rattle.cdl_kinds.specs.Table.{ParameterRow}
use Rattle.cdl_kinds.specs.Parameters.{parameters}
use Rattle.cdl_scopes.specs.Classes.{Full, Declared, parts_of}
use Rattle.cdl_scopes.specs.Lookup.{item_name}
use Rattle.cdl_classes.specs.declared.found.Found.{Found}
use Rattle.cdl_classes.specs.declared.found.Found.TheVariants as it
use Rattle.cdl_paths.specs.declared.path.Local.{Local}
use Rattle.cdl_paths.specs.declared.reference.Reference.{Reference}
use Rattle.cdl_paths.specs.declared.reference.Reference.TheVariants as reference
use Rattle.cdl_paths.specs.Members.{Declaration, item_at, member, site}
use Rattle.cdl_paths.specs.Bindings.{Given, Bound, by_text, by_kind, binding_of, row_named}
use Rattle.cdl_paths.specs.References.{refers}
use Rattle.cdl_paths.specs.HandOut.{indices_left, fits, handed, unit_part, spread, is_short, all_short, spread_text, units}
use Rattle.cdl_worth.specs.Expressions.{all, subscripted, called, right_side, node_step, expr_step, eval}
use Rattle.cdl_worth.specs.Sizes.{declared_sizes, gather}
use Rattle.cdl_worth.specs.Values.{Steps, StepSizes, Link, the_class, constant, worth, first_part, names_in, names, eval_at, written, outs, given_value, declared_type, item_value, one_of, preset_value, row_sizes, row_bound, row_value, plain_value, nin_of, kind_value, value_in, value_by, link, sizes, value as value_of, evaluate}
use Rattle.cdl_worth.specs.Units.{connector_sizes, through, own_left, unit_by, unit}
use Rattle.cdl_worth.specs.Texts.{IsText, HasTexts, IsUnit, HasUnits, are_formed}
use Rattle.cdl_worth.proofs.Given.{Gives, then_gives, any_gives, some_gives, holds_gives, cond_gives}
use Rattle.cdl_worth.proofs.Texts.{scalar_text, scalar_gives, binary_gives, unary_gives, call_gives, literal_gives, subscript_gives, part_gives, converted_gives}
use Rattle.cdl_worth.proofs.Formed.{FormedBound, binding_formed}

-- ---- expressions

module _ {X : Type 0} (w : X → Bool) (f : X → Outcome Array) where
  all_give : (xs : List ((x : X) × (w x ≡ true → Gives HasTexts (f x)))) → all_of (map w (map (λ p. p.0) xs)) ≡ true → Gives (All HasTexts) (all (map f (map (λ p. p.0) xs)))
  all_give [] h = record { held = All-nil HasTexts }
  all_give (p ∷ xs) h =
      let both = and_parts (w p.0) (all_of (map w (map (λ p. p.0) xs))) h in
      then_gives _ _ HasTexts (All HasTexts) (p.1 both.0) (λ a g. then_gives _ _ (All HasTexts) (All HasTexts) (all_give xs both.1) (λ rest i. record { held = All-cons HasTexts a rest g i }))

  subscripted_give : (a : Array) → HasTexts a → (xs : List ((x : X) × (w x ≡ true → Gives HasTexts (f x)))) → all_of (map w (map (λ p. p.0) xs)) ≡ true
      → Gives HasTexts (subscripted (map f (map (λ p. p.0) xs)) a)
  subscripted_give a g [] h = record { held = g }
  subscripted_give a g (p ∷ xs) h = any_gives (all (map f (map (λ q. q.0) (p ∷ xs)))) _ HasTexts (λ subs. subscript_gives a subs g)

  called_give : (o : Option Function) (xs : List ((x : X) × (w x ≡ true → Gives HasTexts (f x)))) → all_of (map w (map (λ p. p.0) xs)) ≡ true → Gives HasTexts (called o (map f (map (λ p. p.0) xs)))
  called_give None xs h = record { held = tt }
  called_give (Some k) xs h = holds_gives (takes k (length (map f (map (λ p. p.0) xs)))) _ _ HasTexts (λ e. then_gives _ _ (All HasTexts) HasTexts (all_give xs h) (call_gives k))

right_gives : (op : Op) (a : Array) (y : Outcome Array) (o : Option Bool) → Gives HasTexts (right_side op a y o)
right_gives op a y (Some b) = scalar_gives (value.Boolean b) tt
right_gives op a y None = any_gives y _ HasTexts (binary_gives op a)

abbrev node_eval : (Name → Outcome Array) → Node → Outcome Array
node_eval f = fold-Node (Outcome Array) (Outcome Array) (node_step f) expr_step

abbrev expr_eval : (Name → Outcome Array) → Expr → Outcome Array
expr_eval f = fold-Expr (Outcome Array) (Outcome Array) (node_step f) expr_step

abbrev written_node : Node → Bool
written_node = fold-Node Bool Bool node_written expr_written

abbrev written_expr : Expr → Bool
written_expr = fold-Expr Bool Bool node_written expr_written

abbrev NodeGives : (Name → Outcome Array) → Node → Type 0
NodeGives f n = written_node n ≡ true → Gives HasTexts (node_eval f n)

abbrev ExprGives : (Name → Outcome Array) → Expr → Type 0
ExprGives f e = written_expr e ≡ true → Gives HasTexts (expr_eval f e)

-- a node with something beside each of its parts
abbrev Beside : (f : Name → Outcome Array) → Type 0
Beside f = Node-F ((n : Node) × NodeGives f n) ((e : Expr) × ExprGives f e)

abbrev firsts : (f : Name → Outcome Array) → Beside f → Node-F Node Expr
firsts f y = map-Node ((n : Node) × NodeGives f n) ((e : Expr) × ExprGives f e) Node Expr (λ p. p.0) (λ p. p.0) y

abbrev the_first : (f : Name → Outcome Array) → Expr-F ((n : Node) × NodeGives f n) ((e : Expr) × ExprGives f e) → Expr-F Node Expr
the_first f y = map-Expr ((n : Node) × NodeGives f n) ((e : Expr) × ExprGives f e) Node Expr (λ p. p.0) (λ p. p.0) y

node_gives : (f : Name → Outcome Array) → ((n : Name) → Gives HasTexts (f n)) → (y : Beside f) → node_written (map-Node Node Expr Bool Bool written_node written_expr (firsts f y)) ≡ true
    → Gives HasTexts (node_step f (map-Node Node Expr (Outcome Array) (Outcome Array) (node_eval f) (expr_eval f) (firsts f y)))
node_gives f h (Node-F.Integer z) w = scalar_gives (value.Integer z) tt
node_gives f h (Node-F.Real q) w = scalar_gives (value.Real q) tt
node_gives f h (Node-F.Str s) w = scalar_gives (value.Str s) (IsUtf8-from_is_utf8 s w)
node_gives f h (Node-F.Boolean b) w = scalar_gives (value.Boolean b) tt
node_gives f h (Node-F.Refer name subs) w =
    then_gives _ _ HasTexts HasTexts (h name) (λ a g. subscripted_give written_expr (expr_eval f) a g subs (and_parts (list_all formed_ident name.parts) _ w).1)
node_gives f h (Node-F.Call function args) w = called_give written_expr (expr_eval f) (function_named function.text) args (and_parts (formed_ident function) _ w).1
node_gives f h (Node-F.Array items) w = then_gives _ _ (All HasTexts) HasTexts (all_give written_expr (expr_eval f) items w) literal_gives
node_gives f h (Node-F.Unary op x) w = any_gives (expr_eval f x.0) _ HasTexts (unary_gives op)
node_gives f h (Node-F.Binary op x y) w = any_gives (expr_eval f x.0) _ HasTexts (λ a. any_gives (decided op a) _ HasTexts (λ o. right_gives op a (expr_eval f y.0) o))
node_gives f h (Node-F.If c x y) w =
    let rest = and_parts (written_expr x.0) (written_expr y.0) (and_parts (written_expr c.0) _ w).1 in
    any_gives (expr_eval f c.0) _ HasTexts (λ a. any_gives (condition a) _ HasTexts (λ b. cond_gives b (expr_eval f x.0) (expr_eval f y.0) HasTexts (x.1 rest.0) (y.1 rest.1)))

expr_gives : (f : Name → Outcome Array) → ((n : Name) → Gives HasTexts (f n)) → (e : Expr) → ExprGives f e
expr_gives f h e = ind-Expr (NodeGives f) (ExprGives f)
    (λ x y is. subst (λ z. NodeGives f (roll-Node z)) is
    (rw (fold-roll-Node (Outcome Array) (Outcome Array) (node_step f) expr_step (firsts f y), fold-roll-Node Bool Bool node_written expr_written (firsts f y)) (node_gives f h y)))
    (λ x y is. subst (λ z. ExprGives f (roll-Expr z)) is
    (rw (fold-roll-Expr (Outcome Array) (Outcome Array) (node_step f) expr_step (the_first f y), fold-roll-Expr Bool Bool node_written expr_written (the_first f y)) y.node.1))
    e

pub eval_gives : (f : Name → Outcome Array) → ((n : Name) → Gives HasTexts (f n)) → (e : Expr) → is_formed e ≡ true → Gives HasTexts (eval f e)
unfolding eval is_formed is_written
eval_gives f h e w = expr_gives f h e (and_parts (is_proper e) (written_expr e) w).1

-- ---- names

-- links that lead to texts
abbrev pub LinkGives : Link → Type 0
LinkGives l = (r : ℕ) (ss : StepSizes) (p : Steps) (n : List ℕ) → Gives HasTexts (l r ss p n)

constant_gives : (l : Link) → LinkGives l → (q : ℕ) (x : Option Item) → Gives HasTexts (constant l q x)
constant_gives l h q None = record { held = tt }
constant_gives l h q (Some x) = h q [] [] (item_name x)

worth_gives : (ds : List Declared) (l : Link) → LinkGives l → (f : List ℕ → Outcome Array) → ((n : List ℕ) → Gives HasTexts (f n)) → (x : List ℕ) (w : Reference) → Gives HasTexts (worth ds l f x w)
worth_gives ds l h f k x (reference.Local z) = scalar_gives (value.Integer z) tt
worth_gives ds l h f k x reference.Own = k x
worth_gives ds l h f k x (reference.Constant p i) = constant_gives l h p.index (item_at ds p.index i)
worth_gives ds l h f k x (reference.Literal c o) = scalar_gives (value.Enumeration c.index o) tt
worth_gives ds l h f k x reference.Unknown = record { held = tt }

names_in_give : (ds : List Declared) (l : Link) → LinkGives l → (f : List ℕ → Outcome Array) → ((n : List ℕ) → Gives HasTexts (f n)) → (locals : List Local) (name : Full) (o : Option Found)
    → Gives HasTexts (names_in ds l f locals name o)
names_in_give ds l h f k locals name None = record { held = tt }
names_in_give ds l h f k locals name (Some (it.Class c)) = worth_gives ds l h f k (first_part name) (refers ds c.index locals name)
names_in_give ds l h f k locals name (Some (it.Kind x)) = record { held = tt }
names_in_give ds l h f k locals name (Some (it.Connector t b)) = record { held = tt }
names_in_give ds l h f k locals name (Some (it.Scalar t)) = record { held = tt }
names_in_give ds l h f k locals name (Some it.Package) = record { held = tt }
names_in_give ds l h f k locals name (Some it.Unsupported) = record { held = tt }

names_give : (ds : List Declared) (l : Link) → LinkGives l → (r : ℕ) (ss : StepSizes) (p : Steps) (locals : List Local) (name : Name) → Gives HasTexts (names ds l r ss p locals name)
names_give ds l h r ss p locals name = names_in_give ds l h (l r ss p) (h r ss p) locals (parts_of name) (site ds (the_class r) p)

pub eval_at_gives : (ds : List Declared) (l : Link) → LinkGives l → (r : ℕ) (ss : StepSizes) (p : Steps) (locals : List Local) (e : Expr) → is_formed e ≡ true → Gives HasTexts (eval_at ds l r ss p locals e)
eval_at_gives ds l h r ss p locals e w = eval_gives (names ds l r ss p locals) (names_give ds l h r ss p locals) e w

-- ---- bindings

written_gives : (ds : List Declared) (l : Link) → LinkGives l → (r : ℕ) (ss : StepSizes) (p : Steps) (g : Given) → is_formed g.value ≡ true → Gives HasTexts (written ds l r ss p g)
written_gives ds l h r ss p g w = eval_at_gives ds l h r (take g.steps ss) (take g.steps p) [] g.value w

handed_gives : (t : ValueType) (wanted : List (Option ℕ)) (is : List ℕ) (a : Array) → HasTexts a → Gives HasTexts (handed t wanted is a)
handed_gives t wanted is a h = holds_gives (fits wanted a.shape) _ _ HasTexts (λ e. then_gives (part a is) (converted t) HasTexts HasTexts (part_gives a is h) (converted_gives t))

given_gives : (ds : List Declared) (l : Link) → LinkGives l → (r : ℕ) (ss : StepSizes) (p : Steps) (n : List ℕ) (t : ValueType) (own : Outcome (List (Option ℕ))) (g : Given) → is_formed g.value ≡ true
    → Gives HasTexts (given_value ds l r ss p n t own g)
given_gives ds l h r ss p n t own g w = then_gives _ _ HasTexts HasTexts (written_gives ds l h r ss p g w) (λ a i.
    any_gives own _ HasTexts (λ ws. any_gives (gather (outs p n g) (drop g.steps ss)) _ HasTexts (λ ns. handed_gives t (map Some ns ++ ws) (indices_left (outs p n g) (drop g.steps p)) a i)))

item_gives : (ds : List Declared) (l : Link) → LinkGives l → (r : ℕ) (ss : StepSizes) (p : Steps) (n : List ℕ) (m : Declaration) (b : Option Bound) → FormedBound b → Gives HasTexts (item_value ds l r ss p n m b)
item_gives ds l h r ss p n m None w = record { held = tt }
item_gives ds l h r ss p n m (Some (by_kind d)) w = record { held = tt }
item_gives ds l h r ss p n m (Some (by_text g)) w = some_gives (declared_type m.class) _ _ HasTexts (λ t e. given_gives ds l h r ss p n t (declared_sizes (eval_at ds l r ss p []) m.item.dims) g w)

one_text : (t : ValueType) → IsText (one_of t)
one_text type.Boolean = tt
one_text type.Integer = tt
one_text type.Real = tt
one_text type.Str = tt
one_text (type.Enumeration c) = tt

preset_gives : (f : ℕ → Outcome Array) → ((j : ℕ) → Gives HasTexts (f j)) → (nin : Outcome ℕ) (t : ValueType) (d : Preset) → Gives HasTexts (preset_value f nin t d)
preset_gives f h nin t preset.Absent = record { held = tt }
preset_gives f h nin t (preset.Same j) = h j
preset_gives f h nin t preset.Ones = any_gives nin _ HasTexts (λ n. record { held = All-replicate IsText n (one_of t) (one_text t) })
preset_gives f h nin t (preset.Boolean b) = scalar_gives (value.Boolean b) tt
preset_gives f h nin t (preset.Integer z) = scalar_gives (value.Integer z) tt
preset_gives f h nin t (preset.Real q) = some_gives (in_range q) _ _ HasTexts (λ x e. scalar_gives (value.Real x) tt)

bound_gives : (ds : List Declared) (l : Link) → LinkGives l → (r : ℕ) (ss : StepSizes) (p : Steps) (f : ℕ → Outcome Array) → ((j : ℕ) → Gives HasTexts (f j)) → (nin : Outcome ℕ) (row : ParameterRow) (b : Option Bound)
    → FormedBound b → Gives HasTexts (row_bound ds l r ss p f nin row b)
bound_gives ds l h r ss p f k nin row None w = record { held = tt }
bound_gives ds l h r ss p f k nin row (Some (by_text g)) w = given_gives ds l h r ss p row.name row.value_type (row_sizes nin row.per_nin) g w
bound_gives ds l h r ss p f k nin row (Some (by_kind d)) w = preset_gives f k nin row.value_type d

-- ---- values, where the classes are formed

module _ (ds : List Declared) (formed : are_formed ds ≡ true) where
  row_gives : (l : Link) → LinkGives l → (r : ℕ) (ss : StepSizes) (p : Steps) (f : ℕ → Outcome Array) → ((j : ℕ) → Gives HasTexts (f j)) → (nin : Outcome ℕ) (row : ParameterRow) → Gives HasTexts (row_value ds l r ss p f nin row)
  row_gives l h r ss p f k nin row = bound_gives ds l h r ss p f k nin row (binding_of ds (the_class r) 0 p row.name) (binding_formed ds formed p (the_class r) 0 row.name)

  plain_gives : (l : Link) → LinkGives l → (r : ℕ) (ss : StepSizes) (p : Steps) (o : Option ParameterRow) → Gives HasTexts (plain_value ds l r ss p o)
  plain_gives l h r ss p None = record { held = tt }
  plain_gives l h r ss p (Some row) = row_gives l h r ss p (λ j. Err PARAMETER_WITHOUT_VALUE) (λ j. record { held = tt }) (Err PARAMETER_WITHOUT_VALUE) row

  kind_gives : (l : Link) → LinkGives l → (r : ℕ) (ss : StepSizes) (p : Steps) (kind : Kind) (row : ParameterRow) → Gives HasTexts (kind_value ds l r ss p kind row)
  kind_gives l h r ss p kind row = row_gives l h r ss p (λ j. plain_value ds l r ss p (slice_get (parameters kind) j)) (λ j. plain_gives l h r ss p (slice_get (parameters kind) j)) (nin_of ds l r ss p kind) row

  value_in_gives : (l : Link) → LinkGives l → (r : ℕ) (ss : StepSizes) (p : Steps) (n : List ℕ) (o : Option Found) → Gives HasTexts (value_in ds l r ss p n o)
  value_in_gives l h r ss p n None = record { held = tt }
  value_in_gives l h r ss p n (Some (it.Class c)) = some_gives (member ds c.index n) _ _ HasTexts (λ m e. item_gives ds l h r ss p n m (binding_of ds (the_class r) 0 p n) (binding_formed ds formed p (the_class r) 0 n))
  value_in_gives l h r ss p n (Some (it.Kind kind)) = some_gives (row_named n (parameters kind)) _ _ HasTexts (λ row e. kind_gives l h r ss p kind row)
  value_in_gives l h r ss p n (Some (it.Connector t b)) = record { held = tt }
  value_in_gives l h r ss p n (Some (it.Scalar t)) = record { held = tt }
  value_in_gives l h r ss p n (Some it.Package) = record { held = tt }
  value_in_gives l h r ss p n (Some it.Unsupported) = record { held = tt }

  value_by_gives : (l : Link) → LinkGives l → LinkGives (value_by ds l)
  value_by_gives l h r ss p n = value_in_gives l h r ss p n (site ds (the_class r) p)

  link_gives : (d : ℕ) → LinkGives (link ds d)
  link_gives zero r ss p n = record { held = tt }
  link_gives (suc d) r ss p n = value_by_gives (link ds d) (link_gives d) r ss p n

  pub value_gives : (d r : ℕ) (p : Steps) (n : List ℕ) → Gives HasTexts (value_of ds d r p n)
  unfolding value_of
  value_gives d r p n = value_by_gives (link ds d) (link_gives d) r (sizes ds r p) p n

  pub evaluate_gives : (d r : ℕ) (p : Steps) (locals : List Local) (e : Expr) → is_formed e ≡ true → Gives HasTexts (evaluate ds d r p locals e)
  evaluate_gives d r p locals e w = eval_at_gives ds (link ds d) (link_gives d) r (sizes ds r p) p locals e w

-- ---- units

part_of_unit : (wanted : List (Option ℕ)) (is : List ℕ) (a : Array) (o : Option Value) → HasTexts a → Gives HasTexts (unit_part wanted is a o)
part_of_unit wanted is a (Some v) h = record { held = h }
part_of_unit wanted is a None h = holds_gives (fits wanted a.shape) _ _ HasTexts (λ e. part_gives a is h)

spread_gives : (shape : List ℕ) (a : Array) (o : Option Value) → HasTexts a → ((v : Value) → o ≡ Some v → IsText v) → Gives HasTexts (spread shape a o)
spread_gives shape a None h k = record { held = h }
spread_gives shape a (Some v) h k = any_gives (count_of shape) _ HasTexts (λ n. record { held = All-replicate IsText n v (k v refl) })

short_unit : (v : Value) → IsText v → is_short v ≡ true → IsUnit v
unfolding is_short
short_unit (value.Str t) h s = (h, leb-true (length t) LONGEST_UNIT s)
short_unit (value.Boolean b) h s = tt
short_unit (value.Integer z) h s = tt
short_unit (value.Real q) h s = tt
short_unit (value.Enumeration c o) h s = tt

short_units : (vs : List Value) → All IsText vs → list_all is_short vs ≡ true → All IsUnit vs
short_units [] h s = All-nil IsUnit
short_units (v ∷ vs) h s =
    let both = and_parts (is_short v) (list_all is_short vs) s in
    All-cons IsUnit v vs (short_unit v (All-head IsText v vs h) both.0) (short_units vs (All-tail IsText v vs h) both.1)

short_gives : (a : Array) → HasTexts a → Gives HasUnits (all_short a)
short_gives a h = holds_gives (list_all is_short a.items) _ _ HasUnits (λ s. record { held = short_units a.items h s })

spread_text_gives : (shape : List ℕ) (a : Array) → HasTexts a → Gives HasUnits (spread_text shape a)
spread_text_gives shape a h = then_gives _ _ HasTexts HasUnits (converted_gives type.Str a h) (λ t i. then_gives (spread shape t (scalar_of t)) all_short HasTexts HasUnits (spread_gives shape t (scalar_of t) i (λ v e. scalar_text t v i e)) short_gives)

units_give : (wanted : List (Option ℕ)) (is shape : List ℕ) (a : Array) → HasTexts a → Gives HasUnits (units wanted is shape a)
units_give wanted is shape a h = then_gives (unit_part wanted is a (scalar_of a)) (spread_text shape) HasTexts HasUnits (part_of_unit wanted is a (scalar_of a) h) (spread_text_gives shape)

no_unit : (ns : List ℕ) → Gives HasUnits (units [] [] ns (scalar (value.Str [])))
no_unit ns = units_give [] [] ns (scalar (value.Str [])) (All-cons IsText (value.Str []) [] IsUtf8-nil (All-nil IsText))

unit_by_gives : (ds : List Declared) (l : Link) → LinkGives l → (r : ℕ) (ss : StepSizes) (p : Steps) (n ns : List ℕ) (b : Option Bound) → FormedBound b → Gives HasUnits (unit_by ds l r ss p n ns b)
unit_by_gives ds l h r ss p n ns None w = no_unit ns
unit_by_gives ds l h r ss p n ns (Some (by_kind d)) w = no_unit ns
unit_by_gives ds l h r ss p n ns (Some (by_text g)) w = then_gives _ _ HasTexts HasUnits (written_gives ds l h r ss p g w) (λ a i.
    any_gives (gather (outs (through p n) (codes "unit") g) (drop g.steps ss)) _ HasUnits (λ ws.
    units_give (map Some (ws ++ own_left (outs (through p n) (codes "unit") g) ns)) (indices_left (outs (through p n) (codes "unit") g) (drop g.steps p)) ns a i))

pub unit_gives : (ds : List Declared) → are_formed ds ≡ true → (d r : ℕ) (p : Steps) (n : List ℕ) → Gives HasUnits (unit ds d r p n)
unfolding unit
unit_gives ds formed d r p n = any_gives (connector_sizes ds (link ds d) r (sizes ds r p) p n (site ds (the_class r) p)) _ HasUnits (λ ns. unit_by_gives ds (link ds d) (link_gives ds formed d) r (sizes ds r p) p n ns
    (binding_of ds (the_class r) 0 (through p n) (codes "unit")) (binding_formed ds formed (through p n) (the_class r) 0 (codes "unit")))
