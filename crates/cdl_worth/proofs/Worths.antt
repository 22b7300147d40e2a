-- What more links change in what names, declared sizes and bindings are worth.
use Rattle.std.proofs.Common.{ℕ, zero, suc, ◌≤◌, refl, arith, Bool, true, false, List, [], ◌∷◌, take, Option, Some, None, Err, codes}
use Rattle.std.specs.Prelude.{slice_get}
use Rattle.cdl_values.specs.declared.value.Array.{Array}
use Rattle.cdl_values.specs.declared.value.ValueType.{ValueType}
use Rattle.cdl_tree.specs.declared.name.Name.{Name}
use Rattle.cdl_tree.specs.declared.expr.Expr.{Expr}
use Rattle.cdl_tree.specs.declared.class.Dim.{Dim}
use Rattle.cdl_tree.specs.declared.class.Dim.TheVariants as dim
use Rattle.cdl_tree.specs.declared.class.Item.{Item}
use Rattle.cdl_source.specs.declared.rules.TheConstants.{WRONG_TYPE, UNKNOWN_NAME, PARAMETER_WITHOUT_VALUE}
use Rattle.cdl_array.specs.Outcomes.{Outcome}
use Rattle.cdl_kinds.specs.declared.kind.Kind.{Kind}
use Rattle.cdl_kinds.specs.declared.parameter.Preset.{Preset}
use Rattle.cdl_kinds.specs.declared.parameter.Preset.TheVariants as preset
use Rattle.cdl_kinds.specs.Table.{ParameterRow}
use Rattle.cdl_kinds.specs.Parameters.{parameters}
use Rattle.cdl_scopes.specs.Classes.{Full, Declared, parts_of}
use Rattle.cdl_scopes.specs.Lookup.{item_name}
use Rattle.cdl_classes.specs.declared.found.Found.{Found}
use Rattle.cdl_classes.specs.declared.found.Found.TheVariants as it
use Rattle.cdl_paths.specs.declared.path.Local.{Local}
use Rattle.cdl_paths.specs.declared.reference.Reference.{Reference}
use Rattle.cdl_paths.specs.declared.reference.Reference.TheVariants as reference
use Rattle.cdl_paths.specs.Members.{Declaration, item_at, member, site}
use Rattle.cdl_paths.specs.Bindings.{Given, Bound, by_text, by_kind, binding_of, row_named}
use Rattle.cdl_paths.specs.References.{refers}
use Rattle.cdl_worth.specs.Sizes.{dim_size, dim_sizes, declared_sizes, sizes_of}
use Rattle.cdl_worth.specs.Values.{Steps, StepSizes, Link, the_class, constant, worth, first_part, names_in, names, eval_at, written, given_value, declared_type, item_value, preset_value, row_sizes, row_bound, row_value, plain_value, nin_of, kind_value, value_in, value_by, link, present_if}
use Rattle.cdl_worth.specs.Links.{Within, too_deep, same}
use Rattle.cdl_worth.proofs.Withins.{then_within, before_within, some_within}
use Rattle.cdl_worth.proofs.Evals.{eval_within}

-- links of which the second lead further
abbrev pub LinkWithin : Link → Link → Type 0
LinkWithin l m = (r : ℕ) (ss : StepSizes) (p : Steps) (n : List ℕ) → Within (l r ss p n) (m r ss p n)

constant_within : (l m : Link) → LinkWithin l m → (q : ℕ) (x : Option Item) → Within (constant l q x) (constant m q x)
constant_within l m h q None = same refl
constant_within l m h q (Some x) = h q [] [] (item_name x)

worth_within : (ds : List Declared) (l m : Link) → LinkWithin l m → (f g : List ℕ → Outcome Array) → ((n : List ℕ) → Within (f n) (g n)) → (x : List ℕ) (w : Reference) → Within (worth ds l f x w) (worth ds m g x w)
worth_within ds l m h f g k x (reference.Local z) = same refl
worth_within ds l m h f g k x reference.Own = k x
worth_within ds l m h f g k x (reference.Constant p i) = constant_within l m h p.index (item_at ds p.index i)
worth_within ds l m h f g k x (reference.Literal c o) = same refl
worth_within ds l m h f g k x reference.Unknown = same refl

names_in_within : (ds : List Declared) (l m : Link) → LinkWithin l m → (f g : List ℕ → Outcome Array) → ((n : List ℕ) → Within (f n) (g n)) → (locals : List Local) (name : Full) (o : Option Found) → Within (names_in ds l f locals name o) (names_in ds m g locals name o)
names_in_within ds l m h f g k locals name None = same refl
names_in_within ds l m h f g k locals name (Some (it.Class c)) = worth_within ds l m h f g k (first_part name) (refers ds c.index locals name)
names_in_within ds l m h f g k locals name (Some (it.Kind x)) = same refl
names_in_within ds l m h f g k locals name (Some (it.Connector t b)) = same refl
names_in_within ds l m h f g k locals name (Some (it.Scalar t)) = same refl
names_in_within ds l m h f g k locals name (Some it.Package) = same refl
names_in_within ds l m h f g k locals name (Some it.Unsupported) = same refl

pub names_within : (ds : List Declared) (l m : Link) → LinkWithin l m → (r : ℕ) (ss : StepSizes) (p : Steps) (locals : List Local) (name : Name) → Within (names ds l r ss p locals name) (names ds m r ss p locals name)
names_within ds l m h r ss p locals name = names_in_within ds l m h (l r ss p) (m r ss p) (h r ss p) locals (parts_of name) (site ds (the_class r) p)

pub eval_at_within : (ds : List Declared) (l m : Link) → LinkWithin l m → (r : ℕ) (ss : StepSizes) (p : Steps) (locals : List Local) (e : Expr) → Within (eval_at ds l r ss p locals e) (eval_at ds m r ss p locals e)
eval_at_within ds l m h r ss p locals e = eval_within (names ds l r ss p locals) (names ds m r ss p locals) (names_within ds l m h r ss p locals) e

written_within : (ds : List Declared) (l m : Link) → LinkWithin l m → (r : ℕ) (ss : StepSizes) (p : Steps) (g : Given) → Within (written ds l r ss p g) (written ds m r ss p g)
written_within ds l m h r ss p g = eval_at_within ds l m h r (take g.steps ss) (take g.steps p) [] g.value

given_within : (ds : List Declared) (l m : Link) → LinkWithin l m → (r : ℕ) (ss : StepSizes) (p : Steps) (n : List ℕ) (t : ValueType) (v w : Outcome (List (Option ℕ))) → Within v w → (g : Given)
    → Within (given_value ds l r ss p n t v g) (given_value ds m r ss p n t w g)
given_within ds l m h r ss p n t v w k g = then_within _ _ _ _ (written_within ds l m h r ss p g) (λ a. before_within _ _ _ k)

-- ---- sizes

dim_within : (f g : Expr → Outcome Array) → ((e : Expr) → Within (f e) (g e)) → (d : Dim) → Within (dim_size f d) (dim_size g d)
dim_within f g h dim.Any = same refl
dim_within f g h (dim.Size e) = before_within _ _ _ (h e)

dims_within : (f g : Expr → Outcome Array) → ((e : Expr) → Within (f e) (g e)) → (ds : List Dim) → Within (dim_sizes f ds) (dim_sizes g ds)
dims_within f g h [] = same refl
dims_within f g h (d ∷ ds) = then_within _ _ _ _ (dim_within f g h d) (λ w. before_within _ _ _ (dims_within f g h ds))

pub declared_within : (f g : Expr → Outcome Array) → ((e : Expr) → Within (f e) (g e)) → (ds : List Dim) → Within (declared_sizes f ds) (declared_sizes g ds)
declared_within f g h ds = before_within _ _ _ (dims_within f g h ds)

pub sizes_within : (f g : Expr → Outcome Array) → ((e : Expr) → Within (f e) (g e)) → (ds : List Dim) → Within (sizes_of f ds) (sizes_of g ds)
sizes_within f g h ds = before_within _ _ _ (declared_within f g h ds)

pub present_within : (f g : Expr → Outcome Array) → ((e : Expr) → Within (f e) (g e)) → (o : Option Expr) → Within (present_if f o) (present_if g o)
present_within f g h None = same refl
present_within f g h (Some e) = before_within _ _ _ (h e)

-- ---- bindings

item_within : (ds : List Declared) (l m : Link) → LinkWithin l m → (r : ℕ) (ss : StepSizes) (p : Steps) (n : List ℕ) (d : Declaration) (b : Option Bound) → Within (item_value ds l r ss p n d b) (item_value ds m r ss p n d b)
item_within ds l m h r ss p n d None = same refl
item_within ds l m h r ss p n d (Some (by_kind x)) = same refl
item_within ds l m h r ss p n d (Some (by_text g)) =
    some_within (declared_type d.class) WRONG_TYPE _ _ (λ t. given_within ds l m h r ss p n t _ _ (declared_within (eval_at ds l r ss p []) (eval_at ds m r ss p []) (eval_at_within ds l m h r ss p []) d.item.dims) g)

preset_within : (f g : ℕ → Outcome Array) → ((j : ℕ) → Within (f j) (g j)) → (v w : Outcome ℕ) → Within v w → (t : ValueType) (d : Preset) → Within (preset_value f v t d) (preset_value g w t d)
preset_within f g h v w k t preset.Absent = same refl
preset_within f g h v w k t (preset.Same j) = h j
preset_within f g h v w k t preset.Ones = before_within _ _ _ k
preset_within f g h v w k t (preset.Boolean b) = same refl
preset_within f g h v w k t (preset.Integer z) = same refl
preset_within f g h v w k t (preset.Real q) = same refl

row_sizes_within : (v w : Outcome ℕ) → Within v w → (b : Bool) → Within (row_sizes v b) (row_sizes w b)
row_sizes_within v w k false = same refl
row_sizes_within v w k true = before_within _ _ _ k

bound_within : (ds : List Declared) (l m : Link) → LinkWithin l m → (r : ℕ) (ss : StepSizes) (p : Steps) (f g : ℕ → Outcome Array) → ((j : ℕ) → Within (f j) (g j)) → (v w : Outcome ℕ) → Within v w → (row : ParameterRow) (b : Option Bound)
    → Within (row_bound ds l r ss p f v row b) (row_bound ds m r ss p g w row b)
bound_within ds l m h r ss p f g i v w k row None = same refl
bound_within ds l m h r ss p f g i v w k row (Some (by_text x)) = given_within ds l m h r ss p row.name row.value_type _ _ (row_sizes_within v w k row.per_nin) x
bound_within ds l m h r ss p f g i v w k row (Some (by_kind d)) = preset_within f g i v w k row.value_type d

row_within : (ds : List Declared) (l m : Link) → LinkWithin l m → (r : ℕ) (ss : StepSizes) (p : Steps) (f g : ℕ → Outcome Array) → ((j : ℕ) → Within (f j) (g j)) → (v w : Outcome ℕ) → Within v w → (row : ParameterRow)
    → Within (row_value ds l r ss p f v row) (row_value ds m r ss p g w row)
row_within ds l m h r ss p f g i v w k row = bound_within ds l m h r ss p f g i v w k row (binding_of ds (the_class r) 0 p row.name)

plain_within : (ds : List Declared) (l m : Link) → LinkWithin l m → (r : ℕ) (ss : StepSizes) (p : Steps) (o : Option ParameterRow) → Within (plain_value ds l r ss p o) (plain_value ds m r ss p o)
plain_within ds l m h r ss p None = same refl
plain_within ds l m h r ss p (Some row) = row_within ds l m h r ss p (λ j. Err PARAMETER_WITHOUT_VALUE) (λ j. Err PARAMETER_WITHOUT_VALUE) (λ j. same refl) (Err PARAMETER_WITHOUT_VALUE) (Err PARAMETER_WITHOUT_VALUE) (same refl) row

kind_within : (ds : List Declared) (l m : Link) → LinkWithin l m → (r : ℕ) (ss : StepSizes) (p : Steps) (kind : Kind) (row : ParameterRow) → Within (kind_value ds l r ss p kind row) (kind_value ds m r ss p kind row)
kind_within ds l m h r ss p kind row = row_within ds l m h r ss p (λ j. plain_value ds l r ss p (slice_get (parameters kind) j)) (λ j. plain_value ds m r ss p (slice_get (parameters kind) j)) (λ j. plain_within ds l m h r ss p (slice_get (parameters kind) j)) (nin_of ds l r ss p kind) (nin_of ds m r ss p kind) (before_within _ _ _ (plain_within ds l m h r ss p (row_named (codes "nin") (parameters kind)))) row

-- ---- values

value_in_within : (ds : List Declared) (l m : Link) → LinkWithin l m → (r : ℕ) (ss : StepSizes) (p : Steps) (n : List ℕ) (o : Option Found) → Within (value_in ds l r ss p n o) (value_in ds m r ss p n o)
value_in_within ds l m h r ss p n None = same refl
value_in_within ds l m h r ss p n (Some (it.Class c)) = some_within (member ds c.index n) UNKNOWN_NAME _ _ (λ d. item_within ds l m h r ss p n d (binding_of ds (the_class r) 0 p n))
value_in_within ds l m h r ss p n (Some (it.Kind kind)) = some_within (row_named n (parameters kind)) UNKNOWN_NAME _ _ (kind_within ds l m h r ss p kind)
value_in_within ds l m h r ss p n (Some (it.Connector t b)) = same refl
value_in_within ds l m h r ss p n (Some (it.Scalar t)) = same refl
value_in_within ds l m h r ss p n (Some it.Package) = same refl
value_in_within ds l m h r ss p n (Some it.Unsupported) = same refl

pub value_by_within : (ds : List Declared) (l m : Link) → LinkWithin l m → LinkWithin (value_by ds l) (value_by ds m)
value_by_within ds l m h r ss p n = value_in_within ds l m h r ss p n (site ds (the_class r) p)

pub link_within : (ds : List Declared) (k d : ℕ) → k ≤ d → LinkWithin (link ds k) (link ds d)
link_within ds zero d h r ss p n = too_deep refl
link_within ds (suc k) zero h r ss p n = absurd (omega (arith, h))
link_within ds (suc k) (suc d) h r ss p n = value_by_within ds (link ds k) (link ds d) (link_within ds k d (omega (arith, h))) r ss p n
