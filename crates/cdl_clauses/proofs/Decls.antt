-- The laws of declarations.
use Rattle.std.proofs.Common.{◌≡◌, ℕ, ◌<◌, List, [], ◌∷◌, ◌++◌, length, refl, sym, ap, ◌∙◌, subst, arith, append_assoc, append-nil, length-append}
use Rattle.cdl_tree.specs.declared.terminal.Terminal.{Terminal}
use Rattle.cdl_tree.specs.declared.terminal.Terminal.TheVariants as the
use Rattle.cdl_tree.specs.declared.class.Prefix.{Prefix}
use Rattle.cdl_tree.specs.declared.class.Prefix.TheVariants as prefix
use Rattle.cdl_tree.specs.declared.class.Dim.{Dim}
use Rattle.cdl_tree.specs.declared.class.Dim.TheVariants as dim
use Rattle.cdl_tree.specs.declared.class.Item.{Item}
use Rattle.cdl_tree.specs.Words.{Lexeme, Word, same_terminal}
use Rattle.cdl_tree.specs.Trees.{the_ident, listed, Head, the_item}
use Rattle.cdl_tree.specs.Grammar.{NameOf, ExprOf, Flag, Tail, OptionalArgs, Value, Condition, DimOf, any_size, a_size, DimList, one_dim, more_dims, Dims, no_dim, dims as some_dims, DeclOf, decl as a_decl, Decls, one_decl, more_decls, PrefixOf, no_prefix, parameter as a_parameter, constant_word, the_head, ClauseOf, clause as a_clause, ConstantOf, constant as a_constant}
use Rattle.cdl_clauses.specs.Declarations as spec
use Rattle.cdl_reading.proofs.Steps.{Then, both, Is, is, Made, is_made}
use Rattle.cdl_reading.proofs.Laws.{Law, shaped, begun_law, pure_law, made_law, then_law, Chosen, found, missing, only, only_is, is_only, eaten_law, One, a_token, word_then, Closed, closed, closing_law, flag_law}
use Rattle.cdl_reading.proofs.Repeats.{Row, row_one, row_more, row_in, Behind, row_behind, row_is, list_law}
use Rattle.cdl_expressions.proofs.Sets.{exprs, after_expr, after_name, after_tail, after_condition, after_value, after_args, after_dims}
use Rattle.cdl_expressions.proofs.ExprLaws.{IdentOf, an_ident, ident_law, name_law, name_some}
use Rattle.cdl_expressions.proofs.Operators.{expr_law}
use Rattle.cdl_clauses.proofs.Notes.{tail_law}
use Rattle.cdl_expressions.proofs.Args.{value_law, condition_law, optional_args_law, args_law}

-- ---- dimensions

abbrev after_dim : List Terminal
after_dim = the.Comma ∷ the.CloseBracket ∷ []

abbrev DimR : Word → Word → Dim → Type 0
DimR = Chosen (only the.Colon) (λ _. Is dim.Any) (Then (λ u. ExprOf) (λ e. Is (dim.Size e)))

dim_goes : (u w : Word) (x : Dim) → DimR u w x → DimOf w x
dim_goes u w x (found t {a = a} {y = y} h i) = end i (any_size t (only_is the.Colon t.terminal a h))
  where
    end : {y : Word} {z b : Dim} {s : Word} → Is z s y b → DimOf (t ∷ []) z → DimOf (t ∷ y) b
    end is x = x
dim_goes u w x (missing (both {x = v} {a = e} h i)) = end i (subst (λ z. DimOf z (dim.Size e)) (sym (append-nil v)) (a_size h))
  where
    end : {y : Word} {z b : Dim} {s : Word} → Is z s y b → DimOf (v ++ []) z → DimOf (v ++ y) b
    end is x = x

dim_comes : (u w : Word) (x : Dim) → DimOf w x → DimR u w x
dim_comes u _ _ (any_size t h) = found t (is_only the.Colon t.terminal h) is
dim_comes u _ _ (a_size {w} {e} x) = subst (λ z. DimR u z (dim.Size e)) (append-nil w) (missing (both x is))

dims_row : {w : Word} {ds : List Dim} → DimList w ds → Row the.Comma DimOf [] [] w ds
dims_row (one_dim {w} {d} x) = row_one [] w d x
dims_row (more_dims t xs c x) = row_more [] (dims_row xs) t c x

abbrev DimsR : Word → Word → List Dim → Type 0
DimsR = Chosen (only the.OpenBracket) (λ _. Closed DimList the.CloseBracket) (Is [])

dims_goes : (u w : Word) (ds : List Dim) → DimsR u w ds → Dims w ds
dims_goes u w ds (found t {a = a} h (closed b x g)) = some_dims t b (only_is the.OpenBracket t.terminal a h) x g
dims_goes u w ds (missing is) = no_dim

dims_comes : (u w : Word) (ds : List Dim) → Dims w ds → DimsR u w ds
dims_comes u _ _ no_dim = missing is
dims_comes u _ _ (some_dims t b h x g) = found t (is_only the.OpenBracket t.terminal h) (closed b x g)

-- ---- declarations

abbrev DeclR : Head → Word → Word → Item → Type 0
DeclR head u =
    Then (λ u. IdentOf) (λ i. Then (λ u. Dims) (λ ds. Then (λ u. OptionalArgs) (λ ms. Then (λ u. Value) (λ e. Then (λ u. Condition) (λ c. Then (λ u w (a : Unit {0}). Tail w) (λ _. Made (the_item head i ds (listed ms) e c))))))) []

decl_word : (u v x y z : Word) (i : Lexeme) → (((((i ∷ []) ++ u) ++ v) ++ x) ++ y) ++ z ≡ i ∷ (u ++ (v ++ (x ++ (y ++ z))))
decl_word u v x y z i = simp append_assoc

decl_goes : (head : Head) (u w : Word) (x : Item) → DeclR head u w x → DeclOf head w x
decl_goes head s _ it (both (an_ident i hi) (both {x = u} {a = ds} hu (both {x = v} {a = ms} hv (both {x = x} {a = e} hx (both {x = y} {a = c} hy (both {x = z} hz (is_made h))))))) =
    subst (λ q. DeclOf head (i ∷ (u ++ (v ++ (x ++ (y ++ q))))) it) (sym (append-nil z))
    (subst (DeclOf head (i ∷ (u ++ (v ++ (x ++ (y ++ z)))))) (sym (h ∙ ap (the_item head (the_ident i) ds (listed ms) e c) (decl_word u v x y z i))) (a_decl i hi hu hv hx hy hz))

decl_comes : (head : Head) (u w : Word) (x : Item) → DeclOf head w x → DeclR head u w x
decl_comes head s _ _ (a_decl i {u = u} {v = v} {x = x} {y = y} {z = z} {ds = ds} {ms = ms} {e = e} {c = c} hi hu hv hx hy hz) =
    subst (λ q. DeclR head s (i ∷ (u ++ (v ++ (x ++ (y ++ q))))) (the_item head (the_ident i) ds (listed ms) e c (i ∷ (u ++ (v ++ (x ++ (y ++ z))))))) (append-nil z)
    (both (an_ident i hi) (both hu (both hv (both hx (both hy (both {a = tt} hz (is_made (ap (the_item head (the_ident i) ds (listed ms) e c) (sym (decl_word u v x y z i))))))))))

decls_row : (head : Head) (before : List Item) {w : Word} {xs : List Item} → Decls head w xs → Row the.Comma (DeclOf head) before [] w (before ++ xs)
decls_row head before (one_decl {w} {x} h) = row_one before w x h
decls_row head before (more_decls {v} {w} t {xs} {x} hs c h) =
    subst (Row the.Comma (DeclOf head) before [] (v ++ t ∷ w)) (append_assoc before xs (x ∷ [])) (row_more before (decls_row head before hs) t c h)

-- ---- prefixes

abbrev PrefixR : Word → Word → Prefix → Type 0
PrefixR = Chosen (only the.Parameter) (λ _. Is prefix.Parameter) (Chosen (only the.Constant) (λ _. Is prefix.Constant) (Is prefix.Plain))

one_word : (t : Lexeme) (z b : Prefix) (s y : Word) → Is z s y b → PrefixOf (t ∷ []) z → PrefixOf (t ∷ y) b
one_word t _ _ s _ is x = x

no_word : (z b : Prefix) (s y : Word) → Is z s y b → PrefixOf [] z → PrefixOf y b
no_word _ _ s _ is x = x

prefix_goes : (u w : Word) (p : Prefix) → PrefixR u w p → PrefixOf w p
prefix_goes u w p (found t {a = a} {y = y} h i) = one_word t prefix.Parameter p (u ++ t ∷ []) y i (a_parameter t (only_is the.Parameter t.terminal a h))
prefix_goes u w p (missing (found t {a = a} {y = y} h i)) = one_word t prefix.Constant p (u ++ t ∷ []) y i (constant_word t (only_is the.Constant t.terminal a h))
prefix_goes u w p (missing (missing i)) = no_word prefix.Plain p u w i no_prefix

prefix_comes : (u w : Word) (p : Prefix) → PrefixOf w p → PrefixR u w p
prefix_comes u _ _ no_prefix = missing (missing is)
prefix_comes u _ _ (a_parameter t h) = found t (is_only the.Parameter t.terminal h) is
prefix_comes u _ _ (constant_word t h) = missing (found t (is_only the.Constant t.terminal h) is)

pub prefix_law : {n m : ℕ} → Law n m (λ u. PrefixOf) (the.Parameter ∷ the.Constant ∷ the.Identifier ∷ []) (the.Identifier ∷ []) (λ s. spec.prefix_of) (λ s. spec.prefix_of)
unfolding spec.prefix_of same_terminal
prefix_law {n} {m} =
    shaped prefix_goes prefix_comes
    (eaten_law {n' = n} {m' = m} the.Parameter refl (omega arith) (omega arith) (pure_law {S = the.Identifier ∷ []} prefix.Parameter)
    (eaten_law {n' = n} {m' = m} the.Constant refl (omega arith) (omega arith) (pure_law {S = the.Identifier ∷ []} prefix.Constant) (pure_law {S = the.Identifier ∷ []} prefix.Plain) refl) refl)

module _ (d d' : ℕ) where
  dim_law : Law d d' (λ u. DimOf) (the.Colon ∷ exprs) after_dim (λ s. spec.dim_of d) (λ s. spec.dim_of d')
  unfolding spec.dim_of same_terminal
  dim_law =
      shaped dim_goes dim_comes
      (eaten_law {n' = d} {m' = d'} the.Colon refl (omega arith) (omega arith) (pure_law {S = after_dim} dim.Any) (then_law {U = after_expr} (expr_law d d') (λ e. pure_law {S = after_dim} (dim.Size e)) refl) refl)

  dim_list_law : Law d d' (λ u. DimList) (the.Colon ∷ exprs) (the.CloseBracket ∷ []) (λ s. spec.dim_list d) (λ s. spec.dim_list d')
  unfolding spec.dim_list same_terminal
  dim_list_law =
      shaped (λ u. row_in the.Comma DimOf DimList (λ w x h. one_dim h) (λ v w t xs x g e h. more_dims t g e h)) (λ u w a x. dims_row x)
      (list_law {U = after_dim} the.Comma refl (the.CloseBracket ∷ []) dim_law refl refl [])

  dims_law : Law d d' (λ u. Dims) (the.OpenBracket ∷ after_dims) after_dims (λ s. spec.dims d) (λ s. spec.dims d')
  unfolding spec.dims same_terminal
  dims_law =
      shaped dims_goes dims_comes
      (eaten_law {n' = d} {m' = d'} the.OpenBracket refl (omega arith) (omega arith) (closing_law {U = the.CloseBracket ∷ []} {S = after_dims} the.CloseBracket refl dim_list_law refl) (pure_law {S = after_dims} []) refl)

  decl_law : (head : Head) → Law d d' (λ u. DeclOf head) (the.Identifier ∷ []) after_tail (λ s. spec.decl d head) (λ s. spec.decl d' head)
  unfolding spec.decl same_terminal
  decl_law head =
      shaped (decl_goes head) (decl_comes head)
      (begun_law (then_law {U = the.OpenBracket ∷ after_dims} ident_law
      (λ i. then_law {U = after_dims} dims_law
      (λ ds. then_law {U = after_args} (optional_args_law (args_law d d'))
      (λ ms. then_law {U = after_value} (value_law d d')
      (λ e. then_law {U = after_condition} (condition_law d d')
      (λ c. then_law {U = after_tail} (tail_law d d') (λ _. made_law {S = after_tail} (the_item head i ds (listed ms) e c)) refl) refl) refl) refl) refl) refl))

  decls_law : (head : Head) (before : List Item) → Law d d' (λ u. Behind (Decls head) before) (the.Identifier ∷ []) (the.Semicolon ∷ []) (λ s. spec.decls d head before) (λ s. spec.decls d' head before)
  unfolding spec.decls same_terminal
  decls_law head before =
      shaped (λ u. row_behind the.Comma (DeclOf head) (Decls head) (λ w x h. one_decl h) (λ v w t xs x g e h. more_decls t g e h) before)
      (λ u. row_is before (λ w xs h. decls_row head before h)) (list_law {U = after_tail} the.Comma refl (the.Semicolon ∷ []) (decl_law head) refl refl before)

  -- ---- clauses

  abbrev ClauseR : List Item → Word → Word → List Item → Type 0
  ClauseR before =
      Then (λ u. Flag the.Final) (λ is_final. Then (λ u. PrefixOf) (λ p. Then (λ u. NameOf) (λ class. Then (λ u. Behind (Decls (the_head is_final p class)) before) (λ xs. Then (One the.Semicolon) (λ _. Is xs)))))

  clause_goes : (before : List Item) (u w : Word) (all : List Item) → ClauseR before u w all → Behind ClauseOf before w all
  clause_goes before u w all (both hu (both hv (both hw (both hz (both (a_token s {a = a} e) is))))) = (hz.0, hz.1, a_clause s hu hv hw hz.2 (only_is the.Semicolon s.terminal a e))

  clause_out : (before : List Item) (u w : Word) (xs : List Item) → ClauseOf w xs → ClauseR before u w (before ++ xs)
  clause_out before u _ _ (a_clause s {xs = xs} hu hv hw hz e) = both hu (both hv (both hw (both (xs, refl, hz) (both (a_token s (is_only the.Semicolon s.terminal e)) is))))

  clause_comes : (before : List Item) (u w : Word) (all : List Item) → Behind ClauseOf before w all → ClauseR before u w all
  clause_comes before u w all h = subst (ClauseR before u w) (sym h.1) (clause_out before u w h.0 h.2)

  pub clause_law : (S : List Terminal) (before : List Item)
      → Law d d' (λ u. Behind ClauseOf before) (the.Final ∷ the.Parameter ∷ the.Constant ∷ the.Identifier ∷ []) S (λ s. spec.clause d before) (λ s. spec.clause d' before)
  unfolding spec.clause same_terminal
  clause_law S before =
      shaped (clause_goes before) (clause_comes before)
      (then_law {U = the.Parameter ∷ the.Constant ∷ the.Identifier ∷ []} (flag_law (the.Parameter ∷ the.Constant ∷ the.Identifier ∷ []) the.Final refl refl)
      (λ is_final. then_law {U = the.Identifier ∷ []} prefix_law
      (λ p. then_law {U = after_name} (name_law d d')
      (λ class. then_law {U = the.Semicolon ∷ []} (decls_law (the_head is_final p class) before) (λ xs. word_then the.Semicolon refl (pure_law {S = S} xs)) refl) refl) refl) refl)

  abbrev ConstantR : List Item → Word → Word → List Item → Type 0
  ConstantR before =
      Then (λ u. Flag the.Final) (λ is_final. Then (One the.Constant) (λ _. Then (λ u. NameOf) (λ class. Then (λ u. Behind (Decls (the_head is_final prefix.Constant class)) before) (λ xs. Then (One the.Semicolon) (λ _. Is xs)))))

  constant_goes : (before : List Item) (u w : Word) (all : List Item) → ConstantR before u w all → Behind ConstantOf before w all
  constant_goes before u w all (both hu (both (a_token c {a = b} h) (both hw (both hz (both (a_token s {a = a} e) is))))) =
      (hz.0, hz.1, a_constant c s hu (only_is the.Constant c.terminal b h) hw hz.2 (only_is the.Semicolon s.terminal a e))

  constant_out : (before : List Item) (u w : Word) (xs : List Item) → ConstantOf w xs → ConstantR before u w (before ++ xs)
  constant_out before u _ _ (a_constant c s {xs = xs} hu h hw hz e) =
      both hu (both (a_token c (is_only the.Constant c.terminal h)) (both hw (both (xs, refl, hz) (both (a_token s (is_only the.Semicolon s.terminal e)) is))))

  constant_comes : (before : List Item) (u w : Word) (all : List Item) → Behind ConstantOf before w all → ConstantR before u w all
  constant_comes before u w all h = subst (ConstantR before u w) (sym h.1) (constant_out before u w h.0 h.2)

  pub constant_law : (S : List Terminal) (before : List Item) → Law d d' (λ u. Behind ConstantOf before) (the.Final ∷ the.Constant ∷ []) S (λ s. spec.constant d before) (λ s. spec.constant d' before)
  unfolding spec.constant same_terminal
  constant_law S before =
      shaped (constant_goes before) (constant_comes before)
      (then_law {U = the.Constant ∷ []} (flag_law (the.Constant ∷ []) the.Final refl refl)
      (λ is_final. word_then the.Constant refl
      (then_law {U = after_name} (name_law d d')
      (λ class. then_law {U = the.Semicolon ∷ []} (decls_law (the_head is_final prefix.Constant class) before) (λ xs. word_then the.Semicolon refl (pure_law {S = S} xs)) refl) refl)) refl)

pub clause_some : {w : Word} {xs : List Item} → ClauseOf w xs → 0 < length w
clause_some (a_clause {u} {v} {w} {z} s hu hv hw hz e) = omega (arith, name_some hw, length-append u (v ++ (w ++ (z ++ s ∷ []))), length-append v (w ++ (z ++ s ∷ [])), length-append w (z ++ s ∷ []))

pub constant_some : {w : Word} {xs : List Item} → ConstantOf w xs → 0 < length w
constant_some (a_constant {u} {w} {z} c s hu h hw hz e) = omega (arith, length-append u (c ∷ (w ++ (z ++ s ∷ []))))
