-- The laws of primaries.
use Rattle.std.proofs.Common.{◌≡◌, ℕ, suc, pos, Bool, true, false, List, [], ◌∷◌, ◌++◌, Option, Err, refl, sym, ap, ◌∙◌, subst, arith, if◌then◌else◌, append-nil}
use Rattle.cdl_decimal.specs.Near.{near}
use Rattle.cdl_decimal.specs.Split.{split, count_of, parse_of}
use Rattle.cdl_tree.specs.declared.terminal.Terminal.{Terminal}
use Rattle.cdl_tree.specs.declared.terminal.Terminal.TheVariants as the
use Rattle.cdl_tree.specs.declared.name.Ident.{Ident}
use Rattle.cdl_tree.specs.declared.expr.Expr.{Expr}
use Rattle.cdl_tree.specs.declared.expr.Node.TheVariants as node
use Rattle.cdl_tree.specs.Words.{Lexeme, Word, same_terminal}
use Rattle.cdl_tree.specs.Literals.{integer_of}
use Rattle.cdl_tree.specs.inner.Strings.{string_of}
use Rattle.cdl_tree.proofs.Meanings.{some_string, string_some}
use Rattle.cdl_tree.specs.Trees.{the_ident, the_name, tree}
use Rattle.cdl_tree.specs.Grammar.{ExprOf, Prim, integer as an_integer, real as a_real, string as a_string, true_word as a_true, false_word as a_false, paren as a_paren, array as an_array, call as a_call, refer as a_refer, Operands, no_operand, operands as some_operands, Subscripts, no_subscript, subscripts as some_subscripts, Exprs, one_expr, more_exprs}
use Rattle.cdl_reading.specs.Reading.{Outcome, Parser, terminal, real_of}
use Rattle.cdl_expressions.specs.Expressions as spec
use Rattle.cdl_reading.proofs.Steps.{Then, both, Is, is, Made, is_made}
use Rattle.cdl_reading.proofs.Laws.{Law, shaped, like, begun_law, pure_law, made_law, Token, a_token, then_law, then_less, Or, this, that, either_law, Chosen, found, missing, only, only_is, is_only, eaten_law, One, word_then, word_less, Closed, closed, closing_law, guarded_law}
use Rattle.cdl_reading.proofs.Repeats.{Repeats, Further, Row, row_one, row_more, row_in, from_law, list_law}
use Rattle.cdl_expressions.proofs.Sets.{prims, exprs, after_expr, after_prim, closers}
use Rattle.cdl_expressions.proofs.ExprLaws.{IdentOf, an_ident, ident_law, ident_some, literal_at, literal_is, is_literal, literal_law, real_some, some_real, name_row, name_in}

pub exprs_row : {w : Word} {es : List Expr} → Exprs w es → Row the.Comma ExprOf [] [] w es
exprs_row (one_expr {w} {e} x) = row_one [] w e x
exprs_row (more_exprs t xs c x) = row_more [] (exprs_row xs) t c x

pub exprs_in : (w : Word) (es : List Expr) → Row the.Comma ExprOf [] [] w es → Exprs w es
exprs_in = row_in the.Comma ExprOf Exprs (λ w x h. one_expr h) (λ v w t xs x g e h. more_exprs t g e h)

-- the parts of a name behind its first one
abbrev pub Parts : Ident → Word → Word → List Ident → Type 0
Parts first u w parts = Repeats (Further the.Period IdentOf) (first ∷ []) [] w parts

-- ---- one of them, by the first token

pub apart : (b : Bool) (x y : Parser Expr) (z : Outcome Expr) (i : Word) → y i ≡ z → (if b then x else y) i ≡ (if b then x i else z)
apart true x y z i e = refl
apart false x y z i e = e

module _ (d : ℕ) (whole : Parser Expr) where
  abbrev from_named : Parser Expr
  from_named i = (if same_terminal (terminal i) the.Identifier then spec.named d whole else (λ i. Err i)) i

  abbrev from_array : Parser Expr
  from_array i = (if same_terminal (terminal i) the.OpenBrace then spec.array d whole else from_named) i

  abbrev from_paren : Parser Expr
  from_paren i = (if same_terminal (terminal i) the.Open then spec.paren d whole else from_array) i

  abbrev from_false_word : Parser Expr
  from_false_word i = (if same_terminal (terminal i) the.False then spec.false_word d whole else from_paren) i

  abbrev from_true_word : Parser Expr
  from_true_word i = (if same_terminal (terminal i) the.True then spec.true_word d whole else from_false_word) i

  abbrev from_string : Parser Expr
  from_string i = (if same_terminal (terminal i) the.Str then spec.string d whole else from_true_word) i

  abbrev from_real : Parser Expr
  from_real i = (if same_terminal (terminal i) the.Real then spec.real d whole else from_string) i

  abbrev from_integer : Parser Expr
  from_integer i = (if same_terminal (terminal i) the.Integer then spec.integer d whole else from_real) i

  flat : Terminal → Parser Expr
  flat kd i =
      if same_terminal kd the.Integer then spec.integer d whole i else
      (if same_terminal kd the.Real then spec.real d whole i else
      (if same_terminal kd the.Str then spec.string d whole i else
      (if same_terminal kd the.True then spec.true_word d whole i else
      (if same_terminal kd the.False then spec.false_word d whole i else
      (if same_terminal kd the.Open then spec.paren d whole i else
      (if same_terminal kd the.OpenBrace then spec.array d whole i else
      (if same_terminal kd the.Identifier then spec.named d whole i else Err i)))))))

  flat_is : (kd : Terminal) (i : Word) → spec.prim_by d whole kd i ≡ flat kd i
  unfolding flat same_terminal
  flat_is the.Integer i = refl
  flat_is the.Real i = refl
  flat_is the.Str i = refl
  flat_is the.True i = refl
  flat_is the.False i = refl
  flat_is the.Open i = refl
  flat_is the.OpenBrace i = refl
  flat_is the.Identifier i = refl
  flat_is _ i = refl

  nested_is : (i : Word) → from_integer i ≡ flat (terminal i) i
  unfolding flat
  nested_is i =
      apart (same_terminal (terminal i) the.Integer) (spec.integer d whole) from_real _ i
      (apart (same_terminal (terminal i) the.Real) (spec.real d whole) from_string _ i
      (apart (same_terminal (terminal i) the.Str) (spec.string d whole) from_true_word _ i
      (apart (same_terminal (terminal i) the.True) (spec.true_word d whole) from_false_word _ i
      (apart (same_terminal (terminal i) the.False) (spec.false_word d whole) from_paren _ i
      (apart (same_terminal (terminal i) the.Open) (spec.paren d whole) from_array _ i
      (apart (same_terminal (terminal i) the.OpenBrace) (spec.array d whole) from_named _ i
      (apart (same_terminal (terminal i) the.Identifier) (spec.named d whole) (λ i. Err i) _ i refl)))))))

  pub prim_is : (i : Word) → spec.prim_by d whole (terminal i) i ≡ from_integer i
  prim_is i = flat_is (terminal i) i ∙ sym (nested_is i)

module _ (d d' : ℕ) (whole whole' : Parser Expr) (h : Law d d' (λ u. ExprOf) exprs after_expr (λ s. whole) (λ s. whole')) where
  exprs_law : Law d d' (λ u. Exprs) exprs closers (λ s. spec.exprs d whole) (λ s. spec.exprs d' whole')
  unfolding spec.exprs same_terminal
  exprs_law = shaped (λ u. exprs_in) (λ u w a x. exprs_row x) (list_law {U = after_expr} the.Comma refl closers h refl refl [])

  operands_law : (S : List Terminal) → Law d d' (Closed Operands the.Close) (the.Close ∷ exprs) S (λ s. spec.operands d whole) (λ s. spec.operands d' whole')
  unfolding spec.operands same_terminal
  operands_law S =
      shaped goes comes
      (eaten_law {n' = d} {m' = d'} the.Close refl (omega arith) (omega arith) (pure_law {S = S} []) (closing_law {U = closers} {S = S} the.Close refl exprs_law refl) refl)
    where
      goes : (u w : Word) (es : List Expr) → Chosen (only the.Close) (λ _. Is []) (Closed Exprs the.Close) u w es → Closed Operands the.Close u w es
      goes u w es (found t {a = a} e is) = closed t no_operand (only_is the.Close t.terminal a e)
      goes u w es (missing (closed b x e)) = closed b (some_operands x) e

      by : (u : Word) (b : Lexeme) → b.terminal ≡ the.Close → {w : Word} {es : List Expr} → Operands w es → Chosen (only the.Close) (λ _. Is []) (Closed Exprs the.Close) u (w ++ b ∷ []) es
      by u b e no_operand = found b (is_only the.Close b.terminal e) is
      by u b e (some_operands x) = missing (closed b x e)

      comes : (u w : Word) (es : List Expr) → Closed Operands the.Close u w es → Chosen (only the.Close) (λ _. Is []) (Closed Exprs the.Close) u w es
      comes u _ es (closed b x e) = by u b e x

  subscripts_law : Law d d' (λ u. Subscripts) (the.OpenBracket ∷ after_prim) after_prim (λ s. spec.subscripts d whole) (λ s. spec.subscripts d' whole')
  unfolding spec.subscripts same_terminal
  subscripts_law =
      shaped goes comes
      (eaten_law {n' = d} {m' = d'} the.OpenBracket refl (omega arith) (omega arith) (closing_law {U = closers} {S = after_prim} the.CloseBracket refl exprs_law refl) (pure_law {S = after_prim} []) refl)
    where
      goes : (u w : Word) (es : List Expr) → Chosen (only the.OpenBracket) (λ _. Closed Exprs the.CloseBracket) (Is []) u w es → Subscripts w es
      goes u w es (found t {a = a} e (closed b x f)) = some_subscripts t b (only_is the.OpenBracket t.terminal a e) x f
      goes u w es (missing is) = no_subscript

      comes : (u w : Word) (es : List Expr) → Subscripts w es → Chosen (only the.OpenBracket) (λ _. Closed Exprs the.CloseBracket) (Is []) u w es
      comes u _ _ no_subscript = missing is
      comes u _ es (some_subscripts t b e x f) = found t (is_only the.OpenBracket t.terminal e) (closed b x f)

  -- ---- calls and names

  abbrev pub CallR : Ident → Word → Word → Expr → Type 0
  CallR f = Then (Closed Operands the.Close) (λ es. Made (tree (node.Call f es)))

  abbrev pub ReferR : Ident → Word → Word → Expr → Type 0
  ReferR f = Then (Repeats (Further the.Period IdentOf) (f ∷ [])) (λ parts. Then (λ u. Subscripts) (λ es. Made (tree (node.Refer (the_name parts) es))))

  abbrev pub NamedR : Word → Word → Expr → Type 0
  NamedR u = Then (λ u. IdentOf) (λ f. Chosen (only the.Open) (λ _. CallR f) (ReferR f)) []

  call_law : (f : Ident) → Law d d' (CallR f) (the.Close ∷ exprs) after_prim (spec.call d whole f) (spec.call d' whole' f)
  unfolding spec.call same_terminal
  call_law f = then_law {U = after_prim} (operands_law after_prim) (λ es. made_law {S = after_prim} (tree (node.Call f es))) refl

  refer_law : (f : Ident) → Law d d' (ReferR f) (the.Period ∷ the.OpenBracket ∷ after_prim) after_prim (spec.refer d whole f) (spec.refer d' whole' f)
  unfolding spec.refer same_terminal
  refer_law f =
      then_law {U = the.OpenBracket ∷ after_prim}
      (from_law {d = d} {d' = d'} {U = the.Period ∷ the.OpenBracket ∷ after_prim} the.Period refl (the.OpenBracket ∷ after_prim) ident_law refl refl d d' (omega arith) (omega arith) (f ∷ []))
      (λ parts. then_law {U = after_prim} subscripts_law (λ es. made_law {S = after_prim} (tree (node.Refer (the_name parts) es))) refl) refl

  named_law : Law (suc d) (suc d') NamedR (the.Identifier ∷ []) after_prim (λ s. spec.named d whole) (λ s. spec.named d' whole')
  unfolding spec.named same_terminal
  named_law =
      begun_law
      (then_less {U = the.Open ∷ the.Period ∷ the.OpenBracket ∷ after_prim} (λ u w a x. ident_some x) ident_law
      (λ f. eaten_law {n' = d} {m' = d'} the.Open refl (omega arith) (omega arith) (call_law f) (refer_law f) refl) refl)

  -- ---- literals and brackets

  abbrev pub LiteralR : {A : Type 0} → Terminal → (List ℕ → Option A) → (A → Word → Expr) → Word → Word → Expr → Type 0
  LiteralR kd value f u = Then (Token (literal_at kd value)) (λ a. Made (f a)) []

  abbrev pub IntegerR : Word → Word → Expr → Type 0
  IntegerR = LiteralR the.Integer integer_of (λ z. tree (node.Integer z))

  abbrev pub RealR : Word → Word → Expr → Type 0
  RealR = LiteralR the.Real real_of (λ q. tree (node.Real q))

  abbrev pub StringR : Word → Word → Expr → Type 0
  StringR = LiteralR the.Str string_of (λ s. tree (node.Str s))

  abbrev pub WordR : Terminal → Bool → Word → Word → Expr → Type 0
  WordR kd b u = Then (One kd) (λ _. Made (tree (node.Boolean b))) []

  abbrev pub ParenR : Word → Word → Expr → Type 0
  ParenR = Then (One the.Open) (λ _. Closed ExprOf the.Close)

  abbrev pub ArrayR : Word → Word → Expr → Type 0
  ArrayR u = Then (One the.OpenBrace) (λ _. Then (λ u. Exprs) (λ es. Then (One the.CloseBrace) (λ _. Made (tree (node.Array es))))) []

  integer_law : {n m : ℕ} → Law n m IntegerR (the.Integer ∷ []) after_prim (λ s. spec.integer d whole) (λ s. spec.integer d' whole')
  unfolding spec.integer same_terminal integer_of
  integer_law =
      begun_law
      (then_law {U = after_prim} (literal_law the.Integer integer_of refl (record { terminal = the.Integer; text = []; span = record { start = 0; end = 0 } }) _ refl)
      (λ z. made_law {S = after_prim} (tree (node.Integer z))) refl)

  string_law : {n m : ℕ} → Law n m StringR (the.Str ∷ []) after_prim (λ s. spec.string d whole) (λ s. spec.string d' whole')
  unfolding spec.string same_terminal string_of
  string_law =
      begun_law
      (then_law {U = after_prim} (literal_law the.Str string_of refl (record { terminal = the.Str; text = 34 ∷ 34 ∷ []; span = record { start = 0; end = 0 } }) [] refl)
      (λ z. made_law {S = after_prim} (tree (node.Str z))) refl)

  real_law : {n m : ℕ} → Law n m RealR (the.Real ∷ []) after_prim (λ s. spec.real d whole) (λ s. spec.real d' whole')
  unfolding spec.real same_terminal parse_of split count_of near
  real_law =
      begun_law
      (then_law {U = after_prim} (literal_law the.Real real_of refl (record { terminal = the.Real; text = 48 ∷ []; span = record { start = 0; end = 0 } }) (pos 0) refl)
      (λ z. made_law {S = after_prim} (tree (node.Real z))) refl)

  true_law : {n m : ℕ} → Law n m (WordR the.True true) (the.True ∷ []) after_prim (λ s. spec.true_word d whole) (λ s. spec.true_word d' whole')
  unfolding spec.true_word same_terminal
  true_law = begun_law (word_then the.True refl (made_law {S = after_prim} (tree (node.Boolean true))))

  false_law : {n m : ℕ} → Law n m (WordR the.False false) (the.False ∷ []) after_prim (λ s. spec.false_word d whole) (λ s. spec.false_word d' whole')
  unfolding spec.false_word same_terminal
  false_law = begun_law (word_then the.False refl (made_law {S = after_prim} (tree (node.Boolean false))))

  paren_law : Law (suc d) (suc d') ParenR (the.Open ∷ []) after_prim (λ s. spec.paren d whole) (λ s. spec.paren d' whole')
  unfolding spec.paren same_terminal
  paren_law = word_less the.Open refl (closing_law {U = after_expr} {S = after_prim} the.Close refl h refl)

  array_law : Law (suc d) (suc d') ArrayR (the.OpenBrace ∷ []) after_prim (λ s. spec.array d whole) (λ s. spec.array d' whole')
  unfolding spec.array same_terminal
  array_law = begun_law (word_less the.OpenBrace refl (then_law {U = closers} exprs_law (λ es. word_then the.CloseBrace refl (made_law {S = after_prim} (tree (node.Array es)))) refl))

  -- ---- all of them

  abbrev pub PrimR : Word → Word → Expr → Type 0
  PrimR = Or IntegerR (Or RealR (Or StringR (Or (WordR the.True true) (Or (WordR the.False false) (Or ParenR (Or ArrayR NamedR))))))

  named_in : (w : Word) (e : Expr) → NamedR [] w e → Prim w e
  named_in w e (both (an_ident f hf) (found a {a = t} ha (both {a = es} (closed {w = v} b x hb) (is_made m)))) =
      subst (λ z. Prim z e) (sym (ap (λ z. f ∷ a ∷ z) (append-nil (v ++ b ∷ [])))) (subst (Prim (f ∷ a ∷ (v ++ b ∷ []))) (sym m) (a_call f a b hf (only_is the.Open a.terminal t ha) x hb))
  named_in w e (both (an_ident f hf) (missing (both {x = v} {a = parts} r (both {x = q} {a = es} s (is_made m))))) =
      subst (λ z. Prim z e) (sym (ap (λ z. f ∷ (v ++ z)) (append-nil q))) (subst (Prim (f ∷ (v ++ q))) (sym m) (a_refer (name_in (f ∷ v) parts (both (an_ident f hf) r)) s))

  array_in : (w : Word) (e : Expr) → ArrayR [] w e → Prim w e
  array_in w e (both (a_token a {a = t} ha) (both {x = v} {a = es} x (both (a_token b {a = r} hb) (is_made m)))) =
      subst (Prim (a ∷ (v ++ b ∷ []))) (sym m) (an_array a b (only_is the.OpenBrace a.terminal t ha) x (only_is the.CloseBrace b.terminal r hb))

  prim_in : (u w : Word) (e : Expr) → PrimR u w e → Prim w e
  prim_in u w e (this (both (a_token t {a = z} h) (is_made m))) =
      let at = literal_is the.Integer integer_of t z h in subst (Prim (t ∷ [])) (sym m) (an_integer t at.0 at.1)
  prim_in u w e (that (this (both (a_token t {a = q} h) (is_made m)))) =
      let at = literal_is the.Real real_of t q h in subst (Prim (t ∷ [])) (sym m) (a_real t at.0 (real_some t.text q at.1))
  prim_in u w e (that (that (this (both (a_token t {a = s} h) (is_made m))))) =
      let at = literal_is the.Str string_of t s h in subst (Prim (t ∷ [])) (sym m) (a_string t at.0 (string_some t.text s at.1))
  prim_in u w e (that (that (that (this (both (a_token t {a = a} h) (is_made m)))))) = subst (Prim (t ∷ [])) (sym m) (a_true t (only_is the.True t.terminal a h))
  prim_in u w e (that (that (that (that (this (both (a_token t {a = a} h) (is_made m))))))) = subst (Prim (t ∷ [])) (sym m) (a_false t (only_is the.False t.terminal a h))
  prim_in u w e (that (that (that (that (that (this (both (a_token a {a = t} h) (closed b x g)))))))) = a_paren a b (only_is the.Open a.terminal t h) x g
  prim_in u w e (that (that (that (that (that (that (this x))))))) = array_in w e x
  prim_in u w e (that (that (that (that (that (that (that x))))))) = named_in w e x

  refer_is : (v w : Word) (parts : List Ident) (es : List Expr) → Row the.Period IdentOf [] [] v parts → Subscripts w es → NamedR [] (v ++ w) (tree (node.Refer (the_name parts) es) (v ++ w))
  refer_is _ w parts es (both {y = y} (an_ident f hf) r) s =
      subst (λ z. NamedR [] z (tree (node.Refer (the_name parts) es) (f ∷ (y ++ w)))) (ap (λ z. f ∷ (y ++ z)) (append-nil w)) (both (an_ident f hf) (missing (both r (both s (is_made refl)))))

  prim_out : (u w : Word) (e : Expr) → Prim w e → PrimR u w e
  prim_out u _ _ (an_integer t {z = z} h v) = this (both (a_token t (is_literal the.Integer integer_of t z h v)) (is_made refl))
  prim_out u _ _ (a_real t {q = q} h v) = that (this (both (a_token t (is_literal the.Real real_of t q h (some_real t.text q v))) (is_made refl)))
  prim_out u _ _ (a_string t {s = s} h v) = that (that (this (both (a_token t (is_literal the.Str string_of t s h (some_string t.text s v))) (is_made refl))))
  prim_out u _ _ (a_true t h) = that (that (that (this (both (a_token t (is_only the.True t.terminal h)) (is_made refl)))))
  prim_out u _ _ (a_false t h) = that (that (that (that (this (both (a_token t (is_only the.False t.terminal h)) (is_made refl))))))
  prim_out u _ e (a_paren a b h x g) = that (that (that (that (that (this (both (a_token a (is_only the.Open a.terminal h)) (closed b x g)))))))
  prim_out u _ _ (an_array a b h x g) =
      that (that (that (that (that (that (this (both (a_token a (is_only the.OpenBrace a.terminal h)) (both x (both (a_token b (is_only the.CloseBrace b.terminal g)) (is_made refl))))))))))
  prim_out u _ _ (a_call f a b {w} {es} h i x g) =
      that (that (that (that (that (that (that
      (subst (λ z. NamedR [] z (tree (node.Call (the_ident f) es) (f ∷ a ∷ (w ++ b ∷ [])))) (ap (λ z. f ∷ a ∷ z) (append-nil (w ++ b ∷ [])))
      (both (an_ident f h) (found a (is_only the.Open a.terminal i) (both (closed b x g) (is_made refl)))))))))))
  prim_out u _ _ (a_refer {v} {w} {parts} {es} n x) = that (that (that (that (that (that (that (refer_is v w parts es (name_row n) x)))))))

  pub prim_law : Law (suc d) (suc d') (λ u. Prim) prims after_prim (λ s. spec.prim d whole) (λ s. spec.prim d' whole')
  unfolding spec.prim same_terminal
  prim_law =
      shaped prim_in prim_out
      (like (λ s i. prim_is d whole i) (λ s i. prim_is d' whole' i)
      (either_law (λ kd. same_terminal kd the.Integer) integer_law
      (either_law (λ kd. same_terminal kd the.Real) real_law
      (either_law (λ kd. same_terminal kd the.Str) string_law
      (either_law (λ kd. same_terminal kd the.True) true_law
      (either_law (λ kd. same_terminal kd the.False) false_law
      (either_law (λ kd. same_terminal kd the.Open) paren_law
      (either_law (λ kd. same_terminal kd the.OpenBrace) array_law
      (guarded_law (λ kd. same_terminal kd the.Identifier) named_law refl) refl refl) refl refl) refl refl) refl refl) refl refl) refl refl) refl refl))
