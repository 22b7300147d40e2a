-- The laws of optional parts and of arguments.
use Rattle.std.proofs.Common.{◌≡◌, ℕ, zero, suc, ◌<◌, true, List, [], ◌∷◌, ◌++◌, length, Option, Some, None, refl, sym, ap, ◌∙◌, subst, arith, append_assoc, append-nil}
use Rattle.cdl_tree.specs.declared.terminal.Terminal.{Terminal}
use Rattle.cdl_tree.specs.declared.terminal.Terminal.TheVariants as the
use Rattle.cdl_tree.specs.declared.expr.Expr.{Expr}
use Rattle.cdl_tree.specs.declared.class.Modifier.{Modifier}
use Rattle.cdl_tree.specs.Words.{Lexeme, Word, same_terminal}
use Rattle.cdl_tree.specs.Trees.{the_ident, the_modifier}
use Rattle.cdl_tree.specs.Grammar.{ExprOf, Flag, Value, no_value, value, Condition, no_condition, condition, ArgsOf, no_arg, args as some_args, ArgList, one_arg, more_args, OptionalArgs, without_args, with_args, ArgOf, arg as an_arg}
use Rattle.cdl_reading.specs.Reading.{Parser, terminal, sees}
use Rattle.cdl_expressions.specs.Arguments as spec
use Rattle.cdl_reading.proofs.Steps.{Then, both, Is, is, Made, is_made}
use Rattle.cdl_reading.proofs.Laws.{member, each, Law, shaped, begun_law, pure_law, made_law, then_law, Or, this, that, either_law, Chosen, found, missing, only, only_is, is_only, eaten_law, One, a_token, token_of, word_less, Closed, closed, closing_law, flag_law, same_read, refused_law}
use Rattle.cdl_reading.proofs.Repeats.{Row, row_one, row_more, row_in, list_law}
use Rattle.cdl_expressions.proofs.Sets.{after_expr, after_condition, after_value, after_args, after_arg}
use Rattle.cdl_expressions.proofs.ExprLaws.{IdentOf, an_ident, ident_law}
use Rattle.cdl_expressions.proofs.Operators.{expr_law}
use Rattle.cdl_expressions.proofs.Texts.{AnyText, text_law}

-- ---- an expression behind a token

abbrev OptionalR : Terminal → Word → Word → Option Expr → Type 0
OptionalR kd = Chosen (only kd) (λ _. Then (λ u. ExprOf) (λ e. Is (Some e))) (Is None)

some_expr : (X : Word → Option Expr → Type 0) (t : Lexeme) → ((w : Word) (e : Expr) → ExprOf w e → X (t ∷ w) (Some e)) → (u w : Word) (o : Option Expr) → Then (λ u. ExprOf) (λ e. Is (Some e)) u w o → X (t ∷ w) o
some_expr X t f u w o (both {x = v} {a = e} x i) = end i (subst (λ z. X (t ∷ z) (Some e)) (sym (append-nil v)) (f v e x))
  where
    end : {y : Word} {z b : Option Expr} {s : Word} → Is z s y b → X (t ∷ (v ++ [])) z → X (t ∷ (v ++ y)) b
    end is x = x

expr_some : (t : Lexeme) (u w : Word) (e : Expr) → ExprOf w e → (kd : Terminal) → t.terminal ≡ kd → OptionalR kd u (t ∷ w) (Some e)
expr_some t u w e x kd h = subst (λ z. OptionalR kd u (t ∷ z) (Some e)) (append-nil w) (found t (is_only kd t.terminal h) (both x is))

value_goes : (u w : Word) (o : Option Expr) → OptionalR the.Equals u w o → Value w o
value_goes u w o (found t {a = a} {y = y} h x) = some_expr Value t (λ w e z. value t (only_is the.Equals t.terminal a h) z) (u ++ t ∷ []) y o x
value_goes u w o (missing is) = no_value

value_comes : (u w : Word) (o : Option Expr) → Value w o → OptionalR the.Equals u w o
value_comes u _ _ no_value = missing is
value_comes u _ _ (value t {w} {e} h x) = expr_some t u w e x the.Equals h

condition_goes : (u w : Word) (o : Option Expr) → OptionalR the.If u w o → Condition w o
condition_goes u w o (found t {a = a} {y = y} h x) = some_expr Condition t (λ w e z. condition t (only_is the.If t.terminal a h) z) (u ++ t ∷ []) y o x
condition_goes u w o (missing is) = no_condition

condition_comes : (u w : Word) (o : Option Expr) → Condition w o → OptionalR the.If u w o
condition_comes u _ _ no_condition = missing is
condition_comes u _ _ (condition t {w} {e} h x) = expr_some t u w e x the.If h

pub value_law : (d d' : ℕ) → Law d d' (λ u. Value) after_args after_value (λ s. spec.optional the.Equals d) (λ s. spec.optional the.Equals d')
unfolding spec.optional same_terminal
value_law d d' =
    shaped value_goes value_comes
    (eaten_law {n' = d} {m' = d'} the.Equals refl (omega arith) (omega arith) (then_law {U = after_expr} (expr_law d d') (λ e. pure_law {S = after_value} (Some e)) refl) (pure_law {S = after_value} None) refl)

pub condition_law : (d d' : ℕ) → Law d d' (λ u. Condition) after_value after_condition (λ s. spec.optional the.If d) (λ s. spec.optional the.If d')
unfolding spec.optional same_terminal
condition_law d d' =
    shaped condition_goes condition_comes
    (eaten_law {n' = d} {m' = d'} the.If refl (omega arith) (omega arith) (then_law {U = after_expr} (expr_law d d') (λ e. pure_law {S = after_condition} (Some e)) refl) (pure_law {S = after_condition} None) refl)

-- ---- arguments

abbrev OptionalArgsR : Word → Word → Option (List Modifier) → Type 0
OptionalArgsR = Or (Then (λ u. ArgsOf) (λ ms. Is (Some ms))) (Is None)

args_goes : (u w : Word) (o : Option (List Modifier)) → OptionalArgsR u w o → OptionalArgs w o
args_goes u w o (this (both {x = v} {a = ms} x i)) = end i (subst (λ z. OptionalArgs z (Some ms)) (sym (append-nil v)) (with_args x))
  where
    end : {y : Word} {z b : Option (List Modifier)} {s : Word} → Is z s y b → OptionalArgs (v ++ []) z → OptionalArgs (v ++ y) b
    end is x = x
args_goes u w o (that is) = without_args

args_comes : (u w : Word) (o : Option (List Modifier)) → OptionalArgs w o → OptionalArgsR u w o
args_comes u _ _ without_args = that is
args_comes u _ _ (with_args {w} {ms} x) = subst (λ z. OptionalArgsR u z (Some ms)) (append-nil w) (this (both x is))

pub optional_args_law : {d d' : ℕ} {p p' : Parser (List Modifier)} → Law d d' (λ u. ArgsOf) (the.Open ∷ []) after_args (λ s. p) (λ s. p')
    → Law d d' (λ u. OptionalArgs) (the.Open ∷ after_args) after_args (λ s. spec.optional_args p) (λ s. spec.optional_args p')
unfolding spec.optional_args sees same_terminal
optional_args_law h =
    shaped args_goes args_comes (either_law (λ kd. same_terminal kd the.Open) (then_law {U = after_args} h (λ ms. pure_law {S = after_args} (Some ms)) refl) (pure_law {S = after_args} None) refl refl)

args_row : {w : Word} {ms : List Modifier} → ArgList w ms → Row the.Comma ArgOf [] [] w ms
args_row (one_arg {w} {m} x) = row_one [] w m x
args_row (more_args t xs c x) = row_more [] (args_row xs) t c x

least_args : ArgsOf (token_of the.Open ∷ token_of the.Close ∷ []) []
least_args = no_arg (token_of the.Open) (token_of the.Close) refl refl

args_some : (w : Word) (ms : List Modifier) → ArgsOf w ms → 0 < length w
args_some _ _ (no_arg a b h g) = omega arith
args_some _ _ (some_args a b h x g) = omega arith

open_first : (kd : Terminal) → kd ≡ the.Open → member (the.Open ∷ []) kd ≡ true
unfolding same_terminal
open_first kd e = subst (λ z. member (the.Open ∷ []) z ≡ true) (sym e) refl

args_lead : (w j : Word) (ms : List Modifier) → ArgsOf w ms → member (the.Open ∷ []) (terminal (w ++ j)) ≡ true
args_lead _ j _ (no_arg a b h g) = open_first a.terminal h
args_lead _ j _ (some_args a b h x g) = open_first a.terminal h

abbrev ArgR : Word → Word → Modifier → Type 0
ArgR u =
    Then (λ u. Flag the.Each) (λ each. Then (λ u. Flag the.Final) (λ is_final. Then (λ u. IdentOf) (λ i. Then (λ u. OptionalArgs) (λ ms. Then (λ u. Value) (λ e. Then AnyText (λ _. Made (the_modifier each is_final i ms e))))))) []

arg_word : (q r u v w : Word) (i : Lexeme) → ((((q ++ r) ++ i ∷ []) ++ u) ++ v) ++ w ≡ q ++ (r ++ i ∷ (u ++ (v ++ w)))
arg_word q r u v w i = simp append_assoc

arg_goes : (u w : Word) (m : Modifier) → ArgR u w m → ArgOf w m
arg_goes s _ m (both {x = q} {a = each} hq (both {x = r} {a = is_final} hr (both (an_ident i hi) (both {x = u} {a = ms} hu (both {x = v} {a = e} hv (both {x = w} hw (is_made h))))))) =
    subst (λ z. ArgOf (q ++ (r ++ i ∷ (u ++ (v ++ z)))) m) (sym (append-nil w))
    (subst (ArgOf (q ++ (r ++ i ∷ (u ++ (v ++ w))))) (sym (h ∙ ap (the_modifier each is_final (the_ident i) ms e) (arg_word q r u v w i))) (an_arg i hq hr hi hu hv hw))

arg_comes : (u w : Word) (m : Modifier) → ArgOf w m → ArgR u w m
arg_comes s _ _ (an_arg {q} {r} {u} {v} {w} i {each = each} {is_final = is_final} {ms = ms} {e = e} hq hr hi hu hv hw) =
    subst (λ z. ArgR s (q ++ (r ++ i ∷ (u ++ (v ++ z)))) (the_modifier each is_final (the_ident i) ms e (q ++ (r ++ i ∷ (u ++ (v ++ w)))))) (append-nil w)
    (both hq (both hr (both (an_ident i hi) (both hu (both hv (both {a = tt} hw (is_made (ap (the_modifier each is_final (the_ident i) ms e) (sym (arg_word q r u v w i))))))))))

module _ (d d' : ℕ) (whole whole' : Parser (List Modifier)) (h : Law d d' (λ u. ArgsOf) (the.Open ∷ []) after_args (λ s. whole) (λ s. whole')) where
  arg_law : Law d d' (λ u. ArgOf) (the.Each ∷ the.Final ∷ the.Identifier ∷ []) after_arg (λ s. spec.arg d whole) (λ s. spec.arg d' whole')
  unfolding spec.arg same_terminal
  arg_law =
      shaped arg_goes arg_comes
      (begun_law (then_law {U = the.Final ∷ the.Identifier ∷ []} (flag_law (the.Final ∷ the.Identifier ∷ []) the.Each refl refl)
      (λ each. then_law {U = the.Identifier ∷ []} (flag_law (the.Identifier ∷ []) the.Final refl refl)
      (λ is_final. then_law {U = the.Open ∷ after_args} ident_law
      (λ i. then_law {U = after_args} (optional_args_law h)
      (λ ms. then_law {U = after_value} (value_law d d')
      (λ e. then_law {U = after_arg} (text_law d d' after_arg refl refl) (λ _. made_law {S = after_arg} (the_modifier each is_final i ms e)) refl) refl) refl) refl) refl) refl))

  arg_list_law : Law d d' (λ u. ArgList) (the.Each ∷ the.Final ∷ the.Identifier ∷ []) (the.Close ∷ []) (λ s. spec.arg_list d whole) (λ s. spec.arg_list d' whole')
  unfolding spec.arg_list same_terminal
  arg_list_law =
      shaped (λ u. row_in the.Comma ArgOf ArgList (λ w x a. one_arg a) (λ v w t xs x g e a. more_args t g e a)) (λ u w a x. args_row x)
      (list_law {U = after_arg} the.Comma refl (the.Close ∷ []) arg_law refl refl [])

  abbrev ArgsR : Word → Word → List Modifier → Type 0
  ArgsR = Then (One the.Open) (λ _. Chosen (only the.Close) (λ _. Is []) (Closed ArgList the.Close))

  arguments_goes : (u w : Word) (ms : List Modifier) → ArgsR u w ms → ArgsOf w ms
  arguments_goes u w ms (both (a_token a {a = x} e) (found b {a = y} f is)) = no_arg a b (only_is the.Open a.terminal x e) (only_is the.Close b.terminal y f)
  arguments_goes u w ms (both (a_token a {a = x} e) (missing (closed b g f))) = some_args a b (only_is the.Open a.terminal x e) g f

  arguments_comes : (u w : Word) (ms : List Modifier) → ArgsOf w ms → ArgsR u w ms
  arguments_comes u _ _ (no_arg a b e f) = both (a_token a (is_only the.Open a.terminal e)) (found b (is_only the.Close b.terminal f) is)
  arguments_comes u _ _ (some_args a b e g f) = both (a_token a (is_only the.Open a.terminal e)) (missing (closed b g f))

  arguments_law : Law (suc d) (suc d') (λ u. ArgsOf) (the.Open ∷ []) after_args (λ s. spec.arguments d whole) (λ s. spec.arguments d' whole')
  unfolding spec.arguments same_terminal
  arguments_law =
      shaped arguments_goes arguments_comes
      (word_less the.Open refl (eaten_law {n' = d} {m' = d'} the.Close refl (omega arith) (omega arith) (pure_law {S = after_args} []) (closing_law {U = the.Close ∷ []} {S = after_args} the.Close refl arg_list_law refl) refl))

pub args_law : (d d' : ℕ) → Law d d' (λ u. ArgsOf) (the.Open ∷ []) after_args (λ s. spec.args d) (λ s. spec.args d')
unfolding spec.args
args_law zero d' = refused_law (token_of the.Open ∷ token_of the.Close ∷ []) [] least_args args_some args_lead
args_law (suc d) zero = same_read (arguments_law d zero (spec.args d) (spec.args zero) (args_law d zero))
args_law (suc d) (suc d') = arguments_law d d' (spec.args d) (spec.args d') (args_law d d')
