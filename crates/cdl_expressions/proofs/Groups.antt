-- The laws of operators that group to the left.
use Rattle.std.proofs.Common.{◌≡◌, ℕ, ◌≤◌, ◌<◌, Bool, true, false, not, List, [], ◌∷◌, ◌++◌, length, Option, Some, None, Ok, Err, refl, sym, ap, ◌∙◌, subst, arith, if◌then◌else◌, append-nil}
use Rattle.cdl_tree.specs.declared.terminal.Terminal.{Terminal}
use Rattle.cdl_tree.specs.declared.terminal.Terminal.TheVariants as the
use Rattle.cdl_tree.specs.declared.expr.Op.{Op}
use Rattle.cdl_tree.specs.declared.expr.Expr.{Expr}
use Rattle.cdl_tree.specs.declared.expr.Node.TheVariants as node
use Rattle.cdl_tree.specs.Words.{Lexeme, Word}
use Rattle.cdl_tree.specs.Trees.{tree}
use Rattle.cdl_reading.specs.Reading.{Parser, and_then, pure, terminal, next, made}
use Rattle.cdl_reading.proofs.Steps.{Then, both, Made, is_made, seam}
use Rattle.cdl_reading.proofs.Laws.{member, each, within, within_self, Law, shaped, made_law, Token, a_token, token_by, Reader, token_law, then_law, token_of}
use Rattle.cdl_reading.proofs.Repeats.{Repeats, Loop, repeat_law, then_assoc}
use Rattle.cdl_expressions.specs.Expressions.{grouped_by, grouped_from}

abbrev pub operator_of : (Terminal → Option Op) → Lexeme → Option Op
operator_of operator t = operator t.terminal

abbrev pub operate_by : Option Op → Parser Op
operate_by (Some o) i = Ok (o, next i)
operate_by None i = Err i

abbrev pub operate : (Terminal → Option Op) → Parser Op
operate operator i = operate_by (operator (terminal i)) i

operate_reader : (operator : Terminal → Option Op) → operator the.Nothing ≡ None → Reader (operator_of operator) (operate operator)
operate_reader operator never = record { nil = ap (λ o. operate_by o []) never; cons = λ t ts. cons t ts (operator t.terminal) }
  where
    cons : (t : Lexeme) (ts : Word) (o : Option Op) → operate_by o (t ∷ ts) ≡ token_by o (t ∷ ts) ts
    cons t ts (Some o) = refl
    cons t ts None = refl

pub data Operated (operator : Terminal → Option Op) (Y : Word → Expr → Type 0) (left : Expr) (u : Word) : Word → Expr → Type 0 where
  operated : (t : Lexeme) {o : Op} {w : Word} {r e : Expr} → operator t.terminal ≡ Some o → Y w r → e ≡ tree (node.Binary o left r) (u ++ t ∷ w) → Operated operator Y left u (t ∷ w) e

abbrev pub group_step : (Terminal → Option Op) → Parser Expr → Expr → Word → Parser Expr
group_step operator p left s i = and_then (operate operator i) (λ o i. and_then (p i) (λ r. made (tree (node.Binary o left r)) s))

abbrev pub is_operator : Option Op → Bool
is_operator None = false
is_operator (Some o) = true

group_loop : (operator : Terminal → Option Op) (p : Parser Expr) → Loop (λ kd. is_operator (operator kd)) (group_step operator p) (λ n left s. grouped_from operator p n s left)
unfolding grouped_from grouped_by
group_loop operator p = record { at_end = λ a s i. refl; turn = λ n a s i. turn n a s i (operator (terminal i)) }
  where
    turn : (n : ℕ) (left : Expr) (s i : Word) (o : Option Op) → grouped_by operator p (grouped_from operator p n s) s left o i
        ≡ (if is_operator o then and_then (and_then (operate_by o i) (λ o i. and_then (p i) (λ r. made (tree (node.Binary o left r)) s))) (λ b. grouped_from operator p n s b) else pure left i)
    turn n left s i None = refl
    turn n left s i (Some o) = sym (then_assoc (p (next i)) (λ r. made (tree (node.Binary o left r)) s) (λ b. grouped_from operator p n s b))

module _ (operator : Terminal → Option Op) (never : operator the.Nothing ≡ None) (v : Terminal) (o : Op) (known : operator v ≡ Some o) (O : List Terminal) (terminals : (kd : Terminal) (p : Op) → operator kd ≡ Some p → member O kd ≡ true) where
  operate_law : {n m : ℕ} (S : List Terminal) → Law n m (Token (operator_of operator)) O S (λ s. operate operator) (λ s. operate operator)
  operate_law S = token_law (operator_of operator) (operate operator) (operate_reader operator never) (token_of v) o known O (λ t a e. terminals t.terminal a e) S

  module _ {d d' : ℕ} {Y : Word → Expr → Type 0} {p p' : Parser Expr} {T : List Terminal} (U S : List Terminal) (operand : Law d d' (λ u. Y) T U (λ s. p) (λ s. p'))
      (sub : within (O ++ S) U ≡ true) (yes_there : each (λ kd. is_operator (operator kd)) O ≡ true) (not_there : each (λ kd. not (is_operator (operator kd))) S ≡ true) where
    group_goes : (left : Expr) (u w : Word) (e : Expr) → Then (Token (operator_of operator)) (λ o. Then (λ u. Y) (λ r. Made (tree (node.Binary o left r)))) u w e → Operated operator Y left u w e
    group_goes left u w e (both (a_token t {a = o} h) (both {x = x} {a = r} y (is_made m))) =
        let at : (u ++ t ∷ []) ++ x ≡ u ++ t ∷ x = seam u t x in
        subst (λ z. Operated operator Y left u z e) (sym (ap (λ z. t ∷ z) (append-nil x))) (operated t h y (m ∙ ap (tree (node.Binary o left r)) at))

    group_comes : (left : Expr) (u w : Word) (e : Expr) → Operated operator Y left u w e → Then (Token (operator_of operator)) (λ o. Then (λ u. Y) (λ r. Made (tree (node.Binary o left r)))) u w e
    group_comes left u _ e (operated t {o = o} {w = x} {r = r} h y m) =
        subst (λ z. Then (Token (operator_of operator)) (λ o. Then (λ u. Y) (λ r. Made (tree (node.Binary o left r)))) u z e) (ap (λ z. t ∷ z) (append-nil x))
        (both (a_token t h) (both y (is_made (m ∙ ap (tree (node.Binary o left r)) (sym (seam u t x))))))

    group_law : (left : Expr) → Law d d' (Operated operator Y left) O (O ++ S) (group_step operator p left) (group_step operator p' left)
    group_law left =
        shaped (group_goes left) (group_comes left)
        (then_law {U = T} (operate_law T) (λ o. then_law {U = U} operand (λ r. made_law {S = O ++ S} (tree (node.Binary o left r))) sub) (within_self T))

    group_some : (left : Expr) (u w : Word) (e : Expr) → Operated operator Y left u w e → 0 < length w
    group_some left u _ e (operated t h y m) = omega arith

    pub grouped_law : (n m : ℕ) → n ≤ d → m ≤ d' → (left : Expr) → Law n m (Repeats (Operated operator Y) left) (O ++ S) S (λ s. grouped_from operator p n s left) (λ s. grouped_from operator p' m s left)
    grouped_law n m ln lm left =
        repeat_law d d' (λ kd. is_operator (operator kd)) (group_step operator p) (group_step operator p') (λ n left s. grouped_from operator p n s left) (λ n left s. grouped_from operator p' n s left) (Operated operator Y)
        O S (O ++ S) (group_loop operator p) (group_loop operator p') group_some group_law (within_self (O ++ S)) yes_there not_there n m ln lm left
