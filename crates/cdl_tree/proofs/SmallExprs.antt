-- Small texts of expressions, references and arguments, each with its tree: a token stands as its sort, its first byte and the one behind its last.
use Rattle.std.proofs.Common.{pos, true, false, List, [], ◌∷◌, Some, None, refl, codes}
use Rattle.cdl_tree.specs.declared.expr.Op.TheVariants as op
use Rattle.cdl_tree.specs.declared.expr.Expr.{Expr}
use Rattle.cdl_tree.specs.declared.expr.Node.TheVariants as node
use Rattle.cdl_tree.specs.declared.class.Modifier.{Modifier}
use Rattle.cdl_tree.specs.declared.class.Part.{Part}
use Rattle.cdl_tree.specs.declared.class.Sub.TheVariants as sub
use Rattle.cdl_tree.specs.Literals.{integer_of, IsString, nothing, plain, escape}
use Rattle.cdl_tree.specs.Terminals.{lexemes, keyword, symbol}
use Rattle.cdl_tree.specs.Trees.{tree, the_modifier, the_item, the_connect, the_block, the_package, the_enumeration}
use Rattle.cdl_tree.proofs.Small.{i, k, s, n, r, q, ident, spanned, named, modifier, operand, twenty_five}
use Rattle.cdl_tree.specs.Grammar.{single, dotted, ExprOf, conditional, logical, otherwise_if, otherwise, one_land, or_land, one_lnot, and_lnot, as_it_is, not_rel, one_sum, compared, one_term, signed, added, one_prim, times, integer, real, string, true_word, paren, array, call, refer, no_operand, operands, no_subscript, subscripts, one_expr, more_exprs, one_string, no_text, text, absent, present, no_value, value, ArgsOf, no_arg, args, one_arg, more_args, without_args, with_args, arg, all_places, places, one_sub, subs, part, RefOf, one_part, more_parts}

-- Operators of each level.
pub levels : Expr
levels =
    spanned (node.Binary op.Or (spanned (node.Binary op.And (spanned (node.Binary op.Less (spanned
    (node.Binary op.Plus (spanned (node.Binary op.Times (named (codes "a") 0 1) (named (codes "b") 4 5)) 0 5) (named (codes "c") 8 9)) 0
    9) (named (codes "d") 12 13)) 0 13) (spanned (node.Unary op.Not (named (codes "e") 22 23)) 18 23)) 0 23) (named (codes "f") 27 28))
    0 28

pub levels_is : ExprOf (lexemes (codes "a * b + c < d and not e or f")
    (i 0 1 ∷ s 2 3 ∷ i 4 5 ∷ s 6 7 ∷ i 8 9 ∷ s 10 11 ∷ i 12 13 ∷ k 14 17 ∷ k 18 21 ∷ i 22 23 ∷ k 24 26 ∷ i 27 28 ∷ [])) levels
unfolding tree the_modifier the_item the_connect the_block the_package the_enumeration keyword symbol integer_of levels
levels_is =
    logical (or_land _ (one_land (and_lnot _ (one_lnot (as_it_is (compared _ (added _ (one_term (times _ (one_prim (refer (single _ refl) no_subscript)) refl (refer (single _ refl) no_subscript))) refl
    (one_prim (refer (single _ refl) no_subscript))) refl (one_term (one_prim (refer (single _ refl) no_subscript)))))) refl
    (not_rel _ refl (one_sum (one_term (one_prim (refer (single _ refl) no_subscript))))))) refl
    (one_lnot (as_it_is (one_sum (one_term (one_prim (refer (single _ refl) no_subscript)))))))

-- A leading sign covers the first term.
pub leading : Expr
leading =
    spanned (node.Binary op.Plus (spanned (node.Unary op.Minus (named (codes "a") 1 2)) 0 2) (named (codes "b") 5 6)) 0 6

pub leading_is : ExprOf (lexemes (codes "-a + b") (s 0 1 ∷ i 1 2 ∷ s 3 4 ∷ i 5 6 ∷ [])) leading
unfolding tree the_modifier the_item the_connect the_block the_package the_enumeration keyword symbol integer_of leading
leading_is =
    logical (one_land (one_lnot (as_it_is
    (one_sum (added _ (signed _ refl (one_prim (refer (single _ refl) no_subscript))) refl (one_prim (refer (single _ refl) no_subscript)))))))

-- Operators of one level group to the left, and the span of an operation has the parentheses around its operands.
pub grouped : Expr
grouped =
    spanned (node.Binary op.Minus (spanned (node.Binary op.Times (spanned (node.Binary op.Plus (named (codes "a") 1 2) (named (codes "b") 5 6)) 1 6) (named (codes "c") 10 11)) 0
    11) (named (codes "d") 15 16)) 0 17

pub grouped_is : ExprOf
    (lexemes (codes "(a + b) * c - (d)") (s 0 1 ∷ i 1 2 ∷ s 3 4 ∷ i 5 6 ∷ s 6 7 ∷ s 8 9 ∷ i 10 11 ∷ s 12 13 ∷ s 14 15 ∷ i 15 16 ∷ s 16 17 ∷ []))
    grouped
unfolding tree the_modifier the_item the_connect the_block the_package the_enumeration keyword symbol integer_of grouped
grouped_is =
    logical (one_land (one_lnot (as_it_is (one_sum (added _ (one_term (times _ (one_prim (paren _ _ refl (logical (one_land (one_lnot (as_it_is (one_sum (added _ (one_term (one_prim (refer (single _ refl) no_subscript))) refl
    (one_prim (refer (single _ refl) no_subscript)))))))) refl)) refl (refer (single _ refl) no_subscript))) refl
    (one_prim (paren _ _ refl (operand (refer (single _ refl) no_subscript)) refl)))))))

-- An `elseif` is an `If` in the last place, which begins at that word.
pub chain : Expr
chain =
    spanned (node.If (named (codes "p") 3 4) (spanned (node.Integer (pos 1)) 10 11)
    (spanned (node.If (named (codes "q") 19 20) (spanned (node.Integer (pos 2)) 26 27) (spanned (node.Integer (pos 3)) 33 34)) 12 34)) 0 34

pub chain_is : ExprOf (lexemes (codes "if p then 1 elseif q then 2 else 3")
    (k 0 2 ∷ i 3 4 ∷ k 5 9 ∷ n 10 11 ∷ k 12 18 ∷ i 19 20 ∷ k 21 25 ∷ n 26 27 ∷ k 28 32 ∷ n 33 34 ∷ [])) chain
unfolding tree the_modifier the_item the_connect the_block the_package the_enumeration keyword symbol integer_of chain
chain_is =
    conditional _ _ refl (operand (refer (single _ refl) no_subscript)) refl (operand (integer _ refl refl))
    (otherwise_if _ _ refl (operand (refer (single _ refl) no_subscript)) refl (operand (integer _ refl refl))
    (otherwise _ refl (operand (integer _ refl refl))))

-- Arrays of arrays.
pub rows : Expr
rows =
    spanned (node.Array ((spanned (node.Array ((spanned (node.Integer (pos 1)) 2 3) ∷ (spanned (node.Integer (pos 2)) 5 6) ∷ [])) 1 7) ∷
    (spanned (node.Array ((spanned (node.Integer (pos 3)) 10 11) ∷ [])) 9 12) ∷ [])) 0 13

pub rows_is : ExprOf (lexemes (codes "{{1, 2}, {3}}") (s 0 1 ∷ s 1 2 ∷ n 2 3 ∷ s 3 4 ∷ n 5 6 ∷ s 6 7 ∷ s 7 8 ∷ s 9 10 ∷ n 10 11 ∷ s 11 12 ∷ s 12 13 ∷ []))
    rows
unfolding tree the_modifier the_item the_connect the_block the_package the_enumeration keyword symbol integer_of rows
rows_is =
    operand (array _ _ refl (more_exprs _
    (one_expr (operand (array _ _ refl (more_exprs _ (one_expr (operand (integer _ refl refl))) refl (operand (integer _ refl refl))) refl)))
    refl (operand (array _ _ refl (one_expr (operand (integer _ refl refl))) refl))) refl)

-- Calls, subscripts and names of several parts.
pub calls : Expr
calls =
    spanned (node.Call (ident (codes "max") 0 3) ((spanned (node.Refer (record { parts = (ident (codes "A") 4 5) ∷ (ident (codes "b") 6 7) ∷ [] })
    ((spanned (node.Integer (pos 1)) 8 9) ∷ (named (codes "i") 11 12) ∷ [])) 4 13) ∷
    (spanned (node.Call (ident (codes "size") 15 19) []) 15 21) ∷ [])) 0 22

pub calls_is : ExprOf (lexemes (codes "max(A.b[1, i], size())")
    (i 0 3 ∷ s 3 4 ∷ i 4 5 ∷ s 5 6 ∷ i 6 7 ∷ s 7 8 ∷ n 8 9 ∷ s 9 10 ∷ i 11 12 ∷ s 12 13 ∷ s 13 14 ∷ i 15 19 ∷ s 19 20 ∷ s 20 21 ∷ s 21 22 ∷ []))
    calls
unfolding tree the_modifier the_item the_connect the_block the_package the_enumeration keyword symbol integer_of calls
calls_is =
    operand (call _ _ _ refl refl (operands (more_exprs _ (one_expr (operand (refer (dotted _ _ (single _ refl) refl refl)
    (subscripts _ _ refl (more_exprs _ (one_expr (operand (integer _ refl refl))) refl (operand (refer (single _ refl) no_subscript)))
    refl)))) refl (operand (call _ _ _ refl refl no_operand refl)))) refl)

-- Strings without quotes and escapes, and numbers in millionths.
pub texts : Expr
texts =
    spanned (node.Array
    ((spanned (node.Str (97 ∷ 34 ∷ 98 ∷ 10 ∷ [])) 1 9) ∷ (spanned (node.Boolean true) 11 15) ∷ (spanned (node.Real (pos 25000000)) 17 22) ∷ [])) 0
    23

the_text : IsString (codes "\"a\\\"b\\n\"") (97 ∷ 34 ∷ 98 ∷ 10 ∷ [])
the_text =
    record { inside = 97 ∷ 92 ∷ 34 ∷ 98 ∷ 92 ∷ 110 ∷ []; quoted = refl; means = plain 97 refl refl (escape 34 refl (plain 98 refl refl (escape 110 refl nothing))) }

pub texts_is : ExprOf (lexemes (codes "{\"a\\\"b\\n\", true, 2.5e1}") (s 0 1 ∷ q 1 9 ∷ s 9 10 ∷ k 11 15 ∷ s 15 16 ∷ r 17 22 ∷ s 22 23 ∷ [])) texts
unfolding tree the_modifier the_item the_connect the_block the_package the_enumeration keyword symbol integer_of texts
texts_is =
    operand (array _ _ refl (more_exprs _ (more_exprs _ (one_expr (operand (string _ refl the_text))) refl (operand (true_word _ refl))) refl
    (operand (real _ refl twenty_five))) refl)

-- A reference with a range.
pub ends : List Part
ends =
    record { name = (ident (codes "x") 0 1); subs = (sub.Range (spanned (node.Integer (pos 1)) 2 3) (spanned (node.Integer (pos 2)) 4 5)) ∷ [] } ∷
    record { name = (ident (codes "y") 7 8); subs = sub.All ∷ [] } ∷ []

pub ends_is : RefOf (lexemes (codes "x[1:2].y[:]") (i 0 1 ∷ s 1 2 ∷ n 2 3 ∷ s 3 4 ∷ n 4 5 ∷ s 5 6 ∷ s 6 7 ∷ i 7 8 ∷ s 8 9 ∷ s 9 10 ∷ s 10 11 ∷ [])) ends
unfolding tree the_modifier the_item the_connect the_block the_package the_enumeration keyword symbol integer_of ends
ends_is =
    more_parts _
    (one_part (part _ refl (subs _ _ refl (one_sub (places _ (operand (integer _ refl refl)) refl (operand (integer _ refl refl)))) refl))) refl
    (part _ refl (subs _ _ refl (one_sub (all_places _ refl)) refl))

-- Arguments in arguments, with `each` and `final`.
pub nested : List Modifier
nested =
    (modifier true false (ident (codes "k") 6 7) None (Some (spanned (node.Integer (pos 1)) 10 11)) 1 11) ∷
    (modifier false true (ident (codes "u") 19 20)
    (Some ((modifier false false (ident (codes "min") 21 24) None
    (Some (spanned (node.Unary op.Minus (spanned (node.Integer (pos 1)) 28 29)) 27 29)) 21 29) ∷
    (modifier false false (ident (codes "q") 31 32) (Some []) None 31 34) ∷ [])) None 13 41) ∷ []

pub nested_is : ArgsOf (lexemes (codes "(each k = 1, final u(min = -1, q()) \"why\")")
    (s 0 1 ∷ k 1 5 ∷ i 6 7 ∷ s 8 9 ∷ n 10 11 ∷ s 11 12 ∷ k 13 18 ∷ i 19 20 ∷ s 20 21 ∷ i 21 24 ∷ s 25 26 ∷ s 27 28 ∷ n 28 29 ∷ s 29 30 ∷ i 31 32
    ∷ s 32 33 ∷ s 33 34 ∷ s 34 35 ∷ q 36 41 ∷ s 41 42 ∷ [])) nested
unfolding tree the_modifier the_item the_connect the_block the_package the_enumeration keyword symbol integer_of nested
nested_is =
    args _ _ refl (more_args _ (one_arg (arg _ (present _ refl) absent refl without_args (value _ refl (operand (integer _ refl refl))) no_text)) refl
    (arg _ absent (present _ refl) refl (with_args (args _ _ refl (more_args _ (one_arg (arg _ absent absent refl without_args
    (value _ refl (logical (one_land (one_lnot (as_it_is (one_sum (signed _ refl (one_prim (integer _ refl refl))))))))) no_text))
    refl (arg _ absent absent refl (with_args (no_arg _ _ refl refl)) no_value no_text)) refl)) no_value (text (one_string _ refl))))
    refl
