-- Small texts of clauses, classes and files, each with its tree: a token stands as its sort, its first byte and the one behind its last.
use Rattle.std.proofs.Common.{pos, true, false, List, [], ◌∷◌, Some, None, refl, codes}
use Rattle.cdl_tree.specs.declared.expr.Node.TheVariants as node
use Rattle.cdl_tree.specs.declared.class.Prefix.TheVariants as prefix
use Rattle.cdl_tree.specs.declared.class.Dim.TheVariants as dim
use Rattle.cdl_tree.specs.declared.class.Item.{Item}
use Rattle.cdl_tree.specs.declared.class.Sub.TheVariants as sub
use Rattle.cdl_tree.specs.declared.class.Statement.{Statement}
use Rattle.cdl_tree.specs.declared.class.Statement.TheVariants as statement
use Rattle.cdl_tree.specs.declared.class.ClassTree.{ClassTree}
use Rattle.cdl_tree.specs.declared.class.ClassTree.TheVariants as class
use Rattle.cdl_tree.specs.declared.class.FileTree.{FileTree}
use Rattle.cdl_tree.specs.Literals.{integer_of}
use Rattle.cdl_tree.specs.Terminals.{lexemes, keyword, symbol}
use Rattle.cdl_tree.specs.Trees.{tree, the_modifier, the_item, the_connect, the_loop, the_block, the_package, the_enumeration}
use Rattle.cdl_tree.proofs.Small.{span, i, k, s, n, q, ident, spanned, named, modifier, declared, wire, turns, operand}
use Rattle.cdl_tree.specs.Grammar.{single, dotted, integer, refer, no_subscript, one_string, more_strings, no_text, text, nothing, other, enclosed, Note, note, no_note, a_note, tail, absent, present, no_value, value, no_condition, condition, args, one_arg, without_args, with_args, arg, any_size, a_size, one_dim, more_dims, no_dim, dims, decl, one_decl, more_decls, no_prefix, parameter, ClauseOf, clause, constant, one_place, one_sub, no_sub, subs, part, one_part, more_parts, connect, StatementOf, a_connect, a_loop, loop, no_body, more_body, no_statement, then_statement, then_note, no_equation, equation, no_block_part, block_section, block_note, block_clause, literal, one_literal, more_literals, ClassOf, a_block, a_package, an_enumeration, no_package_part, package_section, package_constant, package_class, within_top, within, one_class, more_classes, FileOf, file}

-- A clause of two declarations: each has the prefix and the class, and its own span.
pub several : List Item
several =
    declared prefix.Parameter true ((ident (codes "P") 16 17) ∷ (ident (codes "T") 18 19) ∷ []) (ident (codes "a") 20 21)
    (dim.Any ∷ (dim.Size (spanned (node.Integer (pos 2)) 25 26)) ∷ []) [] None None 20 45 ∷ declared prefix.Parameter true
    ((ident (codes "P") 16 17) ∷ (ident (codes "T") 18 19) ∷ []) (ident (codes "b") 47 48) []
    ((modifier false false (ident (codes "k") 49 50) None (Some (spanned (node.Integer (pos 1)) 53 54)) 49 54) ∷ [])
    (Some (spanned (node.Integer (pos 2)) 58 59)) (Some (named (codes "c") 63 64)) 47 64 ∷ []

pub several_is : ClauseOf (lexemes (codes "final parameter P.T a[:, 2] \"first\" + \"words\", b(k = 1) = 2 if c;")
    (k 0 5 ∷ k 6 15 ∷ i 16 17 ∷ s 17 18 ∷ i 18 19 ∷ i 20 21 ∷ s 21 22 ∷ s 22 23 ∷ s 23 24 ∷ n 25 26 ∷ s 26 27 ∷ q 28 35 ∷ s 36 37 ∷ q 38 45 ∷
    s 45 46 ∷ i 47 48 ∷ s 48 49 ∷ i 49 50 ∷ s 51 52 ∷ n 53 54 ∷ s 54 55 ∷ s 56 57 ∷ n 58 59 ∷ k 60 62 ∷ i 63 64 ∷ s 64 65 ∷ [])) several
unfolding tree the_modifier the_item the_connect the_block the_package the_enumeration keyword symbol integer_of several
several_is =
    clause _ (present _ refl) (parameter _ refl) (dotted _ _ (single _ refl) refl refl)
    (more_decls _ (one_decl (decl _ refl (dims _ _ refl (more_dims _ (one_dim (any_size _ refl)) refl (a_size (operand (integer _ refl refl)))) refl) without_args
    no_value no_condition (tail (text (more_strings _ _ (one_string _ refl) refl refl)) no_note))) refl
    (decl _ refl no_dim (with_args (args _ _ refl (one_arg (arg _ absent absent refl without_args (value _ refl (operand (integer _ refl refl))) no_text)) refl))
    (value _ refl (operand (integer _ refl refl))) (condition _ refl (operand (refer (single _ refl) no_subscript))) (tail no_text no_note)))
    refl

-- Any tokens with balanced brackets.
pub noted_is : Note (lexemes (codes "annotation(a[b]({c; end}, \"x\" ^ when))")
    (k 0 10 ∷ s 10 11 ∷ i 11 12 ∷ s 12 13 ∷ i 13 14 ∷ s 14 15 ∷ s 15 16 ∷ s 16 17 ∷ i 17 18 ∷ s 18 19 ∷ k 20 23 ∷ s 23 24 ∷ s 24 25 ∷ q 26 29 ∷
    s 30 31 ∷ k 32 36 ∷ s 36 37 ∷ s 37 38 ∷ []))
unfolding tree the_modifier the_item the_connect the_block the_package the_enumeration keyword symbol integer_of
noted_is =
    note _ _ _ refl refl (other _ refl (enclosed _ _ refl (other _ refl nothing) refl
    (enclosed _ _ refl (enclosed _ _ refl (other _ refl (other _ refl (other _ refl nothing))) refl
    (other _ refl (other _ refl (other _ refl (other _ refl nothing))))) refl nothing))) refl

-- A package with constants and a type.
pub constants : ClassTree
constants =
    class.Package (ident (codes "P") 8 9)
    ((class.Enumeration (ident (codes "E") 62 63) ((ident (codes "low") 78 81) ∷ (ident (codes "high") 83 87) ∷ []) (span 57 107)) ∷ [])
    (declared prefix.Constant false ((ident (codes "Integer") 32 39) ∷ []) (ident (codes "n") 40 41) [] []
    (Some (spanned (node.Integer (pos 3)) 44 45)) None 40 45 ∷ declared prefix.Constant false ((ident (codes "Integer") 32 39) ∷ [])
    (ident (codes "m") 47 48) [] [] None None 47 48 ∷ []) (span 0 114)

pub constants_is : ClassOf (lexemes (codes "package P \"of numbers\" constant Integer n = 3, m; public type E = enumeration(low, high \"top\") annotation(); end P")
    (k 0 7 ∷ i 8 9 ∷ q 10 22 ∷ k 23 31 ∷ i 32 39 ∷ i 40 41 ∷ s 42 43 ∷ n 44 45 ∷ s 45 46 ∷ i 47 48 ∷ s 48 49 ∷ k 50 56 ∷ k 57 61 ∷ i 62 63 ∷
    s 64 65 ∷ k 66 77 ∷ s 77 78 ∷ i 78 81 ∷ s 81 82 ∷ i 83 87 ∷ q 88 93 ∷ s 93 94 ∷ k 95 105 ∷ s 105 106 ∷ s 106 107 ∷ s 107 108 ∷ k 109 112 ∷
    i 113 114 ∷ [])) constants (record { name = (ident (codes "P") 8 9); end = (ident (codes "P") 113 114) } ∷ [])
unfolding tree the_modifier the_item the_connect the_block the_package the_enumeration keyword symbol integer_of constants
constants_is =
    a_package _ _ _ _ refl refl (text (one_string _ refl))
    (package_class _ (package_section _ (package_constant no_package_part (constant _ _ absent refl (single _ refl) (more_decls _
    (one_decl (decl _ refl no_dim without_args (value _ refl (operand (integer _ refl refl))) no_condition (tail no_text no_note))) refl
    (decl _ refl no_dim without_args no_value no_condition (tail no_text no_note))) refl)) refl)
    (an_enumeration _ _ _ _ _ _ refl refl refl refl refl
    (more_literals _ (one_literal (literal _ refl (tail no_text no_note))) refl (literal _ refl (tail (text (one_string _ refl)) no_note)))
    refl (tail no_text (a_note (note _ _ _ refl refl nothing refl)))) refl) refl refl

-- A loop with an empty one in it.
pub turned : Statement
turned =
    statement.Loop (turns (ident (codes "i") 4 5) (spanned (node.Integer (pos 1)) 9 10) (named (codes "n") 11 12)
    (statement.Loop (turns (ident (codes "j") 22 23) (spanned (node.Integer (pos 2)) 27 28) (named (codes "i") 29 30) [] 18 44) ∷ statement.Connect
    (wire (record { name = (ident (codes "u") 53 54); subs = [] } ∷ []) (record { name = (ident (codes "y") 56 57); subs = [] } ∷ []) 45 59) ∷ [])
    0 68)

pub turned_is : StatementOf (lexemes (codes "for i in 1:n loop for j in 2:i loop end for; connect(u, y); end for;")
    (k 0 3 ∷ i 4 5 ∷ k 6 8 ∷ n 9 10 ∷ s 10 11 ∷ i 11 12 ∷ k 13 17 ∷ k 18 21 ∷ i 22 23 ∷ k 24 26 ∷ n 27 28 ∷ s 28 29 ∷ i 29 30 ∷ k 31 35 ∷ k 36 39 ∷ k 40 43 ∷ s 43 44 ∷ k 45 52 ∷ s 52 53 ∷ i 53 54 ∷ s 54 55 ∷ i 56 57 ∷ s 57 58 ∷ s 58 59 ∷ k 60 63 ∷ k 64 67 ∷ s 67 68 ∷ [])) turned
unfolding tree the_connect the_loop keyword symbol integer_of turned
turned_is =
    a_loop (loop _ _ _ _ _ _ _ _ refl refl refl (operand (integer _ refl refl)) refl (operand (refer (single _ refl) no_subscript)) refl
    (more_body (more_body no_body (a_loop (loop _ _ _ _ _ _ _ _ refl refl refl (operand (integer _ refl refl)) refl
    (operand (refer (single _ refl) no_subscript)) refl no_body refl refl refl)))
    (a_connect (connect _ _ _ _ _ refl refl (one_part (part _ refl no_sub)) refl (one_part (part _ refl no_sub)) refl (tail no_text no_note) refl)))
    refl refl refl)

-- A block. The word behind `end` is not in the tree, and stands behind it.
pub wired : ClassTree
wired =
    class.Block (ident (codes "M") 6 7)
    (declared prefix.Plain false ((ident (codes "Q") 32 33) ∷ []) (ident (codes "u") 34 35) [] [] None None 34 35 ∷ [])
    (statement.Connect (wire (record { name = (ident (codes "u") 54 55); subs = [] } ∷ [])
    (record { name = (ident (codes "c") 57 58); subs = (sub.One (spanned (node.Integer (pos 1)) 59 60)) ∷ [] } ∷ record
    { name = (ident (codes "y") 62 63); subs = [] } ∷ []) 46 72) ∷ []) (span 0 92)

pub wired_is : ClassOf (lexemes (codes "block M annotation(); protected Q u; equation connect(u, c[1].y) \"wire\"; annotation(); end N")
    (k 0 5 ∷ i 6 7 ∷ k 8 18 ∷ s 18 19 ∷ s 19 20 ∷ s 20 21 ∷ k 22 31 ∷ i 32 33 ∷ i 34 35 ∷ s 35 36 ∷ k 37 45 ∷ k 46 53 ∷ s 53 54 ∷ i 54 55 ∷
    s 55 56 ∷ i 57 58 ∷ s 58 59 ∷ n 59 60 ∷ s 60 61 ∷ s 61 62 ∷ i 62 63 ∷ s 63 64 ∷ q 65 71 ∷ s 71 72 ∷ k 73 83 ∷ s 83 84 ∷ s 84 85 ∷ s 85 86
    ∷ k 87 90 ∷ i 91 92 ∷ [])) wired (record { name = (ident (codes "M") 6 7); end = (ident (codes "N") 91 92) } ∷ [])
unfolding tree the_modifier the_item the_connect the_block the_package the_enumeration keyword symbol integer_of wired
wired_is =
    a_block _ _ _ _ refl refl no_text (block_clause (block_section _ (block_note _ no_block_part (note _ _ _ refl refl nothing refl) refl) refl)
    (clause _ absent no_prefix (single _ refl) (one_decl (decl _ refl no_dim without_args no_value no_condition (tail no_text no_note))) refl))
    (equation _ refl (then_note _ (then_statement no_statement (a_connect (connect _ _ _ _ _ refl refl (one_part (part _ refl no_sub)) refl
    (more_parts _ (one_part (part _ refl (subs _ _ refl (one_sub (one_place (operand (integer _ refl refl)))) refl))) refl
    (part _ refl no_sub)) refl (tail (text (one_string _ refl)) no_note) refl))) (note _ _ _ refl refl nothing refl) refl)) refl refl

-- A file with two classes, in a package.
pub placed : FileTree
placed =
    record {
      within = Some (record { parts = (ident (codes "A") 7 8) ∷ (ident (codes "B") 9 10) ∷ [] });
      classes =
          (class.Block (ident (codes "M") 18 19) [] [] (span 12 25)) ∷ (class.Package (ident (codes "P") 35 36) [] [] (span 27 42)) ∷ [];
    }

pub placed_is : FileOf (lexemes (codes "within A.B; block M end M; package P end P;")
    (k 0 6 ∷ i 7 8 ∷ s 8 9 ∷ i 9 10 ∷ s 10 11 ∷ k 12 17 ∷ i 18 19 ∷ k 20 23 ∷ i 24 25 ∷ s 25 26 ∷ k 27 34 ∷ i 35 36 ∷ k 37 40 ∷ i 41 42 ∷ s 42 43
    ∷ [])) placed (record { name = (ident (codes "M") 18 19); end = (ident (codes "M") 24 25) } ∷ record
    { name = (ident (codes "P") 35 36); end = (ident (codes "P") 41 42) } ∷ [])
unfolding tree the_modifier the_item the_connect the_block the_package the_enumeration keyword symbol integer_of placed
placed_is =
    file (within _ _ refl (dotted _ _ (single _ refl) refl refl) refl)
    (more_classes _ (one_class _ (a_block _ _ _ _ refl refl no_text no_block_part no_equation refl refl) refl)
    (a_package _ _ _ _ refl refl no_text no_package_part refl refl) refl)

-- A file outside every package.
pub top : FileTree
top =
    record { within = None; classes = (class.Block (ident (codes "M") 14 15) [] [] (span 8 21)) ∷ [] }

pub top_is : FileOf (lexemes (codes "within; block M end M;") (k 0 6 ∷ s 6 7 ∷ k 8 13 ∷ i 14 15 ∷ k 16 19 ∷ i 20 21 ∷ s 21 22 ∷ [])) top
    (record { name = (ident (codes "M") 14 15); end = (ident (codes "M") 20 21) } ∷ [])
unfolding tree the_modifier the_item the_connect the_block the_package the_enumeration keyword symbol integer_of top
top_is =
    file (within_top _ _ refl refl) (one_class _ (a_block _ _ _ _ refl refl no_text no_block_part no_equation refl refl) refl)
