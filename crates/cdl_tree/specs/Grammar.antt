-- The grammar, with a case for each production. X w tree: the word w is derived from X, with this tree.
use Rattle.std.specs.Prelude.{◌≡◌, ◌≤◌, ℕ, ℤ, Bool, true, false, List, [], ◌∷◌, ◌++◌, Option, Some, None, length, take}
use Rattle.cdl_tree.specs.declared.terminal.Terminal.{Terminal}
use Rattle.cdl_tree.specs.declared.terminal.Terminal.TheVariants as the
use Rattle.cdl_tree.specs.declared.name.Ident.{Ident}
use Rattle.cdl_tree.specs.declared.name.Name.{Name}
use Rattle.cdl_tree.specs.declared.expr.Op.{Op}
use Rattle.cdl_tree.specs.declared.expr.Op.TheVariants as op
use Rattle.cdl_tree.specs.declared.expr.Expr.{Expr}
use Rattle.cdl_tree.specs.declared.expr.Node.TheVariants as node
use Rattle.cdl_tree.specs.declared.class.Prefix.{Prefix}
use Rattle.cdl_tree.specs.declared.class.Prefix.TheVariants as prefix
use Rattle.cdl_tree.specs.declared.class.Dim.{Dim}
use Rattle.cdl_tree.specs.declared.class.Dim.TheVariants as dim
use Rattle.cdl_tree.specs.declared.class.Modifier.{Modifier}
use Rattle.cdl_tree.specs.declared.class.Item.{Item}
use Rattle.cdl_tree.specs.declared.class.Part.{Part}
use Rattle.cdl_tree.specs.declared.class.Sub.{Sub}
use Rattle.cdl_tree.specs.declared.class.Sub.TheVariants as sub
use Rattle.cdl_tree.specs.declared.class.Connect.{Connect}
use Rattle.cdl_tree.specs.declared.class.Statement.{Statement}
use Rattle.cdl_tree.specs.declared.class.Statement.TheVariants as statement
use Rattle.cdl_tree.specs.declared.class.Loop.{Loop}
use Rattle.cdl_tree.specs.declared.class.ClassTree.{ClassTree}
use Rattle.cdl_tree.specs.declared.class.Closing.{Closing}
use Rattle.cdl_tree.specs.declared.class.FileTree.{FileTree}
use Rattle.cdl_tree.specs.Words.{Lexeme, Word}
use Rattle.cdl_tree.specs.Literals.{integer_of, IsReal, IsString}
use Rattle.cdl_tree.specs.Trees.{the_ident, the_name, comparison, sign, factor, tree, the_modifier, listed, Head, the_item, the_part, the_ref, the_connect, the_loop, the_block, the_package, the_enumeration, the_closing, the_file}

-- name = IDENT { "." IDENT }
pub data NameOf : Word → List Ident → Type 0 where
  single : (a : Lexeme) → a.terminal ≡ the.Identifier → NameOf (a ∷ []) (the_ident a ∷ [])
  dotted : {v : Word} (p a : Lexeme) {parts : List Ident} → NameOf v parts → p.terminal ≡ the.Period → a.terminal ≡ the.Identifier
      → NameOf (v ++ p ∷ a ∷ []) (parts ++ the_ident a ∷ [])

mutual
  -- expr = "if" expr "then" expr { "elseif" expr "then" expr } "else" expr | lor
  pub data ExprOf : Word → Expr → Type 0 where
    conditional : (i t : Lexeme) {u v w : Word} {c x y : Expr} → i.terminal ≡ the.If → ExprOf u c → t.terminal ≡ the.Then → ExprOf v x → Otherwise w y
        → ExprOf (i ∷ (u ++ t ∷ (v ++ w))) (tree (node.If c x y) (i ∷ (u ++ t ∷ (v ++ w))))
    logical : {w : Word} {e : Expr} → Lor w e → ExprOf w e

  -- { "elseif" expr "then" expr } "else" expr
  pub data Otherwise : Word → Expr → Type 0 where
    otherwise_if : (i t : Lexeme) {u v w : Word} {c x y : Expr} → i.terminal ≡ the.ElseIf → ExprOf u c → t.terminal ≡ the.Then → ExprOf v x → Otherwise w y
        → Otherwise (i ∷ (u ++ t ∷ (v ++ w))) (tree (node.If c x y) (i ∷ (u ++ t ∷ (v ++ w))))
    otherwise : (s : Lexeme) {w : Word} {e : Expr} → s.terminal ≡ the.Else → ExprOf w e → Otherwise (s ∷ w) e

  -- lor = land { "or" land }
  pub data Lor : Word → Expr → Type 0 where
    one_land : {w : Word} {e : Expr} → Land w e → Lor w e
    or_land : {v w : Word} (t : Lexeme) {l r : Expr} → Lor v l → t.terminal ≡ the.Or → Land w r → Lor (v ++ t ∷ w) (tree (node.Binary op.Or l r) (v ++ t ∷ w))

  -- land = lnot { "and" lnot }
  pub data Land : Word → Expr → Type 0 where
    one_lnot : {w : Word} {e : Expr} → Lnot w e → Land w e
    and_lnot : {v w : Word} (t : Lexeme) {l r : Expr} → Land v l → t.terminal ≡ the.And → Lnot w r → Land (v ++ t ∷ w) (tree (node.Binary op.And l r) (v ++ t ∷ w))

  -- lnot = [ "not" ] rel
  pub data Lnot : Word → Expr → Type 0 where
    as_it_is : {w : Word} {e : Expr} → Rel w e → Lnot w e
    not_rel : (t : Lexeme) {w : Word} {e : Expr} → t.terminal ≡ the.Not → Rel w e → Lnot (t ∷ w) (tree (node.Unary op.Not e) (t ∷ w))

  -- rel = sum [ ( "<" | "<=" | ">" | ">=" | "==" | "<>" ) sum ]
  pub data Rel : Word → Expr → Type 0 where
    one_sum : {w : Word} {e : Expr} → Sum w e → Rel w e
    compared : {v w : Word} (t : Lexeme) {o : Op} {l r : Expr} → Sum v l → comparison t.terminal ≡ Some o → Sum w r → Rel (v ++ t ∷ w) (tree (node.Binary o l r) (v ++ t ∷ w))

  -- sum = [ "+" | "-" ] term { ( "+" | "-" ) term }
  pub data Sum : Word → Expr → Type 0 where
    one_term : {w : Word} {e : Expr} → Term w e → Sum w e
    signed : (t : Lexeme) {w : Word} {o : Op} {e : Expr} → sign t.terminal ≡ Some o → Term w e → Sum (t ∷ w) (tree (node.Unary o e) (t ∷ w))
    added : {v w : Word} (t : Lexeme) {o : Op} {l r : Expr} → Sum v l → sign t.terminal ≡ Some o → Term w r → Sum (v ++ t ∷ w) (tree (node.Binary o l r) (v ++ t ∷ w))

  -- term = prim { ( "*" | "/" ) prim }
  pub data Term : Word → Expr → Type 0 where
    one_prim : {w : Word} {e : Expr} → Prim w e → Term w e
    times : {v w : Word} (t : Lexeme) {o : Op} {l r : Expr} → Term v l → factor t.terminal ≡ Some o → Prim w r → Term (v ++ t ∷ w) (tree (node.Binary o l r) (v ++ t ∷ w))

  -- prim = NUMBER | STRING | "true" | "false" | "(" expr ")"
  --      | "{" expr { "," expr } "}"
  --      | IDENT "(" [ expr { "," expr } ] ")"
  --      | name [ "[" expr { "," expr } "]" ]
  pub data Prim : Word → Expr → Type 0 where
    integer : (t : Lexeme) {z : ℤ} → t.terminal ≡ the.Integer → integer_of t.text ≡ Some z → Prim (t ∷ []) (tree (node.Integer z) (t ∷ []))
    real : (t : Lexeme) {q : ℤ} → t.terminal ≡ the.Real → IsReal t.text q → Prim (t ∷ []) (tree (node.Real q) (t ∷ []))
    string : (t : Lexeme) {s : List ℕ} → t.terminal ≡ the.Str → IsString t.text s → Prim (t ∷ []) (tree (node.Str s) (t ∷ []))
    true_word : (t : Lexeme) → t.terminal ≡ the.True → Prim (t ∷ []) (tree (node.Boolean true) (t ∷ []))
    false_word : (t : Lexeme) → t.terminal ≡ the.False → Prim (t ∷ []) (tree (node.Boolean false) (t ∷ []))
    paren : (a b : Lexeme) {w : Word} {e : Expr} → a.terminal ≡ the.Open → ExprOf w e → b.terminal ≡ the.Close → Prim (a ∷ (w ++ b ∷ [])) e
    array : (a b : Lexeme) {w : Word} {es : List Expr} → a.terminal ≡ the.OpenBrace → Exprs w es → b.terminal ≡ the.CloseBrace
        → Prim (a ∷ (w ++ b ∷ [])) (tree (node.Array es) (a ∷ (w ++ b ∷ [])))
    call : (f a b : Lexeme) {w : Word} {es : List Expr} → f.terminal ≡ the.Identifier → a.terminal ≡ the.Open → Operands w es → b.terminal ≡ the.Close
        → Prim (f ∷ a ∷ (w ++ b ∷ [])) (tree (node.Call (the_ident f) es) (f ∷ a ∷ (w ++ b ∷ [])))
    refer : {v w : Word} {parts : List Ident} {es : List Expr} → NameOf v parts → Subscripts w es → Prim (v ++ w) (tree (node.Refer (the_name parts) es) (v ++ w))

  -- [ expr { "," expr } ]
  pub data Operands : Word → List Expr → Type 0 where
    no_operand : Operands [] []
    operands : {w : Word} {es : List Expr} → Exprs w es → Operands w es

  -- [ "[" expr { "," expr } "]" ]
  pub data Subscripts : Word → List Expr → Type 0 where
    no_subscript : Subscripts [] []
    subscripts : (a b : Lexeme) {w : Word} {es : List Expr} → a.terminal ≡ the.OpenBracket → Exprs w es → b.terminal ≡ the.CloseBracket → Subscripts (a ∷ (w ++ b ∷ [])) es

  -- expr { "," expr }
  pub data Exprs : Word → List Expr → Type 0 where
    one_expr : {w : Word} {e : Expr} → ExprOf w e → Exprs w (e ∷ [])
    more_exprs : {v w : Word} (t : Lexeme) {es : List Expr} {e : Expr} → Exprs v es → t.terminal ≡ the.Comma → ExprOf w e → Exprs (v ++ t ∷ w) (es ++ e ∷ [])

-- STRING { "+" STRING }
pub data Strings : Word → Type 0 where
  one_string : (s : Lexeme) → s.terminal ≡ the.Str → Strings (s ∷ [])
  more_strings : {v : Word} (p s : Lexeme) → Strings v → p.terminal ≡ the.Plus → s.terminal ≡ the.Str → Strings (v ++ p ∷ s ∷ [])

-- text = [ STRING { "+" STRING } ]
pub data TextOf : Word → Type 0 where
  no_text : TextOf []
  text : {w : Word} → Strings w → TextOf w

-- what closes a bracket
abbrev pub partner : Terminal → Option Terminal
partner the.Open = Some the.Close
partner the.OpenBracket = Some the.CloseBracket
partner the.OpenBrace = Some the.CloseBrace
partner _ = None

-- a token that is no bracket
abbrev pub is_plain : Terminal → Bool
is_plain the.Open = false
is_plain the.Close = false
is_plain the.OpenBracket = false
is_plain the.CloseBracket = false
is_plain the.OpenBrace = false
is_plain the.CloseBrace = false
is_plain the.Nothing = false
is_plain _ = true

-- balanced: each bracket is closed by its own partner, in order.
pub data Balanced : Word → Type 0 where
  nothing : Balanced []
  other : (t : Lexeme) {w : Word} → is_plain t.terminal ≡ true → Balanced w → Balanced (t ∷ w)
  enclosed : (a b : Lexeme) {v w : Word} {c : Terminal} → partner a.terminal ≡ Some c → Balanced v → b.terminal ≡ c → Balanced w → Balanced (a ∷ (v ++ b ∷ w))

-- note = "annotation" "(" balanced ")"
pub data Note : Word → Type 0 where
  note : (t a b : Lexeme) {w : Word} → t.terminal ≡ the.Annotation → a.terminal ≡ the.Open → Balanced w → b.terminal ≡ the.Close → Note (t ∷ a ∷ (w ++ b ∷ []))

-- [ note ]
pub data OptionalNote : Word → Type 0 where
  no_note : OptionalNote []
  a_note : {w : Word} → Note w → OptionalNote w

-- tail = text [ note ]
pub data Tail : Word → Type 0 where
  tail : {v w : Word} → TextOf v → OptionalNote w → Tail (v ++ w)

-- [ WORD ]
pub data Flag (terminal : Terminal) : Word → Bool → Type 0 where
  absent : Flag terminal [] false
  present : (t : Lexeme) → t.terminal ≡ terminal → Flag terminal (t ∷ []) true

-- [ "=" expr ]
pub data Value : Word → Option Expr → Type 0 where
  no_value : Value [] None
  value : (t : Lexeme) {w : Word} {e : Expr} → t.terminal ≡ the.Equals → ExprOf w e → Value (t ∷ w) (Some e)

-- [ "if" expr ]
pub data Condition : Word → Option Expr → Type 0 where
  no_condition : Condition [] None
  condition : (t : Lexeme) {w : Word} {e : Expr} → t.terminal ≡ the.If → ExprOf w e → Condition (t ∷ w) (Some e)

mutual
  -- args = "(" [ arg { "," arg } ] ")"
  pub data ArgsOf : Word → List Modifier → Type 0 where
    no_arg : (a b : Lexeme) → a.terminal ≡ the.Open → b.terminal ≡ the.Close → ArgsOf (a ∷ b ∷ []) []
    args : (a b : Lexeme) {w : Word} {ms : List Modifier} → a.terminal ≡ the.Open → ArgList w ms → b.terminal ≡ the.Close → ArgsOf (a ∷ (w ++ b ∷ [])) ms

  -- arg { "," arg }
  pub data ArgList : Word → List Modifier → Type 0 where
    one_arg : {w : Word} {m : Modifier} → ArgOf w m → ArgList w (m ∷ [])
    more_args : {v w : Word} (t : Lexeme) {ms : List Modifier} {m : Modifier} → ArgList v ms → t.terminal ≡ the.Comma → ArgOf w m → ArgList (v ++ t ∷ w) (ms ++ m ∷ [])

  -- [ args ]
  pub data OptionalArgs : Word → Option (List Modifier) → Type 0 where
    without_args : OptionalArgs [] None
    with_args : {w : Word} {ms : List Modifier} → ArgsOf w ms → OptionalArgs w (Some ms)

  -- arg = [ "each" ] [ "final" ] IDENT [ args ] [ "=" expr ] text
  pub data ArgOf : Word → Modifier → Type 0 where
    arg : {q r u v w : Word} (i : Lexeme) {each is_final : Bool} {ms : Option (List Modifier)} {e : Option Expr}
        → Flag the.Each q each → Flag the.Final r is_final → i.terminal ≡ the.Identifier → OptionalArgs u ms → Value v e → TextOf w
        → ArgOf (q ++ (r ++ i ∷ (u ++ (v ++ w)))) (the_modifier each is_final (the_ident i) ms e (q ++ (r ++ i ∷ (u ++ (v ++ w)))))

-- dim = ":" | expr
pub data DimOf : Word → Dim → Type 0 where
  any_size : (t : Lexeme) → t.terminal ≡ the.Colon → DimOf (t ∷ []) dim.Any
  a_size : {w : Word} {e : Expr} → ExprOf w e → DimOf w (dim.Size e)

-- dim { "," dim }
pub data DimList : Word → List Dim → Type 0 where
  one_dim : {w : Word} {d : Dim} → DimOf w d → DimList w (d ∷ [])
  more_dims : {v w : Word} (t : Lexeme) {ds : List Dim} {d : Dim} → DimList v ds → t.terminal ≡ the.Comma → DimOf w d → DimList (v ++ t ∷ w) (ds ++ d ∷ [])

-- [ "[" dim { "," dim } "]" ]
pub data Dims : Word → List Dim → Type 0 where
  no_dim : Dims [] []
  dims : (a b : Lexeme) {w : Word} {ds : List Dim} → a.terminal ≡ the.OpenBracket → DimList w ds → b.terminal ≡ the.CloseBracket → Dims (a ∷ (w ++ b ∷ [])) ds

-- decl = IDENT [ "[" dim { "," dim } "]" ] [ args ] [ "=" expr ] [ "if" expr ] tail
pub data DeclOf (head : Head) : Word → Item → Type 0 where
  decl : (i : Lexeme) {u v x y z : Word} {ds : List Dim} {ms : Option (List Modifier)} {e c : Option Expr}
      → i.terminal ≡ the.Identifier → Dims u ds → OptionalArgs v ms → Value x e → Condition y c → Tail z
      → DeclOf head (i ∷ (u ++ (v ++ (x ++ (y ++ z))))) (the_item head (the_ident i) ds (listed ms) e c (i ∷ (u ++ (v ++ (x ++ (y ++ z))))))

-- decl { "," decl }
pub data Decls (head : Head) : Word → List Item → Type 0 where
  one_decl : {w : Word} {x : Item} → DeclOf head w x → Decls head w (x ∷ [])
  more_decls : {v w : Word} (t : Lexeme) {xs : List Item} {x : Item} → Decls head v xs → t.terminal ≡ the.Comma → DeclOf head w x → Decls head (v ++ t ∷ w) (xs ++ x ∷ [])

-- [ "parameter" | "constant" ]
pub data PrefixOf : Word → Prefix → Type 0 where
  no_prefix : PrefixOf [] prefix.Plain
  parameter : (t : Lexeme) → t.terminal ≡ the.Parameter → PrefixOf (t ∷ []) prefix.Parameter
  constant_word : (t : Lexeme) → t.terminal ≡ the.Constant → PrefixOf (t ∷ []) prefix.Constant

abbrev pub the_head : Bool → Prefix → List Ident → Head
the_head is_final prefix class = record { is_final = is_final; prefix = prefix; class = the_name class }

-- clause = [ "final" ] [ "parameter" | "constant" ] name decl { "," decl } ";"
pub data ClauseOf : Word → List Item → Type 0 where
  clause : {u v w z : Word} (s : Lexeme) {is_final : Bool} {p : Prefix} {class : List Ident} {xs : List Item}
      → Flag the.Final u is_final → PrefixOf v p → NameOf w class → Decls (the_head is_final p class) z xs → s.terminal ≡ the.Semicolon
      → ClauseOf (u ++ (v ++ (w ++ (z ++ s ∷ [])))) xs

-- constant = [ "final" ] "constant" name decl { "," decl } ";"
pub data ConstantOf : Word → List Item → Type 0 where
  constant : {u w z : Word} (c s : Lexeme) {is_final : Bool} {class : List Ident} {xs : List Item}
      → Flag the.Final u is_final → c.terminal ≡ the.Constant → NameOf w class → Decls (the_head is_final prefix.Constant class) z xs → s.terminal ≡ the.Semicolon
      → ConstantOf (u ++ c ∷ (w ++ (z ++ s ∷ []))) xs

-- sub = ":" | expr [ ":" expr ]
pub data SubOf : Word → Sub → Type 0 where
  all_places : (t : Lexeme) → t.terminal ≡ the.Colon → SubOf (t ∷ []) sub.All
  one_place : {w : Word} {e : Expr} → ExprOf w e → SubOf w (sub.One e)
  places : {v w : Word} (t : Lexeme) {l h : Expr} → ExprOf v l → t.terminal ≡ the.Colon → ExprOf w h → SubOf (v ++ t ∷ w) (sub.Range l h)

-- sub { "," sub }
pub data SubList : Word → List Sub → Type 0 where
  one_sub : {w : Word} {s : Sub} → SubOf w s → SubList w (s ∷ [])
  more_subs : {v w : Word} (t : Lexeme) {ss : List Sub} {s : Sub} → SubList v ss → t.terminal ≡ the.Comma → SubOf w s → SubList (v ++ t ∷ w) (ss ++ s ∷ [])

-- [ "[" sub { "," sub } "]" ]
pub data Subs : Word → List Sub → Type 0 where
  no_sub : Subs [] []
  subs : (a b : Lexeme) {w : Word} {ss : List Sub} → a.terminal ≡ the.OpenBracket → SubList w ss → b.terminal ≡ the.CloseBracket → Subs (a ∷ (w ++ b ∷ [])) ss

-- part = IDENT [ "[" sub { "," sub } "]" ]
pub data PartOf : Word → Part → Type 0 where
  part : (i : Lexeme) {w : Word} {ss : List Sub} → i.terminal ≡ the.Identifier → Subs w ss → PartOf (i ∷ w) (the_part (the_ident i) ss)

-- ref = part { "." part }
pub data RefOf : Word → List Part → Type 0 where
  one_part : {w : Word} {x : Part} → PartOf w x → RefOf w (x ∷ [])
  more_parts : {v w : Word} (p : Lexeme) {xs : List Part} {x : Part} → RefOf v xs → p.terminal ≡ the.Period → PartOf w x → RefOf (v ++ p ∷ w) (xs ++ x ∷ [])

-- connect = "connect" "(" ref "," ref ")" tail ";"
pub data ConnectOf : Word → Connect → Type 0 where
  connect : (c o m e s : Lexeme) {v w z : Word} {l r : List Part} → c.terminal ≡ the.Connect → o.terminal ≡ the.Open → RefOf v l → m.terminal ≡ the.Comma → RefOf w r
      → e.terminal ≡ the.Close → Tail z → s.terminal ≡ the.Semicolon
      → ConnectOf (c ∷ o ∷ (v ++ m ∷ (w ++ e ∷ (z ++ s ∷ [])))) (the_connect (the_ref l) (the_ref r) (c ∷ o ∷ (v ++ m ∷ (w ++ e ∷ (z ++ s ∷ [])))))

mutual
  -- statement = connect | loop
  pub data StatementOf : Word → Statement → Type 0 where
    a_connect : {w : Word} {c : Connect} → ConnectOf w c → StatementOf w (statement.Connect c)
    a_loop : {w : Word} {l : Loop} → LoopOf w l → StatementOf w (statement.Loop l)

  -- loop = "for" IDENT "in" expr ":" expr "loop" { statement } "end" "for" ";"
  pub data LoopOf : Word → Loop → Type 0 where
    loop : (f i n c o e g s : Lexeme) {u v w : Word} {l h : Expr} {body : List Statement} → f.terminal ≡ the.For → i.terminal ≡ the.Identifier
        → n.terminal ≡ the.In → ExprOf u l → c.terminal ≡ the.Colon → ExprOf v h → o.terminal ≡ the.Loop → Body w body → e.terminal ≡ the.End
        → g.terminal ≡ the.For → s.terminal ≡ the.Semicolon
        → LoopOf (f ∷ i ∷ n ∷ (u ++ c ∷ (v ++ o ∷ (w ++ e ∷ g ∷ s ∷ []))))
        (the_loop (the_ident i) l h body (f ∷ i ∷ n ∷ (u ++ c ∷ (v ++ o ∷ (w ++ e ∷ g ∷ s ∷ [])))))

  -- { statement }
  pub data Body : Word → List Statement → Type 0 where
    no_body : Body [] []
    more_body : {v w : Word} {xs : List Statement} {x : Statement} → Body v xs → StatementOf w x → Body (v ++ w) (xs ++ x ∷ [])

-- { statement | note ";" }
pub data Statements : Word → List Statement → Type 0 where
  no_statement : Statements [] []
  then_statement : {v w : Word} {xs : List Statement} {x : Statement} → Statements v xs → StatementOf w x → Statements (v ++ w) (xs ++ x ∷ [])
  then_note : {v w : Word} (s : Lexeme) {xs : List Statement} → Statements v xs → Note w → s.terminal ≡ the.Semicolon → Statements (v ++ (w ++ s ∷ [])) xs

-- [ "equation" { statement | note ";" } ]
pub data EquationPart : Word → List Statement → Type 0 where
  no_equation : EquationPart [] []
  equation : (t : Lexeme) {w : Word} {xs : List Statement} → t.terminal ≡ the.Equation → Statements w xs → EquationPart (t ∷ w) xs

-- "public" | "protected"
abbrev pub is_section : Terminal → Bool
is_section the.Public = true
is_section the.Protected = true
is_section _ = false

-- { "public" | "protected" | note ";" | clause }
pub data BlockParts : Word → List Item → Type 0 where
  no_block_part : BlockParts [] []
  block_section : {v : Word} (t : Lexeme) {xs : List Item} → BlockParts v xs → is_section t.terminal ≡ true → BlockParts (v ++ t ∷ []) xs
  block_note : {v w : Word} (s : Lexeme) {xs : List Item} → BlockParts v xs → Note w → s.terminal ≡ the.Semicolon → BlockParts (v ++ (w ++ s ∷ [])) xs
  block_clause : {v w : Word} {xs ys : List Item} → BlockParts v xs → ClauseOf w ys → BlockParts (v ++ w) (xs ++ ys)

-- literal = IDENT tail
pub data LiteralOf : Word → Ident → Type 0 where
  literal : (i : Lexeme) {w : Word} → i.terminal ≡ the.Identifier → Tail w → LiteralOf (i ∷ w) (the_ident i)

-- literal { "," literal }
pub data Literals : Word → List Ident → Type 0 where
  one_literal : {w : Word} {i : Ident} → LiteralOf w i → Literals w (i ∷ [])
  more_literals : {v w : Word} (t : Lexeme) {is : List Ident} {i : Ident} → Literals v is → t.terminal ≡ the.Comma → LiteralOf w i → Literals (v ++ t ∷ w) (is ++ i ∷ [])

-- Behind the tree of a class stand the identifiers of each block and package in it, its own one last.
mutual
  -- class = "block" IDENT text { "public" | "protected" | note ";" | clause }
  --         [ "equation" { statement | note ";" } ] "end" IDENT
  --       | "package" IDENT text { "public" | "protected" | note ";" | constant | class ";" } "end" IDENT
  --       | "type" IDENT "=" "enumeration" "(" literal { "," literal } ")" tail
  pub data ClassOf : Word → ClassTree → List Closing → Type 0 where
    a_block : (b n e m : Lexeme) {u v w : Word} {xs : List Item} {ss : List Statement} → b.terminal ≡ the.Block → n.terminal ≡ the.Identifier → TextOf u → BlockParts v xs
        → EquationPart w ss → e.terminal ≡ the.End → m.terminal ≡ the.Identifier
        → ClassOf (b ∷ n ∷ (u ++ (v ++ (w ++ e ∷ m ∷ [])))) (the_block (the_ident n) xs ss (b ∷ n ∷ (u ++ (v ++ (w ++ e ∷ m ∷ [])))))
        (the_closing (the_ident n) (the_ident m) ∷ [])
    a_package : (p n e m : Lexeme) {u v : Word} {ts : List ClassTree} {xs : List Item} {ends : List Closing} → p.terminal ≡ the.Package → n.terminal ≡ the.Identifier
        → TextOf u → PackageParts v ts xs ends → e.terminal ≡ the.End → m.terminal ≡ the.Identifier
        → ClassOf (p ∷ n ∷ (u ++ (v ++ e ∷ m ∷ []))) (the_package (the_ident n) ts xs (p ∷ n ∷ (u ++ (v ++ e ∷ m ∷ []))))
        (ends ++ the_closing (the_ident n) (the_ident m) ∷ [])
    an_enumeration : (t n q f a b : Lexeme) {v w : Word} {is : List Ident} → t.terminal ≡ the.Type → n.terminal ≡ the.Identifier → q.terminal ≡ the.Equals
        → f.terminal ≡ the.Enumeration → a.terminal ≡ the.Open → Literals v is → b.terminal ≡ the.Close → Tail w
        → ClassOf (t ∷ n ∷ q ∷ f ∷ a ∷ (v ++ b ∷ w)) (the_enumeration (the_ident n) is (t ∷ n ∷ q ∷ f ∷ a ∷ (v ++ b ∷ w))) []

  -- { "public" | "protected" | note ";" | constant | class ";" }
  pub data PackageParts : Word → List ClassTree → List Item → List Closing → Type 0 where
    no_package_part : PackageParts [] [] [] []
    package_section : {v : Word} (t : Lexeme) {ts : List ClassTree} {xs : List Item} {ends : List Closing} → PackageParts v ts xs ends
        → is_section t.terminal ≡ true → PackageParts (v ++ t ∷ []) ts xs ends
    package_note : {v w : Word} (s : Lexeme) {ts : List ClassTree} {xs : List Item} {ends : List Closing} → PackageParts v ts xs ends
        → Note w → s.terminal ≡ the.Semicolon → PackageParts (v ++ (w ++ s ∷ [])) ts xs ends
    package_constant : {v w : Word} {ts : List ClassTree} {xs ys : List Item} {ends : List Closing} → PackageParts v ts xs ends
        → ConstantOf w ys → PackageParts (v ++ w) ts (xs ++ ys) ends
    package_class : {v w : Word} (s : Lexeme) {ts : List ClassTree} {t : ClassTree} {xs : List Item} {ends inner : List Closing} → PackageParts v ts xs ends
        → ClassOf w t inner → s.terminal ≡ the.Semicolon → PackageParts (v ++ (w ++ s ∷ [])) (ts ++ t ∷ []) xs (ends ++ inner)

-- [ "within" [ name ] ";" ]
pub data Within : Word → Option Name → Type 0 where
  no_within : Within [] None
  within_top : (t s : Lexeme) → t.terminal ≡ the.Within → s.terminal ≡ the.Semicolon → Within (t ∷ s ∷ []) None
  within : (t s : Lexeme) {w : Word} {parts : List Ident} → t.terminal ≡ the.Within → NameOf w parts → s.terminal ≡ the.Semicolon
      → Within (t ∷ (w ++ s ∷ [])) (Some (the_name parts))

-- class ";" { class ";" }
pub data Classes : Word → List ClassTree → List Closing → Type 0 where
  one_class : {w : Word} (s : Lexeme) {t : ClassTree} {ends : List Closing} → ClassOf w t ends → s.terminal ≡ the.Semicolon → Classes (w ++ s ∷ []) (t ∷ []) ends
  more_classes : {v w : Word} (s : Lexeme) {ts : List ClassTree} {t : ClassTree} {ends inner : List Closing} → Classes v ts ends → ClassOf w t inner
      → s.terminal ≡ the.Semicolon → Classes (v ++ (w ++ s ∷ [])) (ts ++ t ∷ []) (ends ++ inner)

-- file = [ "within" [ name ] ";" ] class ";" { class ";" }
pub data FileOf : Word → FileTree → List Closing → Type 0 where
  file : {v w : Word} {within : Option Name} {ts : List ClassTree} {ends : List Closing} → Within v within → Classes w ts ends
      → FileOf (v ++ w) (the_file within ts) ends

-- The identifier behind `end` is that of its block or package.
abbrev pub IsClosed : Closing → Type 0
IsClosed c = c.end.text ≡ c.name.text

-- The word is derived from `file`, with this tree.
abbrev pub Sentence : Word → FileTree → Type 0
Sentence w t = (ends : List Closing) × FileOf w t ends

-- The word is the front of one that is derived from `file`.
abbrev pub Begins : Word → Type 0
Begins w = (u : Word) × (t : FileTree) × Sentence (w ++ u) t

-- The first n tokens of w begin a file, and no longer front of w does.
pub record Longest (w : Word) (n : ℕ) : Type 0 where
  pub within : n ≤ length w
  pub begins : Begins (take n w)
  pub longest : (m : ℕ) → m ≤ length w → Begins (take m w) → m ≤ n
