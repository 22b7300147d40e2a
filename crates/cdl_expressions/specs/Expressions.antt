-- The parser of names and expressions, as a function. The number bounds how deep expressions nest and how long lists are;
-- the count of tokens is enough.
use Rattle.std.specs.Prelude.{ℕ, zero, suc, true, false, if◌then◌else◌, List, [], ◌∷◌, Option, Some, None}
use Rattle.cdl_tree.specs.declared.terminal.Terminal.{Terminal}
use Rattle.cdl_tree.specs.declared.terminal.Terminal.TheVariants as the
use Rattle.cdl_tree.specs.declared.name.Ident.{Ident}
use Rattle.cdl_tree.specs.declared.expr.Op.{Op}
use Rattle.cdl_tree.specs.declared.expr.Op.TheVariants as op
use Rattle.cdl_tree.specs.declared.expr.Expr.{Expr}
use Rattle.cdl_tree.specs.declared.expr.Node.TheVariants as node
use Rattle.cdl_tree.specs.Words.{Word}
use Rattle.cdl_tree.specs.Literals.{integer_of}
use Rattle.cdl_tree.specs.inner.Strings.{string_of}
use Rattle.cdl_tree.specs.Trees.{the_name, comparison, sign, factor, tree}
use Rattle.cdl_reading.specs.Reading.{Parser, ◌>>=◌, ◌>>◌, pure, refuse, peek, here, skip, eat, expect, ident, literal, real_of, made, list, list_from}

unfoldable pub name : ℕ → Parser (List Ident)
name most = list the.Period ident most []

-- the operators of the two lowest levels
abbrev pub disjunction : Terminal → Option Op
disjunction the.Or = Some op.Or
disjunction _ = None

abbrev pub conjunction : Terminal → Option Op
conjunction the.And = Some op.And
conjunction _ = None

-- operators of one level, which group to the left
module _ (operator : Terminal → Option Op) (operand : Parser Expr) where
  unfoldable pub grouped_by : (Expr → Parser Expr) → Word → Expr → Option Op → Parser Expr
  grouped_by go start left None = pure left
  grouped_by go start left (Some o) = do
    skip
    right ← operand
    longer ← made (tree (node.Binary o left right)) start
    go longer

  unfoldable pub grouped_from : ℕ → Word → Expr → Parser Expr
  grouped_from zero start left = pure left
  grouped_from (suc turns) start left = peek >>= (λ terminal. grouped_by (grouped_from turns start) start left (operator terminal))

module _ (depth : ℕ) (whole : Parser Expr) where
  unfoldable pub exprs : Parser (List Expr)
  exprs = list the.Comma whole depth []

  -- ---- primaries

  unfoldable pub integer : Parser Expr
  integer = do
    start ← here
    z ← literal the.Integer integer_of
    made (tree (node.Integer z)) start

  unfoldable pub real : Parser Expr
  real = do
    start ← here
    q ← literal the.Real real_of
    made (tree (node.Real q)) start

  unfoldable pub string : Parser Expr
  string = do
    start ← here
    s ← literal the.Str string_of
    made (tree (node.Str s)) start

  unfoldable pub true_word : Parser Expr
  true_word = do
    start ← here
    expect the.True
    made (tree (node.Boolean true)) start

  unfoldable pub false_word : Parser Expr
  false_word = do
    start ← here
    expect the.False
    made (tree (node.Boolean false)) start

  unfoldable pub paren : Parser Expr
  paren = do
    expect the.Open
    e ← whole
    expect the.Close
    pure e

  unfoldable pub array : Parser Expr
  array = do
    start ← here
    expect the.OpenBrace
    es ← exprs
    expect the.CloseBrace
    made (tree (node.Array es)) start

  -- the operands of a call behind its parenthesis, with the one that closes it
  unfoldable pub operands : Parser (List Expr)
  operands = do
    empty ← eat the.Close
    if empty then pure [] else (do es ← exprs; expect the.Close; pure es)

  unfoldable pub subscripts : Parser (List Expr)
  subscripts = do
    some ← eat the.OpenBracket
    if some then (do es ← exprs; expect the.CloseBracket; pure es) else pure []

  unfoldable pub call : Ident → Word → Parser Expr
  call function start = do
    es ← operands
    made (tree (node.Call function es)) start

  unfoldable pub refer : Ident → Word → Parser Expr
  refer first start = do
    parts ← list_from the.Period ident depth (first ∷ [])
    es ← subscripts
    made (tree (node.Refer (the_name parts) es)) start

  unfoldable pub named : Parser Expr
  named = do
    start ← here
    first ← ident
    is_call ← eat the.Open
    if is_call then call first start else refer first start

  abbrev pub prim_by : Terminal → Parser Expr
  prim_by the.Integer = integer
  prim_by the.Real = real
  prim_by the.Str = string
  prim_by the.True = true_word
  prim_by the.False = false_word
  prim_by the.Open = paren
  prim_by the.OpenBrace = array
  prim_by the.Identifier = named
  prim_by _ = refuse

  unfoldable pub prim : Parser Expr
  prim = peek >>= prim_by

  -- ---- operators

  unfoldable pub term : Parser Expr
  term = do
    start ← here
    first ← prim
    grouped_from factor prim depth start first

  abbrev pub signed_by : Word → Option Op → Parser Expr
  signed_by start None = term
  signed_by start (Some o) = do
    skip
    e ← term
    made (tree (node.Unary o e)) start

  unfoldable pub signed : Parser Expr
  signed = do
    start ← here
    terminal ← peek
    signed_by start (sign terminal)

  unfoldable pub sum : Parser Expr
  sum = do
    start ← here
    first ← signed
    grouped_from sign term depth start first

  abbrev pub rel_by : Word → Expr → Option Op → Parser Expr
  rel_by start left None = pure left
  rel_by start left (Some o) = do
    skip
    right ← sum
    made (tree (node.Binary o left right)) start

  unfoldable pub rel : Parser Expr
  rel = do
    start ← here
    left ← sum
    terminal ← peek
    rel_by start left (comparison terminal)

  unfoldable pub lnot : Parser Expr
  lnot = do
    start ← here
    negated ← eat the.Not
    if negated then (do e ← rel; made (tree (node.Unary op.Not e)) start) else rel

  unfoldable pub land : Parser Expr
  land = do
    start ← here
    first ← lnot
    grouped_from conjunction lnot depth start first

  unfoldable pub lor : Parser Expr
  lor = do
    start ← here
    first ← land
    grouped_from disjunction land depth start first

  -- ---- conditions

  -- behind "if" or "elseif"
  unfoldable pub choice : Parser Expr → Word → Parser Expr
  choice otherwise start = do
    condition ← whole
    expect the.Then
    holds ← whole
    fails ← otherwise
    made (tree (node.If condition holds fails)) start

  unfoldable pub otherwise_by : Parser Expr → Parser Expr
  otherwise_by go = do
    start ← here
    again ← eat the.ElseIf
    if again then choice go start else (do expect the.Else; whole)

  unfoldable pub otherwise : ℕ → Parser Expr
  otherwise zero = refuse
  otherwise (suc turns) = otherwise_by (otherwise turns)

  unfoldable pub conditional : Parser Expr
  conditional = do
    start ← here
    is_choice ← eat the.If
    if is_choice then choice (otherwise depth) start else lor

-- expressions that nest no deeper than the number
unfoldable pub expr : ℕ → Parser Expr
expr zero = refuse
expr (suc depth) = conditional depth (expr depth)
