-- The parser of annotations, declarations and connect statements, as a function.
use Rattle.std.specs.Prelude.{ℕ, zero, suc, Bool, true, false, if◌then◌else◌, List, [], Option, Some, None, Ok, Err}
use Rattle.cdl_tree.specs.declared.terminal.Terminal.{Terminal}
use Rattle.cdl_tree.specs.declared.terminal.Terminal.TheVariants as the
use Rattle.cdl_tree.specs.declared.class.Prefix.{Prefix}
use Rattle.cdl_tree.specs.declared.class.Prefix.TheVariants as prefix
use Rattle.cdl_tree.specs.declared.class.Dim.{Dim}
use Rattle.cdl_tree.specs.declared.class.Dim.TheVariants as dim
use Rattle.cdl_tree.specs.declared.class.Item.{Item}
use Rattle.cdl_tree.specs.declared.class.Part.{Part}
use Rattle.cdl_tree.specs.declared.class.Sub.{Sub}
use Rattle.cdl_tree.specs.declared.class.Sub.TheVariants as sub
use Rattle.cdl_tree.specs.declared.class.Connect.{Connect}
use Rattle.cdl_tree.specs.Grammar.{partner, is_plain, the_head}
use Rattle.cdl_tree.specs.Trees.{listed, Head, the_item, the_part, the_ref, the_connect}
use Rattle.cdl_reading.specs.Reading.{Parser, ◌>>=◌, ◌>>◌, pure, terminal, next, peek, here, skip, ahead, eat, expect, ident, made, list}
use Rattle.cdl_expressions.specs.Expressions.{name, expr}
use Rattle.cdl_expressions.specs.Arguments.{text_of, optional, optional_args, args}

-- ---- annotations

-- no closing bracket and not the end
abbrev pub begins_balanced : Terminal → Bool
begins_balanced the.Close = false
begins_balanced the.CloseBracket = false
begins_balanced the.CloseBrace = false
begins_balanced the.Nothing = false
begins_balanced _ = true

-- a token that is no bracket
unfoldable pub plain : Parser (Unit {0})
plain = λ i. if is_plain (terminal i) then Ok (tt, next i) else Err i

module _ (inner : Parser (Unit {0})) where
  abbrev pub balanced_by : Option Terminal → Parser (Unit {0})
  balanced_by (Some closer) = do
    skip
    inner
    expect closer
  balanced_by None = plain

  -- a token, or brackets and what they enclose
  unfoldable pub balanced_part : Parser (Unit {0})
  balanced_part = peek >>= (λ terminal. balanced_by (partner terminal))

  unfoldable pub balanced_from : ℕ → Parser (Unit {0})
  balanced_from zero = pure tt
  balanced_from (suc turns) = do
    terminal ← peek
    if begins_balanced terminal then (do balanced_part; balanced_from turns) else pure tt

-- balanced tokens that nest no deeper than the number
unfoldable pub balanced : ℕ → Parser (Unit {0})
balanced zero = pure tt
balanced (suc depth) = balanced_from (balanced depth) (suc depth)

unfoldable pub note : ℕ → Parser (Unit {0})
note most = do
  expect the.Annotation
  expect the.Open
  balanced most
  expect the.Close

unfoldable pub note_clause : ℕ → Parser (Unit {0})
note_clause most = do
  note most
  expect the.Semicolon

unfoldable pub tail : ℕ → Parser (Unit {0})
tail most = do
  text_of most
  some ← ahead the.Annotation
  if some then note most else pure tt

-- ---- declarations

unfoldable pub prefix_of : Parser Prefix
prefix_of = do
  parameter ← eat the.Parameter
  if parameter then pure prefix.Parameter else (do constant ← eat the.Constant; if constant then pure prefix.Constant else pure prefix.Plain)

module _ (most : ℕ) where
  unfoldable pub dim_of : Parser Dim
  dim_of = do
    any ← eat the.Colon
    if any then pure dim.Any else (do e ← expr most; pure (dim.Size e))

  unfoldable pub dim_list : Parser (List Dim)
  dim_list = list the.Comma dim_of most []

  unfoldable pub dims : Parser (List Dim)
  dims = do
    some ← eat the.OpenBracket
    if some then (do ds ← dim_list; expect the.CloseBracket; pure ds) else pure []

  unfoldable pub decl : Head → Parser Item
  decl head = do
    start ← here
    name ← ident
    ds ← dims
    ms ← optional_args (args most)
    value ← optional the.Equals most
    condition ← optional the.If most
    tail most
    made (the_item head name ds (listed ms) value condition) start

  unfoldable pub decls : Head → List Item → Parser (List Item)
  decls head found = list the.Comma (decl head) most found

  -- the items of a clause, behind those that are found
  unfoldable pub clause : List Item → Parser (List Item)
  clause found = do
    is_final ← eat the.Final
    p ← prefix_of
    class ← name most
    xs ← decls (the_head is_final p class) found
    expect the.Semicolon
    pure xs

  unfoldable pub constant : List Item → Parser (List Item)
  constant found = do
    is_final ← eat the.Final
    expect the.Constant
    class ← name most
    xs ← decls (the_head is_final prefix.Constant class) found
    expect the.Semicolon
    pure xs

  -- ---- connect statements

  unfoldable pub sub_of : Parser Sub
  sub_of = do
    all ← eat the.Colon
    if all then pure sub.All else (do
      low ← expr most
      ranged ← eat the.Colon
      if ranged then (do high ← expr most; pure (sub.Range low high)) else pure (sub.One low))

  unfoldable pub sub_list : Parser (List Sub)
  sub_list = list the.Comma sub_of most []

  unfoldable pub subs : Parser (List Sub)
  subs = do
    some ← eat the.OpenBracket
    if some then (do ss ← sub_list; expect the.CloseBracket; pure ss) else pure []

  unfoldable pub part : Parser Part
  part = do
    name ← ident
    ss ← subs
    pure (the_part name ss)

  unfoldable pub reference : Parser (List Part)
  reference = list the.Period part most []

  unfoldable pub connect : Parser Connect
  connect = do
    start ← here
    expect the.Connect
    expect the.Open
    left ← reference
    expect the.Comma
    right ← reference
    expect the.Close
    tail most
    expect the.Semicolon
    made (the_connect (the_ref left) (the_ref right)) start
