-- The parser of texts and arguments, as a function.
use Rattle.std.specs.Prelude.{ℕ, zero, suc, if◌then◌else◌, List, [], Option, Some, None}
use Rattle.cdl_tree.specs.declared.terminal.Terminal.{Terminal}
use Rattle.cdl_tree.specs.declared.terminal.Terminal.TheVariants as the
use Rattle.cdl_tree.specs.declared.expr.Expr.{Expr}
use Rattle.cdl_tree.specs.declared.class.Modifier.{Modifier}
use Rattle.cdl_tree.specs.Trees.{the_modifier}
use Rattle.cdl_reading.specs.Reading.{Parser, ◌>>=◌, ◌>>◌, pure, refuse, here, ahead, eat, expect, ident, made, list}
use Rattle.cdl_expressions.specs.Expressions.{expr}

-- ---- texts

unfoldable pub strings_from : ℕ → Parser (Unit {0})
strings_from zero = pure tt
strings_from (suc turns) = do
  more ← eat the.Plus
  if more then (do expect the.Str; strings_from turns) else pure tt

unfoldable pub text_of : ℕ → Parser (Unit {0})
text_of most = do
  some ← eat the.Str
  if some then strings_from most else pure tt

-- ---- arguments

-- an expression behind a word or a symbol, where it stands
unfoldable pub optional : Terminal → ℕ → Parser (Option Expr)
optional terminal most = do
  some ← eat terminal
  if some then (do e ← expr most; pure (Some e)) else pure None

unfoldable pub optional_args : Parser (List Modifier) → Parser (Option (List Modifier))
optional_args whole = do
  some ← ahead the.Open
  if some then (do ms ← whole; pure (Some ms)) else pure None

module _ (depth : ℕ) (whole : Parser (List Modifier)) where
  unfoldable pub arg : Parser Modifier
  arg = do
    start ← here
    each ← eat the.Each
    is_final ← eat the.Final
    name ← ident
    args ← optional_args whole
    value ← optional the.Equals depth
    text_of depth
    made (the_modifier each is_final name args value) start

  unfoldable pub arg_list : Parser (List Modifier)
  arg_list = list the.Comma arg depth []

  unfoldable pub arguments : Parser (List Modifier)
  arguments = do
    expect the.Open
    empty ← eat the.Close
    if empty then pure [] else (do ms ← arg_list; expect the.Close; pure ms)

-- arguments that nest no deeper than the number
unfoldable pub args : ℕ → Parser (List Modifier)
args zero = refuse
args (suc depth) = arguments depth (args depth)
