-- The parser of statements, as a function.
use Rattle.std.specs.Prelude.{ℕ, zero, suc, Bool, true, false, if◌then◌else◌, List, [], ◌∷◌, ◌++◌}
use Rattle.cdl_tree.specs.declared.terminal.Terminal.{Terminal}
use Rattle.cdl_tree.specs.declared.terminal.Terminal.TheVariants as the
use Rattle.cdl_tree.specs.declared.name.Ident.{Ident}
use Rattle.cdl_tree.specs.declared.expr.Expr.{Expr}
use Rattle.cdl_tree.specs.declared.class.Statement.{Statement}
use Rattle.cdl_tree.specs.declared.class.Statement.TheVariants as variant
use Rattle.cdl_tree.specs.declared.class.Loop.{Loop}
use Rattle.cdl_tree.specs.Trees.{the_loop}
use Rattle.cdl_clauses.specs.declared.statement.LoopHead.{LoopHead}
use Rattle.cdl_reading.specs.Reading.{Parser, ◌>>=◌, ◌>>◌, pure, refuse, peek, here, ahead, eat, expect, ident, made}
use Rattle.cdl_expressions.specs.Expressions.{expr}
use Rattle.cdl_clauses.specs.Declarations.{note_clause, connect}

abbrev pub the_head : Ident → Expr → Expr → LoopHead
the_head index low high = record { index = index; low = low; high = high }

abbrev pub begins_statement : Terminal → Bool
begins_statement the.Connect = true
begins_statement the.For = true
begins_statement _ = false

abbrev pub begins_equation : Terminal → Bool
begins_equation the.Connect = true
begins_equation the.For = true
begins_equation the.Annotation = true
begins_equation _ = false

module _ (most : ℕ) where
  unfoldable pub loop_head : Parser LoopHead
  loop_head = do
    expect the.For
    index ← ident
    expect the.In
    low ← expr most
    expect the.Colon
    high ← expr most
    expect the.Loop
    pure (the_head index low high)

  module _ (whole : Parser Statement) where
    unfoldable pub body_from : ℕ → List Statement → Parser (List Statement)
    body_from zero found = pure found
    body_from (suc turns) found = do
      terminal ← peek
      if begins_statement terminal then (do x ← whole; body_from turns (found ++ x ∷ [])) else pure found

    unfoldable pub body : Parser (List Statement)
    body = body_from most []

    unfoldable pub a_loop : Parser Loop
    a_loop = do
      start ← here
      head ← loop_head
      inner ← body
      expect the.End
      expect the.For
      expect the.Semicolon
      made (the_loop head.index head.low head.high inner) start

    unfoldable pub any_statement : Parser Statement
    any_statement = do
      is_connect ← ahead the.Connect
      if is_connect then (do c ← connect most; pure (variant.Connect c)) else (do l ← a_loop; pure (variant.Loop l))

-- statements in which loops nest no deeper than the number
unfoldable pub statement : ℕ → Parser Statement
statement zero = refuse
statement (suc depth) = any_statement depth (statement depth)

module _ (most : ℕ) where
  unfoldable pub equation : List Statement → Parser (List Statement)
  equation found = do
    is_note ← ahead the.Annotation
    if is_note then (do note_clause most; pure found) else (do x ← statement most; pure (found ++ x ∷ []))

  unfoldable pub equations_from : ℕ → List Statement → Parser (List Statement)
  equations_from zero found = pure found
  equations_from (suc turns) found = do
    terminal ← peek
    if begins_equation terminal then (do more ← equation found; equations_from turns more) else pure found

  unfoldable pub equation_part : Parser (List Statement)
  equation_part = do
    some ← eat the.Equation
    if some then equations_from most [] else pure []
