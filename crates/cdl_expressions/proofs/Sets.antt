-- The terminals with which words begin, and those that may follow them.
use Rattle.std.proofs.Common.{List, [], ◌∷◌, ◌++◌}
use Rattle.cdl_tree.specs.declared.terminal.Terminal.{Terminal}
use Rattle.cdl_tree.specs.declared.terminal.Terminal.TheVariants as the

abbrev pub prims : List Terminal
prims = the.Integer ∷ the.Real ∷ the.Str ∷ the.True ∷ the.False ∷ the.Open ∷ the.OpenBrace ∷ the.Identifier ∷ []

abbrev pub sums : List Terminal
sums = the.Plus ∷ the.Minus ∷ prims

abbrev pub lnots : List Terminal
lnots = the.Not ∷ sums

abbrev pub exprs : List Terminal
exprs = the.If ∷ lnots

abbrev pub after_expr : List Terminal
after_expr =
    the.Then ∷ the.ElseIf ∷ the.Else ∷ the.Close ∷ the.Comma ∷ the.CloseBrace ∷ the.CloseBracket ∷ the.Colon ∷ the.Loop ∷ the.Semicolon ∷ the.If ∷ the.Str ∷ the.Annotation ∷ []

abbrev pub after_land : List Terminal
after_land = the.Or ∷ after_expr

abbrev pub after_lnot : List Terminal
after_lnot = the.And ∷ after_land

abbrev pub comparisons : List Terminal
comparisons = the.Less ∷ the.LessEqual ∷ the.Greater ∷ the.GreaterEqual ∷ the.EqualEqual ∷ the.NotEqual ∷ []

abbrev pub after_sum : List Terminal
after_sum = comparisons ++ after_lnot

abbrev pub after_term : List Terminal
after_term = the.Plus ∷ the.Minus ∷ after_sum

abbrev pub after_prim : List Terminal
after_prim = the.Star ∷ the.Slash ∷ after_term

-- what closes a list of expressions
abbrev pub closers : List Terminal
closers = the.Close ∷ the.CloseBrace ∷ the.CloseBracket ∷ []

abbrev pub after_name : List Terminal
after_name = the.Identifier ∷ the.Semicolon ∷ []

abbrev pub after_tail : List Terminal
after_tail = the.Comma ∷ the.Semicolon ∷ the.Close ∷ []

abbrev pub after_condition : List Terminal
after_condition = the.Str ∷ the.Annotation ∷ after_tail

abbrev pub after_value : List Terminal
after_value = the.If ∷ after_condition

abbrev pub after_args : List Terminal
after_args = the.Equals ∷ after_value

abbrev pub after_dims : List Terminal
after_dims = the.Open ∷ after_args

abbrev pub after_arg : List Terminal
after_arg = the.Comma ∷ the.Close ∷ []

abbrev pub plains : List Terminal
plains =
    the.Identifier ∷ the.Integer ∷ the.Real ∷ the.Str ∷ the.Within ∷ the.Block ∷ the.Package ∷ the.Type ∷ the.Enumeration ∷ the.Public ∷ the.Protected ∷ the.Equation
    ∷ the.End ∷ the.Annotation ∷ the.Final ∷ the.Parameter ∷ the.Constant ∷ the.Each ∷ the.Connect ∷ the.For ∷ the.In ∷ the.Loop ∷ the.If ∷ the.Then ∷ the.ElseIf ∷ the.Else ∷ the.Or ∷ the.And ∷ the.Not
    ∷ the.True ∷ the.False ∷ the.Semicolon ∷ the.Comma ∷ the.Period ∷ the.Colon ∷ the.Equals ∷ the.Plus ∷ the.Minus ∷ the.Star ∷ the.Slash ∷ the.Less ∷ the.LessEqual
    ∷ the.Greater ∷ the.GreaterEqual ∷ the.EqualEqual ∷ the.NotEqual ∷ the.Other ∷ []

abbrev pub openers : List Terminal
openers = the.Open ∷ the.OpenBracket ∷ the.OpenBrace ∷ []

abbrev pub balanceds : List Terminal
balanceds = openers ++ plains
