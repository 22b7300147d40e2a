-- The tokens and trees of the small texts, written shortly.
use Rattle.std.proofs.Common.{ℕ, pos, Bool, List, [], ◌∷◌, Option, refl, codes}
use Rattle.cdl_source.specs.declared.place.TokenSort.TheVariants as sort
use Rattle.cdl_source.specs.declared.place.Span.{Span}
use Rattle.cdl_source.specs.declared.place.Token.{Token}
use Rattle.cdl_tree.specs.declared.name.Ident.{Ident}
use Rattle.cdl_tree.specs.declared.expr.Expr.{Expr, roll-Expr}
use Rattle.cdl_tree.specs.declared.expr.Node.{Node}
use Rattle.cdl_tree.specs.declared.expr.Node.TheVariants as node
use Rattle.cdl_tree.specs.declared.class.Modifier.{Modifier, roll-Modifier}
use Rattle.cdl_tree.specs.declared.class.Item.{Item}
use Rattle.cdl_tree.specs.declared.class.Part.{Part}
use Rattle.cdl_tree.specs.declared.class.Connect.{Connect}
use Rattle.cdl_tree.specs.declared.class.Statement.{Statement}
use Rattle.cdl_tree.specs.declared.class.Loop.{Loop, roll-Loop}
use Rattle.cdl_tree.specs.Words.{Word}
use Rattle.cdl_tree.specs.declared.class.Prefix.{Prefix}
use Rattle.cdl_tree.specs.declared.class.Dim.{Dim}
use Rattle.cdl_tree.specs.Grammar.{ExprOf, logical, one_land, one_lnot, as_it_is, one_sum, one_term, Prim, one_prim}
use Rattle.cdl_decimal.specs.Near.{near}
use Rattle.cdl_decimal.specs.Split.{split, count_of, parse_of}
use Rattle.cdl_tree.specs.Literals.{IsReal}
use Rattle.cdl_tree.proofs.Reals.{real_is}

abbrev pub span : ℕ → ℕ → Span
span a b = record { start = a; end = b }

-- tokens by their sort, their first byte and the one behind their last: identifiers, keywords, symbols, numbers, strings
abbrev pub i : ℕ → ℕ → Token
i a b = record { sort = sort.Identifier; span = span a b }

abbrev pub k : ℕ → ℕ → Token
k a b = record { sort = sort.Keyword; span = span a b }

abbrev pub s : ℕ → ℕ → Token
s a b = record { sort = sort.Symbol; span = span a b }

abbrev pub n : ℕ → ℕ → Token
n a b = record { sort = sort.Integer; span = span a b }

abbrev pub r : ℕ → ℕ → Token
r a b = record { sort = sort.Real; span = span a b }

abbrev pub q : ℕ → ℕ → Token
q a b = record { sort = sort.Str; span = span a b }

abbrev pub ident : List ℕ → ℕ → ℕ → Ident
ident text a b = record { text = text; span = span a b }

abbrev pub spanned : Node → ℕ → ℕ → Expr
spanned node a b = roll-Expr (record { node = node; span = span a b })

-- a name of one identifier
abbrev pub named : List ℕ → ℕ → ℕ → Expr
named text a b = spanned (node.Refer (record { parts = ident text a b ∷ [] }) []) a b

abbrev pub modifier : Bool → Bool → Ident → Option (List Modifier) → Option Expr → ℕ → ℕ → Modifier
modifier each is_final name args value a b =
    roll-Modifier (record { each = each; is_final = is_final; name = name; args = args; value = value; span = span a b })

abbrev pub declared : Prefix → Bool → List Ident → Ident → List Dim → List Modifier → Option Expr → Option Expr → ℕ → ℕ → Item
declared prefix is_final class name dims args value condition a b =
    record {
      prefix = prefix;
      is_final = is_final;
      class = record { parts = class };
      name = name;
      dims = dims;
      args = args;
      value = value;
      condition = condition;
      span = span a b;
    }

abbrev pub wire : List Part → List Part → ℕ → ℕ → Connect
wire left right a b = record { left = record { parts = left }; right = record { parts = right }; span = span a b }

abbrev pub turns : Ident → Expr → Expr → List Statement → ℕ → ℕ → Loop
turns index low high body a b = roll-Loop (record { index = index; low = low; high = high; body = body; span = span a b })

-- an operand alone as an expression
abbrev pub operand : {w : Word} {e : Expr} → Prim w e → ExprOf w e
operand p = logical (one_land (one_lnot (as_it_is (one_sum (one_term (one_prim p))))))

-- 25, in millionths
pub twenty_five : IsReal (codes "2.5e1") (pos 25000000)
unfolding parse_of split count_of near
twenty_five = real_is (codes "2.5e1") (pos 25000000) refl
