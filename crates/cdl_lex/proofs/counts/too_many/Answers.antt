use Rattle.std.proofs.Common.{refl, ◌∷◌, reverse, take, get_or, subst, arith}
use Rattle.cdl_source.specs.declared.place.TokenSort.TheVariants.{Identifier}
use Rattle.cdl_source.specs.declared.place.Token.{Token}
use Rattle.cdl_lex.specs.Limits.{IsTooMany}
use Rattle.cdl_lex.proofs.AtTokens.{none_yet, none_more, found_at, none_of_all}
use Rattle.cdl_lex.proofs.Nested.{AreCounts, turned, counts_next, has_many_ifs, has_many_operators, has_few}
use Rattle.cdl_lex.proofs.counts.too_many.Goals as goal
use Rattle.cdl_lex.proofs.counts.too_many.Goals.{then-counts-gt-MOST_IFS-via-then-counts-gt-MOST_IFS, then-counts-gt-MOST_IFS-via-else-counts-gt-MOST_IFS+then-counts-gt-MOST_OPERATORS}

abbrev no_token : Token
no_token = record { sort = Identifier; span = record { start = 0; end = 0 } }

pub loop-token-init : goal.loop-token-init
loop-token-init c = record {
  state = record { ifs_are = refl; operators_are = refl; lead_is = refl };
  few_ifs = omega arith;
  few_operators = omega arith;
  none = none_yet (IsTooMany c.args.bytes.now);
}

pub returns-then-counts-gt-MOST_IFS : goal.returns-then-counts-gt-MOST_IFS
returns-then-counts-gt-MOST_IFS c =
    let before = take c.loop-token.token-index c.args.tokens.now in
    let t : Token = get_or c.args.tokens.now c.loop-token.token-index no_token in
    let next : AreCounts c.args.bytes.now (t ∷ reverse before) c.behind-counts.result =
    counts_next c.args.bytes.now (reverse before) t c.loop-token.counts c.behind-counts.result c.role_of.result c.loop-token.invariant.state c.role_of.ensures c.behind-counts.ensures.ifs
    c.behind-counts.ensures.operators c.behind-counts.ensures.follows_lead in
    let many : IsTooMany c.args.bytes.now before t =
    elim c.then-counts-gt-MOST_IFS.branch [
      | then-counts-gt-MOST_IFS-via-then-counts-gt-MOST_IFS w ↦
          has_many_ifs c.args.bytes.now before t c.loop-token.counts c.behind-counts.result c.loop-token.invariant.state next c.loop-token.invariant.few_ifs w.if-counts-gt-MOST_IFS.true
      | then-counts-gt-MOST_IFS-via-else-counts-gt-MOST_IFS+then-counts-gt-MOST_OPERATORS w ↦
          has_many_operators c.args.bytes.now before t c.loop-token.counts c.behind-counts.result c.loop-token.invariant.state next c.loop-token.invariant.few_operators
          w.if-counts-gt-MOST_OPERATORS.true
    ] in
    found_at (IsTooMany c.args.bytes.now) c.args.tokens.now c.loop-token.token-index no_token c.requires.rise c.loop-token-test.true c.loop-token.invariant.none many

pub loop-token-preserved : goal.loop-token-preserved
loop-token-preserved c =
    let before = take c.loop-token.token-index c.args.tokens.now in
    let t : Token = get_or c.args.tokens.now c.loop-token.token-index no_token in
    let next : AreCounts c.args.bytes.now (t ∷ reverse before) c.behind-counts.result =
    counts_next c.args.bytes.now (reverse before) t c.loop-token.counts c.behind-counts.result c.role_of.result c.loop-token.invariant.state c.role_of.ensures c.behind-counts.ensures.ifs
    c.behind-counts.ensures.operators c.behind-counts.ensures.follows_lead in
    record {
      state = subst (λ z. AreCounts c.args.bytes.now z c.behind-counts.result) (turned c.args.tokens.now c.loop-token.token-index no_token c.loop-token-test.true) next;
      few_ifs = c.if-counts-gt-MOST_IFS.false;
      few_operators = c.if-counts-gt-MOST_OPERATORS.false;
      none = none_more (IsTooMany c.args.bytes.now) c.args.tokens.now c.loop-token.token-index no_token c.loop-token-test.true c.loop-token.invariant.none
          (has_few c.args.bytes.now before t c.behind-counts.result next c.if-counts-gt-MOST_IFS.false c.if-counts-gt-MOST_OPERATORS.false);
    }

pub returns : goal.returns
returns c = none_of_all (IsTooMany c.args.bytes.now) c.args.tokens.now c.loop-token.token-index c.loop-token-test.false c.loop-token.invariant.none
