use Rattle.std.proofs.Common.{refl, ◌∷◌, reverse, take, get_or, subst, arith}
use Rattle.cdl_source.specs.declared.place.TokenSort.TheVariants.{Identifier}
use Rattle.cdl_source.specs.declared.place.Token.{Token}
use Rattle.cdl_lex.specs.Limits.{IsTooDeep}
use Rattle.cdl_lex.proofs.AtTokens.{none_yet, none_more, found_at, none_of_all}
use Rattle.cdl_lex.proofs.Nested.{IsDepth, turned, depth_next, is_too_deep, not_too_deep}
use Rattle.cdl_lex.proofs.depth.too_deep.Goals as goal

abbrev no_token : Token
no_token = record { sort = Identifier; span = record { start = 0; end = 0 } }

pub loop-token-init : goal.loop-token-init
loop-token-init c =
    record { state = record { brackets_are = refl; classes_are = refl; end_is = refl }; small = omega arith; none = none_yet (IsTooDeep c.args.bytes.now) }

pub returns-then-depth-gt-DEEPEST_NESTING : goal.returns-then-depth-gt-DEEPEST_NESTING
returns-then-depth-gt-DEEPEST_NESTING c =
    let before = take c.loop-token.token-index c.args.tokens.now in
    let t : Token = get_or c.args.tokens.now c.loop-token.token-index no_token in
    let next : IsDepth c.args.bytes.now (t ∷ reverse before) c.behind-depth.result =
    depth_next c.args.bytes.now (reverse before) t c.loop-token.depth c.behind-depth.result c.role_of.result c.loop-token.invariant.state c.role_of.ensures c.behind-depth.ensures.brackets
    c.behind-depth.ensures.classes c.behind-depth.ensures.follows_end in
    found_at (IsTooDeep c.args.bytes.now) c.args.tokens.now c.loop-token.token-index no_token c.requires.rise c.loop-token-test.true c.loop-token.invariant.none
    (is_too_deep c.args.bytes.now before t c.loop-token.depth c.behind-depth.result c.loop-token.invariant.state next c.loop-token.invariant.small c.if-depth-gt-DEEPEST_NESTING.true)

pub loop-token-preserved : goal.loop-token-preserved
loop-token-preserved c =
    let before = take c.loop-token.token-index c.args.tokens.now in
    let t : Token = get_or c.args.tokens.now c.loop-token.token-index no_token in
    let next : IsDepth c.args.bytes.now (t ∷ reverse before) c.behind-depth.result =
    depth_next c.args.bytes.now (reverse before) t c.loop-token.depth c.behind-depth.result c.role_of.result c.loop-token.invariant.state c.role_of.ensures c.behind-depth.ensures.brackets
    c.behind-depth.ensures.classes c.behind-depth.ensures.follows_end in
    record {
      state = subst (λ z. IsDepth c.args.bytes.now z c.behind-depth.result) (turned c.args.tokens.now c.loop-token.token-index no_token c.loop-token-test.true) next;
      small = c.if-depth-gt-DEEPEST_NESTING.false;
      none = none_more (IsTooDeep c.args.bytes.now) c.args.tokens.now c.loop-token.token-index no_token c.loop-token-test.true c.loop-token.invariant.none
          (not_too_deep c.args.bytes.now before t c.behind-depth.result next c.if-depth-gt-DEEPEST_NESTING.false);
    }

pub returns : goal.returns
returns c = none_of_all (IsTooDeep c.args.bytes.now) c.args.tokens.now c.loop-token.token-index c.loop-token-test.false c.loop-token.invariant.none
