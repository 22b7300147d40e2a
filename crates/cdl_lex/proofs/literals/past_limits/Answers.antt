use Rattle.std.proofs.Common.{subst, sym, true, false, ◌≡◌, ◌∙◌, get_or}
use Rattle.cdl_source.specs.declared.place.TokenSort.TheVariants.{Identifier}
use Rattle.cdl_source.specs.declared.place.Token.{Token}
use Rattle.cdl_lex.specs.Limits.{IsPast, IsPastLimits}
use Rattle.cdl_lex.proofs.AtTokens.{none_yet, none_more, found_at, none_of_all}
use Rattle.cdl_lex.proofs.literals.past_limits.Goals as goal

abbrev no_token : Token
no_token = record { sort = Identifier; span = record { start = 0; end = 0 } }

pub loop-token-init : goal.loop-token-init
loop-token-init c = none_yet _

pub returns-then-is_past : goal.returns-then-is_past
returns-then-is_past c =
    found_at (λ before t. IsPastLimits c.args.bytes.now t) c.args.tokens.now c.loop-token.token-index no_token c.requires.rise c.loop-token-test.true c.loop-token.invariant
    (subst (IsPast (get_or c.args.tokens.now c.loop-token.token-index no_token).sort) c.text_of.ensures (c.is_past.ensures.0 c.if-is_past.true))

pub loop-token-preserved : goal.loop-token-preserved
loop-token-preserved c =
    none_more (λ before t. IsPastLimits c.args.bytes.now t) c.args.tokens.now c.loop-token.token-index no_token c.loop-token-test.true c.loop-token.invariant
    (λ p. let past = c.is_past.ensures.1 (subst (IsPast (get_or c.args.tokens.now c.loop-token.token-index no_token).sort) (sym c.text_of.ensures) p) in
    let never : true ≡ false = sym past ∙ c.if-is_past.false in cc)

pub returns : goal.returns
returns c = none_of_all (λ before t. IsPastLimits c.args.bytes.now t) c.args.tokens.now c.loop-token.token-index c.loop-token-test.false c.loop-token.invariant
