use Rattle.std.proofs.Common.{◌≤◌, length, refl, arith}
use Rattle.cdl_source.specs.declared.limits.TheConstants.{LONGEST_MODEL}
use Rattle.cdl_source.specs.declared.rules.TheConstants.{NOT_UTF8, NO_TOKEN, PAST_LIMITS, NESTED_TOO_DEEPLY, EXPRESSION_TOO_LONG, SYNTAX}
use Rattle.cdl_lex.specs.Splits.{Splits}
use Rattle.cdl_lex.proofs.Continues.{splits_once, stuck_within}
use Rattle.cdl_lex.proofs.Places.{tokens_lie, tokens_rise, are_tokens}
use Rattle.cdl_lex.proofs.First.{NoneBelow, below_2, below_3, below_4, below_5, below_6, below_7, breaks_none, first_1, first_2, first_3, first_4, first_5, first_6, short, fit}
use Rattle.cdl_lex.proofs.lexer.lex.Goals as goal

pub returns-in-Some-clause-refused : goal.returns-in-Some-clause-refused
returns-in-Some-clause-refused c =
    rw c.broken.ensures (refl, first_1 c.args.bytes.now c.in-Some.at c.in-Some.ensures)

pub not_utf8-requires : goal.not_utf8-requires
not_utf8-requires c =
    let few : length c.args.bytes.now ≤ LONGEST_MODEL = short c.args.bytes.now c.in_default.ensures in
    omega arith

pub returns-in-Some-not_utf8-clause-refused : goal.returns-in-Some-not_utf8-clause-refused
returns-in-Some-not_utf8-clause-refused c =
    let n2 : NoneBelow c.args.bytes.now NOT_UTF8 = below_2 c.args.bytes.now c.in_default.ensures in
    rw c.broken-in-Some-not_utf8.ensures (refl, first_2 c.args.bytes.now c.in-Some-not_utf8.at n2 c.in-Some-not_utf8.ensures.first)

pub split-requires : goal.split-requires
split-requires c =
    let few : length c.args.bytes.now ≤ LONGEST_MODEL = short c.args.bytes.now c.in_default.ensures in
    omega arith

pub overflow_cast-at : goal.overflow_cast-at
overflow_cast-at c =
    let few : length c.args.bytes.now ≤ LONGEST_MODEL = short c.args.bytes.now c.in_default.ensures in
    let within = stuck_within c.args.bytes.now c.in-Stuck.at (rw c.in-Stuck.is at c.in_ok-items.ensures) in
    omega arith

pub returns-in-Stuck-clause-refused : goal.returns-in-Stuck-clause-refused
returns-in-Stuck-clause-refused c =
    let n2 : NoneBelow c.args.bytes.now NOT_UTF8 = below_2 c.args.bytes.now c.in_default.ensures in
    let n3 : NoneBelow c.args.bytes.now NO_TOKEN = below_3 c.args.bytes.now n2 c.in_default-not_utf8.ensures.first in
    rw c.broken-in-Stuck.ensures (refl, first_3 c.args.bytes.now c.in-Stuck.at n3 (rw c.in-Stuck.is at c.in_ok-items.ensures))

pub past_limits-requires-clause-within : goal.past_limits-requires-clause-within
past_limits-requires-clause-within c =
    let s : Splits c.args.bytes.now c.in-Whole.items = rw c.in-Whole.is at c.in_ok-items.ensures in
    rw c.items-2.ensures (tokens_lie c.args.bytes.now c.in-Whole.items s)

pub past_limits-requires-clause-rise : goal.past_limits-requires-clause-rise
past_limits-requires-clause-rise c =
    let s : Splits c.args.bytes.now c.in-Whole.items = rw c.in-Whole.is at c.in_ok-items.ensures in
    rw c.items-2.ensures (tokens_rise c.args.bytes.now c.in-Whole.items s)

pub too_deep-requires-clause-within : goal.too_deep-requires-clause-within
too_deep-requires-clause-within c =
    let s : Splits c.args.bytes.now c.in-Whole.items = rw c.in-Whole.is at c.in_ok-items.ensures in
    rw c.items-3.ensures (tokens_lie c.args.bytes.now c.in-Whole.items s)

pub too_deep-requires-clause-rise : goal.too_deep-requires-clause-rise
too_deep-requires-clause-rise c =
    let s : Splits c.args.bytes.now c.in-Whole.items = rw c.in-Whole.is at c.in_ok-items.ensures in
    rw c.items-3.ensures (tokens_rise c.args.bytes.now c.in-Whole.items s)

pub too_many-requires-clause-within : goal.too_many-requires-clause-within
too_many-requires-clause-within c =
    let s : Splits c.args.bytes.now c.in-Whole.items = rw c.in-Whole.is at c.in_ok-items.ensures in
    rw c.items-4.ensures (tokens_lie c.args.bytes.now c.in-Whole.items s)

pub too_many-requires-clause-rise : goal.too_many-requires-clause-rise
too_many-requires-clause-rise c =
    let s : Splits c.args.bytes.now c.in-Whole.items = rw c.in-Whole.is at c.in_ok-items.ensures in
    rw c.items-4.ensures (tokens_rise c.args.bytes.now c.in-Whole.items s)

pub returns-in-Some-past_limits-clause-refused : goal.returns-in-Some-past_limits-clause-refused
returns-in-Some-past_limits-clause-refused c =
    let n2 : NoneBelow c.args.bytes.now NOT_UTF8 = below_2 c.args.bytes.now c.in_default.ensures in
    let n3 : NoneBelow c.args.bytes.now NO_TOKEN = below_3 c.args.bytes.now n2 c.in_default-not_utf8.ensures.first in
    let s : Splits c.args.bytes.now c.in-Whole.items = rw c.in-Whole.is at c.in_ok-items.ensures in
    let n4 : NoneBelow c.args.bytes.now PAST_LIMITS = below_4 c.args.bytes.now c.in-Whole.items n3 s in
    rw c.broken-in-Some-past_limits.ensures (refl, first_4 c.args.bytes.now c.in-Whole.items c.in-Some-past_limits.at n4 s (rw c.items-2.ensures at c.in-Some-past_limits.ensures))

pub returns-in-Some-too_deep-clause-refused : goal.returns-in-Some-too_deep-clause-refused
returns-in-Some-too_deep-clause-refused c =
    let n2 : NoneBelow c.args.bytes.now NOT_UTF8 = below_2 c.args.bytes.now c.in_default.ensures in
    let n3 : NoneBelow c.args.bytes.now NO_TOKEN = below_3 c.args.bytes.now n2 c.in_default-not_utf8.ensures.first in
    let s : Splits c.args.bytes.now c.in-Whole.items = rw c.in-Whole.is at c.in_ok-items.ensures in
    let n4 : NoneBelow c.args.bytes.now PAST_LIMITS = below_4 c.args.bytes.now c.in-Whole.items n3 s in
    let n5 : NoneBelow c.args.bytes.now NESTED_TOO_DEEPLY = below_5 c.args.bytes.now c.in-Whole.items n4 s (rw c.items-2.ensures at c.in_default-past_limits.ensures) in
    rw c.broken-in-Some-too_deep.ensures (refl, first_5 c.args.bytes.now c.in-Whole.items c.in-Some-too_deep.at n5 s (rw c.items-3.ensures at c.in-Some-too_deep.ensures))

pub returns-in-Some-too_many-clause-refused : goal.returns-in-Some-too_many-clause-refused
returns-in-Some-too_many-clause-refused c =
    let n2 : NoneBelow c.args.bytes.now NOT_UTF8 = below_2 c.args.bytes.now c.in_default.ensures in
    let n3 : NoneBelow c.args.bytes.now NO_TOKEN = below_3 c.args.bytes.now n2 c.in_default-not_utf8.ensures.first in
    let s : Splits c.args.bytes.now c.in-Whole.items = rw c.in-Whole.is at c.in_ok-items.ensures in
    let n4 : NoneBelow c.args.bytes.now PAST_LIMITS = below_4 c.args.bytes.now c.in-Whole.items n3 s in
    let n5 : NoneBelow c.args.bytes.now NESTED_TOO_DEEPLY = below_5 c.args.bytes.now c.in-Whole.items n4 s (rw c.items-2.ensures at c.in_default-past_limits.ensures) in
    let n6 : NoneBelow c.args.bytes.now EXPRESSION_TOO_LONG = below_6 c.args.bytes.now c.in-Whole.items n5 s (rw c.items-3.ensures at c.in_default-too_deep.ensures) in
    rw c.broken-in-Some-too_many.ensures (refl, first_6 c.args.bytes.now c.in-Whole.items c.in-Some-too_many.at n6 s (rw c.items-4.ensures at c.in-Some-too_many.ensures))

pub new-requires : goal.new-requires
new-requires c =
    let n2 : NoneBelow c.args.bytes.now NOT_UTF8 = below_2 c.args.bytes.now c.in_default.ensures in
    let n3 : NoneBelow c.args.bytes.now NO_TOKEN = below_3 c.args.bytes.now n2 c.in_default-not_utf8.ensures.first in
    let s : Splits c.args.bytes.now c.in-Whole.items = rw c.in-Whole.is at c.in_ok-items.ensures in
    let n4 : NoneBelow c.args.bytes.now PAST_LIMITS = below_4 c.args.bytes.now c.in-Whole.items n3 s in
    let n5 : NoneBelow c.args.bytes.now NESTED_TOO_DEEPLY = below_5 c.args.bytes.now c.in-Whole.items n4 s (rw c.items-2.ensures at c.in_default-past_limits.ensures) in
    let n6 : NoneBelow c.args.bytes.now EXPRESSION_TOO_LONG = below_6 c.args.bytes.now c.in-Whole.items n5 s (rw c.items-3.ensures at c.in_default-too_deep.ensures) in
    let n7 : NoneBelow c.args.bytes.now SYNTAX = below_7 c.args.bytes.now c.in-Whole.items n6 s (rw c.items-4.ensures at c.in_default-too_many.ensures) in
    rw (c.in_ok-push.ensures.ok, c.new-text.ensures) (are_tokens c.args.bytes.now c.in-Whole.items (breaks_none c.args.bytes.now n7) s (short c.args.bytes.now c.in_default.ensures)
    c.in_default-not_utf8.ensures.utf8 (fit c.args.bytes.now c.in-Whole.items (rw c.items-2.ensures at c.in_default-past_limits.ensures)))

pub returns-clause-unbroken : goal.returns-clause-unbroken
returns-clause-unbroken c =
    let n2 : NoneBelow c.args.bytes.now NOT_UTF8 = below_2 c.args.bytes.now c.in_default.ensures in
    let n3 : NoneBelow c.args.bytes.now NO_TOKEN = below_3 c.args.bytes.now n2 c.in_default-not_utf8.ensures.first in
    let s : Splits c.args.bytes.now c.in-Whole.items = rw c.in-Whole.is at c.in_ok-items.ensures in
    let n4 : NoneBelow c.args.bytes.now PAST_LIMITS = below_4 c.args.bytes.now c.in-Whole.items n3 s in
    let n5 : NoneBelow c.args.bytes.now NESTED_TOO_DEEPLY = below_5 c.args.bytes.now c.in-Whole.items n4 s (rw c.items-2.ensures at c.in_default-past_limits.ensures) in
    let n6 : NoneBelow c.args.bytes.now EXPRESSION_TOO_LONG = below_6 c.args.bytes.now c.in-Whole.items n5 s (rw c.items-3.ensures at c.in_default-too_deep.ensures) in
    let n7 : NoneBelow c.args.bytes.now SYNTAX = below_7 c.args.bytes.now c.in-Whole.items n6 s (rw c.items-4.ensures at c.in_default-too_many.ensures) in
    breaks_none c.args.bytes.now n7

pub returns-clause-only : goal.returns-clause-only
returns-clause-only c =
    let s : Splits c.args.bytes.now c.in-Whole.items = rw c.in-Whole.is at c.in_ok-items.ensures in
    rw c.new.ensures (λ ts h. splits_once c.args.bytes.now c.in-Whole.items ts s h)
