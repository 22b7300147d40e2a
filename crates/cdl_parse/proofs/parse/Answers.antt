use Rattle.std.proofs.Common.{inl, inr, refl, arith}
use Rattle.cdl_reading.specs.Reading.{word_of}
use Rattle.cdl_parse.proofs.Top.{found_law, only_law, differs_law, none_law, misnamed_law, place_law, formed_law, few_law, at_tokens}
use Rattle.cdl_parse.proofs.parse.Goals as goal

pub returns-in-None-clause-found : goal.returns-in-None-clause-found
returns-in-None-clause-found c =
    found_law (word_of c.args.tokens.now) _ c.in-Ok.field-0 (at_tokens c.args.tokens.now c.len.result c.new-cursor.result _ c.len.ensures.len c.new-cursor.ensures c.in-Ok.ensures) c.in-None.is

pub returns-in-None-clause-formed : goal.returns-in-None-clause-formed
returns-in-None-clause-formed c =
    formed_law c.args.tokens.now c.len.ensures.tokens c.in-Ok.field-0.tree
    (found_law (word_of c.args.tokens.now) _ c.in-Ok.field-0 (at_tokens c.args.tokens.now c.len.result c.new-cursor.result _ c.len.ensures.len c.new-cursor.ensures c.in-Ok.ensures) c.in-None.is)

pub returns-in-None-clause-few : goal.returns-in-None-clause-few
returns-in-None-clause-few c =
    few_law c.args.tokens.now c.in-Ok.field-0.tree
    (found_law (word_of c.args.tokens.now) _ c.in-Ok.field-0 (at_tokens c.args.tokens.now c.len.result c.new-cursor.result _ c.len.ensures.len c.new-cursor.ensures c.in-Ok.ensures) c.in-None.is)

pub returns-in-None-clause-only : goal.returns-in-None-clause-only
returns-in-None-clause-only c =
    only_law (word_of c.args.tokens.now) _ c.in-Ok.field-0 (at_tokens c.args.tokens.now c.len.result c.new-cursor.result _ c.len.ensures.len c.new-cursor.ensures c.in-Ok.ensures)

pub returns-in-Some-clause-only : goal.returns-in-Some-clause-only
returns-in-Some-clause-only c = λ tree s.
    absurd (differs_law (word_of c.args.tokens.now) _ c.in-Ok.field-0 c.in-Some.byte (at_tokens c.args.tokens.now c.len.result c.new-cursor.result _ c.len.ensures.len c.new-cursor.ensures c.in-Ok.ensures) c.in-Some.is tree s)

pub returns-in-Some-clause-refused : goal.returns-in-Some-clause-refused
returns-in-Some-clause-refused c =
    rw c.broken.ensures (inr (refl, misnamed_law c.args.tokens.now _ c.in-Ok.field-0 c.in-Some.byte (at_tokens c.args.tokens.now c.len.result c.new-cursor.result _ c.len.ensures.len c.new-cursor.ensures c.in-Ok.ensures) c.in-Some.is))

pub returns-in-Err-Syntax-clause-only : goal.returns-in-Err-Syntax-clause-only
returns-in-Err-Syntax-clause-only c = λ tree s.
    absurd (none_law (word_of c.args.tokens.now) _ (at_tokens c.args.tokens.now c.len.result c.new-cursor.result _ c.len.ensures.len c.new-cursor.ensures (rw c.in-Err-Syntax.field-0-is at c.in-Err-Syntax.ensures)) tree s)

pub returns-in-Err-Syntax-clause-refused : goal.returns-in-Err-Syntax-clause-refused
returns-in-Err-Syntax-clause-refused c =
    rw (c.broken-in-Err-Syntax.ensures, c.begin.ensures)
    (inl (refl, place_law c.args.tokens.now _ c.saturating_sub-before.result (at_tokens c.args.tokens.now c.len.result c.new-cursor.result _ c.len.ensures.len c.new-cursor.ensures (rw c.in-Err-Syntax.field-0-is at c.in-Err-Syntax.ensures)) (omega arith)))
