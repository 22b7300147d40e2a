use Rattle.std.proofs.Common.{ℕ, ◌≡◌, ◌+◌, ◌/◌, ◌%◌, List, [], ◌∷◌, ◌++◌, sym, ap, subst, ◌∙◌, OnOk, append_assoc}
use Rattle.cdl_decimal.specs.Canon.{decimal}
use Rattle.cdl_decimal.proofs.TextLaws.{decimal_small, decimal_step}
use Rattle.cdl_decimal.proofs.canonical.+push_whole.Goals as goal

pub returns-then-whole-lt10 : goal.returns-then-whole-lt10
returns-then-whole-lt10 t c =
    let e : decimal c.args.whole ≡ (48 + c.args.whole) ∷ [] = decimal_small c.args.whole c.if-whole-lt10.true in
    subst (λ (xs : List ℕ). OnOk c.push_digit.result (c.push_digit.new.text ≡ c.args.text.now ++ xs)) (sym e) c.push_digit.ensures

pub returns : goal.returns
returns t c =
    let n = c.args.whole in
    let e : decimal n ≡ decimal (n / 10) ++ (48 + n % 10) ∷ [] = decimal_step n c.if-whole-lt10.false in
    let first : c.push_whole.new.text ≡ c.args.text.now ++ decimal (n / 10) = c.in_ok-push_whole.ensures in
    let both : c.push_whole.new.text ++ (48 + n % 10) ∷ [] ≡ c.args.text.now ++ decimal n =
    ap (λ (xs : List ℕ). xs ++ (48 + n % 10) ∷ []) first ∙ append_assoc c.args.text.now (decimal (n / 10)) ((48 + n % 10) ∷ []) ∙ ap (λ (xs : List ℕ). c.args.text.now ++ xs) (sym e) in
    subst (λ (xs : List ℕ). OnOk c.push_digit-2.result (c.push_digit-2.new.text ≡ xs)) both c.push_digit-2.ensures
