use Rattle.std.proofs.Common.{◌∙◌, ◌∷◌, ◌++◌, [], ℕ, List, Bool, is_some, sym, ap}
use Rattle.std.specs.Prelude.{if◌then◌else◌}
use Rattle.cdl_scopes.specs.Lookup.{first_named}
use Rattle.cdl_scopes.specs.Entries.{entry}
use Rattle.cdl_classes.specs.Places.{least, sooner}
use Rattle.cdl_classes.specs.Rules.{place}
use Rattle.cdl_classes.proofs.MarkLaws.{seen_before}
use Rattle.cdl_classes.proofs.duplicates.again.Goals as goal

pub returns-then-is_again : goal.returns-then-is_again
returns-then-is_again c = λ names size h.
    let x : List ℕ = c.args.ident.now.text in
    let there = place c.args.file c.args.ident.now in
    let seen = sym (seen_before (entry c.args.seen.now) names x h) ∙ ap (λ (y : List ℕ). is_some (entry c.args.seen.now y)) (sym c.bytes.ensures) ∙ sym c.contains_key-is_again.ensures in (
      λ y. c.in_ok-index_name.ensures names size h y ∙ ap (λ (z : List ℕ). first_named y (names ++ z ∷ [])) c.bytes-2.ensures,
      c.sooner.ensures ∙ ap (sooner c.args.first) c.place_of.ensures
          ∙ sym (ap (λ (b : Bool). least c.args.first (if b then there ∷ [] else [])) (seen ∙ c.if-is_again.true)),
    )

pub returns-else-is_again : goal.returns-else-is_again
returns-else-is_again c = λ names size h.
    let x : List ℕ = c.args.ident.now.text in
    let there = place c.args.file c.args.ident.now in
    let seen = sym (seen_before (entry c.args.seen.now) names x h) ∙ ap (λ (y : List ℕ). is_some (entry c.args.seen.now y)) (sym c.bytes.ensures) ∙ sym c.contains_key-is_again.ensures in (
      λ y. c.in_ok-index_name.ensures names size h y ∙ ap (λ (z : List ℕ). first_named y (names ++ z ∷ [])) c.bytes-2.ensures,
      sym (ap (λ (b : Bool). least c.args.first (if b then there ∷ [] else [])) (seen ∙ c.if-is_again.false)),
    )
