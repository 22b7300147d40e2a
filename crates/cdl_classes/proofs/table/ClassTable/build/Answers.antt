use Rattle.std.specs.List.{list_all}
use Rattle.cdl_tree.specs.FormedFiles.{formed_file}
use Rattle.std.proofs.Common.{◌≡◌, true, List, [], sym, refl, subst, inl, inr}
use Rattle.cdl_source.specs.declared.place.Place.{Place}
use Rattle.cdl_tree.specs.declared.class.FileTree.{FileTree}
use Rattle.cdl_scopes.specs.Classes.{Declared, declared}
use Rattle.cdl_classes.specs.Rules.{broken_10, broken_11, broken_12, broken_13}
use Rattle.cdl_classes.proofs.Firstly.{first_as, none_as}
use Rattle.cdl_classes.proofs.table.ClassTable.build.Goals as goal

none_over : (broken : List Declared → List Place) (files now : List FileTree) → now ≡ files → broken (declared files) ≡ [] → broken (declared now) ≡ []
none_over broken files now e h = let P : List FileTree → Type 0 = λ fs. broken (declared fs) ≡ [] in subst P (sym e) h

formed_over : (files now : List FileTree) → now ≡ files → list_all formed_file files ≡ true → list_all formed_file now ≡ true
formed_over files now e h = subst (λ fs. list_all formed_file fs ≡ true) (sym e) h

pub returns-in-Some-clause-err : goal.returns-in-Some-clause-err
returns-in-Some-clause-err c =
    let ok = c.in-Ok.ensures.ok in
    inr (inr (inl (refl, ok.1.0, ok.1.1, first_as broken_12 c.args.files c.in-Ok.declarations ok.0 c.first_item.result c.in-Some.place c.first_item.ensures c.in-Some.is)))

pub returns-in-Some-first_item-clause-err : goal.returns-in-Some-first_item-clause-err
returns-in-Some-first_item-clause-err c =
    let ok = c.in-Ok.ensures.ok in
    let missing = none_as broken_12 c.args.files c.in-Ok.declarations ok.0 c.first_item.result c.first_item.ensures c.in_default.is in
    inr (inr (inr (refl, ok.1.0, ok.1.1, missing, first_as broken_13 c.args.files c.in-Ok.declarations ok.0 c.first_item-2.result c.in-Some-first_item.place c.first_item-2.ensures c.in-Some-first_item.is)))

pub invariant_of-result : goal.invariant_of-result
invariant_of-result c =
    let ok = c.in-Ok.ensures.ok in
    record {
      formed = formed_over c.args.files c.in-Ok.declarations ok.0 c.requires.formed;
      unbroken = record {
        twice = none_over broken_10 c.args.files c.in-Ok.declarations ok.0 ok.1.0;
        taken = none_over broken_11 c.args.files c.in-Ok.declarations ok.0 ok.1.1;
        missing = none_as broken_12 c.in-Ok.declarations c.in-Ok.declarations refl c.first_item.result c.first_item.ensures c.in_default.is;
        unsupported = none_as broken_13 c.in-Ok.declarations c.in-Ok.declarations refl c.first_item-2.result c.first_item-2.ensures c.in_default-first_item.is;
      };
      classes = c.in-Ok-item_classes.ensures;
    }

pub returns-clause-ok : goal.returns-clause-ok
returns-clause-ok c =
    let ok = c.in-Ok.ensures.ok in
    let missing = none_as broken_12 c.args.files c.in-Ok.declarations ok.0 c.first_item.result c.first_item.ensures c.in_default.is in
    let unsupported = none_as broken_13 c.args.files c.in-Ok.declarations ok.0 c.first_item-2.result c.first_item-2.ensures c.in_default-first_item.is in
    (ok.0, record { twice = ok.1.0; taken = ok.1.1; missing = missing; unsupported = unsupported })
