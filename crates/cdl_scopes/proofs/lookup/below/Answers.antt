use Rattle.std.proofs.Common.{◌≡◌, ◌∙◌, ◌<◌, map, length, sym, refl, ap, Some, arith}
use Rattle.std.specs.List.{slice_get}
use Rattle.std.proofs.lemmas.List.{length-map}
use Rattle.cdl_scopes.specs.Classes.{declared, text_of}
use Rattle.cdl_scopes.specs.Lookup.{Entity, a_package, in_cdl, in_modelica, leads, cdl_name, modelica_name}
use Rattle.cdl_scopes.specs.inner.Known.{means}
use Rattle.cdl_scopes.proofs.Finding.{package_is, package_at, own_package, cdl_leads, modelica_leads, not_cdl, not_modelica}
use Rattle.cdl_scopes.proofs.lookup.below.Goals as goal

pub returns-then-name-all-clause-some : goal.returns-then-name-all-clause-some
returns-then-name-all-clause-some c = λ files h sought e m.
    let paths = h.gathered.names.paths in
    let at : slice_get paths c.in-Package.name ≡ Some cdl_name = ap (λ i. slice_get paths i) c.if-name-all.true ∙ h.gathered.cdl in
    let is : e ≡ a_package cdl_name = package_is paths c.in-Package.name cdl_name e at (sym (ap (means paths) c.in-Package.is) ∙ m) in
    let long : 0 < length (map text_of c.args.rest.now) = omega (arith, length-map c.args.rest.now text_of, c.requires) in (
      in_cdl (map text_of c.args.rest.now),
      refl,
      ap (λ (x : Entity). leads (declared files) sought x (map text_of c.args.rest.now)) is ∙ cdl_leads (declared files) sought (map text_of c.args.rest.now) h.free long,
    )

pub returns-then-name-all-2-clause-some : goal.returns-then-name-all-2-clause-some
returns-then-name-all-2-clause-some c = λ files h sought e m.
    let paths = h.gathered.names.paths in
    let at : slice_get paths c.in-Package.name ≡ Some modelica_name = ap (λ i. slice_get paths i) c.if-name-all-2.true ∙ h.gathered.modelica in
    let is : e ≡ a_package modelica_name = package_is paths c.in-Package.name modelica_name e at (sym (ap (means paths) c.in-Package.is) ∙ m) in
    let long : 0 < length (map text_of c.args.rest.now) = omega (arith, length-map c.args.rest.now text_of, c.requires) in (
      in_modelica (map text_of c.args.rest.now),
      refl,
      ap (λ (x : Entity). leads (declared files) sought x (map text_of c.args.rest.now)) is ∙ modelica_leads (declared files) sought (map text_of c.args.rest.now) h.free long,
    )

pub returns-else-name-all-2-clause-none : goal.returns-else-name-all-2-clause-none
returns-else-name-all-2-clause-none c = λ files h e over m.
    let paths = h.gathered.names.paths in
    let p = package_at paths c.in-Package.name e (sym (ap (means paths) c.in-Package.is) ∙ m) in
    own_package e p.0 p.2 (not_cdl files c.args.all.now h c.in-Package.name p.0 p.1 c.if-name-all.false) (not_modelica files c.args.all.now h c.in-Package.name p.0 p.1 c.if-name-all-2.false)
