use Rattle.std.proofs.Common.{◌∙◌, List, map, sym, ap, arith}
use Rattle.cdl_tree.specs.declared.name.Ident.{Ident}
use Rattle.cdl_scopes.specs.Classes.{declared, text_of}
use Rattle.cdl_scopes.specs.Lookup.{enters, leads}
use Rattle.cdl_scopes.proofs.Finding.{leads_next, leads_none, rest_is, taken_rest}
use Rattle.cdl_scopes.proofs.lookup.leads.Goals as goal

pub returns-in-Some : goal.returns-in-Some
returns-in-Some c = λ h e m.
    let f = c.loop-i.invariant.1 h e m in
    let s = c.in-Some.ensures.some c.args.files.now h c.args.sought f.0 f.1 in
    (s.0, s.1, sym f.2 ∙ ap (λ (r : List Ident). leads (declared c.args.files.now) c.args.sought f.0 (map text_of r)) (sym (taken_rest c.args.rest.now c.loop-i.i)) ∙ s.2)

pub returns-in-None : goal.returns-in-None
returns-in-None c = λ h e m.
    let f = c.loop-i.invariant.1 h e m in
    let own = c.in_default.ensures.none c.args.files.now h f.0 c.loop-i.invariant.0 f.1 in
    let none = c.in-None.ensures.found h f.0 f.1 own in
    let ds = declared c.args.files.now in
    sym f.2 ∙ ap (leads ds c.args.sought f.0) (rest_is c.args.rest.now c.loop-i.i c.index-rest-i.result (omega arith) c.index-rest-i.is)
    ∙ leads_none ds c.args.sought f.0 _ _ (ap (enters ds c.args.sought f.0) (sym (c.bytes.ensures ∙ ap (λ (x : Ident). x.text) (sym c.index-rest-i.is))) ∙ none)

pub loop-i-preserved : goal.loop-i-preserved
loop-i-preserved c = (
  c.in-Some-enters.ensures.over,
  λ h e m.
      let f = c.loop-i.invariant.1 h e m in
      let own = c.in_default.ensures.none c.args.files.now h f.0 c.loop-i.invariant.0 f.1 in
      let next = c.in-Some-enters.ensures.found h f.0 f.1 own in
      let ds = declared c.args.files.now in (
        next.0,
        next.1,
        sym (leads_next ds c.args.sought f.0 next.0 _ _ (ap (enters ds c.args.sought f.0) (sym (c.bytes.ensures ∙ ap (λ (x : Ident). x.text) (sym c.index-rest-i.is))) ∙ next.2))
            ∙ sym (ap (leads ds c.args.sought f.0) (rest_is c.args.rest.now c.loop-i.i c.index-rest-i.result (omega arith) c.index-rest-i.is)) ∙ f.2,
      ),
)
