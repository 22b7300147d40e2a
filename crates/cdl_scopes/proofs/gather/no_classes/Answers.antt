use Rattle.std.proofs.Common.{◌∷◌, []}
use Rattle.cdl_scopes.proofs.Within.{no_names_yet, library_begun}
use Rattle.cdl_scopes.proofs.gather.no_classes.Goals as goal

pub returns : goal.returns
returns c = λ files.
    let h = no_names_yet _ c.in_ok-nodes.ensures in
    let b = c.in_ok-buildings.ensures ([] ∷ []) [] h h.numbers.top in
    let o = c.in_ok-controls.ensures _ _ b.names b.at in
    let p = c.in_ok-obc.ensures _ _ o.names o.at in
    let d = c.in_ok-cdl.ensures _ _ p.names p.at in
    let m = c.in_ok-modelica.ensures _ [] d.names d.names.numbers.top in
    library_begun files _ m.names c.new.ensures.items c.new-2.ensures.empty (m.keeps _ _ d.at) m.at
