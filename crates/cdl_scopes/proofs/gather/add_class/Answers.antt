use Rattle.std.proofs.Common.{◌≡◌, ◌∙◌, ℕ, List, ap, refl, length, arith}
use Rattle.cdl_scopes.specs.inner.Gathered.{tree_at}
use Rattle.cdl_scopes.proofs.Adding.{class_added_as}
use Rattle.cdl_tree.specs.declared.name.Ident.{Ident}
use Rattle.cdl_scopes.proofs.gather.add_class.Goals as goal

pub returns : goal.returns
returns c = λ files extra ds q h here tree.
    let counted : c.len-number.result ≡ length c.args.all.now.list.items = omega arith in
    class_added_as files c.args.all.now _ extra ds h _ c.args.tree.now q c.bytes.result.now c.len-number.result c.in_ok-name.name
    (c.in_ok-name.ensures _ q h.names here) (c.bytes.ensures ∙ ap (λ (i : Ident). i.text) c.name.ensures)
    c.in_ok-index_class.ensures counted c.in_ok-push.ensures.items refl refl here refl
    (ap (λ (s : List ℕ). tree_at files c.args.file c.args.top s) c.in_ok-steps.ensures.items ∙ tree) c.in_ok-members.ensures
