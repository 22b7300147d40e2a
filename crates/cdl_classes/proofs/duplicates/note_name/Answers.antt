use Rattle.std.proofs.Common.{◌≡◌, ◌∙◌, ◌++◌, ◌∷◌, [], Some, sym, ap}
use Rattle.std.specs.Prelude.{option_map}
use Rattle.std.proofs.lemmas.Result.{IfOk-weaker}
use Rattle.cdl_scopes.specs.Classes.{full}
use Rattle.cdl_classes.proofs.duplicates.note_name.Goals as goal

pub returns-in-Some : goal.returns-in-Some
returns-in-Some c = λ ns d h here f.
    c.note_class.ensures _ _ ns (full d ++ c.args.part.now ∷ []) h (sym (c.first_within.ensures (full d) (ap (option_map full) here)) ∙ c.in-Some.is)

pub returns-in-None : goal.returns-in-None
returns-in-None c = IfOk-weaker c.note_constant.result _ _ (λ known more ns d h here f.
    more _ _ ns (full d) h f (sym (c.first_within.ensures (full d) (ap (option_map full) here)) ∙ c.in-None.is)) c.note_constant.ensures
