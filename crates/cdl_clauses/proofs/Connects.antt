-- The laws of connect statements.
use Rattle.std.proofs.Common.{◌≡◌, ℕ, suc, ◌<◌, List, [], ◌∷◌, ◌++◌, length, refl, sym, ap, ◌∙◌, subst, arith, if◌then◌else◌, append_assoc, append-nil}
use Rattle.cdl_tree.specs.declared.terminal.Terminal.{Terminal}
use Rattle.cdl_tree.specs.declared.terminal.Terminal.TheVariants as the
use Rattle.cdl_tree.specs.declared.expr.Expr.{Expr}
use Rattle.cdl_tree.specs.declared.class.Part.{Part}
use Rattle.cdl_tree.specs.declared.class.Sub.{Sub}
use Rattle.cdl_tree.specs.declared.class.Sub.TheVariants as sub
use Rattle.cdl_tree.specs.declared.class.Connect.{Connect}
use Rattle.cdl_tree.specs.Words.{Lexeme, Word, same_terminal}
use Rattle.cdl_tree.specs.Trees.{the_ident, the_part, the_ref, the_connect}
use Rattle.cdl_tree.specs.Grammar.{ExprOf, Tail, SubOf, all_places, one_place, places, SubList, one_sub, more_subs, Subs, no_sub, subs as some_subs, PartOf, part as a_part, RefOf, one_part, more_parts, ConnectOf, connect as a_connect}
use Rattle.cdl_reading.specs.Reading.{and_then, pure, sees, after}
use Rattle.cdl_clauses.specs.Declarations as spec
use Rattle.cdl_expressions.specs.Expressions.{expr as spec_expr}
use Rattle.cdl_reading.proofs.Steps.{Then, both, Is, is, Made, is_made}
use Rattle.cdl_reading.proofs.Laws.{Law, shaped, begun_law, pure_law, made_law, then_law, Chosen, found, missing, only, only_is, is_only, eaten_law, One, a_token, word_then, word_less, Closed, closed, closing_law}
use Rattle.cdl_reading.proofs.Repeats.{Row, row_one, row_more, row_in, list_law}
use Rattle.cdl_expressions.proofs.Sets.{exprs, after_expr, after_tail}
use Rattle.cdl_expressions.proofs.ExprLaws.{IdentOf, an_ident, ident_law}
use Rattle.cdl_expressions.proofs.Operators.{expr_law}
use Rattle.cdl_clauses.proofs.Notes.{tail_law}

abbrev after_sub : List Terminal
after_sub = the.Comma ∷ the.CloseBracket ∷ []

abbrev after_ref : List Terminal
after_ref = the.Comma ∷ the.Close ∷ []

abbrev RangeR : Expr → Word → Word → Sub → Type 0
RangeR l = Chosen (only the.Colon) (λ _. Then (λ u. ExprOf) (λ h. Is (sub.Range l h))) (Is (sub.One l))

abbrev SubR : Word → Word → Sub → Type 0
SubR = Chosen (only the.Colon) (λ _. Is sub.All) (Then (λ u. ExprOf) RangeR)

ends_as : (P : Word → Sub → Type 0) (z b : Sub) (s y : Word) → Is z s y b → P [] z → P y b
ends_as P _ _ s _ is x = x

sub_goes : (u w : Word) (x : Sub) → SubR u w x → SubOf w x
sub_goes u w x (found t {a = a} {y = y} h i) = ends_as (λ y b. SubOf (t ∷ y) b) sub.All x (u ++ t ∷ []) y i (all_places t (only_is the.Colon t.terminal a h))
sub_goes u w x (missing (both {x = v} {a = l} hl (found t {a = a} e (both {x = q} {y = y} {a = h} hh i)))) =
    ends_as (λ y b. SubOf (v ++ t ∷ (q ++ y)) b) (sub.Range l h) x _ y i (subst (λ z. SubOf (v ++ t ∷ z) (sub.Range l h)) (sym (append-nil q)) (places t hl (only_is the.Colon t.terminal a e) hh))
sub_goes u w x (missing (both {x = v} {y = y} {a = l} hl (missing i))) =
    ends_as (λ y b. SubOf (v ++ y) b) (sub.One l) x _ y i (subst (λ z. SubOf z (sub.One l)) (sym (append-nil v)) (one_place hl))

sub_comes : (u w : Word) (x : Sub) → SubOf w x → SubR u w x
sub_comes u _ _ (all_places t h) = found t (is_only the.Colon t.terminal h) is
sub_comes u _ _ (one_place {w} {e} x) = subst (λ z. SubR u z (sub.One e)) (append-nil w) (missing (both x (missing is)))
sub_comes u _ _ (places {v} {w} t {l} {h} x e y) =
    subst (λ z. SubR u (v ++ t ∷ z) (sub.Range l h)) (append-nil w) (missing (both x (found t (is_only the.Colon t.terminal e) (both y is))))

subs_row : {w : Word} {ss : List Sub} → SubList w ss → Row the.Comma SubOf [] [] w ss
subs_row (one_sub {w} {s} x) = row_one [] w s x
subs_row (more_subs t xs c x) = row_more [] (subs_row xs) t c x

abbrev SubsR : Word → Word → List Sub → Type 0
SubsR = Chosen (only the.OpenBracket) (λ _. Closed SubList the.CloseBracket) (Is [])

subs_goes : (u w : Word) (ss : List Sub) → SubsR u w ss → Subs w ss
subs_goes u w ss (found t {a = a} h (closed b x g)) = some_subs t b (only_is the.OpenBracket t.terminal a h) x g
subs_goes u w ss (missing is) = no_sub

subs_comes : (u w : Word) (ss : List Sub) → Subs w ss → SubsR u w ss
subs_comes u _ _ no_sub = missing is
subs_comes u _ _ (some_subs t b h x g) = found t (is_only the.OpenBracket t.terminal h) (closed b x g)

abbrev PartR : Word → Word → Part → Type 0
PartR = Then (λ u. IdentOf) (λ i. Then (λ u. Subs) (λ ss. Is (the_part i ss)))

part_end : (P : Word → Part → Type 0) (z b : Part) (s y : Word) → Is z s y b → P [] z → P y b
part_end P _ _ s _ is x = x

part_goes : (u w : Word) (x : Part) → PartR u w x → PartOf w x
part_goes u w x (both (an_ident t h) (both {x = v} {y = y} {a = ss} g i)) =
    part_end (λ y b. PartOf (t ∷ (v ++ y)) b) (the_part (the_ident t) ss) x _ y i (subst (λ z. PartOf (t ∷ z) (the_part (the_ident t) ss)) (sym (append-nil v)) (a_part t h g))

part_comes : (u w : Word) (x : Part) → PartOf w x → PartR u w x
part_comes u _ _ (a_part t {w} {ss} h g) = subst (λ z. PartR u (t ∷ z) (the_part (the_ident t) ss)) (append-nil w) (both (an_ident t h) (both g is))

ref_row : {w : Word} {xs : List Part} → RefOf w xs → Row the.Period PartOf [] [] w xs
ref_row (one_part {w} {x} h) = row_one [] w x h
ref_row (more_parts p xs c x) = row_more [] (ref_row xs) p c x

abbrev ConnectR : Word → Word → Connect → Type 0
ConnectR u =
    Then (One the.Connect) (λ _. Then (One the.Open) (λ _. Then (λ u. RefOf) (λ l. Then (One the.Comma) (λ _. Then (λ u. RefOf) (λ r. Then (One the.Close) (λ _. Then (λ u w (a : Unit {0}). Tail w) (λ _. Then (One the.Semicolon) (λ _. Made (the_connect (the_ref l) (the_ref r)))))))))) []

connect_word : (c o m e s : Lexeme) (v w z : Word) → ((((((c ∷ o ∷ v) ++ m ∷ []) ++ w) ++ e ∷ []) ++ z) ++ s ∷ []) ≡ c ∷ o ∷ (v ++ m ∷ (w ++ e ∷ (z ++ s ∷ [])))
connect_word c o m e s v w z = simp append_assoc

connect_goes : (u w : Word) (x : Connect) → ConnectR u w x → ConnectOf w x
connect_goes u _ x (both (a_token c {a = a1} hc) (both (a_token o {a = a2} ho) (both {x = v} {a = l} hl (both (a_token m {a = a3} hm) (both {x = w} {a = r} hr (both (a_token e {a = a4} he) (both {x = z} hz (both (a_token s {a = a5} hs) (is_made h))))))))) =
    subst (ConnectOf (c ∷ o ∷ (v ++ m ∷ (w ++ e ∷ (z ++ s ∷ []))))) (sym (h ∙ ap (the_connect (the_ref l) (the_ref r)) (connect_word c o m e s v w z)))
    (a_connect c o m e s (only_is the.Connect c.terminal a1 hc) (only_is the.Open o.terminal a2 ho) hl (only_is the.Comma m.terminal a3 hm) hr (only_is the.Close e.terminal a4 he) hz (only_is the.Semicolon s.terminal a5 hs))

connect_comes : (u w : Word) (x : Connect) → ConnectOf w x → ConnectR u w x
connect_comes u _ _ (a_connect c o m e s {v = v} {w = w} {z = z} {l = l} {r = r} hc ho hl hm hr he hz hs) =
    both (a_token c (is_only the.Connect c.terminal hc)) (both (a_token o (is_only the.Open o.terminal ho)) (both hl (both (a_token m (is_only the.Comma m.terminal hm)) (both hr (both (a_token e (is_only the.Close e.terminal he))
    (both {a = tt} hz (both (a_token s (is_only the.Semicolon s.terminal hs)) (is_made (ap (the_connect (the_ref l) (the_ref r)) (sym (connect_word c o m e s v w z)))))))))))

pub connect_some : {w : Word} {x : Connect} → ConnectOf w x → 0 < length w
connect_some (a_connect c o m e s hc ho hl hm hr he hz hs) = omega arith

module _ (d d' : ℕ) where
  range_law : (l : Expr) → Law d d' (RangeR l) (the.Colon ∷ after_sub) after_sub
      (λ s i. (if sees the.Colon i then (λ i. and_then (spec_expr d i) (λ h. pure (sub.Range l h))) else pure (sub.One l)) (after the.Colon i))
      (λ s i. (if sees the.Colon i then (λ i. and_then (spec_expr d' i) (λ h. pure (sub.Range l h))) else pure (sub.One l)) (after the.Colon i))
  unfolding same_terminal
  range_law l =
      eaten_law {n' = d} {m' = d'} the.Colon refl (omega arith) (omega arith) (then_law {U = after_expr} (expr_law d d') (λ h. pure_law {S = after_sub} (sub.Range l h)) refl) (pure_law {S = after_sub} (sub.One l)) refl

  sub_law : Law d d' (λ u. SubOf) (the.Colon ∷ exprs) after_sub (λ s. spec.sub_of d) (λ s. spec.sub_of d')
  unfolding spec.sub_of same_terminal
  sub_law =
      shaped sub_goes sub_comes
      (eaten_law {n' = d} {m' = d'} the.Colon refl (omega arith) (omega arith) (pure_law {S = after_sub} sub.All) (then_law {U = after_expr} (expr_law d d') range_law refl) refl)

  sub_list_law : Law d d' (λ u. SubList) (the.Colon ∷ exprs) (the.CloseBracket ∷ []) (λ s. spec.sub_list d) (λ s. spec.sub_list d')
  unfolding spec.sub_list same_terminal
  sub_list_law =
      shaped (λ u. row_in the.Comma SubOf SubList (λ w x h. one_sub h) (λ v w t xs x g e h. more_subs t g e h)) (λ u w a x. subs_row x)
      (list_law {U = after_sub} the.Comma refl (the.CloseBracket ∷ []) sub_law refl refl [])

  subs_law : Law d d' (λ u. Subs) (the.OpenBracket ∷ the.Period ∷ after_ref) (the.Period ∷ after_ref) (λ s. spec.subs d) (λ s. spec.subs d')
  unfolding spec.subs same_terminal
  subs_law =
      shaped subs_goes subs_comes
      (eaten_law {n' = d} {m' = d'} the.OpenBracket refl (omega arith) (omega arith) (closing_law {U = the.CloseBracket ∷ []} {S = the.Period ∷ after_ref} the.CloseBracket refl sub_list_law refl) (pure_law {S = the.Period ∷ after_ref} []) refl)

  part_law : Law d d' (λ u. PartOf) (the.Identifier ∷ []) (the.Period ∷ after_ref) (λ s. spec.part d) (λ s. spec.part d')
  unfolding spec.part same_terminal
  part_law =
      shaped part_goes part_comes
      (then_law {U = the.OpenBracket ∷ the.Period ∷ after_ref} ident_law (λ i. then_law {U = the.Period ∷ after_ref} subs_law (λ ss. pure_law {S = the.Period ∷ after_ref} (the_part i ss)) refl) refl)

  ref_law : Law d d' (λ u. RefOf) (the.Identifier ∷ []) after_ref (λ s. spec.reference d) (λ s. spec.reference d')
  unfolding spec.reference same_terminal
  ref_law =
      shaped (λ u. row_in the.Period PartOf RefOf (λ w x h. one_part h) (λ v w t xs x g e h. more_parts t g e h)) (λ u w a x. ref_row x)
      (list_law {U = the.Period ∷ after_ref} the.Period refl after_ref part_law refl refl [])

  pub connect_law : (S : List Terminal) → Law (suc d) (suc d') (λ u. ConnectOf) (the.Connect ∷ []) S (λ s. spec.connect d) (λ s. spec.connect d')
  unfolding spec.connect same_terminal
  connect_law S =
      shaped connect_goes connect_comes
      (begun_law (word_less the.Connect refl (word_then the.Open refl (then_law {U = after_ref} ref_law
      (λ l. word_then the.Comma refl (then_law {U = after_ref} ref_law
      (λ r. word_then the.Close refl (then_law {U = after_tail} (tail_law d d') (λ _. word_then the.Semicolon refl (made_law {S = S} (the_connect (the_ref l) (the_ref r)))) refl)) refl)) refl))))
