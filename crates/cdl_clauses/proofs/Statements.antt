-- The laws of statements: connects, loops and what stands in the equation part of a block.
use Rattle.std.proofs.Common.{◌≡◌, ℕ, zero, suc, ◌<◌, Bool, true, false, List, [], ◌∷◌, ◌++◌, length, refl, sym, ap, ◌∙◌, subst, arith, if◌then◌else◌, append_assoc, append-nil}
use Rattle.cdl_tree.specs.declared.terminal.Terminal.{Terminal}
use Rattle.cdl_tree.specs.declared.terminal.Terminal.TheVariants as the
use Rattle.cdl_tree.specs.declared.expr.Expr.{Expr}
use Rattle.cdl_tree.specs.declared.class.Statement.{Statement}
use Rattle.cdl_tree.specs.declared.class.Statement.TheVariants as variant
use Rattle.cdl_tree.specs.declared.class.Loop.{Loop as Turns}
use Rattle.cdl_tree.specs.Words.{Lexeme, Word, same_terminal}
use Rattle.cdl_tree.specs.Trees.{the_ident, the_part, the_ref, the_connect, the_loop}
use Rattle.cdl_tree.specs.Grammar.{ExprOf, no_text, no_note, tail, no_sub, part, one_part, connect, ConnectOf, StatementOf, a_connect, a_loop, LoopOf, loop, Body, no_body, more_body, Statements, no_statement, then_statement, then_note, EquationPart, no_equation, equation}
use Rattle.cdl_clauses.specs.declared.statement.LoopHead.{LoopHead}
use Rattle.cdl_reading.specs.Reading.{Parser, and_then, pure, terminal, sees}
use Rattle.cdl_clauses.specs.Statements as spec
use Rattle.cdl_clauses.specs.Statements.{the_head}
use Rattle.cdl_reading.proofs.Steps.{Then, both, Is, is, Made, is_made}
use Rattle.cdl_reading.proofs.Laws.{member, within_self, Law, shaped, begun_law, pure_law, made_law, then_law, then_less, Or, this, that, either_law, Chosen, found, missing, only, only_is, is_only, eaten_law, One, a_token, token_of, word_then, word_less, same_read, refused_law}
use Rattle.cdl_reading.proofs.Repeats.{Repeats, stop, snoc, fold, Loop, repeat_law, is_then, then_assoc}
use Rattle.cdl_expressions.proofs.Sets.{after_expr}
use Rattle.cdl_expressions.proofs.ExprLaws.{IdentOf, an_ident, ident_law}
use Rattle.cdl_expressions.proofs.Operators.{expr_law}
use Rattle.cdl_clauses.proofs.Notes.{NoteClause, note_clause, note_clause_law, note_some}
use Rattle.cdl_clauses.proofs.Connects.{connect_law, connect_some}

abbrev statements : List Terminal
statements = the.Connect ∷ the.For ∷ []

abbrev equations : List Terminal
equations = the.Annotation ∷ statements

abbrev after_statement : List Terminal
after_statement = equations ++ the.End ∷ []

-- ---- heads of loops

data HeadOf : Word → LoopHead → Type 0 where
  a_head : (f i n c o : Lexeme) {u v : Word} {l h : Expr} → f.terminal ≡ the.For → i.terminal ≡ the.Identifier → n.terminal ≡ the.In → ExprOf u l → c.terminal ≡ the.Colon
      → ExprOf v h → o.terminal ≡ the.Loop → HeadOf (f ∷ i ∷ n ∷ (u ++ c ∷ (v ++ o ∷ []))) (the_head (the_ident i) l h)

abbrev HeadR : Word → Word → LoopHead → Type 0
HeadR =
    Then (One the.For) (λ _. Then (λ u. IdentOf) (λ i. Then (One the.In) (λ _. Then (λ u. ExprOf) (λ l. Then (One the.Colon) (λ _. Then (λ u. ExprOf) (λ h. Then (One the.Loop) (λ _. Is (the_head i l h))))))))

head_goes : (s w : Word) (x : LoopHead) → HeadR s w x → HeadOf w x
head_goes s w x (both (a_token f {a = a1} hf) (both (an_ident i hi) (both (a_token n {a = a2} hn) (both {x = u} {a = l} hl (both (a_token c {a = a3} hc) (both {x = v} {a = h} hh (both (a_token o {a = a4} ho) e))))))) =
    is_then (λ y b. HeadOf (f ∷ i ∷ n ∷ (u ++ c ∷ (v ++ o ∷ y))) b) e
    (a_head f i n c o (only_is the.For f.terminal a1 hf) hi (only_is the.In n.terminal a2 hn) hl (only_is the.Colon c.terminal a3 hc) hh (only_is the.Loop o.terminal a4 ho))

head_comes : (s w : Word) (x : LoopHead) → HeadOf w x → HeadR s w x
head_comes s _ _ (a_head f i n c o hf hi hn hl hc hh ho) =
    both (a_token f (is_only the.For f.terminal hf)) (both (an_ident i hi) (both (a_token n (is_only the.In n.terminal hn)) (both hl
    (both (a_token c (is_only the.Colon c.terminal hc)) (both hh (both (a_token o (is_only the.Loop o.terminal ho)) is))))))

head_some : (s w : Word) (x : LoopHead) → HeadOf w x → 0 < length w
head_some s _ _ (a_head f i n c o hf hi hn hl hc hh ho) = omega arith

-- ---- bodies

-- one more statement
data Added (xs : List Statement) (u : Word) : Word → List Statement → Type 0 where
  added : {w : Word} {x : Statement} → StatementOf w x → Added xs u w (xs ++ x ∷ [])

statement_some : {w : Word} {x : Statement} → StatementOf w x → 0 < length w
statement_some (a_connect h) = connect_some h
statement_some (a_loop (loop f i n c o e g s hf hi hn hl hc hh ho hb he hg hs)) = omega arith

added_some : (xs : List Statement) (u w : Word) (ys : List Statement) → Added xs u w ys → 0 < length w
added_some xs u w _ (added h) = statement_some h

abbrev AddedR : List Statement → Word → Word → List Statement → Type 0
AddedR xs = Then (λ u. StatementOf) (λ x. Is (xs ++ x ∷ []))

added_goes : (xs : List Statement) (u w : Word) (ys : List Statement) → AddedR xs u w ys → Added xs u w ys
added_goes xs u w ys (both {x = v} {a = x} h i) =
    is_then (λ y b. Added xs u (v ++ y) b) i (subst (λ z. Added xs u z (xs ++ x ∷ [])) (sym (append-nil v)) (added h))

added_comes : (xs : List Statement) (u w : Word) (ys : List Statement) → Added xs u w ys → AddedR xs u w ys
added_comes xs u w _ (added {x = x} h) = subst (λ z. AddedR xs u z (xs ++ x ∷ [])) (append-nil w) (both h is)

body_out : (u : Word) {w : Word} {xs : List Statement} → Body w xs → Repeats Added [] u w xs
body_out u no_body = stop
body_out u (more_body b x) = snoc (body_out u b) (added x)

body_grow : (v w : Word) (a b : List Statement) → Body v a → Added a v w b → Body (v ++ w) b
body_grow v w a _ b (added x) = more_body b x

abbrev body_step : Parser Statement → List Statement → Word → Parser (List Statement)
body_step whole xs s i = and_then (whole i) (λ x. pure (xs ++ x ∷ []))

abbrev body_loop : ℕ → Parser Statement → ℕ → List Statement → Word → Parser (List Statement)
body_loop d whole n xs s = spec.body_from d whole n xs

body_is : (d : ℕ) (whole : Parser Statement) → Loop spec.begins_statement (body_step whole) (body_loop d whole)
unfolding spec.body_from
body_is d whole = record { at_end = λ a s i. refl; turn = λ n a s i. turn n a i (spec.begins_statement (terminal i)) }
  where
    turn : (n : ℕ) (xs : List Statement) (i : Word) (b : Bool) → (if b then (λ i. and_then (whole i) (λ x. spec.body_from d whole n (xs ++ x ∷ []))) else pure xs) i
        ≡ (if b then and_then (and_then (whole i) (λ x. pure (xs ++ x ∷ []))) (λ more. spec.body_from d whole n more) else pure xs i)
    turn n xs i true = sym (then_assoc (whole i) (λ x. pure (xs ++ x ∷ [])) (λ more. spec.body_from d whole n more))
    turn n xs i false = refl

-- ---- loops

abbrev LoopR : Word → Word → Turns → Type 0
LoopR u =
    Then (λ u. HeadOf) (λ h. Then (λ u. Body) (λ xs. Then (One the.End) (λ _. Then (One the.For) (λ _. Then (One the.Semicolon) (λ _. Made (the_loop h.index h.low h.high xs)))))) []

loop_word : (f i n c o e g s : Lexeme) (u v w : Word) → ((((f ∷ i ∷ n ∷ (u ++ c ∷ (v ++ o ∷ []))) ++ w) ++ e ∷ []) ++ g ∷ []) ++ s ∷ [] ≡ f ∷ i ∷ n ∷ (u ++ c ∷ (v ++ o ∷ (w ++ e ∷ g ∷ s ∷ [])))
loop_word f i n c o e g s u v w = simp append_assoc

loop_shape : (f i n c o e g s : Lexeme) (u v w : Word) → (f ∷ i ∷ n ∷ (u ++ c ∷ (v ++ o ∷ []))) ++ (w ++ e ∷ g ∷ s ∷ []) ≡ f ∷ i ∷ n ∷ (u ++ c ∷ (v ++ o ∷ (w ++ e ∷ g ∷ s ∷ [])))
loop_shape f i n c o e g s u v w = simp append_assoc

loop_goes : (t w : Word) (x : Turns) → LoopR t w x → LoopOf w x
loop_goes t _ x (both (a_head f i n c o {u = u} {v = v} {l = l} {h = h} hf hi hn hl hc hh ho) (both {x = w} {a = xs} hb (both (a_token e {a = a1} he) (both (a_token g {a = a2} hg) (both (a_token s {a = a3} hs) (is_made m)))))) =
    subst (λ z. LoopOf z x) (sym (loop_shape f i n c o e g s u v w))
    (subst (LoopOf (f ∷ i ∷ n ∷ (u ++ c ∷ (v ++ o ∷ (w ++ e ∷ g ∷ s ∷ []))))) (sym (m ∙ ap (the_loop (the_ident i) l h xs) (loop_word f i n c o e g s u v w)))
    (loop f i n c o e g s hf hi hn hl hc hh ho hb (only_is the.End e.terminal a1 he) (only_is the.For g.terminal a2 hg) (only_is the.Semicolon s.terminal a3 hs)))

loop_comes : (t w : Word) (x : Turns) → LoopOf w x → LoopR t w x
loop_comes t _ _ (loop f i n c o e g s {u = u} {v = v} {w = w} {l = l} {h = h} {body = xs} hf hi hn hl hc hh ho hb he hg hs) =
    subst (λ z. LoopR t z (the_loop (the_ident i) l h xs (f ∷ i ∷ n ∷ (u ++ c ∷ (v ++ o ∷ (w ++ e ∷ g ∷ s ∷ [])))))) (loop_shape f i n c o e g s u v w)
    (both (a_head f i n c o hf hi hn hl hc hh ho) (both hb (both (a_token e (is_only the.End e.terminal he)) (both (a_token g (is_only the.For g.terminal hg)) (both (a_token s (is_only the.Semicolon s.terminal hs))
    (is_made (ap (the_loop (the_ident i) l h xs) (sym (loop_word f i n c o e g s u v w)))))))))

-- ---- statements

abbrev StatementR : Word → Word → Statement → Type 0
StatementR = Or (Then (λ u. ConnectOf) (λ c. Is (variant.Connect c))) (Then (λ u. LoopOf) (λ l. Is (variant.Loop l)))

statement_goes : (u w : Word) (x : Statement) → StatementR u w x → StatementOf w x
statement_goes u w x (this (both {x = v} {a = c} h i)) = is_then (λ y b. StatementOf (v ++ y) b) i (subst (λ z. StatementOf z (variant.Connect c)) (sym (append-nil v)) (a_connect h))
statement_goes u w x (that (both {x = v} {a = l} h i)) = is_then (λ y b. StatementOf (v ++ y) b) i (subst (λ z. StatementOf z (variant.Loop l)) (sym (append-nil v)) (a_loop h))

statement_comes : (u w : Word) (x : Statement) → StatementOf w x → StatementR u w x
statement_comes u w _ (a_connect {c = c} h) = subst (λ z. StatementR u z (variant.Connect c)) (append-nil w) (this (both h is))
statement_comes u w _ (a_loop {l = l} h) = subst (λ z. StatementR u z (variant.Loop l)) (append-nil w) (that (both h is))

statement_first : (x kd : Terminal) → kd ≡ x → member statements x ≡ true → member statements kd ≡ true
statement_first x kd e h = subst (λ z. member statements z ≡ true) (sym e) h

statement_leads : (w j : Word) (x : Statement) → StatementOf w x → member statements (terminal (w ++ j)) ≡ true
unfolding same_terminal
statement_leads _ j _ (a_connect (connect c o m e s hc ho hl hm hr he hz hs)) = statement_first the.Connect c.terminal hc refl
statement_leads _ j _ (a_loop (loop f i n c o e g s hf hi hn hl hc hh ho hb he hg hs)) = statement_first the.For f.terminal hf refl

-- the least statement
least_word : Word
least_word = token_of the.Connect ∷ token_of the.Open ∷ token_of the.Identifier ∷ token_of the.Comma ∷ token_of the.Identifier ∷ token_of the.Close ∷ token_of the.Semicolon ∷ []

least_statement : Statement
least_statement =
    let end = the_ref (the_part (the_ident (token_of the.Identifier)) [] ∷ []) in
    variant.Connect (the_connect end end least_word)

least_is : StatementOf least_word least_statement
unfolding least_word least_statement
least_is =
    a_connect (connect (token_of the.Connect) (token_of the.Open) (token_of the.Comma) (token_of the.Close) (token_of the.Semicolon) refl refl (one_part (part (token_of the.Identifier) refl no_sub)) refl
    (one_part (part (token_of the.Identifier) refl no_sub)) refl (tail no_text no_note) refl)

module _ (d d' : ℕ) where
  head_law : Law (suc d) (suc d') (λ u. HeadOf) (the.For ∷ []) (after_statement) (λ s. spec.loop_head d) (λ s. spec.loop_head d')
  unfolding spec.loop_head same_terminal
  head_law =
      shaped head_goes head_comes
      (word_less the.For refl (then_law {U = the.In ∷ []} ident_law
      (λ i. word_then the.In refl (then_law {U = after_expr} (expr_law d d')
      (λ l. word_then the.Colon refl (then_law {U = after_expr} (expr_law d d') (λ h. word_then the.Loop refl (pure_law {S = after_statement} (the_head i l h))) refl)) refl)) refl))

  module _ (whole whole' : Parser Statement) (h : Law d d' (λ u. StatementOf) statements after_statement (λ s. whole) (λ s. whole')) where
    added_law : (xs : List Statement) → Law d d' (Added xs) statements after_statement (body_step whole xs) (body_step whole' xs)
    added_law xs = shaped (added_goes xs) (added_comes xs) (then_law {U = after_statement} h (λ x. pure_law {S = after_statement} (xs ++ x ∷ [])) (within_self after_statement))

    body_law : Law d d' (λ u. Body) (statements ++ the.End ∷ []) (the.End ∷ []) (λ s. spec.body d whole) (λ s. spec.body d' whole')
    unfolding spec.body same_terminal
    body_law =
        shaped (λ u w b r. fold Body body_grow no_body r) (λ u w b x. body_out [] x)
        (begun_law (repeat_law d d' spec.begins_statement (body_step whole) (body_step whole') (body_loop d whole) (body_loop d' whole') Added statements (the.End ∷ []) after_statement (body_is d whole) (body_is d' whole') added_some
        added_law refl refl refl d d' (omega arith) (omega arith) []))

    loop_law : Law (suc d) (suc d') (λ u. LoopOf) (the.For ∷ []) after_statement (λ s. spec.a_loop d whole) (λ s. spec.a_loop d' whole')
    unfolding spec.a_loop same_terminal
    loop_law =
        shaped loop_goes loop_comes
        (begun_law (then_less {U = after_statement} head_some head_law
        (λ h. then_law {U = the.End ∷ []} body_law
        (λ xs. word_then the.End refl (word_then the.For refl (word_then the.Semicolon refl (made_law {S = after_statement} (the_loop h.index h.low h.high xs))))) refl) refl))

    any_law : Law (suc d) (suc d') (λ u. StatementOf) statements after_statement (λ s. spec.any_statement d whole) (λ s. spec.any_statement d' whole')
    unfolding spec.any_statement sees same_terminal
    any_law =
        shaped statement_goes statement_comes
        (either_law (λ kd. same_terminal kd the.Connect) (then_law {U = after_statement} (connect_law d d' after_statement) (λ c. pure_law {S = after_statement} (variant.Connect c)) refl)
        (then_law {U = after_statement} loop_law (λ l. pure_law {S = after_statement} (variant.Loop l)) refl) refl refl)

statement_law : (d d' : ℕ) → Law d d' (λ u. StatementOf) statements after_statement (λ s. spec.statement d) (λ s. spec.statement d')
unfolding spec.statement
statement_law zero d' = refused_law least_word least_statement least_is (λ w x h. statement_some h) statement_leads
statement_law (suc d) zero = same_read (any_law d zero (spec.statement d) (spec.statement zero) (statement_law d zero))
statement_law (suc d) (suc d') = any_law d d' (spec.statement d) (spec.statement d') (statement_law d d')

-- ---- the equation part

-- one more statement, or a note
data Stated (xs : List Statement) (u : Word) : Word → List Statement → Type 0 where
  a_note : {w : Word} → NoteClause w → Stated xs u w xs
  a_statement : {w : Word} {ys : List Statement} → Added xs u w ys → Stated xs u w ys

stated_some : (a : List Statement) (u w : Word) (b : List Statement) → Stated a u w b → 0 < length w
stated_some a u w _ (a_note n) = note_some n
stated_some a u w b (a_statement x) = added_some a u w b x

abbrev StatedR : List Statement → Word → Word → List Statement → Type 0
StatedR xs = Or (Then (λ u w (a : Unit {0}). NoteClause w) (λ _. Is xs)) (Added xs)

stated_goes : (xs : List Statement) (u w : Word) (b : List Statement) → StatedR xs u w b → Stated xs u w b
stated_goes xs u w b (this (both {x = v} h i)) = is_then (λ y b. Stated xs u (v ++ y) b) i (subst (λ z. Stated xs u z xs) (sym (append-nil v)) (a_note h))
stated_goes xs u w b (that h) = a_statement h

stated_comes : (xs : List Statement) (u w : Word) (b : List Statement) → Stated xs u w b → StatedR xs u w b
stated_comes xs u w _ (a_note h) = subst (λ z. StatedR xs u z xs) (append-nil w) (this (both {a = tt} h is))
stated_comes xs u w b (a_statement h) = that h

statements_out : (u : Word) {w : Word} {xs : List Statement} → Statements w xs → Repeats Stated [] u w xs
statements_out u no_statement = stop
statements_out u (then_statement x y) = snoc (statements_out u x) (a_statement (added y))
statements_out u (then_note s x n e) = snoc (statements_out u x) (a_note (note_clause s n e))

stated_grow : (v w : Word) (a b : List Statement) → Statements v a → Stated a v w b → Statements (v ++ w) b
stated_grow v w a _ x (a_statement (added y)) = then_statement x y
stated_grow v _ a _ x (a_note (note_clause s n e)) = then_note s x n e

abbrev equation_step : ℕ → List Statement → Word → Parser (List Statement)
equation_step d xs s = spec.equation d xs

abbrev equation_loop : ℕ → ℕ → List Statement → Word → Parser (List Statement)
equation_loop d n xs s = spec.equations_from d n xs

equations_is : (d : ℕ) → Loop spec.begins_equation (equation_step d) (equation_loop d)
unfolding spec.equations_from
equations_is d = record { at_end = λ a s i. refl; turn = λ n a s i. turn n a i (spec.begins_equation (terminal i)) }
  where
    turn : (n : ℕ) (xs : List Statement) (i : Word) (b : Bool) → (if b then (λ i. and_then (spec.equation d xs i) (λ more. spec.equations_from d n more)) else pure xs) i
        ≡ (if b then and_then (spec.equation d xs i) (λ more. spec.equations_from d n more) else pure xs i)
    turn n xs i true = refl
    turn n xs i false = refl

module _ (d d' : ℕ) where
  stated_law : (xs : List Statement) → Law d d' (Stated xs) equations after_statement (equation_step d xs) (equation_step d' xs)
  unfolding spec.equation sees same_terminal
  stated_law xs =
      shaped (stated_goes xs) (stated_comes xs)
      (either_law (λ kd. same_terminal kd the.Annotation) (then_law {U = after_statement} (note_clause_law d d' after_statement) (λ _. pure_law {S = after_statement} xs) refl)
      (added_law d d' (spec.statement d) (spec.statement d') (statement_law d d') xs) refl refl)

  statements_law : Law d d' (λ u. Statements) after_statement (the.End ∷ []) (λ s. spec.equations_from d d []) (λ s. spec.equations_from d' d' [])
  unfolding same_terminal
  statements_law =
      shaped (λ u w b r. fold Statements stated_grow no_statement r) (λ u w b x. statements_out [] x)
      (begun_law (repeat_law d d' spec.begins_equation (equation_step d) (equation_step d') (equation_loop d) (equation_loop d') Stated equations (the.End ∷ []) after_statement (equations_is d) (equations_is d') stated_some
      stated_law refl refl refl d d' (omega arith) (omega arith) []))

  equation_goes : (u w : Word) (xs : List Statement) → Chosen (only the.Equation) (λ _. λ u. Statements) (Is []) u w xs → EquationPart w xs
  equation_goes u w xs (found t {a = a} h x) = equation t (only_is the.Equation t.terminal a h) x
  equation_goes u w xs (missing is) = no_equation

  equation_comes : (u w : Word) (xs : List Statement) → EquationPart w xs → Chosen (only the.Equation) (λ _. λ u. Statements) (Is []) u w xs
  equation_comes u _ _ no_equation = missing is
  equation_comes u _ _ (equation t h x) = found t (is_only the.Equation t.terminal h) x

  pub equation_law : Law d d' (λ u. EquationPart) (the.Equation ∷ the.End ∷ []) (the.End ∷ []) (λ s. spec.equation_part d) (λ s. spec.equation_part d')
  unfolding spec.equation_part same_terminal
  equation_law =
      shaped equation_goes equation_comes
      (eaten_law {n' = d} {m' = d'} the.Equation refl (omega arith) (omega arith) statements_law (pure_law {S = the.End ∷ []} []) refl)
