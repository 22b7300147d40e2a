-- A byte more of a string.
use Rattle.std.proofs.Common.{◌≡◌, ◌≤◌, ◌-◌, ℕ, Bool, false, ◌==◌, List, [], ◌∷◌, ◌++◌, length, take, drop, slice_index_or, Option, Some, None, refl, sym, ap, ◌∙◌, append_assoc, arith, true, if◌then◌else◌}
use Rattle.std.proofs.lemmas.List.{take_all}
use Rattle.cdl_tree.specs.inner.Strings.{behind, put, closed, unescaped}

pub one_byte : (bytes : List ℕ) (c : ℕ) (r : Option (List ℕ)) → behind (bytes ++ c ∷ []) r ≡ behind bytes (put (Some c) r)
one_byte bytes c None = refl
one_byte bytes c (Some cs) = ap (λ z. Some z) (append_assoc bytes (c ∷ []) cs)

opened : (bytes : List ℕ) (c : ℕ) (cs : List ℕ) → (c == 34) ≡ false → (c == 92) ≡ false
    → behind bytes (if c == 34 then closed cs else (if c == 92 then unescaped true cs else put (Some c) (unescaped false cs))) ≡ behind bytes (put (Some c) (unescaped false cs))
opened bytes c cs q s = rw q (rw s refl)

-- a byte that stands for itself
pub plain_byte : (rest bytes now : List ℕ) (escape : Bool) (meant : Option (List ℕ)) → 1 ≤ length rest → escape ≡ false
    → (slice_index_or rest 0 0 == 34) ≡ false → (slice_index_or rest 0 0 == 92) ≡ false → now ≡ bytes ++ slice_index_or rest 0 0 ∷ []
    → behind bytes (unescaped escape rest) ≡ meant → behind now (unescaped escape (take (length rest - 1) (drop 1 rest))) ≡ meant
plain_byte [] bytes now escape meant some e q s m i = absurd (omega arith)
plain_byte (c ∷ cs) bytes now escape meant some e q s m i =
    let t : take (length (c ∷ cs) - 1) cs ≡ cs = take_all (length (c ∷ cs) - 1) cs (omega arith) in
    let u : behind now (unescaped escape (take (length (c ∷ cs) - 1) cs)) ≡ behind (bytes ++ c ∷ []) (unescaped false cs) = ap (λ z. behind z (unescaped escape (take (length (c ∷ cs) - 1) cs))) m ∙ (ap (λ z. behind (bytes ++ c ∷ []) (unescaped escape z)) t ∙ ap (λ z. behind (bytes ++ c ∷ []) (unescaped z cs)) e) in
    u ∙ (one_byte bytes c (unescaped false cs) ∙ (sym (opened bytes c cs q s) ∙ (ap (λ z. behind bytes (unescaped z (c ∷ cs))) (sym e) ∙ i)))
