-- Lists of columns and of words, one more at a time.
use Rattle.std.proofs.Common.{◌≡◌, ◌∙◌, ◌+◌, ◌<◌, ◌≤◌, ℕ, ℤ, Bool, true, false, cond, List, [], ◌∷◌, ◌++◌, filter, length, map, take, set, get_or, refl, sym, ap, arith}
use Rattle.std.proofs.lemmas.List.{map-append, take_all, take_more, take_more_set}
use Rattle.cdl_network.specs.Lists.{numbers}
use Rattle.cdl_run.proofs.Building.{filter_next}
use Rattle.cdl_table.specs.declared.column.Column.{Column}

pub columns_next : (f : ℕ → Bool) (g : ℕ → Column) (k : ℕ) (cs ds : List Column) → cs ≡ map g (filter f (numbers 0 k)) → ds ≡ cond (f k) (cs ++ g k ∷ []) cs → ds ≡ map g (filter f (numbers 0 (k + 1)))
columns_next f g k cs ds a e = e ∙ ap (λ l. cond (f k) (l ++ g k ∷ []) l) a ∙ by_cases (f k) ∙ ap (map g) (sym (filter_next f k))
  where
    by_cases : (b : Bool) → cond b (map g (filter f (numbers 0 k)) ++ g k ∷ []) (map g (filter f (numbers 0 k))) ≡ map g (cond b (filter f (numbers 0 k) ++ k ∷ []) (filter f (numbers 0 k)))
    by_cases true = sym (map-append g (filter f (numbers 0 k)) (k ∷ []))
    by_cases false = refl

pub words_next : (g : ℕ → ℤ) (xs : List ℕ) (ws : List ℤ) (k : ℕ) (w : ℤ) → k < length ws → length ws ≡ length xs → take k ws ≡ map g (take k xs) → w ≡ g (get_or xs k 0) → take (k + 1) (set ws k w) ≡ map g (take (k + 1) xs)
words_next g xs ws k w h l a e =
    take_more_set ws k w h
    ∙ ap (λ m. m ++ w ∷ []) a
    ∙ ap (λ z. map g (take k xs) ++ z ∷ []) e
    ∙ sym (map-append g (take k xs) (get_or xs k 0 ∷ []))
    ∙ ap (map g) (sym (take_more xs k 0 (omega (arith, h, l))))

pub words_all : (g : ℕ → ℤ) (xs : List ℕ) (ws : List ℤ) (k : ℕ) → length ws ≤ k → length ws ≡ length xs → take k ws ≡ map g (take k xs) → ws ≡ map g xs
words_all g xs ws k h l a = sym (take_all k ws h) ∙ a ∙ ap (map g) (take_all k xs (omega (arith, h, l)))
