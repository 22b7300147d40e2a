-- The port of a number among groups has the type and the flags that stand for it.
use Rattle.std.proofs.Common.{ℕ, ◌-◌, ◌<◌, ◌≡◌, refl, ap, ◌∙◌, Bool, true, false, cond, List, [], ◌∷◌, arith}
use Rattle.std.specs.Prelude.{nat_lt}
use borrow.Author.Tests.{ltb-false}
use Rattle.cdl_values.specs.declared.value.ValueType.{ValueType}
use Rattle.cdl_kinds.specs.Table.{Group}
use Rattle.cdl_kinds.specs.Ports.{PortRow, group_size, ports_count, type_among, port_in, port_among}

by_test : (b : Bool) (p q : PortRow) (s t : ValueType) → p.value_type ≡ s → (b ≡ false → q.value_type ≡ t) → (cond b p q).value_type ≡ cond b s t
by_test true p q s t e f = e
by_test false p q s t e f = f refl

one_test : (b : Bool) (p q : PortRow) (s : ValueType) → p.value_type ≡ s → (b ≡ false → ⊥) → (cond b p q).value_type ≡ s
one_test true p q s e f = e
one_test false p q s e f = absurd (f refl)

among_type : (input direct : Bool) (n : ℕ) (gs : List Group) (i : ℕ) → i < ports_count n gs → (port_among input direct n gs i).value_type ≡ type_among n gs i
among_type input direct n [] i h = absurd (omega arith)
among_type input direct n (g ∷ []) i h = one_test (nat_lt i (group_size n g)) (port_in input direct g i) (port_among input direct n [] (i - group_size n g)) g.value_type refl (λ e. omega (arith, ltb-false i (group_size n g) e))
among_type input direct n (g ∷ f ∷ gs) i h = by_test (nat_lt i (group_size n g)) (port_in input direct g i) (port_among input direct n (f ∷ gs) (i - group_size n g)) g.value_type (type_among n (f ∷ gs) (i - group_size n g)) refl (λ e. among_type input direct n (f ∷ gs) (i - group_size n g) (omega (arith, ltb-false i (group_size n g) e)))

same_input : (b : Bool) (p q : PortRow) (d : Bool) → p.input ≡ d → q.input ≡ d → (cond b p q).input ≡ d
same_input true p q d e f = e
same_input false p q d e f = f

same_direct : (b : Bool) (p q : PortRow) (d : Bool) → p.direct ≡ d → q.direct ≡ d → (cond b p q).direct ≡ d
same_direct true p q d e f = e
same_direct false p q d e f = f

among_input : (input direct : Bool) (n : ℕ) (gs : List Group) (i : ℕ) → (port_among input direct n gs i).input ≡ input
among_input input direct n [] i = refl
among_input input direct n (g ∷ gs) i = same_input (nat_lt i (group_size n g)) (port_in input direct g i) (port_among input direct n gs (i - group_size n g)) input refl (among_input input direct n gs (i - group_size n g))

among_direct : (input direct : Bool) (n : ℕ) (gs : List Group) (i : ℕ) → (port_among input direct n gs i).direct ≡ direct
among_direct input direct n [] i = refl
among_direct input direct n (g ∷ gs) i = same_direct (nat_lt i (group_size n g)) (port_in input direct g i) (port_among input direct n gs (i - group_size n g)) direct refl (among_direct input direct n gs (i - group_size n g))

pub among_is : (p : PortRow) (input direct : Bool) (n : ℕ) (gs : List Group) (i : ℕ) → p ≡ port_among input direct n gs i → i < ports_count n gs → (p.input ≡ input) × (p.value_type ≡ type_among n gs i) × (p.direct ≡ direct)
among_is p input direct n gs i e h = (ap (λ (r : PortRow). r.input) e ∙ among_input input direct n gs i, ap (λ (r : PortRow). r.value_type) e ∙ among_type input direct n gs i h, ap (λ (r : PortRow). r.direct) e ∙ among_direct input direct n gs i)

-- the same where the number, the groups and the place are known by equations
pub among_as : (p : PortRow) (input d e : Bool) (n m : ℕ) (fs gs : List Group) (i j : ℕ) → n ≡ m → fs ≡ gs → d ≡ e → i ≡ j → p ≡ port_among input d n fs i → j < ports_count m gs → (p.input ≡ input) × (p.value_type ≡ type_among m gs j) × (p.direct ≡ e)
among_as p input d e n m fs gs i j a b c f q h = let r : p ≡ port_among input e m gs j = rw (← a, ← b, ← c, ← f) q in among_is p input e m gs j r h

pub same_count : (n m : ℕ) (fs gs : List Group) (c : ℕ) → n ≡ m → fs ≡ gs → c ≡ ports_count n fs → c ≡ ports_count m gs
same_count n m fs gs c a b e = rw (← a, ← b) e
