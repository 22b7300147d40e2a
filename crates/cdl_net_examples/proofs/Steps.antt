-- The texts of steps, and the steps of an instance of a net whose elements are Boolean, each input a `u`.
use Rattle.std.proofs.Common.{ℕ, ◌+◌, ◌<◌, ◌≡◌, ◌==◌, refl, sym, ap, ◌∙◌, true, List, [], ◌∷◌, ◌++◌, codes, length, map, filter}
use Rattle.std.specs.Prelude.{IsTrue, bytes_eq, slice_index_or}
use Rattle.std.proofs.lemmas.List.{append-nil}
use Rattle.cdl_source.specs.Identifiers.{is_identifier, is_keyword, keywords}
use Rattle.cdl_values.specs.declared.value.ValueType.TheVariants.{Boolean}
use Rattle.cdl_network.specs.Lists.{numbers}
use Rattle.cdl_connect.specs.declared.net.Net.{Net}
use Rattle.cdl_connect.specs.Nets.{element}
use Rattle.cdl_connect.specs.Paths.{ArrayOf, AreArrays, IsStepText, Sizes, Step, digit, extended, none, one}
use Rattle.cdl_connect.specs.WellFormed.{HasSteps, is_part_of, path_of}
use Rattle.cdl_net_examples.proofs.Tests.{EachBelow, each_below}

-- a step without an index, and one of an array
abbrev pub single : List ℕ → Step
single name = record { name = name; indices = [] }

abbrev pub indexed : List ℕ → ℕ → Step
indexed name k = record { name = name; indices = k ∷ [] }

-- the step of that number
abbrev pub step_at : List Step → ℕ → Step
step_at steps x = slice_index_or steps x (single [])

abbrev pub array : List ℕ → Sizes → ArrayOf
array name sizes = record { name = name; sizes = sizes }

pub single_text : (name : List ℕ) → IsTrue (is_identifier name) → IsStepText (single name) name
single_text name i = record { identifier = i; indices = []; spelled = none; text = sym (append-nil name) }

pub indexed_text : (name : List ℕ) (k : ℕ) → IsTrue (is_identifier name) → k < 10 → IsStepText (indexed name k) (name ++ (codes "[" ++ ((k + 48) ∷ []) ++ codes "]"))
indexed_text name k i l = record { identifier = i; indices = codes "[" ++ ((k + 48) ∷ []) ++ codes "]"; spelled = one k ((k + 48) ∷ []) (digit k l); text = refl }

pub u_named : IsTrue (is_identifier (codes "u"))
unfolding is_keyword keywords
u_named = refl

pub y_named : IsTrue (is_identifier (codes "y"))
unfolding is_keyword keywords
y_named = refl

pub n_named : IsTrue (is_identifier (codes "n"))
unfolding is_keyword keywords
n_named = refl

-- the steps of all elements, where each is Boolean, and an input where it is a `u`
pub record AreSteps (n : Net) (step : ℕ → Step) : Type 0 where
  pub texts : EachBelow (length n.elements) (λ x. IsStepText (step x) (element n x).name)
  pub types : EachBelow (length n.elements) (λ x. (element n x).value_type ≡ Boolean)
  pub inputs : EachBelow (length n.elements) (λ x. (element n x).input ≡ bytes_eq (step x).name (codes "u"))

-- the elements and the parts of an instance, as whole arrays
abbrev pub elements_in : Net → ℕ → List ℕ
elements_in n i = filter (λ x. (element n x).instance == i) (numbers 0 (length n.elements))

abbrev pub parts_in : Net → ℕ → List ℕ
parts_in n i = filter (is_part_of n i) (numbers 0 (length n.instances))

abbrev pub ArePartsOf : Net → ℕ → (ℕ → Step) → Type 0
ArePartsOf n i part = EachBelow (length n.instances) (λ j. is_part_of n i j ≡ true → (text : List ℕ) × IsStepText (part j) text × (path_of n j ≡ extended (path_of n i) text))

pub has_steps : (n : Net) (i : ℕ) (step part : ℕ → Step) (own parts : List ArrayOf) → AreSteps n step → ArePartsOf n i part → AreArrays (own ++ parts) (map step (elements_in n i) ++ map part (parts_in n i)) → HasSteps n i step part
has_steps n i step part own parts s p a = record {
  step = λ x h e. each_below (length n.elements) (λ z. IsStepText (step z) (element n z).name) s.texts x h;
  part = λ j h e. each_below (length n.instances) (λ k. is_part_of n i k ≡ true → (text : List ℕ) × IsStepText (part k) text × (path_of n k ≡ extended (path_of n i) text)) p j h e;
  arrays = (own, parts, a);
  alike = λ x y g h a b e. (type_at x g ∙ sym (type_at y h), input_at x g ∙ ap (λ z. bytes_eq z (codes "u")) e ∙ sym (input_at y h));
}
  where
    type_at : (x : ℕ) → x < length n.elements → (element n x).value_type ≡ Boolean
    type_at x h = each_below (length n.elements) (λ z. (element n z).value_type ≡ Boolean) s.types x h

    input_at : (x : ℕ) → x < length n.elements → (element n x).input ≡ bytes_eq (step x).name (codes "u")
    input_at x h = each_below (length n.elements) (λ z. (element n z).input ≡ bytes_eq (step z).name (codes "u")) s.inputs x h
