-- One more class.
use Rattle.std.proofs.Common.{◌≡◌, ◌≤◌, ◌+◌, ℕ, zero, suc, Bool, false, List, [], ◌∷◌, ◌++◌, map, length, Some, None, refl, sym, ◌∙◌, ap, subst, arith, inl, inr, append_assoc, nat_eq}
use Rattle.std.specs.Prelude.{if◌then◌else◌}
use Rattle.std.specs.List.{slice_get, AllZip}
use Rattle.std.specs.Option.{option_or}
use Rattle.std.proofs.lemmas.Bool.{cases_Bool, cases_lt}
use Rattle.std.proofs.lemmas.Bool.Decides.{eqb_tells}
use Rattle.std.proofs.lemmas.List.{map-append}
use Rattle.std.proofs.lemmas.Option.{slice_get_within, same_Some}
use Rattle.indexmap.specs.IndexMap.{get}
use Rattle.cdl_tree.specs.declared.class.ClassTree.{ClassTree}
use Rattle.cdl_tree.specs.declared.class.FileTree.{FileTree}
use Rattle.cdl_scopes.specs.declared.names.Node.{Node}
use Rattle.cdl_scopes.specs.declared.gather.Class.{Class}
use Rattle.cdl_scopes.specs.declared.gather.Classes.{Classes}
use Rattle.cdl_scopes.specs.Classes.{Full, Declared, full, same_full, name_of}
use Rattle.cdl_scopes.specs.Lookup.{first_from, first_of, first_named, member_names, cdl_name, modelica_name}
use Rattle.cdl_scopes.specs.Entries.{entry}
use Rattle.cdl_scopes.specs.inner.Numbered.{Names, Covers, Keeps, Grown}
use Rattle.cdl_scopes.specs.inner.Gathered.{IsShown, IsGathered, AfterAt, tree_at}
use Rattle.cdl_scopes.proofs.Lists.{get_at, cases_option, zip_length, zip_push}
use Rattle.cdl_scopes.proofs.Fronts.{same_is, same_self}
use Rattle.cdl_scopes.proofs.Firsts.{first_of-push}

pub still_shown : (files : List FileTree) (olds news : List Full) (cs : List Class) (ds : List Declared) → Keeps olds news → AllZip (IsShown olds files) cs ds → AllZip (IsShown news files) cs ds
still_shown files olds news [] [] k h = h
still_shown files olds news [] (d ∷ ds) k h = h
still_shown files olds news (c ∷ cs) [] k h = h
still_shown files olds news (c ∷ cs) (d ∷ ds) k h = (
  record {
    file = h.0.file;
    outer = k _ _ h.0.outer;
    name = k _ _ h.0.name;
    tree = h.0.tree;
    members = h.0.members;
  },
  still_shown files olds news cs ds k h.1,
)

-- a declared class has its name among those with numbers
pub named : (files : List FileTree) (paths : List Full) (cs : List Class) (ds : List Declared) (i k : ℕ) (q : Full) → AllZip (IsShown paths files) cs ds → first_from i q ds ≡ Some k
    → (n : ℕ) × (slice_get paths n ≡ Some q)
named files paths [] [] i k q h e = cc
named files paths [] (d ∷ ds) i k q h e = absurd h
named files paths (c ∷ cs) [] i k q h e = cc
named files paths (c ∷ cs) (d ∷ ds) i k q h e =
    elim (cases_Bool (same_full q (full d))) [
      | inl hit ↦ (c.name, h.0.name ∙ ap (λ r. Some r) (sym (same_is q (full d) hit)))
      | inr miss ↦ named files paths cs ds (i + 1) k q h.1 (rw miss at e)
    ]

pub grown_to : (n : ℕ) (olds news : List Full) → n ≡ length olds → Keeps olds news → n ≤ length news
grown_to zero olds news e k = omega arith
grown_to (suc n) olds news e k =
    let last = get_at olds n (omega arith) in
    omega (arith, slice_get_within news n last.0 (k n last.0 last.1))

module _ (files : List FileTree) (old : Classes) (extra : List Full) (ds : List Declared) (h : IsGathered files old extra ds)
    (nodes : List Node) (whole : List Full) (paths : List Full) (names : Names nodes whole) (same : names.paths ≡ paths) (keeps : Keeps h.names.paths paths) where
  once : (n m : ℕ) (q : Full) → slice_get paths n ≡ Some q → slice_get paths m ≡ Some q → n ≡ m
  once = subst (λ (ps : List Full). (n m : ℕ) (q : Full) → slice_get ps n ≡ Some q → slice_get ps m ≡ Some q → n ≡ m) same names.numbers.once

  -- the first of each name is as before, also where the name is new
  pub first_kept : (n : ℕ) (q : Full) → slice_get paths n ≡ Some q → get nat_eq old.by_name n ≡ first_of q ds
  first_kept n q e =
      elim (cases_lt n (length old.nodes.items)) [
        | inl lt ↦
            let before = get_at h.names.paths n (omega (arith, h.names.numbers.size)) in
            let equal : before.0 ≡ q = same_Some _ _ (sym (keeps n before.0 before.1) ∙ e) in
            h.first n q (before.1 ∙ ap (λ r. Some r) equal)
        | inr le ↦
            elim (cases_option (first_of q ds)) [
              | inl none ↦ h.within n le ∙ sym none
              | inr some ↦
                  let at = named files h.names.paths old.list.items ds 0 some.0 q h.shown some.1 in
                  let number : at.0 ≡ n = once at.0 n q (keeps at.0 q at.1) e in
                  absurd (omega (arith, slice_get_within h.names.paths at.0 q at.1, h.names.numbers.size))
            ]
      ]

differ : (k n : ℕ) → (k ≡ n → ⊥) → nat_eq k n ≡ false
differ k n h =
    elim (eqb_tells k n) [
      | inl same ↦ absurd (h same.1)
      | inr other ↦ other.0
    ]

module _ (files : List FileTree) (old : Classes) (extra : List Full) (ds : List Declared) (h : IsGathered files old extra ds)
    (all : Classes) (d : Declared) (class : Class) (number n : ℕ)
    (g : Grown h.names.paths all.nodes.items ((extra ++ map full ds) ++ full d ∷ []) n (full d))
    (indexed : (k : ℕ) → get nat_eq all.by_name k ≡ option_or (get nat_eq old.by_name k) (if nat_eq k n then Some number else None))
    (counted : number ≡ length old.list.items) (pushed : all.list.items ≡ old.list.items ++ class ∷ []) (same_cdl : all.cdl ≡ old.cdl) (same_modelica : all.modelica ≡ old.modelica) where
  size : number ≡ length ds
  size = counted ∙ zip_length (IsShown h.names.paths files) old.list.items ds h.shown

  agree : (k : ℕ) (q : Full) → slice_get g.names.paths k ≡ Some q → nat_eq k n ≡ same_full q (full d)
  agree k q e =
      elim (eqb_tells k n) [
        | inl yes_it ↦
            let equal : q ≡ full d = same_Some _ _ (sym e ∙ ap (λ i. slice_get g.names.paths i) yes_it.1 ∙ g.at) in
            yes_it.0 ∙ sym (ap (λ r. same_full r (full d)) equal ∙ same_self (full d))
        | inr other ↦
            elim (cases_Bool (same_full q (full d))) [
              | inl hit ↦ absurd (other.1 (g.names.numbers.once k n q e (g.at ∙ ap (λ r. Some r) (sym (same_is q (full d) hit)))))
              | inr miss ↦ other.0 ∙ sym miss
            ]
      ]

  longer : length old.nodes.items ≤ length all.nodes.items
  longer =
      let grows = grown_to (length h.names.paths) h.names.paths g.names.paths refl g.keeps in
      omega (arith, h.names.numbers.size, g.names.numbers.size)

  pub class_added : IsShown g.names.paths files class d → AfterAt files h.names.paths all extra (ds ++ d ∷ []) n (full d)
  class_added shown = record {
    after = record {
      gathered = record {
        names = record {
          paths = g.names.paths;
          numbers = g.names.numbers;
          covers = subst (λ (w : List Full). Covers g.names.paths w) (append_assoc extra (map full ds) (full d ∷ []) ∙ ap (λ (w : List Full). extra ++ w) (sym (map-append full ds (d ∷ [])))) g.names.covers;
        };
        shown = subst (λ (cs : List Class). AllZip (IsShown g.names.paths files) cs (ds ++ d ∷ [])) (sym pushed)
            (zip_push (IsShown g.names.paths files) old.list.items ds class d (still_shown files h.names.paths g.names.paths old.list.items ds g.keeps h.shown) shown);
        cdl = ap (λ i. slice_get g.names.paths i) same_cdl ∙ g.keeps old.cdl cdl_name h.cdl;
        modelica = ap (λ i. slice_get g.names.paths i) same_modelica ∙ g.keeps old.modelica modelica_name h.modelica;
        first = λ k q e.
            indexed k
            ∙ ap (λ o. option_or o (if nat_eq k n then Some number else None)) (first_kept files old extra ds h all.nodes.items _ g.names.paths g.names refl g.keeps k q e)
            ∙ ap (λ (b : Bool). option_or (first_of q ds) (if b then Some number else None)) (agree k q e)
            ∙ sym (first_of-push q ds d number size);
        within = λ k le.
            let small = slice_get_within g.names.paths n (full d) g.at in
            let apart : nat_eq k n ≡ false = differ k n (λ e. omega (arith, g.names.numbers.size)) in
            indexed k ∙ ap (λ o. option_or o (if nat_eq k n then Some number else None)) (h.within k (omega (arith, longer))) ∙ rw apart refl;
      };
      keeps = g.keeps;
    };
    at = g.at;
  }

pub class_added_as : (files : List FileTree) (old all : Classes) (extra : List Full) (ds : List Declared) (h : IsGathered files old extra ds) (class : Class) (tree : ClassTree) (q : Full)
    (x : List ℕ) (number n : ℕ) → Grown h.names.paths all.nodes.items ((extra ++ map full ds) ++ (q ++ x ∷ []) ∷ []) n (q ++ x ∷ []) → x ≡ name_of tree
    → ((k : ℕ) → get nat_eq all.by_name k ≡ option_or (get nat_eq old.by_name k) (if nat_eq k n then Some number else None))
    → number ≡ length old.list.items → all.list.items ≡ old.list.items ++ class ∷ [] → all.cdl ≡ old.cdl → all.modelica ≡ old.modelica
    → slice_get h.names.paths class.outer ≡ Some q → class.name ≡ n → tree_at files class.file class.top class.steps.items ≡ Some tree
    → ((y : List ℕ) → entry class.members y ≡ first_named y (member_names tree))
    → AfterAt files h.names.paths all extra (ds ++ (record { file = class.file; outer = q; tree = tree }) ∷ []) n (q ++ name_of tree ∷ [])
class_added_as files old all extra ds h class tree q x number n g e indexed counted pushed same_cdl same_modelica outer name at members =
    let d : Declared = record { file = class.file; outer = q; tree = tree } in
    let g' : Grown h.names.paths all.nodes.items ((extra ++ map full ds) ++ full d ∷ []) n (full d) =
    subst (λ (z : List ℕ). Grown h.names.paths all.nodes.items ((extra ++ map full ds) ++ (q ++ z ∷ []) ∷ []) n (q ++ z ∷ [])) e g in
    class_added files old extra ds h all d class number n g' indexed counted pushed same_cdl same_modelica
    (record {
      file = refl;
      outer = g'.keeps class.outer q outer;
      name = ap (λ i. slice_get g'.names.paths i) name ∙ g'.at;
      tree = at;
      members = members;
    })
