-- What was read of a file, where it is told what the names hold.
use Rattle.std.proofs.Common.{◌≡◌, ◌<◌, ℕ, List, [], ◌∷◌, ◌++◌, length, take, Option, None, Some, IfSome, refl, sym, subst, length-append, arith}
use Rattle.std.proofs.Math.Seq.{take-append_seam}
use Rattle.cdl_source.specs.Outside as outside
use Rattle.cdl_source.specs.Outside.{told, IsAbsent}
use Rattle.cdl_source.specs.Whole.{KeepsHead}
use Rattle.cdl_source.specs.declared.whole.ReadError.TheVariants.{TooLarge}
use Rattle.cdl_command.specs.Texts.{Contents, Holds}

held_in : (c : outside.Contents) (name text : List ℕ) (o : Option (List ℕ)) → c name ≡ o → (c name ≡ None → ⊥) → IfSome o (λ bytes. text ≡ bytes) → c name ≡ Some text
held_in c name text None is there e = absurd (there is)
held_in c name text (Some bytes) is there e = subst (λ b. c name ≡ Some b) (sym e) is

-- what a name that is there is told to hold
pub held : (contents : Contents) (name text : List ℕ) → (IsAbsent contents name → ⊥) → IfSome (told contents name) (λ bytes. text ≡ bytes) → Holds contents name text
held None name text there same = tt
held (Some c) name text there same = held_in c name text (c name) refl there same

-- a text that a name holds, longer than the limit, of which this is the head
pub record IsLonger (limit : ℕ) (contents : Contents) (name head text : List ℕ) : Type 0 where
  pub holds : Holds contents name text
  pub long : limit < length text
  pub head_is : head ≡ take limit text

longer_in : (limit : ℕ) (c : outside.Contents) (name head : List ℕ) (o : Option (List ℕ)) → c name ≡ o → (c name ≡ None → ⊥)
    → IfSome o (λ bytes. (limit < length bytes) × (head ≡ take limit bytes)) → (text : List ℕ) × IsLonger limit (Some c) name head text
longer_in limit c name head None is there k = absurd (there is)
longer_in limit c name head (Some bytes) is there k = (bytes, record { holds = is; long = k.0; head_is = k.1 })

-- A text of which only the head was read is longer than the limit.
pub longer : (limit : ℕ) (contents : Contents) (name head : List ℕ) → (IsAbsent contents name → ⊥) → KeepsHead limit (told contents name) (TooLarge head)
    → (text : List ℕ) × IsLonger limit contents name head text
longer limit None name head there keeps = (
  head ++ 0 ∷ [],
  record {
    holds = tt;
    long = (simp length-append (omega (arith, keeps.0)));
    head_is = subst (λ n. head ≡ take n (head ++ 0 ∷ [])) keeps.0 (sym (take-append_seam head (0 ∷ [])));
  },
)
longer limit (Some c) name head there keeps = longer_in limit c name head (c name) refl there keeps.1
