-- A text that was made of a net, within the limit or not.
use Rattle.std.proofs.Common.{◌≡◌, ◌⊎◌, ◌∙◌, ◌≤◌, ◌<◌, ℕ, Bool, true, false, List, length, refl, sym, subst, inl, inr}
use Rattle.std.specs.Prelude.{nat_lt}
use Rattle.std.proofs.lemmas.Bool.{ltb-true, ltb-false}
use Rattle.cdl_source.specs.declared.limits.TheConstants.{LONGEST_DOCUMENT}
use Rattle.cdl_source.specs.declared.rules.TheConstants.{CXF_TOO_LONG}
use Rattle.cdl_connect.specs.declared.net.Net.{Net}
use Rattle.cdl_command.specs.Breaks.{root_path}
use Rattle.cdl_command.specs.Documents.{document_text}
use Rattle.cdl_command.specs.inner.Documents.{HasText, RefusesDocument}
use Rattle.cdl_command.specs.inner.Stops.{Stops, refusal_of}
use Rattle.cdl_command.specs.declared.stop.Stop.{Stop}
use Rattle.cdl_command.specs.declared.stop.Stop.TheVariants.{Refused, OutOfMemory}

pub fits : (n : Net) (text read : List ℕ) (long : Bool) → text ≡ document_text n → read ≡ text → long ≡ nat_lt LONGEST_DOCUMENT (length read) → long ≡ false → HasText n text
fits n text read long e f t is = record { text_is = e; short = subst (λ (l : List ℕ). length l ≤ LONGEST_DOCUMENT) f (ltb-false LONGEST_DOCUMENT (length read) (sym t ∙ is)) }

pub too_long : (n : Net) (text read : List ℕ) (long : Bool) (s : Stop) → text ≡ document_text n → read ≡ text → long ≡ nat_lt LONGEST_DOCUMENT (length read) → long ≡ true
    → (s ≡ Refused (refusal_of CXF_TOO_LONG root_path)) ⊎ (s ≡ OutOfMemory) → Stops ⊥ (RefusesDocument n) s
too_long n text read long s e f t is (inl r) =
    subst (Stops ⊥ (RefusesDocument n)) (sym r)
    (record { long = subst (λ (l : List ℕ). LONGEST_DOCUMENT < length l) (f ∙ e) (ltb-true LONGEST_DOCUMENT (length read) (sym t ∙ is)); refusal_is = refl })
too_long n text read long s e f t is (inr r) = subst (Stops ⊥ (RefusesDocument n)) (sym r) tt
