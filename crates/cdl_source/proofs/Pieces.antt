-- What a read of a file in memory leaves.
use Rattle.std.proofs.Common.{◌≡◌, ◌+◌, ◌<◌, ◌≤◌, ℕ, List, [], ◌++◌, length, take, drop, min, Option, None, Some, ap, sym, ◌∙◌, arith}
use Rattle.std.specs.List.{slice_get}
use Rattle.std.specs.Option.{option_map_or}
use Rattle.std.proofs.Math.Seq.{drop-nil}
use Rattle.std.proofs.lemmas.List.{drop-drop, take-append-drop}
use Rattle.std.proofs.lemmas.Grind.{common_steps}
use Rattle.cdl_source.specs.inner.Stored.{rest_of}
use Rattle.cdl_source.specs.declared.mem_files.Named.{Named}

rest_in : (file : Option Named) (at n : ℕ) → option_map_or (λ f. drop (at + n) f.bytes) file [] ≡ drop n (option_map_or (λ f. drop at f.bytes) file [])
rest_in None at n = sym (drop-nil n)
rest_in (Some f) at n = sym (drop-drop n at f.bytes)

rest_behind : (files : List Named) (current : Option ℕ) (at n : ℕ) → rest_of files current (at + n) ≡ drop n (rest_of files current at)
rest_behind files None at n = sym (drop-nil n)
rest_behind files (Some i) at n = rest_in (slice_get files i) at n

-- a read that gives no byte, though it may, leaves none
none_left : (rest : List ℕ) (room most n : ℕ) → n ≡ min (min (length rest) room) most → 1 ≤ most → n ≡ 0 → 0 < room → drop n rest ≡ []
none_left rest room most n count piece none some = grind (arith, common_steps)

-- the bytes that a read gives, and then what it leaves
pub read_step : (files : List Named) (current : Option ℕ) (at most n room : ℕ) (rest left into : List ℕ) → left ≡ rest_of files current at
    → rest_of files current at ≡ rest → n ≡ min (min (length left) room) most → 1 ≤ most → take n into ≡ take n left → length into ≡ room
    → (rest ≡ take n into ++ rest_of files current (at + n)) × (n ≡ 0 → 0 < length into → rest_of files current (at + n) ≡ [])
read_step files current at most n room rest left into lent begun count piece copied wide =
    let behind : rest_of files current (at + n) ≡ drop n left = rest_behind files current at n ∙ ap (drop n) (sym lent) in (
      sym (lent ∙ begun) ∙ sym (take-append-drop n left) ∙ ap (λ x. x ++ drop n left) (sym copied) ∙ ap (λ x. take n into ++ x) (sym behind),
      λ none some. behind ∙ none_left left room most n count piece none (rw (sym wide) some),
    )
