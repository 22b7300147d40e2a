-- How a read of a record follows the records that a reader has yet to give.
use Rattle.std.proofs.Common.{◌≡◌, ◌≤◌, ◌<◌, ◌+◌, ◌-◌, ◌++◌, Bor, Bool, true, false, ℕ, List, [], ◌∷◌, length, Option, Some, None, zero, suc, refl, sym, ap, subst, arith, ◌∙◌, inl, inr, add-one, length-append}
use Rattle.std.specs.Prelude.{if◌then◌else◌, ◌==◌, ◌&&◌}
use Rattle.std.proofs.lemmas.Bool.{false≢true, cases_Bool}
use Rattle.csv.specs.Machine.{Read, after_end, ends_at_end, ends_with, field_after, fields_after, in_field, is_byte, is_end, next_record, start_field, start_record, step}
use Rattle.csv.specs.Reading.{is_bom, strip_bom, ExplainsRead, Reached, is_flexible, ReadRecord, default_config, records_from, records_next, took_first}
use Rattle.csv.specs.declared.parser.Action.{Action}
use Rattle.csv.specs.declared.parser.Action.TheVariants as act
use Rattle.csv.specs.declared.parser.Config.{Config}
use Rattle.csv.specs.declared.parser.State.{State}
use Rattle.csv.specs.declared.parser.State.TheVariants as st
use Rattle.csv.specs.declared.parser.Terminator.{Terminator}
use Rattle.csv.specs.declared.parser.Terminator.TheVariants as term
use Rattle.csv.specs.declared.error.ErrorKind.{ErrorKind}
use Rattle.csv.specs.declared.error.ErrorKind.TheVariants as kind
use Rattle.csv.specs.declared.reader.Reader.{Reader}
use Rattle.csv.proofs.ReadFacts.{rows-end, rows-more}
use Rattle.cdl_table.specs.Rows.{GaveNext, Gives, IsOfMemory, records_after, table_records}

-- a step that ends a record leads to a state between two records
record Between (p : State × Action) : Type 0 where
  holds : is_end p.1 ≡ true → ends_at_end p.0 ≡ false

choose : (b : Bool) (x y : State × Action) → Between x → Between y → Between (if b then x else y)
choose true x y p q = p
choose false x y p q = q

goes_on : (s : State) (a : Action) → is_end a ≡ false → Between (s, a)
goes_on s a e = record { holds = λ f. absurd (false≢true (sym e ∙ f)) }

pick : (b : Bool) → ends_at_end (if b then st.AfterCr else st.StartRecord) ≡ false
pick true = refl
pick false = refl

after_end-between : (t : Terminator) (c : ℕ) → ends_at_end (after_end t c) ≡ false
after_end-between term.CRLF c = pick (c == 13)
after_end-between (term.Any t) c = refl

ends_here : (t : Terminator) (c : ℕ) → Between (after_end t c, act.EndRecord)
ends_here t c = record { holds = λ e. after_end-between t c }

in_field-between : (cfg : Config) (c : ℕ) → Between (in_field cfg c)
in_field-between cfg c =
    choose (c == cfg.delimiter) _ _ (goes_on st.StartField act.EndField refl)
    (choose (ends_with cfg.terminator c) _ _ (ends_here cfg.terminator c) (goes_on st.InField act.Copy refl))

start_field-between : (cfg : Config) (c : ℕ) → Between (start_field cfg c)
start_field-between cfg c = choose (cfg.quoting && (c == cfg.quote)) _ _ (goes_on st.InQuoted act.Skip refl) (in_field-between cfg c)

start_record-between : (cfg : Config) (c : ℕ) → Between (start_record cfg c)
start_record-between cfg c =
    choose (ends_with cfg.terminator c) _ _ (goes_on st.StartRecord act.Skip refl)
    (choose (is_byte cfg.comment c) _ _ (goes_on st.InComment act.Skip refl) (start_field-between cfg c))

step-between : (cfg : Config) (s : State) (c : ℕ) → Between (step cfg s c)
step-between cfg st.StartRecord c = start_record-between cfg c
step-between cfg st.StartField c = start_field-between cfg c
step-between cfg st.InField c = in_field-between cfg c
step-between cfg st.InQuoted c =
    choose (cfg.quoting && (c == cfg.quote)) _ _ (goes_on st.AfterQuote act.Skip refl)
    (choose (cfg.quoting && is_byte cfg.escape c) _ _ (goes_on st.InEscape act.Skip refl) (goes_on st.InQuoted act.Copy refl))
step-between cfg st.InEscape c = goes_on st.InQuoted act.Copy refl
step-between cfg st.AfterQuote c = choose (cfg.quoting && cfg.double_quote && (c == cfg.quote)) _ _ (goes_on st.InQuoted act.Copy refl) (in_field-between cfg c)
step-between cfg st.InComment c = choose (c == 10) _ _ (goes_on st.StartRecord act.Skip refl) (goes_on st.InComment act.Skip refl)
step-between cfg st.AfterCr c = choose (c == 10) _ _ (goes_on st.StartRecord act.Skip refl) (start_record-between cfg c)

-- a record takes at least one byte, where one is left, and ends between two records
pub record Shorter (xs : List ℕ) (q : Read) : Type 0 where
  pub less : length q.2 ≤ length xs - 1
  pub between : ends_at_end q.1 ≡ false

last-is : (b : Bool) (a q : Read) → (if b then Some a else None) ≡ Some q → a ≡ q
last-is true a q e = cc
last-is false a q e = cc

pub next_record-shorter : (cfg : Config) (s : State) (fields : List (List ℕ)) (field xs : List ℕ) (q : Read)
    → next_record cfg s fields field xs ≡ Some q → Shorter xs q
unfolding next_record
next_record-shorter cfg s fields field [] q e =
    subst (Shorter []) (last-is (ends_at_end s) (fields ++ (field ∷ []), st.StartRecord, []) q e) (record { less = omega arith; between = refl })
next_record-shorter cfg s fields field (c ∷ rest) q e =
    elim (cases_Bool (is_end (step cfg s c).1)) [
      | inl ending ↦
          let here : Read = (fields_after (step cfg s c).1 fields field, (step cfg s c).0, rest) in
          let at : Some here ≡ Some q = rw ending at e in
          let same : here ≡ q = cc at in
          subst (Shorter (c ∷ rest)) same (record { less = omega arith; between = (step-between cfg s c).holds ending })
      | inr past ↦
          let more = next_record-shorter cfg (step cfg s c).0 (fields_after (step cfg s c).1 fields field) (field_after (step cfg s c).1 c field) rest q (rw past at e) in
          record { less = omega (arith, more.less); between = more.between }
    ]

-- no record is left where no byte is
none-left : (cfg : Config) (s : State) → ends_at_end s ≡ false → next_record cfg s [] [] [] ≡ None
unfolding next_record
none-left cfg s b = rw b refl

-- the number of turns has no part, where it is above the number of bytes
pub records_from-fuel : (cfg : Config) (n m : ℕ) (s : State) (xs : List ℕ) → ends_at_end s ≡ false → length xs < n → length xs < m
    → records_from cfg n s xs ≡ records_from cfg m s xs
unfolding records_from
records_from-fuel cfg zero m s xs b p q = absurd (omega arith)
records_from-fuel cfg (suc n) zero s xs b p q = absurd (omega arith)
records_from-fuel cfg (suc n) (suc m) s [] b p q = rw (none-left cfg s b) refl
records_from-fuel cfg (suc n) (suc m) s (x ∷ xs) b p q =
    let go : (o : Option Read) → next_record cfg s [] [] (x ∷ xs) ≡ o → records_next (records_from cfg n) o ≡ records_next (records_from cfg m) o =
    λ o. elim o as (λ o. next_record cfg s [] [] (x ∷ xs) ≡ o → records_next (records_from cfg n) o ≡ records_next (records_from cfg m) o) [
      | None ↦ λ e. refl
      | Some r ↦ λ e.
          let short = next_record-shorter cfg s [] [] (x ∷ xs) r e in
          ap (λ (t : List (List (List ℕ))). r.0 ∷ t) (records_from-fuel cfg n m r.1 r.2 short.between (omega (arith, short.less)) (omega (arith, short.less)))
    ]
    in go (next_record cfg s [] [] (x ∷ xs)) refl

-- the records of a text after one of them, and at its end
pub records_after-more : (cfg : Config) (s : State) (xs : List ℕ) (r : Read) → ends_at_end s ≡ false → next_record cfg s [] [] xs ≡ Some r
    → records_after cfg s xs ≡ r.0 ∷ records_after cfg r.1 r.2
unfolding records_from
records_after-more cfg s [] r b e = let none = none-left cfg s b in cc
records_after-more cfg s (x ∷ xs) r b e =
    let short = next_record-shorter cfg s [] [] (x ∷ xs) r e in
    let fuel : records_from cfg (length (x ∷ xs)) r.1 r.2 ≡ records_from cfg (length r.2 + 1) r.1 r.2 =
    records_from-fuel cfg (length (x ∷ xs)) (length r.2 + 1) r.1 r.2 short.between (omega (arith, short.less)) (omega arith) in
    rw (add-one, e) (ap (λ (t : List (List (List ℕ))). r.0 ∷ t) fuel)

pub records_after-end : (cfg : Config) (s : State) (xs : List ℕ) → next_record cfg s [] [] xs ≡ None → records_after cfg s xs ≡ []
unfolding records_from
records_after-end cfg s xs e = rw (add-one, e) refl

same-place : (cfg : Config) (s t : State) (xs ys : List ℕ) → s ≡ t → xs ≡ ys → records_after cfg s xs ≡ records_after cfg t ys
same-place cfg s t xs ys p q = cc

same-between : (s t : State) → s ≡ t → ends_at_end s ≡ false → ends_at_end t ≡ false
same-between s t p q = cc

-- a read that found a record took the first, and one that found none was at the end
pub gave-next : (a b : Reader (Bor (List ℕ))) (found : Bool) (f : List (List ℕ)) (rest : List (List (List ℕ))) → Gives a rest → took_first b ≡ true → is_flexible b ≡ is_flexible a
    → ReadRecord (λ (s : Bor (List ℕ)). Some s.now) a b found f → GaveNext b found f rest
unfolding Reached
gave-next a b false f rest g first same_flexible r =
    g.gives ∙ records_after-end default_config a.state g.text (rows-end (λ (s : Bor (List ℕ)). Some s.now) a b f default_config g.text g.defaults g.source r)
gave-next a b true f rest g first same_flexible r =
    let (z, at_z, reached) = rows-more (λ (s : Bor (List ℕ)). Some s.now) a b f default_config a.state g.text g.text [] g.defaults g.source (refl, refl) r in
    let (p, e, same, ends) = reached in
    let (state, text) = ends in
    let short = next_record-shorter default_config a.state [] [] g.text p e in
    let more = records_after-more default_config a.state g.text p g.between e in (
      records_after default_config p.1 p.2,
      g.gives ∙ more ∙ ap (λ (t : List (List ℕ)). t ∷ records_after default_config p.1 p.2) (sym same),
      record {
        untrimmed = r.3 ∙ g.untrimmed;
        ready = inl first;
        flexible = same_flexible ∙ g.flexible;
        defaults = r.2 ∙ g.defaults;
        between = same-between p.1 b.state state short.between;
        text = z;
        source = at_z;
        gives = same-place default_config p.1 b.state p.2 z state text;
      },
    )

-- why a read from memory fails
pub explains-memory : (a b : Reader (Bor (List ℕ))) (k : ErrorKind) → is_flexible a ≡ true → ExplainsRead (λ (s : Bor (List ℕ)). Some s.now) a b false k → IsOfMemory k
explains-memory a b (kind.Io e) f h = tt
explains-memory a b kind.OutOfMemory f h = tt
explains-memory a b (kind.UnequalLengths pos expected len) f h = absurd (false≢true (sym h.0 ∙ f))
explains-memory a b (kind.Utf8 pos err) f h = absurd (false≢true h.0)
explains-memory a b (kind.Serialize text) f h = h
explains-memory a b (kind.Deserialize pos err) f h = h

-- no more fields than bytes, and one
few-fields : (a : Action) (fields : List (List ℕ)) (field : List ℕ) → length (fields_after a fields field) ≤ length fields + 1
few-fields act.EndField fields field = simp length-append (omega arith)
few-fields act.Skip fields field = omega arith
few-fields act.Copy fields field = omega arith
few-fields act.EndRecord fields field = simp length-append (omega arith)

next_record-few : (cfg : Config) (s : State) (fields : List (List ℕ)) (field xs : List ℕ) (q : Read)
    → next_record cfg s fields field xs ≡ Some q → length q.0 ≤ length fields + length xs + 1
unfolding next_record
next_record-few cfg s fields field [] q e =
    let same : length (fields ++ field ∷ []) ≡ length q.0 = ap (λ (r : Read). length r.0) (last-is (ends_at_end s) (fields ++ (field ∷ []), st.StartRecord, []) q e) in
    omega (arith, simp length-append at same)
next_record-few cfg s fields field (c ∷ rest) q e =
    let some = few-fields (step cfg s c).1 fields field in
    elim (cases_Bool (is_end (step cfg s c).1)) [
      | inl ending ↦
          let here : Read = (fields_after (step cfg s c).1 fields field, (step cfg s c).0, rest) in
          let at : Some here ≡ Some q = rw ending at e in
          let same : here ≡ q = cc at in
          let count : length (fields_after (step cfg s c).1 fields field) ≡ length q.0 = ap (λ (r : Read). length r.0) same in
          omega (arith, some, count)
      | inr past ↦
          let more = next_record-few cfg (step cfg s c).0 (fields_after (step cfg s c).1 fields field) (field_after (step cfg s c).1 c field) rest q (rw past at e) in
          omega (arith, some, more)
    ]

strip-few : (bytes : List ℕ) → length (strip_bom bytes) ≤ length bytes
unfolding strip_bom
strip-few [] = omega arith
strip-few (a ∷ []) = omega arith
strip-few (a ∷ b ∷ []) = omega arith
strip-few (a ∷ b ∷ c ∷ rest) = elim (cases_Bool (is_bom a b c)) [ inl yes_bom ↦ rw yes_bom (omega arith) | inr no_bom ↦ rw no_bom (omega arith) ]

first-few : (cfg : Config) (n : ℕ) (s : State) (xs : List ℕ) (r : List (List ℕ)) (rs : List (List (List ℕ))) → records_from cfg n s xs ≡ r ∷ rs → length r ≤ length xs + 1
unfolding records_from
first-few cfg zero s xs r rs e = absurd (cc e)
first-few cfg (suc n) s xs r rs e =
    let go : (o : Option Read) → next_record cfg s [] [] xs ≡ o → records_next (records_from cfg n) o ≡ r ∷ rs → length r ≤ length xs + 1 =
    λ o. elim o as (λ o. next_record cfg s [] [] xs ≡ o → records_next (records_from cfg n) o ≡ r ∷ rs → length r ≤ length xs + 1) [
      | None ↦ λ a b. absurd (cc b)
      | Some q ↦ λ a b.
          let same : q.0 ≡ r = cc b in
          let count : length q.0 ≡ length r = ap (λ (x : List (List ℕ)). length x) same in
          omega (arith, next_record-few cfg s [] [] xs q a, count)
    ]
    in go (next_record cfg s [] [] xs) refl e

-- the first record of a text has at most as many fields as the text has bytes, and one
pub first_record-few : (bytes : List ℕ) (r : List (List ℕ)) (rs : List (List (List ℕ))) → table_records bytes ≡ r ∷ rs → length r ≤ length bytes + 1
first_record-few bytes r rs e =
    omega (arith, first-few default_config (length (strip_bom bytes) + 1) st.StartRecord (strip_bom bytes) r rs e, strip-few bytes)
