-- From the bytes of a model to its tree, or to the rule that it breaks first.
use Rattle.std.proofs.Common.{◌≡◌, ◌∙◌, ◌≤◌, ◌<◌, ℕ, List, length, take, Ok, Err, refl, sym, subst, inl, arith}
use Rattle.cdl_source.specs.declared.limits.TheConstants.{LONGEST_MODEL}
use Rattle.cdl_source.specs.declared.rules.TheConstants.{MODEL_TOO_LONG}
use Rattle.std.proofs.lemmas.List.{take_all}
use Rattle.cdl_source.specs.Place.{line_of, column_of}
use Rattle.cdl_source.specs.Outside.{told, IsAbsent}
use Rattle.cdl_source.specs.Whole.{KeepsHead, FaultIsAnswered as ReadFaultIsAnswered}
use Rattle.cdl_source.specs.declared.place.Token.{Token}
use Rattle.cdl_source.specs.declared.whole.ReadError.{ReadError}
use Rattle.cdl_source.specs.declared.whole.ReadError.TheVariants.{Failed, TooLarge, OutOfMemory}
use Rattle.cdl_lex.specs.Rules.{Breaks, too_long, not_utf8, no_token, past_limits, too_deep, too_many, BreaksNone, IsFirstBroken}
use Rattle.cdl_lex.specs.Splits.{Splits}
use Rattle.cdl_lex.specs.TokenList.{TokenList}
use Rattle.cdl_tree.specs.declared.class.FileTree.{FileTree}
use Rattle.cdl_tree.specs.Terminals.{lexemes}
use Rattle.cdl_parse.specs.Verdict.{Closes, IsTree}
use Rattle.cdl_reading.specs.Reading.{word_of}
use Rattle.cdl_command.specs.inner.Reads.{RefusesBytes, RefusesText, at_place, stop_of}
use Rattle.cdl_command.specs.inner.Stops.{FaultIsAnswered, Stops}
use Rattle.cdl_command.specs.declared.stop.Refusal.{Refusal}
use Rattle.cdl_command.specs.declared.stop.Stop.{Stop}
use Rattle.cdl_command.specs.declared.stop.Stop.TheVariants as stop
use Rattle.cdl_command.specs.Texts.{Contents, Holds, IsTreeOf, HasTree}
use Rattle.cdl_command.proofs.ReadFacts.{longer}

-- the tokens that were found close into the tree
tree_is : (t : TokenList) (bytes : List ℕ) (tree : FileTree) → t.bytes ≡ bytes → BreaksNone bytes → Splits bytes t.items → Closes (word_of t) tree → IsTreeOf bytes tree
tree_is t bytes tree b none splits c =
    record { none_broken = none; tokens = t.items; splits = splits; closes = subst (λ bs. Closes (lexemes bs t.items) tree) b c }

-- The tokens that were found close into each tree of the text.
closed : (t : TokenList) (bytes : List ℕ) → t.bytes ≡ bytes → ((ts : List Token) → Splits bytes ts → ts ≡ t.items) → (other : FileTree) → IsTreeOf bytes other → Closes (word_of t) other
closed t bytes b lexed other o =
    subst (λ bs. Closes (lexemes bs t.items) other) (sym b) (subst (λ ts. Closes (lexemes bytes ts) other) (lexed o.tokens o.splits) o.closes)

pub tree_found : (t : TokenList) (bytes : List ℕ) (tree : FileTree) → t.bytes ≡ bytes → BreaksNone bytes → Splits bytes t.items → ((ts : List Token) → Splits bytes ts → ts ≡ t.items)
    → Closes (word_of t) tree → ((other : FileTree) → Closes (word_of t) other → IsTree other (Ok tree)) → HasTree bytes tree
tree_found t bytes tree b none splits lexed found only =
    (tree_is t bytes tree b none splits found, λ other o. sym (only other (closed t bytes b lexed other o)))

-- A rule of tokens has a number from 1 on, and rule 1 is broken behind the longest text.
number : {bytes : List ℕ} {r p : ℕ} → Breaks bytes r p → (1 ≤ r) × (r ≡ MODEL_TOO_LONG → p ≡ LONGEST_MODEL)
number (too_long x) = (omega arith, λ e. x.place)
number (not_utf8 x) = (omega arith, λ e. absurd (omega (arith, e)))
number (no_token x) = (omega arith, λ e. absurd (omega (arith, e)))
number (past_limits ts s x) = (omega arith, λ e. absurd (omega (arith, e)))
number (too_deep ts s x) = (omega arith, λ e. absurd (omega (arith, e)))
number (too_many ts s x) = (omega arith, λ e. absurd (omega (arith, e)))

first_too_long : (text : List ℕ) → LONGEST_MODEL < length text → IsFirstBroken text MODEL_TOO_LONG LONGEST_MODEL
first_too_long text long =
    record {
      broken = too_long (record { long = long; place = refl });
      lowest = λ lower byte l b. absurd (omega (arith, l, (number b).0));
      earliest = λ earlier l b. absurd (omega (arith, l, (number b).1 refl));
    }

-- the place behind the longest text stands in the head's line and column
at_head : (file : ℕ) (head text : List ℕ) → length head ≡ LONGEST_MODEL → head ≡ take LONGEST_MODEL text
    → at_place MODEL_TOO_LONG (record { file = file; byte = LONGEST_MODEL }) head ≡ at_place MODEL_TOO_LONG (record { file = file; byte = LONGEST_MODEL }) text
at_head file head text l k =
    let same : take LONGEST_MODEL head ≡ take LONGEST_MODEL text = take_all LONGEST_MODEL head (omega (arith, l)) ∙ k in
    let P : List ℕ → Type 0 = λ front. at_place MODEL_TOO_LONG (record { file = file; byte = LONGEST_MODEL }) head
    ≡ (record { rule = MODEL_TOO_LONG; spot = (at_place MODEL_TOO_LONG (record { file = file; byte = LONGEST_MODEL }) text).spot; line = line_of front; column = column_of front }) in
    subst P same refl

pub not_whole_read : (contents : Contents) (name : List ℕ) (file : ℕ) (e : ReadError) (rose : Type 0) → (e ≡ Failed → rose) → (IsAbsent contents name → e ≡ Failed)
    → KeepsHead LONGEST_MODEL (told contents name) e → Stops rose (RefusesText contents name file) (stop_of e file)
not_whole_read contents name file Failed rose failed absent keeps = failed refl
not_whole_read contents name file (TooLarge head) rose failed absent keeps =
    let t = longer LONGEST_MODEL contents name head (λ none. absurd (cc (absent none))) keeps in
    record {
      text = t.0;
      holds = t.1.holds;
      refuses = record {
        rule = MODEL_TOO_LONG;
        place = record { file = file; byte = LONGEST_MODEL };
        broken = inl (refl, first_too_long t.0 t.1.long);
        refusal_is = at_head file head t.0 keeps.0 t.1.head_is;
      };
    }
not_whole_read contents name file OutOfMemory rose failed absent keeps = tt

-- a fault of a model is answered as one
pub fault_answered : (before now file : ℕ) (e : ReadError) → ReadFaultIsAnswered before now (Err e) → FaultIsAnswered before now (stop_of e file)
fault_answered before now file Failed h = tt
fault_answered before now file (TooLarge head) h = h
fault_answered before now file OutOfMemory h = h

-- a stop of work that begins no file leaves their faults
pub calm : (refuses : Refusal → Type 0) (before now : ℕ) (s : Stop) → now ≡ before → Stops ⊥ refuses s → FaultIsAnswered before now s
calm refuses before now (stop.Refused r) same h = same
calm refuses before now (stop.RangeFault time path) same h = same
calm refuses before now stop.ReadFault same h = tt
calm refuses before now stop.WriteFault same h = same
calm refuses before now stop.OutOfMemory same h = same

-- a text that is refused is one that its name holds
pub text_refused : (contents : Contents) (name text : List ℕ) (file : ℕ) (rose : Type 0) (s : Stop) → Holds contents name text → Stops ⊥ (RefusesBytes file text) s → Stops rose (RefusesText contents name file) s
text_refused contents name text file rose (stop.Refused r) holds h = record { text = text; holds = holds; refuses = h }
text_refused contents name text file rose (stop.RangeFault time path) holds h = absurd h
text_refused contents name text file rose stop.ReadFault holds h = absurd h
text_refused contents name text file rose stop.WriteFault holds h = absurd h
text_refused contents name text file rose stop.OutOfMemory holds h = tt

pub fault_behind : (before mid now : ℕ) (s : Stop) → mid ≡ before → FaultIsAnswered mid now s → FaultIsAnswered before now s
fault_behind before mid now s same h = subst (λ n. FaultIsAnswered n now s) same h
