-- What the making of a plan knows of the sequence, and where it stops.
use Rattle.std.proofs.Common.{◌<◌, ◌≡◌, ◌∙◌, ◌+◌, ℕ, List, length, take, slice_get, Option, None, Some, IfSome, refl, sym, ap, subst, inl, inr, arith}
use Rattle.std.proofs.lemmas.Option.{slice_get_cases, slice_get_past, slice_get_within}
use Rattle.cdl_source.specs.Outside.{told}
use Rattle.cdl_source.specs.Place.{line_of, column_of}
use Rattle.cdl_source.specs.declared.place.Place.{Place}
use Rattle.cdl_tree.specs.declared.class.FileTree.{FileTree}
use Rattle.cdl_scopes.specs.Classes.{cut, declared}
use Rattle.cdl_classes.specs.declared.found.ClassId.{ClassId}
use Rattle.cdl_classes.specs.Table.{block_of}
use Rattle.cdl_classes.specs.Verdict.{IsUnbroken}
use Rattle.cdl_connect.specs.declared.net.Net.{Net}
use Rattle.cdl_params.specs.Kept.{Model}
use Rattle.cdl_walk.specs.Texts.{path_text}
use Rattle.cdl_job.specs.declared.outcome.Spot.{Spot}
use Rattle.cdl_job.specs.declared.outcome.Spot.TheVariants.{Source, Statement}
use Rattle.cdl_check.specs.declared.fault.NetSpot.{NetSpot}
use Rattle.cdl_check.specs.declared.fault.NetSpot.TheVariants as net
use Rattle.cdl_command.specs.Answer.{IsAtPlace, IsAtSpot, StandsIn}
use Rattle.cdl_command.specs.Breaks.{Breaks, text_rule, class_rule, no_block, instance_rule, statement_rule, network_rule, spot_of}
use Rattle.cdl_command.specs.Sequences.{Sequence, AllRead, IsRead}
use Rattle.cdl_command.specs.Texts.{Contents, Holds, FirstHold, HaveTrees}
use Rattle.cdl_command.specs.Verdict.{InTurn, model, all_models}
use Rattle.cdl_command.specs.inner.Plans.{Halts, HasNet, IsNetOf, Refuses, RefusesClasses, RefusesElements, RefusesModel, RefusesRoot, model_of}
use Rattle.cdl_command.specs.inner.Reads.{AreModels, RefusesText, StopsInTexts}
use Rattle.cdl_command.specs.inner.Stops.{Stops, refusal_at_some}
use Rattle.cdl_command.specs.declared.stop.Refusal.{Refusal}
use Rattle.cdl_command.specs.declared.stop.Stop.{Stop}
use Rattle.cdl_command.specs.declared.stop.Stop.TheVariants.{Refused, RangeFault, ReadFault, WriteFault, OutOfMemory}
use Rattle.cdl_command.specs.declared.texts.Models.{Models}
use Rattle.cdl_command.proofs.ModelFacts.{as_many, file_of, held_at, hold_more}

-- ---- places

-- the place of a text stands in its line and column, where the contents are told
told_at : (contents : Contents) (name text : List ℕ) (byte : ℕ) → Holds contents name text
    → IfSome (told contents name) (λ bytes. StandsIn bytes byte (line_of (take byte text)) (column_of (take byte text)))
told_at None name text byte holds = tt
told_at (Some c) name text byte holds =
    subst (λ o. IfSome o (λ bytes. StandsIn bytes byte (line_of (take byte text)) (column_of (take byte text)))) (sym holds) (refl, refl)

-- where the name of a number is known, so is what holds of it
known : (P : List ℕ → Type 0) (o : Option (List ℕ)) (name : List ℕ) → o ≡ Some name → P name → IfSome o P
known P None name is p = absurd (cc is)
known P (Some n) name is p = let same : name ≡ n = cc is in subst P same p

at_text : (contents : Contents) (names : List (List ℕ)) (place : Place) (name text : List ℕ) → slice_get names place.file ≡ Some name → Holds contents name text
    → IsAtPlace names contents place (line_of (take place.byte text)) (column_of (take place.byte text))
at_text contents names place name text is holds =
    known (λ n. IfSome (told contents n) (λ bytes. StandsIn bytes place.byte (line_of (take place.byte text)) (column_of (take place.byte text)))) (slice_get names place.file) name is
    (told_at contents name text place.byte holds)

-- where there is no text of a number, there is no name of it
no_name : (names texts : List (List ℕ)) (k : ℕ) (P : List ℕ → Type 0) → length texts ≡ length names → slice_get texts k ≡ None → IfSome (slice_get names k) P
no_name names texts k P all is = elim (slice_get_cases texts k).1 [
  | inl there ↦ absurd (cc (is, there.2))
  | inr past ↦ subst (λ o. IfSome o P) (sym (slice_get_past names k (omega (arith, past.0, all)))) tt
]

-- a refusal at a place of the texts stands in its line and column
at_some : (contents : Contents) (s : Sequence) (texts : List (List ℕ)) (rule : ℕ) (spot : Spot) (place : Place) (o : Option (List ℕ)) → slice_get texts place.file ≡ o
    → FirstHold contents s.models texts → length texts ≡ length s.models → ((line column : ℕ) → IsAtPlace s.models contents place line column → IsAtSpot s.models contents spot line column)
    → Breaks contents s rule spot → Refuses contents s (refusal_at_some rule spot place.byte o)
at_some contents s texts rule spot place (Some text) is hold all up b =
    let held = held_at contents s.models texts place.file text hold is in
    (b, up _ _ (at_text contents s.models place held.0 text held.1 held.2))
at_some contents s texts rule spot place None is hold all up b =
    (b, up 1 1 (no_name s.models texts place.file (λ name. IfSome (told contents name) (λ bytes. StandsIn bytes place.byte 1 1)) all is))

-- ---- what was read

pub all_read : (contents : Contents) (names : List (List ℕ)) (models : Models) → AreModels contents names models → AllRead contents names models.trees
all_read contents names models m =
    record {
      first = record { texts = models.texts; hold = m.hold; have = m.have };
      all = as_many models.texts models.trees m.have ∙ m.all;
    }

-- the model of these classes, with the class as its root
pub is_read : (contents : Contents) (s : Sequence) (models : Models) (classes : List FileTree) (root : ClassId) → AreModels contents s.models models → classes ≡ models.trees
    → IsUnbroken (declared models.trees) → block_of (declared classes) (cut s.class) ≡ Some root → IsRead contents s (model_of classes root)
is_read contents s models classes root m same unbroken is =
    record {
      trees = models.trees;
      read = all_read contents s.models models m;
      is_model = record { files = same; unbroken = unbroken; root = subst (λ trees. block_of (declared trees) (cut s.class) ≡ Some root) same is };
    }

-- ---- stops

-- a stop with its cause, behind models that were begun in turn
halts : (contents : Contents) (s : Sequence) (before now count : ℕ) (here rose : Type 0) (P : Refusal → Type 0) (stop : Stop) → now ≡ before + count → InTurn contents s.models count
    → ((r : Refusal) → P r → Refuses contents s r) → (here → rose) → Stops here P stop → Halts contents s before now rose stop
halts contents s before now count here rose P (Refused r) begun turn k up h = record { count = count; begun = begun; turn = turn; cause = k r h }
halts contents s before now count here rose P (RangeFault time path) begun turn k up h = absurd h
halts contents s before now count here rose P ReadFault begun turn k up h = record { count = count; begun = begun; turn = turn; cause = up h }
halts contents s before now count here rose P WriteFault begun turn k up h = absurd h
halts contents s before now count here rose P OutOfMemory begun turn k up h = record { count = count; begun = begun; turn = turn; cause = tt }

refused_text : (contents : Contents) (s : Sequence) (texts : List (List ℕ)) (trees : List FileTree) (name : List ℕ) → FirstHold contents s.models texts → HaveTrees texts trees
    → slice_get s.models (length texts) ≡ Some name → (r : Refusal) → RefusesText contents name (length texts) r → Refuses contents s r
refused_text contents s texts trees name hold have is r h =
    let b = h.refuses in
    let here : slice_get s.models b.place.file ≡ Some name = ap (slice_get s.models) (file_of (length texts) h.text b.rule b.place b.broken) ∙ is in
    subst (Refuses contents s) (sym b.refusal_is) (
      text_rule texts trees h.text (hold_more contents s.models texts name h.text hold is h.holds) have b.broken,
      at_text contents s.models b.place name h.text here h.holds,
    )

in_turn : (contents : Contents) (names : List (List ℕ)) (texts : List (List ℕ)) (trees : List FileTree) (name : List ℕ) → FirstHold contents names texts → HaveTrees texts trees
    → slice_get names (length texts) ≡ Some name → InTurn contents names (length trees + 1)
in_turn contents names texts trees name hold have is =
    let many : length trees ≡ length texts = as_many texts trees have in
    let within : length texts < length names = slice_get_within names (length texts) name is in
    model trees (record { texts = texts; hold = hold; have = have }) (omega (arith, many, within))

pub in_texts : (contents : Contents) (s : Sequence) (before now : ℕ) (rose : Type 0) (stop : Stop) → StopsInTexts contents s.models before now rose stop → Halts contents s before now rose stop
in_texts contents s before now rose stop h =
    let many : length h.trees ≡ length h.texts = as_many h.texts h.trees h.have in
    halts contents s before now (length h.trees + 1) rose rose (RefusesText contents h.name (length h.texts)) stop (omega (arith, many, h.begun))
    (in_turn contents s.models h.texts h.trees h.name h.hold h.have h.name_is)
    (refused_text contents s h.texts h.trees h.name h.hold h.have h.name_is) (λ r. r) h.cause

-- all models were read, and then came a stop with its cause
abbrev AfterModels : Contents → Sequence → Models → ℕ → ℕ → Type 0
AfterModels contents s models before now = AreModels contents s.models models × (now ≡ before + length s.models)

behind_models : (contents : Contents) (s : Sequence) (models : Models) (before now : ℕ) (rose : Type 0) (P : Refusal → Type 0) (stop : Stop) → AfterModels contents s models before now
    → ((r : Refusal) → P r → Refuses contents s r) → Stops ⊥ P stop → Halts contents s before now rose stop
behind_models contents s models before now rose P stop m k h =
    halts contents s before now (length s.models) ⊥ rose P stop m.1 (all_models models.trees (all_read contents s.models models m.0)) k (λ none. absurd none) h

refused_class : (contents : Contents) (s : Sequence) (models : Models) → AreModels contents s.models models → (r : Refusal) → RefusesClasses models.texts models.trees r → Refuses contents s r
refused_class contents s models m r h =
    subst (Refuses contents s) (sym h.refusal_is)
    (at_some contents s models.texts h.rule (Source h.place) h.place (slice_get models.texts h.place.file) refl m.hold m.all (λ line column at. at)
    (class_rule models.trees (all_read contents s.models models m) h.broken))

pub at_classes : (contents : Contents) (s : Sequence) (models : Models) (before now : ℕ) (rose : Type 0) (stop : Stop) → AreModels contents s.models models → now ≡ before + length s.models
    → Stops ⊥ (RefusesClasses models.texts models.trees) stop → Halts contents s before now rose stop
at_classes contents s models before now rose stop m begun h =
    behind_models contents s models before now rose (RefusesClasses models.texts models.trees) stop (m, begun) (refused_class contents s models m) h

refused_block : (contents : Contents) (s : Sequence) (models : Models) (classes : List FileTree) → AreModels contents s.models models → classes ≡ models.trees → IsUnbroken (declared models.trees)
    → (r : Refusal) → RefusesRoot s.class classes r → Refuses contents s r
refused_block contents s models classes m same unbroken r h =
    subst (Refuses contents s) (sym h.1) (
      no_block models.trees (all_read contents s.models models m) unbroken (subst (λ trees. block_of (declared trees) (cut s.class) ≡ None) same h.0),
      tt,
    )

pub at_root : (contents : Contents) (s : Sequence) (models : Models) (classes : List FileTree) (before now : ℕ) (rose : Type 0) (stop : Stop) → AreModels contents s.models models
    → now ≡ before + length s.models → classes ≡ models.trees → IsUnbroken (declared models.trees) → Stops ⊥ (RefusesRoot s.class classes) stop → Halts contents s before now rose stop
at_root contents s models classes before now rose stop m begun same unbroken h =
    behind_models contents s models before now rose (RefusesRoot s.class classes) stop (m, begun) (refused_block contents s models classes m same unbroken) h

-- a place of a network is no place of a text
no_place : (contents : Contents) (s : Sequence) (place : NetSpot) → IsAtSpot s.models contents (spot_of place) 1 1
no_place contents s (net.Wire left right) = tt
no_place contents s (net.Path path) = tt

refused_elements : (contents : Contents) (s : Sequence) (models : Models) (w : Model) → AreModels contents s.models models → IsRead contents s w → (r : Refusal)
    → RefusesElements models.texts w r → Refuses contents s r
refused_elements contents s models w m read r (inl h) =
    subst (Refuses contents s) (sym h.refusal_is) (instance_rule w h.path read h.broken, tt)
refused_elements contents s models w m read r (inr h) =
    subst (Refuses contents s) (sym h.refusal_is)
    (at_some contents s models.texts h.rule (Statement (path_text h.path) h.place) h.place (slice_get models.texts h.place.file) refl m.hold m.all (λ line column at. at)
    (statement_rule w h.path read h.broken))

refused_model : (contents : Contents) (s : Sequence) (models : Models) (w : Model) → AreModels contents s.models models → IsRead contents s w → (r : Refusal)
    → RefusesModel models.texts w r → Refuses contents s r
refused_model contents s models w m read r (inl h) = refused_elements contents s models w m read r h
refused_model contents s models w m read r (inr h) =
    subst (Refuses contents s) (sym h.refusal_is) (network_rule w h.expansion h.place read h.expanded h.broken, no_place contents s h.place)

pub at_model : (contents : Contents) (s : Sequence) (models : Models) (w : Model) (before now : ℕ) (rose : Type 0) (stop : Stop) → AreModels contents s.models models
    → now ≡ before + length s.models → IsRead contents s w → Stops ⊥ (RefusesModel models.texts w) stop → Halts contents s before now rose stop
at_model contents s models w before now rose stop m begun read h =
    behind_models contents s models before now rose (RefusesModel models.texts w) stop (m, begun) (refused_model contents s models w m read) h

pub has_net : (contents : Contents) (s : Sequence) (w : Model) (n : Net) → IsRead contents s w → IsNetOf w n → HasNet contents s n
has_net contents s w n read is = record { model = w; read = read; net_is = is }
