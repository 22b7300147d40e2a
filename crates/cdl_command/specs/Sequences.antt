-- The sequence that a job is about: its models, the block of its class, and the model unfolded.
use Rattle.std.specs.Prelude.{◌≡◌, ℕ, List, length, Some}
use Rattle.cdl_scopes.specs.Classes.{cut, declared}
use Rattle.cdl_classes.specs.Table.{block_of}
use Rattle.cdl_classes.specs.Verdict.{IsUnbroken}
use Rattle.cdl_tree.specs.declared.class.FileTree.{FileTree}
use Rattle.cdl_connect.specs.Paths.{extended}
use Rattle.cdl_network.specs.FirstBroken.{Accepted}
use Rattle.cdl_params.specs.Kept.{Model}
use Rattle.cdl_paths.specs.declared.path.Step.{Step}
use Rattle.cdl_walk.specs.Texts.{path_text}
use Rattle.cdl_model.specs.Names.{ElementName}
use Rattle.cdl_model.specs.NetOf.{name_text}
use Rattle.cdl_model.specs.Networks.{network}
use Rattle.cdl_model.specs.Parts.{Unfolding}
use Rattle.cdl_expand.specs.Expanded.{IsExpanded}
use Rattle.cdl_trace.specs.Columns.{Labelled}
use Rattle.cdl_command.specs.Texts.{Contents, FirstHold, HaveTrees}

-- a class, and the models in which it is declared
pub record Sequence : Type 0 where
  pub class : List ℕ
  pub models : List (List ℕ)

-- The first of the names hold texts that have these trees.
pub record FirstRead (contents : Contents) (names : List (List ℕ)) (trees : List FileTree) : Type 0 where
  pub texts : List (List ℕ)
  pub hold : FirstHold contents names texts
  pub have : HaveTrees texts trees

-- All of the names hold texts, which have these trees.
pub record AllRead (contents : Contents) (names : List (List ℕ)) (trees : List FileTree) : Type 0 where
  pub first : FirstRead contents names trees
  pub all : length trees ≡ length names

-- The trees break none of the rules C10 to C13, and the class is the declared block of this number.
pub record IsModelOf (class : List ℕ) (trees : List FileTree) (w : Model) : Type 0 where
  pub files : w.files ≡ trees
  pub unbroken : IsUnbroken (declared trees)
  pub root : block_of (declared trees) (cut class) ≡ Some (record { index = w.root })

-- The models hold texts of this model, with the class as its root.
pub record IsRead (contents : Contents) (s : Sequence) (w : Model) : Type 0 where
  pub trees : List FileTree
  pub read : AllRead contents s.models trees
  pub is_model : IsModelOf s.class trees w

-- the text of an element: the path of its instance, extended by its name
abbrev pub element_path : ElementName → List ℕ
element_path x = extended (path_text x.path) (name_text x)

-- the network of a model unfolded, with the texts of its names
abbrev pub labelled : Unfolding → Labelled (List Step) ElementName
labelled u = record { network = network u; name = name_text; path = path_text }

-- The sequence breaks no rule of C1 to C50, and this is it, unfolded.
pub record IsAccepted (contents : Contents) (s : Sequence) (u : Unfolding) : Type 0 where
  pub model : Model
  pub read : IsRead contents s model
  pub expanded : IsExpanded model u
  pub accepted : Accepted (network u)
