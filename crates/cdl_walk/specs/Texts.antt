-- The texts of paths.
use Rattle.std.specs.Prelude.{ℕ, List, [], ◌∷◌, ◌++◌, codes, decimal}
use Rattle.cdl_paths.specs.declared.path.Step.{Step}

abbrev pub more_indices : List ℕ → List ℕ
more_indices [] = []
more_indices (n ∷ ns) = codes "," ++ (decimal n ++ more_indices ns)

-- indices in brackets, with commas between them
abbrev pub indices_text : List ℕ → List ℕ
indices_text [] = []
indices_text (n ∷ ns) = codes "[" ++ (decimal n ++ (more_indices ns ++ codes "]"))

abbrev pub step_text : Step → List ℕ
step_text s = s.name ++ indices_text s.indices

abbrev pub more_steps : List Step → List ℕ
more_steps [] = []
more_steps (s ∷ rest) = codes "." ++ (step_text s ++ more_steps rest)

-- steps with points between them
abbrev pub steps_text : List Step → List ℕ
steps_text [] = []
steps_text (s ∷ rest) = step_text s ++ more_steps rest

abbrev pub path_text : List Step → List ℕ
path_text p = codes "#" ++ steps_text p
