-- Names of what stands in a model.
use Rattle.std.specs.Prelude.{ℕ, List}
use Rattle.cdl_paths.specs.declared.path.Step.{Step}

-- a connector element by the path of its instance, the name of its connector, and its indices there
pub record ElementName : Type 0 where
  pub path : List Step
  pub name : List ℕ
  pub indices : List ℕ
