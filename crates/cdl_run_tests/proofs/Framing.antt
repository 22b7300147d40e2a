-- A row of words of the right types is one of the net.
use Rattle.std.proofs.Common.{ℕ, ◌<◌, ◌≡◌, ◌∙◌, subst, sym, ap, arith, ℤ, List, length, map, Some, slice_get}
use Rattle.std.proofs.lemmas.List.{length-map}
use Rattle.std.proofs.lemmas.Option.{slice_get_within}
use Rattle.cdl_values.specs.History.{IsValue, word}
use Rattle.cdl_values.specs.declared.value.ValueType.{ValueType}
use Rattle.cdl_network.specs.Dependence.{root_inputs}
use Rattle.cdl_connect.specs.declared.net.Net.{Net}
use Rattle.cdl_connect.specs.Nets.{network_of}
use Rattle.cdl_pass.specs.Tick.{RowOf}
use Rattle.cdl_run.specs.Runs.{IsRow}
use Rattle.cdl_run.proofs.Laying.{read_mapped}

pub row_of : (n : Net) (rows : List ValueType) (row : List ℤ) → rows ≡ map (network_of n).value_type (root_inputs (network_of n)) → RowOf rows row → IsRow n row
row_of n rows row e r =
    let f : ℕ → ValueType = (network_of n).value_type in
    let xs : List ℕ = root_inputs (network_of n) in
    let s : RowOf (map f xs) row = subst (λ z. RowOf z row) e r in
    record {
      size = s.size ∙ length-map xs f;
      each = λ k x h.
          let l = slice_get_within xs k x h in
          let w = length-map xs f in
          subst (λ (t : ValueType). IsValue t (word row k)) (read_mapped f xs k x ValueType.Boolean h) (s.each k (omega (arith, l, w)));
    }
