use Rattle.std.proofs.Common.{◌≡◌, ◌∷◌, [], codes, map, take}
use Rattle.csv.specs.Records.{fields_of, partial_of}
use Rattle.cdl_table.proofs.trace.header_record.Given as goal

abbrev pub invariant-loop-column : goal.invariant-loop-column
invariant-loop-column l =
    record {
      fields : fields_of l.fields ≡ codes "time" ∷ map (λ c. c.name) (take l.column-index l.columns);
      whole : partial_of l.fields ≡ [];
    }
