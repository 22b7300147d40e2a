-- What is told of the files and the writers of the machine.
use Rattle.std.specs.Prelude.{ℕ, List, [], Option, Some, None}
use Rattle.cdl_source.specs.declared.host.HostSink.{HostSink}

-- what is left of the file that is open, where its reader tells it; nothing where none is open
abbrev pub rest_of_open : {File : Type 0} → (File → Option (List ℕ)) → Option File → Option (List ℕ)
rest_of_open remaining None = Some []
rest_of_open remaining (Some file) = remaining file

-- the bytes that the writer of a sink holds, where it tells them
abbrev pub writer_bytes : {W : Type 0} → (W → Option (List ℕ)) → HostSink W → Option (List ℕ)
writer_bytes contents sink = contents sink.writer

-- how often the writer of a sink has failed
abbrev pub writer_faults : {W : Type 0} → HostSink W → ℕ
writer_faults sink = sink.faults
