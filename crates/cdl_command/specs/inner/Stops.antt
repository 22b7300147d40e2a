-- Why work stops before its end, and what is answered then.
use Rattle.std.specs.Prelude.{◌≡◌, ℕ, List, Option, Some, None, Result, Ok, Err, slice_get, take, ⊤}
use Rattle.cdl_source.specs.Place.{line_of, column_of}
use Rattle.cdl_source.specs.declared.place.Place.{Place}
use Rattle.cdl_job.specs.declared.outcome.Outcome.{Outcome}
use Rattle.cdl_job.specs.declared.outcome.Outcome.TheVariants as outcome
use Rattle.cdl_job.specs.declared.outcome.Spot.{Spot}
use Rattle.cdl_trace.specs.declared.stop.TraceStop.{TraceStop}
use Rattle.cdl_trace.specs.declared.stop.TraceStop.TheVariants as trace
use Rattle.cdl_command.specs.declared.stop.Refusal.{Refusal}
use Rattle.cdl_command.specs.declared.stop.Ended.{Ended}
use Rattle.cdl_command.specs.declared.stop.Stop.{Stop}
use Rattle.cdl_command.specs.declared.stop.Stop.TheVariants.{Refused, RangeFault, ReadFault, WriteFault, OutOfMemory}

-- a rule that is broken at a spot of no text
abbrev pub refusal_of : ℕ → Spot → Refusal
refusal_of rule spot = record { rule = rule; spot = spot; line = 1; column = 1 }

-- a rule that is broken at a spot that is a byte of this text
abbrev pub refusal_at : ℕ → Spot → ℕ → List ℕ → Refusal
refusal_at rule spot byte text =
    record { rule = rule; spot = spot; line = line_of (take byte text); column = column_of (take byte text) }

abbrev pub refusal_at_some : ℕ → Spot → ℕ → Option (List ℕ) → Refusal
refusal_at_some rule spot byte (Some text) = refusal_at rule spot byte text
refusal_at_some rule spot byte None = refusal_of rule spot

-- the same of a spot that is a place in one of these texts
abbrev pub refusal_in : ℕ → Spot → Place → List (List ℕ) → Refusal
refusal_in rule spot place texts = refusal_at_some rule spot place.byte (slice_get texts place.file)

abbrev pub plain_end : Outcome → Ended
plain_end outcome = record { outcome = outcome; line = 1; column = 1 }

abbrev pub end_of : Stop → Ended
end_of (Refused r) = record { outcome = outcome.Refused r.rule r.spot; line = r.line; column = r.column }
end_of (RangeFault time path) = plain_end (outcome.RangeFault time path)
end_of ReadFault = plain_end outcome.ReadFault
end_of WriteFault = plain_end outcome.WriteFault
end_of OutOfMemory = plain_end outcome.OutOfMemory

-- how work ends that is done, or stops
abbrev pub ended_of : {T : Type 0} → Result T Stop → Ended
ended_of (Ok done) = plain_end outcome.Done
ended_of (Err stop) = end_of stop

-- the same of ticks
abbrev pub stop_of : TraceStop → Stop
stop_of (trace.RangeFault time path) = RangeFault time path
stop_of trace.WriteFault = WriteFault
stop_of trace.OutOfMemory = OutOfMemory

-- Each stop before a text is written has its cause: a refusal this one, and a fault of the files a risen count.
abbrev pub Stops : Type 0 → (Refusal → Type 0) → Stop → Type 0
Stops rose refuses (Refused r) = refuses r
Stops rose refuses (RangeFault time path) = ⊥
Stops rose refuses ReadFault = rose
Stops rose refuses WriteFault = ⊥
Stops rose refuses OutOfMemory = ⊤

-- No fault of the files is passed over: where their count rose, the stop is a fault.
abbrev pub FaultIsAnswered : ℕ → ℕ → Stop → Type 0
FaultIsAnswered before now (Refused r) = now ≡ before
FaultIsAnswered before now (RangeFault time path) = now ≡ before
FaultIsAnswered before now ReadFault = ⊤
FaultIsAnswered before now WriteFault = now ≡ before
FaultIsAnswered before now OutOfMemory = now ≡ before
