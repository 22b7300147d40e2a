-- What a fault is where its texts may lack memory.
use Rattle.std.specs.Prelude.{Result, Ok, Err}
use Rattle.cdl_check.specs.declared.fault.CheckFault.{CheckFault}
use Rattle.cdl_check.specs.declared.fault.CheckFault.TheVariants.{OutOfMemory}

abbrev pub or_no_memory : {E : Type 0} → Result CheckFault E → CheckFault
or_no_memory (Ok fault) = fault
or_no_memory (Err e) = OutOfMemory
