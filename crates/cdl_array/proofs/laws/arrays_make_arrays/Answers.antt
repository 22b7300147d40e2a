use Rattle.cdl_array.proofs.SoundValues.{unary_array, binary_array}
use Rattle.cdl_array.proofs.SoundFunctions.{subscript_array, part_array, call_array}
use Rattle.cdl_array.proofs.SoundLiterals.{literal_array, converted_array}
use Rattle.cdl_array.proofs.laws.arrays_make_arrays.Goals as goal

pub returns-clause-unary : goal.returns-clause-unary
returns-clause-unary c = unary_array

pub returns-clause-binary : goal.returns-clause-binary
returns-clause-binary c = binary_array

pub returns-clause-literal : goal.returns-clause-literal
returns-clause-literal c = literal_array

pub returns-clause-subscript : goal.returns-clause-subscript
returns-clause-subscript c = subscript_array

pub returns-clause-part : goal.returns-clause-part
returns-clause-part c = part_array

pub returns-clause-call : goal.returns-clause-call
returns-clause-call c = call_array

pub returns-clause-converted : goal.returns-clause-converted
returns-clause-converted c = converted_array
