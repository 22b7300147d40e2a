-- What each outcome is told by: the exit code, and the text on standard error.
use Rattle.std.specs.Prelude.{ℕ, ℤ, ◌==◌, ◌<◌, ◌≤◌, nat_lt, length, List, [], ◌∷◌, ◌++◌, if◌then◌else◌, codes, decimal, get_or}
use Rattle.std.specs.Fmt.{signed_decimal}
use Rattle.cdl_source.specs.declared.limits.TheConstants.{MOST_MODELS}
use Rattle.cdl_source.specs.declared.rules.TheConstants.{MODEL_TOO_LONG, NOT_UTF8, NO_TOKEN, PAST_LIMITS, NESTED_TOO_DEEPLY, EXPRESSION_TOO_LONG, SYNTAX, WRONG_END_NAME, NOT_BUILT, DECLARED_TWICE, NAME_NOT_FREE, NAME_NOT_FOUND, NOT_SUPPORTED, NO_SUCH_BLOCK, TOO_MANY_OR_TOO_DEEP, CONTAINS_ITSELF, NOTHING_TO_MODIFY, MODIFIED_TWICE, FINAL_MODIFIED, WRONG_SHAPE, WRONG_TYPE, UNKNOWN_NAME, SIZE_OUT_OF_RANGE, PARAMETERS_TOO_DEEP, NO_VALUE, PARAMETER_WITHOUT_VALUE, PARAMETER_OUT_OF_CONDITION, UNIT_TOO_LONG, TOO_MANY_TURNS, NO_SUCH_CONNECTOR, WRONG_SUBSCRIPT, SHAPES_DIFFER, TWO_SOURCES_OR_SINKS, TYPES_DIFFER, MORE_THAN_ONE_SOURCE, NO_SOURCE, TOO_MANY_WIRES, UNITS_DIFFER, CXF_TOO_LONG, LOOP_WITHOUT_DELAY, TABLE_TOO_LONG, WRONG_FIELD_COUNT, WRONG_HEADER, NOT_A_TIME, TIME_DOES_NOT_RISE, NOT_A_VALUE, TOO_MANY_TICKS, NOT_JSON}
use Rattle.cdl_job.specs.declared.job.Job.{Job}
use Rattle.cdl_job.specs.declared.job.Job.TheVariants.{Check, Run, Cxf}
use Rattle.cdl_job.specs.Job.{Task, task_of_job, CheckOf, RunOf, CxfOf, CheckCxfOf, RunCxfOf, SampleOf}
use Rattle.cdl_job.specs.declared.outcome.Outcome.{Outcome}
use Rattle.cdl_job.specs.declared.outcome.Outcome.TheVariants.{Done, Refused, Usage, RangeFault, ReadFault, WriteFault, OutOfMemory}
use Rattle.cdl_job.specs.declared.outcome.Spot.{Spot}
use Rattle.cdl_job.specs.declared.outcome.Spot.TheVariants.{Source, Path, Statement, Wire, Cell, Node, Whole}

abbrev pub code_of : Outcome → ℕ
code_of Done = 0
code_of (Refused rule spot) = 1
code_of Usage = 2
code_of (RangeFault time path) = 3
code_of ReadFault = 4
code_of WriteFault = 5
code_of OutOfMemory = 6

-- the words that name the models of a job, its table and its document
abbrev pub models_of : Task → List (List ℕ)
models_of (CheckOf class models) = models
models_of (RunOf class table models) = models
models_of (CxfOf class models) = models
models_of _ = []

-- a job has no more models than it may have
abbrev pub HasFewModels : Job → Type 0
HasFewModels job = length (models_of (task_of_job job)) ≤ MOST_MODELS

-- a job that reads models reads one at least
abbrev pub HasSomeModels : Job → Type 0
HasSomeModels (Check class models) = 0 < length models.now
HasSomeModels (Run class table models) = 0 < length models.now
HasSomeModels (Cxf class models) = 0 < length models.now
HasSomeModels _ = Unit {0}

abbrev pub table_of : Task → List ℕ
table_of (RunOf class table models) = table
table_of (RunCxfOf table doc) = table
table_of _ = []

abbrev pub document_of : Task → List ℕ
document_of (CheckCxfOf doc) = doc
document_of (RunCxfOf table doc) = doc
document_of _ = []

-- the files that a job reads, in the order of work
abbrev pub files_of : Task → List (List ℕ)
files_of (CheckOf class models) = models
files_of (RunOf class table models) = models ++ table ∷ []
files_of (CxfOf class models) = models
files_of (CheckCxfOf doc) = doc ∷ []
files_of (RunCxfOf table doc) = doc ∷ table ∷ []
files_of (SampleOf n) = []

-- the texts of the rules of texts and classes
abbrev pub text_rule : ℕ → List ℕ
text_rule rule =
    if rule == MODEL_TOO_LONG then codes "model file too long"
    else if rule == NOT_UTF8 then codes "not UTF-8"
    else if rule == NO_TOKEN then codes "no token here"
    else if rule == PAST_LIMITS then codes "literal or identifier past its limits"
    else if rule == NESTED_TOO_DEEPLY then codes "nested too deeply"
    else if rule == EXPRESSION_TOO_LONG then codes "expression too long"
    else if rule == SYNTAX then codes "syntax"
    else if rule == WRONG_END_NAME then codes "wrong name after end"
    else if rule == NOT_BUILT then codes "not built yet"
    else if rule == DECLARED_TWICE then codes "name declared twice"
    else if rule == NAME_NOT_FREE then codes "name not free"
    else if rule == NAME_NOT_FOUND then codes "name not found"
    else if rule == NOT_SUPPORTED then codes "not supported here"
    else if rule == NO_SUCH_BLOCK then codes "no such block"
    else []

-- the texts of the rules of instances
abbrev pub instance_rule : ℕ → List ℕ
instance_rule rule =
    if rule == TOO_MANY_OR_TOO_DEEP then codes "too many or too deep"
    else if rule == CONTAINS_ITSELF then codes "block contains itself"
    else if rule == NOTHING_TO_MODIFY then codes "nothing to modify"
    else if rule == MODIFIED_TWICE then codes "modified twice"
    else if rule == FINAL_MODIFIED then codes "modifies a final value"
    else if rule == WRONG_SHAPE then codes "wrong shape"
    else if rule == WRONG_TYPE then codes "wrong type"
    else if rule == UNKNOWN_NAME then codes "unknown name or function"
    else if rule == SIZE_OUT_OF_RANGE then codes "size out of range"
    else if rule == PARAMETERS_TOO_DEEP then codes "parameters depend too deeply"
    else if rule == NO_VALUE then codes "no value"
    else if rule == PARAMETER_WITHOUT_VALUE then codes "parameter without a value"
    else if rule == PARAMETER_OUT_OF_CONDITION then codes "parameter out of its condition"
    else if rule == UNIT_TOO_LONG then codes "unit too long"
    else []

-- the texts of the rules of statements, wires, elements and loops
abbrev pub connection_rule : ℕ → List ℕ
connection_rule rule =
    if rule == TOO_MANY_TURNS then codes "too many turns"
    else if rule == NO_SUCH_CONNECTOR then codes "no such connector"
    else if rule == WRONG_SUBSCRIPT then codes "wrong subscript"
    else if rule == SHAPES_DIFFER then codes "shapes differ"
    else if rule == TWO_SOURCES_OR_SINKS then codes "two sources or two sinks joined"
    else if rule == TYPES_DIFFER then codes "types differ"
    else if rule == MORE_THAN_ONE_SOURCE then codes "more than one source"
    else if rule == NO_SOURCE then codes "no source"
    else if rule == TOO_MANY_WIRES then codes "too many wires"
    else if rule == UNITS_DIFFER then codes "units differ"
    else if rule == CXF_TOO_LONG then codes "CXF text too long"
    else if rule == LOOP_WITHOUT_DELAY then codes "loop without a delay"
    else []

-- the texts of the rules of tables
abbrev pub table_rule : ℕ → List ℕ
table_rule rule =
    if rule == TABLE_TOO_LONG then codes "table too long"
    else if rule == WRONG_FIELD_COUNT then codes "wrong number of fields"
    else if rule == WRONG_HEADER then codes "wrong header"
    else if rule == NOT_A_TIME then codes "not a time"
    else if rule == TIME_DOES_NOT_RISE then codes "time doesn't rise"
    else if rule == NOT_A_VALUE then codes "not a value of its type"
    else if rule == TOO_MANY_TICKS then codes "too many ticks"
    else []

-- the text of each rule
abbrev pub rule_text : ℕ → List ℕ
rule_text rule =
    if nat_lt rule TOO_MANY_OR_TOO_DEEP then text_rule rule
    else if nat_lt rule TOO_MANY_TURNS then instance_rule rule
    else if nat_lt rule TABLE_TOO_LONG then connection_rule rule
    else table_rule rule

-- NAME:LINE:COLUMN
abbrev pub position_text : List ℕ → ℕ → ℕ → List ℕ
position_text name line column = name ++ codes ":" ++ decimal line ++ codes ":" ++ decimal column

-- where a rule is broken, for a spot whose byte stands in this line and column
abbrev pub spot_text : Task → ℕ → ℕ → ℕ → Spot → List ℕ
spot_text task line column rule (Source place) = position_text (get_or (models_of task) place.file []) line column
spot_text task line column rule (Path path) = path
spot_text task line column rule (Statement path place) = position_text (get_or (models_of task) place.file []) line column ++ codes " in " ++ path
spot_text task line column rule (Wire left right) = left ++ codes " to " ++ right
spot_text task line column rule (Cell row field) = position_text (table_of task) row field
spot_text task line column rule (Node node) = document_of task ++ codes ": node " ++ decimal node
spot_text task line column rule Whole = if nat_lt rule NOT_JSON then table_of task else document_of task

abbrev pub usage_text : List ℕ
usage_text = codes "usage: cdl check CLASS MODEL.. | run CLASS TABLE MODEL.. | cxf CLASS MODEL.. | checkcxf DOC | runcxf TABLE DOC | sample N\n"

abbrev pub refusal_text : Task → ℕ → ℕ → ℕ → Spot → List ℕ
refusal_text task line column rule spot =
    spot_text task line column rule spot ++ codes ": C" ++ decimal rule ++ codes " " ++ rule_text rule ++ codes "\n"

abbrev pub range_fault_text : ℤ → List ℕ → List ℕ
range_fault_text time path = codes "range fault at " ++ signed_decimal time ++ codes " in " ++ path ++ codes "\n"

abbrev pub no_memory_text : List ℕ
no_memory_text = codes "out of memory\n"

-- the text on standard error for the outcome of a job
abbrev pub err_text : Task → ℕ → ℕ → Outcome → List ℕ
err_text task line column Done = []
err_text task line column (Refused rule spot) = refusal_text task line column rule spot
err_text task line column Usage = usage_text
err_text task line column (RangeFault time path) = range_fault_text time path
err_text task line column ReadFault = codes "read fault\n"
err_text task line column WriteFault = codes "write fault\n"
err_text task line column OutOfMemory = no_memory_text
