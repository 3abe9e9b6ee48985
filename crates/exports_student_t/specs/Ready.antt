-- Student t's constructor, as a call on plain numbers takes it. Definitions only.
use Rattle.std.specs.Prelude.{Err}
use Rattle.student_t.specs.StudentT.{Made, student_of, number_of}
use Rattle.reports.specs.Calls.{Ready, ready}

-- what the sampler draws; '5 | chi-squared or Student: not k = 1 and not 0.5·k > 0'
abbrev pub student_ready : Made → Ready
student_ready = ready student_of (λ e. number_of (Err e))
