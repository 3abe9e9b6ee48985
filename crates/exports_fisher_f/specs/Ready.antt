-- Fisher F's constructor, as a call on plain numbers takes it. Definitions only.
use Rattle.fisher_f.specs.FisherF.{Made, fisher_of, error_number}
use Rattle.reports.specs.Calls.{Ready, ready}

-- what the sampler draws; '6, 7 | Fisher m, then n, by rule 5'
abbrev pub fisher_ready : Made → Ready
fisher_ready = ready fisher_of error_number
