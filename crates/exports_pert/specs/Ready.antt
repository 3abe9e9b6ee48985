-- PERT's constructor, as a call on plain numbers takes it. Definitions only.
use Rattle.pert.specs.Pert.{Made, pert_of, error_number}
use Rattle.reports.specs.Calls.{Ready, ready}

-- what the sampler draws; '8, 9, 10 | Pert range (also a Beta refused after all three checks), mode, shape'
abbrev pub pert_ready : Made → Ready
pert_ready = ready pert_of error_number
