-- Gamma's constructor, as a call on plain numbers takes it. Definitions only.
use Rattle.gamma.specs.Gamma.{Made, gamma_of, error_number}
use Rattle.reports.specs.Calls.{Ready, ready}

-- what the sampler draws; '1, 2 | Gamma shape, then scale, not above 0'
abbrev pub gamma_ready : Made → Ready
gamma_ready = ready gamma_of error_number
