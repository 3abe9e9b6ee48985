-- Beta's constructor, as a call on plain numbers takes it. Definitions only.
use Rattle.beta.specs.Beta.{Made, beta_of, error_number}
use Rattle.reports.specs.Calls.{Ready, ready}

-- what the sampler draws; '3, 4 | Beta alpha, then beta, not above 0'
abbrev pub beta_ready : Made → Ready
beta_ready = ready beta_of error_number
