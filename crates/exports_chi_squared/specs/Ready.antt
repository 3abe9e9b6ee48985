-- Chi-squared's constructor, as a call on plain numbers takes it. Definitions only.
use Rattle.chi_squared.specs.ChiSquared.{Made, chi_of, error_number}
use Rattle.reports.specs.Calls.{Ready, ready}

-- what the sampler draws; '5 | chi-squared or Student: not k = 1 and not 0.5·k > 0'
abbrev pub chi_ready : Made → Ready
chi_ready = ready chi_of error_number
