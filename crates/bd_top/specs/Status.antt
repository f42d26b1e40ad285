-- The numbers of the statuses.
use Rattle.std.specs.Prelude.{ℕ}
use Rattle.bd_top.specs.declared.status.Status.{Status}
use Rattle.bd_top.specs.declared.status.Status.TheVariants as status

abbrev pub number_of : Status → ℕ
number_of status.Done = 0
number_of (status.PlanInvalid broken) = 1
number_of status.Usage = 2
number_of (status.TextRefused file place cause) = 3
number_of (status.ReadFault name missing) = 4
number_of status.WriteFault = 5
number_of (status.OverLimit limit count) = 6
number_of status.NoMemory = 7
