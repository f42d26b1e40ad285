use Rattle.std.proofs.Common.{◌≡◌, drop}
use Rattle.plan_calls.specs.Judging.{schema_named}
use Rattle.plan_calls.proofs.judging.schema_named.Given as goal

abbrev pub invariant-loop-s : goal.invariant-loop-s
invariant-loop-s l = schema_named (drop l.s-index l.schemas) l.name ≡ schema_named l.schemas l.name
