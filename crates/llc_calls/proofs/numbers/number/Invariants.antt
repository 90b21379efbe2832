use Rattle.std.proofs.Common.{◌≡◌, ◌^◌, ◌<◌, take}
use Rattle.llc_rule.specs.Calls.{from_bytes}
use Rattle.llc_calls.proofs.numbers.number.Given as goal

abbrev pub invariant-loop-b : goal.invariant-loop-b
invariant-loop-b l = record { value : l.number ≡ from_bytes (take l.b-index l.bytes); bound : l.number < 256 ^ l.b-index }
