-- Calls (llc_calls).
use Rattle.std.specs.Prelude.{◌≡◌}
use Rattle.llc_rule.specs.Ranges.{in_range}
use Rattle.llc_calls.specs.Decoded.{call_of}
use Rattle.llc_calls.specs.Ranges.{in_range_of}
use Rattle.llc_calls.specs.declared.Call.{Call}

pub record Calls : Type 0 where
  -- Question 5 of a call, asked of its values where they lie.
  pub in-range : (c : Call) → in_range_of c ≡ in_range (call_of c)
