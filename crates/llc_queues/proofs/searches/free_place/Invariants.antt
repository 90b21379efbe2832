use mathlib.Core.Path.{◌≡◌}
use mathlib.Core.Bool.{false}
use mathlib.Core.List.{◌++◌}
use lib.ListN.{length, take, replicate}
use Rattle.llc_rule.specs.Limits.{store_places}
use Rattle.llc_steps.specs.States.{messages_of, udata_of}
use Rattle.llc_queues.specs.Queues.{places_of, Marks}
use Rattle.llc_queues.proofs.searches.free_place.Given as goal

abbrev pub invariant-loop-e : goal.invariant-loop-e
invariant-loop-e l =
    (length l.used ≡ store_places)
    × Marks (replicate store_places false) (places_of (take (length l.yielded) (messages_of l.fn.state ++ udata_of l.fn.state))) l.used
