-- What the passes of a tick end write.
use Rattle.std.specs.Prelude.{ℕ, List, map}
use Rattle.llc_rule.specs.Records.{all_bytes, acknowledged, unacknowledged}
use Rattle.llc_rule.specs.Messages.{reply_to}
use Rattle.llc_state.specs.View.{sent_in, due_in}
use Rattle.llc_state.specs.declared.Entry.{Entry}
use Rattle.llc_state.specs.declared.ScheduledOutAck.{ScheduledOutAck}

-- The bytes of messages that are handed down, of replies, and of unacknowledged messages; the store is given by its bits.
unfoldable pub sent_bytes_of : List ℕ → List Entry → List ℕ
sent_bytes_of store es = all_bytes (map (λ (e : Entry). acknowledged (sent_in store e)) es)

unfoldable pub reply_bytes_of : List ScheduledOutAck → List ℕ
reply_bytes_of ds = all_bytes (map (λ (d : ScheduledOutAck). reply_to (due_in d)) ds)

unfoldable pub udata_bytes_of : List ℕ → List Entry → List ℕ
udata_bytes_of store es = all_bytes (map (λ (e : Entry). unacknowledged (sent_in store e)) es)
