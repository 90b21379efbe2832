-- The link as lists, and demand 3 of it (llc_rule).
use Rattle.std.specs.Prelude.{ℕ, ◌+◌, ◌*◌, ◌/◌, ◌≤◌, ◌≡◌, Bool, true, false, List, [], ◌∷◌, map, eqb, drop, length, take}
use Rattle.std.proofs.Math.Option.{none, some}
use Rattle.lists.specs.Lists.{all, All}
use Rattle.questions.specs.Outcome.{accepted}
use Rattle.bits.specs.Bits.{to_bits}
use Rattle.llc_pdus.specs.Frames.{frame_bits}
use Rattle.llc_pdus.specs.Headers.{ns_of}
use Rattle.llc_pdus.specs.declared.Pdu.{Pdu}
use Rattle.llc_pdus.specs.declared.Pdu.TheVariants.{BlData, BlAck}
use Rattle.llc_rule.specs.Calls.{Frame, frame, frame_in, parsed}
use Rattle.llc_rule.specs.Limits.{output_bytes}
use Rattle.llc_rule.specs.Claim.{Claims}
use Rattle.llc_rule.specs.Seen.{SeesTheSame, ruled, unhindered}
use Rattle.llc_rule.specs.ReadBack.{requests_after, ReadAs, ReadAsReply}
use Rattle.llc_rule.specs.Repeats.{begins, hears, heard_in, WentUp}
use Rattle.llc_rule.specs.Texts.{texts_in}
use Rattle.llc_rule.specs.Sendings.{AtMostFour, sendings}
use Rattle.llc_rule.specs.Link.{Link, new}
use Rattle.llc_rule.specs.Runs.{Exchange, after, given, left, run}
use Rattle.llc_rule.specs.Past.{holders_after}
use Rattle.llc_rule.specs.Sound.{Sound, Within}
use Rattle.llc_rule.specs.Records.{Indication, Record, Reply, Sent, all_bytes, bytes, indication_bytes, kind, reply_bytes, sent_bytes}
use Rattle.llc_rule.specs.Sizes.{Fits, Small}
use Rattle.llc_rule.specs.Step.{step}
use Rattle.llc_rule.proofs.Applied.{answers, asked, second_request, steal_request, order_bits, ack_bits, handed_bits, told, told_at, text, again}
use Rattle.llc_rule.proofs.FitsRuns.{FitsLink}
use Rattle.llc_rule.proofs.Instance.{first, ack_of_first, ask_second, text_of_first, has_kind, has_number, instance_calls, later_calls, second, turned_calls}
use Rattle.llc_rule.proofs.Records.{mask_size, most_reply, most_sent, size_if_any}
use Rattle.llc_rule.proofs.Values.{IsByte}

pub record LinkAsLists : Type 0 where
  -- All that is claimed of every run, of the link as lists.
  pub claims :
      Claims (λ (c : List ℕ). c) (run new) (λ (cs : List (List ℕ)). (after new cs).receipts) (λ (cs : List (List ℕ)). (after new cs).acknowledged)
  -- The hypotheses can be met, by a run with records of all five kinds and refused calls.
  pub unhindered-instance : unhindered (run new instance_calls) ≡ true
  pub unhindered-turned : unhindered (run new turned_calls) ≡ true
  pub instance-kinds : all (has_kind (run new instance_calls)) (1 ∷ 2 ∷ 3 ∷ 4 ∷ 5 ∷ []) ≡ true
  pub instance-numbers : all (has_number (run new instance_calls)) (0 ∷ 3 ∷ 4 ∷ 15 ∷ 16 ∷ []) ≡ true
  -- Two of its calls change places, and change back.
  pub swap-instance :
      (a : ℕ)
      → SeesTheSame a
      (run new instance_calls) (after new instance_calls).receipts (run new turned_calls) (after new turned_calls).receipts
  pub swap-turned :
      (a : ℕ)
      → SeesTheSame a
      (run new turned_calls) (after new turned_calls).receipts (run new instance_calls) (after new instance_calls).receipts
  -- A request of it is handed down four times, on the link and by the rule.
  pub four-instance : AtMostFour second_request (sendings 0x22 (run (left asked (step asked ask_second)) later_calls))
  pub four-times : eqb (length (sendings 0x22 (run (left asked (step asked ask_second)) later_calls))) 4 ≡ true
  pub four-by-rule :
      AtMostFour second_request (sendings 0x22 (drop 4 (ruled second (run new instance_calls))))
  pub answers-are : ruled second (run new instance_calls) ≡ answers
  pub four-times-by-rule : eqb (length (sendings 0x22 (drop 4 answers))) 4 ≡ true
  -- Two of its calls: a text that comes with check bits goes up without them, an acknowledgement with check bits and nothing else
  -- sends nothing up.
  pub told_is : run new instance_calls ≡ told
  pub text-spelled : parsed (told_at 8).call ≡ accepted (frame (frame_in (drop 3 text_of_first)))
  pub text-accepted : (told_at 8).number ≡ 0
  pub ack-spelled : parsed (told_at 24).call ≡ accepted (frame (frame_in (drop 3 ack_of_first)))
  pub ack-accepted : (told_at 24).number ≡ 0
  pub text-framed : (frame_in (drop 3 text_of_first)).pdu ≡ frame_bits (BlData true true) text
  pub text-instance : texts_in (told_at 8).records ≡ text ∷ []
  pub ack-framed : (frame_in (drop 3 ack_of_first)).pdu ≡ frame_bits (BlAck true false) []
  pub ack-instance : texts_in (told_at 24).records ≡ []
  -- An order and an acknowledgement that takes an SDU along are handed down with check bits, and read back; so is a reply.
  pub bits-handed :
      map handed_bits (told_at 13).records
      ≡ to_bits 17 0x022e7d ∷ order_bits ∷ to_bits 5 0x07 ∷ to_bits 5 0x06 ∷ to_bits 11 0x165 ∷ ack_bits ∷ []
  pub requests-then :
      requests_after (take 13 told) 0x22 ∷ requests_after (take 13 told) 0x44 ∷ [] ≡ some second_request ∷ some steal_request ∷ []
  pub requests-freed : requests_after (take 39 told) 0x22 ≡ none
  pub order-read : ReadAs second_request order_bits
  pub ack-read : ReadAs steal_request ack_bits
  pub reply-read : ReadAsReply (to_bits 5 0x07)
  -- The text is the first since its start, and goes up; its repeat does not; the next has another N(S) and goes up.
  pub begun : heard_in (told_at 1) ≡ begins
  pub text-heard : heard_in (told_at 8) ≡ hears first true text
  pub repeat-heard : heard_in (told_at 10) ≡ hears first true again
  pub new-heard : heard_in (told_at 11) ≡ hears first false []
  pub text-first : WentUp first text (told_at 8).records
  pub repeat-stopped : (told_at 10).records ≡ []
  pub new-up : WentUp first [] (told_at 11).records
  -- An accepted frame of a PDU with an N(S) and a text is heard with them.
  pub hears-framed :
      (e : Exchange) (f : Frame) (p : Pdu) (text : List ℕ) (ns : Bool)
      → parsed e.call ≡ accepted (frame f)
      → f.pdu ≡ frame_bits p text
      → ns_of p ≡ some ns
      → e.number ≡ 0
      → heard_in e ≡ hears f.ssi ns text
  -- What holds of queues, tables and receipts after every run.
  pub sound-run : (cs : List (List ℕ)) → Sound (holders_after (run new cs)) (after new cs)
  -- A record's bytes determine it.
  pub determined : (r s : Record) → Fits r → Fits s → bytes r ≡ bytes s → r ≡ s
  -- The bytes of several records determine the records.
  pub all-determined : (rs ss : List Record) → All Fits rs → All Fits ss → all_bytes rs ≡ all_bytes ss → rs ≡ ss
  -- The values of every record of every run of calls of bytes fit their fields.
  pub new-fits : FitsLink new
  pub fits-run :
      (l : Link)
      → FitsLink l
      → (cs : List (List ℕ))
      → All (All IsByte) cs
      → All (λ (e : Exchange). All Fits e.records) (run l cs)
  -- A record's bytes begin with field 01 and its kind.
  pub begins : (r : Record) → bytes r ≡ 0x01 ∷ 0x00 ∷ 0x01 ∷ kind r ∷ drop 4 (bytes r)
  -- The lengths: kinds 1 and 3, kind 2, kinds 4 and 5.
  pub length-sent :
      (k : ℕ) (s : Sent)
      → length (sent_bytes k s) ≡ 56 + mask_size s.mask + length s.block + (length s.pdu + 7) / 8
  pub length-reply : (r : Reply) → length (reply_bytes r) ≡ 49 + mask_size r.mask + (length r.pdu + 7) / 8
  pub length-indication :
      (k : ℕ) (i : Indication) → length (indication_bytes k i) ≡ 35 + length i.block + size_if_any i.sdu
  -- A call's records fit into every output that question 1 takes; the second hypothesis holds after every run.
  pub no-slack : output_bytes ≡ 96 * most_sent + 64 * most_reply
  pub room : (l : Link) → Within l → Small l → (c : List ℕ) → length (all_bytes (given (step l c))) ≤ output_bytes
  pub new-small : Small new
  pub small-after : (l : Link) → Small l → (cs : List (List ℕ)) → Small (after l cs)
