-- Runs of the entry point (llc_runs).
use Rattle.std.specs.Prelude.{ℕ, ◌≤◌, ◌≡◌, Bool, true, false, not, List, [], ◌∷◌, ◌++◌, map, eqb, drop, length}
use Rattle.std.proofs.Math.Option.{some}
use Rattle.lists.specs.Lists.{all, among}
use Rattle.bits.specs.Bits.{AllBytes, bits}
use Rattle.questions.specs.Outcome.{accepted}
use Rattle.llc_pdus.specs.Headers.{has_fcs, ns_of}
use Rattle.llc_pdus.specs.Received.{received}
use Rattle.llc_pdus.specs.Frames.{frame_bits}
use Rattle.llc_pdus.specs.declared.Pdu.{Pdu}
use Rattle.llc_pdus.specs.declared.Pdu.TheVariants.{BlAck}
use Rattle.llc_rule.specs.Limits.{longest_frame}
use Rattle.llc_rule.specs.Records.{Record, acknowledged, reply, unacknowledged, Sent, Reply}
use Rattle.llc_rule.specs.ReadBack.{requests_after, flag_in}
use Rattle.llc_rule.specs.Calls.{Request, Frame, frame, parsed}
use Rattle.llc_rule.specs.Seen.{SeesItsOwnPast, SeesTheSame, calls, rule_after, rule_sights, ruled, unhindered}
use Rattle.llc_rule.specs.Sendings.{AtMostFour, request_spelled, sendings}
use Rattle.llc_rule.specs.Runs.{Exchange}
use Rattle.llc_rule.specs.Repeats.{begins, hears, heard_in, last_heard, none_from, WentUp}
use Rattle.llc_rule.specs.Texts.{texts_in, shown, unless_last}
use Rattle.llc_rule.specs.Past.{held_by, holders_after, past, sight, strays, taken_from}
use Rattle.llc_rule.specs.Rule.{at_outset}
use Rattle.llc_rule.proofs.Applied.{second_request}
use Rattle.llc_rule.proofs.Instance.{has_kind, has_number, second}
use Rattle.llc_state.specs.View.{link_in}
use Rattle.llc_state.specs.declared.State.{State}
use Rattle.llc_steps.specs.Answers.{effect}
use Rattle.llc.specs.Determined.{Left, NoLeavesAll, OneAnswer}
use Rattle.llc.specs.Entry.{call_of}
use Rattle.llc_runs.specs.Claim.{Claim, receipts_after}
use Rattle.llc_runs.specs.Heard.{heard_of}
use Rattle.llc_runs.specs.Runs.{Lent, after, begin, exchange, left, run}
use Rattle.llc_runs.proofs.Applied.{asked_at}
use Rattle.llc_runs.proofs.Instance.{later_lents, lent_second, lents, started, too_short, turned_lents, zero_store}

-- What a handset reads of a frame: the request that holds the receipt, the PDU with its flag, the length, and the SDU.
abbrev pub Read : List Exchange → Sent → Type 0
Read before s =
    (r : Request)
    × ((requests_after before s.receipt ≡ some r)
    × ((p : Pdu)
    × ((has_fcs p ≡ flag_in r p)
    × ((length s.pdu ≤ longest_frame) × (received s.pdu ≡ accepted (record { header = p; sdu = r.sdu }))))))

pub record Runs : Type 0 where
  -- The contract of `call` leaves one answer, and a refusal changes no byte.
  pub one_answer : OneAnswer
  pub no-leaves-all : NoLeavesAll
  -- All that is claimed of every run; what it says of an address, of one answer, of a text that came in, of repeats, of frames that
  -- are read back and of four sendings is spelled out below.
  pub claim : Claim
  pub seen :
      (store : List ℕ) (cs : List Lent)
      → unhindered (run (begin store) cs) ≡ true
      → (a : ℕ)
      → map (sight a) (past a (run (begin store) cs)) ≡ rule_sights at_outset (calls (past a (run (begin store) cs)))
  pub receipts :
      (store : List ℕ) (cs : List Lent)
      → unhindered (run (begin store) cs) ≡ true
      → (a : ℕ)
      → held_by a (holders_after (run (begin store) cs)) 0 (link_in (after (begin store) cs).state (after (begin store) cs).store).receipts
      ≡ taken_from 0 (rule_after at_outset (calls (past a (run (begin store) cs)))).receipts
  pub alone :
      (store : List ℕ) (cs : List Lent)
      → unhindered (run (begin store) cs) ≡ true
      → (a : ℕ)
      → strays a (run (begin store) cs) ≡ []
  pub few :
      (store : List ℕ) (before : List Lent) (c : Lent) (r : Request) (later : List Lent)
      → (exchange (after (begin store) before) c).number ≡ 0
      → request_spelled c.call ≡ some r
      → length (sendings r.receipt (run (left (after (begin store) before) c) later)) ≤ 4
  pub texts :
      (store : List ℕ) (before : List Lent) (c : Lent) (f : Frame) (p : Pdu) (text : List ℕ)
      → parsed c.call ≡ accepted (frame f)
      → f.pdu ≡ frame_bits p text
      → (exchange (after (begin store) before) c).number ≡ 0
      → texts_in (exchange (after (begin store) before) c).records
      ≡ unless_last (last_heard f.ssi (run (begin store) before)) (ns_of p) (shown p text)
  pub texts-read :
      (store : List ℕ) (before : List Lent) (c : Lent) (f : Frame) (p : Pdu) (text : List ℕ)
      → parsed c.call ≡ accepted (frame f)
      → f.pdu ≡ frame_bits p text
      → among (exchange (after (begin store) before) c).number (9 ∷ 10 ∷ 11 ∷ 12 ∷ []) ≡ false
  pub texts-only :
      (store : List ℕ) (before : List Lent) (c : Lent) (f : Frame)
      → parsed c.call ≡ accepted (frame f)
      → (exchange (after (begin store) before) c).number ≡ 0
      → (p : Pdu) × ((text : List ℕ) × (f.pdu ≡ frame_bits p text))
  -- Of two accepted frames with N(S) of one address that follow one another with no start between, the second sends its SDU up
  -- exactly if its N(S) is another; the first after a start always does. An accepted frame of a PDU with an N(S) and a text is
  -- one that is heard with them.
  pub repeats-same :
      (store : List ℕ) (cs : List Lent)
      (before : List Exchange) (c : Exchange) (between : List Exchange) (d : Exchange) (later : List Exchange)
      (a : ℕ) (ns : Bool) (sdu again : List ℕ)
      → run (begin store) cs ≡ before ++ (c ∷ (between ++ (d ∷ later)))
      → heard_in c ≡ hears a ns sdu
      → none_from a between ≡ true
      → heard_in d ≡ hears a ns again
      → d.records ≡ []
  pub repeats-other :
      (store : List ℕ) (cs : List Lent)
      (before : List Exchange) (c : Exchange) (between : List Exchange) (d : Exchange) (later : List Exchange)
      (a : ℕ) (ns : Bool) (sdu next : List ℕ)
      → run (begin store) cs ≡ before ++ (c ∷ (between ++ (d ∷ later)))
      → heard_in c ≡ hears a ns sdu
      → none_from a between ≡ true
      → heard_in d ≡ hears a (not ns) next
      → WentUp a next d.records
  pub repeats-first :
      (store : List ℕ) (cs : List Lent)
      (before : List Exchange) (c : Exchange) (between : List Exchange) (d : Exchange) (later : List Exchange)
      (a : ℕ) (ns : Bool) (sdu : List ℕ)
      → run (begin store) cs ≡ before ++ (c ∷ (between ++ (d ∷ later)))
      → heard_in c ≡ begins
      → none_from a between ≡ true
      → heard_in d ≡ hears a ns sdu
      → WentUp a sdu d.records
  -- What is handed down with a receipt, acknowledged or not, is read as a frame of the request that holds it: it is no longer than
  -- question 5 lets a frame be, questions 9 to 12 pass it, and exactly the request's SDU is left. The flag is the one that the
  -- request asks for, in a BL-UDATA never. A reply is read as a BL-ACK without flag and SDU.
  pub read_back :
      (store : List ℕ) (cs : List Lent) (before : List Exchange) (e : Exchange) (later : List Exchange)
      (front rest : List Record) (s : Sent)
      → run (begin store) cs ≡ before ++ (e ∷ later)
      → e.records ≡ front ++ (acknowledged s ∷ rest)
      → Read before s
  pub read-back-too :
      (store : List ℕ) (cs : List Lent) (before : List Exchange) (e : Exchange) (later : List Exchange)
      (front rest : List Record) (s : Sent)
      → run (begin store) cs ≡ before ++ (e ∷ later)
      → e.records ≡ front ++ (unacknowledged s ∷ rest)
      → Read before s
  pub reply-back :
      (store : List ℕ) (cs : List Lent) (before : List Exchange) (e : Exchange) (later : List Exchange)
      (front rest : List Record) (a : Reply)
      → run (begin store) cs ≡ before ++ (e ∷ later)
      → e.records ≡ front ++ (reply a ∷ rest)
      → (nr : Bool) × (received a.pdu ≡ accepted (record { header = BlAck false nr; sdu = [] }))
  pub one :
      (s : State) (store out bytes : List ℕ) (l m : Left)
      → AllBytes l.store
      → AllBytes m.store
      → effect l.answer (bits l.store) l.out ≡ call_of s (bits store) out bytes
      → effect m.answer (bits m.store) m.out ≡ call_of s (bits store) out bytes
      → l ≡ m
  -- The hypotheses can be met, by a run with records of all five kinds, refused calls and one that is lent too little.
  pub unhindered-lents : unhindered (run (begin zero_store) lents) ≡ true
  pub sees-lents : (a : ℕ) → SeesItsOwnPast (run (begin zero_store) lents) (receipts_after zero_store lents) a
  pub unhindered-turned-lents : unhindered (run (begin zero_store) turned_lents) ≡ true
  pub kinds-lents : all (has_kind (heard_of (run (begin zero_store) lents))) (1 ∷ 2 ∷ 3 ∷ 4 ∷ 5 ∷ []) ≡ true
  pub numbers-lents : all (has_number (heard_of (run (begin zero_store) lents))) (0 ∷ 3 ∷ 4 ∷ 15 ∷ 16 ∷ []) ≡ true
  pub one_lent : eqb (exchange (after (begin zero_store) started) too_short).number 1 ≡ true
  -- Two of its calls change places, and change back.
  pub swap-lents :
      (a : ℕ)
      → SeesTheSame a
      (run (begin zero_store) lents)
      (receipts_after zero_store lents)
      (run (begin zero_store) turned_lents)
      (receipts_after zero_store turned_lents)
  pub swap-turned-lents :
      (a : ℕ)
      → SeesTheSame a
      (run (begin zero_store) turned_lents)
      (receipts_after zero_store turned_lents)
      (run (begin zero_store) lents)
      (receipts_after zero_store lents)
  -- A request of it is handed down four times, in the run and by the rule.
  pub four-lents : AtMostFour second_request (sendings 0x22 (run (left asked_at lent_second) later_lents))
  pub four-times-lents : eqb (length (sendings 0x22 (run (left asked_at lent_second) later_lents))) 4 ≡ true
  pub four-by-rule-lents :
      AtMostFour second_request
      (sendings 0x22 (drop 4 (ruled second (run (begin zero_store) lents))))
