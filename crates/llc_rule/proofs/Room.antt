-- Room for the records of any call in every output.
use Prim.Native.Nat.{ℕ, ◌+◌, ◌*◌, ◌≤◌}
use native.Mathlib.Omega.{arith}
use mathlib.Core.Path.{◌≡◌, refl, sym}
use mathlib.Core.Bool.{true, cond}
use mathlib.Core.List.{List, [], ◌∷◌, ◌++◌, append_assoc, append-nil, map}
use mathlib.Core.Option.{Option, none, some}
use lib.Dec.{ltb}
use lib.ListN.{length, length-append}
use Rattle.lists.specs.Lists.{Visit, walk, among, All}
use Rattle.lists.proofs.Lists.{all-unit}
use Rattle.lists.proofs.Choices.{by-test, either}
use Rattle.tdma_time.specs.declared.TdmaTime.{TdmaTime}
use Rattle.llc_pdus.specs.declared.Pdu.{Pdu}
use Rattle.llc_pdus.specs.declared.Pdu.TheVariants.{BlAdata, BlData, BlUdata, BlAck}
use Rattle.llc_pdus.proofs.Framing.{frame-short}
use Rattle.llc_pdus.specs.Received.{Received}
use Rattle.llc_pdus.proofs.Received.{sdu-short}
use Rattle.llc_rule.specs.Limits.{longest_frame, output_bytes}
use Rattle.llc_rule.specs.Calls.{Call, start, tick_start, tick_end, request, frame, by_receipt, Request, Frame}
use Rattle.llc_rule.specs.Ranges.{request_in_range}
use Rattle.llc_rule.specs.Records.{Record, acknowledged, unacknowledged, Sent, Indication, indication_bytes, bytes, all_bytes}
use Rattle.llc_rule.specs.Upward.{indication, upward}
use Rattle.llc_rule.specs.Messages.{Message, Due, sent_of, Place, overdue, reply_to}
use Rattle.llc_rule.specs.Link.{Link, new}
use Rattle.llc_rule.specs.Step.{timed, stay, resend, leave, aged_by, retransmission, Sending, first_sending, retransmissions, first_sendings, on_tick_end, step}
use Rattle.llc_rule.specs.Runs.{left, given, after}
use Rattle.llc_rule.specs.Sound.{Within}
use Rattle.llc_rule.specs.Sizes.{SmallSent, Small}
use Rattle.llc_rule.proofs.Paths.{Heard, Paths, sent-up, step-law}
use Rattle.llc_rule.proofs.Records.{most_sent, most_reply, small-sent, small-reply, small-indication}
use Rattle.llc_rule.proofs.Ranges.{frame-lengths, request-lengths}
use Rattle.llc_rule.proofs.Held.{passed-retransmissions, passed-firsts, AllHeld, Brings, held-step}

-- Bytes of several records ------------------------------------------------------------------------------------------------

-- A record of at most n bytes.
abbrev pub AtMost : ℕ → Record → Type 0
AtMost n r = length (bytes r) ≤ n

pub all_bytes-append : (rs ss : List Record) → all_bytes (rs ++ ss) ≡ all_bytes rs ++ all_bytes ss
unfolding all_bytes
all_bytes-append [] ss = refl
all_bytes-append (r ∷ rs) ss = rw (all_bytes-append rs ss) (sym (append_assoc (bytes r) (all_bytes rs) (all_bytes ss)))

-- Records of at most n bytes each.
pub bytes-in-all : (n : ℕ) (rs : List Record) → All (AtMost n) rs → length (all_bytes rs) ≤ n * length rs
unfolding all_bytes
bytes-in-all n [] h = omega arith
bytes-in-all n (r ∷ rs) h =
    let rest = bytes-in-all n rs h.1 in
    rw (length-append (bytes r) (all_bytes rs)) (omega (arith, h.0))

-- Each element of a list made into a record.
map-at-most :
    {A : Type 0} (n : ℕ) (P : A → Type 0) (f : A → Record) → ((a : A) → P a → AtMost n (f a)) → (l : List A) → All P l
    → length (all_bytes (map f l)) ≤ n * length l
unfolding all_bytes
map-at-most n P f h [] p = omega arith
map-at-most n P f h (a ∷ l) p =
    let rest = map-at-most n P f h l p.1 in
    rw (length-append (bytes (f a)) (all_bytes (map f l))) (omega (arith, h a p.0))

-- The two passes over acknowledged messages -------------------------------------------------------------------------------

-- The record of a small message.
acknowledged-at-most : (s : Sent) → SmallSent s → AtMost most_sent (acknowledged s)
unfolding bytes
acknowledged-at-most s h = small-sent 1 s h

unacknowledged-at-most : (s : Sent) → SmallSent s → AtMost most_sent (unacknowledged s)
unfolding bytes
unacknowledged-at-most s h = small-sent 3 s h

-- What messages weigh in all.
unfoldable weigh : (Message → ℕ) → List Message → ℕ
weigh w [] = 0
weigh w (m ∷ ms) = w m + weigh w ms

-- A message that waits weighs 1 before the second pass.
abbrev waits : Message → ℕ
waits m = cond m.submitted 0 1

waits-at-most : (m : Message) → waits m ≤ 1
waits-at-most m = by-test m.submitted (λ h. rw h (omega arith)) (λ h. rw h (omega arith))

weigh-append : (w : Message → ℕ) (l m : List Message) → weigh w (l ++ m) ≡ weigh w l + weigh w m
unfolding weigh
weigh-append w [] m = omega arith
weigh-append w (x ∷ l) m = rw (weigh-append w l m) (omega arith)

weigh-one : (l : List Message) → weigh (λ (m : Message). 1) l ≡ length l
unfolding weigh
weigh-one [] = refl
weigh-one (x ∷ l) = rw (weigh-one l) (omega arith)

-- What is put out and what stays weigh at most n together.
abbrev Modest : {S : Type 0} → (Message → ℕ) → ℕ → Visit S Message Record → Type 0
Modest w n v = length v.out + weigh w v.stays ≤ n

-- Of a walk, if it is so of each visit.
modest-walk :
    {S : Type 0} (u w : Message → ℕ) (f : S → Message → Visit S Message Record)
    → ((s : S) (m : Message) → Modest w (u m) (f s m))
    → (s : S) (ms : List Message)
    → Modest w (weigh u ms) (walk f s ms)
unfolding walk weigh
modest-walk u w f h s [] = omega arith
modest-walk u w f h s (m ∷ ms) =
    rw (length-append (f s m).out (walk f (f s m).state ms).out, weigh-append w (f s m).stays (walk f (f s m).state ms).stays)
    (omega (arith, h s m, modest-walk u w f h (f s m).state ms))

-- Resends.
modest-stay : {S : Type 0} (s : S) (m : Message) → Modest waits 1 (stay s m)
unfolding weigh
modest-stay s m = let n = waits-at-most m in omega arith

modest-aged :
    (time : TdmaTime) (t251 : ℕ) (ps : List Place) (m : Message) (d : Option TdmaTime) → Modest waits 1 (aged_by time t251 ps m d)
unfolding weigh
modest-aged time t251 ps m none = modest-stay ps m
modest-aged time t251 ps m (some t) =
    either (Modest waits 1) (overdue time t251 t)
    (either (Modest waits 1) (ltb m.resends 3) {x = resend ps m} {y = leave ps m} (omega arith) (omega arith))
    (modest-stay ps m)

modest-retransmissions : (l : Link) → Modest waits (length l.acknowledged) (retransmissions l)
unfolding retransmissions retransmission
modest-retransmissions l =
    rw (← weigh-one l.acknowledged)
    (modest-walk (λ (m : Message). 1) waits (retransmission l.time l.t251)
    (λ ps m. modest-aged l.time l.t251 ps (timed l.time ps m) (timed l.time ps m).done)
    l.receipts l.acknowledged)

-- First sendings: a message that is sent waited.
modest-first : (s : Sending) (m : Message) → Modest (λ (n : Message). 0) (waits m) (first_sending s m)
unfolding first_sending weigh
modest-first s m =
    by-test m.submitted
    (λ e. rw e (omega arith))
    (λ e. rw e (by-test (among m.sent.ssi s.blocked) (λ t. rw t (omega arith)) (λ t. rw t (omega arith))))

modest-firsts :
    (l : Link) → Modest (λ (n : Message). 0) (weigh waits (retransmissions l).stays) (first_sendings l)
unfolding first_sendings
modest-firsts l =
    modest-walk waits (λ (n : Message). 0) first_sending modest-first (record { receipts = (retransmissions l).state; blocked = [] })
    (retransmissions l).stays

-- Tick end ----------------------------------------------------------------------------------------------------------------

reply-at-most : (d : Due) → Unit {0} → AtMost most_reply (reply_to d)
unfolding reply_to bytes
reply-at-most d h = small-reply _ refl

four : (p q r s : List Record) → length (all_bytes (p ++ (q ++ (r ++ s))))
    ≡ length (all_bytes p) + (length (all_bytes q) + (length (all_bytes r) + length (all_bytes s)))
four p q r s = simp (all_bytes-append, length-append)

-- The records of a tick end: resends and first sendings together are at most as many as the acknowledged messages.
pub tick-end-room : (l : Link) → Within l → Small l → length (all_bytes (on_tick_end l).records) ≤ output_bytes
unfolding on_tick_end
tick-end-room l w h =
    let again = passed-retransmissions SmallSent (AtMost most_sent) acknowledged-at-most l h.acknowledged in
    let firsts = passed-firsts SmallSent (AtMost most_sent) acknowledged-at-most l h.acknowledged in
    let a = bytes-in-all most_sent (retransmissions l).out again.out in
    let b = bytes-in-all most_sent (first_sendings l).out firsts.out in
    let c = map-at-most most_reply (λ (d : Due). Unit {0}) reply_to reply-at-most l.due (all-unit l.due) in
    let d = map-at-most most_sent SmallSent unacknowledged unacknowledged-at-most l.unacknowledged h.unacknowledged in
    rw (four (retransmissions l).out (first_sendings l).out (map reply_to l.due) (map unacknowledged l.unacknowledged))
    (omega (arith, modest-retransmissions l, modest-firsts l, w.acknowledged, w.due, w.unacknowledged))

-- The number is that of 96 messages and 64 replies of the longest kind. No tick end reaches it: an unacknowledged message takes a
-- byte less.
pub no-slack : output_bytes ≡ 96 * most_sent + 64 * most_reply
no-slack = refl

-- Any call ----------------------------------------------------------------------------------------------------------------

no-records : length (all_bytes []) ≤ output_bytes
unfolding all_bytes
no-records = omega arith

-- What goes up of a frame in range.
one_up :
    (k : ℕ) (i : Indication) → length i.block ≤ 64 → length i.sdu ≤ longest_frame → length (indication_bytes k i ++ []) ≤ output_bytes
one_up k i hb hs =
    let n = small-indication k i hb hs in
    rw (append-nil (indication_bytes k i)) (omega arith)

up_room :
    (f : Frame) (p : Pdu) (sdu : List ℕ)
    → length f.block ≤ 64
    → length sdu ≤ longest_frame
    → length (all_bytes (upward f p sdu)) ≤ output_bytes
unfolding upward all_bytes bytes
up_room f (BlAdata c nr ns) sdu hb hs = one_up 4 (indication f (BlAdata c nr ns) f.link sdu) hb hs
up_room f (BlData c ns) sdu hb hs = one_up 4 (indication f (BlData c ns) f.link sdu) hb hs
up_room f (BlUdata c) sdu hb hs = one_up 5 (indication f (BlUdata c) 0 sdu) hb hs
up_room f (BlAck c nr) [] hb hs = omega arith
up_room f (BlAck c nr) (b ∷ sdu) hb hs = one_up 4 (indication f (BlAck c nr) 0 (b ∷ sdu)) hb hs

heard-room : (f : Frame) (r : Received) (l : Link) → Heard f r l → length (all_bytes (upward f r.header r.sdu)) ≤ output_bytes
heard-room f r l a =
    let n = frame-lengths f a.range in
    up_room f r.header r.sdu n.0 (omega (arith, n.1, sdu-short f.pdu r a.apart))

-- The records of each path.
room-paths : (l : Link) → Within l → Small l → Paths l (λ c k rs. length (all_bytes rs) ≤ output_bytes)
room-paths l w h =
    record {
      start = λ carrier t251. no-records;
      tick_start = λ time. no-records;
      tick_end = tick-end-room l w h;
      acknowledged = λ r a. no-records;
      unacknowledged = λ s r link p used a. no-records;
      heard =
          λ f r a.
          sent-up (λ (rs : List Record). length (all_bytes rs) ≤ output_bytes) f r l no-records (heard-room f r l a);
      reported = λ i how a. no-records;
      released = λ i a. no-records;
    }

-- The records of any call.
pub room : (l : Link) → Within l → Small l → (c : List ℕ) → length (all_bytes (given (step l c))) ≤ output_bytes
room l w h c =
    step-law l _ (room-paths l w h) c (λ o. length (all_bytes (given o)) ≤ output_bytes) (λ n k. no-records) (λ d o e p. p)

-- The messages stay small -------------------------------------------------------------------------------------------------

-- What a request in range hands down.
pub sent-small : (r : Request) (carrier link : ℕ) (p : Pdu) → request_in_range r ≡ true → SmallSent (sent_of r carrier link p)
unfolding sent_of
sent-small r carrier link p e =
    let n = request-lengths r e in
    record { block = n.0; pdu = frame-short p r.sdu n.1 }

-- Nothing is asked of carriers and due acknowledgements.
abbrev SmallHeld : Link → Type 0
SmallHeld l = AllHeld (λ (n : ℕ). Unit {0}) SmallSent (λ (d : Due). Unit {0}) l

call-brings : (c : Call) → Brings (λ (n : ℕ). Unit {0}) SmallSent (λ (d : Due). Unit {0}) c
call-brings (start carrier t251) = tt
call-brings (tick_start time) = tt
call-brings tick_end = tt
call-brings (request s r) = λ e main link p h k. sent-small r _ link p e
call-brings (frame f) = λ e ns slot. tt
call-brings (by_receipt i a) = tt

pub new-small : Small new
unfolding new
new-small = record { acknowledged = tt; unacknowledged = tt }

-- Any call leaves small messages small.
pub small-step : (l : Link) → Small l → (c : List ℕ) → Small (left l (step l c))
small-step l h c =
    let before : SmallHeld l =
    record { carrier = tt; acknowledged = h.acknowledged; unacknowledged = h.unacknowledged; due = all-unit l.due } in
    let then = held-step _ _ _ l before c (λ d e. call-brings d) in
    record { acknowledged = then.acknowledged; unacknowledged = then.unacknowledged }

pub small-after : (l : Link) → Small l → (cs : List (List ℕ)) → Small (after l cs)
unfolding after
small-after l h [] = h
small-after l h (c ∷ cs) = small-after (left l (step l c)) (small-step l h c) cs
