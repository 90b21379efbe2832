-- The sizes of what a record holds: values that fit their fields, and messages no longer than question 5 lets them be.
use Rattle.std.specs.Prelude.{ℕ, ◌^◌, ◌≤◌, ◌<◌, List, length}
use Rattle.std.proofs.Math.Option.{Option, none, some}
use Rattle.lists.specs.Lists.{All}
use Rattle.bits.specs.Bits.{AllBits}
use Rattle.llc_pdus.specs.Writes.{longest_sent}
use Rattle.llc_rule.specs.Records.{Sent, Reply, Indication, Record, acknowledged, reply, unacknowledged, data_up, unitdata_up}
use Rattle.llc_rule.specs.Messages.{Message}
use Rattle.llc_rule.specs.Link.{Link}

-- A mask fits one byte, if there is one.
abbrev pub FitsMask : Option ℕ → Type 0
FitsMask none = Unit {0}
FitsMask (some m) = m < 2 ^ 8

-- Bits that two bytes can count.
pub record FitsBits (l : List ℕ) : Type 0 where
  pub bits : AllBits l
  pub count : length l < 2 ^ 16

-- Every value fits its field.
pub record FitsSent (s : Sent) : Type 0 where
  pub ssi : s.ssi < 2 ^ 24
  pub type : s.type < 2 ^ 8
  pub carrier : s.carrier < 2 ^ 16
  pub link : s.link < 2 ^ 32
  pub endpoint : s.endpoint < 2 ^ 32
  pub handle : s.handle < 2 ^ 32
  pub mask : FitsMask s.mask
  pub receipt : s.receipt < 2 ^ 8
  pub block : length s.block < 2 ^ 16
  pub pdu : FitsBits s.pdu

pub record FitsReply (r : Reply) : Type 0 where
  pub ssi : r.ssi < 2 ^ 24
  pub type : r.type < 2 ^ 8
  pub carrier : r.carrier < 2 ^ 16
  pub link : r.link < 2 ^ 32
  pub mask : FitsMask r.mask
  pub pdu : FitsBits r.pdu

pub record FitsIndication (i : Indication) : Type 0 where
  pub ssi : i.ssi < 2 ^ 24
  pub type : i.type < 2 ^ 8
  pub link : i.link < 2 ^ 32
  pub endpoint : i.endpoint < 2 ^ 32
  pub block : length i.block < 2 ^ 16
  pub sdu : FitsBits i.sdu

abbrev pub Fits : Record → Type 0
Fits (acknowledged s) = FitsSent s
Fits (reply r) = FitsReply r
Fits (unacknowledged s) = FitsSent s
Fits (data_up i) = FitsIndication i
Fits (unitdata_up i) = FitsIndication i

-- A message as question 5 lets it be: a block of 64 bytes, an SDU behind the longest header.
pub record SmallSent (s : Sent) : Type 0 where
  pub block : length s.block ≤ 64
  pub pdu : length s.pdu ≤ longest_sent

-- All messages of a link are so.
pub record Small (l : Link) : Type 0 where
  pub acknowledged : All (λ (m : Message). SmallSent m.sent) l.acknowledged
  pub unacknowledged : All SmallSent l.unacknowledged
