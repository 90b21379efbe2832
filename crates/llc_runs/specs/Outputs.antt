-- A run as its caller sees it: numbers, and bytes in outputs, in which somebody reads records.
use Rattle.std.specs.Prelude.{ℕ, ◌≡◌, List, [], ◌∷◌, take}
use Rattle.lists.specs.Lists.{All}
use Rattle.llc_rule.specs.Records.{Record, all_bytes}
use Rattle.llc_rule.specs.Runs.{Exchange}
use Rattle.llc_rule.specs.Sizes.{Fits}
use Rattle.llc_steps.specs.Answers.{Effect}
use Rattle.llc.specs.Entry.{call_of}
use Rattle.llc_runs.specs.Runs.{Lent, Station, left}

-- What comes of a call.
abbrev pub effect_of : Station → Lent → Effect
effect_of s c = call_of s.state s.store c.out c.call

-- What lies in the output of a call: its first bytes, as many as the answer tells; none of a refused call.
unfoldable pub in_output : Station → Lent → List ℕ
in_output s c = take (effect_of s c).answer.len (effect_of s c).out

-- Records that somebody reads in bytes: every value fits its field, and the bytes are theirs.
pub record ReadIn (bs : List ℕ) (rs : List Record) : Type 0 where
  pub fits : All Fits rs
  pub bytes : all_bytes rs ≡ bs

-- An exchange that somebody reads off a call: its bytes, the number that was answered, and records read in its output.
pub record ReadOffCall (s : Station) (c : Lent) (e : Exchange) : Type 0 where
  pub call : e.call ≡ c.call
  pub number : e.number ≡ (effect_of s c).answer.number
  pub records : ReadIn (in_output s c) e.records

-- Exchanges that somebody reads off a run: one of each call, in order.
abbrev pub ReadOff : Station → List Lent → List Exchange → Type 0
ReadOff s [] [] = Unit {0}
ReadOff s [] (e ∷ es) = ⊥
ReadOff s (c ∷ cs) [] = ⊥
ReadOff s (c ∷ cs) (e ∷ es) = ReadOffCall s c e × ReadOff (left s c) cs es
