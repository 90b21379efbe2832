-- What is handed down with a receipt among some records: of lists put together, and nothing of replies, of unacknowledged messages
-- and of what goes up.
use Prim.Native.Nat.{ℕ}
use mathlib.Core.Path.{◌≡◌, ◌∙◌, refl}
use mathlib.Core.List.{List, [], ◌∷◌, ◌++◌, map}
use lib.Dec.{eqb}
use Rattle.lists.proofs.Choices.{by-test}
use Rattle.llc_pdus.specs.declared.Pdu.{Pdu}
use Rattle.llc_pdus.specs.declared.Pdu.TheVariants.{BlAdata, BlData, BlUdata, BlAck}
use Rattle.llc_rule.specs.Calls.{Frame}
use Rattle.llc_rule.specs.Records.{Record, acknowledged, reply, unacknowledged, data_up, unitdata_up, Sent}
use Rattle.llc_rule.specs.Upward.{upward}
use Rattle.llc_rule.specs.Messages.{Due, reply_to}
use Rattle.llc_rule.specs.Sendings.{handed}

pub handed-append : (i : ℕ) (rs qs : List Record) → handed i (rs ++ qs) ≡ handed i rs ++ handed i qs
unfolding handed
handed-append i [] qs = refl
handed-append i (acknowledged s ∷ rs) qs =
    by-test (eqb s.receipt i) (λ h. rw (h, handed-append i rs qs)) (λ h. rw (h, handed-append i rs qs))
handed-append i (reply r ∷ rs) qs = handed-append i rs qs
handed-append i (unacknowledged s ∷ rs) qs = handed-append i rs qs
handed-append i (data_up u ∷ rs) qs = handed-append i rs qs
handed-append i (unitdata_up u ∷ rs) qs = handed-append i rs qs

handed-replies : (i : ℕ) (ds : List Due) → handed i (map reply_to ds) ≡ []
unfolding handed reply_to
handed-replies i [] = refl
handed-replies i (d ∷ ds) = handed-replies i ds

handed-unacknowledged : (i : ℕ) (us : List Sent) → handed i (map unacknowledged us) ≡ []
unfolding handed
handed-unacknowledged i [] = refl
handed-unacknowledged i (u ∷ us) = handed-unacknowledged i us

pub handed-upward : (i : ℕ) (f : Frame) (p : Pdu) (sdu : List ℕ) → handed i (upward f p sdu) ≡ []
unfolding handed upward
handed-upward i f (BlAdata c nr ns) sdu = refl
handed-upward i f (BlData c ns) sdu = refl
handed-upward i f (BlUdata c) sdu = refl
handed-upward i f (BlAck c nr) [] = refl
handed-upward i f (BlAck c nr) (b ∷ sdu) = refl

-- The third and fourth pass of a tick end.
pub handed-rest : (i : ℕ) (ds : List Due) (us : List Sent) → handed i (map reply_to ds ++ map unacknowledged us) ≡ []
unfolding handed
handed-rest i ds us = handed-append i (map reply_to ds) (map unacknowledged us) ∙ rw (handed-replies i ds, handed-unacknowledged i us)
