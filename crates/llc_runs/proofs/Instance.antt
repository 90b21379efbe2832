-- A run that meets the hypotheses of the theorems: the calls of the instance on the link, each lent an output as long
-- as it must be, on a store of its length; and before the two requests one call that is lent a byte too few.
use Prim.Native.Nat.{ℕ, ◌-◌, ◌*◌, ◌<◌}
use native.Mathlib.Omega.{arith}
use mathlib.Core.Path.{◌≡◌, ◌∙◌, refl, ap, ap₂}
use mathlib.Core.Bool.{Bool, true, false, not}
use mathlib.Core.List.{List, [], ◌∷◌, ◌++◌, append-nil}
use borrow.Author.Tests.{ltb-true, le-leb, lt-leb, eq-eqb}
use lib.Dec.{eqb, ltb, leb}
use lib.ListN.{length, replicate, length-replicate}
use Rattle.std.proofs.lemmas.Bool.{and_parts, cond-true, and_right}
use Rattle.lists.specs.Lists.{keep, all, All}
use Rattle.llc_rule.specs.Limits.{output_bytes, store_bytes}
use Rattle.llc_rule.specs.Calls.{to_bytes}
use Rattle.llc_rule.specs.Link.{new}
use Rattle.llc_rule.specs.Runs as Rule
use Rattle.llc_rule.specs.Runs.{Exchange}
use Rattle.llc_rule.specs.Seen.{unhindered, SeesItsOwnPast}
use Rattle.llc_rule.proofs.Instance.{ask_first, ask_second, opening_calls, later_calls, instance_calls, turned_calls, has_kind, has_number, instance-kinds, instance-numbers, unhindered-instance, unhindered-turned}
use Rattle.llc.specs.Entry.{lent_right}
use Rattle.llc_runs.specs.Runs.{Lent, begin, exchange, run, after}
use Rattle.llc_runs.specs.Claim.{receipts_after}
use Rattle.llc_runs.specs.Heard.{heard_of, lent_enough, fitting, put_to}
use Rattle.llc_runs.proofs.Runs.{fitting-append, fitting-yes, fitting-no}
use Rattle.llc_runs.proofs.Claim.{unhindered-is, put_right, two-put, claim}

-- Calls of bytes.
abbrev pub is_bytes : List ℕ → Bool
is_bytes c = all (λ (b : ℕ). ltb b 256) c

pub are-bytes : (c : List ℕ) → is_bytes c ≡ true → All (λ (b : ℕ). b < 256) c
unfolding all
are-bytes [] e = tt
are-bytes (b ∷ c) e =
    let t = and_parts (ltb b 256) (is_bytes c) e in (ltb-true b 256 t.0, are-bytes c t.1)

-- A call that is lent an output, and calls that are each lent the same.
abbrev pub lend_one : List ℕ → (c : List ℕ) → is_bytes c ≡ true → Lent
lend_one out c e = record { call = c; bytes = are-bytes c e; out = out }

unfoldable pub lend : List ℕ → (cs : List (List ℕ)) → all is_bytes cs ≡ true → List Lent
unfolding all
lend out [] e = []
lend out (c ∷ cs) e =
    let t = and_parts (is_bytes c) (all is_bytes cs) e in lend_one out c t.0 ∷ lend out cs t.1

pub lent-fit :
    (out : List ℕ) (cs : List (List ℕ)) (e : all is_bytes cs ≡ true) → leb output_bytes (length out) ≡ true → fitting (lend out cs e) ≡ cs
unfolding all lend keep
lent-fit out [] e n = refl
lent-fit out (c ∷ cs) e n =
    let t = and_parts (is_bytes c) (all is_bytes cs) e in
    fitting-yes (lend_one out c t.0) (lend out cs t.1) n
    ∙ ap (λ (ds : List (List ℕ)). c ∷ ds) (lent-fit out cs t.1 n)

-- Store and outputs of zeros, and an output that is a byte too short.
abbrev pub zero_store : List ℕ
zero_store = replicate store_bytes 0

pub wide : List ℕ
wide = replicate output_bytes 0

pub short : List ℕ
short = replicate (output_bytes - 1) 0

pub right : eqb (length zero_store) store_bytes ≡ true
right = eq-eqb (length zero_store) store_bytes (length-replicate {A = ℕ} store_bytes 0)

pub wide_fits : leb output_bytes (length wide) ≡ true
unfolding wide
wide_fits = le-leb output_bytes (length (replicate {A = ℕ} output_bytes 0)) (omega (arith, length-replicate {A = ℕ} output_bytes 0))

pub short-does-not : leb output_bytes (length short) ≡ false
unfolding short
short-does-not = lt-leb output_bytes (length (replicate {A = ℕ} (output_bytes - 1) 0)) (omega (arith, length-replicate {A = ℕ} (output_bytes - 1) 0))

-- The calls are bytes.
opening-bytes : all is_bytes opening_calls ≡ true
unfolding all to_bytes opening_calls
opening-bytes = refl

later-bytes : all is_bytes later_calls ≡ true
unfolding all to_bytes later_calls
later-bytes = refl

pub first-bytes : is_bytes ask_first ≡ true
unfolding all to_bytes
first-bytes = refl

pub second-bytes : is_bytes ask_second ≡ true
unfolding all to_bytes
second-bytes = refl

-- The run: its beginning, the call that is lent too little, the two requests in either order, and what follows.
pub started : List Lent
started = lend wide opening_calls opening-bytes

pub too_short : Lent
too_short = lend_one short ask_second second-bytes

unfoldable pub lent_first : Lent
lent_first = lend_one wide ask_first first-bytes

unfoldable pub lent_second : Lent
lent_second = lend_one wide ask_second second-bytes

pub later_lents : List Lent
later_lents = lend wide later_calls later-bytes

abbrev pub opening_lents : List Lent
opening_lents = started ++ (too_short ∷ [])

abbrev pub lents : List Lent
lents = opening_lents ++ (lent_first ∷ lent_second ∷ later_lents)

abbrev pub turned_lents : List Lent
turned_lents = opening_lents ++ (lent_second ∷ lent_first ∷ later_lents)

-- What of it is put to the link.
pub first_fits : lent_enough lent_first ≡ true
unfolding lent_first
first_fits = wide_fits

pub second_fits : lent_enough lent_second ≡ true
unfolding lent_second
second_fits = wide_fits

pub opening-put : put_to zero_store opening_lents ≡ opening_calls
unfolding started too_short keep
opening-put =
    cond-true _ (fitting opening_lents) [] right
    ∙ fitting-append started (too_short ∷ [])
    ∙ ap₂ (λ (x y : List (List ℕ)). x ++ y)
    (lent-fit wide opening_calls opening-bytes wide_fits)
    (fitting-no too_short [] short-does-not)
    ∙ append-nil opening_calls

pub later-fit : fitting later_lents ≡ later_calls
unfolding later_lents
later-fit = lent-fit wide later_calls later-bytes wide_fits

pub lents-put : put_to zero_store lents ≡ instance_calls
unfolding lent_first lent_second
lents-put =
    put_right zero_store opening_lents (lent_first ∷ lent_second ∷ later_lents) (ask_first ∷ ask_second ∷ later_calls) right
    (two-put lent_first lent_second later_lents first_fits second_fits
    ∙ ap (λ (x : List (List ℕ)). ask_first ∷ ask_second ∷ x) later-fit)
    ∙ ap (λ (x : List (List ℕ)). x ++ (ask_first ∷ ask_second ∷ later_calls)) opening-put

pub turned-put : put_to zero_store turned_lents ≡ turned_calls
unfolding lent_first lent_second
turned-put =
    put_right zero_store opening_lents (lent_second ∷ lent_first ∷ later_lents) (ask_second ∷ ask_first ∷ later_calls) right
    (two-put lent_second lent_first later_lents second_fits first_fits
    ∙ ap (λ (x : List (List ℕ)). ask_second ∷ ask_first ∷ x) later-fit)
    ∙ ap (λ (x : List (List ℕ)). x ++ (ask_second ∷ ask_first ∷ later_calls)) opening-put

-- No call is hindered.
pub unhindered-lents : unhindered (run (begin zero_store) lents) ≡ true
unhindered-lents =
    unhindered-is zero_store lents
    ∙ ap (λ (x : List (List ℕ)). unhindered (Rule.run new x)) lents-put
    ∙ unhindered-instance

pub unhindered-turned-lents : unhindered (run (begin zero_store) turned_lents) ≡ true
unhindered-turned-lents =
    unhindered-is zero_store turned_lents
    ∙ ap (λ (x : List (List ℕ)). unhindered (Rule.run new x)) turned-put
    ∙ unhindered-turned

-- Its numbers and records are those of the instance, all five kinds and four refusals; and one call got number 1.
heard-lents : heard_of (run (begin zero_store) lents) ≡ Rule.run new instance_calls
heard-lents = (claim.as_step zero_store lents).heard ∙ ap (Rule.run new) lents-put

pub kinds-lents : all (has_kind (heard_of (run (begin zero_store) lents))) (1 ∷ 2 ∷ 3 ∷ 4 ∷ 5 ∷ []) ≡ true
kinds-lents = ap (λ (es : List Exchange). all (has_kind es) (1 ∷ 2 ∷ 3 ∷ 4 ∷ 5 ∷ [])) heard-lents ∙ instance-kinds

pub numbers-lents : all (has_number (heard_of (run (begin zero_store) lents))) (0 ∷ 3 ∷ 4 ∷ 15 ∷ 16 ∷ []) ≡ true
numbers-lents = ap (λ (es : List Exchange). all (has_number es) (0 ∷ 3 ∷ 4 ∷ 15 ∷ 16 ∷ [])) heard-lents ∙ instance-numbers

pub one_lent : eqb (exchange (after (begin zero_store) started) too_short).number 1 ≡ true
unfolding lent_right too_short
one_lent =
    (claim.in_range zero_store started).number too_short
    ∙ ap not (and_right (eqb (length (after (begin zero_store) started).store) (8 * store_bytes)) _ short-does-not)

-- So demand 3 says of it what it says of every address.
pub sees-lents : (a : ℕ) → SeesItsOwnPast (run (begin zero_store) lents) (receipts_after zero_store lents) a
sees-lents = (claim.runs zero_store).demand3 lents unhindered-lents
