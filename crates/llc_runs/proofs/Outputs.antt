-- What lies in the outputs of a run: the bytes of its records, which determine them.
use Prim.Native.Nat.{ℕ}
use mathlib.Core.Path.{◌≡◌, ◌∙◌, refl, sym, ap, ap₂, subst}
use mathlib.Core.List.{List, [], ◌∷◌, ◌++◌, map}
use borrow.Author.Tests.{eqb-true, not-false}
use lib.Dec.{eqb}
use lib.ListN.{length, take, drop}
use lib.Seq.{take_at}
use Rattle.lists.specs.Lists.{keep, All}
use Rattle.lists.proofs.Lists.{all_back, keep-yes, keep-no}
use Rattle.lists.proofs.Choices.{by-test, either}
use Rattle.questions.specs.Outcome.{Outcome, accepted, refused}
use Rattle.llc_rule.specs.Limits.{store_bytes}
use Rattle.llc_rule.specs.Records.{bytes, all_bytes}
use Rattle.llc_rule.specs.Link.{new}
use Rattle.llc_rule.specs.Runs.{Exchange}
use Rattle.llc_rule.specs.Sizes.{Fits}
use Rattle.llc_rule.proofs.Records.{all-determined}
use Rattle.llc_rule.proofs.Values.{IsByte}
use Rattle.llc_rule.proofs.FitsRuns.{new-fits, fits-run}
use Rattle.llc_steps.specs.States.{Kept}
use Rattle.llc_steps.specs.Answers.{delivered, laid_out}
use Rattle.llc.specs.Entry.{outcome_of, call_of}
use Rattle.record_lines.specs.Split.{in_lines, lines_of_records}
use Rattle.record_lines.proofs.Records.{record-lines}
use Rattle.llc_runs.specs.Runs.{Lent, Station, begin, left, records_of, given, exchange, run, after}
use Rattle.llc_runs.specs.Heard.{was_heard, heard_of, lent_enough, fitting, put_to}
use Rattle.llc_runs.specs.Outputs.{in_output, ReadOff}
use Rattle.llc_runs.specs.Claim.{Shown}
use Rattle.llc_runs.proofs.Ones.{Silent}
use Rattle.llc_runs.proofs.Runs.{silent, fitting-yes, fitting-no, as_step}

-- Records to bytes --------------------------------------------------------------------------------------------------------

-- The output of a call, and the length that it answers.
shown_by :
    (s : Station) (c : Lent) (o : Outcome Kept)
    → ((delivered s.state s.store c.out o).out ≡ laid_out (records_of o) c.out)
    × ((delivered s.state s.store c.out o).answer.len ≡ length (all_bytes (records_of o)))
unfolding laid_out all_bytes
shown_by s c (accepted k) = (refl, refl)
shown_by s c (refused n) = (refl, refl)

pub shown : (s : Station) (c : Lent) → Shown s c
unfolding call_of given
shown s c =
    let p = shown_by s c (outcome_of s.state s.store c.out c.call) in record { out = p.0; len = p.1 }

-- What lies in it are the bytes of the records.
in-output : (s : Station) (c : Lent) → in_output s c ≡ all_bytes (given s c)
unfolding in_output laid_out
in-output s c =
    let l : List ℕ = all_bytes (given s c) in
    ap₂ take (shown s c).len (shown s c).out ∙ take_at l (drop (length l) c.out) (length l) refl

-- Every record fits -------------------------------------------------------------------------------------------------------

abbrev RecordsFit : Exchange → Type 0
RecordsFit e = All Fits e.records

-- A call that got number 1 gave no record.
fits-heard : (es : List Exchange) → All Silent es → All RecordsFit (heard_of es) → All RecordsFit es
unfolding keep
fits-heard [] q h = tt
fits-heard (e ∷ es) q h =
    by-test (was_heard e)
    (λ w.
    let k : All RecordsFit (e ∷ heard_of es) = subst (All RecordsFit) (keep-yes was_heard e es w) h in
    (k.0, fits-heard es q.1 k.1))
    (λ w.
    let none = q.0 (eqb-true e.number 1 (not-false (eqb e.number 1) w)) in
    (subst (All Fits) (sym none) tt, fits-heard es q.1 (subst (All RecordsFit) (keep-no was_heard e es w) h)))

-- The calls of a run are bytes.
fitting-bytes : (cs : List Lent) → All (All IsByte) (fitting cs)
unfolding keep
fitting-bytes [] = tt
fitting-bytes (c ∷ cs) =
    by-test (lent_enough c)
    (λ f. subst (All (All IsByte)) (sym (fitting-yes c cs f)) (c.bytes, fitting-bytes cs))
    (λ f. subst (All (All IsByte)) (sym (fitting-no c cs f)) (fitting-bytes cs))

run_fits : (store : List ℕ) (cs : List Lent) → All RecordsFit (run (begin store) cs)
run_fits store cs =
    let put : All (All IsByte) (put_to store cs) = either (All (All IsByte)) (eqb (length store) store_bytes) (fitting-bytes cs) tt in
    fits-heard (run (begin store) cs) (silent (begin store) cs)
    (subst (All RecordsFit) (sym (as_step store cs).heard) (fits-run new new-fits (put_to store cs) put))

-- Bytes back to records ---------------------------------------------------------------------------------------------------

reads : (s : Station) (cs : List Lent) → All RecordsFit (run s cs) → ReadOff s cs (run s cs)
unfolding run exchange
reads s [] h = tt
reads s (c ∷ cs) h =
    (record { call = refl; number = refl; records = record { fits = h.0; bytes = sym (in-output s c) } }, reads (left s c) cs h.1)

only-run : (s : Station) (cs : List Lent) (es : List Exchange) → All RecordsFit (run s cs) → ReadOff s cs es → es ≡ run s cs
unfolding run exchange
only-run s [] [] h r = refl
only-run s [] (e ∷ es) h r = absurd r
only-run s (c ∷ cs) [] h r = absurd r
only-run s (c ∷ cs) (e ∷ es) h r =
    let same = all-determined e.records (given s c) r.0.records.fits h.0 (r.0.records.bytes ∙ in-output s c) in
    let first : e ≡ exchange s c = λ i. record { call = r.0.call i; number = r.0.number i; records = same i } in
    ap₂ (λ (x : Exchange) (xs : List Exchange). x ∷ xs) first (only-run (left s c) cs es h.1 r.1)

pub readable : (store : List ℕ) (cs : List Lent) → ReadOff (begin store) cs (run (begin store) cs)
readable store cs = reads (begin store) cs (run_fits store cs)

pub only : (store : List ℕ) (cs : List Lent) (es : List Exchange) → ReadOff (begin store) cs es → es ≡ run (begin store) cs
only store cs es r = only-run (begin store) cs es (run_fits store cs) r

-- Lines -------------------------------------------------------------------------------------------------------------------

run-append : (s : Station) (cs ds : List Lent) → run s (cs ++ ds) ≡ run s cs ++ run (after s cs) ds
unfolding run after
run-append s [] ds = refl
run-append s (c ∷ cs) ds = ap (λ (es : List Exchange). exchange s c ∷ es) (run-append (left s c) cs ds)

given-fits : (store : List ℕ) (before : List Lent) (c : Lent) → All Fits (given (after (begin store) before) c)
unfolding run exchange
given-fits store before c =
    (all_back RecordsFit (run (begin store) before) (run (after (begin store) before) (c ∷ []))
    (subst (All RecordsFit) (run-append (begin store) before (c ∷ [])) (run_fits store (before ++ (c ∷ []))))
    ).0

pub lines :
    (store : List ℕ) (before : List Lent) (c : Lent)
    → lines_of_records (in_output (after (begin store) before) c) ≡ in_lines (map bytes (given (after (begin store) before) c))
lines store before c =
    let s : Station = after (begin store) before in
    ap lines_of_records (in-output s c) ∙ record-lines (given s c) (given-fits store before c)
