-- Feeding a line's characters one by one gathers what the line spells.
use Prim.Native.Nat.{ℕ, suc, ◌+◌, ◌*◌, ◌/◌, ◌%◌, ◌≤◌, ◌<◌}
use native.Mathlib.Omega.{arith}
use mathlib.Core.Path.{◌≡◌, ◌∙◌, refl, sym, ap}
use mathlib.Core.Bool.{Bool, true, false, cond, ◌||◌, or-true, true≢false, false≢true}
use mathlib.Core.List.{List, [], ◌∷◌, ◌++◌, append_assoc, append-nil}
use mathlib.Core.Option.{Option, none, some}
use borrow.Author.Tests.{eqb-true, eqb-false, eq-eqb, ne_eqb, ltb-true, ltb-false, lt-ltb, le-ltb, le-leb, lt-leb}
use lib.Dec.{leb, ltb}
use lib.ListN.{length, get_or, take, length-append, length-set}
use lib.Seq.{append_snoc, take-set-le, take-suc-set, get_or-set_same}
use Rattle.std.proofs.lemmas.Bool.{cond_both, or_parts}
use Rattle.std.proofs.lemmas.List.{length_push}
use Rattle.lists.proofs.Choices.{by-test}
use Rattle.hex_lines.specs.Lines.{most, most_bytes, digit, joined, bytes_of, call_in}
use Rattle.hex_lines.specs.Gathering.{Gathered, fresh, spoiled, longer, pushed, feed_value, feed_of, begun_of, odd, finished_of, said, call_length}
use Rattle.hex_lines.specs.Fed.{some_in, onto, resumed, Good, Hopeless, Fed}
use Rattle.hex_lines.specs.declared.Line.{Line}
use Rattle.questions.specs.declared.Refusal.{Refusal}
use Rattle.std.specs.Prelude.{Result}
use Rattle.hex_lines.proofs.Digits.{Below, digit-below}

-- ---- one more digit

-- A digit in front is the odd one out of what follows.
first-digit : (c v : ℕ) → digit c ≡ some v → (ds : List ℕ) → bytes_of (c ∷ ds) ≡ resumed true v ds
unfolding bytes_of
first-digit c v e [] = refl
first-digit c v e (d ∷ ds) = rw e

-- A byte in front of the rest is the last of those in front.
onto-joined :
    (bs : List ℕ) (w v : ℕ) (o : Option (List ℕ))
    → onto bs (joined (some w) (some v) o) ≡ onto (bs ++ ((w * 16 + v) ∷ [])) o
onto-joined bs w v none = refl
onto-joined bs w v (some ds) = ap some (sym (append_assoc bs ((w * 16 + v) ∷ []) ds))

module _ (bs : List ℕ) (k c v : ℕ) (e : digit c ≡ some v) (low : v < 16) (inside : k < length bs) (ds : List ℕ) where
  -- Behind an even count the digit is kept in byte k.
  kept :
      onto (take k bs) (resumed false (get_or bs k 0 % 16) (c ∷ ds))
      ≡ onto (take k (pushed bs k v)) (resumed true (get_or (pushed bs k v) k 0 % 16) ds)
  kept =
      let x : ℕ = get_or bs k 0 % 16 * 16 + v in
      let m : x % 16 ≡ v = omega arith in
      rw (first-digit c v e ds, take-set-le k bs k x (omega arith), get_or-set_same bs k x 0 inside, m)

  -- Behind an odd count it completes byte k.
  completed : onto (take k bs) (resumed true (get_or bs k 0 % 16) (c ∷ ds)) ≡ onto (take (suc k) (pushed bs k v)) (bytes_of ds)
  completed =
      rw (e, take-suc-set bs k (get_or bs k 0 % 16 * 16 + v) inside)
      (onto-joined (take k bs) (get_or bs k 0 % 16) v (bytes_of ds))

-- A good line with one more digit is good.
next-digit :
    (cs : List ℕ) (n : ℕ) (bs : List ℕ) (c v : ℕ)
    → Good cs n bs
    → digit c ≡ some v
    → v < 16
    → n < most
    → n / 2 < length bs
    → Good (cs ++ (c ∷ [])) (n + 1) (pushed bs (n / 2) v)
next-digit cs n bs c v g e low few inside =
    record {
      count = omega (arith, length_push cs c, g.count);
      few = omega arith;
      spells =
          λ ds.
          rw (append_snoc cs c ds)
          (g.spells (c ∷ ds)
          ∙ by-test (odd n)
          (λ o.
          let o' : n % 2 ≡ 1 = eqb-true (n % 2) 1 o in
          let k : (n + 1) / 2 ≡ suc (n / 2) = omega arith in
          rw (o, k, ne_eqb ((n + 1) % 2) 1 (λ z. omega arith)) (completed bs (n / 2) c v e low inside ds))
          (λ o.
          let o' : n % 2 ≡ 0 = omega (arith, eqb-false (n % 2) 1 o) in
          let k : (n + 1) / 2 ≡ n / 2 = omega arith in
          rw (o, k, eq-eqb ((n + 1) % 2) 1 (omega arith)) (kept bs (n / 2) c v e low inside ds)));
    }

-- ---- a line that is spoiled

-- A character that is no digit spoils what it stands in.
no_digit : (bs : List ℕ) (o : Bool) (w c : ℕ) (ds : List ℕ) → digit c ≡ none → onto bs (resumed o w (c ∷ ds)) ≡ none
unfolding bytes_of
no_digit bs true w c ds e = rw e
no_digit bs false w c [] e = refl
no_digit bs false w c (d ∷ ds) e = rw e

choice-none : (b : Bool) (o : Option (List ℕ)) → o ≡ none → cond b o none ≡ none
choice-none true o e = e
choice-none false o e = refl

spoiled-by-other :
    (cs : List ℕ) (n : ℕ) (bs : List ℕ) (c : ℕ)
    → Good cs n bs
    → digit c ≡ none
    → Hopeless (cs ++ (c ∷ []))
unfolding call_in
spoiled-by-other cs n bs c g e ds =
    choice-none (leb (length ((cs ++ (c ∷ [])) ++ ds)) most) (bytes_of ((cs ++ (c ∷ [])) ++ ds))
    (ap bytes_of (append_snoc cs c ds)
    ∙ g.spells (c ∷ ds)
    ∙ no_digit (take (n / 2) bs) (odd n) (get_or bs (n / 2) 0 % 16) c ds e)

-- So does a 4,097th digit.
pub too_long : (cs : List ℕ) → most < length cs → call_in cs ≡ none
unfolding call_in
too_long cs h = rw (lt-leb (length cs) most h)

spoiled-by-length : (cs : List ℕ) (c : ℕ) → most ≤ length cs → Hopeless (cs ++ (c ∷ []))
spoiled-by-length cs c h ds =
    too_long ((cs ++ (c ∷ [])) ++ ds) (omega (arith, length-append (cs ++ (c ∷ [])) ds, length_push cs c))

-- A line that is spoiled stays so.
stays-spoiled : (cs : List ℕ) (c : ℕ) → Hopeless cs → Hopeless (cs ++ (c ∷ []))
stays-spoiled cs c h ds = ap call_in (append_snoc cs c ds) ∙ h (c ∷ ds)

-- ---- the laws

-- A line of which no character has come.
pub begin : (bs : List ℕ) → most_bytes ≤ length bs → Fed [] fresh bs
unfolding begun_of
begin bs room =
    record {
      room = room;
      begun = refl;
      good = λ h. record { count = refl; few = omega arith; spells = λ ds. onto-nothing (bytes_of ds) };
      bad = λ h. absurd (false≢true h);
    }
  where
    onto-nothing : (o : Option (List ℕ)) → o ≡ onto [] o
    onto-nothing none = refl
    onto-nothing (some bs) = refl

some-later : (cs : List ℕ) (c : ℕ) → some_in (cs ++ (c ∷ [])) ≡ true
some-later [] c = refl
some-later (d ∷ cs) c = refl

begun-longer : (l : Line) → begun_of (longer l) ≡ true
unfolding begun_of
begun-longer l = rw (lt-ltb 0 (l.digits + 1) (omega arith))

begun-spoiled : (l : Line) → begun_of (spoiled l) ≡ true
unfolding begun_of
begun-spoiled l = or-true (ltb 0 l.digits)

abbrev FedBy : List ℕ → Gathered → Type 0
FedBy cs g = Fed cs g.line g.bytes

-- A spoiled line, from what is known of its characters.
spoils :
    {cs : List ℕ} {l : Line} {bs : List ℕ} (c : ℕ)
    → Fed cs l bs
    → (l.bad ≡ false → Hopeless (cs ++ (c ∷ [])))
    → Fed (cs ++ (c ∷ [])) (spoiled l) bs
spoils {cs} {l} {bs} c f h =
    record {
      room = f.room;
      begun = begun-spoiled l ∙ sym (some-later cs c);
      good = λ t. absurd (true≢false t);
      bad = λ t. by-test l.bad (λ b. stays-spoiled cs c (f.bad b)) h;
    }

-- The same by the value of the character.
feed-value :
    {cs : List ℕ} {l : Line} {bs : List ℕ} (c : ℕ) (o : Option ℕ)
    → digit c ≡ o
    → Below o
    → Fed cs l bs
    → FedBy (cs ++ (c ∷ [])) (feed_value l bs o)
unfolding feed_value
feed-value {cs} {l} {bs} c none e b f = spoils c f (λ t. spoiled-by-other cs l.digits bs c (f.good t) e)
feed-value {cs} {l} {bs} c (some v) e b f =
    cond_both (ltb l.digits most) _ _ (FedBy (cs ++ (c ∷ [])))
    (λ t.
    cond_both (ltb (l.digits / 2) (length bs)) _ _ (FedBy (cs ++ (c ∷ [])))
    (λ u.
    record {
      room = rw (length-set bs (l.digits / 2) (get_or bs (l.digits / 2) 0 % 16 * 16 + v)) f.room;
      begun = begun-longer l ∙ sym (some-later cs c);
      good =
          λ g.
          next-digit cs l.digits bs c v (f.good g) e b (ltb-true l.digits most t)
          (ltb-true (l.digits / 2) (length bs) u);
      bad = λ g. stays-spoiled cs c (f.bad g);
    })
    (λ u. absurd (omega (arith, ltb-true l.digits most t, ltb-false (l.digits / 2) (length bs) u, f.room))))
    (λ t. spoils c f (λ g. spoiled-by-length cs c (omega (arith, ltb-false l.digits most t, (f.good g).count))))

-- One more character keeps what the line and the bytes say.
pub feed-keeps :
    {cs : List ℕ} {l : Line} {bs : List ℕ} (c : ℕ)
    → Fed cs l bs
    → Fed (cs ++ (c ∷ [])) (feed_of l bs c).line (feed_of l bs c).bytes
feed-keeps c f = feed-value c (digit c) refl (digit-below c) f

-- ---- at the line's end

-- A good line with an even count of digits spells the bytes gathered, one with an odd count nothing.
good-spells :
    {cs : List ℕ} {n : ℕ} {bs : List ℕ} (o : Bool)
    → odd n ≡ o
    → Good cs n bs
    → call_in cs ≡ onto (take (n / 2) bs) (resumed o (get_or bs (n / 2) 0 % 16) [])
unfolding call_in
good-spells {cs} {n} {bs} o e g =
    rw (le-leb (length cs) most (omega (arith, g.few, g.count)))
    (ap bytes_of (sym (append-nil cs)) ∙ g.spells [] ∙ rw e)

even-spells : {cs : List ℕ} {n : ℕ} {bs : List ℕ} → odd n ≡ false → Good cs n bs → call_in cs ≡ some (take (n / 2) bs)
unfolding bytes_of
even-spells {cs} {n} {bs} e g = good-spells false e g ∙ ap some (append-nil (take (n / 2) bs))

-- The one of three tests that is left passes.
third : {x y z : Bool} → x || y || z ≡ true → x ≡ false → y ≡ false → z ≡ true
third {x = true} {y} {z} t a b = absurd (true≢false a)
third {x = false} {y = true} {z} t a b = absurd (true≢false b)
third {x = false} {y = false} {z} t a b = t

-- At a line's end the answer says the call that the line spells.
pub finished-says : {cs : List ℕ} {l : Line} {bs : List ℕ} → Fed cs l bs → call_in cs ≡ said (finished_of l) bs
unfolding finished_of
finished-says {cs} {l} {bs} f =
    cond_both (l.bad || ltb most l.digits || odd l.digits) _ _ (λ (a : Result ℕ Refusal). call_in cs ≡ said a bs)
    (λ t.
    by-test l.bad
    (λ b. ap call_in (sym (append-nil cs)) ∙ f.bad b [])
    (λ b.
    let g = f.good b in
    good-spells true (third t b (le-ltb most l.digits g.few)) g))
    (λ t.
    let u = or_parts (l.bad || ltb most l.digits) (odd l.digits) t in
    even-spells u.1 (f.good (or_parts l.bad (ltb most l.digits) u.0).0))

-- A call has at most 2,048 bytes, whatever the line's state.
pub finished-few : (l : Line) → call_length (finished_of l) ≤ most_bytes
unfolding finished_of
finished-few l =
    cond_both (l.bad || ltb most l.digits || odd l.digits) _ _ (λ (a : Result ℕ Refusal). call_length a ≤ most_bytes)
    (λ t. omega arith)
    (λ t.
    let u = or_parts (l.bad || ltb most l.digits) (odd l.digits) t in
    let w = or_parts l.bad (ltb most l.digits) u.0 in
    omega (arith, ltb-false most l.digits w.1))
