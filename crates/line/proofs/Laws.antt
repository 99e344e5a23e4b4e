-- Laws of the line: the fewest digits of a number are its decimal, and parts stored one after another are the line.
use mathlib.Core.Path.{◌≡◌, ◌∙◌, ap}
use mathlib.Core.List.{List, [], ◌∷◌, ◌++◌}
use Prim.Native.Nat.{ℕ, zero, suc, ◌+◌, ◌-◌, ◌/◌, ◌%◌, ◌^◌, ◌≤◌, ◌<◌}
use native.Mathlib.Nat.{pow-suc, one-le-pow, mod-eq_of_lt}
use native.Mathlib.Omega.{arith}
use borrow.Author.Tests.{lt-ltb, le-ltb}
use lib.Dec.{ltb}
use lib.ListN.{length, take, drop, length-append}
use lib.Seq.{take-append_seam}
use Rattle.io.specs.Digits.{last_digits, IsDigitCount}
use Rattle.stores.specs.Storing.{Putting, put_fits}
use Rattle.stores.proofs.Stores.{sets_front, putting_then}
use Rattle.octets.proofs.Pick.{pick_cases}
use Rattle.heads.specs.declared.Refusal.{Refusal}
use Rattle.heads.specs.Faults.{number_of}
use Rattle.heads.specs.Answer.{Answer, answered, refused_by, left_by}
use Rattle.line.specs.Line.{decimal_in, decimal_of, ascii, line_of, Lined}

-- A number has no more digits than are allowed.
decimal_long : (allowed n : ℕ) → length (decimal_in allowed n) ≤ allowed
unfolding decimal_in
decimal_long zero n = omega arith
decimal_long (suc allowed) n =
    pick_cases (λ (v : List ℕ). length v ≤ suc allowed) (ltb n 10)
    (λ _. omega arith)
    (λ _. omega (arith, length-append (decimal_in allowed (n / 10)) ((48 + n % 10) ∷ []), decimal_long allowed (n / 10)))

-- The last digit apart, in ASCII.
last_digit : (k n : ℕ) → last_digits 10 (suc k) n ≡ last_digits 10 k (n / 10) ++ ((48 + n % 10) ∷ [])
last_digit k n =
    let l : n % 10 < 10 = omega arith in
    simp lt-ltb

-- A number of more than one digit is 10 at least, and its tenth has a digit less.
tens : (j n : ℕ) → IsDigitCount 10 1 n (suc (suc j)) → (10 ≤ n) × IsDigitCount 10 1 (n / 10) (suc j)
tens j n f =
    let p : 1 ≤ 10 ^ j = one-le-pow j 10 (omega arith) in
    let i : suc (suc j) - 1 ≡ suc j = omega arith in
    let e : suc j - 1 ≡ j = omega arith in
    let q : 10 ^ suc j ≤ n = rw i at (f.2 (omega arith)) in
    (omega (arith, pow-suc 10 j), (omega arith, omega (arith, f.1, pow-suc 10 j, pow-suc 10 (suc j)), λ g. rw e (omega (arith, pow-suc 10 j))))

-- The fewest digits of a number are its decimal.
pub fewest_digits : (allowed k n : ℕ) → n < 10 ^ suc allowed → IsDigitCount 10 1 n k → last_digits 10 k n ≡ decimal_in (suc allowed) n
unfolding decimal_in
fewest_digits allowed zero n h f = absurd (omega arith)
fewest_digits allowed (suc zero) n h f =
    let l : n < 10 = omega (arith, f.1) in
    simp (lt-ltb, mod-eq_of_lt)
fewest_digits zero (suc (suc j)) n h f = absurd (omega (arith, (tens j n f).0))
fewest_digits (suc allowed) (suc (suc j)) n h f =
    let t = tens j n f in
    let l : 10 ≤ n = t.0 in
    let more = fewest_digits allowed (suc j) (n / 10) (omega (arith, pow-suc 10 (suc allowed))) t.1 in
    last_digit (suc j) n ∙ simp (le-ltb, more)

-- The line, stored at the start of a buffer that has room for it.
at-start : {d e : List ℕ} {r : ℕ} (a : Answer ℕ) → length (line_of a) ≤ length d → Putting d 0 (line_of a) r e → Lined a d r e
unfolding left_by
at-start {d} a h p =
    let q = put_fits (omega arith) p in
    record { long = omega (arith, q.next); left = q.stored ∙ sets_front (line_of a) d h }

-- One text after another at the start of a buffer of 64 octets.
more : {d e f us vs : List ℕ} {a r : ℕ} → 64 ≡ length d → length us + length vs ≤ 64
    → Putting d 0 us a e → Putting e a vs r f → Putting d 0 (us ++ vs) r f
more l h p q = putting_then (omega arith) p q

-- A number of 64 bits has 20 digits at most.
few : (n : ℕ) → length (decimal_of n) ≤ 20
unfolding decimal_of
few n = decimal_long 20 n

-- The line of a count, from the promises of its three parts.
pub frames_line : {d e f g : List ℕ} {a b r : ℕ} (n : ℕ) → 64 ≡ length d
    → Putting d 0 (ascii "frames ") a e → Putting e a (decimal_of n) b f → Putting f b (ascii "\n") r g → Lined (answered n) d r g
unfolding line_of
frames_line n l p q t =
    let x = length-append (ascii "frames ") (decimal_of n) in
    at-start (answered n) (omega (arith, few n, x, length-append (ascii "frames " ++ decimal_of n) (ascii "\n")))
    (more l (omega (arith, few n, x)) (more l (omega (arith, few n)) p q) t)

-- The line of a refusal, from the promises of its five parts.
pub refused_line : {d e f g h i : List ℕ} {a b j k r : ℕ} (x : Refusal) → 64 ≡ length d
    → Putting d 0 (ascii "refused ") a e → Putting e a (decimal_of (number_of x.fault)) b f → Putting f b (ascii " at ") j g
    → Putting g j (decimal_of x.place) k h → Putting h k (ascii "\n") r i → Lined (refused_by x) d r i
unfolding line_of
refused_line x l p q s t u =
    let n = decimal_of (number_of x.fault) in
    let m = decimal_of x.place in
    let v : length n ≤ 20 = few (number_of x.fault) in
    let w : length m ≤ 20 = few x.place in
    let y = length-append (ascii "refused ") n in
    let z = length-append (ascii "refused " ++ n) (ascii " at ") in
    let o = length-append (ascii "refused " ++ n ++ ascii " at ") m in
    at-start (refused_by x) (omega (arith, y, z, o, length-append (ascii "refused " ++ n ++ ascii " at " ++ m) (ascii "\n")))
    (more l (omega (arith, y, z, o)) (more l (omega (arith, y, z)) (more l (omega (arith, y)) (more l (omega arith) p q) s) t) u)

-- The line stands at the start of the buffer.
pub line_taken : {d e : List ℕ} {r : ℕ} {a : Answer ℕ} → Lined a d r e → take r e ≡ line_of a
unfolding left_by
line_taken {d} {r = r} {a = a} w =
    ap (take r) w.left ∙ ap (λ n. take n (line_of a ++ drop (length (line_of a)) d)) w.long ∙ take-append_seam (line_of a) (drop (length (line_of a)) d)
