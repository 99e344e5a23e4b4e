-- Laws of rows.
--     signed_fits, signed_word    the word of a signed number
--     float_shown, rest_shown    a float, and the data types that have no sign and are no float
--     six_stored, number_fits    a row's words
--     given_as_lem, given_is    the sample of a row
-- Assumes nothing.
use mathlib.Core.Path.{◌≡◌, refl, ap, ◌∙◌}
use mathlib.Core.Logic.{◌⊎◌, inl, inr, ⊎_elim}
use mathlib.Core.Bool.{Bool, true, false}
use mathlib.Core.List.{List, [], ◌∷◌}
use Prim.Native.Nat.{ℕ, ◌+◌, ◌*◌, ◌-◌, ◌/◌, ◌^◌, ◌<◌, ◌≤◌}
use native.Mathlib.Decide.{dec_lt}
use native.Mathlib.Nat.{div-eq_of_lt, div-eq_of_lt-le, mul-le-mul}
use native.Mathlib.Numerals.{unary_clauses}
use native.Mathlib.Omega.{arith}
use borrow.Author.Tests.{lt-ltb, le-ltb}
use lib.ListN.{length, get_or, take, set}
use lib.Seq.{sets}
use Rattle.octets.specs.Pick.{pick}
use Rattle.octets.specs.Number.{range, number_of, twos}
use Rattle.values.specs.Sample.{Said, width_of, not_number_said, plain_of}
use Rattle.values.proofs.Laws.{type_cases, width_other, plain_other}
use Rattle.dated.specs.declared.Dated.{Dated}
use Rattle.dated.specs.Dated.{zero_dated}
use Rattle.words.specs.declared.Sampling.{Sampling}
use Rattle.words.specs.Words.{sampling_of}
use Rattle.link.specs.Link.{Coming, Link, given_as}
use Rattle.rows.specs.declared.Spot.{Spot}
use Rattle.rows.specs.Rows.{whole_word, coming_at, given_from}
use Rattle.rows.specs.Laying.{showing, shown_as, given_at}

-- ---- a value

module _ (bits half : ℕ) (some : 0 < half) (few : half ≤ 2 ^ 31) (near : bits < 2 * half) where
  -- The higher half of a range is told by a quotient.
  halves : ((bits < half) × (bits / half ≡ 0)) ⊎ ((half ≤ bits) × (bits / half ≡ 1))
  halves = by (dec_lt bits half)
    where
      by : Dec (bits < half) → ((bits < half) × (bits / half ≡ 0)) ⊎ ((half ≤ bits) × (bits / half ≡ 1))
      by (yes l) = inl (l, div-eq_of_lt l)
      by (no l) = inr (omega arith, div-eq_of_lt-le half (omega arith) (omega arith))

  -- What is added to bits of the higher half.
  abbrev pub added : ℕ
  added = bits / half * (18446744073709551615 - (2 * half - 1))

  pub signed_fits : bits + added < 2 ^ 64
  signed_fits = ⊎_elim (λ h. rw h.1 (omega arith)) (λ h. rw h.1 (omega arith)) halves

  pub signed_word : (w : ℕ) → range w ≡ 2 * half → bits + added ≡ whole_word (twos w bits)
  unfolding twos
  signed_word w e =
      ⊎_elim
      (λ h. let k : 2 * bits < range w = omega arith in simp (h.1, lt-ltb _ _ k) (omega arith))
      (λ h. let k : range w ≤ 2 * bits = omega arith in simp (h.1, le-ltb _ _ k) (omega arith))
      halves

-- A float: no number, or of its kind.
pub float_shown : (t : Bool) (f : ℕ → Said) (n kind : ℕ) → showing kind 0 ≡ shown_as (f n) → showing (pick t 4 kind) 0 ≡ shown_as (pick t (not_number_said n) (f n))
float_shown true f n kind e = refl
float_shown false f n kind e = e

-- Any other whole number; a number that is no data type has no bits.
pub rest_shown : (b k : ℕ) → b < range (width_of k) → (k ≡ 0 → ⊥) → (k ≡ 2 → ⊥) → (k ≡ 4 → ⊥) → (k ≡ 5 → ⊥) → (k ≡ 7 → ⊥) → (k ≡ 8 → ⊥) → showing 0 b ≡ shown_as (plain_of k b)
unfolding plain_of
rest_shown b =
    type_cases (λ (k : ℕ). b < range (width_of k) → (k ≡ 0 → ⊥) → (k ≡ 2 → ⊥) → (k ≡ 4 → ⊥) → (k ≡ 5 → ⊥) → (k ≡ 7 → ⊥) → (k ≡ 8 → ⊥) → showing 0 b ≡ shown_as (plain_of k b))
    (λ h a c d e f g. absurd (a refl)) (λ h a c d e f g. refl) (λ h a c d e f g. absurd (c refl)) (λ h a c d e f g. refl) (λ h a c d e f g. absurd (d refl))
    (λ h a c d e f g. absurd (e refl)) (λ h a c d e f g. refl) (λ h a c d e f g. absurd (f refl)) (λ h a c d e f g. absurd (g refl))
    (λ k p h a c d e f g.
    let l : b < 1 = rw (← width_other k p) at h in
    let z : b ≡ 0 = omega arith in
    ap (showing 0) z ∙ ap shown_as (plain_other k b p))

-- ---- a row

-- Six words stored one after the other.
pub six_stored : (l : List ℕ) (p a b c d e f : ℕ)
    → set (set (set (set (set (set l p a) (p + 1) b) (p + 2) c) (p + 3) d) (p + 4) e) (p + 5) f ≡ sets l p (a ∷ b ∷ c ∷ d ∷ e ∷ f ∷ [])
six_stored l p a b c d e f = simp unary_clauses

-- A sample's number fits a word.
pub number_fits : (sequence block index : ℕ) → sequence < 2 ^ 32 → block < 2 ^ 32 → index < 2 ^ 32 → sequence * block + index < 2 ^ 64
number_fits sequence block index s b i =
    let p : sequence ≤ 0xFFFF_FFFF = omega arith in
    let q : block ≤ 0xFFFF_FFFF = omega arith in
    omega (arith, mul-le-mul p q)

-- What a link gives out, by no more than it looks at.
pub given_as_lem : (l : Link) (t : Coming) (octets : List ℕ) → given_as l t octets ≡ given_from l.stand.records l.frame.little l.count t octets
given_as_lem l t octets = refl

-- The sample that octets complete, by what is read of its channel's record.
pub given_is : (records : List Dated) (little : Bool) (count : ℕ) (at : Spot) (octets : List ℕ) (c : Sampling) (w place bits : ℕ)
    → c ≡ sampling_of (get_or records at.channel zero_dated).settings → w ≡ width_of c.datatype → place ≡ count - length octets → bits ≡ number_of little (take w octets)
    → given_at c at place bits ≡ given_from records little count (coming_at at []) octets
given_is records little count at octets c w place bits read width p b =
    let wide = width ∙ ap (λ (z : Sampling). width_of z.datatype) read in
    let value = b ∙ ap (λ (k : ℕ). number_of little (take k octets)) wide in
    λ i. given_at (read i) at (p i) (value i)
