-- Laws of the records that words hold.
--     one_back, four_back    the lowest octets of a signed number's word give it back
--     not_last, further_out, overlaid_more          one word more stored
--     place, same-settings, same_by  the place of a record; the same numbers give the same record
--     records-long, records-full     how many there are; one for each channel of a frame
--     records-at, records-past       one that is there, and one that is not
--     records_are                    words hold the records that stand at each place
--     holding-none, holding-same, holding-at, holding_put      nothing stored, and one record stored
--     below_aside                    what is kept below a channel is of no record
-- Assumes nothing.
use mathlib.Core.Path.{◌≡◌, refl, sym, ap, ◌∙◌}
use mathlib.Core.List.{List}
use mathlib.Core.Bool.{Bool, true, false}
use mathlib.Core.Logic.{◌⊎◌, inl, inr}
use Prim.Native.Nat.{ℕ, zero, suc, ◌+◌, ◌*◌, ◌-◌, ◌/◌, ◌%◌, ◌^◌, ◌≤◌, ◌<◌}
use native.Mathlib.Nat.{add-zero, zero-add}
use native.Mathlib.Omega.{arith}
use borrow.Author.Tests.{lt-ltb, le-ltb, ltb-true, ltb-false, eqb-true, eqb-false}
use lib.Dec.{ltb, eqb, lit<}
use lib.IntN.{ℤ}
use lib.Signed.{mag}
use lib.ListN.{length, get_or, set, length-set, get_or-eq_default}
use lib.Seq.{get_or-set_same, get_or-set_other, set_out, set-get_or, ext_get_or}
use Rattle.octets.specs.Number.{range, low_of, twos}
use Rattle.settings.specs.Settings.{channel_limit}
use Rattle.dated.specs.declared.Dated.{Dated}
use Rattle.dated.specs.Dated.{noted, zero_dated}
use Rattle.words.specs.Words.{record_words, record_numbers, time_word, below_word, table_words, scale_by, bits_by, record_by, words_at, record_at}
use Rattle.words.specs.Words.{records_from, records_held, records_in, Holding, Overlaid}

-- ---- the word of a signed number

module _ (w r : ℕ) where
  -- A number that is not negative stands in the lowest octets as it is, a negative one as far below their range.
  lowest_back : {z : ℤ} → twos 8 r ≡ z
      → (2 * r < range 8 → mag z ≡ r → (low_of w r ≡ r) × (2 * r < range w))
      → (range 8 ≤ 2 * r → mag z ≡ range 8 - suc r → (range w ≤ 2 * low_of w r) × (range w - suc (low_of w r) ≡ range 8 - suc r))
      → twos w (low_of w r) ≡ z
  unfolding twos
  lowest_back {z} e low high = by_size (ltb (2 * r) (range 8)) refl
    where
      by_size : (t : Bool) → ltb (2 * r) (range 8) ≡ t → twos w (low_of w r) ≡ z
      by_size true q =
          let d = rw q at e in
          let h = low (ltb-true (2 * r) (range 8) q) (ap mag (sym d)) in
          rw (h.0, lt-ltb (2 * r) (range w) h.1) d
      by_size false q =
          let d = rw q at e in
          let h = high (ltb-false (2 * r) (range 8) q) (ap mag (sym d)) in
          rw (le-ltb (2 * low_of w r) (range w) h.0, h.1) d

pub one_back : (r : ℕ) {z : ℤ} → r < 2 ^ 64 → mag z < 128 → twos 8 r ≡ z → twos 1 (low_of 1 r) ≡ z
one_back r f h e = lowest_back 1 r e (λ k m. (omega arith, omega arith)) (λ k m. (omega arith, omega arith))

pub four_back : (r : ℕ) {z : ℤ} → r < 2 ^ 64 → mag z < 2147483648 → twos 8 r ≡ z → twos 4 (low_of 4 r) ≡ z
four_back r f h e = lowest_back 4 r e (λ k m. (omega arith, omega arith)) (λ k m. (omega arith, omega arith))

-- ---- words stored one after the other

-- Outside of n + 1 words from place i on: not at the last of them, and outside of n.
module _ (i n m : ℕ) where
  pub not_last : (m < i) ⊎ (i + (n + 1) ≤ m) → m ≡ i + n → ⊥
  not_last (inl l) q = omega arith
  not_last (inr l) q = omega arith

  pub further_out : (m < i) ⊎ (i + (n + 1) ≤ m) → (m < i) ⊎ (i + n ≤ m)
  further_out (inl l) = inl l
  further_out (inr l) = inr (omega arith)

pub overlaid_more : {u w v : List ℕ} {i n : ℕ} → i + n < length u → Overlaid u i w n v → Overlaid u i w (n + 1) (set v (i + n) (get_or w n 0))
overlaid_more {u} {w} {v} {i} {n} h o =
    record {
      long = length-set v (i + n) (get_or w n 0) ∙ o.long;
      inside = λ a l. by_place a l (ltb a n) refl;
      outside = λ m l. get_or-set_other v (i + n) m (get_or w n 0) 0 (not_last i n m l) ∙ o.outside m (further_out i n m l);
    }
  where
    by_place : (a : ℕ) → a < n + 1 → (t : Bool) → ltb a n ≡ t → get_or (set v (i + n) (get_or w n 0)) (i + a) 0 ≡ get_or w a 0
    by_place a l true q =
        let b = ltb-true a n q in
        get_or-set_other v (i + n) (i + a) (get_or w n 0) 0 (λ p. let z : ⊥ = omega arith in z) ∙ o.inside a b
    by_place a l false q =
        let b = ltb-false a n q in
        let e : a ≡ n = omega arith in
        rw e (get_or-set_same v (i + n) (get_or w n 0) 0 (omega (arith, o.long)))

-- ---- one record

-- The place of record k.
abbrev pub place : ℕ → ℕ
place k = k * record_words

-- The same numbers give the same record.
module _ (f g : ℕ → ℕ) where
  same_scale : (a : ℕ) → f a ≡ g a → f (a + 1) ≡ g (a + 1) → f (a + 2) ≡ g (a + 2) → scale_by f a ≡ scale_by g a
  same_scale a p q r = λ i. record { unit = low_of 1 (p i); exponent = twos 1 (low_of 1 (q i)); mantissa = twos 4 (low_of 4 (r i)) }

  same_bits : (a : ℕ) → f a ≡ g a → f (a + 1) ≡ g (a + 1) → bits_by f a ≡ bits_by g a
  same_bits a p q = λ i. record { width = low_of 1 (p i); bits = q i }

  pub same-settings : ((a : ℕ) → a < time_word → f a ≡ g a) → (record_by f).settings ≡ (record_by g).settings
  same-settings h =
      λ i. record {
        block = low_of 4 (h 0 (lit< tt) i);
        class = low_of 2 (h 1 (lit< tt) i);
        lead = low_of 2 (h 2 (lit< tt) i);
        datatype = low_of 1 (h 3 (lit< tt) i);
        interval = same_scale 4 (h 4 (lit< tt)) (h 5 (lit< tt)) (h 6 (lit< tt)) i;
        resolution = same_scale 7 (h 7 (lit< tt)) (h 8 (lit< tt)) (h 9 (lit< tt)) i;
        offset = same_bits 10 (h 10 (lit< tt)) (h 11 (lit< tt)) i;
        null = same_bits 12 (h 12 (lit< tt)) (h 13 (lit< tt)) i;
      }

  pub same_by : ((a : ℕ) → a < record_numbers → f a ≡ g a) → record_by f ≡ record_by g
  same_by h = λ i. noted (low_of 4 (h time_word (lit< tt) i)) (same-settings (λ a l. h a (omega arith)) i)

-- ---- all records

long_from : (n i : ℕ) (u : List ℕ) → length (records_from n i u) ≡ n
unfolding records_from
long_from zero i u = refl
long_from (suc n) i u = ap suc (long_from n (i + record_words) u)

at_from : (n i k : ℕ) (u : List ℕ) (d : Dated) → k < n → get_or (records_from n i u) k d ≡ record_at u (i + place k)
unfolding records_from
at_from zero i k u d h = let z : ⊥ = omega arith in absurd z
at_from (suc n) i zero u d h = ap (record_at u) (sym (add-zero i))
at_from (suc n) i (suc k) u d h =
    let e : i + record_words + place k ≡ i + place (suc k) = omega arith in
    at_from n (i + record_words) k u d (omega arith) ∙ ap (record_at u) e

module _ (u : List ℕ) where
  pub records-long : length (records_in u) ≡ records_held u
  unfolding records_in
  records-long = long_from (records_held u) 0 u

  pub records-at : (k : ℕ) (d : Dated) → k < records_held u → get_or (records_in u) k d ≡ record_at u (place k)
  unfolding records_in
  records-at k d h = at_from (records_held u) 0 k u d h ∙ ap (record_at u) (zero-add (place k))

  pub records-past : (k : ℕ) (d : Dated) → records_held u ≤ k → get_or (records_in u) k d ≡ d
  records-past k d h = get_or-eq_default (records_in u) d (omega (arith, records-long))

  -- A record for each channel of a frame.
  pub records-full : length u ≡ table_words → length (records_in u) ≡ channel_limit
  records-full e = records-long ∙ ap (λ (n : ℕ). n / record_words) e

-- Words hold the records that stand at each place.
pub records_are : (u v : List ℕ) (xs : List Dated) → length v ≡ length u → length xs ≡ records_held u
    → ((k : ℕ) → k < records_held u → record_at v (place k) ≡ get_or xs k zero_dated) → records_in v ≡ xs
records_are u v xs l n h =
    let m : records_held v ≡ records_held u = ap (λ (n : ℕ). n / record_words) l in
    ext_get_or zero_dated (records_in v) xs (records-long v ∙ m ∙ sym n)
    (λ k b.
    let c : k < records_held v = omega (arith, records-long v) in
    records-at v k zero_dated c ∙ h k (omega (arith, m)))

-- What is kept below a channel is of no record.
pub below_aside : (u : List ℕ) (k x : ℕ) → records_in (set u (place k + below_word) x) ≡ records_in u
below_aside u k x =
    records_are u (set u (place k + below_word) x) (records_in u) (length-set u (place k + below_word) x) (records-long u)
    (λ j h.
    same_by (words_at (set u (place k + below_word) x) (place j)) (words_at u (place j))
    (λ a l. get_or-set_other u (place k + below_word) (place j + a) x 0 (λ e. let z : ⊥ = omega arith in z))
    ∙ sym (records-at u j zero_dated h))

-- ---- one record stored

sides : (j k : ℕ) → (j ≡ k → ⊥) → (j < k) ⊎ (k < j)
sides j k ne = by_tests (ltb j k) (ltb k j) refl refl
  where
    by_tests : (s t : Bool) → ltb j k ≡ s → ltb k j ≡ t → (j < k) ⊎ (k < j)
    by_tests true t p q = inl (ltb-true j k p)
    by_tests false true p q = inr (ltb-true k j q)
    by_tests false false p q = absurd (ne (omega (arith, ltb-false j k p, ltb-false k j q)))

module _ (u : List ℕ) (k : ℕ) (x : Dated) where
  -- There is no such record.
  pub holding-none : records_held u ≤ k → Holding u (set (records_in u) k x) u
  holding-none h = record { records = sym (set_out (records_in u) k x (omega (arith, records-long u))); long = refl; others = λ m l. refl }

  -- The record is what it would be.
  pub holding-same : x ≡ get_or (records_in u) k zero_dated → Holding u (set (records_in u) k x) u
  holding-same e = record { records = sym (ap (set (records_in u) k) e ∙ set-get_or (records_in u) k zero_dated); long = refl; others = λ m l. refl }

  module _ (v : List ℕ) (h : k < records_held u) (long : length v ≡ length u) (outside : (m : ℕ) → (m < place k) ⊎ (place k + record_numbers ≤ m) → get_or v m 0 ≡ get_or u m 0) where
    -- The other records are as they were.
    apart : (j : ℕ) → (j ≡ k → ⊥) → record_at v (place j) ≡ record_at u (place j)
    apart j ne = same_by (words_at v (place j)) (words_at u (place j)) (λ a l. outside (place j + a) (aside a l (sides j k ne)))
      where
        aside : (a : ℕ) → a < record_numbers → (j < k) ⊎ (k < j) → (place j + a < place k) ⊎ (place k + record_numbers ≤ place j + a)
        aside a l (inl b) = inl (omega arith)
        aside a l (inr b) = inr (omega arith)

    -- All words but those of one record are as they were.
    pub holding-at : record_at v (place k) ≡ x → Holding u (set (records_in u) k x) v
    holding-at e =
        record {
          records = records_are u v (set (records_in u) k x) long (length-set (records_in u) k x ∙ records-long u) (λ j l. by_place j l (eqb j k) refl);
          long = long;
          others = λ m l. outside m (away m l (ltb m (place k)) refl);
        }
      where
        by_place : (j : ℕ) → j < records_held u → (t : Bool) → eqb j k ≡ t → record_at v (place j) ≡ get_or (set (records_in u) k x) j zero_dated
        by_place j l true q =
            rw (eqb-true j k q)
            (e ∙ sym (get_or-set_same (records_in u) k x zero_dated (omega (arith, records-long u))))
        by_place j l false q =
            let ne = eqb-false j k q in
            apart j ne ∙ sym (get_or-set_other (records_in u) k j x zero_dated ne ∙ records-at u j zero_dated l)

        away : (m : ℕ) → (record_numbers ≤ m % record_words) ⊎ (place (records_held u) ≤ m) → (t : Bool) → ltb m (place k) ≡ t
            → (m < place k) ⊎ (place k + record_numbers ≤ m)
        away m l true q = inl (ltb-true m (place k) q)
        away m (inl l) false q = let b = ltb-false m (place k) q in inr (omega arith)
        away m (inr l) false q = inr (omega arith)

  pub holding_put : {w v : List ℕ} → k < records_held u → Overlaid u (place k) w record_numbers v → record_by (λ a. get_or w a 0) ≡ x → Holding u (set (records_in u) k x) v
  holding_put {w} {v} h o e = holding-at v h o.long o.outside (same_by (words_at v (place k)) (λ a. get_or w a 0) o.inside ∙ e)
