-- Laws of records brought up to date.
--     held-long, held_at        what the records hold
--     fresh_same                a record of now is up to date
--     refreshed-long, -past, -more, -there    how many there are, one that is not among the first, one further, no more than there are
--     held-refreshed            they hold what stands
--     settled_refreshed, timely_refreshed    nothing else changes
-- Assumes nothing.
use Rattle.std.proofs.Common.{◌≡◌, ℕ, zero, suc, ◌<◌, ◌≤◌, min, List, [], ◌∷◌, length, get_or, take, set, refl, ap, le_of_suc-le-suc, not-suc-le-zero, arith, eq-eqb}
use native.Mathlib.Decide.{dec_lt}
use borrow.Author.Tests.{lt-leb}
use Rattle.settings.specs.declared.Settings.{Settings}
use Rattle.dated.specs.declared.Dated.{Dated}
use Rattle.dated.specs.declared.Dates.{Dates}
use Rattle.dated.specs.Dated.{settled_at, settled_in, up_to_date, refreshed, held}
use Rattle.dated.proofs.Laws.{Sound, settled_now}
use Rattle.dated.proofs.Tables.{Until, none, more, Timely}

-- ---- what records hold

pub held-long : (t : List Dated) → length (held t) ≡ length t
unfolding held
held-long [] = refl
held-long (x ∷ t) = ap suc (held-long t)

pub held_at : (k : ℕ) (t : List Dated) (x : Dated) (y : Settings) → k < length t → get_or (held t) k y ≡ (get_or t k x).settings
unfolding held
held_at k [] x y h = absurd (not-suc-le-zero h)
held_at zero (z ∷ t) x y h = refl
held_at (suc k) (z ∷ t) x y h = held_at k t x y (le_of_suc-le-suc h)

-- ---- the first n of them brought up to date

module _ (root : Settings) (d : Dates) where
  pub fresh_same : (x : Dated) → d.cleared < x.at → x.at ≡ d.now → up_to_date root d x ≡ x
  unfolding settled_at
  fresh_same x h e = rw (lt-leb x.at d.cleared h, eq-eqb x.at d.now e, e) refl

  pub refreshed-long : (n : ℕ) (t : List Dated) → length (refreshed n root d t) ≡ length t
  unfolding refreshed
  refreshed-long zero t = refl
  refreshed-long (suc n) [] = refl
  refreshed-long (suc n) (x ∷ t) = ap suc (refreshed-long n t)

  pub refreshed-past : (n k : ℕ) (t : List Dated) (z : Dated) → n ≤ k → get_or (refreshed n root d t) k z ≡ get_or t k z
  unfolding refreshed
  refreshed-past zero k t z h = refl
  refreshed-past (suc n) k [] z h = refl
  refreshed-past (suc n) zero (x ∷ t) z h = absurd (not-suc-le-zero h)
  refreshed-past (suc n) (suc k) (x ∷ t) z h = refreshed-past n k t z (le_of_suc-le-suc h)

  pub refreshed-more : (n : ℕ) (t : List Dated) (z : Dated) → n < length t → set (refreshed n root d t) n (up_to_date root d (get_or t n z)) ≡ refreshed (suc n) root d t
  unfolding refreshed
  refreshed-more n [] z h = absurd (not-suc-le-zero h)
  refreshed-more zero (x ∷ t) z h = refl
  refreshed-more (suc n) (x ∷ t) z h = ap (λ (u : List Dated). up_to_date root d x ∷ u) (refreshed-more n t z (le_of_suc-le-suc h))

  refreshed-all : (n : ℕ) (t : List Dated) → length t ≤ n → refreshed (length t) root d t ≡ refreshed n root d t
  unfolding refreshed
  refreshed-all zero [] h = refl
  refreshed-all zero (x ∷ t) h = absurd (not-suc-le-zero h)
  refreshed-all (suc n) [] h = refl
  refreshed-all (suc n) (x ∷ t) h = ap (λ (u : List Dated). up_to_date root d x ∷ u) (refreshed-all n t (le_of_suc-le-suc h))

  -- No more are brought up to date than there are.
  pub refreshed-there : (n : ℕ) (t : List Dated) → refreshed (min n (length t)) root d t ≡ refreshed n root d t
  refreshed-there n t = by (dec_lt n (length t))
    where
      by : Dec (n < length t) → refreshed (min n (length t)) root d t ≡ refreshed n root d t
      by (yes h) = let e : min n (length t) ≡ n = omega arith in rw e
      by (no h) = let e : min n (length t) ≡ length t = omega arith in rw e (refreshed-all n t (omega arith))

  pub held-refreshed : (n : ℕ) (t : List Dated) → take n (held (refreshed n root d t)) ≡ take n (settled_in root d t)
  unfolding refreshed held settled_in
  held-refreshed zero t = refl
  held-refreshed (suc n) [] = refl
  held-refreshed (suc n) (x ∷ t) = ap (λ (u : List Settings). settled_at root d x ∷ u) (held-refreshed n t)

  pub settled_refreshed : Sound d → (n : ℕ) (t : List Dated) → settled_in root d (refreshed n root d t) ≡ settled_in root d t
  unfolding refreshed settled_in
  settled_refreshed s zero t = refl
  settled_refreshed s (suc n) [] = refl
  settled_refreshed s (suc n) (x ∷ t) = λ i. settled_now root d (settled_at root d x) s i ∷ settled_refreshed s n t i

  until_refreshed : (n : ℕ) {t : List Dated} → Until d.now t → Until d.now (refreshed n root d t)
  unfolding refreshed
  until_refreshed zero u = u
  until_refreshed (suc n) none = none
  until_refreshed (suc n) (more {x} h u) = more {x = up_to_date root d x} (omega arith) (until_refreshed n u)

  pub timely_refreshed : (n : ℕ) {b : ℕ} {t : List Dated} → Timely b d t → Timely b d (refreshed n root d t)
  timely_refreshed n k = record { sound = k.sound; until = until_refreshed n k.until; low = k.low }
