-- Laws of what a waveform gives.
--     sequences-..      the ways of the number of sequences, and that it is small
--     framed-..         the ways of a frame, and that for all that a file has `frame_of` answers document 01's rule
-- Assumes nothing.
use Rattle.std.specs.Prelude.{Ok, Err}
use mathlib.Core.Path.{◌≡◌, refl}
use mathlib.Core.Bool.{Bool, true, false, not, cond}
use Prim.Native.Nat.{ℕ, suc, ◌+◌, ◌-◌, ◌/◌, ◌^◌, ◌≤◌, ◌<◌}
use native.Mathlib.Nat.{div-le_self}
use native.Mathlib.Omega.{arith}
use borrow.Author.Tests.{lt-ltb, le-ltb, le-leb, lt-leb, eq-eqb, ne_eqb, leb-true}
use lib.Dec.{ltb, leb, eqb}
use lib.IntN.{ℤ, pos, negsuc, ◌+ℤ◌}
use lib.Signed.{mag}
use Rattle.octets.specs.Pick.{both}
use Rattle.octets.specs.Number.{range}
use Rattle.octets.proofs.Pick.{pick_cases}
use Rattle.settings.specs.Settings.{block_limit}
use Rattle.heads.specs.declared.Fault.TheVariants.{LongFile, ManyFrames, SampleWidth, StartRange}
use Rattle.standing.specs.declared.Standing.{Standing}
use Rattle.standing.specs.Standing.{octets_limit, frames_limit, with_continued}
use Rattle.framing.specs.Framing.{sequences_of, pointer_fits, pointer_after, framed_as}
use Rattle.framing.specs.AnyNumbers.{framed_by}

module _ (set long octets : ℕ) where
  pub sequences-set : (set ≡ 0 → ⊥) → set ≡ sequences_of set long octets
  unfolding sequences_of
  sequences-set n = simp (ne_eqb set 0 n)

  pub sequences_by : set ≡ 0 → long / octets ≡ sequences_of set long octets
  unfolding sequences_of
  sequences_by e = simp (eq-eqb set 0 e)

-- Signed 32 bits.
pub pointer_small : (z : ℤ) → pointer_fits z ≡ true → mag z < 2 ^ 31
unfolding pointer_fits
pointer_small (pos n) h = omega (arith, leb-true n 2147483647 h)
pointer_small (negsuc n) h = by (leb n 2147483647) refl h
  where
    by : (b : Bool) → leb n 2147483647 ≡ b → both b true ≡ true → n < 2 ^ 31
    by true e t = omega (arith, leb-true n 2147483647 e)
    by false e t = let z : ◌≡◌ {A = ℕ} 0 1 = cc in omega arith

-- A sum with a number from 0 on is small where both are.
pub sum-small : (z : ℤ) (n k m : ℕ) → mag z < k → n + k ≤ m → mag (z +ℤ pos n) < m
sum-small (pos a) n k m h l = omega arith
sum-small (negsuc a) n k m h l = by (ltb n (suc a))
  where
    by : (b : Bool) → mag (cond b (negsuc (suc a - suc n)) (pos (n - suc a))) < m
    by true = omega arith
    by false = omega arith

-- Sequences fit 32 bits.
pub sequences-small : (set long octets : ℕ) → set < range 4 → long ≤ octets_limit → sequences_of set long octets < range 4
unfolding sequences_of
sequences-small set long octets h l =
    pick_cases (λ (n : ℕ). n < range 4) (eqb set 0) (λ _. omega (arith, div-le_self long octets)) (λ _. h)

module _ (frames : ℕ) (st : Standing) (agree : Bool) (octets long : ℕ) where
  pub framed_empty : octets ≡ 0 → Err LongFile ≡ framed_by frames st agree octets long
  unfolding framed_by
  framed_empty z = simp (eq-eqb octets 0 z)

  pub framed_large : 0 < octets → octets_limit < long → Err LongFile ≡ framed_by frames st agree octets long
  unfolding framed_by
  framed_large z h = simp (ne_eqb octets 0 (λ e. omega arith), lt-ltb octets_limit long h)

  pub framed_block : 0 < octets → long ≤ octets_limit → block_limit < st.root.block → Err LongFile ≡ framed_by frames st agree octets long
  unfolding framed_by
  framed_block z h b = simp (ne_eqb octets 0 (λ e. omega arith), le-ltb octets_limit long h, lt-ltb block_limit st.root.block b)

  -- Of all that a file has.
  pub framed_same : 0 < octets → long ≤ octets_limit → st.root.block ≤ block_limit → framed_by frames st agree octets long ≡ framed_as frames st agree octets long
  unfolding framed_by
  framed_same z h b = simp (ne_eqb octets 0 (λ e. omega arith), le-ltb octets_limit long h, le-ltb block_limit st.root.block b)

  pub framed_limit : frames_limit ≤ frames → Err ManyFrames ≡ framed_as frames st agree octets long
  unfolding framed_as
  framed_limit k = simp (le-leb frames_limit frames k)

  module _ (k : frames < frames_limit) where
    pub framed_width : not agree ≡ true → Err SampleWidth ≡ framed_as frames st agree octets long
    unfolding framed_as
    framed_width a = simp (lt-leb frames_limit frames k, a)

    pub framed_pointer : not agree ≡ false → pointer_fits st.start ≡ false → Err StartRange ≡ framed_as frames st agree octets long
    unfolding framed_as
    framed_pointer a p = simp (lt-leb frames_limit frames k, a, p)

    pub framed_taken : not agree ≡ false → pointer_fits st.start ≡ true → (n : ℕ) → n ≡ sequences_of st.sequences long octets → Ok (n, with_continued (pointer_after st n) st) ≡ framed_as frames st agree octets long
    unfolding framed_as
    framed_taken a p n e = rw e (simp (lt-leb frames_limit frames k, a, p))
