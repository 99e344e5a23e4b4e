-- How many samples of a channel are there, as it is computed.
--     counted-all, counted-cut    by how much of the block is there in the sequence that is cut off
--     counted-whole   where the sequences all are in the waveform
-- Assumes nothing.
use mathlib.Core.Path.{◌≡◌, refl}
use mathlib.Core.Bool.{Bool, true, false}
use Prim.Native.Nat.{ℕ, min, ◌+◌, ◌-◌, ◌*◌, ◌/◌, ◌%◌, ◌≤◌, ◌<◌}
use native.Mathlib.Nat.{le-div_iff_mul-le}
use native.Mathlib.Omega.{arith}
use borrow.Author.Tests.{ltb-true, ltb-false}
use lib.Dec.{ltb}
use Rattle.there.proofs.Counts.{count-all, count-some, count-block}
use Rattle.spread.specs.declared.Spread.{Spread}
use Rattle.spread.specs.Spread.{width_spread, count_spread, there_spread}

-- With the whole sequences of the waveform, and the samples that are in what is left of it behind lower channels.
module _ (x : Spread) (whole : ℕ) (e : whole ≡ x.long / x.octets) where
  pub counted-all : x.sequences ≤ whole → count_spread x ≡ there_spread x
  counted-all h = count-all x.sequences x.block (width_spread x) x.octets x.below x.long (rw e at h)

  module _ (h : whole < x.sequences) (some : ℕ) (f : some ≡ (x.long % x.octets - x.below) / width_spread x) where
    counted-some : some < x.block → whole * x.block + some ≡ there_spread x
    counted-some k =
        rw (e, f) (count-some x.sequences x.block (width_spread x) x.octets x.below x.long (rw e at h) (omega (arith, f)))

    counted-block : x.block ≤ some → whole * x.block + x.block ≡ there_spread x
    counted-block k =
        rw e (count-block x.sequences x.block (width_spread x) x.octets x.below x.long (rw e at h) (rw f at k))

    pub counted-cut : whole * x.block + min some x.block ≡ there_spread x
    counted-cut = by (ltb some x.block) refl
      where
        by : (t : Bool) → ltb some x.block ≡ t → whole * x.block + min some x.block ≡ there_spread x
        by true q = let k = ltb-true some x.block q in let m : min some x.block ≡ some = omega arith in rw m (counted-some k)
        by false q = let k = ltb-false some x.block q in let m : min some x.block ≡ x.block = omega arith in rw m (counted-block k)

pub counted-whole : (x : Spread) → 0 < x.octets → x.sequences * x.octets ≤ x.long → count_spread x ≡ there_spread x
counted-whole x p h = counted-all x (x.long / x.octets) refl ((le-div_iff_mul-le p).1 h)
