-- The octets of a sample that is there, from its place on in the file, are those of its frame's waveform.
--     octets-there, bits-there    its octets and its bits
--     test_there, counts_inside   it is there exactly when its number is below the channel's count
-- Assumes nothing.
use mathlib.Core.Path.{◌≡◌, refl, sym, ap, ◌∙◌}
use mathlib.Core.List.{List}
use mathlib.Core.Bool.{Bool, true, false}
use mathlib.Core.Logic.{◌↔◌}
use Prim.Native.Nat.{ℕ, ◌+◌, ◌≤◌, ◌<◌}
use native.Mathlib.Decide.{dec_lt}
use borrow.Author.Tests.{ltb-true, ltb-false, le-leb, lt-leb}
use lib.Dec.{ltb, leb}
use native.Mathlib.Omega.{arith}
use lib.ListN.{length, take, drop}
use lib.Seq.{drop-drop}
use Rattle.octets.proofs.Laws.{part_of}
use Rattle.octets.specs.Number.{number_of}
use Rattle.layout.specs.Frame.{Frame, width_in, channel_in, place_of}
use Rattle.laid.specs.Laid.{Named, sample_octets, sample_bits}
use Rattle.there.specs.There.{end_of, is_there, there_in, There}
use Rattle.there.proofs.Places.{there-counted}
use Rattle.reader.proofs.Ordered.{Lies}

-- A part of octets of the file is there in the file.
part_there : (s x : List ℕ) (p o w : ℕ) → x ≡ take (length x) (drop p s) → o + w ≤ length x → take w (drop (p + o) s) ≡ take w (drop o x)
part_there s x p o w e h =
    sym (ap (λ (u : List ℕ). take w (drop o u)) e ∙ part_of w o (length x) (drop p s) h ∙ ap (take w) (drop-drop o p s))

module _ (s : List ℕ) (f : Frame) (l : Lies s f) {c n : ℕ} where
  module _ (h : There f.channels f.sequences (length f.waveform) c n) where
    pub octets-there : take (width_in (channel_in c f.channels)) (drop (place_of c n f) s) ≡ sample_octets f.channels f.waveform c n
    unfolding place_of
    octets-there = part_there s f.waveform f.place _ _ l.octets h.inside

    pub bits-there : number_of f.little (take (width_in (channel_in c f.channels)) (drop (place_of c n f) s)) ≡ sample_bits f c n
    unfolding sample_bits
    bits-there = ap (number_of f.little) octets-there

  module _ (h : Named f.channels f.sequences c n) where
    pub counts_inside : (end_of f.channels c n ≤ length f.waveform) ↔ (n < there_in c f)
    unfolding there_in
    counts_inside = there-counted h (l.wide c h.channel)

    pub test_there : ltb n (there_in c f) ≡ is_there f.channels (length f.waveform) c n
    unfolding is_there
    test_there = by (ltb n (there_in c f)) refl
      where
        by : (t : Bool) → ltb n (there_in c f) ≡ t → t ≡ leb (end_of f.channels c n) (length f.waveform)
        by true e = sym (le-leb _ _ (counts_inside.1 (ltb-true n (there_in c f) e)))
        by false e = sym (lt-leb _ _ (past (dec_lt (length f.waveform) (end_of f.channels c n)) (ltb-false n (there_in c f) e)))
          where
            past : Dec (length f.waveform < end_of f.channels c n) → there_in c f ≤ n → length f.waveform < end_of f.channels c n
            past (yes a) k = a
            past (no a) k = let z : ⊥ = omega (arith, counts_inside.0 (omega arith)) in absurd z
