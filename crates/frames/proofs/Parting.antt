-- Loops over the blocks of a sequence that is cut off.
--     block_narrow, width_some    a block's octets as a product
--     cut_next, cut_last    the loop that finds what is left of a sample
--     octets-whole, octets_cut, partial_few    the octets of the samples there, whether all are or not
--     length_part      the octets of the samples there
--     Parts, parts-..  the loop that stores them: what is still to come, stored from here on, gives the wanted buffer
-- Assumes nothing.
use mathlib.Core.Path.{◌≡◌, refl, sym, ap, ap₂, subst, ◌∙◌}
use mathlib.Core.List.{List, [], ◌∷◌, ◌++◌, append-nil}
use Prim.Native.Nat.{ℕ, ◌+◌, ◌-◌, ◌*◌, ◌/◌, ◌%◌, ◌≤◌, ◌<◌}
use native.Mathlib.Omega.{arith}
use native.Mathlib.Numerals.{add-one}
use native.Mathlib.Nat.{div-mul-le_self, div-add-mod', mul-le-mul_left}
use native.Mathlib.Decide.{dec_lt}
use borrow.Author.Tests.{le-leb, lt-leb}
use lib.ListN.{length, get_or, drop, length-append, drop_of_length-le, length-drop}
use lib.Seq.{drop-cons, drop-drop}
use Rattle.stores.specs.Storing.{Put, Putting}
use Rattle.runs.specs.Turned.{turned, turned_run}
use Rattle.runs.proofs.Turned.{run_turned, length-turned}
use Rattle.values.specs.Sample.{width_of}
use Rattle.values.proofs.Laws.{width_le}
use Rattle.settings.specs.declared.Settings.{Settings}
use Rattle.settings.specs.Settings.{zero_settings}
use Rattle.layout.specs.Frame.{width_in, block_octets, sequence_octets}
use Rattle.there.specs.There.{part_octets, partial_octets, there_octets}
use Rattle.there.specs.Turned.{turned_part}
use Rattle.there.proofs.Places.{none_of, part_block, part_some, there-whole}
use Rattle.there.proofs.Partial.{partial_sum, there_cut, Cutting, cutting_block, cutting_end}
use Rattle.frames.proofs.Coming.{Coming, coming_first, coming-step, coming_done, Nth}

block-is : (c : Settings) → block_octets c ≡ c.block * width_in c
unfolding block_octets
block-is c = refl

pub block_narrow : (c : Settings) {v : ℕ} → v ≡ width_of c.datatype → c.block * v ≤ c.block * 8
block_narrow c ev = mul-le-mul_left c.block (rw ev (width_le c.datatype))

pub width_some : (n v left : ℕ) → left < n * v → 0 < v
width_some n v left h = by (dec_lt 0 v)
  where
    by : Dec (0 < v) → 0 < v
    by (yes p) = p
    by (no p) = let z : ⊥ = omega (arith, none_of n v (omega arith)) in absurd z

-- A channel's block octets, by the width that was answered.
block_at : (c : Settings) {v : ℕ} → v ≡ width_of c.datatype → block_octets c ≡ c.block * v
block_at c ev = block-is c ∙ ap (λ (w : ℕ). c.block * w) (sym ev)

-- ---- what is left of a sample

module _ {cs : List Settings} {x i left : ℕ} {c : Settings} {v : ℕ} (k : Cutting cs x i left) (n : Nth cs i c) (ev : v ≡ width_of c.datatype) where
  block_here : block_octets (get_or cs i zero_settings) ≡ c.block * v
  block_here = ap block_octets (sym n.is) ∙ block_at c ev

  pub cut_next : c.block * v ≤ left → Cutting cs x (i + 1) (left - c.block * v)
  cut_next h = subst (λ (b : ℕ). Cutting cs x (i + 1) (left - b)) block_here (cutting_block cs x zero_settings i left k n.inside (omega (arith, block_here)))

  pub cut_last : left < c.block * v → left % v ≡ partial_octets cs x
  cut_last h =
      let width : v ≡ width_in (get_or cs i zero_settings) = ev ∙ ap width_in n.is in
      ap (λ (w : ℕ). left % w) width ∙ cutting_end cs x zero_settings i left k n.inside (omega (arith, block_here))

-- ---- the octets of the samples there

module _ (cs : List Settings) (S long : ℕ) {octets : ℕ} (e : octets ≡ sequence_octets cs) where
  pub octets-whole : S * octets ≤ long → S * octets ≡ there_octets cs S long
  octets-whole h = rw e (sym (there-whole cs S long (rw e at h)))

  pub octets_cut : long < S * octets → long - partial_octets cs (long % octets) ≡ there_octets cs S long
  octets_cut h = rw e (sym (there_cut cs S long (rw e at h)))

  pub partial_few : partial_octets cs (long % octets) ≤ long
  partial_few = omega (arith, partial_sum cs (long % octets), div-add-mod' long octets)

-- ---- the samples

-- The block is in the part, or it is cut off.
turned-block : (c : Settings) (cs : List Settings) (rest : ℕ) (x : List ℕ) → block_octets c ≤ rest → turned_part (c ∷ cs) rest x ≡ turned (width_in c) c.block x ++ turned_part cs (rest - block_octets c) (drop (block_octets c) x)
unfolding turned_part
turned-block c cs rest x h = rw (le-leb (block_octets c) rest h)

turned-some : (c : Settings) (cs : List Settings) (rest : ℕ) (x : List ℕ) → rest < block_octets c → turned_part (c ∷ cs) rest x ≡ turned (width_in c) (rest / width_in c) x
unfolding turned_part
turned-some c cs rest x h = rw (lt-leb (block_octets c) rest h)

pub length_part : (cs : List Settings) (rest : ℕ) (x : List ℕ) → rest ≤ length x → length (turned_part cs rest x) ≡ part_octets cs rest
unfolding turned_part part_octets
length_part [] rest x h = refl
length_part (c ∷ cs) rest x h = by (dec_lt rest (block_octets c)) (length_part cs (rest - block_octets c) (drop (block_octets c) x))
  where
    B : ℕ
    B = block_octets c

    by : Dec (rest < block_octets c) → (rest - B ≤ length (drop B x) → length (turned_part cs (rest - B) (drop B x)) ≡ part_octets cs (rest - B)) → length (turned_part (c ∷ cs) rest x) ≡ part_octets (c ∷ cs) rest
    by (yes a) f =
        ap length (turned-some c cs rest x a)
        ∙ length-turned (width_in c) (rest / width_in c) x (omega (arith, div-mul-le_self rest (width_in c)))
        ∙ sym (part_some c cs rest a)
    by (no a) f =
        let b : block_octets c ≤ rest = omega arith in
        ap length (turned-block c cs rest x b)
        ∙ length-append (turned (width_in c) c.block x) _
        ∙ ap₂ ◌+◌ (length-turned (width_in c) c.block x (omega (arith, block-is c)) ∙ sym (block-is c)) (f (omega (arith, length-drop B x)))
        ∙ sym (part_block c cs rest b)

-- Within the first `rest` octets of a sequence, which starts at `from` in the waveform x and is stored from `base` on in d: i blocks are behind, and `left`
-- octets are to come.
pub record Parts (cs : List Settings) (x : List ℕ) (from rest base : ℕ) (d : List ℕ) (i place left next : ℕ) (e : List ℕ) : Type 0 where
  pub low : i ≤ length cs
  pub fits : place + left ≤ length x
  pub room : base + length (turned_part cs rest (drop from x)) ≤ length d
  pub coming : Coming d base (turned_part cs rest (drop from x)) next (turned_part (drop i cs) left (drop place x)) e

pub parts_first : (cs : List Settings) (x : List ℕ) (from rest base : ℕ) (d : List ℕ) → from + rest ≤ length x → base + part_octets cs rest ≤ length d → Parts cs x from rest base d 0 from rest base d
parts_first cs x from rest base d h k =
    let long = length_part cs rest (drop from x) (omega (arith, length-drop from x)) in
    record { low = omega arith; fits = h; room = omega (arith, long); coming = coming_first d base (turned_part cs rest (drop from x)) }

module _ {cs : List Settings} {x : List ℕ} {from rest base : ℕ} {d : List ℕ} {i place left next : ℕ} {e : List ℕ} (p : Parts cs x from rest base d i place left next e) where
  module _ {c : Settings} {v : ℕ} (n : Nth cs i c) (ev : v ≡ width_of c.datatype) where
    here : drop i cs ≡ c ∷ drop (i + 1) cs
    here = rw (drop-cons cs i zero_settings n.inside, add-one, ← n.is)

    -- A run that is there.
    run_is : (m : ℕ) → place + m * v ≤ length x → turned_run v m (drop place x) ≡ turned (width_in c) m (drop place x)
    run_is m k = run_turned v m (drop place x) (omega (arith, length-drop place x)) ∙ ap (λ (w : ℕ). turned w m (drop place x)) ev

    pub parts_next : {r : ℕ} {f : List ℕ} → c.block * v ≤ left → Putting e next (turned_run v c.block (drop place x)) r f → Parts cs x from rest base d (i + 1) (place + c.block * v) (left - c.block * v) r f
    parts_next {r} {f} k q =
        let step : turned_part (drop i cs) left (drop place x) ≡ turned (width_in c) c.block (drop place x) ++ turned_part (drop (i + 1) cs) (left - c.block * v) (drop (place + c.block * v) x) =
        ap (λ (l : List Settings). turned_part l left (drop place x)) here
        ∙ turned-block c (drop (i + 1) cs) left (drop place x) (omega (arith, block_at c ev))
        ∙ rw (block_at c ev, drop-drop (c.block * v) place x) in
        record {
          low = omega (arith, n.inside);
          fits = omega (arith, p.fits);
          room = p.room;
          coming = coming-step p.coming step p.room (subst (λ (u : List ℕ). Putting e next u r f) (run_is c.block (omega (arith, p.fits))) q);
        }

    pub parts_last : {r : ℕ} {f : List ℕ} → left < c.block * v → Putting e next (turned_run v (left / v) (drop place x)) r f → Put d base (turned_part cs rest (drop from x)) r f
    parts_last {r} {f} k q =
        let step =
        ap (λ (l : List Settings). turned_part l left (drop place x)) here
        ∙ turned-some c (drop (i + 1) cs) left (drop place x) (omega (arith, block_at c ev))
        ∙ ap (λ (w : ℕ). turned (width_in c) (left / w) (drop place x)) (sym ev)
        ∙ sym (append-nil (turned (width_in c) (left / v) (drop place x))) in
        let there = run_is (left / v) (omega (arith, p.fits, div-mul-le_self left v)) in
        coming_done refl (coming-step p.coming step p.room (subst (λ (u : List ℕ). Putting e next u r f) there q))

  pub parts_done : length cs ≤ i → Put d base (turned_part cs rest (drop from x)) next e
  unfolding turned_part
  parts_done h = coming_done (ap (λ (l : List Settings). turned_part l left (drop place x)) (drop_of_length-le cs {i = i} h)) p.coming
