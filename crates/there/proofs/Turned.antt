-- Samples turned about, where the last sequence is cut off.
--     turned_enough    sequences behind the last octet turn nothing
--     part_turned      the part of a sequence that is there
--     there-turned     whole sequences and the part: the octets of the samples there, each sample turned
-- Assumes nothing.
use Prim.Native.Nat.{ℕ, zero, suc, ◌+◌, ◌-◌, ◌*◌, ◌/◌, ◌%◌, ◌≤◌, ◌<◌}
use mathlib.Core.Path.{◌≡◌, refl, sym, ◌∙◌, ap, ap₂}
use mathlib.Core.List.{List, [], ◌∷◌, ◌++◌, reverse, append-nil, append_assoc}
use native.Mathlib.Nat.{zero-mul, suc-mul, zero-add, suc-add, add_comm, div-add-mod', div-mul-le_self, mod-lt, min-le_left, min-le_right, div-lt_iff_lt-mul, div-zero, add-mul, mul_assoc, div-eq_of_eq-mul_left, one-mul, zero-div, zero-mod}
use native.Mathlib.Numerals.{add-one}
use native.Mathlib.Omega.{arith}
use native.Mathlib.Decide.{dec_lt}
use lib.ListN.{length, take, drop, length-drop, length-take, drop_of_length-le}
use lib.Seq.{take-nil, drop-nil, take-take, drop-drop}
use borrow.Author.Tests.{le-leb, lt-leb}
use Rattle.octets.proofs.Laws.{drop-take}
use Rattle.runs.specs.Turned.{turned}
use Rattle.settings.specs.declared.Settings.{Settings}
use Rattle.layout.specs.Frame.{width_in, block_octets, sequence_octets}
use Rattle.laid.specs.Turned.{turned_sequence, turned_all, sequence_samples, Even}
use Rattle.layout.proofs.Rows.{row_fits}
use Rattle.runs.proofs.Turned.{turned-add}
use Rattle.laid.proofs.Turned.{octets_even, turned_even}
use Rattle.there.specs.There.{part_octets, there_octets}
use Rattle.there.specs.Turned.{turned_part, turned_there}
use Rattle.there.proofs.Places.{part_le, part_fits, part_block, part_some, there_declared, there-min, none_of, octets_again}

turned_none : (w k : ℕ) → turned w k [] ≡ []
unfolding turned
turned_none w zero = refl
turned_none w (suc k) = rw (take-nil w, drop-nil w) (turned_none w k)

sequence-none : (cs : List Settings) → turned_sequence cs [] ≡ []
unfolding turned_sequence
sequence-none [] = refl
sequence-none (c ∷ cs) = rw (turned_none (width_in c) c.block, drop-nil (block_octets c)) (sequence-none cs)

all_none : (cs : List Settings) (m : ℕ) → turned_all cs m [] ≡ []
unfolding turned_all
all_none cs zero = refl
all_none cs (suc m) = rw (sequence-none cs, drop-nil (sequence_octets cs)) (all_none cs m)

no_octets : (y : List ℕ) → length y ≤ 0 → y ≡ []
no_octets [] h = refl
no_octets (a ∷ y) h = let z : ⊥ = omega arith in absurd z

short_none : (cs : List Settings) (k : ℕ) (y : List ℕ) → length y ≤ 0 * sequence_octets cs → [] ≡ turned_all cs k y
short_none cs k y h = sym (ap (turned_all cs k) (no_octets y (rw zero-mul at h)) ∙ all_none cs k)

pub turned_enough : (cs : List Settings) (m k : ℕ) (y : List ℕ) → length y ≤ m * sequence_octets cs → length y ≤ k * sequence_octets cs → turned_all cs m y ≡ turned_all cs k y
unfolding turned_all
turned_enough cs zero k y h l = short_none cs k y h
turned_enough cs (suc m) zero y h l = sym (short_none cs (suc m) y l)
turned_enough cs (suc m) (suc k) y h l =
    let G = sequence_octets cs in
    ap (λ (u : List ℕ). turned_sequence cs y ++ u)
    (turned_enough cs m k (drop G y) (rw length-drop (omega (arith, suc-mul m G))) (rw length-drop (omega (arith, suc-mul k G))))

-- ---- parts

-- Only the octets of the samples matter.
turned_of : (w k l : ℕ) (x : List ℕ) → k * w ≤ l → turned w k (take l x) ≡ turned w k x
unfolding turned
turned_of w zero l x h = refl
turned_of w (suc k) l x h =
    let e : w ≤ l = omega (arith, suc-mul k w) in
    let r : k * w ≤ l - w = omega (arith, suc-mul k w) in
    rw (take-take w l x e, drop-take w l x) (ap (λ (u : List ℕ). reverse (take w x) ++ u) (turned_of w k (l - w) (drop w x) r))

-- Samples behind the last octet turn nothing.
turned_short : (w j k : ℕ) (x : List ℕ) → j ≤ k → turned w k (take (j * w) x) ≡ turned w j x
unfolding turned
turned_short w zero k x h = rw zero-mul (turned_none w k)
turned_short w (suc j) zero x h = let z : ⊥ = omega arith in absurd z
turned_short w (suc j) (suc k) x h =
    let e : w ≤ suc j * w = omega (arith, suc-mul j w) in
    let r : suc j * w - w ≡ j * w = omega (arith, suc-mul j w) in
    rw (take-take w (suc j * w) x e, drop-take w (suc j * w) x, r) (ap (λ (u : List ℕ). reverse (take w x) ++ u) (turned_short w j k (drop w x) (omega arith)))

block-is : (c : Settings) → block_octets c ≡ c.block * width_in c
unfolding block_octets
block-is c = refl

-- A block that is cut off has no more samples than a whole one.
some-few : (c : Settings) (rest : ℕ) → rest < block_octets c → rest / width_in c ≤ c.block
some-few c rest a = by (dec_lt 0 (width_in c))
  where
    by : Dec (0 < width_in c) → rest / width_in c ≤ c.block
    by (yes p) = let h : rest / width_in c < c.block = (div-lt_iff_lt-mul p).1 (omega (arith, block-is c)) in omega arith
    by (no p) = let z : width_in c ≡ 0 = omega arith in rw (z, div-zero) (omega arith)

pub part_turned : (cs : List Settings) (rest : ℕ) (x : List ℕ) → turned_part cs rest x ≡ turned_sequence cs (take (part_octets cs rest) x)
unfolding turned_part turned_sequence
part_turned [] rest x = refl
part_turned (c ∷ cs) rest x = by (dec_lt rest (block_octets c)) (part_turned cs (rest - block_octets c) (drop (block_octets c) x))
  where
    B : ℕ
    B = block_octets c

    P : ℕ
    P = part_octets cs (rest - B)

    by : Dec (rest < block_octets c) → turned_part cs (rest - B) (drop B x) ≡ turned_sequence cs (take P (drop B x)) → turned_part (c ∷ cs) rest x ≡ turned_sequence (c ∷ cs) (take (part_octets (c ∷ cs) rest) x)
    by (yes a) e =
        let w = width_in c in
        let j : rest / w ≤ c.block = some-few c rest a in
        let behind : drop B (take (rest / w * w) x) ≡ [] = drop_of_length-le (take (rest / w * w) x) {i = B} (omega (arith, length-take (rest / w * w) x, min-le_left (rest / w * w) (length x), div-mul-le_self rest w)) in
        rw (lt-leb (block_octets c) rest a, part_some c cs rest a, behind, turned_short w (rest / w) c.block x j, sequence-none cs) (sym (append-nil (turned w (rest / w) x)))
    by (no a) e =
        let w = width_in c in
        let h : B ≤ rest = omega arith in
        let k : B + P - B ≡ P = omega arith in
        rw (le-leb (block_octets c) rest h, part_block c cs rest h, drop-take B (B + P) x, k, e, turned_of w c.block (B + P) x (omega (arith, block-is c)))

-- Whole sequences, and then the others.
all-add : (cs : List Settings) (m k : ℕ) (x : List ℕ) → turned_all cs (m + k) x ≡ turned_all cs m x ++ turned_all cs k (drop (m * sequence_octets cs) x)
unfolding turned_all
all-add cs zero k x = rw (zero-mul, zero-add)
all-add cs (suc m) k x =
    let G = sequence_octets cs in
    rw (suc-mul, suc-add, add_comm (m * G) G, ← drop-drop (m * G) G x, append_assoc, all-add cs m k (drop G x))

-- Only the octets of the sequences matter.
sequence_of : (cs : List Settings) (l : ℕ) (x : List ℕ) → sequence_octets cs ≤ l → turned_sequence cs (take l x) ≡ turned_sequence cs x
unfolding turned_sequence sequence_octets
sequence_of [] l x h = refl
sequence_of (c ∷ cs) l x h =
    let B = block_octets c in
    rw (turned_of (width_in c) c.block l x (omega (arith, block-is c)), drop-take B l x, sequence_of cs (l - B) (drop B x) (omega arith))

all_of : (cs : List Settings) (m l : ℕ) (x : List ℕ) → m * sequence_octets cs ≤ l → turned_all cs m (take l x) ≡ turned_all cs m x
unfolding turned_all
all_of cs zero l x h = refl
all_of cs (suc m) l x h =
    let G = sequence_octets cs in
    rw (sequence_of cs l x (omega (arith, suc-mul m G)), drop-take G l x, all_of cs m (l - G) (drop G x) (omega (arith, suc-mul m G)))

all_one : (cs : List Settings) (y : List ℕ) → turned_all cs 1 y ≡ turned_sequence cs y
unfolding turned_all
all_one cs y = append-nil (turned_sequence cs y)

module _ (cs : List Settings) (S long : ℕ) where
  -- What is left of the octets there behind whole sequences is the end of a sample.
  pub left-ends : part_octets cs (there_octets cs S long % sequence_octets cs) ≡ there_octets cs S long % sequence_octets cs
  left-ends =
      let T = there_octets cs S long in
      let G = sequence_octets cs in
      omega (arith, octets_again cs S long, there-min cs S T, min-le_right (S * G) (T / G * G + part_octets cs (T % G)), div-add-mod' T G, part_le cs (T % G))

  next_enough : there_octets cs S long ≤ (there_octets cs S long / sequence_octets cs + 1) * sequence_octets cs
  next_enough = by (dec_lt 0 (sequence_octets cs))
    where
      T : ℕ
      T = there_octets cs S long

      G : ℕ
      G = sequence_octets cs

      by : Dec (0 < G) → T ≤ (T / G + 1) * G
      by (yes p) = rw (add-one, suc-mul) (omega (arith, div-add-mod' T G, mod-lt T p))
      by (no p) = omega (arith, there_declared cs S long, none_of S G (omega arith))

  pub there-turned : (x : List ℕ) → turned_there cs (there_octets cs S long) x ≡ turned_all cs S (take (there_octets cs S long) x)
  unfolding turned_there
  there-turned x =
      let T = there_octets cs S long in
      let G = sequence_octets cs in
      let k : length (take T x) ≤ T = omega (arith, length-take T x, min-le_left T (length x)) in
      let r : T - T / G * G ≡ T % G = omega (arith, div-add-mod' T G) in
      sym (turned_enough cs S (T / G + 1) (take T x) (omega (arith, there_declared cs S long)) (omega (arith, next_enough))
      ∙ all-add cs (T / G) 1 (take T x)
      ∙ rw (all_of cs (T / G) T x (div-mul-le_self T G), drop-take (T / G * G) T x, r, part_turned cs (T % G) (drop (T / G * G) x), left-ends)
      (ap (λ (u : List ℕ). turned_all cs (T / G) x ++ u) (all_one cs (take (T % G) (drop (T / G * G) x)))))

-- ---- where all widths are one number

part_even : (v : ℕ) (cs : List Settings) (rest : ℕ) → Even v cs → (j : ℕ) × (part_octets cs rest ≡ j * v)
unfolding part_octets
part_even v [] rest e = (0, sym (zero-mul v))
part_even v (c ∷ cs) rest e = by (dec_lt rest (block_octets c)) (part_even v cs (rest - block_octets c) (λ i h. e (suc i) (omega arith)))
  where
    wide : width_in c ≡ v
    wide = e 0 (omega arith)

    by : Dec (rest < block_octets c) → ((j : ℕ) × (part_octets cs (rest - block_octets c) ≡ j * v)) → (j : ℕ) × (part_octets (c ∷ cs) rest ≡ j * v)
    by (yes a) p = (rest / v, part_some c cs rest a ∙ ap (λ (w : ℕ). rest / w * w) wide)
    by (no a) p =
        let h : block_octets c ≤ rest = omega arith in
        (c.block + p.0, part_block c cs rest h ∙ ap₂ ◌+◌ (block-is c ∙ ap (λ (w : ℕ). c.block * w) wide) p.1 ∙ sym (add-mul c.block p.0 v))

-- Some samples of a sequence, turned as one run.
sequence_run : (v : ℕ) (cs : List Settings) (j : ℕ) (x : List ℕ) → 0 < v → Even v cs → j * v ≤ sequence_samples cs * v → turned_sequence cs (take (j * v) x) ≡ turned v j x
sequence_run v cs j x p e h =
    sym (all_one cs (take (j * v) x)) ∙ turned_even v cs 1 (take (j * v) x) e ∙ rw one-mul (turned_short v j (sequence_samples cs) x (few (dec_lt (sequence_samples cs) j)))
  where
    few : Dec (sequence_samples cs < j) → j ≤ sequence_samples cs
    few (yes a) = let z : ⊥ = omega (arith, row_fits v (sequence_samples cs) j a) in absurd z
    few (no a) = omega arith

-- Octets that end with a sample, turned as one run.
pub turned_run_lem : (v : ℕ) (cs : List Settings) (octets : ℕ) (x : List ℕ) → 0 < v → Even v cs → part_octets cs (octets % sequence_octets cs) ≡ octets % sequence_octets cs → (octets / v * v ≡ octets) × (turned_there cs octets x ≡ turned v (octets / v) x)
unfolding turned_there
turned_run_lem v cs octets x p e ends =
    let G = sequence_octets cs in
    let k = sequence_samples cs in
    let q = octets / G in
    let j = part_even v cs (octets % G) e in
    let whole : q * G ≡ q * k * v = ap (λ (n : ℕ). q * n) (octets_even v cs e) ∙ sym (mul_assoc q k v) in
    let sum : octets ≡ (q * k + j.0) * v = rw add-mul (omega (arith, div-add-mod' octets G, j.1)) in
    let count : octets / v ≡ q * k + j.0 = div-eq_of_eq-mul_left p sum in
    let part : turned_part cs (octets % G) (drop (q * G) x) ≡ turned v j.0 (drop (q * k * v) x) =
    part_turned cs (octets % G) (drop (q * G) x) ∙ rw (j.1, whole) (sequence_run v cs j.0 (drop (q * k * v) x) p e (omega (arith, j.1, part_fits cs (octets % G), octets_even v cs e))) in
    (rw count (sym sum), rw (count, part, turned_even v cs q x e) (sym (turned-add v (q * k) j.0 x)))

-- No octets.
pub there-none : (cs : List Settings) (x : List ℕ) → turned_there cs 0 x ≡ []
unfolding turned_there turned_all
there-none cs x =
    let G = sequence_octets cs in
    rw (zero-div, zero-mod, part_turned cs 0 (drop (0 * G) x), part_zero cs) (sequence-none cs)
  where
    part_zero : (ds : List Settings) → part_octets ds 0 ≡ 0
    part_zero ds = omega (arith, part_le ds 0)
