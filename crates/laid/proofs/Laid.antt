-- A waveform laid out from its samples.
--     laid-length    its length, where each named sample has its width
--     laid-at        a named sample stands at its offset
--     laid_same      only the named samples matter
--     laid-steps     samples that are read from a waveform, one after the other
--     laid_self      the samples of a waveform give it back
-- Assumes nothing.
use Prim.Native.Nat.{ℕ, zero, suc, ◌+◌, ◌*◌}
use mathlib.Core.Path.{◌≡◌, refl, ◌∙◌, ap₂}
use mathlib.Core.List.{List, [], ◌∷◌, ◌++◌, append_assoc, append-nil}
use native.Mathlib.Nat.{zero-mul, suc-mul, add_comm}
use native.Mathlib.Omega.{arith}
use lib.ListN.{length, take, drop, length-append}
use lib.Seq.{take_at, drop_at, drop-drop, take-add}
use Rattle.settings.specs.declared.Settings.{Settings}
use Rattle.layout.specs.Frame.{width_in, block_octets, sequence_octets, channel_in, offset_of, samples_octets}
use Rattle.laid.specs.Laid.{Named, block, sequence, laid_from, laid, sample_octets}
use Rattle.laid.proofs.Each.{UpEach, SequenceEach, Each, up_each, at_up, up_map, each, at_each}

-- The sequences are laid out as the samples of a block are.
laid_from_lem : (g : ℕ → ℕ → List ℕ) (cs : List Settings) (q m : ℕ) → laid_from g cs q m ≡ block (λ k p. sequence g k cs p) 0 q m
unfolding laid_from block
laid_from_lem g cs q zero = refl
laid_from_lem g cs q (suc m) = rw (laid_from_lem g cs (suc q) m)

laid-is : (g : ℕ → ℕ → List ℕ) (cs : List Settings) (S : ℕ) → laid g cs S ≡ block (λ k p. sequence g k cs p) 0 0 S
unfolding laid
laid-is g cs S = laid_from_lem g cs 0 S

-- ---- lengths

block-length : (g : ℕ → ℕ → List ℕ) (c w n o k : ℕ) → UpEach (λ m p. length (g c m) ≡ w) w n o k → length (block g c n k) ≡ k * w
unfolding block
block-length g c w n o zero a = rw zero-mul
block-length g c w n o (suc k) a = rw (length-append, suc-mul) (omega (arith, block-length g c w (suc n) (o + w) k a.1))

sequence-length : (g : ℕ → ℕ → List ℕ) (k : ℕ) (cs : List Settings) (q o : ℕ) → SequenceEach (λ c n s p. length (g c n) ≡ width_in s) k cs q o → length (sequence g k cs q) ≡ sequence_octets cs
unfolding sequence sequence_octets block_octets
sequence-length g k [] q o a = refl
sequence-length g k (s ∷ cs) q o a =
    let first = block-length g k (width_in s) (q * s.block) o s.block a.0 in
    rw length-append (omega (arith, sequence-length g (suc k) cs q (o + block_octets s) a.1))

-- ---- places

-- y stands in x at o.
abbrev Stands : List ℕ → ℕ → List ℕ → Type 0
Stands x o y = (r : List ℕ) × (drop o x ≡ y ++ r)

stands_first : (x : List ℕ) (o : ℕ) (y z : List ℕ) → Stands x o (y ++ z) → Stands x o y
stands_first x o y z a = (z ++ a.0, a.1 ∙ append_assoc y z a.0)

stands-rest : (x : List ℕ) (o w : ℕ) (y z : List ℕ) → length y ≡ w → Stands x o (y ++ z) → Stands x (o + w) z
stands-rest x o w y z e a = (a.0, rw (← drop-drop w o x, a.1, append_assoc) (drop_at y (z ++ a.0) w e))

block-stands : (x : List ℕ) (g : ℕ → ℕ → List ℕ) (c w n o k : ℕ) → UpEach (λ m p. length (g c m) ≡ w) w n o k → Stands x o (block g c n k) → UpEach (λ m p. Stands x p (g c m)) w n o k
unfolding block
block-stands x g c w n o zero a b = tt
block-stands x g c w n o (suc k) a b =
    let z = block g c (suc n) k in
    (stands_first x o (g c n) z b, block-stands x g c w (suc n) (o + w) k a.1 (stands-rest x o w (g c n) z a.0 b))

sequence-stands : (x : List ℕ) (g : ℕ → ℕ → List ℕ) (k : ℕ) (cs : List Settings) (q o : ℕ) → SequenceEach (λ c n s p. length (g c n) ≡ width_in s) k cs q o → Stands x o (sequence g k cs q) → SequenceEach (λ c n s p. Stands x p (g c n)) k cs q o
unfolding sequence block_octets
sequence-stands x g k [] q o a b = tt
sequence-stands x g k (s ∷ cs) q o a b =
    let y = block g k (q * s.block) s.block in
    let z = sequence g (suc k) cs q in
    let first = block-stands x g k (width_in s) (q * s.block) o s.block a.0 (stands_first x o y z b) in
    let rest = stands-rest x o (block_octets s) y z (block-length g k (width_in s) (q * s.block) o s.block a.0) b in
    (first, sequence-stands x g (suc k) cs q (o + block_octets s) a.1 rest)

-- Each named sample has its width.
module _ (g : ℕ → ℕ → List ℕ) (cs : List Settings) (S : ℕ) (sized : (c n : ℕ) → Named cs S c n → length (g c n) ≡ width_in (channel_in c cs)) where
  each-sized : Each (λ c n s p. length (g c n) ≡ width_in s) cs S
  each-sized = each (λ c n s p. length (g c n) ≡ width_in s) cs S sized

  each_long : UpEach (λ q p. length (sequence g 0 cs q) ≡ sequence_octets cs) (sequence_octets cs) 0 0 S
  each_long = up_map _ _ (sequence_octets cs) 0 0 S (sequence-length g 0 cs) each-sized

  pub laid-length : length (laid g cs S) ≡ samples_octets cs S
  laid-length = rw laid-is (block-length (λ k p. sequence g k cs p) 0 (sequence_octets cs) 0 0 S each_long)

  each_stands : Each (λ c n s p. Stands (laid g cs S) p (g c n)) cs S
  each_stands =
      let x = laid g cs S in
      let b = block-stands x (λ k p. sequence g k cs p) 0 (sequence_octets cs) 0 0 S each_long ([], rw append-nil (laid-is g cs S)) in
      up_each (SequenceEach (λ c n s p. Stands x p (g c n)) 0 cs) (sequence_octets cs) 0 0 S
      (λ q h. sequence-stands x g 0 cs _ _ (at_up _ (sequence_octets cs) 0 0 S each-sized q h) (at_up _ (sequence_octets cs) 0 0 S b q h))

  pub laid-at : (c n : ℕ) → Named cs S c n → sample_octets cs (laid g cs S) c n ≡ g c n
  laid-at c n h =
      let a = at_each (λ c n s p. Stands (laid g cs S) p (g c n)) cs S each_stands c n h in
      rw a.1 (take_at (g c n) a.0 (width_in (channel_in c cs)) (sized c n h))

-- ---- only the named samples matter

block_same : (g f : ℕ → ℕ → List ℕ) (c w n o k : ℕ) → UpEach (λ m p. g c m ≡ f c m) w n o k → block g c n k ≡ block f c n k
unfolding block
block_same g f c w n o zero a = refl
block_same g f c w n o (suc k) a = ap₂ ◌++◌ a.0 (block_same g f c w (suc n) (o + w) k a.1)

sequence-same : (g f : ℕ → ℕ → List ℕ) (k : ℕ) (cs : List Settings) (q o : ℕ) → SequenceEach (λ c n s p. g c n ≡ f c n) k cs q o → sequence g k cs q ≡ sequence f k cs q
unfolding sequence
sequence-same g f k [] q o a = refl
sequence-same g f k (s ∷ cs) q o a =
    let first = block_same g f k (width_in s) (q * s.block) o s.block a.0 in
    ap₂ ◌++◌ first (sequence-same g f (suc k) cs q (o + block_octets s) a.1)

pub laid_same : (g f : ℕ → ℕ → List ℕ) (cs : List Settings) (S : ℕ) → ((c n : ℕ) → Named cs S c n → g c n ≡ f c n) → laid g cs S ≡ laid f cs S
laid_same g f cs S e =
    simp laid-is
    (block_same (λ k p. sequence g k cs p) (λ k p. sequence f k cs p) 0 (sequence_octets cs) 0 0 S
    (up_map _ _ (sequence_octets cs) 0 0 S (sequence-same g f 0 cs) (each (λ c n s p. g c n ≡ f c n) cs S e)))

-- ---- samples that are read from a waveform

-- f of what is left of x at each of k steps of w octets, one after the other.
abbrev pub steps : (List ℕ → List ℕ) → ℕ → ℕ → List ℕ → List ℕ
steps f w zero x = []
steps f w (suc k) x = f x ++ steps f w k (drop w x)

-- The same over the samples of a sequence, where f knows the channel's settings.
abbrev pub steps_in : (Settings → List ℕ → List ℕ) → List Settings → List ℕ → List ℕ
steps_in f [] x = []
steps_in f (s ∷ cs) x = steps (f s) (width_in s) s.block x ++ steps_in f cs (drop (block_octets s) x)

block-steps : (g : ℕ → ℕ → List ℕ) (f : List ℕ → List ℕ) (x : List ℕ) (c w n o k : ℕ) → UpEach (λ m p. g c m ≡ f (drop p x)) w n o k → block g c n k ≡ steps f w k (drop o x)
unfolding block
block-steps g f x c w n o zero a = refl
block-steps g f x c w n o (suc k) a = rw drop-drop (ap₂ ◌++◌ a.0 (block-steps g f x c w (suc n) (o + w) k a.1))

sequence-steps : (g : ℕ → ℕ → List ℕ) (f : Settings → List ℕ → List ℕ) (x : List ℕ) (k : ℕ) (cs : List Settings) (q o : ℕ) → SequenceEach (λ c n s p. g c n ≡ f s (drop p x)) k cs q o → sequence g k cs q ≡ steps_in f cs (drop o x)
unfolding sequence
sequence-steps g f x k [] q o a = refl
sequence-steps g f x k (s ∷ cs) q o a =
    let first = block-steps g (f s) x k (width_in s) (q * s.block) o s.block a.0 in
    rw (drop-drop (block_octets s) o x) (ap₂ ◌++◌ first (sequence-steps g f x (suc k) cs q (o + block_octets s) a.1))

pub laid-steps : (g : ℕ → ℕ → List ℕ) (f : Settings → List ℕ → List ℕ) (cs : List Settings) (S : ℕ) (x : List ℕ) → ((c n : ℕ) → Named cs S c n → g c n ≡ f (channel_in c cs) (drop (offset_of cs c n) x)) → laid g cs S ≡ steps (steps_in f cs) (sequence_octets cs) S x
laid-steps g f cs S x e =
    rw laid-is
    (block-steps (λ k p. sequence g k cs p) (steps_in f cs) x 0 (sequence_octets cs) 0 0 S
    (up_map _ _ (sequence_octets cs) 0 0 S (sequence-steps g f x 0 cs) (each (λ c n s p. g c n ≡ f s (drop p x)) cs S e)))

-- Steps that take what they step over take all of it.
steps-take : (f : List ℕ → List ℕ) (w k : ℕ) (x : List ℕ) → ((y : List ℕ) → f y ≡ take w y) → steps f w k x ≡ take (k * w) x
steps-take f w zero x e = rw zero-mul
steps-take f w (suc k) x e = rw (suc-mul, add_comm (k * w) w, take-add, e x, steps-take f w k (drop w x) e)

steps_in_take : (cs : List Settings) (x : List ℕ) → steps_in (λ s y. take (width_in s) y) cs x ≡ take (sequence_octets cs) x
unfolding sequence_octets block_octets
steps_in_take [] x = refl
steps_in_take (s ∷ cs) x =
    rw (take-add, steps-take (λ y. take (width_in s) y) (width_in s) s.block x (λ y. refl), steps_in_take cs (drop (s.block * width_in s) x))

pub laid_self : (cs : List Settings) (S : ℕ) (x : List ℕ) → laid (sample_octets cs x) cs S ≡ take (samples_octets cs S) x
laid_self cs S x =
    let f : Settings → List ℕ → List ℕ = λ s y. take (width_in s) y in
    laid-steps (sample_octets cs x) f cs S x (λ c n h. refl) ∙ steps-take (steps_in f cs) (sequence_octets cs) S x (steps_in_take cs)
