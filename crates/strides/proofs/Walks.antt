-- How the loops walk samples.
--     length-spaced, length-bits, bits-append, bits-same    lists of bits
--     stores_join                one run of stores after another
--     Running, run_begins, run_there, run_turns, run_within, four_there, run_four, run_ends    a loop over evenly spaced samples, for any width
--     spaced-is                  bits whose places are evenly spaced
--     wide-small     widths
--     Blocking, blocks_begin, piece_some, block-starts, block_within, blocks_turn, blocks_end    a loop over blocks
--     even_there, even_within, even_is    blocks whose samples are evenly spaced
-- Assumes nothing.
use mathlib.Core.Path.{◌≡◌, refl, sym, ap, subst, ◌∙◌}
use mathlib.Core.Logic.{◌⊎◌, ⊎_elim}
use mathlib.Core.List.{List, ◌∷◌, ◌++◌}
use mathlib.Core.Bool.{Bool}
use Prim.Native.Nat.{ℕ, zero, suc, ◌+◌, ◌-◌, ◌*◌, ◌/◌, ◌%◌, ◌≤◌, ◌<◌, min}
use native.Mathlib.Nat.{add-zero, zero-add, zero-mul, one-mul, suc-mul, add-suc, suc-add, add-mul, add_assoc, mul_assoc, div-one, mod-one, div-add-mod', div-eq_of_lt, mod-eq_of_lt, mul-add-div_right, mul-add-mod_self_right}
use native.Mathlib.Numerals.{add-one}
use native.Mathlib.Omega.{arith}
use lib.ListN.{length, set, length-set}
use lib.Seq.{sets, length-sets}
use Rattle.standing.specs.Standing.{octets_limit}
use Rattle.stores.proofs.Stores.{sets_append}
use Rattle.strides.specs.Laying.{bits_from}
use Rattle.strides.specs.Walked.{bits_here, spaced, blocked, Wide, InFile, InBlocks, Even}

-- ---- lists of bits

pub length-spaced : (little : Bool) (w : ℕ) (s : List ℕ) (step p n : ℕ) → length (spaced little w s step p n) ≡ n
unfolding spaced
length-spaced little w s step p zero = refl
length-spaced little w s step p (suc n) = ap suc (length-spaced little w s step (p + step) n)

pub length-bits : (g : ℕ → ℕ) (m n : ℕ) → length (bits_from g m n) ≡ n
unfolding bits_from
length-bits g m zero = refl
length-bits g m (suc n) = ap suc (length-bits g (suc m) n)

pub bits-append : (g : ℕ → ℕ) (m k n : ℕ) → bits_from g m (k + n) ≡ bits_from g m k ++ bits_from g (m + k) n
unfolding bits_from
bits-append g m zero n = rw (zero-add, add-zero)
bits-append g m (suc k) n = rw (suc-add, add-suc, ← suc-add) (ap (λ (l : List ℕ). g m ∷ l) (bits-append g (suc m) k n))

-- The same bits by other numbers.
pub bits-same : (f g : ℕ → ℕ) (a b n : ℕ) → ((j : ℕ) → j < n → f (a + j) ≡ g (b + j)) → bits_from f a n ≡ bits_from g b n
unfolding bits_from
bits-same f g a b zero e = refl
bits-same f g a b (suc n) e =
    let first : f a ≡ g b = simp add-zero at (e 0 (omega arith)) in
    let rest = bits-same f g (suc a) (suc b) n (λ j h. simp suc-add (simp add-suc at (e (suc j) (omega arith)))) in
    λ i. first i ∷ rest i

-- One run of stores after another is the run of both.
pub stores_join : {A : Type 0} (out u v : List A) (p : ℕ) {new : List A} {m : ℕ} → new ≡ sets out p u → length u ≡ m → sets new (p + m) v ≡ sets out p (u ++ v)
stores_join out u v p f e = rw (f, ← e) (sets_append u v out p)

-- ---- evenly spaced samples

less_again : (n k : ℕ) → n - k - 1 ≡ n - (k + 1)
less_again n k = omega arith

still_some : (n k : ℕ) → k < n → 0 < n - k
still_some n k h = omega arith

module _ (little : Bool) (w : ℕ) (s : List ℕ) (step : ℕ) where
  -- `left` samples from q on are still to be stored from p on, and give the buffer that is wanted.
  pub record Running (from n : ℕ) (out₀ : List ℕ) (at : ℕ) (out : List ℕ) (q p left : ℕ) : Type 0 where
    pub small : length s ≤ octets_limit
    pub apart : step ≤ octets_limit
    pub each : (j : ℕ) → j < left → q + j * step + w ≤ length s
    pub room : p + left ≤ length out
    pub long : length out ≡ length out₀
    pub rest : sets out p (spaced little w s step q left) ≡ sets out₀ at (spaced little w s step from n)

  pub run_begins : {from n : ℕ} {out : List ℕ} {at : ℕ} → InFile (length s) from step n w → at + n ≤ length out → Running from n out at out from at n
  run_begins h r =
      record { small = h.small; apart = h.apart; each = h.each; room = r; long = refl; rest = refl }

  -- The sample that is read next is there.
  pub run_there : {from n : ℕ} {out₀ : List ℕ} {at : ℕ} {out : List ℕ} {q p left : ℕ} → 0 < left → Running from n out₀ at out q p left → q + w ≤ length s
  run_there {q = q} h r = simp (zero-mul, add-zero) at (r.each 0 h)

  -- A turn stores one sample.
  spaced_turn : (out : List ℕ) (q p left : ℕ) → 0 < left → sets (set out p (bits_here little w s q)) (p + 1) (spaced little w s step (q + step) (left - 1)) ≡ sets out p (spaced little w s step q left)
  unfolding spaced
  spaced_turn out q p zero h = let z : ⊥ = omega arith in absurd z
  spaced_turn out q p (suc left) h =
      let e : suc left - 1 ≡ left = omega arith in
      rw (e, add-one p)

  pub run_turns : {from n : ℕ} {out₀ : List ℕ} {at : ℕ} {out : List ℕ} {q p left b : ℕ} → 0 < left → b ≡ bits_here little w s q → Running from n out₀ at out q p left → Running from n out₀ at (set out p b) (q + step) (p + 1) (left - 1)
  run_turns {out = out} {q = q} {p = p} {left = left} {b = b} h e r =
      record {
        small = r.small;
        apart = r.apart;
        each = λ j l. let z = r.each (suc j) (omega arith) in let m = suc-mul j step in omega arith;
        room = simp length-set (omega (arith, r.room));
        long = simp length-set r.long;
        rest = rw e (spaced_turn out q p left h ∙ r.rest);
      }

  -- What is left is there, and is the rest.
  pub run_within : {from n : ℕ} {out₀ : List ℕ} {at : ℕ} {out : List ℕ} {q p left : ℕ} → Running from n out₀ at out q p left → InFile (length s) q step left w
  run_within r = record { small = r.small; apart = r.apart; each = r.each }

  -- Four turns at once, of samples that are there.
  pub four_there : {from n : ℕ} {out₀ : List ℕ} {at : ℕ} {out : List ℕ} {q p left : ℕ} → 4 ≤ left → Running from n out₀ at out q p left → q + 3 * step + w ≤ length s
  four_there h r = r.each 3 h

  pub run_four : {from n : ℕ} {out₀ : List ℕ} {at : ℕ} {out : List ℕ} {q p left b₀ b₁ b₂ b₃ : ℕ} → 4 ≤ left → b₀ ≡ bits_here little w s q → b₁ ≡ bits_here little w s (q + step) → b₂ ≡ bits_here little w s (q + 2 * step) → b₃ ≡ bits_here little w s (q + 3 * step) → Running from n out₀ at out q p left → Running from n out₀ at (set (set (set (set out p b₀) (p + 1) b₁) (p + 2) b₂) (p + 3) b₃) (q + 4 * step) (p + 4) (left - 4)
  run_four {q = q} {p = p} {left = left} h e₀ e₁ e₂ e₃ r =
      let q₂ : q + step + step ≡ q + 2 * step = omega arith in
      let q₃ : q + 2 * step + step ≡ q + 3 * step = omega arith in
      let q₄ : q + 3 * step + step ≡ q + 4 * step = omega arith in
      let one = run_turns (omega arith) e₀ r in
      let two = rw (add_assoc p 1 1, q₂, less_again left 1) at (run_turns (still_some left 1 (omega arith)) e₁ one) in
      let three = rw (add_assoc p 2 1, q₃, less_again left 2) at (run_turns (still_some left 2 (omega arith)) e₂ two) in
      rw (add_assoc p 3 1, q₄, less_again left 3) at (run_turns (still_some left 3 (omega arith)) e₃ three)

  pub run_ends : {from n : ℕ} {out₀ : List ℕ} {at : ℕ} {out : List ℕ} {q p left : ℕ} → left ≤ 0 → Running from n out₀ at out q p left → out ≡ sets out₀ at (spaced little w s step from n)
  unfolding spaced
  run_ends {left = left} h r = let e : left ≡ 0 = omega arith in rw e at r.rest

  -- Bits whose places are evenly spaced.
  pub spaced-is : (g : ℕ → ℕ) (m p n : ℕ) → ((j : ℕ) → j < n → g (m + j) ≡ bits_here little w s (p + j * step)) → bits_from g m n ≡ spaced little w s step p n
  unfolding bits_from spaced
  spaced-is g m p zero e = refl
  spaced-is g m p (suc n) e =
      let first : g m ≡ bits_here little w s p = simp (add-zero, zero-mul) at (e 0 (omega arith)) in
      let rest = spaced-is g (suc m) (p + step) n (λ j h. let z : p + suc j * step ≡ p + step + j * step = omega (arith, suc-mul j step) in rw (suc-add, ← add-suc) (rw z at (e (suc j) (omega arith)))) in
      λ i. first i ∷ rest i

-- ---- widths

module _ {w : ℕ} (h : Wide w) where
  pub wide-small : w ≤ 8
  wide-small = ⊎_elim (λ e. omega arith) (⊎_elim (λ e. omega arith) (⊎_elim (λ e. omega arith) (λ e. omega arith))) h

-- ---- blocks

-- A sample of the first block, and one of a later block.
in_block : (start b g w x : ℕ) → x < b → start + (x / b * g + x % b * w) ≡ start + x * w
in_block start b g w x h = rw (div-eq_of_lt h, mod-eq_of_lt h, zero-mul, zero-add)

next-block : (start b g w j : ℕ) → 0 < b → start + ((b + j) / b * g + (b + j) % b * w) ≡ start + g + (j / b * g + j % b * w)
next-block start b g w j h =
    let e : b + j ≡ 1 * b + j = rw one-mul in
    let d : (b + j) / b ≡ 1 + j / b = ap (λ (n : ℕ). n / b) e ∙ mul-add-div_right h 1 j in
    let m : (b + j) % b ≡ j % b = ap (λ (n : ℕ). n % b) e ∙ mul-add-mod_self_right 1 b j in
    rw (d, m, add-mul, one-mul) (omega arith)

module _ (little : Bool) (w : ℕ) (s : List ℕ) (b g : ℕ) where
  -- The samples from sample r of the block at `start` on are still to be stored from p on, and give the buffer that is wanted.
  pub record Blocking (from first n : ℕ) (out₀ : List ℕ) (at : ℕ) (out : List ℕ) (start r p : ℕ) : Type 0 where
    pub small : length s ≤ octets_limit
    pub apart : g ≤ octets_limit
    pub low : r < b
    pub near : start ≤ length s + g
    pub done : p ≤ n
    pub each : (j : ℕ) → j < n - p → start + ((r + j) / b * g + (r + j) % b * w) + w ≤ length s
    pub room : at + n ≤ length out
    pub long : length out ≡ length out₀
    pub rest : sets out (at + p) (bits_from (blocked little w s start b g) r (n - p)) ≡ sets out₀ at (bits_from (blocked little w s from b g) first n)

  pub blocks_begin : {from first n : ℕ} {out : List ℕ} {at : ℕ} → InBlocks (length s) from first b g w n → at + n ≤ length out → Blocking from first n out at out from first 0
  blocks_begin {n = n} h r =
      let e : n - 0 ≡ n = omega arith in
      record { small = h.small; apart = h.apart; low = h.low; near = omega (arith, h.starts); done = omega arith; each = λ j l. h.each j (omega arith); room = r; long = refl; rest = rw (e, add-zero) }

  module _ {from first n : ℕ} {out₀ : List ℕ} {at : ℕ} {out : List ℕ} {start r p m : ℕ} (h : p < n) (e : m ≡ min (b - r) (n - p)) (k : Blocking from first n out₀ at out start r p) where
    pub piece_some : 0 < m
    piece_some = omega (arith, k.low)

    here : (j : ℕ) → j < m → start + ((r + j) / b * g + (r + j) % b * w) ≡ start + r * w + j * w
    here j l = in_block start b g w (r + j) (omega (arith, k.low)) ∙ rw add-mul (omega arith)

    -- The samples of the block that are read next are there.
    pub block-starts : start + r * w ≤ length s
    block-starts = let f = rw (here 0 piece_some) at (k.each 0 (omega arith)) in omega arith

    pub block_within : Wide w → InFile (length s) (start + r * w) w m w
    block_within v = record { small = k.small; apart = omega (arith, wide-small v); each = λ j l. rw (here j l) at (k.each j (omega arith)) }

    later : (j : ℕ) → j < n - (p + m) → start + ((r + m + j) / b * g + (r + m + j) % b * w) ≡ start + g + ((0 + j) / b * g + (0 + j) % b * w)
    later j l =
        let q : r + m + j ≡ b + j = omega (arith, k.low) in
        rw (q, zero-add) (next-block start b g w j (omega (arith, k.low)))

    -- A turn stores them.
    pub blocks_turn : {new : List ℕ} → new ≡ sets out (at + p) (spaced little w s w (start + r * w) m) → Wide w → Blocking from first n out₀ at new (start + g) 0 (p + m)
    unfolding blocked
    blocks_turn {new} f v =
        let left = n - (p + m) in
        let whole : n - p ≡ m + left = omega arith in
        let t = block-starts in
        let u = spaced little w s w (start + r * w) m in
        let long : length new ≡ length out = ap length f ∙ length-sets out (at + p) u in
        let now = spaced-is little w s w (blocked little w s start b g) r (start + r * w) m (λ j l. ap (bits_here little w s) (here j l)) in
        let next = bits-same (blocked little w s start b g) (blocked little w s (start + g) b g) (r + m) 0 left (λ j l. ap (bits_here little w s) (later j l)) in
        let parts = ap (bits_from (blocked little w s start b g) r) whole ∙ bits-append (blocked little w s start b g) r m left ∙ (λ i. now i ++ next i) in
        record {
          small = k.small;
          apart = k.apart;
          low = omega (arith, k.low);
          near = omega arith;
          done = omega arith;
          each = λ j l. rw (← add_assoc r m j, later j l) at (k.each (m + j) (omega arith));
          room = omega (arith, k.room);
          long = long ∙ k.long;
          rest = rw (← add_assoc at p m) (stores_join out u (bits_from (blocked little w s (start + g) b g) 0 left) (at + p) f (length-spaced little w s w (start + r * w) m) ∙ ap (sets out (at + p)) (sym parts) ∙ k.rest);
        }

  pub blocks_end : {from first n : ℕ} {out₀ : List ℕ} {at : ℕ} {out : List ℕ} {start r p : ℕ} → n ≤ p → Blocking from first n out₀ at out start r p → out ≡ sets out₀ at (bits_from (blocked little w s from b g) first n)
  unfolding bits_from
  blocks_end {n = n} {p = p} h k = let e : n - p ≡ 0 = omega arith in rw e at k.rest

-- ---- blocks whose samples are evenly spaced

pub even_there : (b g w : ℕ) {step : ℕ} → (step ≡ 0) ⊎ Even b g w step → 0 < step → Even b g w step
even_there b g w e h = ⊎_elim (λ z. let n : ⊥ = omega arith in absurd n) (λ x. x) e

module _ (size start r b g w n : ℕ) (h : InBlocks size start r b g w n) where
  -- The blocks lie one behind the other.
  module _ (e : b * w ≡ g) where
    joined-place : (j : ℕ) → start + ((r + j) / b * g + (r + j) % b * w) ≡ start + r * w + j * w
    joined-place j = rw (← e, ← mul_assoc, ← add-mul, div-add-mod' (r + j) b, add-mul, ← add_assoc)

    joined-within : Wide w → InFile size (start + r * w) w n w
    joined-within v =
        record { small = h.small; apart = omega (arith, wide-small v); each = λ j l. rw (joined-place j) at (h.each j l) }

    joined_is : (little : Bool) (s : List ℕ) → spaced little w s w (start + r * w) n ≡ bits_from (blocked little w s start b g) r n
    unfolding blocked
    joined_is little s = sym (spaced-is little w s w (blocked little w s start b g) r (start + r * w) n (λ j l. ap (bits_here little w s) (joined-place j)))

  -- A block has one sample.
  module _ (e : b ≡ 1) where
    single_place : (j : ℕ) → start + ((r + j) / b * g + (r + j) % b * w) ≡ start + r * w + j * g
    single_place j =
        let z : r ≡ 0 = omega (arith, h.low) in
        simp (e, z, zero-add, div-one, mod-one, zero-mul, add-zero)

    single_within : InFile size (start + r * w) g n w
    single_within = record { small = h.small; apart = h.apart; each = λ j l. rw (single_place j) at (h.each j l) }

    single_is : (little : Bool) (s : List ℕ) → spaced little w s g (start + r * w) n ≡ bits_from (blocked little w s start b g) r n
    unfolding blocked
    single_is little s = sym (spaced-is little w s g (blocked little w s start b g) r (start + r * w) n (λ j l. ap (bits_here little w s) (single_place j)))

  -- Either.
  module _ {step : ℕ} (e : Even b g w step) where
    pub even_within : Wide w → InFile size (start + r * w) step n w
    even_within v = ⊎_elim (λ x. subst (λ (k : ℕ). InFile size (start + r * w) k n w) (sym x.1) (single_within x.0)) (λ x. subst (λ (k : ℕ). InFile size (start + r * w) k n w) (sym x.1) (joined-within x.0 v)) e

    pub even_is : (little : Bool) (s : List ℕ) → spaced little w s step (start + r * w) n ≡ bits_from (blocked little w s start b g) r n
    even_is little s = ⊎_elim (λ x. ap (λ (k : ℕ). spaced little w s k (start + r * w) n) x.1 ∙ single_is x.0 little s) (λ x. ap (λ (k : ℕ). spaced little w s k (start + r * w) n) x.1 ∙ joined_is x.0 little s) e
