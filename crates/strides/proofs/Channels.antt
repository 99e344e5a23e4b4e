-- Laws of the loops over the channels of a frame.
--     kept, filled      the buffer, by what is read
--     Checking, checking_begins, checking_turns, checking_unlaid, checking_ends    a loop that looks whether the samples of all channels lie in the file
--     take-bits         the samples of one channel and of others that there is room for
--     Laying, laying_begins, laying_can, laying_turns, laying-ends    a loop that lays them
--     swept_refused, swept_count, swept_left    the answer
-- Assumes nothing.
use Rattle.heads.specs.declared.Fault.{Fault}
use mathlib.Core.Path.{◌≡◌, refl, sym, ap, ◌∙◌}
use mathlib.Core.Bool.{Bool, true, false}
use mathlib.Core.List.{List, [], ◌∷◌, ◌++◌}
use Prim.Native.Nat.{ℕ, zero, suc, ◌+◌, ◌-◌, ◌≤◌, ◌<◌, min}
use native.Mathlib.Numerals.{add-one}
use native.Mathlib.Omega.{arith}
use lib.ListN.{length, take, length-append, length-take}
use lib.Seq.{sets, length-sets}
use Rattle.octets.specs.Pick.{pick, both}
use Rattle.octets.proofs.Pick.{both_split}
use Rattle.stores.proofs.Stores.{sets_front}
use Rattle.heads.specs.declared.Fault.TheVariants.{NoFrame}
use Rattle.heads.specs.Answer.{Answer, answered, refused_as, map_answer, left_by}
use Rattle.spread.specs.declared.Spread.{Spread}
use Rattle.spread.specs.declared.Sequences.{Sequences}
use Rattle.spread.specs.Spread.{there_spread, lies_spread, bits_spread}
use Rattle.spread.proofs.Lying.{lies_in_lem}
use Rattle.strides.specs.Laying.{bits_from}
use Rattle.strides.specs.Channels.{spread_at, spreads_from, all_lie, swept_bits, swept_of}
use Rattle.strides.specs.Walked.{Layable}
use Rattle.strides.proofs.Walks.{length-bits, stores_join}

-- The buffer, by what is read.
module _ {A : Type 0} {a : Answer (List A)} (out : List A) where
  pub kept : {fault : Fault} {place : ℕ} → refused_as fault place ≡ a → out ≡ left_by a out
  unfolding left_by
  kept e = ap (λ (x : Answer (List A)). left_by x out) e

  pub filled : {x new : List A} → answered x ≡ a → length x ≤ length out → new ≡ sets out 0 x → new ≡ left_by a out
  unfolding left_by
  filled {x} e h f = f ∙ sets_front x out h ∙ ap (λ (y : Answer (List A)). left_by y out) e

-- ---- one channel and the others

here : (t : List ℕ) (q : Sequences) (channels k : ℕ) → k < channels → spreads_from t q k (channels - k) ≡ spread_at t q k ∷ spreads_from t q (k + 1) (channels - (k + 1))
unfolding spreads_from
here t q channels k h = let e : channels - k ≡ suc (channels - (k + 1)) = omega arith in rw (e, add-one)

module _ (size : ℕ) (t : List ℕ) (q : Sequences) (channels : ℕ) where
  -- The samples of the channels below k lie in the file; the others decide.
  pub record Checking (k : ℕ) : Type 0 where
    pub part : k ≤ channels
    pub rest : all_lie size (spreads_from t q k (channels - k)) ≡ all_lie size (spreads_from t q 0 channels)

  pub checking_begins : Checking 0
  checking_begins = let e : channels - 0 ≡ channels = omega arith in record { part = omega arith; rest = rw e }

  module _ {k : ℕ} (c : Checking k) (h : k < channels) where
    decided : {b : Bool} → lies_spread size (spread_at t q k) ≡ b → both b (all_lie size (spreads_from t q (k + 1) (channels - (k + 1)))) ≡ all_lie size (spreads_from t q 0 channels)
    unfolding all_lie
    decided e = ap (λ (b : Bool). both b (all_lie size (spreads_from t q (k + 1) (channels - (k + 1))))) (sym e) ∙ sym (ap (all_lie size) (here t q channels k h)) ∙ c.rest

    pub checking_unlaid : lies_spread size (spread_at t q k) ≡ false → false ≡ all_lie size (spreads_from t q 0 channels)
    checking_unlaid e = decided e

    pub checking_turns : lies_spread size (spread_at t q k) ≡ true → Checking (k + 1)
    checking_turns e = record { part = omega arith; rest = decided e }

  pub checking_ends : {k : ℕ} → Checking k → channels ≤ k → true ≡ all_lie size (spreads_from t q 0 channels)
  unfolding spreads_from all_lie
  checking_ends {k} c h = let e : channels - k ≡ 0 = omega arith in rw e at c.rest

-- ---- laying

-- The samples of one channel and of others that there is room for.
pub take-bits : (g : ℕ → ℕ) (m room c n : ℕ) (rest : List ℕ) → n ≡ min room c → take room (bits_from g m c ++ rest) ≡ bits_from g m n ++ take (room - n) rest
unfolding bits_from
take-bits g m room zero n rest e = let z : n ≡ 0 = omega arith in let f : room - 0 ≡ room = omega arith in rw (z, f)
take-bits g m zero (suc c) n rest e = let z : n ≡ 0 = omega arith in rw z
take-bits g m (suc room) (suc c) zero rest e = let z : ⊥ = omega arith in absurd z
take-bits g m (suc room) (suc c) (suc n) rest e =
    let f : suc room - suc n ≡ room - n = omega arith in
    rw f (ap (λ (l : List ℕ). g m ∷ l) (take-bits g (suc m) room c n rest (omega arith)))

take_none : (n : ℕ) → ◌≡◌ {A = List ℕ} (take n []) []
take_none zero = refl
take_none (suc n) = refl

module _ (s t : List ℕ) (q : Sequences) (channels : ℕ) (out₀ : List ℕ) where
  -- The samples of the channels below k are laid; those of the others from `at` on, as many as there is room for, give the buffer that is wanted.
  pub record Laying (out : List ℕ) (k at : ℕ) : Type 0 where
    pub part : k ≤ channels
    pub within : at ≤ length out
    pub long : length out ≡ length out₀
    pub lie : all_lie (length s) (spreads_from t q k (channels - k)) ≡ true
    pub rest : sets out at (take (length out - at) (swept_bits s (spreads_from t q k (channels - k)))) ≡ sets out₀ 0 (take (length out₀) (swept_bits s (spreads_from t q 0 channels)))
    pub many : at + length (take (length out - at) (swept_bits s (spreads_from t q k (channels - k)))) ≡ length (take (length out₀) (swept_bits s (spreads_from t q 0 channels)))

  pub laying_begins : all_lie (length s) (spreads_from t q 0 channels) ≡ true → Laying out₀ 0 0
  laying_begins l =
      let e : length out₀ - 0 ≡ length out₀ = omega arith in
      let f : channels - 0 ≡ channels = omega arith in
      record { part = omega arith; within = omega arith; long = refl; lie = rw f l; rest = rw (e, f); many = rw (e, f) (omega arith) }

  module _ {out : List ℕ} {k at n : ℕ} (l : Laying out k at) (h : k < channels) (e : n ≡ min (length out - at) (there_spread (spread_at t q k) - 0)) where
    now : spreads_from t q k (channels - k) ≡ spread_at t q k ∷ spreads_from t q (k + 1) (channels - (k + 1))
    now = here t q channels k h

    lie_now : (lies_spread (length s) (spread_at t q k) ≡ true) × (all_lie (length s) (spreads_from t q (k + 1) (channels - (k + 1))) ≡ true)
    unfolding all_lie
    lie_now = both_split (lies_spread (length s) (spread_at t q k)) _ (sym (ap (all_lie (length s)) now) ∙ l.lie)

    -- The channel's samples can be laid.
    pub laying_can : Layable (length s) (length out) (spread_at t q k) 0 n at
    laying_can = record { fits = omega (arith, l.within); there = omega arith; lies = lies_in_lem lie_now.0 }

    parts : take (length out - at) (swept_bits s (spreads_from t q k (channels - k))) ≡ bits_from (bits_spread s (spread_at t q k)) 0 n ++ take (length out - at - n) (swept_bits s (spreads_from t q (k + 1) (channels - (k + 1))))
    unfolding swept_bits
    parts = ap (λ (xs : List Spread). take (length out - at) (swept_bits s xs)) now ∙ take-bits (bits_spread s (spread_at t q k)) 0 (length out - at) (there_spread (spread_at t q k)) n (swept_bits s (spreads_from t q (k + 1) (channels - (k + 1)))) (omega arith)

    -- A turn lays them.
    pub laying_turns : {new : List ℕ} → new ≡ sets out at (bits_from (bits_spread s (spread_at t q k)) 0 n) → Laying new (k + 1) (at + n)
    laying_turns {new} stored =
        let bits = bits_from (bits_spread s (spread_at t q k)) 0 n in
        let more = swept_bits s (spreads_from t q (k + 1) (channels - (k + 1))) in
        let long : length new ≡ length out = ap length stored ∙ length-sets out at bits in
        let count = length-bits (bits_spread s (spread_at t q k)) 0 n in
        let room : length new - (at + n) ≡ length out - at - n = omega arith in
        record {
          part = omega arith;
          within = omega (arith, laying_can.fits);
          long = long ∙ l.long;
          lie = lie_now.1;
          rest = rw room (stores_join out bits (take (length out - at - n) more) at stored count ∙ ap (sets out at) (sym parts) ∙ l.rest);
          many = rw room (omega (arith, ap length parts, length-append bits (take (length out - at - n) more), count, l.many));
        }

  module _ {out : List ℕ} {k at : ℕ} (l : Laying out k at) (h : channels ≤ k) where
    nothing : take (length out - at) (swept_bits s (spreads_from t q k (channels - k))) ≡ []
    unfolding spreads_from swept_bits
    nothing = let e : channels - k ≡ 0 = omega arith in rw e (take_none (length out - at))

    pub laying-ends : (at ≡ length (take (length out₀) (swept_bits s (spreads_from t q 0 channels)))) × (out ≡ sets out₀ 0 (take (length out₀) (swept_bits s (spreads_from t q 0 channels))))
    laying-ends = (omega (arith, ap length nothing, l.many), ap (sets out at) (sym nothing) ∙ l.rest)

-- ---- the answer

module _ (s out : List ℕ) (xs : List Spread) where
  pub swept_refused : all_lie (length s) xs ≡ false → refused_as NoFrame 0 ≡ swept_of s (length out) xs
  unfolding swept_of
  swept_refused e = ap (λ (b : Bool). pick b (answered (take (length out) (swept_bits s xs))) (refused_as NoFrame 0)) (sym e)

  module _ (e : all_lie (length s) xs ≡ true) where
    swept : answered (take (length out) (swept_bits s xs)) ≡ swept_of s (length out) xs
    unfolding swept_of
    swept = ap (λ (b : Bool). pick b (answered (take (length out) (swept_bits s xs))) (refused_as NoFrame 0)) (sym e)

    pub swept_count : {n : ℕ} → n ≡ length (take (length out) (swept_bits s xs)) → answered n ≡ map_answer length (swept_of s (length out) xs)
    swept_count f = ap answered f ∙ ap (map_answer length) swept

    pub swept_left : {new : List ℕ} → new ≡ sets out 0 (take (length out) (swept_bits s xs)) → new ≡ left_by (swept_of s (length out) xs) out
    swept_left f = filled out swept (omega (arith, length-take (length out) (swept_bits s xs))) f
