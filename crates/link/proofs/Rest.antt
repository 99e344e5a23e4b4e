-- The samples of a waveform that are still to come, in file order, where g gives what is told of each by channel and number.
--     rest_first    at a waveform's first octet all its samples are to come
--     rest-next     the sample at hand is the first of those to come, and the next sample's are the others
-- Assumes nothing.
use Prim.Native.Nat.{ℕ, zero, suc, ◌+◌, ◌-◌, ◌*◌, ◌≤◌, ◌<◌}
use mathlib.Core.Path.{◌≡◌, refl, sym, ◌∙◌, ap}
use mathlib.Core.List.{List, [], ◌++◌, append_assoc}
use native.Mathlib.Omega.{arith}
use native.Mathlib.Numerals.{add-one}
use borrow.Author.Tests.{lt-ltb, le-ltb, ltb-true, ltb-false}
use lib.Dec.{ltb}
use lib.ListN.{length, drop, drop_of_length-le}
use lib.Seq.{drop-cons}
use Rattle.octets.specs.Pick.{pick}
use Rattle.octets.proofs.Pick.{pick_cases}
use Rattle.settings.specs.declared.Settings.{Settings}
use Rattle.settings.specs.Settings.{zero_settings}
use Rattle.layout.specs.Frame.{channel_in}
use Rattle.laid.specs.Laid.{block, sequence, laid_from, laid}
use Rattle.link.specs.Link.{Coming, coming, first_coming, next_coming}

module _ {A : Type 0} (g : ℕ → ℕ → List A) (cs : List Settings) (S : ℕ) where
  -- What follows a channel's block: the other channels of the sequence, and the sequences after it.
  abbrev after : ℕ → ℕ → List A
  after q c = sequence g (suc c) (drop (suc c) cs) q ++ laid_from g cs (suc q) (S - suc q)

  abbrev from : ℕ → ℕ → ℕ → List A
  from q c j = block g c (q * (channel_in c cs).block + j) ((channel_in c cs).block - j) ++ after q c

  unfoldable pub rest : Coming → List A
  rest t = pick (ltb t.sequence S) (from t.sequence t.channel t.index) []

  -- A block and what follows it.
  block_more : (c n k : ℕ) (more : List A) → 0 < k → block g c n k ++ more ≡ g c n ++ (block g c (n + 1) (k - 1) ++ more)
  unfolding block
  block_more c n zero more h = let z : ⊥ = omega arith in absurd z
  block_more c n (suc k) more h =
      let e : suc k - 1 ≡ k = omega arith in
      rw (e, add-one n) (append_assoc (g c n) (block g c (suc n) k) more)

  block_none : (c n : ℕ) (more : List A) → block g c n 0 ++ more ≡ more
  unfolding block
  block_none c n more = refl

  sequence_from : (q c : ℕ) → c < length cs → sequence g c (drop c cs) q ++ laid_from g cs (suc q) (S - suc q) ≡ from q c 0
  unfolding sequence
  sequence_from q c h =
      let x = channel_in c cs in
      let a : q * x.block ≡ q * x.block + 0 = omega arith in
      let b : x.block ≡ x.block - 0 = omega arith in
      ap (λ (l : List Settings). sequence g c l q ++ laid_from g cs (suc q) (S - suc q)) (drop-cons cs c zero_settings h)
      ∙ append_assoc (block g c (q * x.block) x.block) (sequence g (suc c) (drop (suc c) cs) q) (laid_from g cs (suc q) (S - suc q))
      ∙ (λ i. block g c (a i) (b i) ++ after q c)

  sequences_from : (q : ℕ) → 0 < length cs → laid_from g cs q (S - q) ≡ rest (coming q 0 0 [])
  unfolding rest laid_from
  sequences_from q h =
      pick_cases (λ (l : List A). laid_from g cs q (S - q) ≡ l) (ltb q S)
      (λ e.
      let k = ltb-true q S e in
      let m : S - q ≡ suc (S - suc q) = omega arith in
      rw m (sequence_from q 0 h))
      (λ e.
      let k = ltb-false q S e in
      let m : S - q ≡ 0 = omega arith in
      rw m refl)

  pub rest_first : 0 < length cs → laid g cs S ≡ rest first_coming
  unfolding laid
  rest_first h = let e : S ≡ S - 0 = omega arith in ap (laid_from g cs 0) e ∙ sequences_from 0 h

  pub rest-past : (t : Coming) → S ≤ t.sequence → rest t ≡ []
  unfolding rest
  rest-past t h = simp (le-ltb t.sequence S h)

  pub rest-next : (t : Coming) → 0 < length cs → t.sequence < S → t.channel < length cs → t.index < (channel_in t.channel cs).block
      → rest t ≡ g t.channel (t.sequence * (channel_in t.channel cs).block + t.index) ++ rest (next_coming (channel_in t.channel cs).block (length cs) t)
  unfolding rest next_coming sequence
  rest-next t some hq hc hj =
      let q = t.sequence in
      let c = t.channel in
      let j = t.index in
      let x = channel_in c cs in
      let n = q * x.block + j in
      let d = block_more c n (x.block - j) (after q c) (omega arith) in
      let goal : Coming → Type 0 = λ u. from q c j ≡ g c n ++ rest u in
      simp (lt-ltb q S hq)
      (pick_cases goal (ltb (j + 1) x.block)
      (λ e.
      let a : n + 1 ≡ q * x.block + (j + 1) = omega arith in
      let b : x.block - j - 1 ≡ x.block - (j + 1) = omega arith in
      simp (lt-ltb q S hq) (d ∙ (λ i. g c n ++ (block g c (a i) (b i) ++ after q c))))
      (λ e.
      let y = ltb-false (j + 1) x.block e in
      let b : x.block - j - 1 ≡ 0 = omega arith in
      let last : from q c j ≡ g c n ++ after q c = d ∙ ap (λ (i : ℕ). g c n ++ (block g c (n + 1) i ++ after q c)) b ∙ ap (λ (l : List A). g c n ++ l) (block_none c (n + 1) (after q c)) in
      pick_cases goal (ltb (c + 1) (length cs))
      (λ f.
      let h : suc c < length cs = omega (arith, ltb-true (c + 1) (length cs) f) in
      simp (lt-ltb q S hq) (rw (add-one c) (last ∙ ap (λ (l : List A). g c n ++ l) (sequence_from q (suc c) h))))
      (λ f.
      let h : length cs ≤ suc c = omega (arith, ltb-false (c + 1) (length cs) f) in
      last
      ∙ ap (λ (l : List Settings). g c n ++ (sequence g (suc c) l q ++ laid_from g cs (suc q) (S - suc q))) (drop_of_length-le cs h)
      ∙ ap (λ (l : List A). g c n ++ l) (sequences_from (suc q) some)
      ∙ ap (λ (i : ℕ). g c n ++ rest (coming i 0 0 [])) (sym (add-one q)))))
