-- Each sample that is given out is the one that the question for its name answers.
--     All, all_laid    what holds of what each sample tells, in file order
--     given_right      the samples of a frame of an accepted file
-- Assumes nothing.
use Prim.Native.Nat.{ℕ, zero, suc, ◌+◌, ◌*◌, ◌≤◌, ◌<◌}
use mathlib.Core.Path.{◌≡◌, sym, ◌∙◌, ap, subst}
use mathlib.Core.List.{List, [], ◌∷◌, ◌++◌}
use native.Mathlib.Omega.{arith}
use native.Mathlib.Nat.{add-mul, one-mul, mul-le-mul_right}
use borrow.Author.Tests.{lt-ltb}
use lib.ListN.{length, get_or}
use Rattle.octets.proofs.Pick.{pick_cases}
use Rattle.heads.specs.Answer.{answered}
use Rattle.settings.specs.declared.Settings.{Settings}
use Rattle.layout.specs.Frame.{Frame, channel_in, samples_of}
use Rattle.laid.specs.Laid.{Named, block, sequence, laid_from, laid}
use Rattle.there.specs.There.{is_there}
use Rattle.verdict.specs.Verdict.{accepted, verdict}
use Rattle.pass.specs.Scan.{zero_frame}
use Rattle.reader.specs.Answer.{asked_sample, sample_in, sample_of}
use Rattle.link.specs.Link.{Given}
use Rattle.link.specs.Order.{sample_given, samples_given}

-- ---- all that is told

module _ {A : Type 0} (P : A → Type 0) where
  abbrev pub All : List A → Type 0
  All [] = Unit {0}
  All (x ∷ l) = P x × All l

  all_append : (l m : List A) → All l → All m → All (l ++ m)
  all_append [] m p q = q
  all_append (x ∷ l) m p q = (p.0, all_append l m p.1 q)

  module _ (g : ℕ → ℕ → List A) where
    all-block : (c n k : ℕ) → ((i : ℕ) → i < k → All (g c (n + i))) → All (block g c n k)
    unfolding block
    all-block c n zero h = tt
    all-block c n (suc k) h =
        let first : n + 0 ≡ n = omega arith in
        all_append (g c n) (block g c (suc n) k) (subst (λ (m : ℕ). All (g c m)) first (h 0 (omega arith)))
        (all-block c (suc n) k (λ i l. let e : n + suc i ≡ suc n + i = omega arith in subst (λ (m : ℕ). All (g c m)) e (h (suc i) (omega arith))))

    all-sequence : (cs : List Settings) (c q : ℕ) → ((d : ℕ) → d < length cs → (i : ℕ) → i < (channel_in d cs).block → All (g (c + d) (q * (channel_in d cs).block + i))) → All (sequence g c cs q)
    unfolding sequence
    all-sequence [] c q h = tt
    all-sequence (x ∷ cs) c q h =
        let first : c + 0 ≡ c = omega arith in
        all_append (block g c (q * x.block) x.block) (sequence g (suc c) cs q)
        (all-block c (q * x.block) x.block (λ i l. subst (λ (k : ℕ). All (g k (q * x.block + i))) first (h 0 (omega arith) i l)))
        (all-sequence cs (suc c) q (λ d l i m. let e : c + suc d ≡ suc c + d = omega arith in subst (λ (k : ℕ). All (g k (q * (channel_in d cs).block + i))) e (h (suc d) (omega arith) i m)))

    module _ (cs : List Settings) (S : ℕ) (each : (c n : ℕ) → Named cs S c n → All (g c n)) where
      from_sequence : (q m : ℕ) → q + m ≡ S → All (laid_from g cs q m)
      unfolding laid_from
      from_sequence q zero e = tt
      from_sequence q (suc m) e =
          all_append (sequence g 0 cs q) (laid_from g cs (suc q) m)
          (all-sequence cs 0 q
          (λ d l i k.
          let b = (channel_in d cs).block in
          let first : 0 + d ≡ d = omega arith in
          let r : (q + 1) * b ≡ q * b + b = add-mul q 1 b ∙ ap (λ (x : ℕ). q * b + x) (one-mul b) in
          let f : (q + 1) * b ≤ S * b = mul-le-mul_right b (omega arith) in
          subst (λ (c : ℕ). All (g c (q * b + i))) (sym first) (each d (q * b + i) (record { channel = l; number = omega arith }))))
          (from_sequence (suc q) m (omega arith))

      pub all_laid : All (laid g cs S)
      unfolding laid
      all_laid = from_sequence 0 S (omega arith)

-- ---- the samples of a frame

-- A sample that is given out of frame i of a file, as the question for it answers.
abbrev pub Right : List ℕ → ℕ → Given → Type 0
Right s i g = sample_of s i g.channel g.number ≡ answered g.sample

pub given_right : (s : List ℕ) (fs : List Frame) → verdict s ≡ accepted fs → (i : ℕ) → i < length fs → All (Right s i) (samples_given (get_or fs i zero_frame))
unfolding samples_given
given_right s fs e i h = all_laid (Right s i) (sample_given f) f.channels f.sequences each
  where
    f : Frame
    f = get_or fs i zero_frame

    asks : (c n : ℕ) → Named f.channels f.sequences c n → sample_of s i c n ≡ answered (sample_in c n f)
    asks c n k = unfold sample_of samples_of in
        ap (asked_sample (sample_in c n) i c n) e ∙ simp (lt-ltb i (length fs) h, lt-ltb c (length f.channels) k.channel, lt-ltb n (f.sequences * (channel_in c f.channels).block) k.number)

    each : (c n : ℕ) → Named f.channels f.sequences c n → All (Right s i) (sample_given f c n)
    each c n k = unfold sample_given in
        pick_cases (All (Right s i)) (is_there f.channels (length f.waveform) c n) (λ _. (asks c n k, tt)) (λ _. tt)
