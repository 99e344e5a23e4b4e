-- Laws of a link kept in words.
--     held_short, octets-long, octets-low    no more octets are kept than a value needs; how many they are; each is an octet
--     octets-own        they stand each in a word, where words hold the link's own
--     low_in, low-at, octets_are              the lowest octets of the words, of which they are the first
--     fault-kept, noted_back    the fault of a word that holds its number; the refusal that was noted
--     keeping_none      words too few
--     keeping_stored    numbers and octets stored
--     link-kept         the link that words then hold
-- Assumes nothing.
use Rattle.std.specs.Prelude.{Option, unwrap_or}
use mathlib.Core.Path.{◌≡◌, refl, sym, ap, ◌∙◌}
use mathlib.Core.List.{List, [], ◌∷◌, ◌++◌, map}
use mathlib.Core.Logic.{inr}
use Prim.Native.Nat.{ℕ, zero, suc, ◌+◌, ◌≤◌, ◌<◌, min}
use native.Mathlib.Nat.{mod-lt, mod-eq_of_lt, zero-add}
use native.Mathlib.Omega.{arith}
use lib.Dec.{lit<}
use lib.ListN.{length, get_or, take, drop, replicate, length-append, length-take, length-drop, length-map, length-replicate, get_or-append, get_or-map}
use lib.Seq.{take-append-le, get_or-append-add, get_or-take, get_or-drop, ext_get_or}
use Rattle.octets.specs.Number.{Octets, low_of}
use Rattle.heads.specs.declared.Fault.{Fault}
use Rattle.heads.specs.declared.Refusal.{Refusal}
use Rattle.heads.specs.Faults.{number_of}
use Rattle.heads.proofs.Faults.{fault_back, number_within}
use Rattle.items.specs.Walk.{refusal}
use Rattle.words.specs.Words.{Overlaid}
use Rattle.kept.specs.Words.{waveform_in}
use Rattle.kept.proofs.Laws.{same-behind}
use Rattle.walking.specs.Words.{stand_in}
use Rattle.link.specs.Link.{kept_limit}
use Rattle.held.specs.declared.Core.{Core}
use Rattle.held.specs.Words.{own_words, kept_place, noted_of, fault_by, refusal_of, link_of, core_by, core_in, kept_in, octets_in, link_in, held_of, holding, Keeping}

-- ---- the octets that words keep

-- Past its end a list is read as 0, and with zeros behind it as well.
zeros_at : (n k : ℕ) → ◌≡◌ {A = ℕ} (get_or (replicate n 0) k 0) 0
zeros_at zero k = refl
zeros_at (suc n) zero = refl
zeros_at (suc n) (suc k) = zeros_at n k

padded_at : (l : List ℕ) (n k : ℕ) → get_or (l ++ replicate n 0) k 0 ≡ get_or l k 0
padded_at [] n k = zeros_at n k
padded_at (x ∷ l) n zero = refl
padded_at (x ∷ l) n (suc k) = padded_at l n k

module _ (w : List ℕ) where
  -- The lowest octet of each word from their place on.
  abbrev pub low_in : List ℕ
  low_in = map (low_of 1) (drop kept_place w)

  pub low-at : (k : ℕ) → get_or low_in k 0 ≡ low_of 1 (get_or w (kept_place + k) 0)
  low-at k = get_or-map (low_of 1) (drop kept_place w) k 0 ∙ ap (low_of 1) (get_or-drop kept_place w k 0)

  pub held_short : (core_in w).held ≤ kept_limit
  held_short = omega arith

  pub octets-long : length (octets_in w) ≡ (core_in w).held
  unfolding octets_in
  octets-long = simp (length-map, length-take, length-append, length-replicate) (omega arith)

  pub octets-low : Octets (octets_in w)
  unfolding octets_in
  octets-low i = rw (get_or-map (low_of 1) (take (core_in w).held (kept_in w)) i 0) (mod-lt _ (lit< tt))

  pub octets-own : own_words ≤ length w → octets_in w ≡ map (low_of 1) (take (core_in w).held (drop kept_place w))
  unfolding octets_in
  octets-own l = ap (map (low_of 1)) (take-append-le (core_in w).held (drop kept_place w) (replicate kept_limit 0) (omega (arith, length-drop kept_place w)))

  octets-at : (k : ℕ) → k < (core_in w).held → get_or (octets_in w) k 0 ≡ low_of 1 (get_or w (kept_place + k) 0)
  unfolding octets_in
  octets-at k l =
      let word = get_or-take (core_in w).held (kept_in w) k 0 l ∙ padded_at (drop kept_place w) kept_limit k ∙ get_or-drop kept_place w k 0 in
      get_or-map (low_of 1) (take (core_in w).held (kept_in w)) k 0 ∙ ap (low_of 1) word

  -- As many octets, each the lowest of its word, are those that words keep.
  pub octets_are : (v : List ℕ) → length v ≡ (core_in w).held → ((k : ℕ) → k < (core_in w).held → get_or v k 0 ≡ low_of 1 (get_or w (kept_place + k) 0)) → v ≡ octets_in w
  octets_are v l h = ext_get_or 0 v (octets_in w) (l ∙ sym octets-long) (λ k b. h k (omega (arith, l)) ∙ sym (octets-at k (omega (arith, l))))

-- ---- what is stored

-- A fault stands as its number.
fault-back : (f : Fault) → fault_by (number_of f) ≡ f
unfolding fault_by
fault-back f = ap (λ (o : Option Fault). unwrap_or o Fault.LongFile) (fault_back f)

pub fault-kept : (f : Fault) → fault_by (low_of 1 (number_of f)) ≡ f
fault-kept f = ap fault_by (mod-eq_of_lt (number_within f).1) ∙ fault-back f

-- A refusal that was noted is read back.
pub noted_back : (r : Refusal) → refusal_of (noted_of r) ≡ r
noted_back r = λ i. refusal (fault-back r.fault i) r.place

-- The numbers are those of words 0 to 9.
same-core : {f g : ℕ → ℕ} → ((n : ℕ) → n < 10 → f n ≡ g n) → core_by f ≡ core_by g
same-core h = λ i. core_by (λ n. h (min n 9) (omega arith) i)

-- Nothing is stored in words that are too few.
pub keeping_none : (u : List ℕ) (c : Core) (p : List ℕ) → length u < own_words → Keeping u c p u
keeping_none u c p l =
    record {
      long = refl;
      rest = refl;
      core = λ m. let z : ⊥ = omega arith in absurd z;
      octets = λ m. let z : ⊥ = omega arith in absurd z;
      few = λ m. refl;
    }

-- The words before the octets, and behind them the octets that are held.
module _ {u v : List ℕ} (x p : List ℕ) (c : Core) (room : own_words ≤ length u) (long : length x ≡ kept_place) (low : Octets p)
    (o : Overlaid u 0 (x ++ p) (kept_place + held_of c p) v) (numbers : core_by (λ n. get_or x n 0) ≡ holding c p) where
  core-stored : core_in v ≡ holding c p
  core-stored = same-core (λ n l. o.inside n (omega arith) ∙ get_or-append x p 0 n (omega arith)) ∙ numbers

  octet_stored : (k : ℕ) → k < held_of c p → get_or p k 0 ≡ low_of 1 (get_or v (kept_place + k) 0)
  octet_stored k l =
      let behind = ap (λ (n : ℕ). get_or (x ++ p) (n + k) 0) (sym long) ∙ get_or-append-add x p k 0 in
      let stored = rw zero-add at (o.inside (kept_place + k) (omega arith)) in
      sym (ap (low_of 1) (stored ∙ behind) ∙ mod-eq_of_lt (low k))

  octets-stored : take (held_of c p) p ≡ octets_in v
  octets-stored =
      let held = ap (λ (y : Core). y.held) core-stored in
      octets_are v (take (held_of c p) p) (length-take (held_of c p) p ∙ omega (arith, held))
      (λ k l. get_or-take (held_of c p) p k 0 (omega (arith, held)) ∙ octet_stored k (omega (arith, held)))

  pub keeping_stored : Keeping u c p v
  keeping_stored =
      record {
        long = o.long;
        rest = same-behind u v own_words o.long (λ n l. o.outside n (inr (omega arith)));
        core = λ l. core-stored;
        octets = λ l. sym octets-stored;
        few = λ l. let z : ⊥ = omega arith in absurd z;
      }

-- What words then hold.
pub link-kept : {u : List ℕ} {c : Core} {p v : List ℕ} → own_words ≤ length u → Keeping u c p v
    → link_in v ≡ link_of c (take (held_of c p) p) (stand_in (drop own_words u)) (waveform_in (drop own_words u))
link-kept room k = λ i. link_of (k.core room i) (k.octets room i) (stand_in (k.rest i)) (waveform_in (k.rest i))
