-- Samples turned about.
--     laid-turned    the samples of a waveform, each turned about, are the waveform so turned
--     octets_even    the octets of a sequence, where all widths are one number
--     turned_even    such a waveform is turned as one run of samples
-- Assumes nothing.
use Prim.Native.Nat.{ℕ, zero, suc, ◌*◌}
use mathlib.Core.Path.{◌≡◌, refl, sym, ◌∙◌}
use mathlib.Core.List.{List, [], ◌∷◌, reverse}
use native.Mathlib.Nat.{zero-mul, suc-mul, add-mul, add_comm}
use native.Mathlib.Omega.{arith}
use lib.ListN.{take, drop}
use Rattle.settings.specs.declared.Settings.{Settings}
use Rattle.layout.specs.Frame.{width_in, block_octets, sequence_octets}
use Rattle.laid.specs.Laid.{laid, sample_octets}
use Rattle.runs.specs.Turned.{turned}
use Rattle.runs.proofs.Turned.{turned-add}
use Rattle.laid.specs.Turned.{turned_sequence, turned_all, sequence_samples, Even}
use Rattle.laid.proofs.Laid.{steps, steps_in, laid-steps}

-- ---- a waveform turned about goes by steps

turned-steps : (w k : ℕ) (x : List ℕ) → steps (λ y. reverse (take w y)) w k x ≡ turned w k x
unfolding turned
turned-steps w zero x = refl
turned-steps w (suc k) x = rw (turned-steps w k (drop w x))

-- The sample that octets start with, turned about.
abbrev turned_first : Settings → List ℕ → List ℕ
turned_first s y = reverse (take (width_in s) y)

sequence-turned : (cs : List Settings) (x : List ℕ) → steps_in turned_first cs x ≡ turned_sequence cs x
unfolding turned_sequence
sequence-turned [] x = refl
sequence-turned (s ∷ cs) x = rw (turned-steps (width_in s) s.block x, sequence-turned cs (drop (block_octets s) x))

all-steps : (cs : List Settings) (m : ℕ) (x : List ℕ) → steps (steps_in turned_first cs) (sequence_octets cs) m x ≡ turned_all cs m x
unfolding turned_all
all-steps cs zero x = refl
all-steps cs (suc m) x = rw (sequence-turned cs x, all-steps cs m (drop (sequence_octets cs) x))

pub laid-turned : (cs : List Settings) (S : ℕ) (x : List ℕ) → laid (λ c n. reverse (sample_octets cs x c n)) cs S ≡ turned_all cs S x
laid-turned cs S x = laid-steps (λ c n. reverse (sample_octets cs x c n)) turned_first cs S x (λ c n h. refl) ∙ all-steps cs S x

-- ---- where all widths are one number

even_first : (v : ℕ) (s : Settings) (cs : List Settings) → Even v (s ∷ cs) → block_octets s ≡ s.block * v
unfolding block_octets
even_first v s cs e = rw (e 0 (omega arith))

even_rest : (v : ℕ) (s : Settings) (cs : List Settings) → Even v (s ∷ cs) → Even v cs
even_rest v s cs e i h = e (suc i) (omega arith)

pub octets_even : (v : ℕ) (cs : List Settings) → Even v cs → sequence_octets cs ≡ sequence_samples cs * v
unfolding sequence_octets sequence_samples
octets_even v [] e = rw zero-mul
octets_even v (s ∷ cs) e = rw (add-mul, even_first v s cs e, octets_even v cs (even_rest v s cs e))

sequence_even : (v : ℕ) (cs : List Settings) (x : List ℕ) → Even v cs → turned_sequence cs x ≡ turned v (sequence_samples cs) x
unfolding turned_sequence sequence_samples turned
sequence_even v [] x e = refl
sequence_even v (s ∷ cs) x e =
    rw (even_first v s cs e, e 0 (omega arith), sequence_even v cs (drop (s.block * v) x) (even_rest v s cs e)) (sym (turned-add v s.block (sequence_samples cs) x))

pub turned_even : (v : ℕ) (cs : List Settings) (S : ℕ) (x : List ℕ) → Even v cs → turned_all cs S x ≡ turned v (S * sequence_samples cs) x
unfolding turned_all turned
turned_even v cs zero x e = rw zero-mul
turned_even v cs (suc m) x e =
    rw
    (suc-mul, add_comm (m * sequence_samples cs) (sequence_samples cs), sequence_even v cs x e, octets_even v cs e, turned_even v cs m (drop (sequence_samples cs * v) x) e)
    (sym (turned-add v (sequence_samples cs) (m * sequence_samples cs) x))
