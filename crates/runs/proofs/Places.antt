-- Octets by their places: a sample, the last octet first, and a store before a run of stores.
use mathlib.Core.Path.{◌≡◌, refl, ap, ap₂, ◌∙◌}
use mathlib.Core.List.{List, [], ◌∷◌, reverse, reverse-append}
use Prim.Native.Nat.{ℕ, zero, suc, ◌+◌, ◌≤◌, ◌<◌}
use native.Mathlib.Omega.{arith}
use lib.ListN.{length, set, take, drop, get_or, length-drop}
use lib.Seq.{sets, set_comm, take-suc, get_or-drop}

-- The w octets of s from q on, the last first.
abbrev pub from_end : List ℕ → ℕ → ℕ → List ℕ
from_end s q zero = []
from_end s q (suc w) = get_or s (q + w) 0 ∷ from_end s q w

pub reversed : (s : List ℕ) (q w : ℕ) → q + w ≤ length s → reverse (take w (drop q s)) ≡ from_end s q w
reversed s q zero h = refl
reversed s q (suc w) h =
    let k : w < length (drop q s) = simp length-drop (omega arith) in
    ap reverse (take-suc (drop q s) w 0 k)
    ∙ reverse-append (take w (drop q s)) (get_or (drop q s) w 0 ∷ [])
    ∙ ap₂ ◌∷◌ (get_or-drop q s w 0) (reversed s q w (omega arith))

-- A store before a run commutes with it.
pub set_before : (vs l : List ℕ) (i k a : ℕ) → k < i → sets (set l k a) i vs ≡ set (sets l i vs) k a
set_before [] l i k a h = refl
set_before (b ∷ vs) l i k a h =
    ap (λ (m : List ℕ). sets m (suc i) vs) (set_comm l k i a b (omega arith))
    ∙ set_before vs (set l i b) (suc i) k a (omega arith)
