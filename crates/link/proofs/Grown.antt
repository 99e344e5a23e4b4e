-- The octets that have come, and one more.
--     grown_long, grown_is    how long they are; with more behind them
--     to_grown, of_grown      what is said of the one is said of the other
--     drop_grown              what is behind a place
-- Assumes nothing.
use Prim.Native.Nat.{ℕ, suc, ◌≤◌}
use mathlib.Core.Path.{◌≡◌, sym, subst}
use mathlib.Core.List.{List, [], ◌∷◌, ◌++◌, append_assoc}
use native.Mathlib.Omega.{arith}
use lib.ListN.{length, drop, length-append}
use lib.Seq.{drop-append-le}

module _ (s : List ℕ) (b : ℕ) where
  abbrev pub grown : List ℕ
  grown = s ++ (b ∷ [])

  pub grown_long : length grown ≡ suc (length s)
  grown_long = rw length-append (omega arith)

  pub grown_is : (t : List ℕ) → grown ++ t ≡ s ++ (b ∷ t)
  grown_is t = append_assoc s (b ∷ []) t

  module _ (P : List ℕ → Type 0) (t : List ℕ) where
    pub to_grown : P (s ++ (b ∷ t)) → P (grown ++ t)
    to_grown h = subst P (sym (grown_is t)) h

    pub of_grown : P (grown ++ t) → P (s ++ (b ∷ t))
    of_grown h = subst P (grown_is t) h

  pub drop_grown : (k : ℕ) → k ≤ length s → drop k grown ≡ drop k s ++ (b ∷ [])
  drop_grown k h = drop-append-le k s (b ∷ []) h
