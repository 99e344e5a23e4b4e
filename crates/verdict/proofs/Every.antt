-- What holds of every element of a list.
--     every_at, every_imp    of the element at an index; of what follows from it
--     every_snoc, every_take, every_replicate, every_changed, every_map    of lists made from such lists
-- Assumes nothing.
use mathlib.Core.List.{List, [], ◌∷◌, ◌++◌, map}
use Prim.Native.Nat.{ℕ, zero, suc, ◌<◌}
use native.Mathlib.Nat.{not-suc-le-zero, le_of_suc-le-suc}
use lib.ListN.{length, get_or, take, set, replicate}

abbrev pub Every : {A : Type 0} → (A → Type 0) → List A → Type 0
Every P [] = Unit {0}
Every P (a ∷ l) = P a × Every P l

module _ {A : Type 0} (P : A → Type 0) where
  pub every_at : (l : List A) → Every P l → (d : A) (i : ℕ) → i < length l → P (get_or l i d)
  every_at [] e d i h = absurd (not-suc-le-zero h)
  every_at (a ∷ l) e d zero h = e.0
  every_at (a ∷ l) e d (suc i) h = every_at l e.1 d i (le_of_suc-le-suc h)

  pub every_snoc : (l : List A) (a : A) → Every P l → P a → Every P (l ++ (a ∷ []))
  every_snoc [] a e p = (p, tt)
  every_snoc (b ∷ l) a e p = (e.0, every_snoc l a e.1 p)

  pub every_take : (n : ℕ) (l : List A) → Every P l → Every P (take n l)
  every_take zero l e = tt
  every_take (suc n) [] e = tt
  every_take (suc n) (a ∷ l) e = (e.0, every_take n l e.1)

  pub every_replicate : (n : ℕ) (a : A) → P a → Every P (replicate n a)
  every_replicate zero a p = tt
  every_replicate (suc n) a p = (p, every_replicate n a p)

  pub every_changed : (f : A → A) → ((a : A) → P a → P (f a)) → (l : List A) (i : ℕ) (d : A) → Every P l → Every P (set l i (f (get_or l i d)))
  every_changed f k [] i d e = tt
  every_changed f k (a ∷ l) zero d e = (k a e.0, e.1)
  every_changed f k (a ∷ l) (suc i) d e = (e.0, every_changed f k l i d e.1)

module _ {A : Type 0} (P : A → Type 0) where
  pub every_imp : (Q : A → Type 0) → ((a : A) → P a → Q a) → (l : List A) → Every P l → Every Q l
  every_imp Q k [] e = tt
  every_imp Q k (a ∷ l) e = (k a e.0, every_imp Q k l e.1)

  pub every_map : {B : Type 0} (Q : B → Type 0) (f : A → B) → ((a : A) → P a → Q (f a)) → (l : List A) → Every P l → Every Q (map f l)
  every_map Q f k [] e = tt
  every_map Q f k (a ∷ l) e = (k a e.0, every_map Q f k l e.1)
