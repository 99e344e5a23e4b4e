-- What a function that stores a list of octets in a buffer promises.
use Rattle.std.specs.Prelude.{◌≡◌, List, Bool, ℕ, ◌+◌, ◌≤◌, leb, length}
use Rattle.std.proofs.lemmas.List.Edits.{sets}
use Rattle.octets.specs.Pick.{pick}
use Rattle.std.proofs.Common.{le-leb}

-- The list vs is stored in the buffer d from `at` on: r is the place after it, and e the buffer then.
pub record Put (d : List ℕ) (at : ℕ) (vs : List ℕ) (r : ℕ) (e : List ℕ) : Type 0 where
  pub next : r ≡ at + length vs
  pub stored : e ≡ sets d at vs

-- Whether vs fits into d from `at` on.
unfoldable pub fits_in : List ℕ → ℕ → List ℕ → Bool
fits_in d at vs = leb (at + length vs) (length d)

-- The place after vs, or `at` where it does not fit.
unfoldable pub placed : List ℕ → ℕ → List ℕ → ℕ
placed d at vs = pick (fits_in d at vs) (at + length vs) at

-- The buffer with vs stored from `at` on, or as it was where vs does not fit.
unfoldable pub stored_in : List ℕ → ℕ → List ℕ → List ℕ
stored_in d at vs = pick (fits_in d at vs) (sets d at vs) d

-- The list vs is stored where it fits, and nothing is stored where it does not.
pub record Putting (d : List ℕ) (at : ℕ) (vs : List ℕ) (r : ℕ) (e : List ℕ) : Type 0 where
  pub next : r ≡ placed d at vs
  pub stored : e ≡ stored_in d at vs

pub put_fits : {d e vs : List ℕ} {at r : ℕ} → at + length vs ≤ length d → Putting d at vs r e → Put d at vs r e
unfolding fits_in placed stored_in
put_fits {d} {vs = vs} {at = at} h p =
    let t = le-leb (at + length vs) (length d) h in
    record { next = rw t at p.next; stored = rw t at p.stored }
