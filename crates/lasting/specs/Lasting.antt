-- Octets that only have to come. None of it is a rule of document 01.
use Rattle.std.specs.Prelude.{◌≡◌, List, [], ◌++◌, ℕ, ◌+◌, ◌-◌, ◌≤◌, ◌<◌, min, length, take}
use Rattle.standing.specs.Standing.{octets_limit}
use Rattle.link.specs.Link as L
use Rattle.link.specs.Link.{Phase, kept_limit}
use Rattle.link.specs.Runs.{Leads}
use Rattle.held.specs.declared.Stage.{Stage}
use Rattle.walk.specs.Advance.{stand_of}
use Rattle.arriving.specs.declared.Link.{Link}
use Rattle.rows.specs.declared.Spot.{Spot}
use Rattle.arriving.specs.Arriving.{link_by, NotesBy, Notes}
use Rattle.lasting.specs.declared.Passed.{Passed}

-- So many octets more are none where the limit is passed already, and else do not pass it.
abbrev pub Fits : ℕ → ℕ → Type 0
Fits count m = (0 < m) → count + m ≤ octets_limit

-- So many octets only have to come, at a stage.
abbrev pub Lasts : Stage → ℕ → ℕ → Type 0
Lasts Stage.Head sequences r = r ≡ 0
Lasts (Stage.Value tag left) sequences r = r ≤ left - 1
Lasts (Stage.Waveform left sequence channel index) sequences r = (r ≤ left) × (0 < r → sequences ≤ sequence)
Lasts (Stage.Waits left refusal) sequences r = r ≤ left - 1
Lasts (Stage.Decided a) sequences r = r ≡ 0

-- The first n octets of p and those of u, as far as they are kept.
pub record Joined (p : List ℕ) (n : ℕ) (u r : List ℕ) : Type 0 where
  pub kept : take (min (n + length u) kept_limit) r ≡ take kept_limit (take n p ++ u)

-- Of n octets m come before the last of those that are left, within the limit.
pub record Ahead (count left n m : ℕ) : Type 0 where
  pub some : 0 < m
  pub more : m < left
  pub there : m ≤ n
  pub near : count + m ≤ octets_limit

-- Of n octets m are of a waveform's surplus, within the limit.
pub record Surplus (x : Link) (left : ℕ) (at : Spot) (n m : ℕ) : Type 0 where
  pub some : 0 < m
  pub more : m ≤ left
  pub there : m ≤ n
  pub near : x.core.count + m ≤ octets_limit
  pub behind : x.frame.sequences ≤ at.sequence

-- What octets lead to from a link in a phase, with whatever words, that of this stage.
pub record PassesIn (phase : Phase) (before : Stage) (x : Link) (p u : List ℕ) (r : Passed) : Type 0 where
  pub notes : NotesBy (x.core.count + 1) (x.core.count + r.taken) before r.link
  pub there : r.taken ≤ length u
  pub leads : (t : List ℕ) → Leads (L.link x.core.count (stand_of x.head t) x.core.around x.frame phase) (take r.taken u) (link_by r.link r.octets t) []

-- The same from a link as it is.
pub record Passes (x : Link) (p u : List ℕ) (r : Passed) : Type 0 where
  pub notes : Notes x r.taken r.link
  pub there : r.taken ≤ length u
  pub leads : (t : List ℕ) → Leads (link_by x p t) (take r.taken u) (link_by r.link r.octets t) []
