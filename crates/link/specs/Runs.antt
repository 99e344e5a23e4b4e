-- Octets that are fed at once, as a call takes them (document 02, request 3).
use Rattle.std.specs.Prelude.{ℕ, ◌+◌, ◌≡◌, List, [], ◌∷◌, ◌++◌, Bool, false}
use Rattle.octets.specs.Pick.{either}
use Rattle.link.specs.Link.{Link, is_decided, stepped, fed_with, Given, given_by}
use Rattle.link.specs.Feed.{Fed, fed, due}

-- Behind an octet a call stops.
abbrev pub stops_behind : Link → ℕ → Bool
stops_behind l b = either (is_decided (stepped l b).phase) (due l b)

-- Octets behind none of which a call stops.
abbrev pub Steady : Link → List ℕ → Type 0
Steady l [] = Unit {0}
Steady l (b ∷ u) = (is_decided l.phase ≡ false) × (stops_behind l b ≡ false) × Steady (stepped l b) u

-- So many octets more, and what they gave out.
abbrev pub behind : ℕ → List Given → Fed → Fed
behind n given f = fed (n + f.taken) f.link (given ++ f.given)

-- What octets lead to: they are steady, and give this out.
pub record Leads (l : Link) (u : List ℕ) (m : Link) (g : List Given) : Type 0 where
  pub steady : Steady l u
  pub link : fed_with l u ≡ m
  pub given : given_by l u ≡ g
