-- One call of the feed (document 02, request 3): it takes octets as long as there is room for the samples that they give out, and stops behind the octet with
-- which a frame's settings are due or the answer comes.
use Rattle.std.specs.Prelude.{ℕ, suc, ◌-◌, List, [], ◌∷◌, ◌++◌, Bool, true, false, length, ltb}
use Rattle.octets.specs.Pick.{pick, both, either}
use Rattle.link.specs.Link.{Phase, head, value, waveform, waits, decided, Link, is_decided, stepped, fed_with, Given, gives, given_by}

-- How many octets are taken, what is held behind them, and what they gave out.
pub record Fed : Type 0 where
  pub taken : ℕ
  pub link : Link
  pub given : List Given

abbrev pub fed : ℕ → Link → List Given → Fed
fed taken l given = record { taken = taken; link = l; given = given }

abbrev pub is_head : Phase → Bool
is_head (head p) = true
is_head (value tag left kept) = false
is_head (waveform left t) = false
is_head (waits left r) = false
is_head (decided a) = false

-- The octet is the last of a waveform's head, and its frame is told: the settings are due.
unfoldable pub due : Link → ℕ → Bool
due l b = both (is_head l.phase) (ltb 0 (stepped l b).frame.channels)

-- One octet, and what the call goes on to take.
abbrev pub onto : List Given → Fed → Fed
onto given f = fed (suc f.taken) f.link (given ++ f.given)

-- "No octet is taken without room for its sample."
unfoldable pub feed_of : ℕ → Link → List ℕ → Fed
feed_of room l [] = fed 0 l []
feed_of room l (b ∷ s) =
    let rest = feed_of (room - length (gives l b)) (stepped l b) s in
    pick (is_decided l.phase) (fed 0 l [])
    (pick (ltb room (length (gives l b))) (fed 0 l [])
    (pick (either (is_decided (stepped l b).phase) (due l b)) (fed 1 (stepped l b) (gives l b))
    (onto (gives l b) rest)))

-- ---- pieces

-- Pieces joined together.
unfoldable pub joined : List (List ℕ) → List ℕ
joined [] = []
joined (p ∷ ps) = p ++ joined ps

-- What is held after pieces that were fed one after the other, and what they gave out.
unfoldable pub fed_pieces : Link → List (List ℕ) → Link
fed_pieces l [] = l
fed_pieces l (p ∷ ps) = fed_pieces (fed_with l p) ps

unfoldable pub given_pieces : Link → List (List ℕ) → List Given
given_pieces l [] = []
given_pieces l (p ∷ ps) = given_by l p ++ given_pieces (fed_with l p) ps
