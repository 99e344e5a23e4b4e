-- One call of the feed over a link that goes by value: in turns, each of which takes octets at the front of what is left. None of it is a rule of document 01.
use Rattle.std.specs.Prelude.{◌≡◌, List, [], ◌∷◌, ◌++◌, Bool, true, false, ℕ, ◌-◌, ◌*◌, ◌/◌, ◌≤◌, ◌<◌, ltb, length, take, drop}
use Rattle.std.proofs.lemmas.List.Edits.{sets}
use Rattle.octets.specs.Pick.{both, either}
use Rattle.link.specs.Link as L
use Rattle.link.specs.Link.{Given, is_decided, kept_limit, counted, sample_by}
use Rattle.link.specs.Feed.{Fed, fed, is_head, feed_of}
use Rattle.link.specs.Runs.{behind, Leads}
use Rattle.held.specs.declared.Stage.{Stage}
use Rattle.held.specs.Words.{phase_of}
use Rattle.rows.specs.declared.Spot.{Spot}
use Rattle.rows.specs.Rows.{row_words, rows_of, coming_at}
use Rattle.lasting.specs.declared.Passed.{Passed}
use Rattle.arriving.specs.declared.Link.{Link}
use Rattle.arriving.specs.Arriving.{kept_of, link_by, counted_by, Notes, Steps}
use Rattle.turns.specs.declared.Ran.{Ran}
use Rattle.turns.specs.declared.Turned.{Turned}
use Rattle.turns.specs.declared.Gave.{Gave}

abbrev pub ran : Link → List ℕ → ℕ → ℕ → Ran
ran x p taken given = record { link = x; octets = p; taken = taken; given = given }

-- Nothing is taken.
abbrev pub no_run : Link → List ℕ → Ran
no_run x p = ran x p 0 0

-- What is taken, where nothing is given out.
abbrev pub passed_of : Ran → Passed
passed_of r = record { link = r.link; octets = r.octets; taken = r.taken }

-- The link behind what was taken, with these words.
abbrev pub link_ran : Ran → List ℕ → L.Link
link_ran r t = link_by r.link r.octets t

-- Samples whose rows stand at the front of a buffer.
pub record Rows (samples : List Given) (given : ℕ) (d e : List ℕ) : Type 0 where
  pub many : length samples ≡ given
  pub room : given * row_words ≤ length d
  pub is : e ≡ sets d 0 (rows_of samples)

-- Octets at the front of u, behind none of which the call stops, and what they gave out.
pub record Runs (x : Link) (p t u d : List ℕ) (r : Ran) (v e : List ℕ) : Type 0 where
  pub notes : Notes x r.taken r.link
  pub samples : List Given
  pub inside : r.taken ≤ length u
  pub rows : Rows samples r.given d e
  pub long : length v ≡ length t
  pub leads : Leads (link_by x p t) (take r.taken u) (link_ran r v) samples

-- The same, where nothing is given out.
pub record RunsOn (x : Link) (p t u : List ℕ) (r : Ran) (v : List ℕ) : Type 0 where
  pub notes : Notes x r.taken r.link
  pub inside : r.taken ≤ length u
  pub none : r.given ≡ 0
  pub long : length v ≡ length t
  pub leads : Leads (link_by x p t) (take r.taken u) (link_ran r v) []

-- At a sample of a waveform of which octets are left, of which nothing has come.
pub record AtSamples (x : Link) (left : ℕ) (at : Spot) : Type 0 where
  pub stage : x.core.stage ≡ Stage.Waveform left at.sequence at.channel at.index
  pub held : x.core.held ≡ 0
  pub some : 0 < left

-- What an octet gives out, and how a buffer then is: no row where it gives nothing or where there is no room.
abbrev pub GivesIn : List Given → List ℕ → Gave → List ℕ → Type 0
GivesIn g d Gave.Nothing e = (g ≡ []) × (e ≡ d)
GivesIn g d Gave.Full e = (length g ≡ 1) × (length d < row_words) × (e ≡ d)
GivesIn g d Gave.Given e = Rows g 1 d e

pub record GivesBy (g : List Given) (d : List ℕ) (k : Gave) (e : List ℕ) : Type 0 where
  pub is : GivesIn g d k e

-- What an octet of the sample at a spot gives out.
abbrev pub sample_given_by : Link → List ℕ → List ℕ → ℕ → Spot → List Given
sample_given_by x p t b at = sample_by (link_by (counted_by x) p t) (coming_at at (kept_of x p)) (kept_of x p ++ (b ∷ []))

-- Whether a stage is that of a head; and whether a call stops behind an octet that led from it.
abbrev pub HeadIn : Stage → Bool → Type 0
HeadIn s r = (p : List ℕ) → r ≡ is_head (phase_of s p)

abbrev pub StopsIn : Stage → Link → Bool → Type 0
StopsIn s y r = (p q : List ℕ) → r ≡ either (is_decided (phase_of y.core.stage q)) (both (is_head (phase_of s p)) (ltb 0 y.frame.channels))

-- An octet by itself.
pub record OctetOn (x : Link) (p t : List ℕ) (b n : ℕ) (r : Turned) (v : List ℕ) : Type 0 where
  pub taken : r.ran.taken ≡ 1
  pub given : r.ran.given ≡ n
  pub steps : Steps x p t b (record { link = r.ran.link; octets = r.ran.octets }) v
  pub stops : StopsIn x.core.stage r.ran.link r.stops

-- No answer has come.
abbrev pub Open : Link → List ℕ → List ℕ → Type 0
Open x p t = is_decided (link_by x p t).phase ≡ false

-- What a call goes on to, or that it stops.
abbrev pub goes_on : Bool → ℕ → L.Link → List ℕ → Fed
goes_on true room l u = fed 0 l []
goes_on false room l u = feed_of room l u

abbrev pub room_in : List ℕ → ℕ
room_in d = length d / row_words

-- One turn of a call; one that does not stop it takes octets.
pub record Turns (x : Link) (p t u d : List ℕ) (r : Turned) (v e : List ℕ) : Type 0 where
  pub notes : Notes x r.ran.taken r.ran.link
  pub samples : List Given
  pub inside : r.ran.taken ≤ length u
  pub rows : Rows samples r.ran.given d e
  pub long : length v ≡ length t
  pub some : r.stops ≡ false → 0 < r.ran.taken
  pub same : feed_of (room_in d) (link_by x p t) u ≡ behind r.ran.taken samples (goes_on r.stops (room_in d - length samples) (link_ran r.ran v) (drop r.ran.taken u))

-- One call: what it takes, leaves and gives out, and the rows at the front of the buffer.
pub record Feeds (x : Link) (p t s d : List ℕ) (r : Ran) (v e : List ℕ) : Type 0 where
  pub notes : Notes x r.taken r.link
  pub same : fed r.taken (link_ran r v) (feed_of (room_in d) (link_by x p t) s).given ≡ feed_of (room_in d) (link_by x p t) s
  pub rows : Rows (feed_of (room_in d) (link_by x p t) s).given r.given d e
  pub long : length v ≡ length t
