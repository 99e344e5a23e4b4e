-- A link kept in words that a caller lends: its own numbers and the octets that it keeps, and behind them its walk. Any words at all are some link. None of it
-- is a rule of document 01.
use Rattle.std.specs.Prelude.{◌≡◌, Bool, List, ◌++◌, map, ℕ, ◌+◌, ◌≤◌, ◌<◌, min, leb, eqb, length, take, drop, replicate, Result, Ok, Err, unwrap_or}
use Rattle.heads.specs.declared.Fault.{Fault}
use Rattle.heads.specs.Faults.{number_of, fault_of}
use Rattle.heads.specs.Answer.{Answer, answered, refused_by}
use Rattle.octets.specs.Pick.{pick}
use Rattle.octets.specs.Number.{low_of}
use Rattle.heads.specs.declared.Refusal.{Refusal}
use Rattle.items.specs.Walk.{refusal}
use Rattle.words.specs.Words.{words_at}
use Rattle.walk.specs.declared.Waveform.{Waveform}
use Rattle.walk.specs.Advance.{Stand}
use Rattle.kept.specs.Words.{waveform_in}
use Rattle.walking.specs.Words.{walk_words, stand_in}
use Rattle.link.specs.Link.{coming, Phase, head, value, waveform, waits, decided, Link, link, kept_limit}
use Rattle.held.specs.declared.Noted.{Noted}
use Rattle.held.specs.declared.Stage.{Stage}
use Rattle.held.specs.declared.Core.{Core}

-- How many words a link has of its own, and how many with its walk.
abbrev pub own_words : ℕ
own_words = 64

abbrev pub link_words : ℕ
link_words = own_words + walk_words

-- The place of the octets that it keeps, one a word.
abbrev pub kept_place : ℕ
kept_place = 16

abbrev pub noted : ℕ → ℕ → Noted
noted number place = record { number = number; place = place }

-- A refusal is held as the number of its fault, and its place.
abbrev pub noted_of : Refusal → Noted
noted_of r = noted (number_of r.fault) r.place

-- The fault of a number; a number that no fault has is 15's.
unfoldable pub fault_by : ℕ → Fault
fault_by n = unwrap_or (fault_of n) Fault.LongFile

-- The refusal for which one that is held stands.
abbrev pub refusal_of : Noted → Refusal
refusal_of r = refusal (fault_by r.number) r.place

-- The answer for which one that is held stands.
abbrev pub answer_by : Result ℕ Noted → Answer ℕ
answer_by (Ok n) = answered n
answer_by (Err r) = refused_by (refusal_of r)

-- The phase of a stage, with the octets that are kept.
abbrev pub phase_of : Stage → List ℕ → Phase
phase_of Stage.Head p = head p
phase_of (Stage.Value tag left) p = value tag left p
phase_of (Stage.Waveform left sequence channel index) p = waveform left (coming sequence channel index p)
phase_of (Stage.Waits left r) p = waits left (refusal_of r)
phase_of (Stage.Decided a) p = decided (answer_by a)

-- The link of its own numbers and octets, and of its walk.
abbrev pub link_of : Core → List ℕ → Stand → Waveform → Link
link_of c p x v = link c.count x c.around v (phase_of c.stage p)

-- A refusal, of the words g 5 and g 6: its number, whether a fault has it or not, and its place.
abbrev pub refusal_by : (ℕ → ℕ) → Noted
refusal_by g = noted (low_of 1 (g 5)) (g 6)

-- A stage, of the words g 3 to g 9: its kind, so many octets still to come, a tag or a refusal's number, a place or the frames, and a sample's sequence,
-- channel and index. The answer has two kinds.
abbrev pub stage_by : (ℕ → ℕ) → Stage
stage_by g =
    pick (eqb (g 3) 0) Stage.Head
    (pick (eqb (g 3) 1) (Stage.Value (low_of 1 (g 5)) (g 4))
    (pick (eqb (g 3) 2) (Stage.Waveform (g 4) (low_of 4 (g 7)) (low_of 4 (g 8)) (low_of 4 (g 9)))
    (pick (eqb (g 3) 3) (Stage.Waits (g 4) (refusal_by g))
    (pick (eqb (g 3) 4) (Stage.Decided (Ok (low_of 4 (g 6))))
    (Stage.Decided (Err (refusal_by g)))))))

-- The numbers, of the words g 0 to g 9. No more octets are kept than a value needs.
abbrev pub core_by : (ℕ → ℕ) → Core
core_by g = record { count = g 0; around = g 1; held = min (g 2) kept_limit; stage = stage_by g }

-- What words hold.
abbrev pub core_in : List ℕ → Core
core_in w = core_by (words_at w 0)

-- The words from the octets' place on; past the end they are 0.
abbrev pub kept_in : List ℕ → List ℕ
kept_in w = drop kept_place w ++ replicate kept_limit 0

unfoldable pub octets_in : List ℕ → List ℕ
octets_in w = map (low_of 1) (take (core_in w).held (kept_in w))

-- The link that words hold. Its phase has a refusal with a fault, so that a number that no fault has is 15's here, and here alone: `core_in` has the number that
-- stands in the words.
abbrev pub link_in : List ℕ → Link
link_in w = link_of (core_in w) (octets_in w) (stand_in (drop own_words w)) (waveform_in (drop own_words w))

-- Fewer words cannot hold a link's own.
abbrev pub holds_own : List ℕ → Bool
holds_own w = leb own_words (length w)

-- The same numbers, with so many octets held.
abbrev pub with_held : ℕ → Core → Core
with_held n c = record { count = c.count; around = c.around; held = n; stage = c.stage }

-- No more octets are held than are there and than are kept.
abbrev pub held_of : Core → List ℕ → ℕ
held_of c p = min c.held (min kept_limit (length p))

abbrev pub holding : Core → List ℕ → Core
holding c p = with_held (held_of c p) c

-- The words v hold these numbers and the first of these octets; they are as many as the words u, and the same behind the link's own. Words too few stay as they were.
pub record Keeping (u : List ℕ) (c : Core) (p : List ℕ) (v : List ℕ) : Type 0 where
  pub long : length v ≡ length u
  pub rest : drop own_words v ≡ drop own_words u
  pub core : own_words ≤ length u → core_in v ≡ holding c p
  pub octets : own_words ≤ length u → octets_in v ≡ take (held_of c p) p
  pub few : length u < own_words → v ≡ u
