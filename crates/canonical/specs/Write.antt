-- What the canonical writer answers and what it leaves in the buffer, and the canonical file's length without a buffer (document 01, "What comes
-- back when it is no" and "The canonical file").
use Rattle.std.specs.Prelude.{List, [], Bool, ℕ, ◌+◌, ◌≤◌, ◌≡◌, leb, length}
use Rattle.octets.specs.Number.{Octets}
use Rattle.octets.specs.Pick.{pick, both}
use Rattle.heads.specs.declared.Fault.TheVariants.{NoRoom}
use Rattle.heads.specs.Answer.{Answer, answered, refused_as, refused_by, map_answer, left_by}
use Rattle.layout.specs.Frame.{Frame}
use Rattle.standing.specs.Standing.{octets_limit}
use Rattle.pass.specs.Scan.{sizes}
use Rattle.verdict.specs.Verdict.{Verdict, accepted, refused, verdict}
use Rattle.canonical.specs.Recording.{Recorded, recording}
use Rattle.canonical.specs.Canonical.{canonical}

-- The frames of an accepted file; for a refused one none.
unfoldable pub frames_in : Verdict → List Frame
frames_in (accepted fs) = fs
frames_in (refused r) = []

-- The recording that a file holds; a refused one has no frames.
abbrev pub recording_of : List ℕ → List Recorded
recording_of s = recording (frames_in (verdict s))

-- The canonical file of an accepted file; for a refused one no octets.
unfoldable pub canonical_of : List ℕ → List ℕ
canonical_of s = canonical (recording_of s)

-- The canonical file is no longer than there is room, nor than 15's limit.
unfoldable pub fits : List ℕ → ℕ → Bool
fits octets room = both (leb (length octets) room) (leb (length octets) octets_limit)

-- What is written where there is room for so many octets: the file's own refusal; else 23 where the canonical file does not fit; else that file.
unfoldable pub output_in : ℕ → Verdict → Answer (List ℕ)
output_in room (refused r) = refused_by r
output_in room (accepted fs) =
    let octets = canonical (recording fs) in
    pick (fits octets room) (answered octets) (refused_as NoRoom 0)

-- The answer is its length.
abbrev pub output_length : ℕ → List ℕ → Answer ℕ
output_length room s = map_answer length (output_in room (verdict s))

-- The writer answers the canonical file's length; the room is the output buffer's.
unfoldable pub written_of : List ℕ → List ℕ → Answer ℕ
written_of s buffer = output_length (length buffer) s

-- The canonical file's length without a buffer, as with room for the longest file: the file's own refusal; else 23 where the canonical file
-- is longer than 15's limit; else its length.
unfoldable pub canonical_length_of : List ℕ → Answer ℕ
canonical_length_of s = output_length octets_limit s

-- The buffer afterwards: a refusal changes no octet of it; on success the canonical file stands at its start, and octets past it keep what they held.
unfoldable pub left_of : List ℕ → List ℕ → List ℕ
left_of s buffer = left_by (output_in (length buffer) (verdict s)) buffer

-- A call of the writer: the file s and what the buffer held, and then the answer and the buffer as the call leaves it. A file is octets.
pub record Wrote (s buffer : List ℕ) (answer : Answer ℕ) (left : List ℕ) : Type 0 where
  pub octets : Octets s
  pub answers : answer ≡ written_of s buffer
  pub leaves : left ≡ left_of s buffer

-- A file that is accepted and has frames, and a buffer that its canonical file fits into.
pub record Ready (s buffer : List ℕ) : Type 0 where
  pub is : verdict s ≡ accepted (frames_in (verdict s))
  pub some : length (frames_in (verdict s)) ≡ 0 → ⊥
  pub room : 3 + sizes (frames_in (verdict s)) ≤ length buffer
