-- The canonical files of recordings.
--     recording-is, recording-long    the recording that a file holds
--     canonical_read     the canonical file of an accepted file is accepted, and holds the same recording
--     writer_answers, length-answers    23 is answered exactly when the canonical file does not fit, and else its length
--     out_is             a file that is written out is accepted, and its canonical file fits
--     wrote_out          what mfer_canonical does, write_canonical does
--     written_file       the canonical file in the buffer that a call left
--     written_again      that file, read and written again
--     same_written       the canonical files in two buffers are equal exactly when the recordings are
-- Assumes nothing.
use Rattle.heads.proofs.Faults.{number_within}
use Prim.Native.Nat.{ℕ, ◌≤◌}
use mathlib.Core.Path.{◌≡◌, refl, sym, ap, ◌∙◌}
use mathlib.Core.Logic.{◌↔◌}
use mathlib.Core.List.{List, ◌++◌}
use native.Mathlib.Omega.{arith}
use lib.ListN.{length, take, drop, length-map}
use lib.Seq.{take-append_seam, drop-append_seam}
use Rattle.octets.specs.Number.{Octets}
use Rattle.heads.specs.declared.Refusal.{Refusal}
use Rattle.heads.specs.Answer.{Answer, answered, refused_as, map_answer, left_by}
use Rattle.layout.specs.Frame.{Frame}
use Rattle.standing.specs.Standing.{octets_limit}
use Rattle.verdict.specs.Verdict.{Verdict, accepted, refused, verdict, check_of}
use Rattle.reader.proofs.Ordered.{accepted-few}
use Rattle.reader.proofs.Checks.{check-accepted}
use Rattle.canonical.specs.Recording.{Recorded, recorded_frame, recording}
use Rattle.canonical.specs.Canonical.{canonical}
use Rattle.canonical.specs.Write.{frames_in, recording_of, output_in, written_of, canonical_length_of, left_of, Wrote}
use Rattle.canonical.proofs.Room.{Fitting, Writes, writes, output_fits}
use Rattle.canonical.proofs.ReadBack.{Reads, read_back}
use Rattle.canonical.proofs.Accepted.{accepted-recorded}
use Rattle.outputs.specs.Outputs.{Outputs, outputs, handed_out, count_out}
use Rattle.mfer.specs.Answers.{CanonicalOut}
use Rattle.theorems.proofs.EntryPoints.{refused-answers}

-- The recording that an accepted file holds.
pub recording-is : (s : List ℕ) (fs : List Frame) → verdict s ≡ accepted fs → recording_of s ≡ recording fs
unfolding frames_in
recording-is s fs e = ap (λ (v : Verdict). recording (frames_in v)) e

-- It has as many frames.
pub recording-long : (fs : List Frame) → length (recording fs) ≡ length fs
unfolding recording
recording-long fs = length-map fs recorded_frame

-- ---- reading

-- A file holds one recording.
reads_one : (s : List ℕ) (x y : List Recorded) → Reads s x → Reads s y → x ≡ y
reads_one s x y a b =
    let f : a.frames ≡ b.frames = cc (a.is, b.is) in
    sym a.recorded ∙ ap recording f ∙ b.recorded

-- The canonical file of an accepted file is accepted, and holds the same recording.
pub canonical_read : (s : List ℕ) → Octets s → (fs : List Frame) → verdict s ≡ accepted fs → length (canonical (recording fs)) ≤ octets_limit
    → Reads (canonical (recording fs)) (recording fs)
canonical_read s octets fs e short =
    read_back (recording fs) (accepted-recorded s octets fs e) (rw recording-long (accepted-few s fs e)) short

-- ---- writing

-- The writer gives no refusal: the file is accepted, its canonical file stands at the start of the buffer, and octets past it keep what they
-- held.
pub record WrittenOut (s d : List ℕ) (m : ℕ) : Type 0 where
  pub frames : List Frame
  pub is : verdict s ≡ accepted frames
  pub long : length (canonical (recording frames)) ≡ m
  pub room : m ≤ length d
  pub small : m ≤ octets_limit
  pub file : take m (left_of s d) ≡ canonical (recording frames)
  pub rest : drop m (left_of s d) ≡ drop m d

module _ (s d : List ℕ) (fs : List Frame) (e : verdict s ≡ accepted fs) where
  -- Its canonical file.
  abbrev file : List ℕ
  file = canonical (recording fs)

  -- What the writer answers of an accepted file.
  pub writer_answers : Writes (written_of s d) (length d) fs
  unfolding written_of
  writer_answers = writes s (length d) fs e

  left-fits : Fitting file (length d) → left_of s d ≡ file ++ drop (length file) d
  unfolding left_of left_by
  left-fits h = ap (λ (x : Answer (List ℕ)). left_by x d) (output_fits s (length d) fs e h)

  out : (m : ℕ) → written_of s d ≡ answered m → WrittenOut s d m
  out m h =
      let w = (writer_answers.octets m).0 h in
      let l = left-fits (omega arith) in
      record {
        frames = fs;
        is = e;
        long = w.0;
        room = w.1;
        small = w.2;
        file = rw (← w.0, l) (take-append_seam file (drop (length file) d));
        rest = rw (← w.0, l) (drop-append_seam file (drop (length file) d));
      }

-- The length of an accepted file's canonical file.
pub length-answers : (s : List ℕ) (fs : List Frame) → verdict s ≡ accepted fs → Writes (canonical_length_of s) octets_limit fs
unfolding canonical_length_of
length-answers s fs e = writes s octets_limit fs e

-- The file itself is refused.
module _ (s d : List ℕ) (r : Refusal) (e : verdict s ≡ refused r) where
  none_out : (m : ℕ) → written_of s d ≡ answered m → ⊥
  none_out m h = let k = (refused-answers s r e).written d in let z : ◌≡◌ {A = ℕ} 0 1 = cc in omega arith

written_out : (s d : List ℕ) (m : ℕ) → written_of s d ≡ answered m → WrittenOut s d m
written_out s d m h = by (verdict s) refl
  where
    by : (v : Verdict) → verdict s ≡ v → WrittenOut s d m
    by (accepted fs) e = out s d fs e m h
    by (refused r) e = absurd (none_out s d r e m h)

-- ---- calls

-- A call of mfer_canonical whose result is 0 is as one of write_canonical that answers the length handed out.
pub wrote_out : {s d left : List ℕ} {place m : ℕ} → CanonicalOut s d (outputs 0 place m) left → Wrote s d (answered m) left
unfolding handed_out
wrote_out {s} {d} {left} {place} {m} w = record { octets = w.octets; answers = by (written_of s d) refl w.answers; leaves = w.leaves }
  where
    by : (a : Answer ℕ) → written_of s d ≡ a → outputs 0 place m ≡ count_out a → answered m ≡ a
    by (answered n) q e = ap (λ (o : Outputs ℕ). answered o.values) e
    by (refused_as fault at) q e = let z : ⊥ = omega (arith, (number_within fault).0, ap (λ (o : Outputs ℕ). o.refusal) e) in absurd z

module _ {s d left : List ℕ} {m : ℕ} (w : Wrote s d (answered m) left) where
  pub out_is : WrittenOut s d m
  out_is = written_out s d m (sym w.answers)

  -- The canonical file in the buffer, and what is behind it.
  pub written_file : (take m left ≡ canonical (recording_of s)) × (drop m left ≡ drop m d)
  written_file = rw w.leaves (out_is.file ∙ ap canonical (sym (recording-is s out_is.frames out_is.is)), out_is.rest)

  written_read : Reads (take m left) (recording_of s)
  written_read =
      let o = out_is in
      rw (w.leaves, o.file, recording-is s o.frames o.is) (canonical_read s w.octets o.frames o.is (omega (arith, o.long, o.small)))

  file-long : length (take m left) ≡ m
  file-long = rw (w.leaves, out_is.file) out_is.long

-- The file x holds the recording of the accepted file s: the check counts as many frames, the canonical file is as long, and the writer does
-- the same with both.
pub record ReadAgain (s x : List ℕ) : Type 0 where
  pub recorded : Reads x (recording_of s)
  pub check : check_of x ≡ check_of s
  pub measured : canonical_length_of x ≡ canonical_length_of s
  pub written : (d : List ℕ) → written_of x d ≡ written_of s d
  pub left : (d : List ℕ) → left_of x d ≡ left_of s d

-- What is written is the recording's.
same_output : (fs gs : List Frame) → recording fs ≡ recording gs → (room : ℕ) → output_in room (accepted fs) ≡ output_in room (accepted gs)
unfolding output_in
same_output fs gs q room = rw q

read_again : (s x : List ℕ) (fs : List Frame) → verdict s ≡ accepted fs → Reads x (recording_of s) → ReadAgain s x
unfolding written_of canonical_length_of left_of
read_again s x fs e r =
    let q : recording r.frames ≡ recording fs = r.recorded ∙ recording-is s fs e in
    let n : length r.frames ≡ length fs = sym (recording-long r.frames) ∙ ap length q ∙ recording-long fs in
    let same : (room : ℕ) → output_in room (verdict x) ≡ output_in room (verdict s) = λ room. ap (output_in room) r.is ∙ same_output r.frames fs q room ∙ ap (output_in room) (sym e) in
    record {
      recorded = r;
      check = (check-accepted x (length fs)).1 (r.frames, r.is, n) ∙ sym ((check-accepted s (length fs)).1 (fs, e, refl));
      measured = ap (map_answer length) (same octets_limit);
      written = λ d. ap (map_answer length) (same (length d));
      left = λ d. ap (λ (y : Answer (List ℕ)). left_by y d) (same (length d));
    }

pub written_again : {s d left : List ℕ} {m : ℕ} → Wrote s d (answered m) left → ReadAgain s (take m left)
written_again {s} w = let o = out_is w in read_again s _ o.frames o.is (written_read w)

pub same_written : {s d left t g right : List ℕ} {m n : ℕ} → Wrote s d (answered m) left → Wrote t g (answered n) right
    → ((m ≡ n) × (take m left ≡ take n right)) ↔ (recording_of s ≡ recording_of t)
same_written {s} {d} {left} {t} {g} {right} {m} {n} v w = (recordings, files)
  where
    recordings : (m ≡ n) × (take m left ≡ take n right) → recording_of s ≡ recording_of t
    recordings q = reads_one (take n right) (recording_of s) (recording_of t) (rw q.1 at (written_read v)) (written_read w)

    files : recording_of s ≡ recording_of t → (m ≡ n) × (take m left ≡ take n right)
    files p =
        let f : take m left ≡ take n right = (written_file v).0 ∙ ap canonical p ∙ sym (written_file w).0 in
        (sym (file-long v) ∙ ap length f ∙ file-long w, f)
