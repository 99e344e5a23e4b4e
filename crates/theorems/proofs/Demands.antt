-- The three demands, over the definitions that the contracts cite.
--     demand_one      every call ends with an answer or a refusal, each number exactly when its condition holds and none ahead of it does
--     demand_two      what is told is the recording, what is written is what document 01 lays down, and it reads back as the same recording
--     demand_three    no two samples share an octet, and canonical files are equal exactly when the recordings are
-- Assumes nothing.
use Rattle.heads.specs.Faults.{number_of}
use Rattle.heads.specs.declared.Fault.{Fault}
use Prim.Native.Nat.{ℕ, ◌≤◌, ◌<◌}
use mathlib.Core.Path.{◌≡◌, refl}
use mathlib.Core.Logic.{◌↔◌, ◌⊎◌}
use mathlib.Core.List.{List}
use lib.ListN.{length, take, drop}
use Rattle.heads.specs.declared.Refusal.{Refusal}
use Rattle.heads.specs.declared.Fault.TheVariants.{ShortWaveform, LongFile}
use Rattle.heads.specs.Answer.{answered, refused_as, map_answer}
use Rattle.items.specs.Walk.{refusal}
use Rattle.layout.specs.Frame.{Frame}
use Rattle.there.specs.There.{there_in}
use Rattle.standing.specs.Standing.{octets_limit}
use Rattle.verdict.specs.Verdict.{accepted, refused, verdict, check_of}
use Rattle.reader.specs.Answer.{attributes_in, attributes_of, sample_in, sample_of, seen_of, placed_of}
use Rattle.view.specs.View.{view_of}
use Rattle.bulk.specs.Samples.{there_at, read_of, values_of}
use Rattle.canonical.specs.Canonical.{canonical}
use Rattle.canonical.specs.Write.{recording_of, written_of, canonical_length_of, Wrote}
use Rattle.outputs.specs.Outputs.{outputs}
use Rattle.maker.specs.Make.{Making, made_in}
use Rattle.mfer.specs.Answers.{CanonicalOut}
use Rattle.reader.proofs.Ordered.{waveform_end}
use Rattle.reader.proofs.Checks.{check-accepted, check-refused}
use Rattle.canonical.proofs.Room.{Writes}
use Rattle.canonical.proofs.Lengths.{ByLength, by_length_lem}
use Rattle.theorems.proofs.Questions.{frame_number, ByChannel, BySample, accepted_or_refused, limit_exactly, limit_place_lem, attributes-answered, channel-answered, there-answered, place_read, place_told, sample-answered, place-answered, bits_read, values_read, samples-answered, values-answered, same_place_lem}
use Rattle.theorems.proofs.Places.{Name, Exists, NamedSample, Belongs, InWaveform, Owned, sample_exists, sample-inside, samples-apart, octet_owned}
use Rattle.theorems.proofs.Waveforms.{PartOfFile, waveform_part, waveforms_apart}
use Rattle.theorems.proofs.EntryPoints.{AnsweredBy, HandedOut, BuffersKept, refused-answers, handed_out_lem, buffers_kept}
use Rattle.theorems.specs.Refusing.{Refusing}
use Rattle.theorems.specs.Making.{MadeExactly}
use Rattle.theorems.proofs.Allowed.{made_exactly}
use Rattle.theorems.proofs.Exactly.{refused_exactly, refused_numbered}
use Rattle.theorems.proofs.Canonical.{ReadAgain, writer_answers, length-answers, wrote_out, written_file, written_again, same_written}
use Rattle.theorems.proofs.Told.{RecordingTold, ToldSame, recording_told, told_same}

-- ---- demand 1

-- "Any octets at all may be handed to any entry point. Each call ends with an answer or a numbered refusal from the table in document 01,
-- given exactly when its condition holds and none ahead of it in that paper's order does, with the place in the file; a refusal changes no
-- octet of the output buffer."
pub record DemandOne (s : List ℕ) : Type 0 where
  -- 15 comes first: exactly when the file is too long, and always at place 0. `refusals` says it too; here it stands without the tables.
  pub limit : (check_of s ≡ refused_as LongFile 0) ↔ (octets_limit < length s)
  pub limit_place : (place : ℕ) → check_of s ≡ refused_as LongFile place → place ≡ 0
  -- 1 to 15, and where: exactly as the tables of document 01 say (specs/). 15 comes first, then the first refused item in file order decides. 14 is retired.
  pub refusals : (fault : Fault) (place : ℕ) → (check_of s ≡ refused_as fault place) ↔ Refusing s (refusal fault place)
  pub numbered : (fault : Fault) (place : ℕ) → check_of s ≡ refused_as fault place → (0 < number_of fault) × (number_of fault ≤ number_of LongFile) × (fault ≡ ShortWaveform → ⊥)
  -- The file is accepted or refused.
  pub ends : ((fs : List Frame) × (verdict s ≡ accepted fs)) ⊎ ((r : Refusal) × (verdict s ≡ refused r))
  -- On a refused file every question, the writer and the length of its canonical file answer its refusal.
  pub refused_file : (r : Refusal) → verdict s ≡ refused r → AnsweredBy s r
  -- On an accepted file 20, 21, 22 and 23 are answered at place 0, each exactly when its condition holds and none ahead of it does.
  pub attributes : (fs : List Frame) → verdict s ≡ accepted fs → (i c : ℕ) → ByChannel (attributes_of s i c) (attributes_in c) fs i c
  pub channel : (fs : List Frame) → verdict s ≡ accepted fs → (i c : ℕ) → ByChannel (seen_of s i c) (view_of c) fs i c
  pub there : (fs : List Frame) → verdict s ≡ accepted fs → (i c : ℕ) → ByChannel (there_at s i c) (there_in c) fs i c
  pub sample : (fs : List Frame) → verdict s ≡ accepted fs → (i c n : ℕ) → BySample (sample_of s i c n) (sample_in c n) fs i c n
  pub place : (fs : List Frame) → verdict s ≡ accepted fs → (i c n : ℕ) → BySample (placed_of s i c n) (place_read c n) fs i c n
  pub samples : (fs : List Frame) → verdict s ≡ accepted fs → (i c n room : ℕ) → BySample (read_of s i c n room) (bits_read c n room) fs i c n
  pub values : (fs : List Frame) → verdict s ≡ accepted fs → (i c n room : ℕ) → BySample (values_of s i c n room) (values_read c n room) fs i c n
  pub written : (fs : List Frame) → verdict s ≡ accepted fs → (d : List ℕ) → Writes (written_of s d) (length d) fs
  pub measured : (fs : List Frame) → verdict s ≡ accepted fs → Writes (canonical_length_of s) octets_limit fs
  -- Where the length is answered, the writer answers it in a buffer of at least so many octets, and 23 in a shorter one.
  pub by_length : (d : List ℕ) → ByLength s d
  -- 24, 25 and 23 of a frame that is made, each at place 0 and exactly when its condition holds and none ahead of it does.
  pub made : (m : Making) (room : ℕ) → MadeExactly m room (made_in room m)
  -- Each function for C hands a refusal out exactly when its question answers it, and all its other outputs are then 0.
  pub handed : HandedOut s
  -- A refusal changes no octet of the buffer.
  pub kept : (d : List ℕ) → BuffersKept s d

pub demand_one : (s : List ℕ) → DemandOne s
demand_one s =
    record {
      limit = limit_exactly s;
      limit_place = limit_place_lem s;
      refusals = λ n p. (λ e. (refused_exactly s (refusal n p)).0 ((check-refused s n p).0 e), λ a. (check-refused s n p).1 ((refused_exactly s (refusal n p)).1 a));
      numbered = λ n p e. refused_numbered s (refusal n p) ((check-refused s n p).0 e);
      ends = accepted_or_refused s;
      refused_file = refused-answers s;
      attributes = attributes-answered s;
      channel = channel-answered s;
      there = there-answered s;
      sample = sample-answered s;
      place = place-answered s;
      samples = samples-answered s;
      values = values-answered s;
      written = λ fs e d. writer_answers s d fs e;
      measured = length-answers s;
      by_length = by_length_lem s;
      made = made_exactly;
      handed = handed_out_lem s;
      kept = buffers_kept s;
    }

-- ---- demand 2

-- "Every attribute, start pointer and sample is what MFER defines, as document 01 condenses it, and every octet of the canonical file is the
-- one document 01 lays down. Reading a canonical file gives the same recording again."
pub record DemandTwo (s : List ℕ) : Type 0 where
  -- The check counts the frames of the verdict.
  pub count : (n : ℕ) → (check_of s ≡ answered n) ↔ ((fs : List Frame) × (verdict s ≡ accepted fs) × (length fs ≡ n))
  -- The attributes, the start pointer among them, and the place and value of a sample that is there are those of its frame: what `attributes` of
  -- demand 1 and `inside` of demand 3 say of a name that the file has, again because this demand asks for it. Of a sample that is not there request 2 speaks.
  pub attributes : (fs : List Frame) → verdict s ≡ accepted fs → (i c : ℕ) → i < length fs → c < length (frame_number fs i).channels → attributes_of s i c ≡ answered (attributes_in c (frame_number fs i))
  pub sample : (fs : List Frame) → verdict s ≡ accepted fs → (a : NamedSample s) → InWaveform s fs a
  -- What the check and the questions answer is the recording: frame by frame the attributes of each channel, which samples are there, and their bits.
  pub told : (fs : List Frame) → verdict s ≡ accepted fs → RecordingTold s
  -- A file that mfer_canonical writes out is written out as by write_canonical.
  pub handed : (d left : List ℕ) (place m : ℕ) → CanonicalOut s d (outputs 0 place m) left → Wrote s d (answered m) left
  -- The canonical file stands at the start of the buffer, and octets past it keep what they held.
  pub written : (d left : List ℕ) (m : ℕ) → Wrote s d (answered m) left → (take m left ≡ canonical (recording_of s)) × (drop m left ≡ drop m d)
  -- Read, it has as many frames and holds the same recording; written out again, it is as the first file.
  pub again : (d left : List ℕ) (m : ℕ) → Wrote s d (answered m) left → ReadAgain s (take m left)

pub demand_two : (s : List ℕ) → DemandTwo s
demand_two s =
    record {
      count = check-accepted s;
      attributes = λ fs e i c h k. ((attributes-answered s fs e i c).there _).1 (h, k, refl);
      sample = sample-inside s;
      told = recording_told s;
      handed = λ d left place m w. wrote_out w;
      written = λ d left m w. written_file w;
      again = λ d left m w. written_again w;
    }

-- ---- demand 3

-- The samples of an accepted file, whose frames are fs.
pub record SamplesPlaced (s : List ℕ) (fs : List Frame) : Type 0 where
  -- Each frame's waveform is a part of the file, and frame follows on frame without overlap.
  pub waveform : (i : ℕ) → i < length fs → PartOfFile s (frame_number fs i)
  pub ordered : (i j : ℕ) → i < j → j < length fs → waveform_end (frame_number fs i) ≤ (frame_number fs j).place
  -- Each name of a sample that is there is answered.
  pub named : (x : Name) → Exists fs x → (a : NamedSample s) × (a.name ≡ x)
  -- The questions for a place and for a sample answer the same place for every name.
  pub same_place : (i c n : ℕ) → map_answer place_told (placed_of s i c n) ≡ map_answer (λ x. x.place) (sample_of s i c n)
  -- Its octets, from the place that the reader answers, lie inside its own frame's waveform.
  pub inside : (a : NamedSample s) → InWaveform s fs a
  -- Two samples with different names share no octet.
  pub apart : (a b : NamedSample s) → (a.name ≡ b.name → ⊥) → (p : ℕ) → Belongs s fs a p → Belongs s fs b p → ⊥
  -- Each octet of a waveform is one sample's, or surplus, and never both.
  pub owned : (i o : ℕ) → i < length fs → o < length (frame_number fs i).waveform → Owned s fs (frame_number fs i) o

-- "Whatever an accepted file holds, and whichever of its samples is named by frame, channel and number, the sample's octets, from the place
-- that the reader answers, lie inside its own frame's waveform. Two of the file's samples with different names, in one frame or in two,
-- never share an octet. Each waveform octet belongs to exactly one sample or to the surplus at the end, never to both. And whichever two
-- accepted files are both written out, whatever the output buffers held before, the canonical files left there are equal, in length and in
-- every octet, exactly when the recordings are equal, down to each attribute and each bit of each sample." By request 2 it speaks of samples that are there, and a
-- partial sample's octets join the surplus.
pub record DemandThree : Type 0 where
  pub places : (s : List ℕ) (fs : List Frame) → verdict s ≡ accepted fs → SamplesPlaced s fs
  -- Files s and t are written to buffers that held d and g; m and n octets are their canonical files.
  pub same : (s t d g left right : List ℕ) (m n : ℕ) → Wrote s d (answered m) left → Wrote t g (answered n) right
      → ((m ≡ n) × (take m left ≡ take n right)) ↔ (recording_of s ≡ recording_of t)
  -- Recordings are equal exactly when a reader is told the same of both files, each attribute, which samples are there, and each bit of each of them.
  pub told : (s t : List ℕ) (fs gs : List Frame) → verdict s ≡ accepted fs → verdict t ≡ accepted gs → (recording_of s ≡ recording_of t) ↔ ToldSame s t

pub demand_three : DemandThree
demand_three =
    record {
      places = λ s fs e.
          record {
            waveform = waveform_part s fs e;
            ordered = waveforms_apart s fs e;
            named = sample_exists s fs e;
            same_place = same_place_lem s;
            inside = sample-inside s fs e;
            apart = samples-apart s fs e;
            owned = octet_owned s fs e;
          };
      same = λ s t d g left right m n v w. same_written v w;
      told = told_same;
    }
