-- The requests of document 02, over the definitions that the contracts cite. What they add to the demands stands in Demands.
--     request_one     making files from the bench recorder
--     request_two     cut_off recordings are worth having
--     request_three   reading from the serial link
-- Assumes nothing.
use Rattle.heads.proofs.Faults.{number_within}
use Rattle.std.specs.Prelude.{Ok}
use Rattle.heads.specs.declared.Fault.{Fault}
use Prim.Native.Nat.{ℕ, ◌-◌, ◌≤◌, ◌<◌}
use mathlib.Core.Path.{◌≡◌, refl, sym, ap, ◌∙◌}
use mathlib.Core.Logic.{◌↔◌}
use mathlib.Core.Bool.{Bool}
use mathlib.Core.List.{List, [], ◌++◌}
use native.Mathlib.Omega.{arith}
use lib.ListN.{length, get_or, take, drop}
use lib.Seq.{take-append_seam, drop-append_seam}
use Rattle.values.specs.Sample.{null_said, no_data_said}
use Rattle.heads.specs.declared.Fault.TheVariants.{ShortWaveform}
use Rattle.heads.specs.Answer.{Answer, answered, refused_as, map_answer, left_by}
use Rattle.items.specs.Walk.{refusal}
use Rattle.layout.specs.Frame.{Frame, offset_of}
use Rattle.laid.specs.Laid.{Named, sample_bits}
use Rattle.there.specs.There.{end_of, there_in, octets_there, There}
use Rattle.there.proofs.Places.{there_first}
use Rattle.standing.specs.declared.Standing.{Standing}
use Rattle.standing.specs.Standing.{octets_limit, frames_limit, with_continued}
use Rattle.framing.specs.Framing.{sequences_of, pointer_after, framed_as}
use Rattle.verdict.specs.Verdict.{accepted, refused, verdict, unlimited, check_of}
use Rattle.verdict.proofs.Steps.{taken_found}
use Rattle.reader.specs.Answer.{FoundSample, found_sample, attributes_of, sample_of}
use Rattle.reader.proofs.Ordered.{Lies, accepted-small, accepted-lies}
use Rattle.reader.proofs.There.{counts_inside}
use Rattle.reader.proofs.Checks.{check-refused}
use Rattle.canonical.specs.Recording.{recorded_frame}
use Rattle.canonical.specs.Canonical.{waveform_of, frame_octets, canonical}
use Rattle.canonical.specs.Write.{canonical_of, Wrote}
use Rattle.outputs.specs.Outputs.{Outputs, outputs, handed_out, count_out}
use Rattle.maker.specs.Make.{Making, record_made, made_in, Made}
use Rattle.mfer.specs.Answers.{MadeOut}
use Rattle.link.specs.Link.{Phase, decided, Link, Fresh, fed_with, given_by, end_in, end_answer}
use Rattle.link.specs.Order.{samples_given, frames_given, settings_told}
use Rattle.link.specs.Feed.{fed, feed_of, joined, fed_pieces, given_pieces}
use Rattle.link.proofs.Results.{joined_pieces, fed-check, fed-refused, fed-decided, given-decided, at_limit, past_limit, fed-past, given-all}
use Rattle.link.proofs.Told.{left_in, ToldLast, told_last, told_right}
use Rattle.link.proofs.Feeds.{Feeds, feed_feeds}
use Rattle.link.proofs.Right.{All, Right, given_right}
use Rattle.link.proofs.Settles.{decided_exactly}
use Rattle.canonical.proofs.Accepted.{samples-sized, sample-at}
use Rattle.canonical.proofs.Octets.{waveform-octets}
use Rattle.theorems.specs.Told.{samples_recorded}
use Rattle.theorems.specs.Making.{MadeExactly, MadeFrame, AllMade, file_of, ReadsBack, MadeAgain}
use Rattle.theorems.proofs.Allowed.{made_exactly}
use Rattle.theorems.proofs.Exactly.{refused_numbered}
use Rattle.theorems.proofs.Questions.{frame_number}
use Rattle.theorems.proofs.Places.{Name, Declared, Whole, sample-lacking, no_data_only}
use Rattle.theorems.proofs.MadeFiles.{made_known, made_read}
use Rattle.theorems.proofs.MadeAgain.{made_again}
use Rattle.theorems.proofs.Canonical.{recording-is, out_is}

-- ---- calls of the maker

-- A frame that a call leaves in its buffer.
pub record LeftMade (m : Making) (d left : List ℕ) (n : ℕ) : Type 0 where
  pub frame : MadeFrame m (take n left)
  pub is : take n left ≡ frame_octets (record_made m)
  pub rest : drop n left ≡ drop n d

module _ {m : Making} {d left : List ℕ} {n : ℕ} (w : Made m d (answered n) left) where
  by_answer : (a : Answer (List ℕ)) → made_in (length d) m ≡ a → answered n ≡ map_answer length a → left ≡ left_by a d → LeftMade m d left n
  unfolding left_by handed_out
  by_answer (answered x) e q l =
      let k : n ≡ length x = ap (λ (a : Answer ℕ). (count_out a).values) q in
      let f : take n left ≡ x = rw (k, l) (take-append_seam x (drop (length x) d)) in
      let frame : MadeFrame m (take n left) = record { samples = w.octets; room = length d; made = e ∙ ap answered (sym f) } in
      record { frame = frame; is = (made_known frame).is; rest = rw (k, l) (drop-append_seam x (drop (length x) d)) }
  by_answer (refused_as fault place) e q l = let z : ◌≡◌ {A = ℕ} 0 1 = cc in let y : ⊥ = omega arith in absurd y

  left-made : LeftMade m d left n
  left-made = by_answer (made_in (length d) m) refl w.answers w.leaves

-- A call of mfer_make_frame whose result is 0 is as one of make_frame that answers the length handed out.
made_out : {m : Making} {d left : List ℕ} {place n : ℕ} → MadeOut m d (outputs 0 place n) left → Made m d (answered n) left
unfolding handed_out
made_out {m} {d} {left} {place} {n} w = record { octets = w.octets; answers = by (made_in (length d) m) refl w.answers; leaves = w.leaves }
  where
    by : (a : Answer (List ℕ)) → made_in (length d) m ≡ a → outputs 0 place n ≡ count_out (map_answer length a) → answered n ≡ map_answer length a
    by (answered x) e q = ap (λ (o : Outputs ℕ). answered o.values) q
    by (refused_as fault at) e q = let z : ⊥ = omega (arith, (number_within fault).0, ap (λ (o : Outputs ℕ). o.refusal) q) in absurd z

again : {s d left : List ℕ} {n : ℕ} → Wrote s d (answered n) left → MadeAgain s
unfolding canonical_of
again {s} w =
    let o = out_is w in
    made_again s w.octets o.frames o.is (omega (arith, ap (λ (x : List _). length (canonical x)) (recording-is s o.frames o.is), o.long, o.small))

-- ---- request 1

-- "Our own recorder needs to make a file: the settings of one frame (start pointer, sequences, 1 to 256 channels with their attributes) and its samples, big-endian and
-- in file order, go in; the frame comes out as the canonical file has it. A file is 01 01 00 and 1 to 4,096 frames, within 15's limit. Reading what was written gives the
-- settings and samples again. Sequences may be 0, with no samples."
pub record RequestOne : Type 0 where
  -- "24 a setting outside 01's table or bits wider than the sample, 25 sample octets not exactly sequences times G, then 23 where the frame passes the buffer, or with
  -- 01 01 00 before it 15's limit." That the buffer is unchanged is said in demand 1.
  pub refusals : (m : Making) (room : ℕ) → MadeExactly m room (made_in room m)
  -- "The frame comes out as the canonical file has it", at the front of the buffer, whose other octets keep what they held.
  pub frame : (m : Making) (d left : List ℕ) (n : ℕ) → Made m d (answered n) left → LeftMade m d left n
  pub handed : (m : Making) (d left : List ℕ) (place n : ℕ) → MadeOut m d (outputs 0 place n) left → Made m d (answered n) left
  -- "Reading what was written gives the settings and samples again": each setting and each bit of each sample, frame by frame; and the file is its own canonical file.
  pub reads : (ms : List Making) (os : List (List ℕ)) → AllMade ms os → 0 < length ms → length ms ≤ frames_limit → length (file_of os) ≤ octets_limit → ReadsBack ms (file_of os)
  -- The maker and the writer do not drift apart: of every accepted file that is written out, the frames that are made of its recording are its canonical file, where
  -- all their declared samples are there (request 2: "Request 1 still wants exact counts").
  pub again : (s d left : List ℕ) (n : ℕ) → Wrote s d (answered n) left → MadeAgain s

pub request_one : RequestOne
request_one =
    record {
      refusals = made_exactly;
      frame = λ m d left n w. left-made w;
      handed = λ m d left place n w. made_out w;
      reads = made_read;
      again = λ s d left n w. again w;
    }

-- ---- request 2

-- A frame of an accepted file.
module _ (f : Frame) where
  -- A sample of the frame that is there.
  abbrev pub ThereIn : ℕ → ℕ → Type 0
  ThereIn c n = There f.channels f.sequences (length f.waveform) c n

  -- Which of its samples are there, and what of it is written.
  pub record CutOff : Type 0 where
    -- A declared sample is there exactly when its number is below the channel's count.
    pub counted : (c n : ℕ) → Named f.channels f.sequences c n → (end_of f.channels c n ≤ length f.waveform) ↔ (n < there_in c f)
    -- The samples there are the first ones in file order: with one that is there, each that does not begin behind it is there.
    pub first : (c n d m : ℕ) → Named f.channels f.sequences c n → ThereIn d m → offset_of f.channels c n ≤ offset_of f.channels d m → ThereIn c n
    -- "The recording says which samples are there": for each channel so many, with their bits; the declared sequences stay.
    pub sequences : (recorded_frame f).sequences ≡ f.sequences
    pub recorded : (c : ℕ) → c < length f.channels → length (samples_recorded c (recorded_frame f)) ≡ there_in c f
    pub bits : (c n : ℕ) → c < length f.channels → n < there_in c f → get_or (samples_recorded c (recorded_frame f)) n 0 ≡ sample_bits f c n
    -- "The canonical waveform holds only those": it has as many octets as they have. That they are these samples' own is demand 2's: it reads back as the recording.
    pub waveform : length (waveform_of (recorded_frame f)) ≡ octets_there f

cut_off : (s : List ℕ) (f : Frame) → Lies s f → CutOff f
unfolding recorded_frame there_in
cut_off s f l =
    record {
      counted = λ c n h. counts_inside s f l h;
      first = λ c n d m h k o. there_first h k (l.wide d k.named.channel) o;
      sequences = refl;
      recorded = λ c h. samples-sized f c h;
      bits = λ c n h k. sample-at f c n h k;
      waveform = waveform-octets f l.wide;
    }

-- "Battery recorders stop in the middle of a frame and we refuse the whole file with 14. Document 000, section 5.2.3(7), advises treating what is lacking as no data. Do
-- that. A sample whose octets are not all inside its own frame's waveform is not there, whatever items follow: it answers a seventh kind, no data, at place 0, distinct
-- from null; declared sequences stay. The recording says which samples are there, and the canonical waveform holds only those; demand 3 speaks of samples that are
-- there, and a partial sample's octets join the surplus. Case P9 becomes one frame with 5 and then no data. Request 1 still wants exact counts. Refusals: 14 is no longer
-- given." Demand 3 stands in Demands, P9 in Bench, and what request 1 wants in `request_one`.
pub record RequestTwo : Type 0 where
  -- "14 is no longer given", by anything that reads a file.
  pub retired : (s : List ℕ) (place : ℕ) → check_of s ≡ refused_as ShortWaveform place → ⊥
  -- "A sample whose octets are not all inside its own frame's waveform is not there, whatever items follow: it answers a seventh kind, no data, at place 0".
  pub lacking : (s : List ℕ) (fs : List Frame) → verdict s ≡ accepted fs → (x : Name)
      → (sample_of s x.frame x.channel x.number ≡ answered (found_sample 0 0 no_data_said)) ↔ (Declared fs x × (Whole fs x → ⊥))
  -- No other answer is of that kind, and it is "distinct from null".
  pub only : (s : List ℕ) (fs : List Frame) → verdict s ≡ accepted fs → (x : Name) (y : FoundSample)
      → sample_of s x.frame x.channel x.number ≡ answered y → y.value.kind ≡ no_data_said.kind → y ≡ found_sample 0 0 no_data_said
  pub distinct : no_data_said.kind ≡ null_said.kind → ⊥
  -- "Declared sequences stay": a waveform that is taken has the sequences that stand, and they continue the pointer.
  pub declared : (frames : ℕ) (st : Standing) (agree : Bool) (octets long n : ℕ) (y : Standing) → framed_as frames st agree octets long ≡ Ok (n, y)
      → (n ≡ sequences_of st.sequences long octets) × (y ≡ with_continued (pointer_after st n) st)
  pub frames : (s : List ℕ) (fs : List Frame) → verdict s ≡ accepted fs → (i : ℕ) → i < length fs → CutOff (frame_number fs i)

pub request_two : RequestTwo
request_two =
    record {
      retired = λ s place e. (refused_numbered s (refusal ShortWaveform place) ((check-refused s ShortWaveform place).0 e)).2 refl;
      lacking = λ s fs e x. sample-lacking s fs e x;
      only = λ s fs e x y q k. no_data_only s fs e x y q k;
      distinct = λ k. omega arith;
      declared = λ frames st agree octets long n y q. let t = taken_found frames st agree octets long refl q in (t.sequences, t.after);
      frames = λ s fs e i h. cut_off s (frame_number fs i) (accepted-lies s fs e i h);
    }

-- ---- request 3

-- "Ward carts send a file over hours, some octets at a time. A form that is fed whatever has arrived, and holds at most 64 KiB of its own, ends with the same frame count,
-- or refusal and place, as the whole-file reader on everything joined together, wherever the cuts fall, if the whole is within 15's limit. At each waveform it gives out
-- the settings and then, in file order and each once, the samples there as far as their octets have come, with the place and value that 01 gives for the file up to that
-- waveform's end; these are provisional until its last octet has come. One that earns 11 to 13 or ends past 15's limit gives neither. An item that is cut off outranks a
-- fault within it, as in 01, so a verdict inside a definite group waits for the group. Feeding nothing changes nothing; after the end or a refusal, further feeding
-- repeats that answer. Refusals: 3 for the file's end and 10 come when the caller says the end; 15 comes at the octet that passes the limit, if nothing was refused
-- before; any other at the octet that settles it in 01's order."
pub record RequestThree : Type 0 where
  -- A link that is fresh stands before a file's first octet. "Wherever the cuts fall": pieces fed one after the other leave and give out what they do joined together. So what was given out is never taken back or changed.
  pub cuts : (l : Link) (ps : List (List ℕ)) → (fed_pieces l ps ≡ fed_with l (joined ps)) × (given_pieces l ps ≡ given_by l (joined ps))
  -- "Ends with the same frame count, or refusal and place, as the whole-file reader on everything joined together, if the whole is within 15's limit."
  pub ends : (l : Link) → Fresh l → (ps : List (List ℕ)) → length (joined ps) ≤ octets_limit → end_answer (fed_pieces l ps) ≡ check_of (joined ps)
  -- One call takes a front of what has arrived, leaves and gives out what those octets do, and no more samples than there is room for.
  pub call : (room : ℕ) (l : Link) (s : List ℕ) → Feeds room l s (feed_of room l s)
  -- "At each waveform it gives out the settings", "for the file up to that waveform's end": while a frame is told, each file that goes on to the end of its waveform is
  -- accepted so far, with that frame as its last, and answers these attributes. So a waveform that earns 11 to 13 is not told.
  pub told : (l : Link) → Fresh l → (s u : List ℕ) → length (s ++ u) ≤ octets_limit → 0 < (fed_with l s).frame.channels → length u ≡ left_in (fed_with l s).phase → ToldLast (s ++ u) (fed_with l s)
  pub settings : (w : List ℕ) (l : Link) → ToldLast w l → 0 < l.frame.channels → (channel : ℕ) → attributes_of w (l.stand.frames - 1) channel ≡ settings_told l channel
  -- "In file order and each once, the samples there", "with the place and value that 01 gives": of an accepted file those of its frames, each as the question for it
  -- answers. With `cuts` it says the same of each file up to the end of a waveform, as far as the octets have come.
  pub samples : (l : Link) → Fresh l → (s : List ℕ) (fs : List Frame) → verdict s ≡ accepted fs → given_by l s ≡ frames_given fs
  pub right : (s : List ℕ) (fs : List Frame) → verdict s ≡ accepted fs → (i : ℕ) → i < length fs → All (Right s i) (samples_given (frame_number fs i))
  -- "Feeding nothing changes nothing; after the end or a refusal, further feeding repeats that answer", and gives nothing out.
  pub nothing : (room : ℕ) (l : Link) → feed_of room l [] ≡ fed 0 l []
  pub repeats : (l : Link) (a : Answer ℕ) → l.phase ≡ decided a → (s : List ℕ) → (fed_with l s ≡ l) × (given_by l s ≡ []) × (end_answer l ≡ a)
  -- "Any other at the octet that settles it": a refusal comes while feeding exactly when it is settled, so that every longer file has it, of any length and with 15 left
  -- out; so it comes with the last octet of the shortest front that settles it.
  pub settled : (l : Link) → Fresh l → (s : List ℕ) (fault : Fault) (place : ℕ) → length s ≤ octets_limit → ((fed_with l s).phase ≡ decided (refused_as fault place)) ↔ ((t : List ℕ) → unlimited (s ++ t) ≡ refused (refusal fault place))
  -- While octets come within the limit, no answer but a refusal is given.
  pub waits : (l : Link) → Fresh l → (s : List ℕ) (n : ℕ) → length s ≤ octets_limit → (fed_with l s).phase ≡ decided (answered n) → ⊥
  -- "15 comes at the octet that passes the limit, if nothing was refused before"; from there on nothing is given out.
  pub limit : (l : Link) → Fresh l → (s : List ℕ) → octets_limit < length s → (fed_with l s ≡ past_limit (at_limit l s)) × (given_by l s ≡ given_by l (take octets_limit s))

pub request_three : RequestThree
unfolding feed_of end_in
request_three =
    record {
      cuts = joined_pieces;
      ends = λ l f ps h. ap end_answer (joined_pieces l ps).0 ∙ fed-check f (joined ps) h;
      call = feed_feeds;
      told = λ l f. told_last f;
      settings = λ w l p some channel. told_right w l p some channel;
      samples = λ l f s fs e. given-all f s fs (accepted-small s fs e) e;
      right = given_right;
      nothing = λ room l. refl;
      repeats = λ l a e s. (fed-decided l a e s, given-decided l a e s, ap (λ (p : Phase). end_in p l) e);
      settled = λ l f. decided_exactly f;
      waits = λ l f. fed-refused f;
      limit = λ l f. fed-past f;
    }
