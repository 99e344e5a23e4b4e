-- A walk through the functions for C tells what the questions answer.
--     WalkTold, walk_told    on an accepted file: frame after frame, as many as there are, and then refusal 20
-- Assumes nothing.
use Rattle.std.specs.Prelude.{Result, Ok, Err, Option, Some, None}
use Rattle.walk.specs.declared.Waveform.{Waveform}
use mathlib.Core.Path.{◌≡◌, refl, sym, ap, ◌∙◌}
use mathlib.Core.Bool.{true}
use mathlib.Core.Logic.{◌↔◌}
use mathlib.Core.List.{List, [], ◌∷◌, ◌++◌}
use Prim.Native.Nat.{ℕ, zero, suc, ◌≤◌, ◌<◌}
use native.Mathlib.Omega.{arith}
use lib.ListN.{length, get_or, length-append}
use Rattle.heads.specs.declared.Refusal.{Refusal}
use Rattle.heads.specs.Faults.{number_of}
use Rattle.heads.specs.declared.Fault.TheVariants.{NoFrame}
use Rattle.heads.specs.Answer.{Answer, answered, refused_as, map_answer, then_answer}
use Rattle.layout.specs.Frame.{Frame}
use Rattle.view.specs.declared.View.{View}
use Rattle.view.specs.View.{there_seen}
use Rattle.verdict.specs.Verdict.{accepted, verdict, checked_as, check_of}
use Rattle.pass.specs.Scan.{zero_frame}
use Rattle.reader.specs.Answer.{attributes_seen, asked_sample, seen_of}
use Rattle.reader.proofs.Answers.{Located, located, described_is, unseen}
use Rattle.bulk.specs.Samples.{read_seen, read_of, values_seen, values_of}
use Rattle.bulk.proofs.Reading.{there-is, read_located, values_located}
use Rattle.walk.specs.Says.{step_says}
use Rattle.walk.specs.Joined.{frame_by}
use Rattle.walk.proofs.Joins.{reaches_grown}
use Rattle.walking.specs.Words.{stand_in}
use Rattle.walking.specs.Steps.{step_in, Goes}
use Rattle.walking.specs.Views.{view_in}
use Rattle.walking.proofs.Walked.{Walked, walked_open, walked_counts, walked_frame, walked_ended, walked_never}
use Rattle.walking.proofs.Told.{walked_is, walked_seen}
use Rattle.numbers.specs.Numbers.{flag_number, frame_numbers_of}
use Rattle.outputs.specs.Outputs.{Outputs, outputs, handed_out}
use Rattle.outputs.specs.Walks.{FrameOut, frame_out, no_frame_values, frame_values}
use Rattle.mfer.specs.Walks.{WalkNext}
use Rattle.theorems.proofs.Questions.{bits_read, values_read}
use Rattle.sweep.specs.Sweep.{holds_frame}
use Rattle.theorems.specs.Walks.{Walks, opened, stepped, frame_shown, Tells}
use Rattle.theorems.proofs.Sweeps.{same-frames, held-there, swept_whole}

-- What a walk over an accepted file with the frames fs tells.
pub record WalkTold (s : List ℕ) (fs : List Frame) : Type 0 where
  pub few : {n : ℕ} {w : List ℕ} → Walks s n w → n ≤ length fs
  pub told : {i : ℕ} {w : List ℕ} → Walks s (suc i) w → Tells s i w
  pub goes : {n : ℕ} {u v : List ℕ} {out : Outputs FrameOut} → Walks s n u → WalkNext s u out v → (out.refusal ≡ 0) ↔ (n < length fs)
  pub shows : {n : ℕ} {u v : List ℕ} {out : Outputs FrameOut} → Walks s n u → WalkNext s u out v → out.refusal ≡ 0 → out ≡ outputs 0 0 (frame_shown (get_or fs n zero_frame))
  pub ends : {u v : List ℕ} {out : Outputs FrameOut} → Walks s (length fs) u → WalkNext s u out v → out ≡ outputs (number_of NoFrame) 0 no_frame_values

-- ---- what is asked of a channel that is seen

-- What is asked of a channel is answered as the question by frame and channel is, where that is so of every channel that is found.
module _ (s : List ℕ) (i c n : ℕ) {A : Type 0} (g : View → Answer A) (h : Frame → A) (same : (v : View) → Located s i c v → g v ≡ asked_sample h i c n (verdict s)) where
  seen_asked : (a : Answer View) → a ≡ seen_of s i c → then_answer a g ≡ asked_sample h i c n (verdict s)
  seen_asked (answered v) e = same v (located s i c v {r = Ok v} e refl)
  seen_asked (refused_as fault place) e =
      let x : Refusal = record { fault = fault; place = place } in
      unseen h s i c n x {r = Err x} e refl

tells : (s : List ℕ) (i : ℕ) (w : List ℕ) → holds_frame w ≡ true → ((c : ℕ) → view_in w c ≡ seen_of s i c) → Tells s i w
unfolding read_of values_of
tells s i w there same =
    record {
      channel = same;
      attributes = λ c. ap (map_answer attributes_seen) (same c) ∙ described_is s i c;
      there = λ c. ap (map_answer there_seen) (same c) ∙ there-is s i c;
      samples = λ c first room. seen_asked s i c first (λ v. read_seen s v first room) (bits_read c first room) (λ v l. read_located l first room) (view_in w c) (same c);
      values = λ c first room. seen_asked s i c first (λ v. values_seen s v first room) (values_read c first room) (λ v l. values_located l first room) (view_in w c) (same c);
      whole = swept_whole s i w there same;
    }

-- ---- frame after frame

-- What the words of a walk tell of the last of n frames.
abbrev LastTold : List ℕ → ℕ → List ℕ → Type 0
LastTold s zero w = Unit {0}
LastTold s (suc i) w = Tells s i w

module _ (s : List ℕ) (fs : List Frame) (is : verdict s ≡ accepted fs) where
  -- So many frames are met, and the words tell of the last.
  record Met (n : ℕ) (w : List ℕ) : Type 0 where
    met : List Frame
    long : length met ≡ n
    walked : Walked s met w
    last : LastTold s n w

  counted : check_of s ≡ answered (length fs)
  unfolding check_of checked_as
  counted = ap checked_as is

  module _ {n : ℕ} {u : List ℕ} (m : Met n u) where
    grown : (rest : List Frame) × (fs ≡ m.met ++ rest)
    grown = reaches_grown m.walked.reaches is

    few : n ≤ length fs
    few = omega (arith, m.long, ap length grown.1 ∙ length-append m.met grown.0)

    -- A call of mfer_walk_next, by the step that it takes.
    by_step : {v : List ℕ} (k : Result (Option Waveform) Refusal) → Goes s u k v → (frame_out (step_says k)).refusal ≡ 0 → Met (suc n) v
    unfolding handed_out
    by_step {v} (Ok (Some x)) g e =
        record {
          met = m.met ++ (frame_by s x (stand_in v) ∷ []);
          long = length-append m.met (frame_by s x (stand_in v) ∷ []) ∙ omega (arith, m.long);
          walked = walked_frame m.walked g;
          last = tells s n v (held-there m.walked g) (λ c. walked_seen m.walked g c ∙ ap (λ (i : ℕ). seen_of s i c) m.long);
        }
    by_step (Ok None) g e = let z : ⊥ = omega arith in absurd z
    by_step (Err r) g e = absurd (walked_never m.walked g)

  meets : {n : ℕ} {w : List ℕ} → Walks s n w → Met n w
  meets (opened l a) = record { met = []; long = refl; walked = walked_open l (record { answers = sym counted; words = a }); last = tt }
  meets (stepped {u = u} {v = v} {out = out} p a e) =
      by_step (meets p) (step_in s u).step a.words (ap (λ (x : Outputs FrameOut). x.refusal) (sym a.answers) ∙ e)

  module _ {n : ℕ} {u v : List ℕ} (m : Met n u) where
    -- The walk ends behind the last frame.
    ended : Goes s u (Ok None) v → length fs ≡ n
    ended g =
        let e : accepted fs ≡ accepted m.met = sym is ∙ walked_ended m.walked g in
        ap length (same-frames e) ∙ m.long

    goes_on : n < length fs → (k : Result (Option Waveform) Refusal) → Goes s u k v → (frame_out (step_says k)).refusal ≡ 0
    unfolding handed_out
    goes_on h (Ok (Some x)) g = refl
    goes_on h (Ok None) g = let z : ⊥ = omega (arith, ended g) in absurd z
    goes_on h (Err r) g = absurd (walked_never m.walked g)

    -- The numbers that are handed out are the frame's.
    shows : (k : Result (Option Waveform) Refusal) → Goes s u k v → (frame_out (step_says k)).refusal ≡ 0 → frame_out (step_says k) ≡ outputs 0 0 (frame_shown (get_or fs n zero_frame))
    unfolding handed_out frame_numbers_of
    shows (Ok (Some x)) g e =
        let k = walked_counts m.walked g in
        let same : m.walked.all ≡ fs = same-frames (sym m.walked.is ∙ is) in
        let is-frame = sym (walked_is m.walked g) ∙ (λ j. get_or (same j) (m.long j) zero_frame) in
        (λ j. outputs 0 0 (frame_values x.start (k.channels j ∷ x.sequences ∷ flag_number x.little ∷ x.place ∷ k.long j ∷ k.octets j ∷ [])))
        ∙ ap (λ (f : Frame). outputs 0 0 (frame_shown f)) is-frame
    shows (Ok None) g e = let z : ⊥ = omega arith in absurd z
    shows (Err r) g e = absurd (walked_never m.walked g)

    stops : length fs ≡ n → (k : Result (Option Waveform) Refusal) → Goes s u k v → frame_out (step_says k) ≡ outputs (number_of NoFrame) 0 no_frame_values
    unfolding handed_out
    stops h (Ok (Some x)) g = let z : ⊥ = omega (arith, few (by_step m (Ok (Some x)) g refl)) in absurd z
    stops h (Ok None) g = refl
    stops h (Err r) g = absurd (walked_never m.walked g)

  -- Opening a walk and asking for the next frame again and again, a caller is handed the frames of the file in order, each as the questions tell it, and
  -- then refusal 20.
  pub walk_told : WalkTold s fs
  walk_told =
      record {
        few = λ w. few (meets w);
        told = λ w. (meets w).last;
        goes = λ {n} {u} {v} {out} w a. (
          λ e. few (meets (stepped w a e)),
          λ h. ap (λ (x : Outputs FrameOut). x.refusal) a.answers ∙ goes_on (meets w) h (step_in s u).step a.words,
        );
        shows = λ {n} {u} {v} {out} w a e. a.answers ∙ shows (meets w) (step_in s u).step a.words (ap (λ (x : Outputs FrameOut). x.refusal) (sym a.answers) ∙ e);
        ends = λ {u} {v} {out} w a. a.answers ∙ stops (meets w) refl (step_in s u).step a.words;
      }
