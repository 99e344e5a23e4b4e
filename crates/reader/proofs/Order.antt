-- What a question answers, by the order of the refusals.
--     asked_found, asked-refused, sample_found    the answer where what is asked for is there, and on a refused file
--     asked-both, sample-both    what holds of two answers: where both are one refusal, and where what is asked for is there
--     sample-refused     where one answer is a refusal, so is the other
-- Assumes nothing.
use Rattle.heads.specs.declared.Fault.{Fault}
use mathlib.Core.Path.{◌≡◌, refl, ap, ◌∙◌}
use mathlib.Core.List.{List}
use mathlib.Core.Bool.{Bool, true, false}
use Prim.Native.Nat.{ℕ, ◌<◌}
use native.Mathlib.Omega.{arith}
use borrow.Author.Tests.{ltb-true, lt-ltb}
use lib.Dec.{ltb}
use lib.ListN.{length, get_or}
use Rattle.octets.specs.Pick.{pick}
use Rattle.heads.specs.declared.Refusal.{Refusal}
use Rattle.heads.specs.declared.Fault.TheVariants.{NoFrame, NoChannel, NoSample}
use Rattle.heads.specs.Answer.{Answer, answered, refused_as, refused_by}
use Rattle.layout.specs.Frame.{Frame, samples_of}
use Rattle.verdict.specs.Verdict.{Verdict, accepted, refused}
use Rattle.pass.specs.Scan.{zero_frame}
use Rattle.reader.specs.Answer.{asked, asked_sample}

module _ {A : Type 0} (frame channel : ℕ) {v : Verdict} where
  pub asked-refused : (g : Frame → Answer A) {r : Refusal} → v ≡ refused r → asked g frame channel v ≡ refused_by r
  asked-refused g e = ap (asked g frame channel) e

  module _ {fs : List Frame} (e : v ≡ accepted fs) (i : frame < length fs) (c : channel < length (get_or fs frame zero_frame).channels) where
    pub asked_found : (g : Frame → Answer A) → asked g frame channel v ≡ g (get_or fs frame zero_frame)
    asked_found g = ap (asked g frame channel) e ∙ simp (lt-ltb frame (length fs) i, lt-ltb channel _ c)

    pub sample_found : (g : Frame → A) {n : ℕ} → n < samples_of channel (get_or fs frame zero_frame) → asked_sample g frame channel n v ≡ answered (g (get_or fs frame zero_frame))
    sample_found g {n} h =
        asked_found (λ (f : Frame). pick (ltb n (samples_of channel f)) (answered (g f)) (refused_as NoSample 0)) ∙ simp (lt-ltb _ (samples_of channel (get_or fs frame zero_frame)) h)

module _ {A B : Type 0} (P : Answer A → Answer B → Type 0) (o : (fault : Fault) (place : ℕ) → P (refused_as fault place) (refused_as fault place)) (frame channel : ℕ) where
  pub asked-both : (yesA : Frame → Answer A) (yesB : Frame → Answer B) (v : Verdict)
      → ((fs : List Frame) → v ≡ accepted fs → frame < length fs → channel < length (get_or fs frame zero_frame).channels → P (yesA (get_or fs frame zero_frame)) (yesB (get_or fs frame zero_frame)))
      → P (asked yesA frame channel v) (asked yesB frame channel v)
  asked-both yesA yesB (refused r) h = o r.fault r.place
  asked-both yesA yesB (accepted fs) h = by (ltb frame (length fs)) (ltb channel (length (get_or fs frame zero_frame).channels)) refl refl
    where
      by : (a b : Bool) → ltb frame (length fs) ≡ a → ltb channel (length (get_or fs frame zero_frame).channels) ≡ b
          → P (pick a (pick b (yesA (get_or fs frame zero_frame)) (refused_as NoChannel 0)) (refused_as NoFrame 0))
          (pick a (pick b (yesB (get_or fs frame zero_frame)) (refused_as NoChannel 0)) (refused_as NoFrame 0))
      by true true a b = h fs refl (ltb-true frame (length fs) a) (ltb-true channel _ b)
      by true false a b = o NoChannel 0
      by false b a c = o NoFrame 0

  pub sample-both : (yesA : Frame → A) (yesB : Frame → B) (n : ℕ) (v : Verdict)
      → ((fs : List Frame) → v ≡ accepted fs → frame < length fs → channel < length (get_or fs frame zero_frame).channels → n < samples_of channel (get_or fs frame zero_frame) → P (answered (yesA (get_or fs frame zero_frame))) (answered (yesB (get_or fs frame zero_frame))))
      → P (asked_sample yesA frame channel n v) (asked_sample yesB frame channel n v)
  sample-both yesA yesB n v h =
      asked-both (λ (f : Frame). pick (ltb n (samples_of channel f)) (answered (yesA f)) (refused_as NoSample 0))
      (λ (f : Frame). pick (ltb n (samples_of channel f)) (answered (yesB f)) (refused_as NoSample 0)) v
      (λ fs e i c. by fs e i c (ltb n (samples_of channel (get_or fs frame zero_frame))) refl)
    where
      by : (fs : List Frame) → v ≡ accepted fs → frame < length fs → channel < length (get_or fs frame zero_frame).channels → (a : Bool) → ltb n (samples_of channel (get_or fs frame zero_frame)) ≡ a
          → P (pick a (answered (yesA (get_or fs frame zero_frame))) (refused_as NoSample 0)) (pick a (answered (yesB (get_or fs frame zero_frame))) (refused_as NoSample 0))
      by fs e i c true a = h fs e i c (ltb-true n _ a)
      by fs e i c false a = o NoSample 0

pub sample-refused : {A B : Type 0} (yesA : Frame → A) (yesB : Frame → B) (frame channel n : ℕ) (v : Verdict) {fault : Fault} {place : ℕ} → refused_as fault place ≡ asked_sample yesA frame channel n v → refused_as fault place ≡ asked_sample yesB frame channel n v
sample-refused {A} {B} yesA yesB frame channel n v {fault} {place} e =
    sample-both (λ (a : Answer A) (b : Answer B). refused_as fault place ≡ a → refused_as fault place ≡ b) (λ m p q. cc) frame channel yesA yesB n v
    (λ fs a i c h q. let z : ◌≡◌ {A = ℕ} 0 1 = cc in let y : ⊥ = omega arith in absurd y) e
