-- A file opened, and gone over frame by frame: the frames are the verdict's.
--     Walked          what holds of the words of a walk over an accepted file
--     walked_open     after it is opened: no frame is met
--     walked_frame    after a step to a frame: that frame is met too
--     walked_counts   the step says how many channels it has, and the octets of a sequence
--     walked_ended    at the end the frames met are all frames of the file
--     walked_never    no step is a refusal
-- Assumes nothing.
use Rattle.std.specs.Prelude.{Result, Ok, Err, Option, Some, None}
use mathlib.Core.Path.{◌≡◌, sym, subst, ◌∙◌}
use mathlib.Core.List.{List, [], ◌∷◌, ◌++◌}
use Prim.Native.Nat.{ℕ, ◌≤◌}
use native.Mathlib.Omega.{arith}
use lib.ListN.{length, drop, length-drop}
use Rattle.heads.specs.declared.Refusal.{Refusal}
use Rattle.layout.specs.Frame.{Frame}
use Rattle.words.specs.Words.{table_words, records_in}
use Rattle.words.proofs.Laws.{records-full}
use Rattle.verdict.specs.Verdict.{accepted, refused, verdict}
use Rattle.walk.specs.declared.Waveform.{Waveform}
use Rattle.walk.specs.Advance.{Stop, stop, advance_of}
use Rattle.walk.specs.Joined.{frame_by}
use Rattle.walk.proofs.Joins.{Reaches, Counts, StepReaches, reaches_cleared, advance_reaches}
use Rattle.reader.proofs.Ordered.{accepted-small}
use Rattle.reader.proofs.Checks.{check-accepted}
use Rattle.kept.specs.Words.{head_words}
use Rattle.walking.specs.Words.{walk_words, stand_in}
use Rattle.walking.specs.Steps.{begun_in, Opens, Goes}
use Rattle.walking.proofs.Steps.{can_hold, begins_when}

-- The file is accepted, and of all its frames those of `met` are behind the walk that the words w hold; they have a record for each channel that a frame
-- may have.
pub record Walked (s : List ℕ) (met : List Frame) (w : List ℕ) : Type 0 where
  pub all : List Frame
  pub is : verdict s ≡ accepted all
  pub long : length w ≡ walk_words
  pub reaches : Reaches s met (stand_in w)

-- ---- opened

pub walked_open : {s u v : List ℕ} {n : ℕ} → length u ≡ walk_words → Opens s u (Ok n) v → Walked s [] v
walked_open {s} {u} {v} {n} l o =
    let a = (check-accepted s n).0 (sym o.answers) in
    let room : head_words ≤ length u = omega arith in
    let behind : length (drop head_words u) ≡ table_words = length-drop head_words u ∙ omega arith in
    let stood : stand_in v ≡ begun_in u = o.words.stands ∙ begins_when s u room o.answers (begun_in u) (stand_in u) in
    record {
      all = a.0;
      is = a.1;
      long = o.words.long ∙ l;
      reaches = subst (Reaches s []) (sym stood) (reaches_cleared s (records_in (drop head_words u)) (accepted-small s a.0 a.1) (records-full (drop head_words u) behind));
    }

-- ---- gone on with

module _ {s : List ℕ} {met : List Frame} {u v : List ℕ} (p : Walked s met u) where
  -- What a step comes to.
  comes : {k : Result (Option Waveform) Refusal} → Goes s u k v → StepReaches s met (stand_in u).cursor.at k (stand_in v)
  comes {k} g =
      let room : head_words ≤ length u = omega (arith, p.long) in
      let e : stop k (stand_in v) ≡ advance_of s (stand_in u) = g.same ∙ can_hold u (advance_of s (stand_in u)) (stop (Ok None) (stand_in u)) room in
      subst (λ (z : Stop). StepReaches s met (stand_in u).cursor.at z.step z.at) (sym e) (advance_reaches p.reaches)

  pub walked_frame : {x : Waveform} → Goes s u (Ok (Some x)) v → Walked s (met ++ (frame_by s x (stand_in v) ∷ [])) v
  walked_frame g = record { all = p.all; is = p.is; long = g.long ∙ p.long; reaches = (comes g).2 }

  pub walked_counts : {x : Waveform} → Goes s u (Ok (Some x)) v → Counts x (frame_by s x (stand_in v))
  walked_counts g = (comes g).3

  pub walked_ended : Goes s u (Ok None) v → verdict s ≡ accepted met
  walked_ended g = sym (comes g)

  pub walked_never : {r : Refusal} → Goes s u (Err r) v → ⊥
  walked_never {r} g =
      let e : refused r ≡ accepted p.all = comes g ∙ p.is in
      let z : ◌≡◌ {A = ℕ} 0 1 = cc in
      omega arith
