-- The room that a canonical file needs.
--     TooLong, Fitting, one_of      it is too long, or it fits
--     output_fits, output_short     what is written then
--     Writes, writes                23 is answered exactly when it is too long, and else its length
-- Assumes nothing.
use Prim.Native.Nat.{ℕ, ◌≤◌, ◌<◌}
use mathlib.Core.Path.{◌≡◌, ap, ◌∙◌}
use mathlib.Core.Logic.{◌↔◌, ◌⊎◌, inl, inr}
use mathlib.Core.List.{List}
use mathlib.Core.Bool.{true, false}
use native.Mathlib.Omega.{arith}
use native.Mathlib.Decide.{dec_le}
use borrow.Author.Tests.{le-leb, lt-leb}
use lib.ListN.{length}
use Rattle.octets.proofs.Pick.{both_false}
use Rattle.heads.specs.declared.Fault.{Fault}
use Rattle.heads.specs.declared.Fault.TheVariants.{NoRoom}
use Rattle.heads.specs.Answer.{Answer, answered, refused_as, map_answer}
use Rattle.layout.specs.Frame.{Frame}
use Rattle.standing.specs.Standing.{octets_limit}
use Rattle.verdict.specs.Verdict.{accepted, verdict}
use Rattle.canonical.specs.Recording.{recording}
use Rattle.canonical.specs.Canonical.{canonical}
use Rattle.canonical.specs.Write.{fits, output_in, output_length}

-- The canonical file is longer than there is room, or than a file may be.
abbrev pub TooLong : List ℕ → ℕ → Type 0
TooLong x room = (room < length x) ⊎ (octets_limit < length x)

-- It is neither.
abbrev pub Fitting : List ℕ → ℕ → Type 0
Fitting x room = (length x ≤ room) × (length x ≤ octets_limit)

not-both : (x : List ℕ) (room : ℕ) → Fitting x room → TooLong x room → ⊥
not-both x room h (inl l) = omega arith
not-both x room h (inr l) = omega arith

one_of : (x : List ℕ) (room : ℕ) → Fitting x room ⊎ TooLong x room
one_of x room = by (dec_le (length x) room) (dec_le (length x) octets_limit)
  where
    by : Dec (length x ≤ room) → Dec (length x ≤ octets_limit) → Fitting x room ⊎ TooLong x room
    by (yes h) (yes k) = inl (h, k)
    by (yes h) (no k) = inr (inr (omega arith))
    by (no h) k = inr (inl (omega arith))

fits_yes : (x : List ℕ) (room : ℕ) → Fitting x room → fits x room ≡ true
unfolding fits
fits_yes x room h = simp (le-leb (length x) room h.0, le-leb (length x) octets_limit h.1)

fits_no : (x : List ℕ) (room : ℕ) → TooLong x room → fits x room ≡ false
unfolding fits
fits_no x room (inl h) = simp (lt-leb (length x) room h)
fits_no x room (inr h) = simp (lt-leb (length x) octets_limit h, both_false)

-- What is answered of an accepted file whose frames are fs.
pub record Writes (a : Answer ℕ) (room : ℕ) (fs : List Frame) : Type 0 where
  pub short : (a ≡ refused_as NoRoom 0) ↔ TooLong (canonical (recording fs)) room
  pub late : (fault : Fault) (place : ℕ) → a ≡ refused_as fault place → (fault ≡ NoRoom) × (place ≡ 0)
  pub octets : (m : ℕ) → (a ≡ answered m) ↔ ((length (canonical (recording fs)) ≡ m) × (m ≤ room) × (m ≤ octets_limit))

module _ (s : List ℕ) (room : ℕ) (fs : List Frame) (e : verdict s ≡ accepted fs) where
  -- Its canonical file.
  abbrev file : List ℕ
  file = canonical (recording fs)

  pub output_fits : Fitting file room → output_in room (verdict s) ≡ answered file
  unfolding output_in
  output_fits h = ap (output_in room) e ∙ rw (fits_yes file room h)

  pub output_short : TooLong file room → output_in room (verdict s) ≡ refused_as NoRoom 0
  unfolding output_in
  output_short h = ap (output_in room) e ∙ rw (fits_no file room h)

  pub writes : Writes (output_length room s) room fs
  writes = by (one_of file room)
    where
      by : Fitting file room ⊎ TooLong file room → Writes (output_length room s) room fs
      by (inl t) =
          let w = ap (map_answer length) (output_fits t) in
          record {
            short = (λ h. let z : ◌≡◌ {A = ℕ} 0 1 = cc in let n : ⊥ = omega arith in absurd n, λ h. absurd (not-both file room t h));
            late = λ fault place h. let z : ◌≡◌ {A = ℕ} 0 1 = cc in let n : ⊥ = omega arith in absurd n;
            octets = λ m. (λ h. let k : length file ≡ m = cc in (k, omega arith, omega arith), λ h. w ∙ ap answered h.0);
          }
      by (inr t) =
          let w = ap (map_answer length) (output_short t) in
          record {
            short = (λ h. t, λ h. w);
            late = λ fault place h. (cc, cc);
            octets = λ m. (λ h. let z : ◌≡◌ {A = ℕ} 0 1 = cc in let n : ⊥ = omega arith in absurd n, λ h. absurd (not-both file room (omega arith) t));
          }
