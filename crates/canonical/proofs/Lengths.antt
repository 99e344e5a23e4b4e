-- The canonical file's length, and what the writer answers by it.
--     sized-refused, -none, -long, -whole     the length, by what the pass over the file says
--     Measured, measured            where a length is answered it is the canonical file's
--     output_refused, -less, -enough          what is written with more or less room than that
--     ByLength, by_length_lem           so the writer answers by the length
--     written_refused, -none, -short, -whole  its answer, and the buffer afterwards
-- Assumes nothing.
use mathlib.Core.Path.{◌≡◌, refl, sym, ap, ◌∙◌}
use mathlib.Core.Logic.{inl, inr}
use mathlib.Core.List.{List, [], ◌∷◌}
use Prim.Native.Nat.{ℕ, ◌+◌, ◌≤◌, ◌<◌}
use native.Mathlib.Nat.{zero-add}
use native.Mathlib.Omega.{arith}
use lib.ListN.{length}
use Rattle.std.specs.Prelude.{Ok, Err}
use Rattle.octets.specs.Number.{Octets}
use Rattle.heads.specs.declared.Fault.{Fault}
use Rattle.heads.specs.declared.Refusal.{Refusal}
use Rattle.heads.specs.declared.Fault.TheVariants.{NoRoom}
use Rattle.heads.specs.Answer.{Answer, answered, refused_as, refused_by, map_answer, left_by}
use Rattle.stores.specs.Storing.{Put}
use Rattle.stores.proofs.Stores.{sets_front}
use Rattle.standing.specs.Standing.{octets_limit}
use Rattle.verdict.specs.Verdict.{Verdict, accepted, refused, verdict}
use Rattle.pass.specs.Scan.{sizes, scanned_in, scan_of}
use Rattle.pass.specs.declared.Asked.{Asked}
use Rattle.pass.specs.declared.Scan.{Scan}
use Rattle.canonical.specs.Recording.{recording}
use Rattle.canonical.specs.Canonical.{canonical}
use Rattle.canonical.specs.Write.{frames_in, canonical_of, output_in, output_length, written_of, canonical_length_of, left_of, Ready, Wrote}
use Rattle.canonical.proofs.Accepted.{accepted-wide}
use Rattle.canonical.proofs.Octets.{canonical-long, canonical-none}
use Rattle.canonical.proofs.Room.{TooLong, writes, output_fits, output_short}

-- ---- the length, by the pass over the file

module _ (s : List ℕ) (q : Asked) (r : Scan) (e : r ≡ scan_of q s) where
  -- What the check says of the file.
  checked_as : (v : Verdict) → verdict s ≡ v → r.checked ≡ (scanned_in q v).checked
  unfolding scan_of
  checked_as v k = ap (λ (y : Scan). y.checked) (e ∙ ap (scanned_in q) k)

  -- The file's own refusal.
  pub sized-refused : (x : Refusal) → r.checked ≡ Err x → refused_by x ≡ canonical_length_of s
  unfolding canonical_length_of output_in scanned_in
  sized-refused x h = by (verdict s) refl
    where
      by : (v : Verdict) → verdict s ≡ v → refused_by x ≡ output_length octets_limit s
      by (accepted fs) k =
          let z : Ok (length fs) ≡ Err x = sym (checked_as (accepted fs) k) ∙ h in
          let y : ◌≡◌ {A = ℕ} 0 1 = cc in
          let o : ⊥ = omega arith in
          absurd o
      by (refused y) k =
          let z : Err y ≡ Err x = sym (checked_as (refused y) k) ∙ h in
          let f : y ≡ x = cc in
          rw (k, f)

  module _ (n : ℕ) (h : r.checked ≡ Ok n) where
    -- An accepted file, with so many frames.
    taken_is : (verdict s ≡ accepted (frames_in (verdict s))) × (n ≡ length (frames_in (verdict s))) × (r.size ≡ sizes (frames_in (verdict s)))
    unfolding scan_of scanned_in frames_in
    taken_is = by (verdict s) refl
      where
        by : (v : Verdict) → verdict s ≡ v → (verdict s ≡ accepted (frames_in (verdict s))) × (n ≡ length (frames_in (verdict s))) × (r.size ≡ sizes (frames_in (verdict s)))
        by (accepted fs) k =
            let z : Ok (length fs) ≡ Ok n = sym (checked_as (accepted fs) k) ∙ h in
            let f : length fs ≡ n = cc in
            (rw k, rw k (sym f), rw k (ap (λ (y : Scan). y.size) (e ∙ ap (scanned_in q) k)))
        by (refused y) k =
            let z : Err y ≡ Ok n = sym (checked_as (refused y) k) ∙ h in
            let y : ◌≡◌ {A = ℕ} 0 1 = cc in
            let o : ⊥ = omega arith in
            absurd o

    -- No frames: the empty file.
    pub sized-none : n ≡ 0 → answered 0 ≡ canonical_length_of s
    unfolding canonical_length_of
    sized-none z =
        let c = canonical-none (frames_in (verdict s)) (sym taken_is.1 ∙ z) in
        sym (((writes s octets_limit (frames_in (verdict s)) taken_is.0).octets 0).1 (ap length c, omega arith, omega arith))

    module _ (some : n ≡ 0 → ⊥) where
      long-is : length (canonical (recording (frames_in (verdict s)))) ≡ r.size + 3
      long-is = canonical-long (frames_in (verdict s)) (accepted-wide s (frames_in (verdict s)) taken_is.0) (λ z. some (taken_is.1 ∙ z)) ∙ omega (arith, taken_is.2)

      -- It is longer than a file may be.
      pub sized-long : octets_limit < r.size + 3 → refused_as NoRoom 0 ≡ canonical_length_of s
      unfolding canonical_length_of
      sized-long l = sym ((writes s octets_limit (frames_in (verdict s)) taken_is.0).short.1 (inr (omega (arith, long-is))))

      -- It is not.
      pub sized-whole : r.size + 3 ≤ octets_limit → answered (r.size + 3) ≡ canonical_length_of s
      unfolding canonical_length_of
      sized-whole l = sym (((writes s octets_limit (frames_in (verdict s)) taken_is.0).octets (r.size + 3)).1 (long-is, l, l))

-- ---- what is written, by the length

-- An accepted file whose canonical file has n octets, no more than a file may have.
record Measured (s : List ℕ) (n : ℕ) : Type 0 where
  is : verdict s ≡ accepted (frames_in (verdict s))
  long : length (canonical_of s) ≡ n
  small : n ≤ octets_limit

measured : (s : List ℕ) (n : ℕ) → canonical_length_of s ≡ answered n → Measured s n
unfolding canonical_length_of canonical_of frames_in output_in
measured s n h = by (verdict s) refl
  where
    by : (v : Verdict) → verdict s ≡ v → Measured s n
    by (accepted fs) k =
        let w = ((writes s octets_limit fs k).octets n).0 h in
        record { is = rw k; long = rw k w.0; small = w.2 }
    by (refused r) k =
        let j : output_length octets_limit s ≡ refused_by r = rw k in
        let y : ◌≡◌ {A = ℕ} 0 1 = cc in
        let o : ⊥ = omega arith in
        absurd o

module _ (s : List ℕ) (room : ℕ) where
  -- A refusal of the length is the writer's.
  output_refused : (fault : Fault) (place : ℕ) → canonical_length_of s ≡ refused_as fault place → output_in room (verdict s) ≡ refused_as fault place
  unfolding canonical_length_of output_in
  output_refused fault place h = by (verdict s) refl
    where
      over : (x : List ℕ) → TooLong x octets_limit → TooLong x room
      over x (inl l) = inr l
      over x (inr l) = inr l

      by : (v : Verdict) → verdict s ≡ v → output_in room (verdict s) ≡ refused_as fault place
      by (accepted fs) k =
          let w = writes s octets_limit fs k in
          let l = w.late fault place h in
          rw (l.0, l.1) (output_short s room fs k (over (canonical (recording fs)) (w.short.0 (h ∙ (λ i. refused_as (l.0 i) (l.1 i))))))
      by (refused r) k =
          let j : output_length octets_limit s ≡ refused_by r = rw k in
          let same : (r.fault ≡ fault) × (r.place ≡ place) = (cc, cc) in
          rw k (λ i. refused_as (same.0 i) (same.1 i))

  module _ (n : ℕ) (m : Measured s n) where
    output_less : room < n → output_in room (verdict s) ≡ refused_as NoRoom 0
    unfolding canonical_of
    output_less l = output_short s room (frames_in (verdict s)) m.is (inl (omega (arith, m.long)))

    output_enough : n ≤ room → output_in room (verdict s) ≡ answered (canonical_of s)
    unfolding canonical_of
    output_enough l = output_fits s room (frames_in (verdict s)) m.is (omega (arith, m.long), omega (arith, m.long, m.small))

-- The writer answers the length in a buffer of at least so many octets, 23 in a shorter one, and the length's refusal in any.
pub record ByLength (s d : List ℕ) : Type 0 where
  pub enough : (n : ℕ) → canonical_length_of s ≡ answered n → n ≤ length d → written_of s d ≡ answered n
  pub short : (n : ℕ) → canonical_length_of s ≡ answered n → length d < n → written_of s d ≡ refused_as NoRoom 0
  pub refused : (fault : Fault) (place : ℕ) → canonical_length_of s ≡ refused_as fault place → written_of s d ≡ refused_as fault place

pub by_length_lem : (s d : List ℕ) → ByLength s d
unfolding written_of
by_length_lem s d =
    record {
      enough = λ n h l. let m = measured s n h in ap (map_answer length) (output_enough s (length d) n m l) ∙ ap answered m.long;
      short = λ n h l. ap (map_answer length) (output_less s (length d) n (measured s n h) l);
      refused = λ fault place h. ap (map_answer length) (output_refused s (length d) fault place h);
    }

-- ---- what the writer answers, and what it leaves

module _ {s d : List ℕ} (octets : Octets s) where
  wrote_as : (x : Answer (List ℕ)) → output_in (length d) (verdict s) ≡ x → Wrote s d (map_answer length x) (left_by x d)
  unfolding written_of left_of
  wrote_as x u = record { octets = octets; answers = ap (map_answer length) (sym u); leaves = ap (λ (y : Answer (List ℕ)). left_by y d) (sym u) }

  -- The length's refusal.
  pub written_refused : (x : Refusal) → refused_by x ≡ canonical_length_of s → Wrote s d (refused_by x) d
  unfolding left_by
  written_refused x e = wrote_as (refused_by x) (output_refused s (length d) x.fault x.place (sym e))

  module _ {n : ℕ} (e : answered n ≡ canonical_length_of s) where
    -- No octets.
    pub written_none : n ≡ 0 → Wrote s d (answered n) d
    unfolding left_by
    written_none z = let m = measured s n (sym e) in by (canonical_of s) m.long (output_enough s (length d) n m (omega arith))
      where
        by : (x : List ℕ) → length x ≡ n → output_in (length d) (verdict s) ≡ answered x → Wrote s d (answered n) d
        by [] l u = rw (← l) (wrote_as (answered []) u)
        by (a ∷ x) l u = let o : ⊥ = omega arith in absurd o

    -- It does not fit.
    pub written_short : {a : Answer ℕ} → a ≡ refused_as NoRoom 0 → length d < n → Wrote s d a d
    unfolding left_by
    written_short f l = rw f (wrote_as (refused_as NoRoom 0) (output_less s (length d) n (measured s n (sym e)) l))

    module _ (some : n ≡ 0 → ⊥) (l : n ≤ length d) where
      pub ready : Ready s d
      unfolding canonical_of
      ready =
          let m = measured s n (sym e) in
          let frames = frames_in (verdict s) in
          let none : length frames ≡ 0 → ⊥ = λ z. some (sym m.long ∙ ap length (canonical-none frames z)) in
          record { is = m.is; some = none; room = omega (arith, canonical-long frames (accepted-wide s frames m.is) none, m.long) }

      -- It fits, and is written.
      pub written_whole : {k : ℕ} {f : List ℕ} → Put d 0 (canonical_of s) k f → Wrote s d (answered k) f
      unfolding left_by
      written_whole {k} {f} p =
          let m = measured s n (sym e) in
          let c = canonical_of s in
          let t = wrote_as (answered c) (output_enough s (length d) n m l) in
          record {
            octets = octets;
            answers = ap answered (p.next ∙ zero-add (length c)) ∙ t.answers;
            leaves = p.stored ∙ sets_front c d (omega (arith, m.long)) ∙ t.leaves;
          }
