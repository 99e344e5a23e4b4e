-- Refusals at every entry point.
--     AnsweredBy, refused-answers    on a refused file every question, the writer and the length answer that file's refusal
--     handed_exactly     a function for C hands a refusal out exactly when its question answers it
--     HandedOut, handed_out_lem    so each of them
--     refusal_keeps, plain_keeps, counted-refusal    a refusal changes no octet of a buffer
--     BuffersKept, buffers_kept         so for each function that has one
-- Assumes nothing.
use Rattle.heads.specs.Faults.{number_of}
use Rattle.heads.specs.declared.Fault.{Fault}
use Prim.Native.Nat.{ℕ, ◌<◌}
use mathlib.Core.Path.{◌≡◌, refl, sym, ap, ◌∙◌}
use mathlib.Core.Logic.{◌↔◌}
use mathlib.Core.List.{List, map}
use native.Mathlib.Omega.{arith}
use lib.IntN.{ℤ}
use lib.ListN.{length}
use Rattle.heads.specs.declared.Refusal.{Refusal}
use Rattle.values.specs.Sample.{Said}
use Rattle.heads.specs.Answer.{Answer, answered, refused_as, refused_by, map_answer, left_by}
use Rattle.standing.specs.Standing.{octets_limit}
use Rattle.verdict.specs.Verdict.{Verdict, refused, verdict, checked_as, check_of}
use Rattle.reader.specs.Answer.{attributes_of, sample_of, seen_of, placed_of}
use Rattle.canonical.specs.Write.{output_in, written_of, canonical_length_of, left_of, Wrote}
use Rattle.bulk.specs.Samples.{there_at, read_of, values_of, kinds_in, wholes_in, count_read}
use Rattle.walk.specs.Says.{step_says}
use Rattle.walking.specs.Steps.{step_in}
use Rattle.walking.specs.Views.{view_in}
use Rattle.sweep.specs.Sweep.{sweep_in}
use Rattle.outputs.specs.Outputs.{Outputs, outputs, handed_out, count_out, zero_attributes, attributes_out, zero_sample, sample_out}
use Rattle.outputs.specs.Walks.{frame_out, no_frame_values, zero_channel, channel_out}
use Rattle.tour.specs.Tour.{walk_there, walk_read, walk_values}
use Rattle.maker.specs.Make.{Making, made_in, Made}
use Rattle.mfer.specs.Answers.{CanonicalOut, MadeOut}

-- ---- a refused file

-- Every question, the writer and the length answer the refusal r.
pub record AnsweredBy (s : List ℕ) (r : Refusal) : Type 0 where
  pub check : check_of s ≡ refused_by r
  pub attributes : (i c : ℕ) → attributes_of s i c ≡ refused_by r
  pub channel : (i c : ℕ) → seen_of s i c ≡ refused_by r
  pub there : (i c : ℕ) → there_at s i c ≡ refused_by r
  pub sample : (i c n : ℕ) → sample_of s i c n ≡ refused_by r
  pub place : (i c n : ℕ) → placed_of s i c n ≡ refused_by r
  pub samples : (i c n room : ℕ) → read_of s i c n room ≡ refused_by r
  pub values : (i c n room : ℕ) → values_of s i c n room ≡ refused_by r
  pub measured : canonical_length_of s ≡ refused_by r
  pub written : (d : List ℕ) → written_of s d ≡ refused_by r

pub refused-answers : (s : List ℕ) (r : Refusal) → verdict s ≡ refused r → AnsweredBy s r
unfolding check_of checked_as attributes_of seen_of there_at sample_of placed_of read_of values_of written_of canonical_length_of output_in
refused-answers s r e =
    record {
      check = ap checked_as e;
      attributes = λ i c. rw e;
      channel = λ i c. rw e;
      there = λ i c. rw e;
      sample = λ i c n. rw e;
      place = λ i c n. rw e;
      samples = λ i c n room. rw e;
      values = λ i c n room. rw e;
      measured = ap (λ (v : Verdict). map_answer length (output_in octets_limit v)) e;
      written = λ d. ap (λ (v : Verdict). map_answer length (output_in (length d) v)) e;
    }

-- ---- the functions for C

-- A refusal is handed out exactly when it is answered: the number of its fault as the result, its place, and zeros.
abbrev pub HandedExactly : {A B : Type 0} → Outputs B → B → Answer A → Type 0
HandedExactly out zeros a = (number place : ℕ) → 0 < number → (out ≡ outputs number place zeros) ↔ ((fault : Fault) × (number_of fault ≡ number) × (a ≡ refused_as fault place))

handed_exactly : {A B : Type 0} (place : A → ℕ) (values : A → B) (zeros : B) (a : Answer A) → HandedExactly (handed_out place values zeros a) zeros a
unfolding handed_out
handed_exactly {A} {B} place values zeros (answered x) number at h =
    (λ e. let z : ⊥ = omega (arith, ap (λ (o : Outputs B). o.refusal) e) in absurd z, λ q. never q.2)
  where
    never : {f : Fault} {k : ℕ} {Z : Type 0} → answered x ≡ refused_as f k → Z
    never e = let z : ◌≡◌ {A = ℕ} 0 1 = cc in let y : ⊥ = omega arith in absurd y
handed_exactly {A} {B} place values zeros (refused_as m p) number at h = (
  λ e. (m, ap (λ (o : Outputs B). o.refusal) e, ap (λ (o : Outputs B). refused_as m o.place) e),
  λ q. ap (handed_out place values zeros) q.2 ∙ ap (λ (k : ℕ). outputs k at zeros) q.1,
)

-- The functions for C; mfer_walk_open hands out what mfer_check does. Those of a walk are said of any words, and mfer_make_frame of all that may go in.
pub record HandedOut (s : List ℕ) : Type 0 where
  pub check : HandedExactly (count_out (check_of s)) 0 (check_of s)
  pub attributes : (i c : ℕ) → HandedExactly (attributes_out (attributes_of s i c)) zero_attributes (attributes_of s i c)
  pub sample : (i c n : ℕ) → HandedExactly (sample_out (sample_of s i c n)) zero_sample (sample_of s i c n)
  pub there : (i c : ℕ) → HandedExactly (count_out (there_at s i c)) 0 (there_at s i c)
  pub samples : (i c n room : ℕ) → HandedExactly (count_out (count_read s i c n room)) 0 (count_read s i c n room)
  pub canonical_length : HandedExactly (count_out (canonical_length_of s)) 0 (canonical_length_of s)
  pub values : (i c n room : ℕ) → HandedExactly (count_out (map_answer length (values_of s i c n room))) 0 (map_answer length (values_of s i c n room))
  pub canonical : (d : List ℕ) → HandedExactly (count_out (written_of s d)) 0 (written_of s d)
  pub make_frame : (m : Making) (room : ℕ) → HandedExactly (count_out (map_answer length (made_in room m))) 0 (map_answer length (made_in room m))
  pub walk_next : (u : List ℕ) → HandedExactly (frame_out (step_says (step_in s u).step)) no_frame_values (step_says (step_in s u).step)
  pub walk_channel : (u : List ℕ) (c : ℕ) → HandedExactly (channel_out (view_in u c)) zero_channel (view_in u c)
  pub walk_there : (u : List ℕ) (c : ℕ) → HandedExactly (count_out (walk_there u c)) 0 (walk_there u c)
  pub walk_samples : (u : List ℕ) (c n room : ℕ) → HandedExactly (count_out (map_answer length (walk_read s u c n room))) 0 (map_answer length (walk_read s u c n room))
  pub walk_frame : (u : List ℕ) (room : ℕ) → HandedExactly (count_out (map_answer length (sweep_in s u room))) 0 (map_answer length (sweep_in s u room))
  pub walk_values : (u : List ℕ) (c n room : ℕ) → HandedExactly (count_out (map_answer length (walk_values s u c n room))) 0 (map_answer length (walk_values s u c n room))

pub handed_out_lem : (s : List ℕ) → HandedOut s
handed_out_lem s =
    record {
      check = handed_exactly _ _ _ (check_of s);
      attributes = λ i c. handed_exactly _ _ _ (attributes_of s i c);
      sample = λ i c n. handed_exactly _ _ _ (sample_of s i c n);
      there = λ i c. handed_exactly _ _ _ (there_at s i c);
      samples = λ i c n room. handed_exactly _ _ _ (count_read s i c n room);
      canonical_length = handed_exactly _ _ _ (canonical_length_of s);
      values = λ i c n room. handed_exactly _ _ _ (map_answer length (values_of s i c n room));
      canonical = λ d. handed_exactly _ _ _ (written_of s d);
      make_frame = λ m room. handed_exactly _ _ _ (map_answer length (made_in room m));
      walk_next = λ u. handed_exactly _ _ _ (step_says (step_in s u).step);
      walk_channel = λ u c. handed_exactly _ _ _ (view_in u c);
      walk_there = λ u c. handed_exactly _ _ _ (walk_there u c);
      walk_samples = λ u c n room. handed_exactly _ _ _ (map_answer length (walk_read s u c n room));
      walk_frame = λ u room. handed_exactly _ _ _ (map_answer length (sweep_in s u room));
      walk_values = λ u c n room. handed_exactly _ _ _ (map_answer length (walk_values s u c n room));
    }

-- ---- buffers

-- A refusal of the length is a refusal of what is written.
counted-refusal : {A : Type 0} (x : Answer (List A)) (fault : Fault) (place : ℕ) → map_answer length x ≡ refused_as fault place → x ≡ refused_as fault place
counted-refusal (answered l) fault place e = let z : ◌≡◌ {A = ℕ} 0 1 = cc in let y : ⊥ = omega arith in absurd y
counted-refusal (refused_as m p) fault place e = let a : m ≡ fault = cc in let b : p ≡ place = cc in λ i. refused_as (a i) (b i)

refusal_keeps : {A B : Type 0} (f : List A → List B) (x : Answer (List A)) (d : List B) (fault : Fault) (place : ℕ) → map_answer length x ≡ refused_as fault place → left_by (map_answer f x) d ≡ d
unfolding left_by
refusal_keeps {A} f x d fault place e = ap (λ (y : Answer (List A)). left_by (map_answer f y) d) (counted-refusal x fault place e)

-- What is written is not changed by the function that changes nothing.
map_same : {A : Type 0} (x : Answer (List A)) → map_answer (λ l. l) x ≡ x
map_same (answered l) = refl
map_same (refused_as fault place) = refl

plain_keeps : (x : Answer (List ℕ)) (d : List ℕ) (fault : Fault) (place : ℕ) → map_answer length x ≡ refused_as fault place → left_by x d ≡ d
plain_keeps x d fault place e = ap (λ (y : Answer (List ℕ)). left_by y d) (sym (map_same x)) ∙ refusal_keeps (λ l. l) x d fault place e

-- A function for C that hands out a number above 0 hands out a refusal.
handed_refusal : (a : Answer ℕ) → 0 < (count_out a).refusal → (fault : Fault) × (place : ℕ) × (a ≡ refused_as fault place)
unfolding handed_out
handed_refusal (answered n) h = let z : ⊥ = omega arith in absurd z
handed_refusal (refused_as fault place) h = (fault, place, refl)

-- A refusal changes no octet of the output buffer: `write_canonical`, `mfer_canonical`, `make_frame`, `mfer_make_frame`, `bulk::samples`, `mfer_samples`, `bulk::values`, `mfer_values`,
-- `tour::samples`, `mfer_walk_samples`, `mfer_walk_frame`, `tour::values` and `mfer_walk_values`.
pub record BuffersKept (s d : List ℕ) : Type 0 where
  pub canonical : (fault : Fault) (place : ℕ) (left : List ℕ) → Wrote s d (refused_as fault place) left → left ≡ d
  pub canonical_out : (out : Outputs ℕ) (left : List ℕ) → CanonicalOut s d out left → 0 < out.refusal → left ≡ d
  pub made : (m : Making) (fault : Fault) (place : ℕ) (left : List ℕ) → Made m d (refused_as fault place) left → left ≡ d
  pub made_out : (m : Making) (out : Outputs ℕ) (left : List ℕ) → MadeOut m d out left → 0 < out.refusal → left ≡ d
  pub samples : (i c n : ℕ) (fault : Fault) (place : ℕ) → count_read s i c n (length d) ≡ refused_as fault place → left_by (read_of s i c n (length d)) d ≡ d
  pub samples_out : (i c n : ℕ) → 0 < (count_out (count_read s i c n (length d))).refusal → left_by (read_of s i c n (length d)) d ≡ d
  pub values : (i c n room : ℕ) (fault : Fault) (place : ℕ) (w : List ℤ) → map_answer length (values_of s i c n room) ≡ refused_as fault place → (left_by (kinds_in (values_of s i c n room)) d ≡ d) × (left_by (wholes_in (values_of s i c n room)) w ≡ w)
  pub values_out : (i c n room : ℕ) (w : List ℤ) → 0 < (count_out (map_answer length (values_of s i c n room))).refusal → (left_by (kinds_in (values_of s i c n room)) d ≡ d) × (left_by (wholes_in (values_of s i c n room)) w ≡ w)
  pub walk_samples : (u : List ℕ) (c n : ℕ) (fault : Fault) (place : ℕ) → map_answer length (walk_read s u c n (length d)) ≡ refused_as fault place → left_by (walk_read s u c n (length d)) d ≡ d
  pub walk_frame : (u : List ℕ) (fault : Fault) (place : ℕ) → map_answer length (sweep_in s u (length d)) ≡ refused_as fault place → left_by (sweep_in s u (length d)) d ≡ d
  pub walk_values : (u : List ℕ) (c n room : ℕ) (fault : Fault) (place : ℕ) (w : List ℤ) → map_answer length (walk_values s u c n room) ≡ refused_as fault place → (left_by (kinds_in (walk_values s u c n room)) d ≡ d) × (left_by (wholes_in (walk_values s u c n room)) w ≡ w)

module _ (s d : List ℕ) where
  -- By the writer's answer.
  written_kept : (fault : Fault) (place : ℕ) (left : List ℕ) → written_of s d ≡ refused_as fault place → left ≡ left_of s d → left ≡ d
  unfolding written_of left_of
  written_kept fault place left a l = l ∙ plain_keeps (output_in (length d) (verdict s)) d fault place a

  -- By the maker's answer.
  made_kept : (m : Making) (fault : Fault) (place : ℕ) (left : List ℕ) → map_answer length (made_in (length d) m) ≡ refused_as fault place → left ≡ left_by (made_in (length d) m) d → left ≡ d
  made_kept m fault place left a l = l ∙ plain_keeps (made_in (length d) m) d fault place a

  -- Both buffers that values go to.
  values-kept : (x : Answer (List Said)) (fault : Fault) (place : ℕ) (w : List ℤ) → map_answer length x ≡ refused_as fault place → (left_by (kinds_in x) d ≡ d) × (left_by (wholes_in x) w ≡ w)
  values-kept x fault place w e = (refusal_keeps (map (λ y. y.kind)) x d fault place e, refusal_keeps (map (λ y. y.whole)) x w fault place e)

  pub buffers_kept : BuffersKept s d
  unfolding count_read
  buffers_kept =
      record {
        canonical = λ fault place left w. written_kept fault place left (sym w.answers) w.leaves;
        canonical_out = λ out left w h. let r = handed_refusal (written_of s d) (rw w.answers at h) in written_kept r.0 r.1 left r.2 w.leaves;
        made = λ m fault place left w. made_kept m fault place left (sym w.answers) w.leaves;
        made_out = λ m out left w h. let r = handed_refusal (map_answer length (made_in (length d) m)) (rw w.answers at h) in made_kept m r.0 r.1 left r.2 w.leaves;
        samples = λ i c n fault place e. plain_keeps (read_of s i c n (length d)) d fault place e;
        samples_out = λ i c n h. let r = handed_refusal (count_read s i c n (length d)) h in plain_keeps (read_of s i c n (length d)) d r.0 r.1 r.2;
        values = λ i c n room. values-kept (values_of s i c n room);
        values_out = λ i c n room w h. let r = handed_refusal (map_answer length (values_of s i c n room)) h in values-kept (values_of s i c n room) r.0 r.1 w r.2;
        walk_samples = λ u c n fault place e. plain_keeps (walk_read s u c n (length d)) d fault place e;
        walk_frame = λ u fault place e. plain_keeps (sweep_in s u (length d)) d fault place e;
        walk_values = λ u c n room. values-kept (walk_values s u c n room);
      }
