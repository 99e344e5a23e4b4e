-- Laws of octets that only have to come.
--     joined_first, joined-more, joined-all    octets that are kept, one after another
--     value_passes, waits_passes, surplus_passes    by the phase
--     pass_none, pass_by    none, or those of the stage
-- Assumes nothing.
use mathlib.Core.Path.{◌≡◌, refl, sym, ap, subst, ◌∙◌}
use mathlib.Core.Logic.{inl}
use mathlib.Core.List.{List, [], ◌∷◌, ◌++◌, append-nil, append_assoc}
use Prim.Native.Nat.{ℕ, suc, ◌+◌, ◌-◌, ◌≤◌, ◌<◌, min}
use native.Mathlib.Numerals.{add-one}
use native.Mathlib.Decide.{dec_lt}
use native.Mathlib.Omega.{arith}
use lib.Dec.{eqb}
use Rattle.octets.proofs.Pick.{pick_cases}
use lib.ListN.{length, get_or, take, set, length-append, length-take, length-set}
use lib.Seq.{take-suc, take-suc-set, take_all, take-append-add}
use Rattle.walk.specs.Advance.{stand_of}
use Rattle.link.specs.Link as L
use Rattle.link.specs.Link.{Phase, kept_limit, waved}
use Rattle.link.specs.Runs.{Leads}
use Rattle.link.proofs.Runs.{leads-none, value_run, waits_run, surplus_run, waved-some}
use Rattle.held.specs.declared.Noted.{Noted}
use Rattle.held.specs.declared.Stage.{Stage}
use Rattle.held.specs.Words.{refusal_of, phase_of}
use Rattle.arriving.specs.declared.Link.{Link}
use Rattle.rows.specs.declared.Spot.{Spot}
use Rattle.rows.specs.Rows.{coming_at}
use Rattle.arriving.specs.Arriving.{kept_of, link_by, further_by, at_sample, noted_in, Known, Stays}
use Rattle.arriving.proofs.Laws.{sample-phase, further_near, notes_none}
use Rattle.lasting.specs.declared.Passed.{Passed}
use Rattle.lasting.specs.Lasting.{Lasts, Joined, Ahead, Surplus, PassesIn, Passes}

-- ---- octets that are kept

-- Behind the first n octets of p stand the first a of u.
pub record Behind (p : List ℕ) (n : ℕ) (u : List ℕ) (a : ℕ) (r : List ℕ) : Type 0 where
  pub long : length r ≡ length p
  pub is : take (n + a) r ≡ take n p ++ take a u

pub joined_first : (p : List ℕ) (n : ℕ) (u : List ℕ) → Behind p n u 0 p
joined_first p n u = let e : n + 0 ≡ n = omega arith in record { long = refl; is = ap (λ (k : ℕ). take k p) e ∙ sym (append-nil (take n p)) }

pub joined-more : {p : List ℕ} {n : ℕ} {u : List ℕ} {a : ℕ} {r : List ℕ} → Behind p n u a r → n + a < length p → a < length u → Behind p n u (a + 1) (set r (n + a) (get_or u a 0))
joined-more {p} {n} {u} {a} {r} b h k =
    let e : n + (a + 1) ≡ suc (n + a) = omega arith in
    record {
      long = rw length-set b.long;
      is = ap (λ (k : ℕ). take k (set r (n + a) (get_or u a 0))) e
          ∙ take-suc-set r (n + a) (get_or u a 0) (omega (arith, b.long))
          ∙ ap (λ (l : List ℕ). l ++ (get_or u a 0 ∷ [])) b.is
          ∙ append_assoc (take n p) (take a u) (get_or u a 0 ∷ [])
          ∙ ap (λ (l : List ℕ). take n p ++ l) (sym (take-suc u a 0 k) ∙ ap (λ (k : ℕ). take k u) (sym (add-one a)));
    }

pub joined-all : (p : List ℕ) (n : ℕ) (u r : List ℕ) (a : ℕ) → n ≤ kept_limit → kept_limit < length p → a ≡ min (length u) (kept_limit - n) → Behind p n u a r → Joined p n u r
joined-all p n u r a h l e b = by (dec_lt (length u) (kept_limit - n))
  where
    long : length (take n p) ≡ n
    long = length-take n p ∙ omega arith

    by : Dec (length u < kept_limit - n) → Joined p n u r
    by (yes k) =
        let all : a ≡ length u = omega arith in
        let m : min (n + length u) kept_limit ≡ n + a = omega arith in
        record {
          kept = ap (λ (k : ℕ). take k r) m ∙ b.is ∙ ap (λ (l : List ℕ). take n p ++ l) (take_all a u (omega arith))
              ∙ sym (take_all kept_limit (take n p ++ u) (rw length-append (omega (arith, long))));
        }
    by (no k) =
        let m : min (n + length u) kept_limit ≡ n + a = omega (arith, k) in
        let f : kept_limit ≡ length (take n p) + a = omega (arith, k, long) in
        record {
          kept = ap (λ (k : ℕ). take k r) m ∙ b.is ∙ sym (ap (λ (k : ℕ). take k (take n p ++ u)) f ∙ take-append-add (take n p) u a);
        }

-- ---- by the phase

kept_short : (x : Link) (p : List ℕ) → length (kept_of x p) ≤ kept_limit
kept_short x p = rw length-take (omega arith)

first_long : (u : List ℕ) (m : ℕ) → m ≤ length u → length (take m u) ≡ m
first_long u m h = length-take m u ∙ omega arith

module _ (x : Link) (p u : List ℕ) (left m : ℕ) where
  pub value_passes : (tag : ℕ) {n k : ℕ} {y : Link} {o part : List ℕ} → Ahead x.core.count left (length u) m → n ≡ min x.core.held kept_limit → k ≡ min (n + m) kept_limit → part ≡ take m u → Joined p n part o
      → y ≡ further_by m k (Stage.Value tag (left - m)) x → PassesIn (L.value tag left (kept_of x p)) (Stage.Value tag left) x p u (record { link = y; octets = o; taken = m })
  value_passes tag {n} {k} {o = o} {part} a en ek ep j ey =
      let long = first_long u m a.there in
      let many : length part ≡ m = ap length ep ∙ long in
      let held : min k kept_limit ≡ min (n + length part) kept_limit = omega (arith, many) in
      let kept = ap (λ (i : ℕ). take i o) held ∙ j.kept ∙ (λ i. take kept_limit (take (en i) p ++ ep i)) in
      record {
        notes = subst (λ (z : Link). Known (noted_in z.core.stage)) (sym ey) tt;
        there = a.there;
        leads = λ t.
            subst (λ (z : L.Link). Leads (L.link x.core.count (stand_of x.head t) x.core.around x.frame (L.value tag left (kept_of x p))) (take m u) z [])
            ((λ i. L.link (x.core.count + long i) (stand_of x.head t) x.core.around x.frame (L.value tag (left - long i) (sym kept i))) ∙ ap (λ (z : Link). link_by z o t) (sym (ey ∙ further_near x m k (Stage.Value tag (left - m)) a.near)))
            (value_run x.core.count (stand_of x.head t) x.core.around x.frame tag left (kept_of x p) (take m u) (kept_short x p) (omega (arith, long, a.more)) (omega (arith, long, a.near)));
      }

  pub waits_passes : (r : Noted) {y : Link} → Ahead x.core.count left (length u) m → y ≡ further_by m 0 (Stage.Waits (left - m) r) x → PassesIn (L.waits left (refusal_of r)) (Stage.Waits left r) x p u (record { link = y; octets = p; taken = m })
  waits_passes r a ey =
      let long = first_long u m a.there in
      record {
        notes = inl (subst (Stays (x.core.count + 1) (left - 1) (x.core.count + m) r) (sym (ey ∙ further_near x m 0 (Stage.Waits (left - m) r) a.near)) (refl, omega arith, omega (arith, a.more)));
        there = a.there;
        leads = λ t.
            subst (λ (z : L.Link). Leads (L.link x.core.count (stand_of x.head t) x.core.around x.frame (L.waits left (refusal_of r))) (take m u) z [])
            ((λ i. L.link (x.core.count + long i) (stand_of x.head t) x.core.around x.frame (L.waits (left - long i) (refusal_of r))) ∙ ap (λ (z : Link). link_by z p t) (sym (ey ∙ further_near x m 0 (Stage.Waits (left - m) r) a.near)))
            (waits_run x.core.count (stand_of x.head t) x.core.around x.frame left (refusal_of r) (take m u) (omega (arith, long, a.more)) (omega (arith, long, a.near)));
      }

  pub surplus_passes : (at : Spot) {y z : Link} → Surplus x left at (length u) m → z ≡ further_by m 0 Stage.Head x → y ≡ at_sample (left - m) at x.core.held z → PassesIn (L.waveform left (coming_at at (kept_of x p))) (Stage.Waveform left at.sequence at.channel at.index) x p u (record { link = y; octets = p; taken = m })
  surplus_passes at {y} {z} a ez ey =
      let long = first_long u m a.there in
      let c = coming_at at (kept_of x p) in
      record {
        notes = subst (λ (k : Link). Known (noted_in k.core.stage)) (sym ey) (pick_cases (λ (k : Link). Known (noted_in k.core.stage)) (eqb (left - m) 0) (λ _. tt) (λ _. tt));
        there = a.there;
        leads = λ t.
            let from = waved-some left c (omega (arith, a.some, a.more)) in
            let end = ap (λ (k : Link). link_by k p t) ey ∙ sample-phase z (left - m) at x.core.held p p t ∙ ap (λ (k : Link). L.in_phase (waved (left - m) c) (link_by k p t)) (ez ∙ further_near x m 0 Stage.Head a.near) in
            subst (λ (k : Phase). Leads (L.link x.core.count (stand_of x.head t) x.core.around x.frame k) (take m u) (link_by y p t) []) from
            (subst (λ (k : L.Link). Leads (L.link x.core.count (stand_of x.head t) x.core.around x.frame (waved left c)) (take m u) k [])
            ((λ i. L.link (x.core.count + long i) (stand_of x.head t) x.core.around x.frame (waved (left - long i) c)) ∙ sym end)
            (surplus_run (stand_of x.head t) x.core.around x.frame (take m u) x.core.count left c a.behind (omega (arith, long, a.more)) (omega (arith, long, a.near))));
      }

-- ---- all stages

-- By the stage, of what lasts there.
pub lasts_by : (x : Link) {s : Stage} (m : ℕ) → x.core.stage ≡ s → Lasts s x.frame.sequences m → Lasts x.core.stage x.frame.sequences m
lasts_by x m e l = subst (λ (k : Stage). Lasts k x.frame.sequences m) (sym e) l

pub lasts_in : (x : Link) {s : Stage} (m : ℕ) → x.core.stage ≡ s → Lasts x.core.stage x.frame.sequences m → Lasts s x.frame.sequences m
lasts_in x m e l = subst (λ (k : Stage). Lasts k x.frame.sequences m) e l

pub pass_none : (x : Link) (p u : List ℕ) → Passes x p u (record { link = x; octets = p; taken = 0 })
pass_none x p u = record { notes = notes_none x (x.core.count + 0) (omega arith); there = omega arith; leads = λ t. leads-none (link_by x p t) }

pub pass_by : (x : Link) (p u : List ℕ) {r : Passed} {s : Stage} → x.core.stage ≡ s → PassesIn (phase_of s (kept_of x p)) s x p u r → Passes x p u r
pass_by x p u {r} e q =
    let w = subst (λ (k : Stage). PassesIn (phase_of k (kept_of x p)) k x p u r) (sym e) q in
    record { notes = w.notes; there = w.there; leads = w.leads }
