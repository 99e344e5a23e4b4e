-- Whole samples, as they lead a link.
--     leads-both      octets behind octets
--     sample-leads    the octets of one whole sample
-- Assumes nothing.
use Prim.Native.Nat.{ℕ, zero, suc, ◌+◌, ◌-◌, ◌≤◌, ◌<◌}
use mathlib.Core.Path.{◌≡◌, refl, sym, ◌∙◌, ap, subst}
use mathlib.Core.List.{List, [], ◌∷◌, ◌++◌, append_assoc}
use native.Mathlib.Omega.{arith}
use lib.ListN.{length, get_or, take, length-append, length-take}
use lib.Seq.{take_all, take-suc}
use Rattle.octets.specs.Number.{number_of}
use Rattle.settings.specs.declared.Settings.{Settings}
use Rattle.dated.specs.Dated.{zero_dated}
use Rattle.layout.specs.Frame.{width_in}
use Rattle.standing.specs.Standing.{octets_limit}
use Rattle.words.specs.Words.{sampling_of}
use Rattle.walk.specs.declared.Waveform.{Waveform}
use Rattle.walk.specs.Advance.{Stand}
use Rattle.link.specs.Link.{Coming, Given, waveform, Link, link, waved, next_coming, stepped, gives, fed_with, given_by}
use Rattle.link.specs.Runs.{Steady, Leads}
use Rattle.link.proofs.Runs.{at_sample, part_run, whole-steps, whole-gives, wave_open}
use Rattle.rows.specs.declared.Spot.{Spot}
use Rattle.rows.specs.Rows.{coming_at}
use Rattle.rows.specs.Laying.{given_at}

-- ---- octets behind octets

steady-both : (l : Link) (u v : List ℕ) → Steady l u → Steady (fed_with l u) v → Steady l (u ++ v)
unfolding fed_with
steady-both l [] v p q = q
steady-both l (b ∷ u) v p q = (p.0, p.1, steady-both (stepped l b) u v p.2 q)

fed-both : (l : Link) (u v : List ℕ) → fed_with l (u ++ v) ≡ fed_with (fed_with l u) v
unfolding fed_with
fed-both l [] v = refl
fed-both l (b ∷ u) v = fed-both (stepped l b) u v

given_both : (l : Link) (u v : List ℕ) → given_by l (u ++ v) ≡ given_by l u ++ given_by (fed_with l u) v
unfolding fed_with given_by
given_both l [] v = refl
given_both l (b ∷ u) v = ap (λ (g : List Given). gives l b ++ g) (given_both (stepped l b) u v) ∙ sym (append_assoc (gives l b) (given_by (stepped l b) u) (given_by (fed_with (stepped l b) u) v))

pub leads-both : (l m n : Link) (u v : List ℕ) (g h : List Given) → Leads l u m g → Leads m v n h → Leads l (u ++ v) n (g ++ h)
leads-both l m n u v g h p q =
    record {
      steady = steady-both l u v p.steady (subst (λ (x : Link). Steady x v) (sym p.link) q.steady);
      link = fed-both l u v ∙ ap (λ (x : Link). fed_with x v) p.link ∙ q.link;
      given = given_both l u v ∙ (λ i. p.given i ++ given_by (p.link i) v) ∙ ap (λ (x : List Given). g ++ x) q.given;
    }

pub leads-none : (l : Link) → Leads l [] l []
unfolding fed_with given_by
leads-none l = record { steady = tt; link = refl; given = refl }

-- ---- one sample

waved-some : (left : ℕ) (t : Coming) → 0 < left → waved left t ≡ waveform left t
unfolding waved
waved-some zero t h = let z : ⊥ = omega arith in absurd z
waved-some (suc left) t h = refl

-- The octets p and b of a sample that was still to come.
module _ (x : Stand) (around : ℕ) (v : Waveform) (n left : ℕ) (at : Spot) where
  abbrev settings_at : Settings
  settings_at = (get_or x.records at.channel zero_dated).settings

  abbrev next_at : Coming
  next_at = next_coming settings_at.block v.channels (coming_at at [])

  abbrev soon_link : Link
  soon_link = link n x around v (waved left (coming_at at []))

  module _ (soon : at.sequence < v.sequences) where
    octets-lead : (p : List ℕ) (b : ℕ) → suc (length p) ≡ width_in settings_at → suc (length p) ≤ left → n + suc (length p) ≤ octets_limit
        → Leads soon_link (p ++ (b ∷ [])) (link (n + suc (length p)) x around v (waved (left - suc (length p)) next_at)) (given_at (sampling_of settings_at) at n (number_of v.little (p ++ (b ∷ []))) ∷ [])
    unfolding fed_with given_by next_coming
    octets-lead p b w h k =
        let o = p ++ (b ∷ []) in
        let long = length-append p (b ∷ []) in
        let m = n + length p in
        let rest = left - length p in
        let t = coming_at at p in
        let near : m < octets_limit = omega arith in
        let wide : width_in settings_at ≤ length o = omega arith in
        let some : 0 < rest = omega arith in
        let more : waved rest t ≡ waveform rest t = waved-some rest t some in
        let count : m + 1 ≡ n + suc (length p) = omega arith in
        let less : rest - 1 ≡ left - suc (length p) = omega arith in
        let place : m + 1 - length o ≡ n = omega arith in
        let bits : number_of v.little (take (width_in settings_at) o) ≡ number_of v.little o = ap (number_of v.little) (take_all (width_in settings_at) o (omega arith)) in
        let last : Leads (at_sample x around v m rest t) (b ∷ []) (link (n + suc (length p)) x around v (waved (left - suc (length p)) next_at)) (given_at (sampling_of settings_at) at n (number_of v.little o) ∷ []) =
        record {
          steady = (refl, wave_open x around v m rest t b near, tt);
          link = whole-steps x around v m rest t b near soon wide ∙ (λ i. link (count i) x around v (waved (less i) next_at));
          given = (λ i. whole-gives x around v m rest t b near soon wide i ++ []) ∙ (λ i. given_at (sampling_of settings_at) at (place i) (bits i) ∷ []);
        } in
        leads-both soon_link (link m x around v (waved rest t)) (link (n + suc (length p)) x around v (waved (left - suc (length p)) next_at)) p (b ∷ []) [] _
        (part_run x around v p n left (coming_at at []) soon (omega arith) (omega arith) (omega arith))
        (rw more last)

    pub sample-leads : (o : List ℕ) → 0 < length o → length o ≡ width_in settings_at → length o ≤ left → n + length o ≤ octets_limit
        → Leads soon_link o (link (n + length o) x around v (waved (left - length o) next_at)) (given_at (sampling_of settings_at) at n (number_of v.little o) ∷ [])
    sample-leads o some w h k =
        let j = length o - 1 in
        let e : suc j ≡ length o = omega arith in
        let front : take j o ++ (get_or o j 0 ∷ []) ≡ o = sym (take-suc o j 0 (omega arith)) ∙ take_all (suc j) o (omega arith) in
        let short : suc (length (take j o)) ≡ length o = omega (arith, length-take j o) in
        subst (λ (z : List ℕ). Leads soon_link z (link (n + length o) x around v (waved (left - length o) next_at)) (given_at (sampling_of settings_at) at n (number_of v.little z) ∷ [])) front
        (subst (λ (z : ℕ). Leads soon_link (take j o ++ (get_or o j 0 ∷ [])) (link (n + z) x around v (waved (left - z) next_at)) (given_at (sampling_of settings_at) at n (number_of v.little (take j o ++ (get_or o j 0 ∷ []))) ∷ [])) short
        (octets-lead (take j o) (get_or o j 0) (short ∙ w) (omega arith) (omega arith)))
