-- Laws of the frame that is given: when there is one, and how many octets it takes.
--     samples-long, asked-long, asked-samples    the samples
--     parts_long      the frame
--     given-some, given-none    where the samples are no more octets than a file may have, and where they are
--     frame_put       a frame that is given and fits is stored
--     FirstRecords    the first channels, whose layout is known
--     few-there, octets_are, told_groups, not-given, parts_given, given-long, frame-asked    the same of these
-- Assumes nothing.
use mathlib.Core.Path.{◌≡◌, sym, ap, ap₂, subst, ◌∙◌}
use mathlib.Core.List.{List, []}
use mathlib.Core.Bool.{Bool, true, false}
use Prim.Native.Nat.{ℕ, ◌+◌, ◌*◌, ◌/◌, ◌%◌, ◌≤◌, ◌<◌, min}
use native.Mathlib.Nat.{div-mul-le_self, div-add-mod'}
use native.Mathlib.Omega.{arith}
use borrow.Author.Tests.{le-leb, lt-leb}
use lib.IntN.{ℤ}
use lib.ListN.{length, take, drop, length-append, length-drop}
use lib.Seq.{length-take-le}
use Rattle.standing.specs.Standing.{octets_limit}
use Rattle.stores.specs.Storing.{Put, Putting, put_fits}
use Rattle.stores.proofs.Stores.{putting_none}
use Rattle.settings.specs.declared.Settings.{Settings}
use Rattle.settings.specs.Settings.{channel_limit}
use Rattle.layout.specs.Frame.{sequence_octets}
use Rattle.sizes.specs.Size.{frame_size}
use Rattle.layout.specs.declared.Layout.{Layout}
use Rattle.layout.specs.Measure.{groups_size, layout_of}
use Rattle.layout.proofs.Laws.{groups-few}
use Rattle.laid.specs.Turned.{turned_all}
use Rattle.there.specs.There.{part_octets, there_octets}
use Rattle.there.specs.Turned.{turned_part, turned_there}
use Rattle.there.proofs.Places.{there-le}
use Rattle.there.proofs.Turned.{left-ends}
use Rattle.dated.proofs.Refreshed.{held-long}
use Rattle.words.specs.Words.{records_in, held_in}
use Rattle.records.proofs.Channels.{channels-few, take-there}
use Rattle.groups.proofs.Sizes.{head-long, groups-long}
use Rattle.frames.specs.Parts.{Few, samples_turned, frame_parts, frame_given}
use Rattle.frames.proofs.Coming.{length-all, taken-long}
use Rattle.frames.proofs.Parting.{length_part}

-- The samples there, turned round or not, take their octets.
pub samples-long : (little : Bool) (cs : List Settings) (sequences : ℕ) (x : List ℕ) → length (samples_turned little cs (there_octets cs sequences (length x)) x) ≡ there_octets cs sequences (length x)
unfolding turned_there
samples-long false cs sequences x = length-take-le (there_octets cs sequences (length x)) x (there-le cs sequences (length x))
samples-long true cs sequences x =
    let T = there_octets cs sequences (length x) in
    let G = sequence_octets cs in
    let inside = there-le cs sequences (length x) in
    let whole = length-all cs (T / G) x (omega (arith, div-mul-le_self T G)) in
    let part = length_part cs (T % G) (drop (T / G * G) x) (omega (arith, length-drop (T / G * G) x, div-add-mod' T G)) in
    length-append (turned_all cs (T / G) x) (turned_part cs (T % G) (drop (T / G * G) x))
    ∙ ap₂ ◌+◌ whole (part ∙ left-ends cs sequences (length x))
    ∙ div-add-mod' T G

pub asked-long : (little : Bool) (cs : List Settings) (sequences : ℕ) (x : List ℕ) {octets : ℕ} → octets ≡ there_octets cs sequences (length x) → octets ≡ length (samples_turned little cs octets x)
asked-long little cs sequences x e = e ∙ sym (samples-long little cs sequences x) ∙ ap (λ (n : ℕ). length (samples_turned little cs n x)) (sym e)

-- They are in the waveform, and end with a sample.
pub asked-samples : (cs : List Settings) (sequences : ℕ) (x : List ℕ) {octets sequence : ℕ} → octets ≡ there_octets cs sequences (length x) → sequence ≡ sequence_octets cs
    → (octets ≤ length x) × (part_octets cs (octets % sequence) ≡ octets % sequence)
asked-samples cs sequences x eo es = (omega (arith, there-le cs sequences (length x)), rw (es, eo) (left-ends cs sequences (length x)))

module _ (start : ℤ) (little : Bool) (sequences : ℕ) (cs : List Settings) (x : List ℕ) where
  abbrev T : ℕ
  T = there_octets cs sequences (length x)

  pub given-some : T ≤ octets_limit → frame_given start little sequences cs x ≡ frame_parts start sequences cs (samples_turned little cs T x)
  unfolding frame_given
  given-some h = rw (le-leb T octets_limit h)

  pub given-none : octets_limit < T → frame_given start little sequences cs x ≡ []
  unfolding frame_given
  given-none h = rw (lt-leb T octets_limit h)

  pub parts_long : length (frame_parts start sequences cs (samples_turned little cs T x)) ≡ frame_size sequences (groups_size 0 cs) T
  unfolding frame_size
  parts_long = simp (length-append, head-long, groups-long, samples-long little cs sequences x) (omega arith)

  pub frame_put : {d e : List ℕ} {at r : ℕ} → T ≤ octets_limit → at + frame_size sequences (groups_size 0 cs) T ≤ length d
      → Putting d at (frame_given start little sequences cs x) r e → Put d at (frame_parts start sequences cs (samples_turned little cs T x)) r e
  frame_put {d} {e} {at} {r} few room p =
      put_fits (rw parts_long room) (subst (λ (v : List ℕ). Putting d at v r e) (given-some few) p)

-- ---- the first channels

-- The first k channels are those of `count` that have records, and l is their layout.
pub record FirstRecords (u : List ℕ) (count k : ℕ) (l : Layout) : Type 0 where
  pub few : k ≡ min (min count channel_limit) (length (records_in u))
  pub layout : l ≡ layout_of 0 (take (min count channel_limit) (held_in u))

-- What `store_frame` asks for.
abbrev Asked : List Settings → List ℕ → ℕ → ℕ → ℕ → ℕ → List ℕ → ℕ → ℕ → Type 0
Asked table u k sequence sequences octets x at long =
    (Few k u × (sequence ≡ sequence_octets (take k table)))
    × (((octets ≡ there_octets (take k table) sequences (length x)) × (octets ≤ octets_limit))
    × (at + frame_size sequences (groups_size 0 (take k table)) octets ≤ long))

module _ {u : List ℕ} {count k : ℕ} {l : Layout} (t : FirstRecords u count k l) where
  abbrev table : List Settings
  table = held_in u

  abbrev shown : List Settings
  shown = take (min count channel_limit) table

  pub few-there : Few k u
  few-there = let f = channels-few count (length (records_in u)) t.few in record { most = f.0; there = f.1 }

  first_same : take k table ≡ shown
  first_same =
      ap (λ (n : ℕ). take n table) (t.few ∙ ap (min (min count channel_limit)) (sym (held-long (records_in u))))
      ∙ take-there (min count channel_limit) table

  pub octets_are : l.octets ≡ sequence_octets (take k table)
  unfolding layout_of
  octets_are = ap (λ (m : Layout). m.octets) t.layout ∙ ap sequence_octets (sym first_same)

  groups_are : l.groups ≡ groups_size 0 (take k table)
  unfolding layout_of
  groups_are = ap (λ (m : Layout). m.groups) t.layout ∙ ap (groups_size 0) (sym first_same)

  pub told_groups : l.groups ≤ channel_limit * 64
  told_groups = omega (arith, groups_are, groups-few 0 (take k table), taken-long u few-there, few-there.most)

  module _ (sequences : ℕ) (x : List ℕ) {octets : ℕ} (eo : octets ≡ there_octets (take k table) sequences (length x)) where
    there_shown : octets ≡ there_octets shown sequences (length x)
    there_shown = eo ∙ ap (λ (cs : List Settings). there_octets cs sequences (length x)) first_same

    pub not-given : (start : ℤ) (little : Bool) (d : List ℕ) (at : ℕ) → octets_limit < octets → Putting d at (frame_given start little sequences shown x) at d
    not-given start little d at h =
        subst (λ (v : List ℕ). Putting d at v at d) (sym (given-none start little sequences shown x (rw there_shown at h))) (putting_none d at)

    module _ (h : octets ≤ octets_limit) where
      pub parts_given : {z start : ℤ} (little : Bool) → z ≡ start → frame_parts z sequences (take k table) (samples_turned little (take k table) octets x) ≡ frame_given start little sequences shown x
      parts_given {z} {start} little e =
          (λ i. frame_parts (e i) sequences (first_same i) (samples_turned little (first_same i) (there_shown i) x))
          ∙ sym (given-some start little sequences shown x (rw there_shown at h))

      pub given-long : (start : ℤ) (little : Bool) → length (frame_given start little sequences shown x) ≡ frame_size sequences l.groups octets
      given-long start little =
          ap length (given-some start little sequences shown x (rw there_shown at h))
          ∙ parts_long start little sequences shown x
          ∙ (λ i. frame_size sequences ((ap (groups_size 0) (sym first_same) ∙ sym groups_are) i) (sym there_shown i))

      pub frame-asked : (at long : ℕ) → at + frame_size sequences l.groups octets ≤ long → Asked table u k l.octets sequences octets x at long
      frame-asked at long r = ((few-there, octets_are), ((eo, h), rw (← groups_are) r))
