-- Loops that store one run after another: the octets still to come, stored from here on, give the wanted buffer.
--     coming_first             before the first run
--     coming_put, coming-step  after one run
--     coming-room              the next run fits
--     coming_done              after the last run
--     Nth, nth, taken-long     one of the first channels whose records words hold
--     Grouped, grouped-..      the loop over a frame's groups
--     Blocks, blocks-..        the loop over the blocks of a sequence that is turned round
--     Sequences, sequences-..  the loop over the sequences of a waveform
-- Assumes nothing.
use mathlib.Core.Path.{◌≡◌, refl, sym, ap, ap₂, subst, ◌∙◌}
use mathlib.Core.List.{List, [], ◌∷◌, ◌++◌, map}
use Prim.Native.Nat.{ℕ, zero, suc, ◌+◌, ◌-◌, ◌*◌, ◌≤◌, ◌<◌}
use native.Mathlib.Omega.{arith}
use native.Mathlib.Numerals.{add-one}
use native.Mathlib.Nat.{mul-le-mul_right}
use lib.ListN.{length, get_or, take, drop, length-append, drop_of_length-le, length-drop}
use lib.Seq.{sets, drop-cons, drop-drop, get_or-take, length-take-le}
use Rattle.stores.specs.Storing.{Put, Putting, put_fits}
use Rattle.runs.specs.Turned.{turned, turned_run}
use Rattle.stores.proofs.Stores.{sets_append, put_long}
use Rattle.runs.proofs.Turned.{run_turned, length-turned}
use Rattle.values.specs.Sample.{width_of}
use Rattle.settings.specs.declared.Settings.{Settings}
use Rattle.settings.specs.Settings.{zero_settings}
use Rattle.dated.specs.Dated.{zero_dated}
use Rattle.dated.proofs.Refreshed.{held-long, held_at}
use Rattle.words.specs.Words.{records_in, held_in}
use Rattle.frames.specs.Parts.{Few}
use Rattle.layout.specs.Frame.{width_in, block_octets, sequence_octets, reported, samples_octets}
use Rattle.laid.specs.Turned.{turned_sequence, turned_all}
use Rattle.layout.specs.Measure.{groups_size}
use Rattle.groups.specs.Group.{group_octets, groups_octets}
use Rattle.groups.proofs.Sizes.{groups-long}

pub record Coming (d : List ℕ) (at : ℕ) (all : List ℕ) (next : ℕ) (rest e : List ℕ) : Type 0 where
  pub stored : sets e next rest ≡ sets d at all
  pub place : next + length rest ≡ at + length all
  pub long : length e ≡ length d

pub coming_first : (d : List ℕ) (at : ℕ) (all : List ℕ) → Coming d at all at all d
coming_first d at all = record { stored = refl; place = refl; long = refl }

pub coming_put : {d all rest e u more f : List ℕ} {at next r : ℕ} → Coming d at all next rest e → rest ≡ u ++ more → Put e next u r f → Coming d at all r more f
coming_put {d} {all} {rest} {e} {u} {more} {f} {at} {next} {r} p x q =
    let l = length-append u more in
    let m = ap length x in
    record {
      stored = rw (q.stored, q.next) (sets_append u more e next ∙ ap (sets e next) (sym x) ∙ p.stored);
      place = omega (arith, q.next, p.place);
      long = put_long q ∙ p.long;
    }

pub coming-room : (u more : List ℕ) {d all rest e : List ℕ} {at next : ℕ} → Coming d at all next rest e → rest ≡ u ++ more → at + length all ≤ length d → next + length u ≤ length e
coming-room u more p x h =
    let l = length-append u more in
    let m = ap length x in
    omega (arith, p.place, p.long)

pub coming-step : {d all rest e u more f : List ℕ} {at next r : ℕ} → Coming d at all next rest e → rest ≡ u ++ more → at + length all ≤ length d → Putting e next u r f → Coming d at all r more f
coming-step {u = u} {more = more} p x h q = coming_put p x (put_fits (coming-room u more p x h) q)

pub coming_as : {d all rest more e : List ℕ} {at next : ℕ} → rest ≡ more → Coming d at all next rest e → Coming d at all next more e
coming_as x p = rw x at p

pub coming_done : {d all rest e : List ℕ} {at next : ℕ} → rest ≡ [] → Coming d at all next rest e → Put d at all next e
coming_done x p =
    let q = coming_as x p in
    record { next = omega (arith, q.place); stored = q.stored }

-- ---- the first channels

-- Record i of the channels cs is c.
pub record Nth (cs : List Settings) (i : ℕ) (c : Settings) : Type 0 where
  pub inside : i < length cs
  pub is : c ≡ get_or cs i zero_settings

module _ (u : List ℕ) {count : ℕ} (f : Few count u) where
  pub taken-long : length (take count (held_in u)) ≡ count
  taken-long = length-take-le count (held_in u) (rw held-long f.there)

  pub nth : {i : ℕ} {c : Settings} → i < count → c ≡ (get_or (records_in u) i zero_dated).settings → Nth (take count (held_in u)) i c
  nth {i = i} h e =
      record {
        inside = omega (arith, taken-long);
        is = e ∙ sym (held_at i (records_in u) zero_dated zero_settings (omega (arith, f.there))) ∙ sym (get_or-take count (held_in u) i zero_settings h);
      }

-- ---- groups

groups-next : {cs : List Settings} {i : ℕ} {c : Settings} → Nth cs i c → groups_octets i (map reported (drop i cs)) ≡ group_octets i (reported c) ++ groups_octets (i + 1) (map reported (drop (i + 1) cs))
unfolding groups_octets
groups-next {cs} {i} n = rw (drop-cons cs i zero_settings n.inside, add-one, ← n.is)

groups_done : (cs : List Settings) (i : ℕ) → length cs ≤ i → groups_octets i (map reported (drop i cs)) ≡ []
unfolding groups_octets
groups_done cs i h = rw (drop_of_length-le cs h)

-- The groups of the channels cs, stored from `at` on in d: i of them are behind.
pub record Grouped (cs : List Settings) (d : List ℕ) (at i next : ℕ) (e : List ℕ) : Type 0 where
  pub low : i ≤ length cs
  pub room : at + length (groups_octets 0 (map reported cs)) ≤ length d
  pub coming : Coming d at (groups_octets 0 (map reported cs)) next (groups_octets i (map reported (drop i cs))) e

pub grouped_first : (cs : List Settings) (d : List ℕ) (at : ℕ) → at + groups_size 0 cs ≤ length d → Grouped cs d at 0 at d
grouped_first cs d at h =
    record { low = omega arith; room = omega (arith, groups-long 0 cs); coming = coming_first d at (groups_octets 0 (map reported cs)) }

module _ {cs : List Settings} {d e : List ℕ} {at i next : ℕ} (p : Grouped cs d at i next e) where
  pub grouped_next : {c : Settings} {r : ℕ} {f : List ℕ} → Nth cs i c → Putting e next (group_octets i (reported c)) r f → Grouped cs d at (i + 1) r f
  grouped_next n q =
      record { low = omega (arith, n.inside); room = p.room; coming = coming-step p.coming (groups-next n) p.room q }

  pub grouped_done : length cs ≤ i → Put d at (groups_octets 0 (map reported cs)) next e
  grouped_done h = coming_done (groups_done cs i h) p.coming

-- ---- a waveform that is turned round

-- One block of a sequence, and the rest of it.
sequence-next : {cs : List Settings} {i : ℕ} {c : Settings} (x : List ℕ) (place : ℕ) → Nth cs i c → turned_sequence (drop i cs) (drop place x) ≡ turned (width_in c) c.block (drop place x) ++ turned_sequence (drop (i + 1) cs) (drop (place + block_octets c) x)
unfolding turned_sequence
sequence-next {cs} {i} x place n = rw (drop-cons cs i zero_settings n.inside, add-one, ← n.is, drop-drop)

octets-next : {cs : List Settings} {i : ℕ} {c : Settings} → Nth cs i c → sequence_octets (drop i cs) ≡ block_octets c + sequence_octets (drop (i + 1) cs)
unfolding sequence_octets
octets-next {cs} {i} n = rw (drop-cons cs i zero_settings n.inside, add-one, ← n.is)

sequence_done : (cs : List Settings) (i : ℕ) (x : List ℕ) → length cs ≤ i → turned_sequence (drop i cs) x ≡ []
unfolding turned_sequence
sequence_done cs i x h = rw (drop_of_length-le cs h)

octets_done : (cs : List Settings) (i : ℕ) → length cs ≤ i → sequence_octets (drop i cs) ≡ 0
unfolding sequence_octets
octets_done cs i h = rw (drop_of_length-le cs h)

-- One sequence, and those after it.
all-next : (cs : List Settings) (n q : ℕ) (x : List ℕ) (place : ℕ) → q < n → turned_all cs (n - q) (drop place x) ≡ turned_sequence cs (drop place x) ++ turned_all cs (n - (q + 1)) (drop (place + sequence_octets cs) x)
unfolding turned_all
all-next cs n q x place h =
    let e : n - q ≡ suc (n - (q + 1)) = omega arith in
    rw (e, drop-drop)

all_done : (cs : List Settings) (n q : ℕ) (x : List ℕ) → n ≤ q → turned_all cs (n - q) x ≡ []
unfolding turned_all
all_done cs n q x h =
    let e : n - q ≡ 0 = omega arith in
    rw e

length-sequence : (cs : List Settings) (x : List ℕ) → sequence_octets cs ≤ length x → length (turned_sequence cs x) ≡ sequence_octets cs
unfolding turned_sequence sequence_octets block_octets
length-sequence [] x h = refl
length-sequence (c ∷ cs) x h =
    let l = length-drop (c.block * width_in c) x in
    let a : c.block * width_in c ≤ length x = omega arith in
    let b : sequence_octets cs ≤ length (drop (c.block * width_in c) x) = omega arith in
    length-append (turned (width_in c) c.block x) (turned_sequence cs (drop (c.block * width_in c) x))
    ∙ ap₂ ◌+◌ (length-turned (width_in c) c.block x a) (length-sequence cs (drop (c.block * width_in c) x) b)

pub length-all : (cs : List Settings) (n : ℕ) (x : List ℕ) → samples_octets cs n ≤ length x → length (turned_all cs n x) ≡ samples_octets cs n
unfolding turned_all
length-all cs zero x h = omega arith
length-all cs (suc n) x h =
    let l = length-drop (sequence_octets cs) x in
    let a : sequence_octets cs ≤ length x = omega arith in
    let b : samples_octets cs n ≤ length (drop (sequence_octets cs) x) = omega arith in
    length-append (turned_sequence cs x) (turned_all cs n (drop (sequence_octets cs) x))
    ∙ ap₂ ◌+◌ (length-sequence cs x a) (length-all cs n (drop (sequence_octets cs) x) b)
    ∙ omega arith

-- A block that is turned round, as it was asked for.
block-stored : {e f : List ℕ} {next r : ℕ} (c : Settings) (v place : ℕ) (x : List ℕ) → v ≡ width_of c.datatype → place + block_octets c ≤ length x → Putting e next (turned_run v c.block (drop place x)) r f → Putting e next (turned (width_in c) c.block (drop place x)) r f
unfolding block_octets
block-stored {e} {f} {next} {r} c v place x ev h p =
    let l = length-drop place x in
    let k : c.block * width_in c ≤ length (drop place x) = omega arith in
    subst (λ (u : List ℕ). Putting e next u r f) (ap (λ (w : ℕ). turned_run w c.block (drop place x)) ev ∙ run_turned (width_in c) c.block (drop place x) k) p

-- ---- the loops over a waveform that is turned round

-- Within a sequence that starts at `from` in the waveform x and is stored from `base` on in d: i blocks are behind.
pub record Blocks (cs : List Settings) (x : List ℕ) (from base : ℕ) (d : List ℕ) (i place next : ℕ) (e : List ℕ) : Type 0 where
  pub low : i ≤ length cs
  pub fits : from + sequence_octets cs ≤ length x
  pub room : base + length (turned_sequence cs (drop from x)) ≤ length d
  pub sum : place + sequence_octets (drop i cs) ≡ from + sequence_octets cs
  pub coming : Coming d base (turned_sequence cs (drop from x)) next (turned_sequence (drop i cs) (drop place x)) e

from_long : (cs : List Settings) (x : List ℕ) (from : ℕ) → from + sequence_octets cs ≤ length x → length (turned_sequence cs (drop from x)) ≡ sequence_octets cs
from_long cs x from h =
    let l = length-drop from x in
    let k : sequence_octets cs ≤ length (drop from x) = omega arith in
    length-sequence cs (drop from x) k

pub blocks_first : (cs : List Settings) (x : List ℕ) (from base : ℕ) (d : List ℕ) → from + sequence_octets cs ≤ length x → base + sequence_octets cs ≤ length d → Blocks cs x from base d 0 from base d
blocks_first cs x from base d h k =
    record { low = omega arith; fits = h; room = omega (arith, from_long cs x from h); sum = refl; coming = coming_first d base (turned_sequence cs (drop from x)) }

module _ {cs : List Settings} {x : List ℕ} {from base : ℕ} {d : List ℕ} {i place next : ℕ} {e : List ℕ} (p : Blocks cs x from base d i place next e) where
  blocks_fit : {c : Settings} → Nth cs i c → place + block_octets c ≤ length x
  blocks_fit n = omega (arith, p.sum, p.fits, octets-next n)

  pub blocks_sum : {c : Settings} {v : ℕ} → Nth cs i c → v ≡ width_of c.datatype → place + c.block * v ≤ length x
  unfolding block_octets
  blocks_sum n ev = rw ev (blocks_fit n)

  pub blocks_next : {c : Settings} {v r : ℕ} {f : List ℕ} → Nth cs i c → v ≡ width_of c.datatype → Putting e next (turned_run v c.block (drop place x)) r f → Blocks cs x from base d (i + 1) (place + c.block * v) r f
  unfolding block_octets
  blocks_next {c} {v} n ev q =
      let m : place + c.block * v ≡ place + block_octets c = ap (λ (w : ℕ). place + c.block * w) ev in
      rw m
      record {
        low = omega (arith, n.inside);
        fits = p.fits;
        room = p.room;
        sum = omega (arith, p.sum, octets-next n);
        coming = coming-step p.coming (sequence-next x place n) p.room (block-stored c v place x ev (blocks_fit n) q);
      }

  pub blocks_place : length cs ≤ i → place ≡ from + sequence_octets cs
  blocks_place h = omega (arith, p.sum, octets_done cs i h)

  pub blocks_done : length cs ≤ i → Put d base (turned_sequence cs (drop from x)) next e
  blocks_done h = coming_done (sequence_done cs i (drop place x) h) p.coming

-- All sequences of a waveform x, stored from `at` on in d: q of n are behind.
pub record Sequences (cs : List Settings) (n : ℕ) (x d : List ℕ) (at q place next : ℕ) (e : List ℕ) : Type 0 where
  pub low : q ≤ n
  pub fits : samples_octets cs n ≤ length x
  pub room : at + length (turned_all cs n x) ≤ length d
  pub passed : place ≡ q * sequence_octets cs
  pub coming : Coming d at (turned_all cs n x) next (turned_all cs (n - q) (drop place x)) e

pub sequences_first : (cs : List Settings) (n : ℕ) (x d : List ℕ) (at : ℕ) → samples_octets cs n ≤ length x → at + samples_octets cs n ≤ length d → Sequences cs n x d at 0 0 at d
sequences_first cs n x d at h k =
    let e : n - 0 ≡ n = omega arith in
    record { low = omega arith; fits = h; room = omega (arith, length-all cs n x h); passed = omega arith; coming = rw e (coming_first d at (turned_all cs n x)) }

module _ {cs : List Settings} {n : ℕ} {x d : List ℕ} {at q place next : ℕ} {e : List ℕ} (p : Sequences cs n x d at q place next e) where
  pub sequences-fit : q < n → place + sequence_octets cs ≤ length x
  sequences-fit h = omega (arith, p.passed, p.fits, mul-le-mul_right (sequence_octets cs) (add_one_le' h))
    where
      add_one_le' : q < n → q + 1 ≤ n
      add_one_le' l = omega arith

  pub sequences-room : q < n → next + sequence_octets cs ≤ length e
  sequences-room h = omega (arith, from_long cs x place (sequences-fit h), coming-room (turned_sequence cs (drop place x)) (turned_all cs (n - (q + 1)) (drop (place + sequence_octets cs) x)) p.coming (all-next cs n q x place h) p.room)

  pub sequences-next : (place' : ℕ) {r : ℕ} {f : List ℕ} → q < n → place' ≡ place + sequence_octets cs → Put e next (turned_sequence cs (drop place x)) r f → Sequences cs n x d at (q + 1) place' r f
  sequences-next place' {r} {f} h ep s =
      rw ep
      record {
        low = omega arith;
        fits = p.fits;
        room = p.room;
        passed = omega (arith, p.passed);
        coming = coming_put p.coming (all-next cs n q x place h) s;
      }

  pub sequences_done : n ≤ q → Put d at (turned_all cs n x) next e
  sequences_done h = coming_done (all_done cs n q (drop place x) h) p.coming
