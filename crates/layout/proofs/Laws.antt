-- Laws of the pass over channels: what is still to come gives the answer.
--     Passed         the loop's invariant: the sums so far and those of the channels left make the whole
--     passed_none    before the first channel
--     passed_more    one channel further
--     passed_all     after the last one
--     Summing        the same over the first records of a table
--     summing_start, summing_none, summing_more, summed_below, summed_up    before the first one, one further, between two, after the last one
--     take-few       no more records are taken than there are
--     groups-few, frame-few    groups and a frame take few octets
-- Assumes nothing.
use Rattle.std.proofs.Common.{◌≡◌, ℕ, zero, suc, ◌+◌, ◌-◌, ◌*◌, ◌%◌, ◌^◌, ◌<◌, ◌≤◌, min, Bool, true, false, ltb, List, [], ◌∷◌, length, get_or, take, drop, sym, refl, ap, ◌∙◌, add-zero, add_assoc, mod-eq_of_lt, zero-add, add-one, arith, drop_of_length-le, length-take-le, take_all, drop-cons, get_or-take, ltb-false, ltb-true}
use native.Mathlib.Decide.{dec_lt}
use lib.Seq.{take-nil}
use Rattle.octets.specs.Pick.{pick, both}
use Rattle.octets.proofs.Pick.{pick_cases}
use Rattle.stores.proofs.Length.{length-shortest}
use Rattle.sizes.specs.Size.{group_size, frame_size}
use Rattle.sizes.proofs.Laws.{null-le, channel-few, head_few}
use Rattle.values.proofs.Laws.{width_le}
use Rattle.settings.specs.declared.Settings.{Settings}
use Rattle.settings.specs.Settings.{channel_limit, zero_settings}
use Rattle.layout.specs.declared.Layout.{Layout}
use Rattle.layout.specs.Frame.{width_in, block_octets, sequence_octets, octets_below, channel_agrees, all_agree}
use Rattle.layout.specs.Measure.{groups_size, layout_of, no_layout, more_of, More}

-- A group takes at most 64 octets.
group_few : (k : ℕ) (c : Settings) → group_size k (width_in c) c.null ≤ 64
unfolding group_size
group_few k c = omega (arith, channel-few k, width_le c.datatype, null-le (width_in c) c.null)

-- Some octets of the channels left: those below `channel`, where i channels are behind.
abbrev left_below : ℕ → ℕ → List Settings → ℕ
left_below channel i rest = sequence_octets (take (channel - i) rest)

pub record Passed (channel : ℕ) (cs : List Settings) (i : ℕ) (l : Layout) : Type 0 where
  pub low : i ≤ length cs
  pub octets_room : l.octets ≤ i * 2 ^ 36
  pub below_room : l.below ≤ i * 2 ^ 36
  pub groups_room : l.groups ≤ i * 2 ^ 36
  pub agree : both l.agree (all_agree (drop i cs)) ≡ all_agree cs
  pub octets : l.octets + sequence_octets (drop i cs) ≡ sequence_octets cs
  pub below : l.below + left_below channel i (drop i cs) ≡ octets_below channel cs
  pub groups : l.groups + groups_size i (drop i cs) ≡ groups_size 0 cs

pub passed_none : (channel : ℕ) (cs : List Settings) → Passed channel cs 0 no_layout
unfolding octets_below
passed_none channel cs =
    let e : channel - 0 ≡ channel = omega arith in
    record {
      low = omega arith;
      octets_room = omega arith;
      below_room = omega arith;
      groups_room = omega arith;
      agree = refl;
      octets = zero-add (sequence_octets cs);
      below = rw e (zero-add (sequence_octets (take channel cs)));
      groups = zero-add (groups_size 0 cs);
    }

both_assoc : (a b c : Bool) → both (both a b) c ≡ both a (both b c)
both_assoc true b c = refl
both_assoc false b c = refl

below_more : (channel i x : ℕ) (c : Settings) (rest : List Settings) → pick (ltb i channel) (x + block_octets c) x + left_below channel (suc i) rest ≡ x + left_below channel i (c ∷ rest)
unfolding sequence_octets
below_more channel i x c rest =
    pick_cases (λ (t : ℕ). t + left_below channel (suc i) rest ≡ x + left_below channel i (c ∷ rest)) (ltb i channel)
    (λ h. let e : channel - i ≡ suc (channel - suc i) = omega (arith, ltb-true i channel h) in rw e (add_assoc x (block_octets c) (sequence_octets (take (channel - suc i) rest))))
    (λ h. let e : channel - i ≡ 0 = omega (arith, ltb-false i channel h) in let f : channel - suc i ≡ 0 = omega (arith, ltb-false i channel h) in rw (e, f))

-- The number of octets below a channel grows by a channel's octets at most.
below-room : (channel i x b k : ℕ) → x ≤ i * k → b < k → pick (ltb i channel) (x + b) x ≤ (i + 1) * k
below-room channel i x b k h l = pick_cases (λ (t : ℕ). t ≤ (i + 1) * k) (ltb i channel) (λ _. omega arith) (λ _. omega arith)

-- The sums of 256 channels are below 2^64, and so none of them starts again at 0.
abbrev summed : ℕ → ℕ → Settings → Layout → Layout
summed i channel c l =
    record {
      agree = both l.agree (channel_agrees c);
      octets = l.octets + block_octets c;
      below = pick (ltb i channel) (l.below + block_octets c) l.below;
      groups = l.groups + group_size i (width_in c) c.null;
    }

small-sum : (i x b : ℕ) → i < channel_limit → x ≤ i * 2 ^ 36 → b < 2 ^ 36 → (x + b) % 2 ^ 64 ≡ x + b
small-sum i x b h l k = mod-eq_of_lt (omega arith)

more_summed : (channel : ℕ) (cs : List Settings) (i : ℕ) (c : Settings) (l : Layout) → i < channel_limit → Passed channel cs i l → block_octets c < 2 ^ 36 → more_of i channel c l ≡ summed i channel c l
more_summed channel cs i c l h p bo =
    let o = small-sum i l.octets (block_octets c) h p.octets_room bo in
    let b = small-sum i l.below (block_octets c) h p.below_room bo in
    let g = small-sum i l.groups (group_size i (width_in c) c.null) h p.groups_room (omega (arith, group_few i c)) in
    λ k. record { agree = both l.agree (channel_agrees c); octets = o k; below = pick (ltb i channel) (b k) l.below; groups = g k }

pub passed_more : (channel : ℕ) (cs : List Settings) (i : ℕ) (c : Settings) (l m : Layout) → i < channel_limit → i < length cs → c ≡ get_or cs i zero_settings → Passed channel cs i l → More i channel c l m → Passed channel cs (i + 1) m
unfolding all_agree sequence_octets groups_size
passed_more channel cs i c l m low h ec p g =
    let bo = g.octets in
    let em : m ≡ summed i channel c l = g.value ∙ more_summed channel cs i c l low p bo in
    let d : drop i cs ≡ c ∷ drop (suc i) cs = drop-cons cs i zero_settings h ∙ ap (λ (x : Settings). x ∷ drop (suc i) cs) (sym ec) in
    let n : i + 1 ≡ suc i = add-one i in
    rw em
    record {
      low = omega arith;
      octets_room = omega (arith, p.octets_room);
      below_room = below-room channel i l.below (block_octets c) (2 ^ 36) p.below_room bo;
      groups_room = omega (arith, p.groups_room, group_few i c);
      agree = rw n (both_assoc l.agree (channel_agrees c) (all_agree (drop (suc i) cs)) ∙ rw d at p.agree);
      octets = rw n (add_assoc l.octets (block_octets c) (sequence_octets (drop (suc i) cs)) ∙ rw d at p.octets);
      below = rw n (below_more channel i l.below c (drop (suc i) cs) ∙ rw d at p.below);
      groups = rw n (add_assoc l.groups (group_size i (width_in c) c.null) (groups_size (suc i) (drop (suc i) cs)) ∙ rw d at p.groups);
    }

both_true : (a : Bool) → both a true ≡ a
both_true true = refl
both_true false = refl

pub passed_all : (channel : ℕ) (cs : List Settings) (i : ℕ) (l : Layout) → length cs ≤ i → Passed channel cs i l → l ≡ layout_of channel cs
unfolding layout_of all_agree sequence_octets groups_size
passed_all channel cs i l h p =
    let d : drop i cs ≡ [] = drop_of_length-le cs h in
    let a : l.agree ≡ all_agree cs = sym (both_true l.agree) ∙ rw d at p.agree in
    let o : l.octets ≡ sequence_octets cs = sym (add-zero l.octets) ∙ rw d at p.octets in
    let b : l.below ≡ octets_below channel cs = sym (add-zero l.below) ∙ rw (d, take-nil) at p.below in
    let g : l.groups ≡ groups_size 0 cs = sym (add-zero l.groups) ∙ rw d at p.groups in
    λ k. record { agree = a k; octets = o k; below = b k; groups = g k }

octets_split : (i : ℕ) (cs : List Settings) → octets_below i cs + sequence_octets (drop i cs) ≡ sequence_octets cs
unfolding octets_below sequence_octets
octets_split zero cs = zero-add (sequence_octets cs)
octets_split (suc i) [] = refl
octets_split (suc i) (c ∷ cs) =
    add_assoc (block_octets c) (octets_below i cs) (sequence_octets (drop i cs)) ∙ ap (λ (n : ℕ). block_octets c + n) (octets_split i cs)

-- The first n records of a table, i of them behind.
pub record Summing (channel : ℕ) (table : List Settings) (n i : ℕ) (l : Layout) : Type 0 where
  pub few : n ≤ channel_limit
  pub long : length (take n table) ≡ n
  pub passed : Passed channel (take n table) i l

pub summing_start : {table : List Settings} (channel : ℕ) {n : ℕ} {l : Layout} → n ≤ length table → n ≤ channel_limit → l ≡ no_layout → Summing channel table n 0 l
summing_start {table = table} channel {n = n} k h e =
    record { few = h; long = length-take-le n table k; passed = rw e (passed_none channel (take n table)) }

pub summing_none : {table : List Settings} (channel : ℕ) {n : ℕ} {l : Layout} → length table ≡ channel_limit → n ≤ channel_limit → l ≡ no_layout → Summing channel table n 0 l
summing_none channel k h e = summing_start channel (omega (arith, k, h)) h e

module _ {channel : ℕ} {table : List Settings} {n i : ℕ} {l : Layout} (p : Summing channel table n i l) where
  pub summing_more : (m : Layout) → i < n → More i channel (get_or table i zero_settings) l m → Summing channel table n (i + 1) m
  summing_more m h g =
      record {
        few = p.few;
        long = p.long;
        passed = passed_more channel (take n table) i (get_or table i zero_settings) l m (omega (arith, p.few)) (omega (arith, p.long)) (sym (get_or-take n table i zero_settings h)) p.passed g;
      }

  -- What is summed up so far is the octets below the next one.
  pub summed_below : l.octets ≡ octets_below i (take n table)
  summed_below = omega (arith, p.passed.octets, octets_split i (take n table))

  pub summed_up : (count : ℕ) → n ≡ count → n ≤ i → l ≡ layout_of channel (take count table)
  summed_up count e h = passed_all channel (take n table) i l (omega (arith, p.long)) p.passed ∙ ap (λ (k : ℕ). layout_of channel (take k table)) e

-- There are no more records than a frame may have channels.
pub take-few : (count : ℕ) (table : List Settings) → length table ≡ channel_limit → take (min count channel_limit) table ≡ take count table
take-few count table e = by (dec_lt count channel_limit)
  where
    by : Dec (count < channel_limit) → take (min count channel_limit) table ≡ take count table
    by (yes h) = let m : min count channel_limit ≡ count = omega arith in rw m
    by (no h) = let m : min count channel_limit ≡ channel_limit = omega arith in rw m (take_all channel_limit table (omega arith) ∙ sym (take_all count table (omega arith)))

pub groups-few : (k : ℕ) (cs : List Settings) → groups_size k cs ≤ length cs * 64
unfolding groups_size
groups-few k [] = omega arith
groups-few k (c ∷ cs) = omega (arith, group_few k c, groups-few (suc k) cs)

-- A frame of few channels in a file that has a limit takes few octets.
pub frame-few : (sequences groups waveform : ℕ) → groups ≤ channel_limit * 64 → waveform < 2 ^ 31 → frame_size sequences groups waveform < 2 ^ 32
unfolding frame_size
frame-few sequences groups waveform h l = omega (arith, head_few sequences, length-shortest waveform)
