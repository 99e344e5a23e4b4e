-- The octets of the samples there, as a pass finds them.
--     root_even, even_some    channels that all hold the root settings have one width, above 0
--     held_fits, held-there, held_cut, held_small    sequences that the waveform holds, or does not
--     settled-cutting, settled_last, settled_block, settled_past    the loop that looks for the channel whose block is cut off
-- Assumes nothing.
use mathlib.Core.Path.{◌≡◌, sym, ap, ◌∙◌}
use mathlib.Core.List.{List}
use mathlib.Core.Bool.{Bool, true, false}
use Prim.Native.Nat.{ℕ, ◌+◌, ◌-◌, ◌*◌, ◌%◌, ◌≤◌, ◌<◌, ◌^◌}
use native.Mathlib.Nat.{min-le_left, min-le_right}
use native.Mathlib.Omega.{arith}
use borrow.Author.Tests.{leb-true, leb-false}
use lib.Dec.{leb}
use lib.ListN.{length, get_or, take, replicate, length-take, length-replicate, get_or-replicate}
use lib.Seq.{get_or-take, length-take-le}
use Rattle.settings.specs.declared.Settings.{Settings}
use Rattle.settings.specs.Settings.{channel_limit, zero_settings}
use Rattle.dated.specs.declared.Dated.{Dated}
use Rattle.dated.specs.declared.Dates.{Dates}
use Rattle.dated.specs.Dated.{zero_dated, settled_at, settled_in}
use Rattle.dated.proofs.Tables.{table_long, table_at}
use Rattle.layout.specs.Frame.{width_in, block_octets, sequence_octets}
use Rattle.layout.proofs.Rows.{cells_some}
use Rattle.laid.specs.Turned.{sequence_samples, Even}
use Rattle.laid.proofs.Turned.{octets_even}
use Rattle.standing.specs.Standing.{octets_limit}
use Rattle.there.specs.There.{there_octets, partial_octets}
use Rattle.there.proofs.Places.{there-whole}
use Rattle.there.proofs.Partial.{Cutting, cutting_block, cutting_end, cutting_past}

pub root_even : (n : ℕ) (root : Settings) → Even (width_in root) (take n (replicate channel_limit root))
root_even n root i h =
    let long = length-take n (replicate channel_limit root) in
    let low : i < n = omega (arith, min-le_left n (length (replicate channel_limit root))) in
    let few : i < channel_limit = omega (arith, min-le_right n (length (replicate channel_limit root)), length-replicate channel_limit root) in
    ap width_in (get_or-take n (replicate channel_limit root) i zero_settings low ∙ get_or-replicate channel_limit i root zero_settings few)

-- Where sequences have octets, so have samples of one width.
pub even_some : (w : ℕ) (cs : List Settings) → Even w cs → 0 < sequence_octets cs → 0 < w
even_some w cs f h = cells_some (sequence_samples cs) w 0 (rw (octets_even w cs f) at h)

-- The test whether the waveform holds the sequences.
module _ (cs : List Settings) (S long : ℕ) {G : ℕ} (e : G ≡ sequence_octets cs) {t : _} (h : t ≡ leb (S * G) long) where
  pub held_fits : t ≡ true → S * G ≤ long
  held_fits k = leb-true (S * G) long (sym h ∙ k)

  pub held-there : t ≡ true → S * G ≡ there_octets cs S long
  held-there k = rw e (sym (there-whole cs S long (rw e at (held_fits k))))

  pub held_cut : t ≡ false → long < S * sequence_octets cs
  held_cut k = rw e at (leb-false (S * G) long (sym h ∙ k))

-- Sequences that a waveform of a file holds fit 64 bits.
pub held_small : (S G long : ℕ) {t : Bool} → t ≡ leb (S * G) long → t ≡ true → long ≤ octets_limit → S * G < 2 ^ 64
held_small S G long h k l = omega (arith, leb-true (S * G) long (sym h ∙ k))

-- The channels of a frame, as records say them.
module _ (root : Settings) (dates : Dates) (table : List Dated) (full : length table ≡ channel_limit) (n : ℕ) (few : n ≤ channel_limit) where
  abbrev cs : List Settings
  cs = take n (settled_in root dates table)

  counts : length cs ≡ n
  counts = length-take-le n (settled_in root dates table) (omega (arith, table_long root dates table))

  at : (i : ℕ) → i < n → get_or cs i zero_settings ≡ settled_at root dates (get_or table i zero_dated)
  at i h = get_or-take n (settled_in root dates table) i zero_settings h ∙ table_at root dates i table zero_dated zero_settings (omega arith)

  -- A channel whose block ends in what is left, or does not.
  module _ (x i left : ℕ) {c : Settings} {block : ℕ} (k : Cutting cs x i left) (h : i < n) (ec : c ≡ settled_at root dates (get_or table i zero_dated)) (eb : block ≡ block_octets c) where
    this : get_or cs i zero_settings ≡ c
    this = at i h ∙ sym ec

    block-is : block ≡ block_octets (get_or cs i zero_settings)
    block-is = eb ∙ ap block_octets (sym this)

    pub settled_block : block ≤ left → Cutting cs x (i + 1) (left - block)
    settled_block l = rw block-is (cutting_block cs x zero_settings i left k (omega (arith, counts)) (rw block-is at l))

    pub settled_last : left < block → left % width_in c ≡ partial_octets cs x
    settled_last l = ap (λ (y : Settings). left % width_in y) (sym this) ∙ cutting_end cs x zero_settings i left k (omega (arith, counts)) (rw block-is at l)

  pub settled_past : (x i left : ℕ) → Cutting cs x i left → n ≤ i → left ≡ partial_octets cs x
  settled_past x i left k h = cutting_past cs x i left k (omega (arith, counts))
