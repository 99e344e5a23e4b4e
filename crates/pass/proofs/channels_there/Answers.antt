-- Channel by channel, until the one whose block is cut off.
use mathlib.Core.Path.{◌≡◌, sym, ◌∙◌, ap}
use mathlib.Core.List.{List}
use Prim.Native.Nat.{ℕ, ◌-◌, ◌*◌, ◌%◌, ◌≤◌, ◌<◌}
use native.Mathlib.Nat.{mod-le, mul-le-mul}
use native.Mathlib.Omega.{arith}
use lib.ListN.{length, take}
use Rattle.values.proofs.Laws.{width_le}
use Rattle.settings.specs.declared.Settings.{Settings}
use Rattle.settings.specs.Settings.{channel_limit}
use Rattle.dated.specs.Dated.{settled_in}
use Rattle.values.specs.Sample.{width_of}
use Rattle.layout.specs.Frame.{block_octets, sequence_octets}
use Rattle.there.specs.There.{there_octets, partial_octets}
use Rattle.layout.proofs.Rows.{cells_some}
use Rattle.there.proofs.Partial.{there_cut, cut_some, cutting_first}
use Rattle.pass.proofs.Cut.{settled_block, settled_last, settled_past}
use borrow.Author.Rules.{rules}
use Rattle.pass.proofs.channels_there.Goals as goal

-- ---- what is known at the places on the way

-- The block of a channel.
block_of : (s : Settings) (w : ℕ) → w ≡ width_of s.datatype → s.block * w ≡ block_octets s
unfolding block_octets
block_of s w e = ap (λ (v : ℕ). s.block * v) e

-- ---- the needs

pub nonzero_rem-left : goal.nonzero_rem-left
nonzero_rem-left c =
    let channels : List Settings =
    take c.args.n (settled_in c.args.root c.args.dates c.args.table) in
    let cut : c.args.len < c.args.sequences * sequence_octets (channels) =
    rw c.requires.n_le_channel_limit.1 at c.requires.len_bound in
    rw c.requires.n_le_channel_limit.1 (cut_some (channels) c.args.sequences c.args.len (cut))

pub loop-i-init : goal.loop-i-init
loop-i-init c = cutting_first _ _

pub offset_bounds-table-i : goal.offset_bounds-table-i
offset_bounds-table-i c = omega (arith, c.requires.n_le_channel_limit.0)

pub bounds-table-i : goal.bounds-table-i
bounds-table-i c = omega (arith, c.requires.n_le_channel_limit.0)

pub overflow_mul-block : goal.overflow_mul-block
overflow_mul-block c =
    let p : c.settle-c.result.block ≤ 4294967295 = omega arith in
    let q : c.width-w.result ≤ 8 = omega (arith, c.width-w.ensures, width_le c.settle-c.result.datatype) in
    omega (arith, mul-le-mul p q)

pub nonzero_rem-result : goal.nonzero_rem-result
nonzero_rem-result c = cells_some c.settle-c.result.block c.width-w.result c.loop-i.left c.if-left-block.true

pub overflow_sub-result : goal.overflow_sub-result
overflow_sub-result c = omega (arith, mod-le c.loop-i.left c.width-w.result, c.loop-i.invariant.small, mod-le c.args.len c.args.octets)

pub returns-then-left-block : goal.returns-then-left-block
returns-then-left-block c =
    let channels : List Settings =
    take c.args.n (settled_in c.args.root c.args.dates c.args.table) in
    let cut : c.args.len < c.args.sequences * sequence_octets (channels) =
    rw c.requires.n_le_channel_limit.1 at c.requires.len_bound in
    let full : length c.args.table ≡ channel_limit =
    search rules in
    let answer : (left : ℕ) → left ≡ partial_octets (channels) (c.args.len % c.args.octets)
    → c.args.len - left ≡ there_octets (channels) c.args.sequences c.args.len =
    λ left e. let a = c.args in
    sym (there_cut (channels) a.sequences a.len (cut) ∙ ap (λ (t : ℕ). a.len - t) (sym (rw c.requires.n_le_channel_limit.1 at e))) in
    let a = c.args in
    let left = settled_last a.root a.dates a.table (full) a.n c.requires.n_le_channel_limit.0 _ c.loop-i.i c.loop-i.left c.loop-i.invariant c.loop-i-test.true c.settle-c.ensures (block_of _ _ c.width-w.ensures) c.if-left-block.true in
    answer _ (rw c.width-w.ensures left)

pub overflow_add-i : goal.overflow_add-i
overflow_add-i c = omega (arith, c.requires.n_le_channel_limit.0, c.loop-i-test.true)

pub loop-i-smaller : goal.loop-i-smaller
loop-i-smaller c = omega arith

pub loop-i-preserved : goal.loop-i-preserved
loop-i-preserved c =
    let full : length c.args.table ≡ channel_limit =
    search rules in
    let a = c.args in
    settled_block a.root a.dates a.table (full) a.n c.requires.n_le_channel_limit.0 _ c.loop-i.i c.loop-i.left c.loop-i.invariant c.loop-i-test.true c.settle-c.ensures (block_of _ _ c.width-w.ensures) c.if-left-block.false

pub overflow_sub-result-2 : goal.overflow_sub-result-2
overflow_sub-result-2 c = omega (arith, c.loop-i.invariant.small, mod-le c.args.len c.args.octets)

pub returns : goal.returns
returns c =
    let channels : List Settings =
    take c.args.n (settled_in c.args.root c.args.dates c.args.table) in
    let cut : c.args.len < c.args.sequences * sequence_octets (channels) =
    rw c.requires.n_le_channel_limit.1 at c.requires.len_bound in
    let full : length c.args.table ≡ channel_limit =
    search rules in
    let answer : (left : ℕ) → left ≡ partial_octets (channels) (c.args.len % c.args.octets)
    → c.args.len - left ≡ there_octets (channels) c.args.sequences c.args.len =
    λ left e. let a = c.args in
    sym (there_cut (channels) a.sequences a.len (cut) ∙ ap (λ (t : ℕ). a.len - t) (sym (rw c.requires.n_le_channel_limit.1 at e))) in
    let a = c.args in
    answer _ (settled_past a.root a.dates a.table (full) a.n c.requires.n_le_channel_limit.0 _ c.loop-i.i c.loop-i.left c.loop-i.invariant c.loop-i-test.false)
