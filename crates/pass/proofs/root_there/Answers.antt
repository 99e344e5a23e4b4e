-- All channels have one width.
use lib.ListN.{take, replicate}
use native.Mathlib.Nat.{mod-le}
use native.Mathlib.Omega.{arith}
use Rattle.settings.specs.Settings.{channel_limit}
use Rattle.layout.specs.Frame.{width_in}
use Rattle.framing.specs.Framing.{channels_of}
use Rattle.there.proofs.Partial.{cut_some, there_even}
use Rattle.pass.proofs.Cut.{root_even, even_some, held_fits, held-there, held_cut}
use Rattle.pass.proofs.root_there.Goals as goal

pub overflow_mul-result : goal.overflow_mul-result
overflow_mul-result c =
    let a = c.args in
    omega (arith, held_fits (take (channels_of a.st.counted) (replicate channel_limit a.st.root)) a.sequences a.len c.requires c.holds.ensures c.if-holds.true)

pub returns-then-holds : goal.returns-then-holds
returns-then-holds c =
    let a = c.args in
    held-there (take (channels_of a.st.counted) (replicate channel_limit a.st.root)) a.sequences a.len c.requires c.holds.ensures c.if-holds.true

pub nonzero_rem-result : goal.nonzero_rem-result
nonzero_rem-result c =
    let a = c.args in
    let n = channels_of a.st.counted in
    let cs = take n (replicate channel_limit a.st.root) in
    let cut = held_cut cs a.sequences a.len c.requires c.holds.ensures c.if-holds.false in
    rw c.width-w.ensures (even_some (width_in a.st.root) cs (root_even n a.st.root) (cut_some cs a.sequences a.len cut))

pub overflow_sub-result : goal.overflow_sub-result
overflow_sub-result c = omega (arith, mod-le c.args.len c.width-w.result)

pub returns : goal.returns
returns c =
    let a = c.args in
    let cs = take (channels_of a.st.counted) (replicate channel_limit a.st.root) in
    let cut = held_cut cs a.sequences a.len c.requires c.holds.ensures c.if-holds.false in
    rw c.width-w.ensures (there_even (width_in a.st.root) cs a.sequences a.len (root_even (channels_of a.st.counted) a.st.root) cut)
