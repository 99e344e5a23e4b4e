-- Its parts are small.
use native.Mathlib.Omega.{arith}
use Rattle.stores.proofs.Length.{length-shortest}
use Rattle.sizes.specs.Size.{frame_size}
use Rattle.sizes.proofs.Laws.{head_few}
use Rattle.sizes.proofs.frame_size.Goals as goal

pub overflow_add-result : goal.overflow_add-result
overflow_add-result c =
    omega (arith, c.head_size-head.ensures, head_few c.args.sequences)

pub overflow_add-result-2 : goal.overflow_add-result-2
overflow_add-result-2 c =
    omega (arith, c.length_octets-length.ensures, length-shortest c.args.waveform)

pub overflow_add-result-3 : goal.overflow_add-result-3
overflow_add-result-3 c =
    omega (arith, c.length_octets-length.ensures, length-shortest c.args.waveform)

pub overflow_add-result-4 : goal.overflow_add-result-4
overflow_add-result-4 c =
    let few = head_few c.args.sequences in
    let short = length-shortest c.args.waveform in
    omega (arith, c.head_size-head.ensures, c.length_octets-length.ensures)

pub returns : goal.returns
unfolding frame_size
returns c =
    let few = head_few c.args.sequences in
    let short = length-shortest c.args.waveform in
    (simp (c.head_size-head.ensures, c.length_octets-length.ensures), omega (arith, c.head_size-head.ensures, c.length_octets-length.ensures))
