-- What a waveform gives (document 01, "Frames and samples"): sequences, start pointer, and the refusals 11 to 13. That a
-- waveform is shorter than its sequences is no refusal any more (document 02, request 2).
use Rattle.std.specs.Prelude.{Bool, not, ℕ, ◌*◌, ◌/◌, eqb, leb, ℤ, pos, negsuc, ◌+ℤ◌, Result, Ok, Err}
use Rattle.heads.specs.declared.Fault.{Fault}
use Rattle.std.specs.Int.Signed.{le_z}
use Rattle.octets.specs.Pick.{pick, both}
use Rattle.heads.specs.declared.Fault.TheVariants.{ManyFrames, SampleWidth, StartRange}
use Rattle.standing.specs.declared.Standing.{Standing}
use Rattle.standing.specs.Standing.{frames_limit, with_continued}

-- How many channels a frame has: as counted; 1 where no count stands.
unfoldable pub channels_of : ℕ → ℕ
channels_of counted = pick (eqb counted 0) 1 counted

-- Sequences: as set, else waveform length divided by G, rounded down.
unfoldable pub sequences_of : ℕ → ℕ → ℕ → ℕ
sequences_of set long octets = pick (eqb set 0) (long / octets) set

-- Signed 32 bits.
unfoldable pub pointer_fits : ℤ → Bool
pointer_fits z = both (le_z (negsuc 2147483647) z) (le_z z (pos 2147483647))

-- The pointer after a frame: its start plus root block length times its sequences.
unfoldable pub pointer_after : Standing → ℕ → ℤ
pointer_after st sequences = st.start +ℤ pos (st.root.block * sequences)

-- What a waveform of `long` octets gives after `frames` frames, where a sequence takes `octets` octets: 11, 12, 13, or a frame with its
-- sequences and what stands after it.
unfoldable pub framed_as : ℕ → Standing → Bool → ℕ → ℕ → Result (ℕ × Standing) Fault
framed_as frames st agree octets long =
    let sequences = sequences_of st.sequences long octets in
    pick (leb frames_limit frames) (Err ManyFrames)
    (pick (not agree) (Err SampleWidth)
    (pick (not (pointer_fits st.start)) (Err StartRange)
    (Ok (sequences, with_continued (pointer_after st sequences) st))))
