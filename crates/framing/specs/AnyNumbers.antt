-- What `frame_of` answers for any numbers at all. None of it is a rule of document 01: it makes the function total.
use Rattle.std.specs.Prelude.{Bool, ℕ, eqb, ltb, Result, Err}
use Rattle.heads.specs.declared.Fault.{Fault}
use Rattle.octets.specs.Pick.{pick}
use Rattle.heads.specs.declared.Fault.TheVariants.{LongFile}
use Rattle.settings.specs.Settings.{block_limit}
use Rattle.standing.specs.declared.Standing.{Standing}
use Rattle.standing.specs.Standing.{octets_limit}
use Rattle.framing.specs.Framing.{framed_as}

-- 15 for a sequence of no octets, for a waveform longer than a file may be, and for a root block length above its limit, which no file has: block lengths and
-- widths are at least 1, 15 comes first, and 7 refuses such a block length. Of all that a file has it says what `framed_as` says (`framed_same`).
unfoldable pub framed_by : ℕ → Standing → Bool → ℕ → ℕ → Result (ℕ × Standing) Fault
framed_by frames st agree octets long =
    pick (eqb octets 0) (Err LongFile)
    (pick (ltb octets_limit long) (Err LongFile)
    (pick (ltb block_limit st.root.block) (Err LongFile)
    (framed_as frames st agree octets long)))
