-- The numbers of the faults: those of document 01's table, "What comes back when it is no", and those that the requests of document 02 add to it. The words that
-- every reader of a refusal is told stand at the enum; what these lean on elsewhere stands in parentheses, and document 01's "table above" is that of attributes.
-- 23 is said of canonical files and of made frames alike.
use Rattle.std.specs.Prelude.{ℕ, Option, Some, None, eqb}
use Rattle.octets.specs.Pick.{pick}
use Rattle.heads.specs.declared.Fault.{Fault}

abbrev pub number_of : Fault → ℕ
number_of Fault.ContextTag = 1
number_of Fault.LengthOctet = 2
number_of Fault.PastEnd = 3
number_of Fault.LongChannel = 4
number_of Fault.BarredTag = 5
number_of Fault.UnfitLength = 6
number_of Fault.UnfitValue = 7
number_of Fault.ChannelNumber = 8
number_of Fault.Compressed = 9
number_of Fault.UnendedGroup = 10
number_of Fault.ManyFrames = 11
number_of Fault.SampleWidth = 12
number_of Fault.StartRange = 13
number_of Fault.ShortWaveform = 14
number_of Fault.LongFile = 15
number_of Fault.NoFrame = 20
number_of Fault.NoChannel = 21
number_of Fault.NoSample = 22
number_of Fault.NoRoom = 23
number_of Fault.SettingRange = 24
number_of Fault.SamplesLength = 25

-- The fault that has a number, if one has.
abbrev pub fault_of : ℕ → Option Fault
fault_of n =
    pick (eqb n 1) (Some Fault.ContextTag)
    (pick (eqb n 2) (Some Fault.LengthOctet)
    (pick (eqb n 3) (Some Fault.PastEnd)
    (pick (eqb n 4) (Some Fault.LongChannel)
    (pick (eqb n 5) (Some Fault.BarredTag)
    (pick (eqb n 6) (Some Fault.UnfitLength)
    (pick (eqb n 7) (Some Fault.UnfitValue)
    (pick (eqb n 8) (Some Fault.ChannelNumber)
    (pick (eqb n 9) (Some Fault.Compressed)
    (pick (eqb n 10) (Some Fault.UnendedGroup)
    (pick (eqb n 11) (Some Fault.ManyFrames)
    (pick (eqb n 12) (Some Fault.SampleWidth)
    (pick (eqb n 13) (Some Fault.StartRange)
    (pick (eqb n 14) (Some Fault.ShortWaveform)
    (pick (eqb n 15) (Some Fault.LongFile)
    (pick (eqb n 20) (Some Fault.NoFrame)
    (pick (eqb n 21) (Some Fault.NoChannel)
    (pick (eqb n 22) (Some Fault.NoSample)
    (pick (eqb n 23) (Some Fault.NoRoom)
    (pick (eqb n 24) (Some Fault.SettingRange)
    (pick (eqb n 25) (Some Fault.SamplesLength)
    None))))))))))))))))))))
