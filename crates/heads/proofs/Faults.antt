-- The numbers of the faults.
--     fault_back      a number is read back as its fault
--     number_one      faults with one number are one
--     number_within   a number is above 0 and fits in an octet
-- Assumes nothing.
use Prim.Native.Nat.{ℕ, ◌<◌}
use mathlib.Core.Path.{◌≡◌, refl, sym, ap, ◌∙◌}
use native.Mathlib.Omega.{arith}
use Rattle.std.specs.Prelude.{Option, Some, unwrap_or}
use Rattle.heads.specs.declared.Fault.{Fault}
use Rattle.heads.specs.Faults.{number_of, fault_of}

pub fault_back : (f : Fault) → fault_of (number_of f) ≡ Some f
fault_back Fault.ContextTag = refl
fault_back Fault.LengthOctet = refl
fault_back Fault.PastEnd = refl
fault_back Fault.LongChannel = refl
fault_back Fault.BarredTag = refl
fault_back Fault.UnfitLength = refl
fault_back Fault.UnfitValue = refl
fault_back Fault.ChannelNumber = refl
fault_back Fault.Compressed = refl
fault_back Fault.UnendedGroup = refl
fault_back Fault.ManyFrames = refl
fault_back Fault.SampleWidth = refl
fault_back Fault.StartRange = refl
fault_back Fault.ShortWaveform = refl
fault_back Fault.LongFile = refl
fault_back Fault.NoFrame = refl
fault_back Fault.NoChannel = refl
fault_back Fault.NoSample = refl
fault_back Fault.NoRoom = refl
fault_back Fault.SettingRange = refl
fault_back Fault.SamplesLength = refl

pub number_one : (f g : Fault) → number_of f ≡ number_of g → f ≡ g
number_one f g e = ap (λ (o : Option Fault). unwrap_or o f) (sym (fault_back f) ∙ ap fault_of e ∙ fault_back g)

pub number_within : (f : Fault) → (0 < number_of f) × (number_of f < 256)
number_within Fault.ContextTag = omega arith
number_within Fault.LengthOctet = omega arith
number_within Fault.PastEnd = omega arith
number_within Fault.LongChannel = omega arith
number_within Fault.BarredTag = omega arith
number_within Fault.UnfitLength = omega arith
number_within Fault.UnfitValue = omega arith
number_within Fault.ChannelNumber = omega arith
number_within Fault.Compressed = omega arith
number_within Fault.UnendedGroup = omega arith
number_within Fault.ManyFrames = omega arith
number_within Fault.SampleWidth = omega arith
number_within Fault.StartRange = omega arith
number_within Fault.ShortWaveform = omega arith
number_within Fault.LongFile = omega arith
number_within Fault.NoFrame = omega arith
number_within Fault.NoChannel = omega arith
number_within Fault.NoSample = omega arith
number_within Fault.NoRoom = omega arith
number_within Fault.SettingRange = omega arith
number_within Fault.SamplesLength = omega arith
