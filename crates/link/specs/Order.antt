-- What a frame gives out (document 02, request 3): "the settings and then, in file order and each once, the samples there, with the place and value that 01
-- gives".
use Rattle.std.specs.Prelude.{List, [], ◌∷◌, ◌++◌, ℕ, ltb, length}
use Rattle.octets.specs.Pick.{pick}
use Rattle.heads.specs.declared.Fault.TheVariants.{NoFrame, NoChannel}
use Rattle.heads.specs.Answer.{Answer, answered, refused_as}
use Rattle.layout.specs.Frame.{Frame, reported}
use Rattle.laid.specs.Laid.{laid}
use Rattle.there.specs.There.{is_there}
use Rattle.reader.specs.declared.Attributes.{Attributes}
use Rattle.reader.specs.Answer.{attributes_with, sample_in}
use Rattle.link.specs.Link.{Link, settings_in, Given}

-- A sample by channel and number, as the questions answer it; nothing where it is not there.
unfoldable pub sample_given : Frame → ℕ → ℕ → List Given
sample_given f channel n =
    pick (is_there f.channels (length f.waveform) channel n) (record { channel = channel; number = n; sample = sample_in channel n f } ∷ []) []

-- The samples there of a frame, in file order.
unfoldable pub samples_given : Frame → List Given
samples_given f = laid (sample_given f) f.channels f.sequences

-- Those of frames, one after the other.
unfoldable pub frames_given : List Frame → List Given
frames_given [] = []
frames_given (f ∷ fs) = samples_given f ++ frames_given fs

-- The attributes of a channel of the frame whose settings were given out, as the questions answer them: 20 where none is told, then 21.
unfoldable pub settings_told : Link → ℕ → Answer Attributes
settings_told l channel =
    let v = l.frame in
    pick (ltb 0 v.channels)
    (pick (ltb channel v.channels) (answered (attributes_with v.start v.channels v.sequences (reported (settings_in l channel)))) (refused_as NoChannel 0))
    (refused_as NoFrame 0)
