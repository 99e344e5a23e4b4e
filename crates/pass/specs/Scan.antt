-- What one pass over a file answers (document 01, "Frames and samples" and "The canonical file"): the verdict in short, the frame that is asked
-- for, and the size of the canonical file.
use Rattle.view.specs.declared.View.{View}
use Rattle.std.specs.Prelude.{List, [], ◌∷◌, false, ℕ, ◌+◌, ltb, pos, length, get_or, Ok, Err, Option, Some, None}
use Rattle.octets.specs.Pick.{pick}
use Rattle.heads.specs.declared.Refusal.{Refusal}
use Rattle.layout.specs.Frame.{Frame}
use Rattle.there.specs.There.{octets_there}
use Rattle.sizes.specs.Size.{frame_size}
use Rattle.layout.specs.Measure.{groups_size}
use Rattle.pass.specs.declared.Asked.{Asked}
use Rattle.pass.specs.declared.Scan.{Scan}
use Rattle.verdict.specs.Verdict.{Verdict, accepted, refused, verdict}
use Rattle.view.specs.View.{view_of}

-- What is read past the last frame; no answer depends on it.
abbrev pub zero_frame : Frame
zero_frame = record { start = pos 0; place = 0; little = false; sequences = 0; channels = []; waveform = [] }

-- The frame that is asked for, where there is one.
unfoldable pub found_in : Asked → List Frame → Option View
found_in q fs = pick (ltb q.frame (length fs)) (Some (view_of q.channel (get_or fs q.frame zero_frame))) None

-- How many octets a frame takes in the canonical file.
unfoldable pub size_of : Frame → ℕ
size_of f = frame_size f.sequences (groups_size 0 f.channels) (octets_there f)

-- How many octets frames take there, without the file's first three.
unfoldable pub sizes : List Frame → ℕ
sizes [] = 0
sizes (f ∷ fs) = size_of f + sizes fs

-- A refused file has no frame.
abbrev pub refused_scan : Refusal → Scan
refused_scan r = record { checked = Err r; found = None; size = 0 }

-- What one pass over a file answers: the verdict's number of frames or refusal, the frame that is asked for, and the canonical frames' octets.
unfoldable pub scanned_in : Asked → Verdict → Scan
scanned_in q (accepted fs) = record { checked = Ok (length fs); found = found_in q fs; size = sizes fs }
scanned_in q (refused r) = refused_scan r

-- The same for a file.
unfoldable pub scan_of : Asked → List ℕ → Scan
scan_of q s = scanned_in q (verdict s)
