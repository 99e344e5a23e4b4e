-- What mfer_canonical and mfer_make_frame answer, and how they leave their buffers.
use Rattle.std.specs.Prelude.{◌≡◌, List, ℕ, length}
use Rattle.octets.specs.Number.{Octets}
use Rattle.heads.specs.Answer.{map_answer, left_by}
use Rattle.canonical.specs.Write.{written_of, left_of}
use Rattle.maker.specs.Make.{Making, made_in}
use Rattle.outputs.specs.Outputs.{Outputs, count_out}

-- A call of mfer_canonical: the file s and what the buffer held, and then what is handed out and the buffer as the call leaves it. A file is octets.
pub record CanonicalOut (s buffer : List ℕ) (out : Outputs ℕ) (left : List ℕ) : Type 0 where
  pub octets : Octets s
  pub answers : out ≡ count_out (written_of s buffer)
  pub leaves : left ≡ left_of s buffer

-- A call of mfer_make_frame: what went in and what the buffer held, and then what is handed out and the buffer as the call leaves it. The samples are octets.
pub record MadeOut (m : Making) (buffer : List ℕ) (out : Outputs ℕ) (left : List ℕ) : Type 0 where
  pub octets : Octets m.samples
  pub answers : out ≡ count_out (map_answer length (made_in (length buffer) m))
  pub leaves : left ≡ left_by (made_in (length buffer) m) buffer
