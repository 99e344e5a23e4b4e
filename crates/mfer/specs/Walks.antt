-- What mfer_walk_next answers, and how it leaves the words.
use Rattle.std.specs.Prelude.{◌≡◌, List, ℕ}
use Rattle.walk.specs.Says.{step_says}
use Rattle.walking.specs.Steps.{step_in, Goes}
use Rattle.outputs.specs.Outputs.{Outputs}
use Rattle.outputs.specs.Walks.{FrameOut, frame_out}

-- A call of mfer_walk_next: the file s and the words u of the walk, and then what is handed out and the words as the call leaves them.
pub record WalkNext (s u : List ℕ) (out : Outputs FrameOut) (v : List ℕ) : Type 0 where
  pub answers : out ≡ frame_out (step_says (step_in s u).step)
  pub words : Goes s u (step_in s u).step v
