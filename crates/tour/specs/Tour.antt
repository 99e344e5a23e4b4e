-- What reading samples of a channel answers by a walk's words.
use Rattle.std.specs.Prelude.{List, ℕ}
use Rattle.values.specs.Sample.{Said}
use Rattle.heads.specs.Answer.{Answer, map_answer, then_answer}
use Rattle.view.specs.View.{there_seen}
use Rattle.bulk.specs.Samples.{read_seen, values_seen}
use Rattle.walking.specs.Views.{view_in}

-- How many samples of a channel of the frame that the words u tell of are there.
abbrev pub walk_there : List ℕ → ℕ → Answer ℕ
walk_there u channel = map_answer there_seen (view_in u channel)

-- The bits of samples of the channel.
abbrev pub walk_read : List ℕ → List ℕ → ℕ → ℕ → ℕ → Answer (List ℕ)
walk_read s u channel first room = then_answer (view_in u channel) (λ v. read_seen s v first room)

-- Their values.
abbrev pub walk_values : List ℕ → List ℕ → ℕ → ℕ → ℕ → Answer (List Said)
walk_values s u channel first room = then_answer (view_in u channel) (λ v. values_seen s v first room)
