-- What a step of a walk says in the one form of an answer.
use Rattle.std.specs.Prelude.{Result, Ok, Err, Option, Some, None}
use Rattle.heads.specs.declared.Refusal.{Refusal}
use Rattle.heads.specs.Answer.{Answer, answered, refused_as, refused_by}
use Rattle.heads.specs.declared.Fault.TheVariants.{NoFrame}
use Rattle.walk.specs.declared.Waveform.{Waveform}

-- The frame, or the refusal. At the end there is no frame more: 20.
abbrev pub step_says : Result (Option Waveform) Refusal → Answer Waveform
step_says (Ok (Some v)) = answered v
step_says (Ok None) = refused_as NoFrame 0
step_says (Err r) = refused_by r
