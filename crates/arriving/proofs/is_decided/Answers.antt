-- By the stage.
use Rattle.std.proofs.Common.{sym, ap}
use Rattle.held.specs.declared.Stage.{Stage}
use Rattle.held.specs.Words.{phase_of}
use Rattle.link.specs.Link.{is_decided}
use Rattle.arriving.proofs.is_decided.Goals as goal

pub returns-in-Head : goal.returns-in-Head
returns-in-Head c = λ p. ap (λ (s : Stage). is_decided (phase_of s p)) (sym c.in-Head.is)

pub returns-in-Value : goal.returns-in-Value
returns-in-Value c = λ p. ap (λ (s : Stage). is_decided (phase_of s p)) (sym c.in-Value.is)

pub returns-in-Waveform : goal.returns-in-Waveform
returns-in-Waveform c = λ p. ap (λ (s : Stage). is_decided (phase_of s p)) (sym c.in-Waveform.is)

pub returns-in-Waits : goal.returns-in-Waits
returns-in-Waits c = λ p. ap (λ (s : Stage). is_decided (phase_of s p)) (sym c.in-Waits.is)

pub returns-in-Decided : goal.returns-in-Decided
returns-in-Decided c = λ p. ap (λ (s : Stage). is_decided (phase_of s p)) (sym c.in-Decided.is)
