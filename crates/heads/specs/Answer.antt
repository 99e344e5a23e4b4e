-- The one form of an answer (document 01, "What comes back when it is no"): what is answered, or why there is no answer and the place in the file.
use Rattle.std.specs.Prelude.{List, ◌++◌, ℕ, length, drop, Result, Ok, Err}
use Rattle.heads.specs.declared.Fault.{Fault}
use Rattle.heads.specs.declared.Refusal.{Refusal}

-- An answer to a question, or a refusal: its fault and its place in the file.
pub data Answer (A : Type 0) : Type 0 where
  answered : A → Answer A
  refused_as : Fault → ℕ → Answer A

-- A refusal says its fault and its place.
abbrev pub refused_by : {A : Type 0} → Refusal → Answer A
refused_by r = refused_as r.fault r.place

-- What the result of a function says.
abbrev pub answer_of : {A : Type 0} → Result A Refusal → Answer A
answer_of (Ok x) = answered x
answer_of (Err r) = refused_by r

-- The same answer, with f of what is answered.
abbrev pub map_answer : {A B : Type 0} → (A → B) → Answer A → Answer B
map_answer f (answered a) = answered (f a)
map_answer f (refused_as fault place) = refused_as fault place

-- What is asked of an answer; a refusal stays the answer.
abbrev pub then_answer : {A B : Type 0} → Answer A → (A → Answer B) → Answer B
then_answer (answered a) f = f a
then_answer (refused_as fault place) f = refused_as fault place

-- The buffer that an answer goes to, afterwards: what is answered stands at its start, and past it the buffer keeps what it held. A refusal
-- changes nothing.
unfoldable pub left_by : {A : Type 0} → Answer (List A) → List A → List A
left_by (answered x) buffer = x ++ drop (length x) buffer
left_by (refused_as fault place) buffer = buffer
