-- What the functions for C hand out: a refusal's number as the result, 0 where there is none, and every output set in every case. At a
-- refusal `place` is the refusal's, and every other output is 0.
use Rattle.std.specs.Prelude.{List, ℕ, ℤ, pos, replicate}
use Rattle.heads.specs.Faults.{number_of}
use Rattle.heads.specs.Answer.{Answer, answered, refused_as}
use Rattle.reader.specs.declared.Attributes.{Attributes}
use Rattle.reader.specs.Answer.{FoundSample}
use Rattle.numbers.specs.Numbers.{attribute_numbers, numbers_of, bit_pair_of}

-- The result, the place in the file, and the other outputs.
pub record Outputs (A : Type 0) : Type 0 where
  pub refusal : ℕ
  pub place : ℕ
  pub values : A

abbrev pub outputs : {A : Type 0} → ℕ → ℕ → A → Outputs A
outputs refusal place values = record { refusal = refusal; place = place; values = values }

-- An answer: 0, a place, and the values. A refusal: the number of its fault, its place, and zeros.
unfoldable pub handed_out : {A B : Type 0} → (A → ℕ) → (A → B) → B → Answer A → Outputs B
handed_out place values zeros (answered a) = outputs 0 (place a) (values a)
handed_out place values zeros (refused_as fault at) = outputs (number_of fault) at zeros

-- ---- counts

-- A count, and no place.
abbrev pub count_out : Answer ℕ → Outputs ℕ
count_out a = handed_out (λ n. 0) (λ n. n) 0 a

-- ---- attributes

pub record AttributesOut : Type 0 where
  pub numbers : List ℤ
  pub bits : List ℕ

abbrev pub attributes_values : List ℤ → List ℕ → AttributesOut
attributes_values numbers bits = record { numbers = numbers; bits = bits }

abbrev pub zero_attributes : AttributesOut
zero_attributes = attributes_values (replicate attribute_numbers (pos 0)) (replicate 2 0)

-- The attributes, and no place.
abbrev pub attributes_out : Answer Attributes → Outputs AttributesOut
attributes_out a = handed_out (λ x. 0) (λ x. attributes_values (numbers_of x) (bit_pair_of x)) zero_attributes a

-- ---- samples

pub record SampleOut : Type 0 where
  pub kind : ℕ
  pub whole : ℤ
  pub bits : ℕ

abbrev pub sample_values : ℕ → ℤ → ℕ → SampleOut
sample_values kind whole bits = record { kind = kind; whole = whole; bits = bits }

abbrev pub zero_sample : SampleOut
zero_sample = sample_values 0 (pos 0) 0

-- A sample, and its place.
abbrev pub sample_out : Answer FoundSample → Outputs SampleOut
sample_out a = handed_out (λ x. x.place) (λ x. sample_values x.value.kind x.value.whole x.bits) zero_sample a
