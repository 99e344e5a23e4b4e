-- Laws of a head and a frame kept in words.
--     lent, lent_all    the words from a place on
--     same-behind       the same words from a place on
--     keeping_none      words too few for a head
--     keeping_stored    the numbers of a head and of a frame stored
-- Assumes nothing.
use mathlib.Core.Path.{◌≡◌, refl, sym, ap, ◌∙◌}
use mathlib.Core.List.{List}
use mathlib.Core.Logic.{inl, inr}
use Prim.Native.Nat.{ℕ, ◌+◌, ◌-◌, ◌≤◌, ◌<◌}
use native.Mathlib.Omega.{arith}
use lib.Dec.{lit<}
use lib.ListN.{length, get_or, take, drop, length-drop}
use lib.Seq.{take_all, get_or-drop, get_or-set_same, ext_get_or}
use Rattle.octets.specs.Number.{low_of, twos}
use Rattle.items.specs.Walk.{cursor}
use Rattle.dated.specs.declared.Dated.{Dated}
use Rattle.dated.specs.Dated.{zero_dated}
use Rattle.words.specs.Words.{record_numbers, record_by, words_at, records_in, Overlaid}
use Rattle.words.proofs.Laws.{records-long, holding_put}
use Rattle.walk.specs.declared.Head.{Head}
use Rattle.walk.specs.declared.Waveform.{Waveform}
use Rattle.kept.specs.Words.{head_words, head_place, head_numbers, waveform_place, waveform_numbers, flag_of, within_by, head_by, root_of, told_by, Keeping}

-- ---- the words from a place on

-- They are lent to their end.
abbrev pub lent : ℕ → List ℕ → List ℕ
lent n u = take (length u - n) (drop n u)

pub lent_all : (n : ℕ) (u : List ℕ) → lent n u ≡ drop n u
lent_all n u = take_all (length u - n) (drop n u) (omega (arith, length-drop n u))

-- ---- the same numbers give the same head and the same frame

module _ {f g : ℕ → ℕ} where
  same_head : (x : Dated) → ((n : ℕ) → n < head_numbers → f n ≡ g n) → head_by x f ≡ head_by x g
  same_head x h =
      λ i. record {
        cursor = cursor (h 0 (lit< tt) i) (within_by (h 1 (lit< tt) i) (low_of 4 (h 2 (lit< tt) i)) (h 3 (lit< tt) i));
        standing = record {
          little = flag_of (h 4 (lit< tt) i);
          counted = low_of 4 (h 5 (lit< tt) i);
          sequences = low_of 4 (h 6 (lit< tt) i);
          start = twos 8 (h 7 (lit< tt) i);
          continued = twos 8 (h 8 (lit< tt) i);
          root = x.settings;
        };
        dates = record {
          times = record {
            block = low_of 4 (h 9 (lit< tt) i);
            class = low_of 4 (h 10 (lit< tt) i);
            lead = low_of 4 (h 11 (lit< tt) i);
            datatype = low_of 4 (h 12 (lit< tt) i);
            interval = low_of 4 (h 13 (lit< tt) i);
            resolution = low_of 4 (h 14 (lit< tt) i);
            offset = low_of 4 (h 15 (lit< tt) i);
            null = low_of 4 (h 16 (lit< tt) i);
          };
          cleared = low_of 4 (h 17 (lit< tt) i);
          now = x.at;
        };
        items = h 18 (lit< tt) i;
        frames = low_of 4 (h 19 (lit< tt) i);
      }

  same_told : ((n : ℕ) → n < waveform_numbers → f n ≡ g n) → told_by f ≡ told_by g
  same_told h =
      λ i. record {
        start = twos 8 (h 0 (lit< tt) i);
        channels = low_of 4 (h 1 (lit< tt) i);
        sequences = low_of 4 (h 2 (lit< tt) i);
        little = flag_of (h 3 (lit< tt) i);
        place = h 4 (lit< tt) i;
        len = h 5 (lit< tt) i;
        octets = h 6 (lit< tt) i;
      }

-- Words that are as many, and the same from a place on.
pub same-behind : (u v : List ℕ) (k : ℕ) → length v ≡ length u → ((n : ℕ) → k ≤ n → get_or v n 0 ≡ get_or u n 0) → drop k v ≡ drop k u
same-behind u v k l h =
    ext_get_or 0 (drop k v) (drop k u) (length-drop k v ∙ omega (arith, l, length-drop k u)) (λ n b. get_or-drop k v n 0 ∙ h (k + n) (omega arith) ∙ sym (get_or-drop k u n 0))

-- ---- what is stored

-- Nothing is stored in words that are too few.
pub keeping_none : (u : List ℕ) (h : Head) (x : Waveform) → length u < head_words → Keeping u h x u
keeping_none u h x l =
    record {
      long = refl;
      rest = refl;
      head = λ m. let z : ⊥ = omega arith in absurd z;
      waveform = λ m. let z : ⊥ = omega arith in absurd z;
      few = λ m. refl;
    }

-- The numbers of the head, those of the frame, and the head's record.
module _ {u v w t numbers frame root : List ℕ} (room : head_words ≤ length u) (o : Overlaid u head_place numbers head_numbers v)
    (p : Overlaid v waveform_place frame waveform_numbers w) (q : Overlaid w 0 root record_numbers t) where
  all-long : length t ≡ length u
  all-long = q.long ∙ p.long ∙ o.long

  numbers_stay : (n : ℕ) → n < head_numbers → words_at t head_place n ≡ get_or numbers n 0
  numbers_stay n l = q.outside (head_place + n) (inr (omega arith)) ∙ p.outside (head_place + n) (inl (omega arith)) ∙ o.inside n l

  frame-stays : (n : ℕ) → n < waveform_numbers → words_at t waveform_place n ≡ get_or frame n 0
  frame-stays n l = q.outside (waveform_place + n) (inr (omega arith)) ∙ p.inside n l

  others_stay : (n : ℕ) → head_words ≤ n → get_or t n 0 ≡ get_or u n 0
  others_stay n l = q.outside n (inr (omega arith)) ∙ p.outside n (inr (omega arith)) ∙ o.outside n (inr (omega arith))

  record_stored : {y : Dated} → record_by (λ n. get_or root n 0) ≡ y → get_or (records_in t) 0 zero_dated ≡ y
  record_stored {y} e =
      ap (λ (xs : List Dated). get_or xs 0 zero_dated) (holding_put w 0 y (omega (arith, o.long, p.long)) q e).records
      ∙ get_or-set_same (records_in w) 0 y zero_dated (omega (arith, records-long w, o.long, p.long))

  pub keeping_stored : {h : Head} {x : Waveform} → head_by (root_of h) (λ n. get_or numbers n 0) ≡ h → told_by (λ n. get_or frame n 0) ≡ x → record_by (λ n. get_or root n 0) ≡ root_of h → Keeping u h x t
  keeping_stored {h} a b e =
      record {
        long = all-long;
        rest = same-behind u t head_words all-long others_stay;
        head = λ l. ap (λ (y : Dated). head_by y (words_at t head_place)) (record_stored e) ∙ same_head (root_of h) numbers_stay ∙ a;
        waveform = λ l. same_told frame-stays ∙ b;
        few = λ l. let z : ⊥ = omega arith in absurd z;
      }
