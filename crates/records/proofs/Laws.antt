-- Laws of records sent back to the time before the first item.
--     Clearing, clearing_more, clearing_all    the times of the first records set back, one more, and all
--     timely_outdated, table_outdated            with all times set back no record is after now, and every channel has the root settings
-- Assumes nothing.
use mathlib.Core.Path.{◌≡◌, refl, sym, ap, ◌∙◌}
use mathlib.Core.List.{List, [], ◌∷◌, map}
use mathlib.Core.Bool.{Bool, true, false}
use mathlib.Core.Logic.{◌⊎◌, inl, inr}
use Prim.Native.Nat.{ℕ, ◌+◌, ◌%◌, ◌≤◌, ◌<◌}
use native.Mathlib.Omega.{arith}
use borrow.Author.Tests.{ltb-true, ltb-false, le-leb}
use lib.Dec.{ltb}
use lib.ListN.{length, get_or, set, replicate, length-set, length-map, get_or-map}
use lib.Seq.{get_or-set_same, get_or-set_other}
use Rattle.octets.specs.Number.{low_of}
use Rattle.settings.specs.declared.Settings.{Settings}
use Rattle.dated.specs.declared.Dated.{Dated}
use Rattle.dated.specs.declared.Dates.{Dates}
use Rattle.dated.specs.Dated.{noted, zero_dated, settled_at, settled_in}
use Rattle.dated.proofs.Tables.{Until, none, more, Timely}
use Rattle.words.specs.Words.{record_words, record_numbers, time_word, record_by, words_at, record_at, records_held, records_in, Holding}
use Rattle.words.proofs.Laws.{place, same-settings, records-long, records-at, records_are}
use Rattle.records.specs.Records.{outdated}

-- ---- times set back

-- The same but for the time, which is 0.
outdated_by : (f g : ℕ → ℕ) → ((a : ℕ) → a < time_word → f a ≡ g a) → f time_word ≡ 0 → record_by f ≡ outdated (record_by g)
outdated_by f g h e = λ i. noted (low_of 4 (e i)) (same-settings f g h i)

-- The times of the first k records are 0, and all else is as it was.
pub record Clearing (u : List ℕ) (k : ℕ) (v : List ℕ) : Type 0 where
  pub long : length v ≡ length u
  pub times : (j : ℕ) → j < k → get_or v (place j + time_word) 0 ≡ 0
  pub others : (m : ℕ) → (m % record_words ≡ time_word → ⊥) ⊎ (place k ≤ m) → get_or v m 0 ≡ get_or u m 0

pub clearing_more : {u v : List ℕ} {k : ℕ} → k < records_held u → Clearing u k v → Clearing u (k + 1) (set v (place k + time_word) 0)
clearing_more {u} {v} {k} h c =
    record {
      long = length-set v (place k + time_word) 0 ∙ c.long;
      times = λ j l. by_place j l (ltb j k) refl;
      others = λ m l. get_or-set_other v (place k + time_word) m 0 0 (away m l) ∙ c.others m (further m l);
    }
  where
    by_place : (j : ℕ) → j < k + 1 → (t : Bool) → ltb j k ≡ t → get_or (set v (place k + time_word) 0) (place j + time_word) 0 ≡ 0
    by_place j l true q =
        let b = ltb-true j k q in
        get_or-set_other v (place k + time_word) (place j + time_word) 0 0 (λ p. let z : ⊥ = omega arith in z) ∙ c.times j b
    by_place j l false q =
        let b = ltb-false j k q in
        let e : j ≡ k = omega arith in
        rw e (get_or-set_same v (place k + time_word) 0 0 (omega (arith, c.long)))

    away : (m : ℕ) → (m % record_words ≡ time_word → ⊥) ⊎ (place (k + 1) ≤ m) → m ≡ place k + time_word → ⊥
    away m (inl l) q = l (omega arith)
    away m (inr l) q = omega arith

    further : (m : ℕ) → (m % record_words ≡ time_word → ⊥) ⊎ (place (k + 1) ≤ m) → (m % record_words ≡ time_word → ⊥) ⊎ (place k ≤ m)
    further m (inl l) = inl l
    further m (inr l) = inr (omega arith)

pub clearing_all : {u v : List ℕ} → Clearing u (records_held u) v → Holding u (map outdated (records_in u)) v
clearing_all {u} {v} c =
    record {
      records = records_are u v (map outdated (records_in u)) c.long (length-map (records_in u) outdated ∙ records-long u) each;
      long = c.long;
      others = λ m l. c.others m (aside m l);
    }
  where
    each : (k : ℕ) → k < records_held u → record_at v (place k) ≡ get_or (map outdated (records_in u)) k zero_dated
    each k h =
        outdated_by (words_at v (place k)) (words_at u (place k))
        (λ a l. c.others (place k + a) (inl (λ e. let z : ⊥ = omega arith in z))) (c.times k h)
        ∙ sym (get_or-map outdated (records_in u) k zero_dated ∙ ap outdated (records-at u k zero_dated h))

    aside : (m : ℕ) → (record_numbers ≤ m % record_words) ⊎ (place (records_held u) ≤ m) → (m % record_words ≡ time_word → ⊥) ⊎ (place (records_held u) ≤ m)
    aside m (inl l) = inl (λ e. let z : ⊥ = omega arith in z)
    aside m (inr l) = inr l

-- ---- what stands for the channels then

until_outdated : (n : ℕ) (xs : List Dated) → Until n (map outdated xs)
until_outdated n [] = none
until_outdated n (x ∷ xs) = more {x = outdated x} (omega arith) (until_outdated n xs)

pub timely_outdated : {b : ℕ} {d : Dates} {t : List Dated} (xs : List Dated) → Timely b d t → Timely b d (map outdated xs)
timely_outdated {d = d} xs k = record { sound = k.sound; until = until_outdated d.now xs; low = k.low }

pub table_outdated : (root : Settings) (d : Dates) (xs : List Dated) → settled_in root d (map outdated xs) ≡ replicate (length xs) root
unfolding settled_in settled_at
table_outdated root d [] = refl
table_outdated root d (x ∷ xs) =
    let first : settled_at root d (outdated x) ≡ root = rw (le-leb 0 d.cleared (omega arith)) in
    λ i. first i ∷ table_outdated root d xs i
