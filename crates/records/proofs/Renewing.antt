-- Laws of words that take over what the root has defined since.
--     overtaken_more         one word more
--     overtaken_record       the record that they are then
--     settled_behind         what stands for a record that is behind
--     renew_keeps, renew_stores    a record that is up to date, and one that is behind
--     renewed_holds          what stands for its channel
--     words-settings         the settings of a record's words
-- Assumes nothing.
use mathlib.Core.Path.{◌≡◌, refl, sym, ap, ◌∙◌}
use mathlib.Core.Bool.{Bool, true, false}
use mathlib.Core.Logic.{inr}
use mathlib.Core.List.{List}
use Prim.Native.Nat.{ℕ, ◌+◌, ◌<◌, ◌^◌}
use native.Mathlib.Omega.{arith}
use borrow.Author.Tests.{ltb-true, ltb-false, le-leb, leb-false, ne_eqb}
use lib.Dec.{ltb, leb, eqb}
use lib.ListN.{length, get_or, set, length-set}
use lib.Seq.{get_or-set_same, get_or-set_other}
use Rattle.octets.specs.Pick.{pick}
use Rattle.octets.specs.Number.{low_of}
use Rattle.settings.specs.declared.Settings.{Settings}
use Rattle.dated.specs.declared.Dated.{Dated}
use Rattle.dated.specs.declared.Dates.{Dates}
use Rattle.dated.specs.declared.Times.{Times}
use Rattle.dated.specs.Dated.{noted, zero_dated, settled_from, settled_at, up_to_date}
use Rattle.dated.proofs.Refreshed.{fresh_same}
use Rattle.words.specs.Words.{record_numbers, time_word, scale_by, bits_by, record_by, words_at, record_at, records_held, records_in, Holding}
use Rattle.records.specs.Records.{settings_by, since_by, Overtaken}
use Rattle.words.proofs.Laws.{not_last, further_out, place, same_by, records-long, records-at, holding-same, holding-at}

-- ---- word by word

-- A word stored or none.
module _ (v : List ℕ) (p x : ℕ) where
  long_if : (b : Bool) → length (pick b (set v p x) v) ≡ length v
  long_if true = length-set v p x
  long_if false = refl

  other_if : (b : Bool) (m : ℕ) → (m ≡ p → ⊥) → get_or (pick b (set v p x) v) m 0 ≡ get_or v m 0
  other_if true m ne = get_or-set_other v p m x 0 ne
  other_if false m ne = refl

  there_if : (b : Bool) → p < length v → get_or (pick b (set v p x) v) p 0 ≡ pick b x (get_or v p 0)
  there_if true h = get_or-set_same v p x 0 h
  there_if false h = refl

pub overtaken_more : {u w s v : List ℕ} {i from n : ℕ} → i + n < length u → Overtaken u i w s from n v
    → Overtaken u i w s from (n + 1) (pick (leb from (get_or s n 0)) (set v (i + n) (get_or w n 0)) v)
overtaken_more {u} {w} {s} {v} {i} {from} {n} h o =
    record {
      long = long_if v (i + n) (get_or w n 0) b ∙ o.long;
      inside = λ a l. by_place a l (ltb a n) refl;
      outside = λ m l. other_if v (i + n) (get_or w n 0) b m (not_last i n m l) ∙ o.outside m (further_out i n m l);
    }
  where
    b : Bool
    b = leb from (get_or s n 0)

    by_place : (a : ℕ) → a < n + 1 → (t : Bool) → ltb a n ≡ t → get_or (pick b (set v (i + n) (get_or w n 0)) v) (i + a) 0 ≡ pick (leb from (get_or s a 0)) (get_or w a 0) (get_or u (i + a) 0)
    by_place a l true q =
        let k = ltb-true a n q in
        other_if v (i + n) (get_or w n 0) b (i + a) (λ p. let z : ⊥ = omega arith in z) ∙ o.inside a k
    by_place a l false q =
        let k = ltb-false a n q in
        let e : a ≡ n = omega arith in
        rw e (there_if v (i + n) (get_or w n 0) b (omega (arith, o.long)) ∙ ap (pick b (get_or w n 0)) (o.outside (i + n) (inr (omega arith))))

-- ---- attribute by attribute

-- A choice of words is a choice of numbers.
module _ (f g : ℕ → ℕ) where
  number_if : (w a : ℕ) (b : Bool) → low_of w (pick b (f a) (g a)) ≡ pick b (low_of w (f a)) (low_of w (g a))
  number_if w a true = refl
  number_if w a false = refl

  scale_if : (a : ℕ) (b : Bool) → scale_by (λ k. pick b (f k) (g k)) a ≡ pick b (scale_by f a) (scale_by g a)
  scale_if a true = refl
  scale_if a false = refl

  bits_if : (a : ℕ) (b : Bool) → bits_by (λ k. pick b (f k) (g k)) a ≡ pick b (bits_by f a) (bits_by g a)
  bits_if a true = refl
  bits_if a false = refl

  pub overtaken_record : (t : Times) (from : ℕ) → from < 2 ^ 32 → record_by (λ a. pick (leb from (get_or (since_by t) a 0)) (f a) (g a)) ≡ noted (record_by f).at (settled_from (record_by f).settings t (noted from (record_by g).settings))
  overtaken_record t from h =
      λ i. noted (ap (λ (b : Bool). low_of 4 (pick b (f time_word) (g time_word))) (le-leb from 4294967295 (omega arith)) i)
      (record {
        block = number_if 4 0 (leb from t.block) i;
        class = number_if 2 1 (leb from t.class) i;
        lead = number_if 2 2 (leb from t.lead) i;
        datatype = number_if 1 3 (leb from t.datatype) i;
        interval = scale_if 4 (leb from t.interval) i;
        resolution = scale_if 7 (leb from t.resolution) i;
        offset = bits_if 10 (leb from t.offset) i;
        null = bits_if 12 (leb from t.null) i;
      })

-- Since the first time of all the root has defined everything.
from_first : (root s : Settings) (t : Times) → settled_from root t (noted 0 s) ≡ root
from_first root s t =
    let yes : (n : ℕ) → leb 0 n ≡ true = λ n. le-leb 0 n (omega arith) in
    simp (yes t.block, yes t.class, yes t.lead, yes t.datatype, yes t.interval, yes t.resolution, yes t.offset, yes t.null)

module _ (root : Settings) (d : Dates) (x : Dated) where
  pub settled_behind : (d.cleared < x.at → x.at ≡ d.now → ⊥) → settled_from root d.times (noted (pick (leb x.at d.cleared) 0 x.at) x.settings) ≡ settled_at root d x
  unfolding settled_at
  settled_behind ne = by (leb x.at d.cleared) refl
    where
      by : (b : Bool) → leb x.at d.cleared ≡ b → settled_from root d.times (noted (pick b 0 x.at) x.settings) ≡ pick b root (pick (eqb x.at d.now) x.settings (settled_from root d.times x))
      by true e = from_first root x.settings d.times
      by false e = rw (ne_eqb x.at d.now (ne (leb-false x.at d.cleared e))) refl

-- ---- one record brought up to date

module _ (u : List ℕ) (k : ℕ) (root : Settings) (d : Dates) (h : k < records_held u) {at : ℕ} (ea : at ≡ (record_at u (place k)).at) where
  pub renew_keeps : d.cleared < at → at ≡ d.now → Holding u (set (records_in u) k (up_to_date root d (get_or (records_in u) k zero_dated))) u
  renew_keeps late now =
      let ex = records-at u k zero_dated h in
      holding-same u k _ (ap (up_to_date root d) ex ∙ fresh_same root d (record_at u (place k)) (rw ea at late) (sym ea ∙ now) ∙ sym ex)

  pub renew_stores : {w s v : List ℕ} {from : ℕ} → Overtaken u (place k) w s from record_numbers v → s ≡ since_by d.times → low_of 4 (get_or w time_word 0) ≡ d.now → root ≡ settings_by w
      → from ≡ pick (leb at d.cleared) 0 at → from < 2 ^ 32 → (d.cleared < at → at ≡ d.now → ⊥)
      → Holding u (set (records_in u) k (up_to_date root d (get_or (records_in u) k zero_dated))) v
  unfolding settings_by
  renew_stores {w} {s} {v} {from} o es en er ef fits ne =
      holding-at u k _ v h o.long o.outside
      (same_by (words_at v (place k)) (λ a. pick (leb from (get_or s a 0)) (get_or w a 0) (get_or u (place k + a) 0)) o.inside
      ∙ ap (λ (z : List ℕ). record_by (λ a. pick (leb from (get_or z a 0)) (get_or w a 0) (get_or u (place k + a) 0))) es
      ∙ overtaken_record (λ a. get_or w a 0) (words_at u (place k)) d.times from fits
      ∙ (λ i. noted (en i) (settled_from (sym er i) d.times (noted (ef' i) x.settings)))
      ∙ ap (noted d.now) (settled_behind root d x (λ late now. ne (rw ea late) (ea ∙ now)))
      ∙ ap (up_to_date root d) (sym (records-at u k zero_dated h)))
    where
      x : Dated
      x = record_at u (place k)

      ef' : from ≡ pick (leb x.at d.cleared) 0 x.at
      ef' = ef ∙ ap (λ (n : ℕ). pick (leb n d.cleared) 0 n) ea

pub renewed_holds : {u v : List ℕ} {k : ℕ} (x : Dated) → k < records_held u → Holding u (set (records_in u) k x) v → (get_or (records_in v) k zero_dated).settings ≡ x.settings
renewed_holds {u} {v} {k} x h o =
    ap (λ (t : List Dated). (get_or t k zero_dated).settings) o.records
    ∙ ap (λ (y : Dated). y.settings) (get_or-set_same (records_in u) k x zero_dated (omega (arith, records-long u)))

pub words-settings : (w : List ℕ) (y : Dated) → record_by (λ a. get_or w a 0) ≡ y → settings_by w ≡ y.settings
unfolding settings_by
words-settings w y e = ap (λ (z : Dated). z.settings) e
